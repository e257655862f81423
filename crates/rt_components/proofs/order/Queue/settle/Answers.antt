use Rattle.std.proofs.Common.{◌≡◌, ℕ, Bool, ◌<◌, ◌≤◌, List, [], ◌∷◌, ◌++◌, length, slice_index, get_or, Contains, sym, ap, subst, ◌∙◌, arith}
use Rattle.std.proofs.lemmas.List.{get_or_read}
use Rattle.std.proofs.lemmas.List.Elements.{Contains-get_or}
use Rattle.std.specs.BTreeSet.{insert_key}
use Rattle.std.specs.Ordering.{nat_cmp}
use Rattle.rt_components.specs.declared.order.Queue.{Queue}
use Rattle.rt_components.specs.Groups.{group_at}
use Rattle.rt_components.specs.Inside.Orders.{least_of, HasCome, IsToCome, MaySettle}
use Rattle.rt_components.proofs.Settling.{waits, readies}
use Rattle.rt_components.proofs.Keys.{inserted_cases, inserted_old, inserted_new}
use Rattle.rt_components.proofs.order.Queue.settle.Goals as goal

-- what a class leads to is a class
below : (others members : List (List ℕ)) (q : Queue) (k : ℕ) → MaySettle others members q k → (nodes : List ℕ) → nodes ≡ group_at others k → (i d : ℕ) → i < length nodes → get_or nodes i d < length others
below others members q k may nodes is i d less =
    let down : get_or nodes i d < k = may.down (get_or nodes i d) (subst (λ xs. Contains xs (get_or nodes i d)) is (Contains-get_or nodes i d less)) in
    let within : k < length others = may.within in
    omega arith

pub first_left-next-requires : goal.first_left-next-requires
first_left-next-requires c = λ i d less.
    let q = c.args.self.now in
    let others = c.args.successors.now in
    let nodes : c.items-others.result.now ≡ group_at others c.args.class = c.items-others.ensures ∙ get_or_read others c.args.class c.index-successors-class.result c.requires.within c.index-successors-class.is [] in
    let low = below others c.args.members.now q c.args.class c.requires c.items-others.result.now nodes i d less in
    let each : length q.come.items ≡ length others = c.requires.queue.come_each in
    let come : length c.deref.result.now ≡ length q.come.items = ap length c.deref.ensures.value in
    omega arith

pub index_mut-requires-then-next-others : goal.index_mut-requires-then-next-others
index_mut-requires-then-next-others c =
    let q = c.args.self.now in
    let others = c.args.successors.now in
    let nodes : c.items-others.result.now ≡ group_at others c.args.class = c.items-others.ensures ∙ get_or_read others c.args.class c.index-successors-class.result c.requires.within c.index-successors-class.is [] in
    let low = below others c.args.members.now q c.args.class c.requires c.items-others.result.now nodes c.first_left-next.result 0 c.if-next-others.true in
    let each : length q.waiting.items ≡ length others = c.requires.queue.waiting_each in
    let len : q.waiting.len ≡ length q.waiting.items = q.waiting.ok.0 in
    omega arith

-- what was found to have come
found : (others : List (List ℕ)) (k : ℕ) (passed : List ℕ) (come known : List Bool) (nodes : List ℕ) (from next : ℕ) → nodes ≡ group_at others k → from ≡ get_or passed k from → k < length passed → known ≡ come →
    ((e : ℕ) → from ≤ e → e < next → e < length nodes → HasCome known (slice_index nodes e)) → (e : ℕ) → slice_index passed k ≤ e → e < next → e < length (group_at others k) → HasCome come (slice_index (group_at others k) e)
found others k passed come known nodes from next is read less same on e le low in' =
    subst (λ b. HasCome b (slice_index (group_at others k) e)) same (subst (λ xs. HasCome known (slice_index xs e)) is
    (on e (subst (λ n. n ≤ e) (sym (get_or_read passed k from less read 0)) le) low (subst (λ xs. e < length xs) (sym is) in')))

pub returns-in_ok-push-clause-queue : goal.returns-in_ok-push-clause-queue
returns-in_ok-push-clause-queue c = λ rest was.
    let q = c.args.self.now in
    let others = c.args.successors.now in
    let members = c.args.members.now in
    let k = c.args.class in
    let next = c.first_left-next.result in
    let h = slice_index c.items-others.result.now next in
    let nodes : c.items-others.result.now ≡ group_at others k = c.items-others.ensures ∙ get_or_read others k c.index-successors-class.result c.requires.within c.index-successors-class.is [] in
    let less : k < length q.passed.items = subst (λ n. k < n) (sym was.passed_each) c.requires.within in
    let low : h < length q.waiting.items = subst (λ n. h < n) (sym was.waiting_each) (below others members q k c.requires c.items-others.result.now nodes next 0 c.if-next-others.true) in
    waits others members q.come.items q.order.items q.passed.items q.waiting.items q.ready.keys rest k was next
    (found others k q.passed.items q.come.items c.deref.result.now c.items-others.result.now c.index.result.now next nodes c.index.ensures less c.deref.ensures.value c.first_left-next.ensures.come)
    (subst (λ xs. next < length xs) nodes c.if-next-others.true) h (ap (λ xs. slice_index xs next) (sym nodes)) (subst (λ b. IsToCome b h) c.deref.ensures.value (c.first_left-next.ensures.left c.if-next-others.true))
    c.push.new.self low (c.in_ok-push.ensures.ok ∙ ap (λ xs. xs ++ k ∷ []) (get_or_read q.waiting.items h c.index_mut-then-next-others.result.now low c.index_mut-then-next-others.ensures.value []))

pub returns-in_ok-insert-clause-queue : goal.returns-in_ok-insert-clause-queue
returns-in_ok-insert-clause-queue c = λ rest was.
    let q = c.args.self.now in
    let others = c.args.successors.now in
    let members = c.args.members.now in
    let k = c.args.class in
    let next = c.first_left-next.result in
    let nodes : c.items-others.result.now ≡ group_at others k = c.items-others.ensures ∙ get_or_read others k c.index-successors-class.result c.requires.within c.index-successors-class.is [] in
    let less : k < length q.passed.items = subst (λ n. k < n) (sym was.passed_each) c.requires.within in
    let within : k < length members = subst (λ n. k < n) (sym c.requires.each) c.requires.within in
    let mine : c.items.result.now ≡ group_at members k = c.items.ensures ∙ get_or_read members k c.index-members-class.result within c.index-members-class.is [] in
    let keys : c.insert.new.self.keys ≡ insert_key nat_cmp q.ready.keys (least_of members k) = c.in_ok-insert.ensures.keys ∙ ap (λ xs. insert_key nat_cmp q.ready.keys (get_or xs 0 0)) mine in
    readies others members q.come.items q.order.items q.passed.items q.waiting.items q.ready.keys rest k was next
    (found others k q.passed.items q.come.items c.deref.result.now c.items-others.result.now c.index.result.now next nodes c.index.ensures less c.deref.ensures.value c.first_left-next.ensures.come)
    (subst (λ xs. length xs ≤ next) nodes c.if-next-others.false) c.insert.new.self.keys
    (λ a d. inserted_cases q.ready.keys (least_of members k) a (subst (λ xs. Contains xs a) keys d))
    (λ a d. subst (λ xs. Contains xs a) (sym keys) (inserted_old q.ready.keys (least_of members k) a d))
    (subst (λ xs. Contains xs (least_of members k)) (sym keys) (inserted_new q.ready.keys (least_of members k)))
