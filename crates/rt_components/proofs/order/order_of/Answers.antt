use Rattle.std.proofs.Common.{◌≡◌, ℕ, ◌<◌, ◌≤◌, ◌⊎◌, ◌↔◌, inl, inr, IsSome, None, refl, List, [], ◌∷◌, All, Contains, length, slice_index, slice_index_or, sym, subst, ◌∙◌, arith}
use Rattle.std.proofs.lemmas.List.{get_or_default, get_or_read, nil_from_length}
use Rattle.std.specs.Ordering.{nat_cmp}
use Rattle.std.specs.declared.cmp.Ordering.TheVariants.{Less}
use Rattle.std.proofs.lemmas.Bool.{cases_lt, false≢true}
use Rattle.std.proofs.lemmas.List.Elements.{All-contains}
use Rattle.rt_components.specs.Inside.Orders.{least_of, HaveCome, IsQueueOf}
use Rattle.rt_components.proofs.Ending.{is_member, is_free, is_least, opened, all_in_order}
use Rattle.rt_components.proofs.order.order_of.Goals as goal
use Rattle.rt_base.proofs.Numbers.{nat_cmp-less}

contains_all : (all : List ℕ) (count : ℕ) → length all ≡ count → ((k : ℕ) → k < count → slice_index all k ≡ k) → (k : ℕ) → k < count → Contains all k
contains_all all count each same k less = let within : k < length all = omega arith in (k, within, get_or_default all k k 0 within ∙ same k less)

all_within : (all : List ℕ) (count : ℕ) → length all ≡ count → ((k : ℕ) → k < count → slice_index all k ≡ k) → All (λ k. k < count) all
all_within all count each same = λ k d less. let at : slice_index_or all k d ≡ k = get_or_default all k d 0 less ∙ same k (omega arith) in omega arith

pub settle_all-requires-clause-queue : goal.settle_all-requires-clause-queue
settle_all-requires-clause-queue c =
    let count = length c.args.successors.now in
    let all = c.in_ok-all.all.items in
    let made = c.in_ok-all.ensures in
    c.in_ok-queue.ensures c.args.successors.now c.args.members.now c.deref.result.now refl (λ k less. subst (λ xs. Contains xs k) (sym c.deref.ensures.value) (contains_all all count made.each made.same k less))
    (subst (All (λ k. k < count)) (sym c.deref.ensures.value) (all_within all count made.each made.same))

pub index-requires : goal.index-requires
index-requires c =
    let q = c.loop-least.queue in
    let class = c.args.classes.now.class in
    subst (λ n. c.in-Some.least < n) (sym class.ok.0)
    (is_member class.items c.args.members.now c.args.successors.now c.requires q.come.items q.order.items q.passed.items q.waiting.items q.ready.keys c.pop_first.new.self.keys c.in-Some.least c.loop-least.invariant c.in-Some.ensures.removal)

pub take-requires-clause-may : goal.take-requires-clause-may
take-requires-clause-may c =
    let q = c.loop-least.queue in
    let class = c.args.classes.now.class.items in
    let others = c.args.successors.now in
    let members = c.args.members.now in
    let keys = c.pop_first.new.self.keys in
    let a = c.in-Some.least in
    let within = is_member class members others c.requires q.come.items q.order.items q.passed.items q.waiting.items q.ready.keys keys a c.loop-least.invariant c.in-Some.ensures.removal in
    let k : c.index.result.now ≡ slice_index class a = get_or_read class a c.index.result.now within c.index.ensures 0 in
    let queue = opened class members others c.requires q.come.items q.order.items q.passed.items q.waiting.items q.ready.keys keys a c.loop-least.invariant c.in-Some.ensures.removal in
    let free = is_free class members others c.requires q.come.items q.order.items q.passed.items q.waiting.items q.ready.keys keys a c.loop-least.invariant c.in-Some.ensures.removal in
    let least = is_least class members others c.requires q.come.items q.order.items q.passed.items q.waiting.items q.ready.keys keys a c.loop-least.invariant c.in-Some.ensures.removal in
    record {
      queue = subst (λ x. IsQueueOf others members q.come.items q.order.items q.passed.items q.waiting.items keys (x ∷ [])) (sym k) queue;
      free = subst (HaveCome others q.come.items) (sym k) free;
      first = λ b d. subst (λ x. least_of members x < b) (sym k) (subst (λ n. n < b) (sym least) (nat_cmp-less a b (All-contains (λ y. nat_cmp a y ≡ Less) keys b c.in-Some.ensures.all_above d)));
    }

no_keys : (keys : List ℕ) → IsSome {T = ℕ} None ↔ (0 < length keys) → keys ≡ []
no_keys keys h = nil_from_length keys (by (cases_lt 0 (length keys)))
  where
    by : (0 < length keys) ⊎ (length keys ≤ 0) → length keys ≡ 0
    by (inl less) = absurd (false≢true (h.1 less))
    by (inr le) = omega arith

pub returns : goal.returns
returns c =
    let q = c.loop-least.queue in
    all_in_order c.args.classes.now.class.items c.args.members.now c.args.successors.now c.requires q.come.items q.order.items q.passed.items q.waiting.items
    (subst (λ xs. IsQueueOf c.args.successors.now c.args.members.now q.come.items q.order.items q.passed.items q.waiting.items xs []) (no_keys q.ready.keys c.in_default.ensures.variant) c.loop-least.invariant)
