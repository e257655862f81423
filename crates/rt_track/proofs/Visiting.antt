-- A node is visited.
use Rattle.std.proofs.Common.{replicate, ◌≡◌, ◌+◌, ◌*◌, ◌<◌, ◌≤◌, ◌⊎◌, inl, inr, ℕ, zero, suc, List, [], ◌∷◌, ◌++◌, length, set, Option, Some, None, Result, Ok, Err, refl, sym, ap, subst, ◌∙◌, arith}
use Rattle.std.specs.Prelude.{Contains, OnOk, slice_get, slice_index_or, slice_set, sum_by}
use Rattle.std.proofs.Math.Nat.{mul-le-mul_right}
use Rattle.std.proofs.lemmas.Bool.{cases_eq}
use Rattle.std.proofs.lemmas.List.{get_or_read, get_or-set_same, get_or-set_other, length-append, length-replicate, length-set}
use Rattle.std.proofs.lemmas.List.Elements.{Contains-append_left, Contains-append_right, Contains-append_cases, Contains-push_cases}
use Rattle.std.proofs.lemmas.List.Sums.{sum_by-set, get_or-le-sum_by}
use Rattle.std.proofs.lemmas.Option.{slice_get-get_or}
use Rattle.rt_track.specs.declared.value.Value.{Value}
use Rattle.rt_track.specs.declared.value.Value.TheVariants.{Multi}
use Rattle.rt_track.specs.declared.nodes.Input.{Input}
use Rattle.rt_track.specs.declared.nodes.Input.TheVariants as input
use Rattle.rt_track.specs.declared.nodes.Node.{Node}
use Rattle.rt_track.specs.declared.nodes.Node.TheVariants as node
use Rattle.rt_track.specs.Inside.Nodes.{AreReaders, Covers, Gives, IsClosed, IsGiven, IsRisen, IsSolved, Made, Rises, Takes, Visits, state_of}
use Rattle.rt_track.specs.Inside.Nodes.Made.{known, fixed, left, right, raised, added, several}

-- a node stands once at a number
one_node : (nodes : List Node) (i : ℕ) (m n : Node) → slice_get nodes i ≡ Some m → slice_get nodes i ≡ Some n → m ≡ n
one_node nodes i m n e f = let g : Some m ≡ Some n = sym e ∙ f in cc

module _ (nodes : List Node) (i : ℕ) (less : i < length nodes) (d : Node) (states seen : List (Option Value)) (seen_is : seen ≡ states) (given : Option Value)
    (is : IsGiven seen (slice_index_or nodes i d) given) where
  here : slice_get nodes i ≡ Some (slice_index_or nodes i d)
  here = slice_get-get_or nodes i d less

  is_given : IsGiven states (slice_index_or nodes i d) given
  is_given = subst (λ ss. IsGiven ss (slice_index_or nodes i d) given) seen_is is

  -- where nothing is given, or what was given is taken in, the node is closed
  closed : ((v : Value) → given ≡ Some v → Covers (slice_index_or states i None) v) → IsClosed nodes states i
  closed covers n v at gives = is_given.all (slice_index_or states i None) covers v (subst (λ m. Gives states m v) (one_node nodes i n (slice_index_or nodes i d) at here) gives)

  pub none_given : ((v : Value) → given ≡ Some v → ⊥) → IsClosed nodes states i
  none_given none = closed (λ v e. absurd (none v e))

  module _ (value : Value) (given_is : given ≡ Some value) (old : Option Value) (in_states : i < length states) (old_is : old ≡ slice_index_or states i old) where
    state : old ≡ slice_index_or states i None
    state = get_or_read states i old in_states old_is None

    pub taken_in : Covers old value → IsClosed nodes states i
    taken_in covers = closed (λ v e. subst (λ o. Covers o v) state (let f : value ≡ v = same v e in subst (Covers old) f covers))
      where
        same : (v : Value) → given ≡ Some v → value ≡ v
        same v e = let f : Some value ≡ Some v = sym given_is ∙ e in cc

    pub rises : (v : Value) → IsRisen old value v → Rises nodes states i v
    rises v risen = record {
      node = slice_index_or nodes i d;
      at = here;
      value = value;
      given = subst (IsGiven states (slice_index_or nodes i d)) given_is is_given;
      risen = subst (λ o. IsRisen o value v) state risen;
    }

-- what a visit leaves, after those that take the value were added
pub visited : {E : Type 0} (result : Result (Unit {0}) E) (nodes : List Node) (readers : List (List ℕ)) (i : ℕ) (states : List (Option Value)) (work : List ℕ) (v : Value) → Rises nodes states i v
    → (row items : List ℕ) → i < length readers → row ≡ slice_index_or readers i row → items ≡ row → (work' : List ℕ) → OnOk result (work' ≡ work ++ items) → OnOk result (Visits nodes readers i states work (slice_set states i (Some v)) work')
visited (Ok x) nodes readers i states work v rises row items less row_is items_is work' e = inr (v, rises, refl, e ∙ ap (λ xs. work ++ xs) (items_is ∙ get_or_read readers i row less row_is []))
visited (Err x) nodes readers i states work v rises row items less row_is items_is work' t = t

-- a node takes an input, or not
decide_input : (a : Input) (i : ℕ) → (a ≡ input.Node i) ⊎ (a ≡ input.Node i → ⊥)
decide_input input.Nothing i = inr (λ e. cc)
decide_input (input.Known v) i = inr (λ e. cc)
decide_input (input.Node k) i = by (cases_eq k i)
  where
    by : (k ≡ i) ⊎ (k ≡ i → ⊥) → (input.Node k ≡ input.Node i) ⊎ (input.Node k ≡ input.Node i → ⊥)
    by (inl e) = inl (ap input.Node e)
    by (inr other) = inr (λ e. other (inner e))
      where
        inner : input.Node k ≡ input.Node i → k ≡ i
        inner e = cc

decide_two : (a b : Input) (i : ℕ) → ((a ≡ input.Node i) ⊎ (b ≡ input.Node i)) ⊎ ((a ≡ input.Node i) ⊎ (b ≡ input.Node i) → ⊥)
decide_two a b i = by (decide_input a i) (decide_input b i)
  where
    by : (a ≡ input.Node i) ⊎ (a ≡ input.Node i → ⊥) → (b ≡ input.Node i) ⊎ (b ≡ input.Node i → ⊥) → ((a ≡ input.Node i) ⊎ (b ≡ input.Node i)) ⊎ ((a ≡ input.Node i) ⊎ (b ≡ input.Node i) → ⊥)
    by (inl e) g = inl (inl e)
    by (inr f) (inl e) = inl (inr e)
    by (inr f) (inr g) = inr (λ h. elim h [ inl e ↦ f e | inr e ↦ g e ])

decide_takes : (n : Node) (i : ℕ) → Takes n (input.Node i) ⊎ (Takes n (input.Node i) → ⊥)
decide_takes (node.Fixed v) i = inr (λ t. t)
decide_takes (node.Join a b) i = decide_two a b i
decide_takes (node.AddI a k) i = decide_input a i
decide_takes (node.Add a b s r) i = decide_two a b i

-- how often a state may still rise
rank_value : Value → ℕ
rank_value Multi = 0
rank_value v = 1

pub rank : Option Value → ℕ
rank None = 2
rank (Some v) = rank_value v

rank_multi : (v : Value) → (v ≡ Multi → ⊥) → rank_value v ≡ 1
unfolding rank_value
rank_multi Multi other = absurd (other refl)
rank_multi v other = refl

rank_most : (v : Value) → rank_value v ≤ 1
unfolding rank_value
rank_most Multi = omega arith
rank_most v = omega arith

rank_falls : (o : Option Value) (value v : Value) → IsRisen o value v → rank (Some v) < rank o
unfolding rank rank_value
rank_falls None value v e = let h = rank_most v in omega arith
rank_falls (Some w) value v (other, some, e) = let h = rank_multi w some in let g : rank_value v ≡ 0 = ap rank_value e in omega arith

-- fewer factors outweigh less than one of them
fewer : (m n q a b : ℕ) → m < n → a < b + q → m * q + a < n * q + b
fewer m n q a b less small = let h : (m + 1) * q ≤ n * q = mul-le-mul_right q (omega arith) in omega (arith, h)

-- nodes that are still to be visited, and the others closed
pub record IsSolving (nodes : List Node) (states : List (Option Value)) (work : List ℕ) : Type 0 where
  pub each : length states ≡ length nodes
  pub made : (i : ℕ) (v : Value) → slice_index_or states i None ≡ Some v → Made nodes (input.Node i) v
  pub unless : (j : ℕ) → j < length nodes → Contains work j ⊎ IsClosed nodes states j
  pub within : (j : ℕ) → Contains work j → j < length nodes

-- what inputs have is made
module _ (nodes : List Node) (states : List (Option Value)) (made : (i : ℕ) (v : Value) → slice_index_or states i None ≡ Some v → Made nodes (input.Node i) v) where
  input_made : (a : Input) (v : Value) → state_of states a ≡ Some v → Made nodes a v
  input_made input.Nothing v e = cc
  input_made (input.Known w) v e = let f : w ≡ v = inner e in subst (λ u. Made nodes (input.Known w) u) f known
    where
      inner : Some w ≡ Some v → w ≡ v
      inner e = cc
  input_made (input.Node i) v e = made i v e

  gives_made : (i : ℕ) (n : Node) (v : Value) → slice_get nodes i ≡ Some n → Gives states n v → Made nodes (input.Node i) v
  gives_made i (node.Fixed w) v at e = let f : w ≡ v = inner e in subst (λ u. Made nodes (input.Node i) u) f (fixed at)
    where
      inner : Some w ≡ Some v → w ≡ v
      inner e = cc
  gives_made i (node.Join a b) v at (inl e) = left at (input_made a v e)
  gives_made i (node.Join a b) v at (inr e) = right at (input_made b v e)
  gives_made i (node.AddI a k) v at (w, e, f) = subst (λ u. Made nodes (input.Node i) u) f (raised at (input_made a w e))
  gives_made i (node.Add a b s r) v at (w, u, e, f, g) = subst (λ x. Made nodes (input.Node i) x) g (added at (input_made a w e) (input_made b u f))

  -- and so is what a node rises to
  risen_made : (i : ℕ) (v : Value) → Rises nodes states i v → Made nodes (input.Node i) v
  risen_made i v rises = by (slice_index_or states i None) refl rises.risen
    where
      value_made : Made nodes (input.Node i) rises.value
      value_made = from (rises.given.made rises.value refl)
        where
          from : Gives states rises.node rises.value ⊎ ((rises.value ≡ Multi) × ((a : Value) × (b : Value) × Gives states rises.node a × Gives states rises.node b × (a ≡ b → ⊥))) → Made nodes (input.Node i) rises.value
          from (inl gives) = gives_made i rises.node rises.value rises.at gives
          from (inr (e, (a, b, ga, gb, other))) = subst (λ u. Made nodes (input.Node i) u) (sym e) (several (gives_made i rises.node a rises.at ga) (gives_made i rises.node b rises.at gb) other)

      by : (o : Option Value) → slice_index_or states i None ≡ o → IsRisen o rises.value v → Made nodes (input.Node i) v
      by None e f = subst (λ u. Made nodes (input.Node i) u) (sym f) value_made
      by (Some w) e (other, some, f) = subst (λ u. Made nodes (input.Node i) u) (sym f) (several (made i w e) value_made other)

-- a state that rose takes in what it took in before, and what was given
covers_value : (o : Option Value) (value v : Value) → IsRisen o value v → Covers (Some v) value
covers_value None value v e = inl (ap Some e)
covers_value (Some w) value v (other, some, e) = inr (ap Some e)

covers_before : (o : Option Value) (value v u : Value) → IsRisen o value v → Covers o u → Covers (Some v) u
covers_before None value v u e (inl f) = cc
covers_before None value v u e (inr f) = cc
covers_before (Some w) value v u (other, some, e) c = inr (ap Some e)

module _ (nodes : List Node) (readers : List (List ℕ)) (are : AreReaders nodes readers) (i : ℕ) (states : List (Option Value)) (before work : List ℕ) (is : IsSolving nodes states before) (popped : before ≡ work ++ i ∷ []) where
  pub within_here : i < length nodes
  within_here = is.within i (subst (λ ws. Contains ws i) (sym popped) (Contains-append_right work (i ∷ []) i (0, omega arith, refl)))

  left_over : (j : ℕ) → Contains before j → Contains work j ⊎ (i ≡ j)
  left_over j c = Contains-push_cases work i j (subst (λ ws. Contains ws j) popped c)

  still : (j : ℕ) → Contains work j → Contains before j
  still j c = subst (λ ws. Contains ws j) (sym popped) (Contains-append_left work (i ∷ []) j c)

  -- the node was closed
  stays : IsClosed nodes states i → IsSolving nodes states work
  stays closed = record { each = is.each; made = is.made; unless = λ j less. unless j (is.unless j less); within = λ j c. is.within j (still j c) }
    where
      unless : (j : ℕ) → Contains before j ⊎ IsClosed nodes states j → Contains work j ⊎ IsClosed nodes states j
      unless j (inr h) = inr h
      unless j (inl c) = by (left_over j c)
        where
          by : Contains work j ⊎ (i ≡ j) → Contains work j ⊎ IsClosed nodes states j
          by (inl h) = inl h
          by (inr e) = inr (subst (IsClosed nodes states) e closed)

  -- the node rose
  module _ (v : Value) (rises : Rises nodes states i v) where
    abbrev new : List (Option Value)
    new = set states i (Some v)

    in_states : i < length states
    in_states = subst (λ n. i < n) (sym is.each) within_here

    at_here : slice_index_or (set states i (Some v)) i None ≡ Some v
    at_here = get_or-set_same states i (Some v) None in_states

    at_other : (j : ℕ) → (j ≡ i → ⊥) → slice_index_or (set states i (Some v)) j None ≡ slice_index_or states j None
    at_other j other = get_or-set_other states i j (Some v) None other

    keeps : (j : ℕ) (u : Value) → Covers (slice_index_or states j None) u → Covers (slice_index_or (set states i (Some v)) j None) u
    keeps j u c = by (cases_eq j i)
      where
        by : (j ≡ i) ⊎ (j ≡ i → ⊥) → Covers (slice_index_or (set states i (Some v)) j None) u
        by (inl e) = subst (λ k. Covers (slice_index_or (set states i (Some v)) k None) u) (sym e) (subst (λ o. Covers o u) (sym at_here) (covers_before (slice_index_or states i None) rises.value v u rises.risen (subst (λ k. Covers (slice_index_or states k None) u) e c)))
        by (inr other) = subst (λ o. Covers o u) (sym (at_other j other)) c

    same_input : (a : Input) → (a ≡ input.Node i → ⊥) → state_of (set states i (Some v)) a ≡ state_of states a
    same_input input.Nothing other = refl
    same_input (input.Known w) other = refl
    same_input (input.Node k) other = at_other k (λ e. other (ap input.Node e))

    same_gives : (n : Node) (u : Value) → (Takes n (input.Node i) → ⊥) → Gives (set states i (Some v)) n u → Gives states n u
    same_gives (node.Fixed w) u other e = e
    same_gives (node.Join a b) u other (inl e) = inl (sym (same_input a (λ f. other (inl f))) ∙ e)
    same_gives (node.Join a b) u other (inr e) = inr (sym (same_input b (λ f. other (inr f))) ∙ e)
    same_gives (node.AddI a k) u other (w, e, f) = (w, sym (same_input a other) ∙ e, f)
    same_gives (node.Add a b s r) u other (w, x, e, f, g) = (w, x, sym (same_input a (λ f. other (inl f))) ∙ e, sym (same_input b (λ f. other (inr f))) ∙ f, g)

    -- what the node has by its inputs is taken in
    takes_in : (n : Node) (u : Value) → slice_get nodes i ≡ Some n → Gives states n u → Covers (Some v) u
    takes_in n u at gives = rises.given.all (Some v) covers u (subst (λ m. Gives states m u) (one_node nodes i n rises.node at rises.at) gives)
      where
        covers : (w : Value) → Some rises.value ≡ Some w → Covers (Some v) w
        covers w e = subst (Covers (Some v)) (inner e) (covers_value (slice_index_or states i None) rises.value v rises.risen)
          where
            inner : Some rises.value ≡ Some w → rises.value ≡ w
            inner e = cc

    made_new : (j : ℕ) (u : Value) → slice_index_or (set states i (Some v)) j None ≡ Some u → Made nodes (input.Node j) u
    made_new j u e = by (cases_eq j i)
      where
        by : (j ≡ i) ⊎ (j ≡ i → ⊥) → Made nodes (input.Node j) u
        by (inl f) = subst (λ k. Made nodes (input.Node k) u) (sym f) (subst (λ w. Made nodes (input.Node i) w) (inner (sym at_here ∙ ap (λ k. slice_index_or (set states i (Some v)) k None) (sym f) ∙ e)) (risen_made nodes states is.made i v rises))
          where
            inner : Some v ≡ Some u → v ≡ u
            inner g = cc
        by (inr other) = is.made j u (sym (at_other j other) ∙ e)

    open_new : (j : ℕ) → j < length nodes → Contains (work ++ slice_index_or readers i []) j ⊎ IsClosed nodes (set states i (Some v)) j
    open_new j less = by (decide_takes here i)
      where
        here : Node
        here = slice_index_or nodes j (node.Fixed Multi)

        at : slice_get nodes j ≡ Some here
        at = slice_get-get_or nodes j (node.Fixed Multi) less

        by : Takes here (input.Node i) ⊎ (Takes here (input.Node i) → ⊥) → Contains (work ++ slice_index_or readers i []) j ⊎ IsClosed nodes (set states i (Some v)) j
        by (inl takes) = inl (Contains-append_right work (slice_index_or readers i []) j (are.all i j here within_here at takes))
        by (inr other) = cases (cases_eq j i)
          where
            gave : (n : Node) (u : Value) → slice_get nodes j ≡ Some n → Gives (set states i (Some v)) n u → Gives states n u
            gave n u at_n gives = same_gives n u (subst (λ m. Takes m (input.Node i) → ⊥) (one_node nodes j here n at at_n) other) gives

            old : Contains before j ⊎ IsClosed nodes states j → (j ≡ i → ⊥) → Contains (work ++ slice_index_or readers i []) j ⊎ IsClosed nodes (set states i (Some v)) j
            old (inr closed) apart = inr (λ n u at_n gives. keeps j u (closed n u at_n (gave n u at_n gives)))
            old (inl c) apart = inner (left_over j c)
              where
                inner : Contains work j ⊎ (i ≡ j) → Contains (work ++ slice_index_or readers i []) j ⊎ IsClosed nodes (set states i (Some v)) j
                inner (inl h) = inl (Contains-append_left work (slice_index_or readers i []) j h)
                inner (inr e) = absurd (apart (sym e))

            cases : (j ≡ i) ⊎ (j ≡ i → ⊥) → Contains (work ++ slice_index_or readers i []) j ⊎ IsClosed nodes (set states i (Some v)) j
            cases (inl e) = inr (λ n u at_n gives. subst (λ k. Covers (slice_index_or (set states i (Some v)) k None) u) (sym e) (subst (λ o. Covers o u) (sym at_here) (takes_in n u (subst (λ k. slice_get nodes k ≡ Some n) e at_n) (gave n u at_n gives))))
            cases (inr apart) = old (is.unless j less) apart

    rose : IsSolving nodes (set states i (Some v)) (work ++ slice_index_or readers i [])
    rose = record { each = length-set states i (Some v) ∙ is.each; made = made_new; unless = open_new; within = λ j c. within j (Contains-append_cases work (slice_index_or readers i []) j c) }
      where
        within : (j : ℕ) → Contains work j ⊎ Contains (slice_index_or readers i []) j → j < length nodes
        within j (inl c) = is.within j (still j c)
        within j (inr c) = are.within i j c

  pub visits : (states' : List (Option Value)) (work' : List ℕ) → Visits nodes readers i states work states' work' → IsSolving nodes states' work'
  visits states' work' (inl (e, f, closed)) = subst (λ ws. IsSolving nodes states' ws) (sym f) (subst (λ ss. IsSolving nodes ss work) (sym e) (stays closed))
  visits states' work' (inr (v, rises, e, f)) = subst (λ ws. IsSolving nodes states' ws) (sym f) (subst (λ ss. IsSolving nodes ss (work ++ slice_index_or readers i [])) (sym e) (rose v rises))

-- how often states may still rise
pub rises_left : List (Option Value) → ℕ
rises_left states = sum_by rank states

-- what is left to do: each rise adds no more than all readers
pub left_to_do : List (List ℕ) → List (Option Value) → List ℕ → ℕ
left_to_do readers states work = rises_left states * (sum_by length readers + 1) + length work

-- a visit leaves less to do
pub less_to_do : (nodes : List Node) (readers : List (List ℕ)) → length readers ≡ length nodes → (i : ℕ) → i < length nodes → (states : List (Option Value)) → length states ≡ length nodes → (before work : List ℕ) → before ≡ work ++ i ∷ []
    → (states' : List (Option Value)) (work' : List ℕ) → Visits nodes readers i states work states' work' → left_to_do readers states' work' < left_to_do readers states before
unfolding left_to_do rises_left
less_to_do nodes readers each_reader i less states each before work popped states' work' (inl (e, f, closed)) =
    let a : length before ≡ length work + 1 = ap length popped ∙ length-append work (i ∷ []) in
    let b : length work' ≡ length work = ap length f in
    let c : sum_by rank states' ≡ sum_by rank states = ap (sum_by rank) e in
    let g : sum_by rank states' * (sum_by length readers + 1) ≡ sum_by rank states * (sum_by length readers + 1) = ap (λ n. n * (sum_by length readers + 1)) c in
    omega (arith, a, b, g)
less_to_do nodes readers each_reader i less states each before work popped states' work' (inr (v, rises, e, f)) =
    let in_states : i < length states = subst (λ n. i < n) (sym each) less in
    let in_readers : i < length readers = subst (λ n. i < n) (sym each_reader) less in
    let a : length before ≡ length work + 1 = ap length popped ∙ length-append work (i ∷ []) in
    let b : length work' ≡ length work + length (slice_index_or readers i []) = ap length f ∙ length-append work (slice_index_or readers i []) in
    let c : sum_by rank states' + rank (slice_index_or states i None) ≡ sum_by rank states + rank (Some v) = ap (λ ss. sum_by rank ss + rank (slice_index_or states i None)) e ∙ sum_by-set rank states i (Some v) None in_states in
    let d : rank (Some v) < rank (slice_index_or states i None) = rank_falls (slice_index_or states i None) rises.value v rises.risen in
    let g : length (slice_index_or readers i []) ≤ sum_by length readers = get_or-le-sum_by length readers i [] in_readers in
    fewer (sum_by rank states') (sum_by rank states) (sum_by length readers + 1) (length work') (length before) (omega (arith, c, d)) (omega (arith, a, b, g))

-- the visit of the last node ends it
pub ends : (nodes : List Node) (states : List (Option Value)) (work : List ℕ) → IsSolving nodes states work → work ≡ [] → IsSolved nodes states
ends nodes states work is empty = record { each = is.each; made = is.made; closed = λ i less. by i (is.unless i less) }
  where
    by : (i : ℕ) → Contains work i ⊎ IsClosed nodes states i → IsClosed nodes states i
    by i (inr h) = h
    by i (inl c) = nothing (subst (λ ws. Contains ws i) empty c)
      where
        nothing : Contains [] i → IsClosed nodes states i
        nothing (k, less, e) = absurd (omega arith)

-- none has a value at first, and all are to be visited
pub begins : (nodes : List Node) (states : List (Option Value)) (work : List ℕ) → states ≡ replicate (length nodes) None → ((i : ℕ) → i < length nodes → Contains work i) → ((i : ℕ) → Contains work i → i < length nodes) → IsSolving nodes states work
begins nodes states work e all within = record {
  each = ap length e ∙ length-replicate (length nodes) None;
  made = λ i v f. absurd (clash v (sym (ap (λ (ss : List (Option Value)). slice_index_or ss i None) e ∙ none (length nodes) i) ∙ f));
  unless = λ i less. inl (all i less);
  within = within;
}
  where
    none : (n i : ℕ) → slice_index_or (replicate {A = Option Value} n None) i None ≡ None
    none zero i = refl
    none (suc n) zero = refl
    none (suc n) (suc i) = none n i

    clash : (v : Value) → None ≡ Some v → ⊥
    clash v g = cc
