-- What keeps a board after each change.
use Rattle.std.proofs.Common.{◌≡◌, ℕ, ◌+◌, ◌<◌, ◌≤◌, ◌^◌, ◌==◌, not, Bool, true, false, Option, Some, None, List, [], IfSome, length, get_or, set, replicate, refl, sym, ap, subst, ◌∙◌, arith}
use Rattle.std.specs.Prelude.{count_by}
use Rattle.std.proofs.lemmas.List.{length-set, length-replicate}
use Rattle.std.proofs.lemmas.List.Sums.{get_or-le-sum_by}
use Rattle.rt_plan.specs.declared.event.State.{State}
use Rattle.rt_plan.specs.declared.event.State.TheVariants.{Open, Held, Published}
use Rattle.rt_plan.specs.Plans.{Board, callees_at, first_open, first_ready, held_by, is_open, is_published, start, state_at, with_state}
use Rattle.rt_plan.specs.Inside.Boards.{AreReady, AreReadyAt, IsKept, times}
use Rattle.rt_plan.proofs.Counts.{one}
use Rattle.rt_plan.proofs.Keeping.{first_open_within, first_ready_within, held_by_within, held_state, held_told, held_within, holds_left, holds_taken, kept_published, kept_start, kept_turned, open_map, open_not_held, published_not_held, ready_still, waits_enough}

-- what is found is one of the groups
pub held_some_within : (board : Board) (w : ℕ) → IfSome (held_by board w) (λ g. g < length board.states)
held_some_within board w = by (held_by board w) refl
  where
    by : (o : Option ℕ) → held_by board w ≡ o → IfSome o (λ g. g < length board.states)
    by None e = tt
    by (Some g) e = held_by_within board w g e

pub first_open_some : (board : Board) → IfSome (first_open board) (λ g. g < length board.states)
first_open_some board = by (first_open board) refl
  where
    by : (o : Option ℕ) → first_open board ≡ o → IfSome o (λ g. g < length board.states)
    by None e = tt
    by (Some g) e = (first_open_within board g e).0

-- the number of workers is that of the groups that they may hold
reworked : (board : Board) (left : List ℕ) (opened ready : List Bool) (held : List (Option ℕ)) (unpublished n : ℕ) → IsKept board left opened ready held unpublished → n ≡ length held → IsKept (record { workers = n; callees = board.callees; states = board.states }) left opened ready held unpublished
reworked board left opened ready held unpublished n is e = record {
  numbered = is.numbered;
  each_called = is.each_called;
  each_left = is.each_left;
  waits = is.waits;
  opens = is.opens;
  readies = is.readies;
  workers = e;
  holds = is.holds;
  counted = is.counted;
}

-- lists that are kept, by other names
renamed : (board : Board) (left left' : List ℕ) (opened opened' ready ready' : List Bool) (held : List (Option ℕ)) (unpublished : ℕ) → left' ≡ left → opened' ≡ opened → ready' ≡ ready → IsKept board left opened ready held unpublished → IsKept board left' opened' ready' held unpublished
renamed board left left' opened opened' ready ready' held unpublished p q r is =
    subst (λ xs. IsKept board xs opened' ready' held unpublished) (sym p)
    (subst (λ xs. IsKept board left xs ready' held unpublished) (sym q)
    (subst (λ xs. IsKept board left opened xs held unpublished) (sym r) is))

module _ (board : Board) (left : List ℕ) (opened ready : List Bool) (held : List (Option ℕ)) (unpublished : ℕ) (is : IsKept board left opened ready held unpublished) (w g : ℕ) (within : w < length held) where
  pub kept_taken : held_by board w ≡ None → first_ready board ≡ Some g → (left' : List ℕ) (opened' ready' : List Bool) (n : ℕ) → left' ≡ left → opened' ≡ set opened g false → ready' ≡ set ready g false → n ≡ length (set held w (Some g)) → IsKept (record { workers = n; callees = board.callees; states = set board.states g (Held w) }) left' opened' ready' (set held w (Some g)) unpublished
  kept_taken none first left' opened' ready' n p q r e =
      let free = first_ready_within board g first in
      let told : get_or held w None ≡ None = held_told board left opened ready held unpublished is w ∙ none in
      reworked (with_state board g (Held w)) left' opened' ready' (set held w (Some g)) unpublished n
      (renamed (with_state board g (Held w)) left left' (set opened g false) opened' (set ready g false) ready' (set held w (Some g)) unpublished p q r
      (kept_turned board left opened ready held (set held w (Some g)) unpublished is g (Held w) free.0 (ap is_published free.1) refl (length-set held w (Some g)) (holds_taken board held is.holds w g within free.0 told free.1))) e

  pub kept_given_back : held_by board w ≡ Some g → (left' : List ℕ) (opened' ready' : List Bool) (n : ℕ) → left' ≡ left → opened' ≡ set opened g true → ready' ≡ set ready g (get_or left g 0 == 0) → n ≡ length (set held w None) → IsKept (record { workers = n; callees = board.callees; states = set board.states g Open }) left' opened' ready' (set held w None) unpublished
  kept_given_back some left' opened' ready' n p q r e =
      let was : state_at board g ≡ Held w = held_state board w g some in
      let there : g < length board.states = held_within board w g was in
      let told : get_or held w None ≡ Some g = held_told board left opened ready held unpublished is w ∙ some in
      reworked (with_state board g Open) left' opened' ready' (set held w None) unpublished n
      (renamed (with_state board g Open) left left' (set opened g true) opened' (set ready g (get_or left g 0 == 0)) ready' (set held w None) unpublished p q r
      (kept_turned board left opened ready held (set held w None) unpublished is g Open there (ap is_published was) refl (length-set held w None) (holds_left board held is.holds w g Open within there told (λ v h. open_not_held v h)))) e

  pub kept_given : held_by board w ≡ Some g → (left' : List ℕ) (ready' : List Bool) (unpublished' n : ℕ) → length left' ≡ length left → ((h : ℕ) → get_or left' h 0 + times g (callees_at board h) ≡ get_or left h 0) → AreReady (set board.states g Published) left' ready' → unpublished' + 1 ≡ unpublished → n ≡ length (set held w None) → IsKept (record { workers = n; callees = board.callees; states = set board.states g Published }) left' opened ready' (set held w None) unpublished'
  kept_given some left' ready' unpublished' n each fewer readies less e =
      let was : state_at board g ≡ Held w = held_state board w g some in
      let there : g < length board.states = held_within board w g was in
      let told : get_or held w None ≡ Some g = held_told board left opened ready held unpublished is w ∙ some in
      reworked (with_state board g Published) left' opened ready' (set held w None) unpublished' n
      (kept_published board left left' opened ready ready' held (set held w None) unpublished unpublished' is g w was each fewer readies (length-set held w None) (holds_left board held is.holds w g Published within there told (λ v h. published_not_held v h)) less) e

  -- What a publish asks of what is kept.
  pub some_unpublished : held_by board w ≡ Some g → 1 ≤ unpublished
  some_unpublished some =
      let was : state_at board g ≡ Held w = held_state board w g some in
      let le : one (not (is_published (get_or board.states g Open))) ≤ count_by (λ s. not (is_published s)) board.states = get_or-le-sum_by (λ s. one (not (is_published s))) board.states g Open (held_within board w g was) in
      let counts : one (not (is_published (get_or board.states g Open))) ≡ 1 = ap (λ s. one (not (is_published s))) was in
      let all = is.counted in
      omega arith

  pub enough_left : held_by board w ≡ Some g → (callers : List ℕ) → ((h : ℕ) → times h callers ≡ times g (callees_at board h)) → (h : ℕ) → times h callers ≤ get_or left h 0
  enough_left some callers called h =
      let was : state_at board g ≡ Held w = held_state board w g some in
      let le = waits_enough board left opened ready held unpublished is g h (held_within board w g was) (ap is_published was) in
      let same = called h in
      omega arith

  pub ready_before : held_by board w ≡ Some g → AreReady (set board.states g Published) left ready
  ready_before some =
      let was : state_at board g ≡ Held w = held_state board w g some in
      ready_still board left ready g Published (held_within board w g was) (ap is_open was) refl is.readies

-- a board after a write, by its parts
pub written_is : (board old : Board) (n g : ℕ) (s : State) → board ≡ old → n ≡ board.workers → record { workers = n; callees = board.callees; states = set board.states g s } ≡ with_state old g s
written_is board old n g s is e =
    let made : ℕ → Board = λ m. record { workers = m; callees = board.callees; states = set board.states g s } in
    ap made e ∙ ap (λ b. with_state b g s) is

-- A new board.
pub new_is : (workers n : ℕ) (callees calls : List (List ℕ)) (states : List State) (held : List (Option ℕ)) → calls ≡ callees → states ≡ replicate n Open → n ≡ length callees → held ≡ replicate workers None → record { workers = length held; callees = calls; states = states } ≡ start workers callees
new_is workers n callees calls states held p q e r =
    let first : ℕ → Board = λ m. record { workers = m; callees = calls; states = states } in
    let second : List (List ℕ) → Board = λ x. record { workers = workers; callees = x; states = states } in
    let third : List State → Board = λ x. record { workers = workers; callees = callees; states = x } in
    ap first (ap length r ∙ length-replicate {A = Option ℕ} workers None) ∙ (ap second p ∙ ap third (q ∙ (ap (λ m. replicate m Open) e ∙ open_map callees)))

pub kept_new : (workers n : ℕ) (callees calls : List (List ℕ)) (states : List State) (left : List ℕ) (opened ready : List Bool) (held : List (Option ℕ)) → calls ≡ callees → states ≡ replicate n Open → n ≡ length callees → held ≡ replicate workers None → opened ≡ replicate n true → length callees < 2 ^ 32 → length left ≡ length callees → ((g : ℕ) → get_or left g 0 ≡ length (get_or callees g [])) → AreReadyAt left ready → IsKept (record { workers = length held; callees = calls; states = states }) left opened ready held n
kept_new workers n callees calls states left opened ready held p q e r o few each lengths readies =
    let begun = kept_start workers callees left ready few each lengths readies in
    subst (λ (b : Board). IsKept b left opened ready held n) (sym (new_is workers n callees calls states held p q e r))
    (subst (λ xs. IsKept (start workers callees) left xs ready held n) (sym (o ∙ ap (λ m. replicate m true) e))
    (subst (λ xs. IsKept (start workers callees) left (replicate (length callees) true) ready xs n) (sym r)
    (subst (IsKept (start workers callees) left (replicate (length callees) true) ready (replicate workers None)) (sym e) begun)))
