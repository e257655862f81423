-- What keeps a board, and what it tells.
use Rattle.std.proofs.Common.{◌≡◌, ◌≢◌, ◌↔◌, ℕ, zero, suc, ◌+◌, ◌<◌, ◌≤◌, ◌^◌, ◌==◌, ◌&&◌, ◌⊎◌, inl, inr, not, Bool, true, false, Option, Some, None, List, [], ◌∷◌, map, length, get_or, set, replicate, refl, sym, ap, subst, ◌∙◌, arith}
use Rattle.std.specs.Prelude.{find, count_by}
use Rattle.std.specs.List.{list_all}
use Rattle.std.proofs.lemmas.List.{length-set, length-map, get_or-map, get_or_past, get_or-set_same, get_or-set_other, map-set, set-get_or, get_or-replicate, length-replicate}
use Rattle.std.proofs.lemmas.List.Sums.{sum_by-cons}
use Rattle.std.proofs.lemmas.Bool.{cases_eq, cases_lt, eqb-true, false≢true, and_parts}
use Rattle.rt_base.specs.First.{entries}
use Rattle.rt_plan.specs.declared.event.State.{State}
use Rattle.rt_plan.specs.declared.event.State.TheVariants.{Open, Held, Published}
use Rattle.rt_plan.specs.Plans.{Board, callees_at, first_open, first_ready, held_by, is_done, is_held_by, is_open, is_out, is_published, start, state_at, with_state}
use Rattle.rt_plan.specs.Inside.Leasts.{has, least_of}
use Rattle.rt_plan.specs.Inside.Boards.{AreReady, AreReadyAt, IsKept, left_of, times}
use Rattle.rt_plan.proofs.Trees.{find_some, find_none, find_same, found}
use Rattle.rt_plan.proofs.Counts.{all-count, count-all, count-same, count-set, count-split, itself, one}

-- What states are.
open_is : (s : State) → is_open s ≡ true → s ≡ Open
open_is Open e = refl
open_is (Held w) e = absurd (false≢true e)
open_is Published e = absurd (false≢true e)

held_is : (w : ℕ) (s : State) → is_held_by w s ≡ true → s ≡ Held w
held_is w Open e = absurd (false≢true e)
held_is w (Held v) e = ap Held (eqb-true v w e)
held_is w Published e = absurd (false≢true e)

pub held_number : (v w : ℕ) → Held v ≡ Held w → v ≡ w
held_number v w e = cc

pub open_not_held : (w : ℕ) → Open ≡ Held w → ⊥
open_not_held w e = cc

pub published_not_held : (w : ℕ) → Published ≡ Held w → ⊥
published_not_held w e = cc

some_same : (g h : ℕ) → Some g ≡ Some h → g ≡ h
some_same g h e = cc

none_some : (h : ℕ) → None ≡ Some h → ⊥
none_some h e = cc

-- a group that isn't open is one of the board's
not_open_within : (board : Board) (g : ℕ) → (state_at board g ≡ Open → ⊥) → g < length board.states
not_open_within board g never = elim (cases_lt g (length board.states)) [
  | inl less ↦ less
  | inr past ↦ absurd (never (get_or_past board.states g Open past))
]

pub held_within : (board : Board) (w g : ℕ) → state_at board g ≡ Held w → g < length board.states
held_within board w g e = not_open_within board g (λ o. open_not_held w (sym o ∙ e))

-- a group that a worker holds
pub held_state : (board : Board) (w g : ℕ) → held_by board w ≡ Some g → state_at board g ≡ Held w
held_state board w g e = let f = found (λ h. is_held_by w (state_at board h)) 0 (length board.states) g e in held_is w (state_at board g) f.passes

pub held_by_within : (board : Board) (w g : ℕ) → held_by board w ≡ Some g → g < length board.states
held_by_within board w g e = held_within board w g (held_state board w g e)

-- States after a write.
module _ (board : Board) (g : ℕ) (s : State) (within : g < length board.states) where
  pub state_here : state_at (with_state board g s) g ≡ s
  state_here = get_or-set_same board.states g s Open within

  pub state_elsewhere : (h : ℕ) → h ≢ g → state_at (with_state board g s) h ≡ state_at board h
  state_elsewhere h other = get_or-set_other board.states g h s Open other

  -- where it is published as before, each group is
  out_same : is_published s ≡ is_out board g → (c : ℕ) → is_out (with_state board g s) c ≡ is_out board c
  out_same e c = elim (cases_eq c g) [
    | inl here ↦ ap (λ k. is_out (with_state board g s) k) here ∙ (ap is_published state_here ∙ (e ∙ ap (is_out board) (sym here)))
    | inr other ↦ ap is_published (state_elsewhere c other)
  ]

-- What a board that is kept tells.
module _ (board : Board) (left : List ℕ) (opened ready : List Bool) (held : List (Option ℕ)) (unpublished : ℕ) (is : IsKept board left opened ready held unpublished) where
  pub held_told : (w : ℕ) → get_or held w None ≡ held_by board w
  held_told w = by (get_or held w None) refl
    where
      by : (o : Option ℕ) → get_or held w None ≡ o → o ≡ held_by board w
      by None e = sym (find_none (λ g. is_held_by w (state_at board g)) 0 (length board.states) (λ j l h. fails j (is_held_by w (state_at board j)) refl))
        where
          fails : (j : ℕ) → (b : Bool) → is_held_by w (state_at board j) ≡ b → is_held_by w (state_at board j) ≡ false
          fails j true q = absurd (none_some j (sym e ∙ (is.holds w j).1 (held_is w (state_at board j) q)))
          fails j false q = q
      by (Some g) e =
          let s : state_at board g ≡ Held w = (is.holds w g).0 e in
          let within = held_within board w g s in
          sym (find_some (λ h. is_held_by w (state_at board h)) 0 (length board.states) g (omega arith) (omega arith) (ap (is_held_by w) s ∙ itself w) (λ j l h. fails j h (is_held_by w (state_at board j)) refl))
        where
          fails : (j : ℕ) → j < g → (b : Bool) → is_held_by w (state_at board j) ≡ b → is_held_by w (state_at board j) ≡ false
          fails j less true q =
              let same : g ≡ j = some_same g j (sym e ∙ (is.holds w j).1 (held_is w (state_at board j) q)) in
              absurd (omega arith)
          fails j less false q = q

  opened_at : (g : ℕ) → g < length board.states → has opened g ≡ is_open (state_at board g)
  opened_at g h = ap (λ flags. get_or flags g false) is.opens ∙ get_or-map is_open board.states g Open false h

  length_opened : length opened ≡ length board.states
  length_opened = ap length is.opens ∙ length-map board.states is_open

  -- a group is one of those of each list
  pub opened_within : (g : ℕ) → g < length board.states → g < length opened
  opened_within g h = let n = length_opened in omega arith

  pub left_within : (g : ℕ) → g < length board.states → g < length left
  left_within g h = let n = is.each_left in omega arith

  pub first_open_told : least_of opened ≡ first_open board
  first_open_told =
      ap (λ n. find (has opened) (entries (λ k. k) 0 n)) length_opened ∙
      find_same (has opened) (λ g. is_open (state_at board g)) 0 (length board.states) (λ g l h. opened_at g (omega arith))

  ready_at : (g : ℕ) → g < length board.states → has ready g ≡ (is_open (state_at board g) && list_all (is_out board) (callees_at board g))
  ready_at g h =
      let each = is.each_left in
      is.readies.readies g (omega arith) ∙ ap (λ b. is_open (state_at board g) && b) (ap (λ n. n == 0) (is.waits g) ∙ sym (all-count (is_out board) (callees_at board g)))

  pub first_ready_told : least_of ready ≡ first_ready board
  first_ready_told =
      ap (λ n. find (has ready) (entries (λ k. k) 0 n)) (is.readies.each ∙ is.each_left) ∙
      find_same (has ready) (λ g. is_open (state_at board g) && list_all (is_out board) (callees_at board g)) 0 (length board.states) (λ g l h. ready_at g (omega arith))

  pub done_told : (unpublished == 0) ≡ is_done board
  done_told = ap (λ n. n == 0) is.counted ∙ sym (all-count is_published board.states)

-- what is found among a board's groups is one of them
pub first_open_within : (board : Board) (g : ℕ) → first_open board ≡ Some g → (g < length board.states) × (state_at board g ≡ Open)
first_open_within board g e =
    let f = found (λ h. is_open (state_at board h)) 0 (length board.states) g e in
    let h = f.high in
    (omega arith, open_is (state_at board g) f.passes)

pub first_ready_within : (board : Board) (g : ℕ) → first_ready board ≡ Some g → (g < length board.states) × (state_at board g ≡ Open)
first_ready_within board g e =
    let f = found (λ h. is_open (state_at board h) && list_all (is_out board) (callees_at board h)) 0 (length board.states) g e in
    let h = f.high in
    (omega arith, open_is (state_at board g) (and_parts (is_open (state_at board g)) (list_all (is_out board) (callees_at board g)) f.passes).0)

-- Which worker holds which group, after a write.
abbrev pub Holds : List (Option ℕ) → Board → Type 0
Holds held board = (w g : ℕ) → (get_or held w None ≡ Some g) ↔ (state_at board g ≡ Held w)

pub holds_taken : (board : Board) (held : List (Option ℕ)) → Holds held board → (w g : ℕ) → w < length held → g < length board.states → get_or held w None ≡ None → state_at board g ≡ Open → Holds (set held w (Some g)) (with_state board g (Held w))
holds_taken board held holds w g lw lg none free = λ v h. by v h (cases_eq v w) (cases_eq h g)
  where
    by : (v h : ℕ) → (v ≡ w) ⊎ (v ≢ w) → (h ≡ g) ⊎ (h ≢ g) → (get_or (set held w (Some g)) v None ≡ Some h) ↔ (state_at (with_state board g (Held w)) h ≡ Held v)
    by v h (inl e) (inl f) =
        let a : get_or (set held w (Some g)) v None ≡ Some g = ap (λ k. get_or (set held w (Some g)) k None) e ∙ get_or-set_same held w (Some g) None lw in
        let b : state_at (with_state board g (Held w)) h ≡ Held w = ap (λ k. state_at (with_state board g (Held w)) k) f ∙ state_here board g (Held w) lg in
        (λ _. b ∙ ap Held (sym e), λ _. a ∙ ap Some (sym f))
    by v h (inl e) (inr other) =
        let a : get_or (set held w (Some g)) v None ≡ Some g = ap (λ k. get_or (set held w (Some g)) k None) e ∙ get_or-set_same held w (Some g) None lw in
        let b : state_at (with_state board g (Held w)) h ≡ state_at board h = state_elsewhere board g (Held w) lg h other in (
          λ p. absurd (other (sym (some_same g h (sym a ∙ p)))),
          λ q. absurd (none_some h (sym none ∙ (holds w h).1 (sym b ∙ (q ∙ ap Held e)))),
        )
    by v h (inr other) (inl f) =
        let a : get_or (set held w (Some g)) v None ≡ get_or held v None = get_or-set_other held w v (Some g) None other in
        let b : state_at (with_state board g (Held w)) h ≡ Held w = ap (λ k. state_at (with_state board g (Held w)) k) f ∙ state_here board g (Held w) lg in (
          λ p. absurd (open_not_held v (sym free ∙ (holds v g).0 (sym a ∙ (p ∙ ap Some f)))),
          λ q. absurd (other (sym (held_number w v (sym b ∙ q)))),
        )
    by v h (inr other) (inr apart) =
        let a : get_or (set held w (Some g)) v None ≡ get_or held v None = get_or-set_other held w v (Some g) None other in
        let b : state_at (with_state board g (Held w)) h ≡ state_at board h = state_elsewhere board g (Held w) lg h apart in
        (λ p. b ∙ (holds v h).0 (sym a ∙ p), λ q. a ∙ (holds v h).1 (sym b ∙ q))

pub holds_left : (board : Board) (held : List (Option ℕ)) → Holds held board → (w g : ℕ) (s : State) → w < length held → g < length board.states → get_or held w None ≡ Some g → ((v : ℕ) → s ≡ Held v → ⊥) → Holds (set held w None) (with_state board g s)
holds_left board held holds w g s lw lg some never = λ v h. by v h (cases_eq v w) (cases_eq h g)
  where
    was : state_at board g ≡ Held w
    was = (holds w g).0 some

    by : (v h : ℕ) → (v ≡ w) ⊎ (v ≢ w) → (h ≡ g) ⊎ (h ≢ g) → (get_or (set held w None) v None ≡ Some h) ↔ (state_at (with_state board g s) h ≡ Held v)
    by v h which (inl f) =
        let b : state_at (with_state board g s) h ≡ s = ap (λ k. state_at (with_state board g s) k) f ∙ state_here board g s lg in
        (λ p. absurd (first which p), λ q. absurd (never v (sym b ∙ q)))
      where
        first : (v ≡ w) ⊎ (v ≢ w) → get_or (set held w None) v None ≡ Some h → ⊥
        first (inl e) p = none_some h (sym (ap (λ k. get_or (set held w None) k None) e ∙ get_or-set_same held w None None lw) ∙ p)
        first (inr other) p =
            let a : get_or (set held w None) v None ≡ get_or held v None = get_or-set_other held w v None None other in
            other (held_number v w (sym ((holds v g).0 (sym a ∙ (p ∙ ap Some f))) ∙ was))
    by v h (inl e) (inr apart) =
        let a : get_or (set held w None) v None ≡ None = ap (λ k. get_or (set held w None) k None) e ∙ get_or-set_same held w None None lw in
        let b : state_at (with_state board g s) h ≡ state_at board h = state_elsewhere board g s lg h apart in (
          λ p. absurd (none_some h (sym a ∙ p)),
          λ q. absurd (apart (sym (some_same g h (sym some ∙ (holds w h).1 (sym b ∙ (q ∙ ap Held e)))))),
        )
    by v h (inr other) (inr apart) =
        let a : get_or (set held w None) v None ≡ get_or held v None = get_or-set_other held w v None None other in
        let b : state_at (with_state board g s) h ≡ state_at board h = state_elsewhere board g s lg h apart in
        (λ p. b ∙ (holds v h).0 (sym a ∙ p), λ q. a ∙ (holds v h).1 (sym b ∙ q))

-- A group that isn't published becomes one that isn't, open or held.
pub kept_turned : (board : Board) (left : List ℕ) (opened ready : List Bool) (held held' : List (Option ℕ)) (unpublished : ℕ) → IsKept board left opened ready held unpublished → (g : ℕ) (s : State) → g < length board.states → is_out board g ≡ false → is_published s ≡ false → length held' ≡ length held → Holds held' (with_state board g s) → IsKept (with_state board g s) left (set opened g (is_open s)) (set ready g (is_open s && (get_or left g 0 == 0))) held' unpublished
kept_turned board left opened ready held held' unpublished is g s within off off' same holds =
    let n : length (set board.states g s) ≡ length board.states = length-set board.states g s in
    let out = out_same board g s within (off' ∙ sym off) in
    record {
      numbered = subst (λ m. m < 2 ^ 32) (sym n) is.numbered;
      each_called = is.each_called ∙ sym n;
      each_left = is.each_left ∙ sym n;
      waits = λ h. is.waits h ∙ sym (count-same (λ c. not (is_out (with_state board g s) c)) (λ c. not (is_out board c)) (λ c. ap not (out c)) (callees_at board h));
      opens = ap (λ flags. set flags g (is_open s)) is.opens ∙ sym (map-set is_open board.states g s);
      readies = record {
        each = length-set ready g (is_open s && (get_or left g 0 == 0)) ∙ is.readies.each;
        readies = λ h l. at h l (cases_eq h g);
      };
      workers = is.workers ∙ sym same;
      holds = holds;
      counted =
          let c = count-set (λ t. not (is_published t)) board.states g s Open within in
          let a : one (not (is_published (get_or board.states g Open))) ≡ 1 = ap (λ b. one (not b)) off in
          let b : one (not (is_published s)) ≡ 1 = ap (λ b. one (not b)) off' in
          let was = is.counted in
          omega arith;
    }
  where
    at : (h : ℕ) → h < length left → (h ≡ g) ⊎ (h ≢ g) → get_or (set ready g (is_open s && (get_or left g 0 == 0))) h false ≡ (is_open (get_or (set board.states g s) h Open) && (get_or left h 0 == 0))
    at h l (inl e) =
        let each = is.readies.each in
        let count = is.each_left in
        subst (λ k. get_or (set ready g (is_open s && (get_or left g 0 == 0))) k false ≡ (is_open (get_or (set board.states g s) k Open) && (get_or left k 0 == 0))) (sym e)
        (get_or-set_same ready g (is_open s && (get_or left g 0 == 0)) false (omega arith) ∙ sym (ap (λ t. is_open t && (get_or left g 0 == 0)) (state_here board g s within)))
    at h l (inr other) = get_or-set_other ready g h (is_open s && (get_or left g 0 == 0)) false other ∙ (is.readies.readies h l ∙ sym (ap (λ t. is_open t && (get_or left h 0 == 0)) (state_elsewhere board g s within h other)))

-- A group that isn't open is published: which ones are ready says nothing else so far.
pub ready_still : (board : Board) (left : List ℕ) (ready : List Bool) (g : ℕ) (s : State) → g < length board.states → is_open (state_at board g) ≡ false → is_open s ≡ false → AreReady board.states left ready → AreReady (set board.states g s) left ready
ready_still board left ready g s within off off' is = record {
  each = is.each;
  readies = λ h l. is.readies h l ∙ ap (λ b. b && (get_or left h 0 == 0)) (same h (cases_eq h g));
}
  where
    same : (h : ℕ) → (h ≡ g) ⊎ (h ≢ g) → is_open (get_or board.states h Open) ≡ is_open (get_or (set board.states g s) h Open)
    same h (inl e) = ap (λ k. is_open (state_at board k)) e ∙ (off ∙ sym (ap (λ k. is_open (state_at (with_state board g s) k)) e ∙ (ap is_open (state_here board g s within) ∙ off')))
    same h (inr other) = sym (ap is_open (state_elsewhere board g s within h other))

-- how many callees of a group aren't published, where one more is
left_split : (board : Board) (g h : ℕ) → g < length board.states → is_out board g ≡ false → left_of board h ≡ left_of (with_state board g Published) h + times g (callees_at board h)
left_split board g h within off = count-split (is_out board) (is_out (with_state board g Published)) g off (ap is_published (state_here board g Published within)) (λ c other. ap is_published (state_elsewhere board g Published within c other)) (callees_at board h)

-- a group that isn't published is counted as often as it stands
pub waits_enough : (board : Board) (left : List ℕ) (opened ready : List Bool) (held : List (Option ℕ)) (unpublished : ℕ) → IsKept board left opened ready held unpublished → (g h : ℕ) → g < length board.states → is_out board g ≡ false → times g (callees_at board h) ≤ get_or left h 0
waits_enough board left opened ready held unpublished is g h within off =
    let split = left_split board g h within off in
    let was = is.waits h in
    omega arith

-- A worker publishes the group that it holds.
pub kept_published : (board : Board) (left left' : List ℕ) (opened ready ready' : List Bool) (held held' : List (Option ℕ)) (unpublished unpublished' : ℕ) → IsKept board left opened ready held unpublished → (g w : ℕ) → state_at board g ≡ Held w → length left' ≡ length left → ((h : ℕ) → get_or left' h 0 + times g (callees_at board h) ≡ get_or left h 0) → AreReady (set board.states g Published) left' ready' → length held' ≡ length held → Holds held' (with_state board g Published) → unpublished' + 1 ≡ unpublished → IsKept (with_state board g Published) left' opened ready' held' unpublished'
kept_published board left left' opened ready ready' held held' unpublished unpublished' is g w was each fewer readies same holds less =
    let within : g < length board.states = held_within board w g was in
    let n : length (set board.states g Published) ≡ length board.states = length-set board.states g Published in
    let off : is_out board g ≡ false = ap is_published was in
    let closed : is_open (state_at board g) ≡ false = ap is_open was in
    record {
      numbered = subst (λ m. m < 2 ^ 32) (sym n) is.numbered;
      each_called = is.each_called ∙ sym n;
      each_left = each ∙ (is.each_left ∙ sym n);
      waits = λ h.
          let split = left_split board g h within off in
          let old = is.waits h in
          let new = fewer h in
          omega arith;
      opens =
          let there : get_or opened g false ≡ false = ap (λ flags. get_or flags g false) is.opens ∙ (get_or-map is_open board.states g Open false within ∙ closed) in
          sym (set-get_or opened g false) ∙ (ap (set opened g) there ∙ (ap (λ flags. set flags g false) is.opens ∙ sym (map-set is_open board.states g Published)));
      readies = readies;
      workers = is.workers ∙ sym same;
      holds = holds;
      counted =
          let c = count-set (λ t. not (is_published t)) board.states g Published Open within in
          let a : one (not (is_published (get_or board.states g Open))) ≡ 1 = ap (λ b. one (not b)) off in
          let was = is.counted in
          omega arith;
    }

-- Each group is open at first.
all_open : {X : Type 0} (xs : List X) (c : ℕ) → get_or (map (λ x. Open) xs) c Open ≡ Open
all_open [] c = refl
all_open (x ∷ xs) zero = refl
all_open (x ∷ xs) (suc c) = all_open xs c

pub open_map : {X : Type 0} (xs : List X) → replicate (length xs) Open ≡ map (λ x. Open) xs
open_map [] = refl
open_map (x ∷ xs) = ap (λ rest. Open ∷ rest) (open_map xs)

opened_map : {X : Type 0} (xs : List X) → replicate (length xs) true ≡ map is_open (map (λ x. Open) xs)
opened_map [] = refl
opened_map (x ∷ xs) = ap (λ rest. true ∷ rest) (opened_map xs)

all_counted : {X : Type 0} (xs : List X) → count_by (λ s. not (is_published s)) (map (λ x. Open) xs) ≡ length xs
all_counted [] = refl
all_counted (x ∷ xs) =
    let rest = all_counted xs in
    let first = sum_by-cons (λ s. one (not (is_published s))) Open (map (λ x. Open) xs) in
    omega arith

none_held : (n w : ℕ) → get_or {A = Option ℕ} (replicate n None) w None ≡ None
none_held n w = elim (cases_lt w n) [
  | inl less ↦ get_or-replicate {A = Option ℕ} n w None None less
  | inr past ↦ get_or_past (replicate n None) w None (subst (λ m. m ≤ w) (sym (length-replicate {A = Option ℕ} n None)) past)
]

pub kept_start : (workers : ℕ) (callees : List (List ℕ)) (left : List ℕ) (ready : List Bool) → length callees < 2 ^ 32 → length left ≡ length callees → ((g : ℕ) → get_or left g 0 ≡ length (get_or callees g [])) → AreReadyAt left ready → IsKept (start workers callees) left (replicate (length callees) true) ready (replicate workers None) (length callees)
kept_start workers callees left ready few each lengths readies =
    let states = map (λ callee. Open) callees in
    let n : length states ≡ length callees = length-map callees (λ callee. Open) in
    record {
      numbered = subst (λ m. m < 2 ^ 32) (sym n) few;
      each_called = sym n;
      each_left = each ∙ sym n;
      waits = λ g. lengths g ∙ sym (count-all (is_out (start workers callees)) (λ c. ap is_published (all_open callees c)) (get_or callees g []));
      opens = opened_map callees;
      readies = record {
        each = readies.each;
        readies = λ g l. readies.readies g l ∙ sym (ap (λ s. is_open s && (get_or left g 0 == 0)) (all_open callees g));
      };
      workers = sym (length-replicate {A = Option ℕ} workers None);
      holds = λ w g. (λ p. absurd (none_some g (sym (none_held workers w) ∙ p)), λ q. absurd (open_not_held w (sym (all_open callees g) ∙ q)));
      counted = sym (all_counted callees);
    }
