-- Each number drives a plan to its end, in one way alone.
use Rattle.std.proofs.Common.{◌≡◌, ℕ, zero, suc, ◌<◌, ◌&&◌, inl, inr, not, Bool, true, false, cond, Option, Some, None, is_none, List, [], ◌∷◌, Contains, length, get_or, refl, sym, ap, subst, ◌∙◌, arith, true≢false}
use Rattle.std.specs.Prelude.{find}
use Rattle.std.specs.List.{list_all, sum_by}
use Rattle.std.proofs.lemmas.Bool.{cases_eq, false≢true, and_from}
use Rattle.std.proofs.lemmas.List.{get_or_default}
use Rattle.std.proofs.lemmas.List.Elements.{All-contains}
use Rattle.std.proofs.lemmas.List.Sums.{sum_by-set}
use Rattle.rt_base.proofs.Lists.{Contains-none, Contains-cons_cases, list_all-from}
use Rattle.rt_plan.specs.declared.event.State.{State}
use Rattle.rt_plan.specs.declared.event.State.TheVariants.{Open, Held, Published}
use Rattle.rt_plan.specs.Plans.{AreLower, Board, callees_at, first_ready, groups_in, held_by, is_done, is_held_by, is_open, is_out, is_published, state_at, with_state}
use Rattle.rt_plan.specs.Driver.{Drives, ends, publishes, takes, helps, first_holder, next_state, turn_of}
use Rattle.rt_plan.specs.Laws.{AreDriven, Driven, OneDrive}
use Rattle.rt_plan.proofs.Trees.{found, found_none}
use Rattle.rt_plan.proofs.Counts.{itself}
use Rattle.rt_plan.proofs.Keeping.{first_ready_within, held_number, held_state, held_within, published_not_held, state_elsewhere, state_here}

-- what is left to do
abbrev pub weight : State → ℕ
weight Open = 2
weight (Held w) = 1
weight Published = 0

abbrev pub work : Board → ℕ
work board = sum_by weight board.states

pub less_work : (board : Board) (g : ℕ) (s : State) → g < length board.states → weight s < weight (state_at board g) → work (with_state board g s) < work board
less_work board g s within less = let sum = sum_by-set weight board.states g s Open within in omega arith

pub driven_set : (board : Board) → AreDriven board → (g : ℕ) (s : State) → g < length board.states → ((w : ℕ) → s ≡ Held w → w < 4) → AreDriven (with_state board g s)
driven_set board is g s within new = λ h w e. elim (cases_eq h g) [
  | inl same ↦ new w (sym (state_here board g s within) ∙ (ap (state_at (with_state board g s)) (sym same) ∙ e))
  | inr other ↦ is h w (sym (state_elsewhere board g s within h other) ∙ e)
]

-- What a list's search finds.
find_true : (p : ℕ → Bool) (xs : List ℕ) (x : ℕ) → find p xs ≡ Some x → p x ≡ true
find_true p [] x e = cc
find_true p (y ∷ xs) x e = by (p y) refl e (find_true p xs x)
  where
    by : (b : Bool) → p y ≡ b → cond b (Some y) (find p xs) ≡ Some x → (find p xs ≡ Some x → p x ≡ true) → p x ≡ true
    by true q f rest = let same : y ≡ x = cc in subst (λ z. p z ≡ true) same q
    by false q f rest = rest f

find_never : (p : ℕ → Bool) (xs : List ℕ) (x : ℕ) → find p xs ≡ None → Contains xs x → p x ≡ false
find_never p [] x e c = absurd (Contains-none x c)
find_never p (y ∷ xs) x e c = by (p y) refl e (find_never p xs x)
  where
    by : (b : Bool) → p y ≡ b → cond b (Some y) (find p xs) ≡ None → (find p xs ≡ None → Contains xs x → p x ≡ false) → p x ≡ false
    by true q f rest = cc
    by false q f rest = elim (Contains-cons_cases y xs x c) [
      | inl same ↦ subst (λ z. p z ≡ false) same q
      | inr later ↦ rest f later
    ]

four : (w : ℕ) → w < 4 → Contains (0 ∷ 1 ∷ 2 ∷ 3 ∷ []) w
four zero h = (0, omega arith, refl)
four (suc zero) h = (1, omega arith, refl)
four (suc (suc zero)) h = (2, omega arith, refl)
four (suc (suc (suc zero))) h = (3, omega arith, refl)
four (suc (suc (suc (suc w)))) h = absurd (omega arith)

-- Who holds what.
pub held_some : (board : Board) (w g : ℕ) → state_at board g ≡ Held w → (h : ℕ) × (held_by board w ≡ Some h)
held_some board w g e = by (held_by board w) refl
  where
    by : (o : Option ℕ) → held_by board w ≡ o → (h : ℕ) × (held_by board w ≡ Some h)
    by (Some h) q = (h, q)
    by None q =
        let within = held_within board w g e in
        let off : is_held_by w (state_at board g) ≡ false = found_none (λ h. is_held_by w (state_at board h)) 0 (length board.states) q g (omega arith) (omega arith) in
        absurd (false≢true (sym off ∙ (ap (is_held_by w) e ∙ itself w)))

-- a worker that holds a group, and the least of them
abbrev Holder : Board → Type 0
Holder board = (w : ℕ) × (g : ℕ) × (first_holder board ≡ Some w) × (held_by board w ≡ Some g)

pub holder : (board : Board) (w g : ℕ) → w < 4 → held_by board w ≡ Some g → Holder board
holder board w g less e = by (first_holder board) refl
  where
    on : not (is_none (held_by board w)) ≡ true
    on = ap (λ o. not (is_none o)) e

    by : (o : Option ℕ) → first_holder board ≡ o → Holder board
    by None q = absurd (false≢true (sym (find_never (λ v. not (is_none (held_by board v))) (0 ∷ 1 ∷ 2 ∷ 3 ∷ []) w q (four w less)) ∙ on))
    by (Some v) q = holds (held_by board v) refl
      where
        holds : (o : Option ℕ) → held_by board v ≡ o → Holder board
        holds (Some h) r = (v, h, q, r)
        holds None r = absurd (false≢true (ap (λ o. not (is_none o)) (sym r) ∙ find_true (λ u. not (is_none (held_by board u))) (0 ∷ 1 ∷ 2 ∷ 3 ∷ []) v q))

not_off : (b : Bool) → not b ≡ true → b ≡ false
not_off true e = absurd (false≢true e)
not_off false e = refl

not_on : (b : Bool) → not b ≡ false → b ≡ true
not_on true e = refl
not_on false e = absurd (true≢false e)

-- where not all is published and no group is ready, one is held: the least that isn't published
pub some_held : (board : Board) → AreLower board.callees → is_done board ≡ false → first_ready board ≡ None → (w : ℕ) × (g : ℕ) × (state_at board g ≡ Held w)
some_held board lower undone none = by (find (λ g. not (is_out board g)) (groups_in board)) refl
  where
    by : (o : Option ℕ) → find (λ g. not (is_out board g)) (groups_in board) ≡ o → (w : ℕ) × (g : ℕ) × (state_at board g ≡ Held w)
    by None e = absurd (false≢true (sym undone ∙ list_all-from is_published board.states (λ s has. out s has.0 has.1 has.2)))
      where
        out : (s : State) (k : ℕ) → k < length board.states → get_or board.states k s ≡ s → is_published s ≡ true
        out s k less is =
            let on : is_out board k ≡ true = not_on (is_out board k) (found_none (λ g. not (is_out board g)) 0 (length board.states) e k (omega arith) (omega arith)) in
            ap is_published (sym is ∙ get_or_default board.states k s Open less) ∙ on
    by (Some g) e = state (state_at board g) refl
      where
        first : (g < length board.states) × (is_out board g ≡ false) × ((c : ℕ) → c < g → is_out board c ≡ true)
        first =
            let f = found (λ h. not (is_out board h)) 0 (length board.states) g e in
            let h = f.high in
            (omega arith, not_off (is_out board g) f.passes, λ c less. not_on (is_out board c) (f.before c (omega arith) less))

        state : (s : State) → state_at board g ≡ s → (w : ℕ) × (h : ℕ) × (state_at board h ≡ Held w)
        state (Held w) q = (w, g, q)
        state Published q = absurd (true≢false (sym (ap is_published q) ∙ first.1))
        state Open q =
            let within = first.0 in
            let off = found_none (λ h. is_open (state_at board h) && list_all (is_out board) (callees_at board h)) 0 (length board.states) none g (omega arith) (omega arith) in
            let called : list_all (is_out board) (callees_at board g) ≡ true = list_all-from (is_out board) (callees_at board g) (λ c has. first.2 c (All-contains (λ d. d < g) (callees_at board g) c (lower g) has)) in
            absurd (false≢true (sym off ∙ and_from (is_open (state_at board g)) (list_all (is_out board) (callees_at board g)) (ap is_open q) called))

-- One turn, where boards with less to do are driven to their end.
abbrev Goes : ℕ → ℕ → Type 0
Goes fuel number = (board : Board) → work board < fuel → AreLower board.callees → AreDriven board → (claims : List (ℕ × ℕ)) × Drives number board claims

module _ (fuel number : ℕ) (board : Board) (less : work board < suc fuel) (lower : AreLower board.callees) (is : AreDriven board) (undone : is_done board ≡ false) (go : Goes fuel (next_state number)) where
  -- one worker publishes the group that it holds
  after_publish : (w g : ℕ) → held_by board w ≡ Some g → (claims : List (ℕ × ℕ)) × Drives (next_state number) (with_state board g Published) claims
  after_publish w g e =
      let s : state_at board g ≡ Held w = held_state board w g e in
      let within = held_within board w g s in
      let one : weight (state_at board g) ≡ 1 = ap weight s in
      let step = less_work board g Published within (omega arith) in
      go (with_state board g Published) (omega arith) lower (driven_set board is g Published within (λ v q. absurd (published_not_held v q)))

  after_take : (g : ℕ) → first_ready board ≡ Some g → (claims : List (ℕ × ℕ)) × Drives (next_state number) (with_state board g (Held (turn_of (next_state number)))) claims
  after_take g e =
      let worker = turn_of (next_state number) in
      let ready = first_ready_within board g e in
      let two : weight (state_at board g) ≡ 2 = ap weight ready.1 in
      let step = less_work board g (Held worker) ready.0 (omega arith) in
      go (with_state board g (Held worker)) (omega arith) lower (driven_set board is g (Held worker) ready.0 (λ v q. let same : worker ≡ v = held_number worker v q in subst (λ n. n < 4) same (omega arith)))

  ready_turn : held_by board (turn_of (next_state number)) ≡ None → (o : Option ℕ) → first_ready board ≡ o → (claims : List (ℕ × ℕ)) × Drives number board claims
  ready_turn none (Some g) e =
      let rest = after_take g e in
      ((turn_of (next_state number), g) ∷ rest.0, takes undone none e rest.1)
  ready_turn none None e =
      let held = some_held board lower undone e in
      let some = held_some board held.0 held.1 held.2 in
      let first = holder board held.0 some.0 (is held.1 held.0 held.2) some.1 in
      let rest = after_publish first.0 first.1 first.3 in
      (rest.0, helps undone none e first.2 first.3 rest.1)

  turn : (o : Option ℕ) → held_by board (turn_of (next_state number)) ≡ o → (claims : List (ℕ × ℕ)) × Drives number board claims
  turn (Some g) e =
      let rest = after_publish (turn_of (next_state number)) g e in
      (rest.0, publishes undone e rest.1)
  turn None e = ready_turn e (first_ready board) refl

drive : (fuel number : ℕ) → Goes fuel number
drive zero number board less lower is = absurd (omega arith)
drive (suc fuel) number board less lower is = by (is_done board) refl (drive fuel (next_state number))
  where
    by : (b : Bool) → is_done board ≡ b → Goes fuel (next_state number) → (claims : List (ℕ × ℕ)) × Drives number board claims
    by true e go = ([], ends e)
    by false e go = turn fuel number board less lower is e go (held_by board (turn_of (next_state number))) refl

pub driven : Driven
driven number board lower is = drive (suc (work board)) number board (omega arith) lower is

-- Two drives of one board.
same_some : (g h : ℕ) (o : Option ℕ) → o ≡ Some g → o ≡ Some h → g ≡ h
same_some g h o p q = let e : Some g ≡ Some h = sym p ∙ q in cc

no_some : {P : Type 0} (g : ℕ) (o : Option ℕ) → o ≡ Some g → o ≡ None → P
no_some g o p q = let e : Some g ≡ None = sym p ∙ q in cc

done_undone : {P : Type 0} (b : Bool) → b ≡ true → b ≡ false → P
done_undone b p q = absurd (true≢false (sym p ∙ q))

one : {number : ℕ} {board : Board} {claims others : List (ℕ × ℕ)} → Drives number board claims → Drives number board others → claims ≡ others
one (ends d) (ends e) = refl
one (ends d) (publishes n h r) = done_undone _ d n
one (ends d) (takes n h f r) = done_undone _ d n
one (ends d) (helps n h f w k r) = done_undone _ d n
one (publishes n h r) (ends d) = done_undone _ d n
one {number = number} {board = board} (publishes {g = g} n h r) (publishes {g = k} {claims = rest} m i q) =
    let same : k ≡ g = same_some k g _ i h in
    one r (subst (λ j. Drives (next_state number) (with_state board j Published) rest) same q)
one (publishes n h r) (takes m i f q) = no_some _ _ h i
one (publishes n h r) (helps m i f w k q) = no_some _ _ h i
one (takes n h f r) (ends d) = done_undone _ d n
one (takes n h f r) (publishes m i q) = no_some _ _ i h
one {number = number} {board = board} (takes {g = g} n h f r) (takes {g = k} {claims = rest} m i e q) =
    let same : k ≡ g = same_some k g _ e f in
    let later = one r (subst (λ j. Drives (next_state number) (with_state board j (Held (turn_of (next_state number)))) rest) same q) in
    ap (λ list. (turn_of (next_state number), g) ∷ list) later ∙ ap (λ j. (turn_of (next_state number), j) ∷ rest) (sym same)
one (takes n h f r) (helps m i e w k q) = no_some _ _ f e
one (helps n h f w k r) (ends d) = done_undone _ d n
one (helps n h f w k r) (publishes m i q) = no_some _ _ i h
one (helps n h f w k r) (takes m i e q) = no_some _ _ e f
one {number = number} {board = board} (helps {w = w} {g = g} n h f a b r) (helps {w = v} {g = k} {claims = rest} m i e c d q) =
    let worker : v ≡ w = same_some v w _ c a in
    let same : k ≡ g = same_some k g (held_by board w) (subst (λ u. held_by board u ≡ Some k) worker d) b in
    one r (subst (λ j. Drives (next_state number) (with_state board j Published) rest) same q)

pub one_drive : OneDrive
one_drive number board claims others p q = one p q
