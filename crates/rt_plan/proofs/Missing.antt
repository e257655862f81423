-- The least callee of a group that isn't published.
use Rattle.std.proofs.Common.{◌≡◌, ℕ, ◌<◌, ◌==◌, ◌&&◌, ◌⊎◌, inl, inr, not, Bool, true, false, cond, Option, Some, None, List, [], ◌∷◌, All, Contains, fold, length, refl, sym, ap, subst, ◌∙◌, arith}
use Rattle.std.specs.List.{list_any}
use Rattle.std.proofs.lemmas.Bool.{eqb-true, false≢true, and_from, and_parts}
use Rattle.std.proofs.lemmas.List.Elements.{All-contains}
use Rattle.rt_base.proofs.Lists.{Contains-none, Contains-here, Contains-there, Contains-cons_cases, list_any-at, list_any-from}
use Rattle.rt_plan.specs.Plans.{Board, callees_at, first_missing, is_out}
use Rattle.rt_plan.specs.Inside.Leasts.{lesser}
use Rattle.rt_plan.specs.Inside.Boards.{waiting}
use Rattle.rt_plan.proofs.Trees.{IsAtMost, find_some, find_none, lesser_left, lesser_right, lesser_either}
use Rattle.rt_plan.proofs.Counts.{itself}

module _ (board : Board) where
  -- the lesser so far and the next
  abbrev pub next_waiting : Option ℕ → ℕ → Option ℕ
  next_waiting least c = lesser least (waiting board c)

  waits_itself : (c k : ℕ) → waiting board c ≡ Some k → (c ≡ k) × (is_out board k ≡ false)
  waits_itself c k e = by (is_out board c) refl e
    where
      by : (b : Bool) → is_out board c ≡ b → cond b None (Some c) ≡ Some k → (c ≡ k) × (is_out board k ≡ false)
      by true q f = cc
      by false q f = let same : c ≡ k = cc in (same, ap (is_out board) (sym same) ∙ q)

  waits_so : (c : ℕ) → is_out board c ≡ false → IsAtMost c (waiting board c)
  waits_so c off = (c, ap (λ b. cond b None (Some c)) off, omega arith)

  -- what comes of a list is one of it that waits, or was there before
  comes_from : (xs : List ℕ) (least : Option ℕ) (k : ℕ) → fold next_waiting least xs ≡ Some k → (least ≡ Some k) ⊎ (Contains xs k × (is_out board k ≡ false))
  comes_from [] least k e = inl e
  comes_from (x ∷ xs) least k e = elim (comes_from xs (next_waiting least x) k e) [
    | inl here ↦ elim (lesser_either least (waiting board x) k here) [
      | inl before ↦ inl before
      | inr this ↦ let w = waits_itself x k this in inr (subst (Contains (x ∷ xs)) w.0 (Contains-here x xs), w.1)
    ]
    | inr later ↦ inr (Contains-there x xs k later.0, later.1)
  ]

  stays_least : (xs : List ℕ) (least : Option ℕ) (k : ℕ) → IsAtMost k least → IsAtMost k (fold next_waiting least xs)
  stays_least [] least k h = h
  stays_least (x ∷ xs) least k h = stays_least xs (next_waiting least x) k (lesser_left least (waiting board x) k h)

  is_least : (xs : List ℕ) (least : Option ℕ) (k : ℕ) → Contains xs k → is_out board k ≡ false → IsAtMost k (fold next_waiting least xs)
  is_least [] least k c off = absurd (Contains-none k c)
  is_least (x ∷ xs) least k c off = elim (Contains-cons_cases x xs k c) [
    | inl e ↦ stays_least xs (next_waiting least x) k (lesser_right least (waiting board x) k (subst (λ j. IsAtMost j (waiting board x)) e (waits_so x (ap (is_out board) e ∙ off))))
    | inr later ↦ is_least xs (next_waiting least x) k later off
  ]

  -- whether a number is a callee that isn't published
  abbrev is_missing : List ℕ → ℕ → Bool
  is_missing xs c = list_any (λ d. d == c) xs && not (is_out board c)

  missing_there : (xs : List ℕ) (c : ℕ) → Contains xs c → is_out board c ≡ false → is_missing xs c ≡ true
  missing_there xs c has off = and_from (list_any (λ d. d == c) xs) (not (is_out board c)) (list_any-from (λ d. d == c) xs c has (itself c)) (ap not off)

  missing_parts : (xs : List ℕ) (c : ℕ) → is_missing xs c ≡ true → Contains xs c × (is_out board c ≡ false)
  missing_parts xs c e =
      let both = and_parts (list_any (λ d. d == c) xs) (not (is_out board c)) e in
      let there = list_any-at (λ d. d == c) xs both.0 in
      (subst (Contains xs) (eqb-true there.0 c there.2) there.1, off (is_out board c) both.1)
    where
      off : (b : Bool) → not b ≡ true → b ≡ false
      off true f = absurd (false≢true f)
      off false f = refl

  pub missing_told : (g : ℕ) → All (λ c. c < length board.states) (callees_at board g) → fold next_waiting None (callees_at board g) ≡ first_missing board g
  missing_told g within = by (fold next_waiting None (callees_at board g)) refl
    where
      by : (o : Option ℕ) → fold next_waiting None (callees_at board g) ≡ o → o ≡ first_missing board g
      by None e = sym (find_none (is_missing (callees_at board g)) 0 (length board.states) (λ j l h. fails j (is_missing (callees_at board g) j) refl))
        where
          fails : (j : ℕ) (b : Bool) → is_missing (callees_at board g) j ≡ b → is_missing (callees_at board g) j ≡ false
          fails j true q =
              let there = missing_parts (callees_at board g) j q in
              let least = is_least (callees_at board g) None j there.0 there.1 in
              let is = least.1 in
              cc
          fails j false q = q
      by (Some k) e = elim (comes_from (callees_at board g) None k e) [
        | inl never ↦ cc
        | inr there ↦
            let less : k < length board.states = All-contains (λ c. c < length board.states) (callees_at board g) k within there.0 in
            sym (find_some (is_missing (callees_at board g)) 0 (length board.states) k (omega arith) (omega arith) (missing_there (callees_at board g) k there.0 there.1) (λ j l h. fails j h (is_missing (callees_at board g) j) refl))
      ]
        where
          fails : (j : ℕ) → j < k → (b : Bool) → is_missing (callees_at board g) j ≡ b → is_missing (callees_at board g) j ≡ false
          fails j less true q =
              let there = missing_parts (callees_at board g) j q in
              let least = is_least (callees_at board g) None j there.0 there.1 in
              let is = least.1 in
              let same : k ≡ least.0 = cc in
              let le = least.2 in
              absurd (omega arith)
          fails j less false q = q
