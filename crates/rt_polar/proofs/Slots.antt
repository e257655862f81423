-- Slots, and the lines that they hold.
use Rattle.std.proofs.Common.{◌≡◌, ◌≢◌, ℕ, zero, suc, ◌<◌, ◌⊎◌, inl, inr, List, [], ◌∷◌, ◌++◌, length, get_or, take, drop, Contains, Option, Some, None, refl, sym, ap, subst, ◌∙◌, arith}
use Rattle.std.proofs.Math.ListN.{set}
use Rattle.std.proofs.lemmas.List.{get_or-set_same, get_or-set_other}
use Rattle.rt_lines.specs.declared.line.Line.{Line}
use Rattle.rt_rules.proofs.Lists.{Contains-none, Contains-here, Contains-there, Contains-cons_cases}
use Rattle.rt_polar.specs.Inside.Places.{Holds, Stands, lines_of}

-- a slot that holds a line is one of them
pub within : (slots : List (Option Line)) (i : ℕ) (l : Line) → Holds slots i l → i < length slots
within [] i l h = cc
within (s ∷ slots) zero l h = omega arith
within (s ∷ slots) (suc i) l h = let r = within slots i l h in omega arith

pub one_line : (slots : List (Option Line)) (i : ℕ) (k l : Line) → Holds slots i k → Holds slots i l → k ≡ l
one_line slots i k l a b = let e : Some k ≡ Some l = sym a ∙ b in cc

-- an emptied slot
none_there : (slots : List (Option Line)) (i : ℕ) (l : Line) → Holds (set slots i None) i l → ⊥
none_there [] i l h = cc
none_there (s ∷ slots) zero l h = cc
none_there (s ∷ slots) (suc i) l h = none_there slots i l h

pub cleared_source : (slots : List (Option Line)) (i j : ℕ) (l : Line) → Holds (set slots i None) j l → (j ≢ i) × Holds slots j l
cleared_source slots i j l h = (apart, sym (get_or-set_other slots i j None None apart) ∙ h)
  where
    apart : j ≢ i
    apart e = none_there slots i l (subst (λ k. Holds (set slots i None) k l) e h)

pub cleared_here : (slots : List (Option Line)) (i j : ℕ) (l : Line) → Holds slots j l → j ≢ i → Holds (set slots i None) j l
cleared_here slots i j l h apart = get_or-set_other slots i j None None apart ∙ h

-- a filled slot
pub filled_self : (slots : List (Option Line)) (i : ℕ) (l : Line) → i < length slots → Holds (set slots i (Some l)) i l
filled_self slots i l lt = get_or-set_same slots i (Some l) None lt

pub filled_here : (slots : List (Option Line)) (i j : ℕ) (k l : Line) → Holds slots j l → j ≢ i → Holds (set slots i (Some k)) j l
filled_here slots i j k l h apart = get_or-set_other slots i j (Some k) None apart ∙ h

pub filled_source : (slots : List (Option Line)) (i j : ℕ) (k l : Line) → i < length slots → Holds (set slots i (Some k)) j l → ((j ≡ i) × (k ≡ l)) ⊎ ((j ≢ i) × Holds slots j l)
filled_source slots i j k l lt h = by (same_or_apart j i)
  where
    same_or_apart : (j i : ℕ) → (j ≡ i) ⊎ (j ≢ i)
    same_or_apart j i = grind arith

    by : (j ≡ i) ⊎ (j ≢ i) → ((j ≡ i) × (k ≡ l)) ⊎ ((j ≢ i) × Holds slots j l)
    by (inl e) = let f : Some k ≡ Some l = sym (filled_self slots i k lt) ∙ subst (λ m. Holds (set slots i (Some k)) m l) e h in inl (e, cc)
    by (inr apart) = inr (apart, sym (get_or-set_other slots i j (Some k) None apart) ∙ h)

-- the lines before and after a slot
pub lines_cut : (slots : List (Option Line)) (i : ℕ) (l : Line) → Holds slots i l → lines_of slots ≡ lines_of (take i slots) ++ l ∷ lines_of (drop (suc i) slots)
lines_cut [] i l h = cc
lines_cut (None ∷ slots) zero l h = cc
lines_cut (Some k ∷ slots) zero l h = let e : k ≡ l = cc in ap (λ m. m ∷ lines_of slots) e
lines_cut (None ∷ slots) (suc i) l h = lines_cut slots i l h
lines_cut (Some k ∷ slots) (suc i) l h = ap (λ ls. k ∷ ls) (lines_cut slots i l h)

pub lines_cleared : (slots : List (Option Line)) (i : ℕ) → i < length slots → lines_of (set slots i None) ≡ lines_of (take i slots) ++ lines_of (drop (suc i) slots)
lines_cleared [] i lt = absurd (omega arith)
lines_cleared (s ∷ slots) zero lt = refl
lines_cleared (None ∷ slots) (suc i) lt = lines_cleared slots i (omega arith)
lines_cleared (Some k ∷ slots) (suc i) lt = ap (λ ls. k ∷ ls) (lines_cleared slots i (omega arith))

pub lines_filled : (slots : List (Option Line)) (i : ℕ) (l : Line) → i < length slots → lines_of (set slots i (Some l)) ≡ lines_of (take i slots) ++ l ∷ lines_of (drop (suc i) slots)
lines_filled [] i l lt = absurd (omega arith)
lines_filled (s ∷ slots) zero l lt = refl
lines_filled (None ∷ slots) (suc i) l lt = lines_filled slots i l (omega arith)
lines_filled (Some k ∷ slots) (suc i) l lt = ap (λ ls. k ∷ ls) (lines_filled slots i l (omega arith))

-- the lines are those that stand in slots
pub lines_has : (slots : List (Option Line)) (i : ℕ) (l : Line) → Holds slots i l → Contains (lines_of slots) l
lines_has [] i l h = cc
lines_has (None ∷ slots) zero l h = cc
lines_has (Some k ∷ slots) zero l h = let e : k ≡ l = cc in subst (Contains (k ∷ lines_of slots)) e (Contains-here k (lines_of slots))
lines_has (None ∷ slots) (suc i) l h = lines_has slots i l h
lines_has (Some k ∷ slots) (suc i) l h = Contains-there k (lines_of slots) l (lines_has slots i l h)

further : (s : Option Line) (slots : List (Option Line)) (l : Line) → Stands slots l → Stands (s ∷ slots) l
further s slots l (i, h) = (suc i, h)

pub lines_source : (slots : List (Option Line)) (l : Line) → Contains (lines_of slots) l → Stands slots l
lines_source [] l c = absurd (Contains-none l c)
lines_source (None ∷ slots) l c = further None slots l (lines_source slots l c)
lines_source (Some k ∷ slots) l c = by (Contains-cons_cases k (lines_of slots) l c) (λ d. further (Some k) slots l (lines_source slots l d))
  where
    by : (k ≡ l) ⊎ Contains (lines_of slots) l → (Contains (lines_of slots) l → Stands (Some k ∷ slots) l) → Stands (Some k ∷ slots) l
    by (inl e) rest = (0, ap Some e)
    by (inr d) rest = rest d

-- what stands before a slot, or behind it, stands in another one
taken : (slots : List (Option Line)) (n i : ℕ) (l : Line) → Holds (take n slots) i l → (i < n) × Holds slots i l
taken [] zero i l h = cc
taken (s ∷ slots) zero i l h = cc
taken [] (suc n) i l h = cc
taken (s ∷ slots) (suc n) zero l h = (omega arith, h)
taken (s ∷ slots) (suc n) (suc i) l h = let r = taken slots n i l h in (omega (arith, r.0), r.1)

pub before_source : (slots : List (Option Line)) (n : ℕ) (l : Line) → Contains (lines_of (take n slots)) l → (i : ℕ) × (i < n) × Holds slots i l
before_source slots n l c = by (lines_source (take n slots) l c)
  where
    by : Stands (take n slots) l → (i : ℕ) × (i < n) × Holds slots i l
    by (i, h) = let r = taken slots n i l h in (i, r.0, r.1)

dropped : (slots : List (Option Line)) (n i : ℕ) (l : Line) → Holds (drop n slots) i l → (j : ℕ) × (n < suc j) × Holds slots j l
dropped [] zero i l h = (i, omega arith, h)
dropped (s ∷ slots) zero i l h = (i, omega arith, h)
dropped [] (suc n) i l h = cc
dropped (s ∷ slots) (suc n) i l h = let r = dropped slots n i l h in (suc r.0, omega (arith, r.1), r.2)

pub after_source : (slots : List (Option Line)) (n : ℕ) (l : Line) → Contains (lines_of (drop n slots)) l → (i : ℕ) × (n < suc i) × Holds slots i l
after_source slots n l c = by (lines_source (drop n slots) l c)
  where
    by : Stands (drop n slots) l → (j : ℕ) × (n < suc j) × Holds slots j l
    by (i, h) = dropped slots n i l h

-- what a read of a slot gives
pub held_by : (slots : List (Option Line)) (i : ℕ) (d : Option Line) (l : Line) → i < length slots → get_or slots i d ≡ Some l → Holds slots i l
held_by [] i d l lt h = absurd (omega arith)
held_by (s ∷ slots) zero d l lt h = h
held_by (s ∷ slots) (suc i) d l lt h = held_by slots i d l (omega arith) h

pub read_held : (slots : List (Option Line)) (i : ℕ) (d : Option Line) (l : Line) → Holds slots i l → get_or slots i d ≡ Some l
read_held [] i d l h = cc
read_held (s ∷ slots) zero d l h = h
read_held (s ∷ slots) (suc i) d l h = read_held slots i d l h
