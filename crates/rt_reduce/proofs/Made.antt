-- What was made before, as lines go.
use Rattle.std.proofs.Common.{◌≡◌, ℕ, zero, suc, ◌<◌, ◌⊎◌, inl, inr, List, [], ◌∷◌, get_or, length, Contains, sym, subst, ◌∙◌, arith}
use Rattle.std.specs.List.{remove}
use Rattle.std.proofs.lemmas.List.{get_or_default}
use Rattle.std.proofs.lemmas.List.Elements.{All-contains}
use Rattle.rt_base.proofs.Lists.{All-from_contains, Contains-none, Contains-here, Contains-there, Contains-cons_cases}
use Rattle.rt_lines.specs.declared.line.Line.{Line}
use Rattle.rt_lines.specs.declared.line.Line.TheVariants.{Var}
use Rattle.rt_lines.specs.Orders.{Below}
use Rattle.rt_rules.specs.Rules.{Derivable}
use Rattle.rt_rules.specs.Put.{exist}
use Rattle.rt_rules.proofs.Carry.{given}
use Rattle.rt_rules.proofs.Covering.{derives_more}
use Rattle.rt_sat.proofs.Frames.{side_named}
use Rattle.rt_outline.specs.Lines.{Lined}
use Rattle.rt_reduce.specs.Inside.Deciding.{IsInnerFor, IsLowerWith, IsOwnOuter, IsWaysFor}
use Rattle.rt_reduce.specs.Inside.Dropping.{Decides, IsKeptOrGone}
use Rattle.rt_reduce.proofs.Places.{All-removed}

-- an element that is taken out, before the others
pub Contains-taken_out : {X : Type 0} (xs : List X) (i : ℕ) (x y : X) → i < length xs → x ≡ get_or xs i x → Contains xs y →
    Contains (x ∷ remove xs i) y
Contains-taken_out [] i x y h e c = absurd (Contains-none y c)
Contains-taken_out (z ∷ xs) zero x y h e c = subst (λ v. Contains (v ∷ xs) y) (sym e) c
Contains-taken_out (z ∷ xs) (suc i) x y h e c = elim (Contains-cons_cases z xs y c) [
  | inl f ↦ Contains-there x (z ∷ remove xs i) y (subst (Contains (z ∷ remove xs i)) f (Contains-here z (remove xs i)))
  | inr d ↦ (elim (Contains-cons_cases x (remove xs i) y (Contains-taken_out xs i x y (omega (arith, h)) e d)) [
    | inl f ↦ subst (Contains (x ∷ z ∷ remove xs i)) f (Contains-here x (z ∷ remove xs i))
    | inr g ↦ Contains-there x (z ∷ remove xs i) y (Contains-there z (remove xs i) y g)
  ])
]

of_removed : {X : Type 0} (xs : List X) (i : ℕ) (y : X) → Contains (remove xs i) y → Contains xs y
of_removed xs i y c =
    All-contains (Contains xs) (remove xs i) y (All-removed (Contains xs) xs i (All-from_contains (Contains xs) xs (λ k d. d))) c

-- and the other way
of_taken_out : {X : Type 0} (xs : List X) (i : ℕ) (x y : X) → i < length xs → x ≡ get_or xs i x → Contains (x ∷ remove xs i) y → Contains xs y
of_taken_out xs i x y h e c = elim (Contains-cons_cases x (remove xs i) y c) [
  | inl f ↦ (i, h, sym (subst (λ v. v ≡ get_or xs i v) f e))
  | inr d ↦ of_removed xs i y d
]

-- arcs from inside of all lines
pub first_inner : (order : Below) (lines left : List Line) (inner : Lined) → IsLowerWith lines [] inner → left ≡ lines →
    IsInnerFor order left inner
first_inner order lines left inner is e = record {
  derived = λ l c. given order left l (subst (λ ls. Contains ls l) (is.own ∙ sym e) c);
  sides = λ l x c h. side_named lines is.extra inner.named is.names l x (subst (λ ls. Contains ls l) e c) h;
}

module _ (order : Below) (left : List Line) (place : ℕ) (inner : Lined) (is : IsInnerFor order left inner) where
  -- with the line at the place before the others
  pub inner_out : (line : Line) → place < length left → line ≡ get_or left place line → IsInnerFor order (line ∷ remove left place) inner
  inner_out line h e = record {
    derived = λ l c. derives_more order left (line ∷ remove left place)
        (λ m d. given order (line ∷ remove left place) m (Contains-taken_out left place line m h e d)) (is.derived l c);
    sides = λ l x c s. is.sides l x (of_taken_out left place line l h e c) s;
  }

  fewer : (line : Line) → place < length left → line ≡ get_or left place line → Derivable order (remove left place) line →
      IsInnerFor order (remove left place) inner
  fewer line h e d = record {
    derived = λ l c. derives_more order left (remove left place) by (is.derived l c);
    sides = λ l x c s. is.sides l x (of_removed left place l c) s;
  }
    where
      by : (m : Line) → Contains left m → Derivable order (remove left place) m
      by m k = elim (Contains-cons_cases line (remove left place) m (Contains-taken_out left place line m h e k)) [
        | inl f ↦ subst (Derivable order (remove left place)) f d
        | inr g ↦ given order (remove left place) m g
      ]

  -- as the line at the place goes or stays
  pub inner_next : (now : List Line) (line : Line) → place < length left → line ≡ get_or left place line → Decides order left place now →
      IsInnerFor order now inner
  inner_next now line h e decides = by (decides line e)
    where
      by : (Derivable order (remove left place) line × (now ≡ remove left place))
          ⊎ ((Derivable order (remove left place) line → ⊥) × (now ≡ left)) → IsInnerFor order now inner
      by (inl (d, f)) = subst (λ ls. IsInnerFor order ls inner) (sym f) (fewer line h e d)
      by (inr (none, f)) = subst (λ ls. IsInnerFor order ls inner) (sym f) is

-- whatever the line is
pub inner_stays : (order : Below) (left : List Line) (place : ℕ) (inner : Lined) → IsInnerFor order left inner → (now : List Line) →
    place < length left → Decides order left place now → IsInnerFor order now inner
inner_stays order left place inner is now h decides =
    let line = get_or left place (Var (exist 0)) in
    inner_next order left place inner is now line h (sym (get_or_default left place line (Var (exist 0)) h)) decides

-- ways of all lines
pub first_ways : (order : Below) (lines left : List Line) (ways : Lined) → IsOwnOuter lines ways → left ≡ lines → IsWaysFor order left ways
first_ways order lines left ways own e = record {
  inner = first_inner order lines left ways
      (record { extra = []; own = own.0; names = own.1; given = λ x c. absurd (Contains-none x c) }) e;
  among = λ l c. subst (λ ls. Contains ls l) (e ∙ sym own.0) c;
}

module _ (order : Below) (left : List Line) (place : ℕ) (ways : Lined) (are : IsWaysFor order left ways) where
  -- with the line at the place before the others
  pub ways_out : (line : Line) → place < length left → line ≡ get_or left place line → IsWaysFor order (line ∷ remove left place) ways
  ways_out line h e = record {
    inner = inner_out order left place ways are.inner line h e;
    among = λ l c. are.among l (of_taken_out left place line l h e c);
  }

  -- as the line at the place goes or stays
  pub ways_stay : (now : List Line) → place < length left → Decides order left place now → IsKeptOrGone left place now →
      IsWaysFor order now ways
  ways_stay now h decides kept = record {
    inner = inner_stays order left place ways are.inner now h decides;
    among = λ l c. are.among l (by kept l c);
  }
    where
      by : IsKeptOrGone left place now → (l : Line) → Contains now l → Contains left l
      by (inl e) l c = subst (λ ls. Contains ls l) e c
      by (inr e) l c = of_removed left place l (subst (λ ls. Contains ls l) e c)
