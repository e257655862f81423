-- Lines that stand, of which one is left out or put back.
use Rattle.std.proofs.Common.{◌≡◌, ℕ, zero, suc, ◌+◌, ◌<◌, ◌≤◌, inl, inr, List, [], ◌∷◌, Bool, true, false, Contains, Option, Some, None}
use Rattle.std.proofs.Common.{Bor, length, get_or, set, replicate, take, refl, sym, ap, subst, ◌∙◌, arith}
use Rattle.std.specs.List.{remove}
use Rattle.std.specs.Option.{IfSome, option_copied}
use Rattle.std.specs.Prelude.{slice_get}
use Rattle.std.proofs.lemmas.List.{get_or-replicate, get_or-set_other, length-set, set-get_or, set-set}
use Rattle.std.proofs.lemmas.List.Elements.{All-contains}
use Rattle.std.proofs.lemmas.Option.{get_or_from_slice_get, slice_get_within}
use Rattle.rt_base.proofs.Lists.{All-from_contains, Contains-here, Contains-there}
use Rattle.rt_lines.specs.declared.variable.Dtv.{Dtv}
use Rattle.rt_lines.specs.declared.line.Line.{Line}
use Rattle.rt_rules.specs.Rules.{HasSide}
use Rattle.rt_named.specs.Naming.{named as named_by}
use Rattle.rt_sat.proofs.Frames.{side_named}
use Rattle.rt_outline.specs.Lines.{Lined, standing}
use Rattle.rt_outline.proofs.Standing.{Stands, standing_line}
use Rattle.rt_witness.specs.Witnesses.{IsLeft}
use Rattle.rt_reduce.specs.Inside.Deciding.{AreStanding, AreWitnessed, IsOuterOf, IsOuterFor}
use Rattle.rt_reduce.specs.Inside.Dropping.{IsMoved}
use Rattle.rt_reduce.proofs.Places.{All-removed}

remove_none : {X : Type 0} (i : ℕ) → remove {X = X} [] i ≡ []
remove_none zero = refl
remove_none (suc i) = refl

-- all flags before a place are set
abbrev pub AreSetTo : List Bool → ℕ → Type 0
AreSetTo flags place = (i : ℕ) → i < place → get_or flags i false ≡ true

-- where all flags up to a place are set, the line of the place is left out as its flag is cleared
pub standing_out : (lines : List Line) (flags : List Bool) (i : ℕ) → AreSetTo flags (i + 1) →
    standing lines (set flags i false) ≡ remove (standing lines flags) i
standing_out [] flags i h = sym (remove_none i)
standing_out (l ∷ lines) [] i h = let e : get_or [] 0 false ≡ true = h 0 (omega arith) in absurd (cc)
standing_out (l ∷ lines) (false ∷ flags) i h = let e : get_or (false ∷ flags) 0 false ≡ true = h 0 (omega arith) in absurd (cc)
standing_out (l ∷ lines) (true ∷ flags) zero h = refl
standing_out (l ∷ lines) (true ∷ flags) (suc i) h = ap (λ ls. l ∷ ls) (standing_out lines flags i (λ j k. h (suc j) (omega (arith, k))))

-- where all flags up to a place are set, the line of the place stands there
pub standing_at : (lines : List Line) (flags : List Bool) (i : ℕ) → AreSetTo flags (i + 1) →
    slice_get (standing lines flags) i ≡ slice_get lines i
standing_at [] flags i h = refl
standing_at (l ∷ lines) [] i h = let e : get_or [] 0 false ≡ true = h 0 (omega arith) in absurd (cc)
standing_at (l ∷ lines) (false ∷ flags) i h = let e : get_or (false ∷ flags) 0 false ≡ true = h 0 (omega arith) in absurd (cc)
standing_at (l ∷ lines) (true ∷ flags) zero h = refl
standing_at (l ∷ lines) (true ∷ flags) (suc i) h = standing_at lines flags i (λ j k. h (suc j) (omega (arith, k)))

-- where all flags before a place are set, the lines before it stand there
pub standing_before : (lines : List Line) (flags : List Bool) (i : ℕ) → AreSetTo flags i → take i (standing lines flags) ≡ take i lines
standing_before lines flags zero h = refl
standing_before [] flags (suc i) h = refl
standing_before (l ∷ lines) [] (suc i) h = let e : get_or [] 0 false ≡ true = h 0 (omega arith) in absurd (cc)
standing_before (l ∷ lines) (false ∷ flags) (suc i) h = let e : get_or (false ∷ flags) 0 false ≡ true = h 0 (omega arith) in absurd (cc)
standing_before (l ∷ lines) (true ∷ flags) (suc i) h =
    ap (λ ls. l ∷ ls) (standing_before lines flags i (λ j k. h (suc j) (omega (arith, k))))

-- a flag that was set, cleared and set again
pub set_again : (flags : List Bool) (i : ℕ) → get_or flags i false ≡ true → set (set flags i false) i true ≡ flags
set_again flags i e = set-set flags i false true ∙ ap (set flags i) (sym e) ∙ set-get_or flags i false

all_stand : (lines : List Line) → standing lines (replicate (length lines) true) ≡ lines
all_stand [] = refl
all_stand (l ∷ lines) = ap (λ ls. l ∷ ls) (all_stand lines)

standing_of : (lines : List Line) (flags : List Bool) (l : Line) → Contains (standing lines flags) l → Contains lines l
standing_of lines flags l c =
    let r : (i : ℕ) × ((slice_get lines i ≡ Some l) × (get_or flags i false ≡ true)) = standing_line lines flags l c in
    (r.0, slice_get_within lines r.0 l r.1.0, get_or_from_slice_get lines r.0 l l r.1.0)

removed_of : (lines : List Line) (i : ℕ) (l : Line) → Contains (remove lines i) l → Contains lines l
removed_of lines i l c =
    All-contains (Contains lines) (remove lines i) l
    (All-removed (Contains lines) lines i (All-from_contains (Contains lines) lines (λ k d. d))) c

-- before the first step
pub first_standing : (lines left : List Line) (stands : List Bool) (place : ℕ) (outer : Lined) → IsOuterOf lines outer → left ≡ lines →
    stands ≡ replicate (length lines) true → place ≤ length lines → AreStanding left stands place outer
first_standing lines left stands place outer own e f g = record {
  sides = λ l x c h. own.1 l x (subst (λ ls. Contains ls l) own.0 c) h;
  left_are = e ∙ sym (all_stand lines) ∙ ap (λ ls. standing ls (replicate (length lines) true)) (sym own.0)
      ∙ ap (standing outer.lines) (sym f);
  before = λ i h. ap (λ fs. get_or fs i false) f ∙ get_or-replicate (length lines) i true false (omega (arith, h, g));
}

module _ (left : List Line) (stands : List Bool) (place : ℕ) (outer : Lined) (are : AreStanding left stands (place + 1) outer) where
  out : remove left place ≡ standing outer.lines (set stands place false)
  out = ap (λ ls. remove ls place) are.left_are ∙ sym (standing_out outer.lines stands place are.before)

  named_side : (l : Line) (x : Dtv) → Contains left l → HasSide l x → Contains outer.named x
  named_side l x c h =
      are.sides l x (standing_of outer.lines stands l (subst (λ ls. Contains ls l) are.left_are c)) h

  -- the line is left out
  pub outer_for : (line : Line) → Contains left line → IsOuterFor (remove left place) (set stands place false) line outer
  outer_for line c = record {
    left_are = out;
    sides = λ l x d h. named_side l x (removed_of left place l d) h;
    line_sides = λ x h. named_side line x c h;
  }

  pub standing_gone : AreStanding (remove left place) (set stands place false) place outer
  standing_gone = record {
    sides = are.sides;
    left_are = out;
    before = λ i h. get_or-set_other stands place i false false (λ e. omega (arith, e, h)) ∙ are.before i (omega (arith, h));
  }

  -- it is put back
  pub standing_kept : AreStanding left (set (set stands place false) place true) place outer
  standing_kept =
      let same : set (set stands place false) place true ≡ stands = set_again stands place (are.before place (omega arith)) in
      record {
        sides = are.sides;
        left_are = are.left_are ∙ ap (standing outer.lines) (sym same);
        before = λ i h. ap (λ fs. get_or fs i false) same ∙ are.before i (omega (arith, h));
      }

pub standing_has : (lines : List Line) (flags : List Bool) (i : ℕ) (l : Line) → slice_get lines i ≡ Some l → get_or flags i false ≡ true →
    Contains (standing lines flags) l
standing_has [] flags i l at is = absurd (let h : i < 0 = slice_get_within [] i l at in omega arith)
standing_has (k ∷ lines) [] i l at is = absurd (let e : get_or [] i false ≡ true = is in cc)
standing_has (k ∷ lines) (true ∷ flags) zero l at is =
    let same : k ≡ l = cc in
    subst (Contains (k ∷ standing lines flags)) same (Contains-here k (standing lines flags))
standing_has (k ∷ lines) (false ∷ flags) zero l at is = absurd (cc)
standing_has (k ∷ lines) (true ∷ flags) (suc i) l at is = Contains-there k (standing lines flags) l (standing_has lines flags i l at is)
standing_has (k ∷ lines) (false ∷ flags) (suc i) l at is = standing_has lines flags i l at is

-- those that stand are left
standing_left : (lines : List Line) (flags : List Bool) → IsLeft lines flags (standing lines flags)
standing_left lines flags = record {
  only = λ l c. let r : (i : ℕ) × Stands lines flags i l = standing_line lines flags l c in (r.0, r.1.0, r.1.1);
  all = λ i l at is. standing_has lines flags i l at is;
}

-- what is left without a line are those whose flags are set
pub left_gone : (lines left : List Line) (stands : List Bool) (place : ℕ) → AreWitnessed lines left stands (place + 1) →
    IsLeft lines (set stands place false) (remove left place)
left_gone lines left stands place are =
    subst (IsLeft lines (set stands place false))
    (sym (standing_gone left stands place (record { lines = lines; named = named_by lines [] }) are).left_are)
    (standing_left lines (set stands place false))

-- before the first step
pub first_witnessed : (lines left : List Line) (stands : List Bool) (place : ℕ) → left ≡ lines → stands ≡ replicate (length lines) true →
    place ≤ length lines → AreWitnessed lines left stands place
first_witnessed lines left stands place = first_standing lines left stands place (record { lines = lines; named = named_by lines [] })
    (refl, λ l x c h. side_named lines [] (named_by lines []) refl l x c h)

-- what is said of arcs is said of a reference to it
pub referred : {T : Type 0} (P : T → Type 0) (made : Option T) (outer : Option (Bor T)) → option_copied outer ≡ made → IfSome made P →
    IfSome outer (λ t. P t.now)
referred P made None e h = tt
referred P made (Some t) e h = subst (λ o. IfSome o P) (sym e) h

-- the line of the place has gone or stays
pub moved_standing : (left now : List Line) (stands flags : List Bool) (place : ℕ) (outer : Lined) → IsMoved left stands place now flags →
    AreStanding left stands (place + 1) outer → AreStanding now flags place outer
moved_standing left now stands flags place outer (inl m) are =
    subst (λ ls. AreStanding ls flags place outer) (sym m.0)
    (subst (λ fs. AreStanding (remove left place) fs place outer) (sym m.1) (standing_gone left stands place outer are))
moved_standing left now stands flags place outer (inr m) are =
    subst (λ ls. AreStanding ls flags place outer) (sym m.0)
    (subst (λ fs. AreStanding left fs place outer) (sym m.1) (standing_kept left stands place outer are))

pub moved_long : (left now : List Line) (stands flags : List Bool) (place : ℕ) → IsMoved left stands place now flags →
    length flags ≡ length stands
moved_long left now stands flags place (inl m) = ap length m.1 ∙ length-set stands place false
moved_long left now stands flags place (inr m) =
    ap length m.1 ∙ length-set (set stands place false) place true ∙ length-set stands place false
