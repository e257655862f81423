-- Arcs of lines, for other lines with the same flow.
use Rattle.std.proofs.Common.{◌≡◌, ℕ, zero, suc, ◌<◌, inl, inr, Bool, true, false, List, [], ◌∷◌, Contains, Option, Some, None, length}
use Rattle.std.proofs.Common.{get_or, refl, sym, ap, subst, ◌∙◌, arith}
use Rattle.std.specs.Prelude.{◌↔◌, slice_get}
use Rattle.std.proofs.lemmas.Option.{get_or_from_slice_get, slice_get-get_or, slice_get_within}
use Rattle.rt_base.proofs.Lists.{Contains-here, Contains-there}
use Rattle.rt_lines.specs.declared.variable.Dtv.{Dtv}
use Rattle.rt_lines.specs.declared.line.Line.{Line}
use Rattle.rt_lines.specs.declared.line.Line.TheVariants.{Var, Same, Sub, Low, Up}
use Rattle.rt_lines.specs.Orders.{Below}
use Rattle.rt_rules.specs.Rules.{Derivable}
use Rattle.rt_rules.proofs.Carry.{given}
use Rattle.rt_rules.proofs.Covering.{derives_more}
use Rattle.rt_components.specs.Groups.{Reaches}
use Rattle.rt_components.proofs.Reaching.{reaches_by}
use Rattle.rt_outline.specs.declared.arc.Arc.{Arc}
use Rattle.rt_outline.specs.declared.bounds.Bound.{Bound}
use Rattle.rt_outline.specs.Arcs.{HasArc, Leads, allows}
use Rattle.rt_outline.specs.Enclosing.{IsOuter}
use Rattle.rt_outline.specs.Frames.{variable_at}
use Rattle.rt_outline.specs.Inside.Bounds.{AreBounds, upper_bound}
use Rattle.rt_outline.specs.Lines.{AreLineArcs, HaveSameFlow, IsLineArc, IsNumber, standing}
use Rattle.rt_outline.proofs.Standing.{Stands, standing_line}

-- flags of lines where all those stand that are no flow
abbrev flag_of : Line → Bool → Bool
flag_of (Var x) flag = true
flag_of (Same x y) flag = true
flag_of (Sub x y) flag = flag
flag_of (Low k x) flag = flag
flag_of (Up x k) flag = flag

abbrev flags_of : List Line → List Bool → List Bool
flags_of [] flags = []
flags_of (l ∷ lines) [] = flag_of l false ∷ flags_of lines []
flags_of (l ∷ lines) (flag ∷ flags) = flag_of l flag ∷ flags_of lines flags

flag_at : (lines : List Line) (flags : List Bool) (i : ℕ) (l : Line) → slice_get lines i ≡ Some l →
    get_or (flags_of lines flags) i false ≡ flag_of l (get_or flags i false)
flag_at [] flags i l e = absurd (cc)
flag_at (k ∷ lines) [] zero l e = let f : k ≡ l = cc in ap (λ (m : Line). flag_of m false) f
flag_at (k ∷ lines) (flag ∷ flags) zero l e = let f : k ≡ l = cc in ap (λ (m : Line). flag_of m flag) f
flag_at (k ∷ lines) [] (suc i) l e = flag_at lines [] i l e
flag_at (k ∷ lines) (flag ∷ flags) (suc i) l e = flag_at lines flags i l e

standing_has : (lines : List Line) (flags : List Bool) (i : ℕ) (l : Line) → slice_get lines i ≡ Some l → get_or flags i false ≡ true →
    Contains (standing lines flags) l
standing_has [] flags i l at is = absurd (cc)
standing_has (k ∷ lines) [] i l at is = absurd (let e : get_or [] i false ≡ true = is in cc)
standing_has (k ∷ lines) (true ∷ flags) zero l at is =
    let same : k ≡ l = cc in
    subst (Contains (k ∷ standing lines flags)) same (Contains-here k (standing lines flags))
standing_has (k ∷ lines) (false ∷ flags) zero l at is = absurd (cc)
standing_has (k ∷ lines) (true ∷ flags) (suc i) l at is =
    Contains-there k (standing lines flags) l (standing_has lines flags i l at is)
standing_has (k ∷ lines) (false ∷ flags) (suc i) l at is = standing_has lines flags i l at is

module _ (lines others : List Line) (same : HaveSameFlow lines others) (flags : List Bool) where
  -- each line that stands among the others stands
  at_place : (i : ℕ) (l : Line) → slice_get lines i ≡ Some l → flag_of l (get_or flags i false) ≡ true →
      Contains (standing lines (flags_of lines flags)) l
  at_place i l at is = standing_has lines (flags_of lines flags) i l at (flag_at lines flags i l at ∙ is)

  stands_too : (l : Line) → Contains (standing others flags) l → Contains (standing lines (flags_of lines flags)) l
  stands_too l c = let (i, (at, is)) = standing_line others flags l c in by l i at is
    where
      among : (i : ℕ) (l : Line) → slice_get others i ≡ Some l → Contains others l
      among i l at = (i, slice_get_within others i l at, get_or_from_slice_get others i l l at)

      anywhere : (l : Line) → Contains others l → ((flag : Bool) → flag_of l flag ≡ true) →
          Contains (standing lines (flags_of lines flags)) l
      anywhere l d whole = let c = same.rest l d in at_place c.0 l (slice_get-get_or lines c.0 l c.1 ∙ ap Some c.2) (whole (get_or flags c.0 false))

      by : (l : Line) (i : ℕ) → slice_get others i ≡ Some l → get_or flags i false ≡ true →
          Contains (standing lines (flags_of lines flags)) l
      by (Var x) i at is = anywhere (Var x) (among i (Var x) at) (λ flag. refl)
      by (Same x y) i at is = anywhere (Same x y) (among i (Same x y) at) (λ flag. refl)
      by (Sub x y) i at is = at_place i (Sub x y) ((same.subtypes i x y).1 at) is
      by (Low k x) i at is = at_place i (Low k x) ((same.lows i k x).1 at) is
      by (Up x k) i at is = at_place i (Up x k) ((same.ups i k x).1 at) is

module _ (lines others : List Line) (named : List Dtv) (same : HaveSameFlow lines others) where
  -- their arcs are the others'
  pub same_arcs : (arcs : List (List Arc)) → AreLineArcs lines (length lines) named arcs →
      AreLineArcs others (length others) named arcs
  same_arcs arcs are = record {
    all = λ i x y h at. let old = (same.subtypes i x y).1 at in are.all i x y (slice_get_within lines i (Sub x y) old) old;
    only = λ v w i h. let a = are.only v w i h in record {
      left = a.left;
      right = a.right;
      line = (same.subtypes i a.left a.right).0 a.line;
      from = a.from;
      to = a.to;
    };
  }

  -- and lead wherever one of these lies below another
  pub same_outer : (arcs : List (List Arc)) → AreLineArcs lines (length lines) named arcs → IsOuter lines named arcs →
      IsOuter others named arcs
  same_outer arcs are outer order flags v w less more d =
      reaches_by (Leads arcs (flags_of lines flags) true) (Leads arcs flags true) (λ a b leads. by a b leads)
      (outer order (flags_of lines flags) v w less more
      (derives_more order (standing others flags) (standing lines (flags_of lines flags))
      (λ l c. given order (standing lines (flags_of lines flags)) l (stands_too lines others same flags l c)) d))
    where
      by : (a b : ℕ) → Leads arcs (flags_of lines flags) true a b → Leads arcs flags true a b
      by a b (None, h, is) = (None, h, is)
      by a b (Some i, h, is) =
          let s = are.only a b i h in
          (Some i, h, sym (flag_at lines flags i (Sub s.left s.right) s.line) ∙ is)

  -- and so are their bounds
  pub same_bounds : (make : ℕ → Dtv → Line) →
      ((i k : ℕ) (x : Dtv) → (slice_get lines i ≡ Some (make k x)) ↔ (slice_get others i ≡ Some (make k x))) →
      (bounds : List Bound) → AreBounds make lines (length lines) named bounds → AreBounds make others (length others) named bounds
  same_bounds make equal bounds are = record {
    all = λ i k z h at. let old = (equal i k z).1 at in are.all i k z (slice_get_within lines i (make k z) old) old;
    only = λ b c. let s = are.only b c in (s.0, (equal b.line b.constant s.0).0 s.1, s.2);
  }
