-- What is prepared: one list, alike, of the same sides, and without what idle existentials say beyond their shape.
use Rattle.std.proofs.Common.{◌≡◌, ◌≢◌, ℕ, List, Contains, Bool, true, false, cond, ◌||◌, refl, sym, ap, subst, ◌∙◌}
use Rattle.rt_base.proofs.Lists.{Contains-map_source}
use Rattle.rt_lines.specs.declared.variable.Base.{Base}
use Rattle.rt_lines.specs.declared.variable.Base.TheVariants.{Exist}
use Rattle.rt_lines.specs.declared.variable.Dtv.{Dtv}
use Rattle.rt_lines.specs.declared.line.Line.{Line}
use Rattle.rt_lines.specs.declared.line.Line.TheVariants.{Var, Same, Sub, Low, Up}
use Rattle.rt_lines.specs.Orders.{Below}
use Rattle.rt_rules.specs.Rules.{HasSide}
use Rattle.rt_rules.specs.Alike.{Alike}
use Rattle.rt_rules.proofs.Covering.{Alike-trans}
use Rattle.rt_polar.specs.Tidied.{tidied}
use Rattle.rt_polar.proofs.AlikeTidied.{Alike-tidied}
use Rattle.rt_trim.specs.Idle.{AreIdle, is_idle, trimmed, trimmed_line}
use Rattle.rt_trim.proofs.Weakening.{one_trim_lem, trims_alike_lem}
use Rattle.rt_reduction.specs.Simplifies.{Simplifies}
use Rattle.rt_reduction.specs.Rounds.{IsRound, Refines, Prepares, prepared, trims}
use Rattle.rt_reduction.proofs.Simplifying.{one_simple, simple_alike}
use Rattle.rt_reduction.proofs.FromSides.{IsSideOf, AreFrom, from_chain, from_side, from_simple, from_tidied}
use Rattle.rt_reduction.proofs.NamesFrom.{NamesFrom, names_after, names_chain, names_emitted, names_simple, names_tidied}
use Rattle.rt_reduction.proofs.Refined.{from_refines, names_refines, one_refines, refines_alike}

-- the shape of a line has no side that the line hasn't
pub trimmed_side : (idle : ℕ → Bool) (l : Line) (x : Dtv) → HasSide (trimmed_line idle l) x → HasSide l x
trimmed_side idle (Var y) x h = h
trimmed_side idle (Same y z) x h = h
trimmed_side idle (Sub y z) x h = by (is_idle idle y.base || is_idle idle z.base) h
  where
    by : (t : Bool) → HasSide (cond t (Same y z) (Sub y z)) x → HasSide (Sub y z) x
    by true g = g
    by false g = g
trimmed_side idle (Low k y) x h = by (is_idle idle y.base) h
  where
    by : (t : Bool) → HasSide (cond t (Var y) (Low k y)) x → HasSide (Low k y) x
    by true g = g
    by false g = g
trimmed_side idle (Up y k) x h = by (is_idle idle y.base) h
  where
    by : (t : Bool) → HasSide (cond t (Var y) (Up y k)) x → HasSide (Up y k) x
    by true g = g
    by false g = g

pub side_of_trimmed : (idle : ℕ → Bool) (lines : List Line) (x : Dtv) → IsSideOf (trimmed idle lines) x → IsSideOf lines x
side_of_trimmed idle lines x (k, c, h) = by (Contains-map_source (trimmed_line idle) lines k c)
  where
    by : (l : Line) × Contains lines l × (trimmed_line idle l ≡ k) → IsSideOf lines x
    by (l, d, e) = (l, d, trimmed_side idle l x (subst (λ m. HasSide m x) (sym e) h))

from_trimmed : (idle : ℕ → Bool) (lines : List Line) → AreFrom lines (tidied (trimmed idle lines))
from_trimmed idle lines =
    from_chain lines (trimmed idle lines) (tidied (trimmed idle lines))
    (λ x s. from_side lines x (side_of_trimmed idle lines x s)) (from_tidied (trimmed idle lines))

pub names_trimmed : (idle : ℕ → Bool) (lines : List Line) → NamesFrom lines (tidied (trimmed idle lines))
names_trimmed idle lines =
    names_chain lines (trimmed idle lines) (tidied (trimmed idle lines))
    (λ x s. (let t : IsSideOf lines x = side_of_trimmed idle lines x s in (t.0, x, t.1, t.2, refl))) (names_tidied (trimmed idle lines))

pub from_prepares : (left start : List Line) → Prepares left start → AreFrom start left
from_prepares left start (prepared _ between idle r s is none) =
    from_chain start between left (from_refines start between r) (from_simple left between s)
from_prepares left start (trims _ between simple idle r s is some rest) =
    from_chain start between left (from_refines start between r)
    (from_chain between simple left (from_simple simple between s)
    (from_chain simple (tidied (trimmed idle simple)) left (from_trimmed idle simple)
    (from_prepares left (tidied (trimmed idle simple)) rest)))

pub names_prepares : (left start : List Line) → Prepares left start → NamesFrom start left
names_prepares left start (prepared _ between idle r s is none) =
    names_chain start between left (names_refines start between r) (names_simple left between s)
names_prepares left start (trims _ between simple idle r s is some rest) =
    names_chain start between left (names_refines start between r)
    (names_chain between simple left (names_simple simple between s)
    (names_chain simple (tidied (trimmed idle simple)) left (names_trimmed idle simple)
    (names_prepares left (tidied (trimmed idle simple)) rest)))

-- a round names no base anew
pub names_round : (order : Below) (lines after : List Line) → IsRound order lines after → NamesFrom lines after
names_round order lines after r =
    names_chain lines r.simple after (names_prepares r.simple lines r.is_simple)
    (names_chain r.simple r.emitted after (names_emitted order r.simple r.emitted r.is_emitted) (names_after order lines after r))

-- where every existential is inside, the outside can derive the same
pub prepares_alike : (order : Below) (inside : Base → Bool) (left start : List Line) → ((n : ℕ) → inside (Exist n) ≡ true) →
    Prepares left start → Alike order inside start left
prepares_alike order inside left start inner (prepared _ between idle r s is none) =
    Alike-trans order inside start between left (refines_alike order inside start between inner r)
    (simple_alike order inside left between inner s)
prepares_alike order inside left start inner (trims _ between simple idle r s is some rest) =
    Alike-trans order inside start between left (refines_alike order inside start between inner r)
    (Alike-trans order inside between simple left (simple_alike order inside simple between inner s)
    (Alike-trans order inside simple (trimmed idle simple) left (trims_alike_lem order inside simple idle inner is)
    (Alike-trans order inside (trimmed idle simple) (tidied (trimmed idle simple)) left (Alike-tidied order inside (trimmed idle simple))
    (prepares_alike order inside left (tidied (trimmed idle simple)) inner rest))))

-- one step
data Steps (left lines : List Line) : Type 0 where
  ends_here : (between : List Line) (idle : ℕ → Bool) → Refines lines between → Simplifies left between → AreIdle left idle →
      trimmed idle left ≡ left → Steps left lines
  goes_on : (between simple : List Line) (idle : ℕ → Bool) → Refines lines between → Simplifies simple between → AreIdle simple idle →
      trimmed idle simple ≢ simple → Prepares left (tidied (trimmed idle simple)) → Steps left lines

steps : {left lines : List Line} → Prepares left lines → Steps left lines
steps (prepared lines between idle r s is none) = ends_here between idle r s is none
steps (trims lines between simple idle r s is some rest) = goes_on between simple idle r s is some rest

one_start : (lines between between' left left' : List Line) → Refines lines between → Refines lines between' → Simplifies left between →
    Simplifies left' between' → left ≡ left'
one_start lines between between' left left' r r' s s' =
    one_simple left left' between s (subst (Simplifies left') (one_refines lines between' between r' r) s')

trimmed_same : (idle idle' : ℕ → Bool) (lines lines' : List Line) → lines ≡ lines' → AreIdle lines idle → AreIdle lines' idle' →
    trimmed idle lines ≡ trimmed idle' lines'
trimmed_same idle idle' lines lines' e is is' =
    one_trim_lem lines idle idle' is (subst (λ ls. AreIdle ls idle') (sym e) is') ∙ ap (trimmed idle') e

-- one list is left
pub one_prepares : (left other start : List Line) → Prepares left start → Prepares other start → left ≡ other
one_prepares left other start (prepared _ between idle r s is none) b = by (steps b)
  where
    by : Steps other start → left ≡ other
    by (ends_here between' idle' r' s' is' none') = one_start start between between' left other r r' s s'
    by (goes_on between' simple' idle' r' s' is' some' rest') =
        let e : left ≡ simple' = one_start start between between' left simple' r r' s s' in
        absurd (some' (sym (trimmed_same idle idle' left simple' e is is') ∙ none ∙ e))
one_prepares left other start (trims _ between simple idle r s is some rest) b =
    by (steps b) (one_prepares left other (tidied (trimmed idle simple)) rest)
  where
    by : Steps other start → (Prepares other (tidied (trimmed idle simple)) → left ≡ other) → left ≡ other
    by (ends_here between' idle' r' s' is' none') induction =
        let e : simple ≡ other = one_start start between between' simple other r r' s s' in
        absurd (some (trimmed_same idle idle' simple other e is is' ∙ none' ∙ sym e))
    by (goes_on between' simple' idle' r' s' is' some' rest') induction =
        let e : simple ≡ simple' = one_start start between between' simple simple' r r' s s' in
        induction (subst (λ ls. Prepares other (tidied ls)) (sym (trimmed_same idle idle' simple simple' e is is')) rest')
