-- What is prepared: the outside derives the same loosely.
use Rattle.std.proofs.Common.{◌≡◌, ℕ, List, Bool, true, sym, subst}
use Rattle.rt_lines.specs.declared.variable.Base.{Base}
use Rattle.rt_lines.specs.declared.variable.Base.TheVariants.{Exist}
use Rattle.rt_lines.specs.declared.line.Line.{Line}
use Rattle.rt_lines.specs.Orders.{Below}
use Rattle.rt_marks.specs.Outsides.{LooselyAlike}
use Rattle.rt_marks.proofs.Covering.{loosely-trans}
use Rattle.rt_polar.specs.Tidied.{tidied}
use Rattle.rt_marks.proofs.Tidying.{alike_tidied}
use Rattle.rt_refine.specs.Refinements.{refined}
use Rattle.rt_marks.proofs.Refining.{refined_alike_lem}
use Rattle.rt_trim.specs.Idle.{trimmed}
use Rattle.rt_marks.proofs.Weakening.{trims_alike_lem}
use Rattle.rt_reduction.specs.Rounds.{Refines, Prepares, prepared, trims}
use Rattle.rt_marks.proofs.Simplifying.{simple_alike}

-- existentials that are used alike and become one
refines_alike : (order : Below) (inside : Base → Bool) (lines left : List Line) → ((n : ℕ) → inside (Exist n) ≡ true) →
    Refines lines left → LooselyAlike order inside lines left
refines_alike order inside lines left inner (class, c, e) =
    subst (LooselyAlike order inside lines) (sym e)
    (loosely-trans order inside lines (refined class lines) (tidied (refined class lines))
    (refined_alike_lem order inside lines class inner c.refines)
    (alike_tidied order inside (refined class lines)))

-- what is prepared
pub prepares_alike : (order : Below) (inside : Base → Bool) (left start : List Line) → ((n : ℕ) → inside (Exist n) ≡ true) →
    Prepares left start → LooselyAlike order inside start left
prepares_alike order inside left start inner (prepared _ between idle r s is none) =
    loosely-trans order inside start between left (refines_alike order inside start between inner r)
    (simple_alike order inside left between inner s)
prepares_alike order inside left start inner (trims _ between simple idle r s is some rest) =
    loosely-trans order inside start between left (refines_alike order inside start between inner r)
    (loosely-trans order inside between simple left (simple_alike order inside simple between inner s)
    (loosely-trans order inside simple (trimmed idle simple) left (trims_alike_lem order inside simple idle inner is)
    (loosely-trans order inside (trimmed idle simple) (tidied (trimmed idle simple)) left (alike_tidied order inside (trimmed idle simple))
    (prepares_alike order inside left (tidied (trimmed idle simple)) inner rest))))
