-- Places given away and twins made one, in turn: the outside derives the same loosely.
use Rattle.std.proofs.Common.{◌≡◌, ℕ, List, Bool, true}
use Rattle.rt_lines.specs.declared.variable.Base.{Base}
use Rattle.rt_lines.specs.declared.variable.Base.TheVariants.{Exist}
use Rattle.rt_lines.specs.declared.line.Line.{Line}
use Rattle.rt_lines.specs.Orders.{Below}
use Rattle.rt_marks.specs.Outsides.{LooselyAlike}
use Rattle.rt_marks.proofs.Covering.{loosely-trans}
use Rattle.rt_refine.specs.Refinements.{refined}
use Rattle.rt_marks.proofs.Twinning.{twinned_alike_lem}
use Rattle.rt_marks.proofs.Tidying.{alike_tidied}
use Rattle.rt_reduction.proofs.Simplifying.{twinned_lines}
use Rattle.rt_marks.proofs.Exchanging.{putting_lem}
use Rattle.rt_marks.specs.Laws.{SimplifiesAlikeLaw}
use Rattle.rt_reduction.specs.Simplifies.{Simplifies, simple, twins_go}

pub simple_alike : (order : Below) (inside : Base → Bool) (left start : List Line) → ((n : ℕ) → inside (Exist n) ≡ true) →
    Simplifies left start → LooselyAlike order inside start left
simple_alike order inside left start inner (simple _ p none none') = putting_lem order inside start left inner p
simple_alike order inside left start inner (twins_go _ between sign class w p turn c apart rest) =
    loosely-trans order inside start between left (putting_lem order inside start between inner p)
    (loosely-trans order inside between (refined class between) left
    (twinned_alike_lem order inside between sign class inner c.twins)
    (loosely-trans order inside (refined class between) (twinned_lines class between) left
    (alike_tidied order inside (refined class between))
    (simple_alike order inside left (twinned_lines class between) inner rest)))

pub simplifies_alike_lem : SimplifiesAlikeLaw
simplifies_alike_lem order inside lines left inner s = simple_alike order inside left lines inner s
