-- What is left when fields became existentials of their own: the outside derives the same loosely.
use Rattle.std.proofs.Common.{◌≡◌, ℕ, List, Bool, true, sym, subst}
use Rattle.rt_lines.specs.declared.variable.Base.{Base}
use Rattle.rt_lines.specs.declared.variable.Base.TheVariants.{Exist}
use Rattle.rt_lines.specs.declared.line.Line.{Line}
use Rattle.rt_lines.specs.Orders.{Below}
use Rattle.rt_marks.specs.Outsides.{LooselyAlike}
use Rattle.rt_marks.proofs.Covering.{loosely-refl, loosely-trans}
use Rattle.rt_polar.specs.Tidied.{tidied}
use Rattle.rt_marks.proofs.Tidying.{alike_tidied}
use Rattle.rt_record.specs.Slots.{numbers, IsSplit}
use Rattle.rt_marks.proofs.Records.{splits_alike_lem}
use Rattle.rt_record.proofs.Numbered.{parts_lem}
use Rattle.rt_reduction.specs.Rounds.{Splits, whole, splits}
use Rattle.rt_marks.proofs.Prepared.{prepares_alike}

parted_alike : (order : Below) (inside : Base → Bool) (lines parted : List Line) → ((n : ℕ) → inside (Exist n) ≡ true) →
    IsSplit lines parted → LooselyAlike order inside lines parted
parted_alike order inside lines parted inner (holds, are, some, e) =
    subst (LooselyAlike order inside lines) (sym e)
    (splits_alike_lem order inside lines holds (numbers holds lines) inner (parts_lem lines holds are))

-- where every existential is inside, the outside can derive the same
pub splits_alike : (order : Below) (inside : Base → Bool) (left start : List Line) → ((n : ℕ) → inside (Exist n) ≡ true) →
    Splits left start → LooselyAlike order inside start left
splits_alike order inside left start inner (whole none) = loosely-refl order inside left
splits_alike order inside left start inner (splits _ parted ready s p rest) =
    loosely-trans order inside start parted left (parted_alike order inside start parted inner s)
    (loosely-trans order inside parted (tidied parted) left (alike_tidied order inside parted)
    (loosely-trans order inside (tidied parted) ready left (prepares_alike order inside ready (tidied parted) inner p)
    (splits_alike order inside left ready inner rest)))
