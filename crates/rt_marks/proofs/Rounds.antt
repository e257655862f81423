-- Rounds, and the reduced form: the outside derives the same loosely.
use Rattle.std.proofs.Common.{◌≡◌, ℕ, List, [], Bool, true}
use Rattle.rt_lines.specs.declared.variable.Base.{Base}
use Rattle.rt_lines.specs.declared.variable.Base.TheVariants.{Exist}
use Rattle.rt_lines.specs.declared.line.Line.{Line}
use Rattle.rt_lines.specs.Orders.{Below}
use Rattle.rt_marks.specs.Outsides.{LooselyAlike}
use Rattle.rt_marks.proofs.Covering.{loosely-trans}
use Rattle.rt_polar.specs.Tidied.{tidied}
use Rattle.rt_marks.proofs.Tidying.{alike_tidied}
use Rattle.rt_reduction.specs.Emits.{AreOfScheme}
use Rattle.rt_reduction.specs.Drops.{Drops}
use Rattle.rt_reduction.specs.Rounds.{IsRound, Reduces, done, again, IsReducedForm}
use Rattle.rt_marks.specs.Laws.{FormAlikeLaw}
use Rattle.rt_reduction.proofs.Dropping.{kept_lem}
use Rattle.rt_marks.proofs.Dropping.{drops_alike_lem}
use Rattle.rt_marks.proofs.Merging.{merges_alike_lem}
use Rattle.rt_reduction.proofs.Emitting.{from_emitted}
use Rattle.rt_marks.proofs.Emitting.{emits_alike_lem}
use Rattle.rt_reduction.proofs.Prepared.{from_prepares}
use Rattle.rt_marks.proofs.Prepared.{prepares_alike}
use Rattle.rt_reduction.proofs.Split.{from_splits}
use Rattle.rt_marks.proofs.Split.{splits_alike}
use Rattle.rt_reduction.proofs.FromSides.{AreFrom, from_chain, from_scheme, from_fewer, from_tidied, from_merges}

from_dropped : (order : Below) (lines kept : List Line) → Drops order [] lines kept → AreFrom lines kept
from_dropped order lines kept d = from_fewer lines kept (kept_lem order lines kept d)

from_round : (order : Below) (lines after : List Line) → IsRound order lines after → AreFrom lines after
from_round order lines after r =
    from_chain lines r.simple after (from_prepares r.simple lines r.is_simple)
    (from_chain r.simple r.emitted after (from_emitted order r.simple r.emitted r.is_emitted)
    (from_chain r.emitted r.merged after (from_merges order r.merged r.emitted r.is_merged)
    (from_dropped order r.merged after r.is_dropped)))

from_reduced : (order : Below) (reduced start : List Line) → Reduces order reduced start → AreFrom start reduced
from_reduced order reduced start (done _ r d) = from_round order start reduced r
from_reduced order reduced start (again _ between r n rest) =
    from_chain start between reduced (from_round order start between r) (from_reduced order reduced between rest)

-- what the rounds begin with
from_start : (order : Below) (lines form : List Line) (r : IsReducedForm order lines form) → AreFrom lines (tidied r.start)
from_start order lines form r =
    from_chain lines (tidied lines) (tidied r.start) (from_tidied lines)
    (from_chain (tidied lines) r.ready (tidied r.start) (from_prepares r.ready (tidied lines) r.is_ready)
    (from_chain r.ready r.start (tidied r.start) (from_splits r.start r.ready r.is_start) (from_tidied r.start)))

module _ (order : Below) (inside : Base → Bool) (inner : (n : ℕ) → inside (Exist n) ≡ true) where
  round_alike : (lines after : List Line) → AreOfScheme lines → IsRound order lines after → LooselyAlike order inside lines after
  round_alike lines after scheme r =
      loosely-trans order inside lines r.simple after (prepares_alike order inside r.simple lines inner r.is_simple)
      (loosely-trans order inside r.simple r.emitted after
      (emits_alike_lem order inside r.simple r.emitted inner
      (from_scheme lines r.simple (from_prepares r.simple lines r.is_simple) scheme) r.is_emitted)
      (loosely-trans order inside r.emitted r.merged after (merges_alike_lem order inside r.emitted r.merged inner r.is_merged)
      (drops_alike_lem order inside r.merged after r.is_dropped)))

  reduced_alike : (reduced start : List Line) → AreOfScheme start → Reduces order reduced start → LooselyAlike order inside start reduced
  reduced_alike reduced start scheme (done _ r d) = round_alike start reduced scheme r
  reduced_alike reduced start scheme (again _ between r n rest) =
      loosely-trans order inside start between reduced (round_alike start between scheme r)
      (reduced_alike reduced between (from_scheme start between (from_round order start between r) scheme) rest)

pub form_alike_lem : FormAlikeLaw
form_alike_lem order inside lines form inner scheme r =
    loosely-trans order inside lines (tidied lines) form (alike_tidied order inside lines)
    (loosely-trans order inside (tidied lines) r.ready form (prepares_alike order inside r.ready (tidied lines) inner r.is_ready)
    (loosely-trans order inside r.ready r.start form (splits_alike order inside r.start r.ready inner r.is_start)
    (loosely-trans order inside r.start (tidied r.start) form (alike_tidied order inside r.start)
    (reduced_alike order inside inner form (tidied r.start)
    (from_scheme lines (tidied r.start) (from_start order lines form r) scheme) r.is_form))))
