use Rattle.std.proofs.Common.{ℕ, ◌*◌, ◌<◌, arith, ◌∙◌}
use Rattle.rt_grid.specs.Tables.{Holds}
use Rattle.rt_grid.proofs.Holding.{new_holds}
use Rattle.rt_sat.specs.Hints.{AreTurned, Turns}
use Rattle.rt_sat.specs.Hints.Turns.{stays}
use Rattle.rt_sat.proofs.Families.{member_turned, turning_more}
use Rattle.rt_sat.proofs.family.turning.Goals as goal

pub loop-index-init : goal.loop-index-init
loop-index-init c = record {
  size = c.in_ok-grid.ensures.size;
  holds = new_holds (Turns (2 * c.args.count)) (2 * c.args.count) c.in_ok-grid.grid (λ i h. stays h) c.in_ok-grid.ensures.holds;
}

pub add-requires-clause-from : goal.add-requires-clause-from
add-requires-clause-from c = omega (arith, c.loop-index.invariant.size, c.place.ensures)

pub add-requires-clause-to : goal.add-requires-clause-to
add-requires-clause-to c = omega (arith, c.loop-index.invariant.size, c.place-in-loop-index.ensures)

pub add-requires-in-loop-index-clause-from : goal.add-requires-in-loop-index-clause-from
add-requires-in-loop-index-clause-from c = omega (arith, c.loop-index.invariant.size, c.in_ok-add.ensures.size, c.place-in-loop-index-2.ensures)

pub add-requires-in-loop-index-clause-to : goal.add-requires-in-loop-index-clause-to
add-requires-in-loop-index-clause-to c = omega (arith, c.loop-index.invariant.size, c.in_ok-add.ensures.size, c.place-in-loop-index-3.ensures)

pub loop-index-preserved : goal.loop-index-preserved
loop-index-preserved c =
    let size : ℕ = 2 * c.args.count in
    let there : AreTurned c.place.result c.place-in-loop-index.result × AreTurned c.place-in-loop-index.result c.place.result = member_turned c.loop-index.index c.place.result c.place-in-loop-index.result c.place.ensures c.place-in-loop-index.ensures in
    let back : AreTurned c.place-in-loop-index-3.result c.place-in-loop-index-2.result × AreTurned c.place-in-loop-index-2.result c.place-in-loop-index-3.result = member_turned c.loop-index.index c.place-in-loop-index-3.result c.place-in-loop-index-2.result c.place-in-loop-index-3.ensures c.place-in-loop-index-2.ensures in
    let first : c.place.result < size = omega (arith, c.place.ensures) in
    let second : c.place-in-loop-index-2.result < size = omega (arith, c.place-in-loop-index-2.ensures) in
    let mid : Holds (Turns size) c.add.new.self = turning_more size c.place.result c.place-in-loop-index.result c.loop-index.grid c.add.new.self first there.0 c.loop-index.invariant.holds c.in_ok-add.ensures.holds in
    record {
      size = c.in_ok-add-2.ensures.size ∙ c.in_ok-add.ensures.size ∙ c.loop-index.invariant.size;
      holds = turning_more size c.place-in-loop-index-2.result c.place-in-loop-index-3.result c.add.new.self c.add-in-loop-index.new.self second back.1 mid c.in_ok-add-2.ensures.holds;
    }

pub returns : goal.returns
returns c = record { size = c.loop-index.invariant.size; holds = c.loop-index.invariant.holds }
