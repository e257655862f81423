use Rattle.std.proofs.Common.{ap}
use Rattle.std.specs.Prelude.{ℕ}
use Rattle.rt_link.specs.declared.place.Place.{Place}
use Rattle.rt_body.specs.Readings.{number_at}
use Rattle.rt_body.proofs.Numbering.{joined_more}
use Rattle.rt_body.proofs.numbers.add_edges.Goals as goal

pub loop-to-preserved : goal.loop-to-preserved
loop-to-preserved c =
    let places = c.args.places.now in
    joined_more (λ (to : Place). (c.args.from, number_at places to)) c.args.next.now c.loop-to.to-index _ c.args.edges.now c.loop-to.edges c.push.new.self _ c.loop-to-test.true c.loop-to.invariant c.in_ok-push.ensures.ok
    (ap (λ (number : ℕ). (c.args.from, number)) c.number_at.ensures)
