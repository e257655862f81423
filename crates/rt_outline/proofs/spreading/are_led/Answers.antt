use Rattle.std.proofs.Common.{false, []}
use Rattle.rt_outline.specs.Arcs.{Leads}
use Rattle.rt_outline.proofs.Following.{some_in, some_next, some_only}
use Rattle.rt_outline.proofs.spreading.are_led.Goals as goal

pub loop-source-preserved : goal.loop-source-preserved
loop-source-preserved c =
    some_next (Leads c.args.arcs.now c.args.stands.now false) c.args.sources.now c.loop-source.source-index [] c.loop-source.found c.leave.new.found c.loop-source-test.true c.loop-source.invariant c.in_ok-leave.ensures

pub returns : goal.returns
returns c = (
  λ e. (let m = c.meets.ensures.0 e in
      let p = c.in_ok-spread.ensures.only m.0 m.2 in
      let o = some_only (Leads c.args.arcs.now c.args.stands.now false) c.args.sources.now c.loop-source.source-index c.loop-source.found c.loop-source-test.false c.loop-source.invariant p.0 p.1 in
      (o.0, p.0, m.0, o.1, o.2, p.2, m.1)),
  λ r. c.meets.ensures.1 (
    r.2,
    r.6,
    c.in_ok-spread.ensures.all r.1 r.2
        (some_in (Leads c.args.arcs.now c.args.stands.now false) c.args.sources.now c.loop-source.source-index c.loop-source.found c.loop-source-test.false c.loop-source.invariant r.0 r.1 r.3 r.4) r.5,
  ),
)
