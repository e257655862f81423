use Rattle.std.proofs.Common.{List, ℕ, Contains, subst}
use Rattle.rt_sketch.specs.Inside.Steps.{AreAll, rows_of}
use Rattle.rt_sketch.proofs.Numbered.{led_first, led_next, led_whole}
use Rattle.rt_sketch.proofs.machine.Machine.led.Goals as goal

pub loop-number-init : goal.loop-number-init
loop-number-init c = led_first c.args.self.now.ways (rows_of c.args.self.now.ways c.args.side) c.args.label c.args.numbers.now c.new-found.result c.new-found.ensures

pub loop-number-preserved : goal.loop-number-preserved
loop-number-preserved c =
    led_next c.args.self.now.ways (rows_of c.args.self.now.ways c.args.side) c.args.label c.args.numbers.now c.loop-number.number-index _ c.loop-number.found c.lead.new.found c.loop-number-test.true c.loop-number.invariant c.in_ok-lead.ensures

pub returns : goal.returns
returns c =
    led_whole c.args.self.now.ways (rows_of c.args.self.now.ways c.args.side) c.args.label c.args.numbers.now c.loop-number.number-index c.loop-number.found c.in_ok-list.list.items c.loop-number-test.false c.loop-number.invariant
    (subst (λ (xs : List ℕ). AreAll (Contains xs) c.in_ok-list.list.items) c.items.ensures c.in_ok-list.ensures)
