use Rattle.std.proofs.Common.{◌≡◌, Some, sym, ap, ◌∙◌}
use Rattle.std.specs.Prelude.{slice_get}
use Rattle.std.proofs.lemmas.Option.{slice_get-get_or}
use Rattle.rt_outline.specs.Inside.Bounds.{upper_bound}
use Rattle.rt_outline.proofs.Bounded.{bounds_more}
use Rattle.rt_outline.proofs.bounds.ups.Goals as goal

pub loop-i-preserved : goal.loop-i-preserved
loop-i-preserved c =
    let lines = c.args.lines.now in
    let i = c.loop-i.i in
    let here : slice_get lines i ≡ Some c.index-lines-i.result =
    slice_get-get_or lines i c.index-lines-i.result c.loop-i-test.true ∙ ap Some (sym c.index-lines-i.is)
    in
    bounds_more upper_bound lines c.args.named.now i c.index-lines-i.result c.loop-i.bounds.items c.enter_up.new.bounds.items here
    c.in_ok-enter_up.ensures c.loop-i.invariant
