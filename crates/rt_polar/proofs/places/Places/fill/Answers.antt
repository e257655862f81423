use Rattle.std.proofs.Common.{List, Option, Some, sym, subst}
use Rattle.std.proofs.Math.ListN.{set}
use Rattle.rt_lines.specs.declared.line.Line.{Line}
use Rattle.rt_polar.specs.Index.{has}
use Rattle.rt_polar.specs.Inside.Places.{AreHeld}
use Rattle.rt_polar.proofs.places.Places.fill.Goals as goal

pub returns-clause-places : goal.returns-clause-places
returns-clause-places c =
    let new = c.enter.new.self in
    let P : List (Option Line) → Type 0 = λ items. AreHeld (set items c.args.slot (Some c.args.row)) (has new.at) (has new.naming) (has new.defining) (has new.consuming) in
    subst P (sym c.in_ok-enter.ensures.slots) c.in_ok-enter.ensures.held
