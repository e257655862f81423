use Rattle.std.proofs.Common.{sym, subst, ◌∷◌, []}
use Rattle.rt_ways.specs.Arcs.{AreMore}
use Rattle.rt_ways.specs.Inside.Frames.{IsOfLine}
use Rattle.rt_ways.proofs.Hubs.{line_arc, line_none}
use Rattle.rt_ways.proofs.arcs.enter_line.Goals as goal

pub returns-in_ok-add-in-Sub : goal.returns-in_ok-add-in-Sub
returns-in_ok-add-in-Sub c =
    subst (λ l. AreMore (IsOfLine c.args.named.now (l ∷ [])) c.args.arcs.now.items c.add.new.arcs.items) (sym c.in-Sub.is)
    (line_arc c.args.named.now c.in-Sub.x c.in-Sub.y c.number-from.result c.number-to.result c.args.arcs.now.items c.add.new.arcs.items c.requires.distinct c.number-from.ensures c.number-to.ensures c.in_ok-add-in-Sub.ensures)

pub returns-in_default : goal.returns-in_default
returns-in_default c = line_none c.args.named.now c.args.line.now c.args.arcs.now.items (λ x y e. c.in_default.not-Sub x y e)
