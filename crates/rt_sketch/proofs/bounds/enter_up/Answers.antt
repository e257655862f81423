use Rattle.std.proofs.Common.{◌<◌, ◌∷◌, [], sym, subst}
use Rattle.std.proofs.lemmas.Option.{slice_get_within}
use Rattle.rt_ways.specs.Arcs.{AreMore}
use Rattle.rt_sketch.specs.Bounds.{IsUp}
use Rattle.rt_sketch.proofs.Bounding.{up_none, up_one}
use Rattle.rt_sketch.proofs.bounds.enter_up.Goals as goal

pub add-requires : goal.add-requires
add-requires c = subst (λ n. c.number-number.result < n) (sym c.requires.each) (slice_get_within c.args.named.now c.number-number.result c.in-Up.x c.number-number.ensures)

pub returns-in_ok-add-in-Up : goal.returns-in_ok-add-in-Up
returns-in_ok-add-in-Up c =
    subst (λ l. AreMore (IsUp c.args.named.now (l ∷ [])) c.args.rows.now.items c.add.new.rows.items) (sym c.in-Up.is)
    (up_one c.args.named.now c.in-Up.x c.number-number.result c.in-Up.bound c.args.rows.now.items c.add.new.rows.items c.requires.distinct c.number-number.ensures c.in_ok-add-in-Up.ensures)

pub returns-in_default : goal.returns-in_default
returns-in_default c = up_none c.args.named.now c.args.line.now c.args.rows.now.items (λ x k e. c.in_default.not-Up x k e)
