use Rattle.std.proofs.Common.{◌<◌, ◌∷◌, [], sym, subst}
use Rattle.std.proofs.lemmas.Option.{slice_get_within}
use Rattle.rt_ways.specs.Arcs.{AreMore}
use Rattle.rt_sketch.specs.Bounds.{IsLow}
use Rattle.rt_sketch.proofs.Bounding.{low_none, low_one}
use Rattle.rt_sketch.proofs.bounds.enter_low.Goals as goal

pub add-requires : goal.add-requires
add-requires c = subst (λ n. c.number-number.result < n) (sym c.requires.each) (slice_get_within c.args.named.now c.number-number.result c.in-Low.x c.number-number.ensures)

pub returns-in_ok-add-in-Low : goal.returns-in_ok-add-in-Low
returns-in_ok-add-in-Low c =
    subst (λ l. AreMore (IsLow c.args.named.now (l ∷ [])) c.args.rows.now.items c.add.new.rows.items) (sym c.in-Low.is)
    (low_one c.args.named.now c.in-Low.x c.number-number.result c.in-Low.bound c.args.rows.now.items c.add.new.rows.items c.requires.distinct c.number-number.ensures c.in_ok-add-in-Low.ensures)

pub returns-in_default : goal.returns-in_default
returns-in_default c = low_none c.args.named.now c.args.line.now c.args.rows.now.items (λ x k e. c.in_default.not-Low k x e)
