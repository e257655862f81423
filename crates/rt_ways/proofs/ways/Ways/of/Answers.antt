use Rattle.std.proofs.Common.{ℕ, ◌<◌, List, sym, subst, length}
use Rattle.rt_loose.proofs.Lawful.{flexible_law, turned_law}
use Rattle.rt_ways.specs.Arcs.{AreTurned, IsInRow}
use Rattle.rt_ways.specs.Nets.{AreWaysOf}
use Rattle.rt_ways.proofs.Netted.{ways_of, rows_within, sized_of}
use Rattle.rt_ways.proofs.ways.Ways.of.Goals as goal

pub above_of-requires : goal.above_of-requires
above_of-requires c = c.in_ok-frame.ensures

pub turned-requires-clause-few : goal.turned-requires-clause-few
turned-requires-clause-few c =
    subst (λ (xs : List (List ℕ)). length xs < 4294967296) (sym c.deref.ensures.value) (subst (λ n. n < 4294967296) (sym c.in_ok-above.ensures.closed.each) c.in_ok-frame.ensures.few)

pub turned-requires-clause-within : goal.turned-requires-clause-within
turned-requires-clause-within c =
    let are = c.in_ok-above.ensures in
    subst (λ (xs : List (List ℕ)). (v w : ℕ) → IsInRow xs v w → w < length xs) (sym c.deref.ensures.value)
    (rows_within c.args.lines.now c.in_ok-frame.frame are.arcs c.in_ok-above.above.items c.in_ok-frame.ensures are.first are.closed flexible_law turned_law)

pub joined-requires : goal.joined-requires
joined-requires c =
    let are = c.in_ok-above.ensures in
    sized_of c.args.lines.now c.in_ok-frame.frame are.arcs c.in_ok-above.above.items c.in_ok-frame.ensures are.first are.closed flexible_law turned_law c.in_ok-below.below.items

pub returns : goal.returns
returns c =
    let are = c.in_ok-above.ensures in
    subst (AreWaysOf c.args.lines.now) (sym c.joined.ensures)
    (ways_of c.args.lines.now c.in_ok-frame.frame are.arcs c.in_ok-above.above.items c.in_ok-frame.ensures are.first are.closed flexible_law turned_law c.in_ok-below.below.items
    (subst (λ (xs : List (List ℕ)). AreTurned xs c.in_ok-below.below.items) c.deref.ensures.value c.in_ok-below.ensures))
