use Rattle.std.proofs.Common.{List, None, get_or, take, sym, subst}
use Rattle.std.proofs.lemmas.List.{take_more}
use Rattle.rt_outline.specs.declared.arc.Arc.{Arc}
use Rattle.rt_outline.specs.Together.{HasMorePairs, IsOpenTo}
use Rattle.rt_outline.proofs.Paired.{pairs_next}
use Rattle.rt_outline.proofs.classes.add_pairs.Goals as goal

pub loop-arc-preserved : goal.loop-arc-preserved
loop-arc-preserved c =
    let arcs = c.args.arcs.now in
    let i = c.loop-arc.arc-index in
    let none : Arc = record { to = 0; line = None } in
    subst (λ (xs : List Arc). HasMorePairs c.args.node (IsOpenTo c.args.stands.now xs) c.args.pairs.now.items c.add_pair.new.pairs.items)
    (sym (take_more arcs i none c.loop-arc-test.true))
    (pairs_next c.args.node c.args.stands.now (take i arcs) (get_or arcs i none) c.args.pairs.now.items c.loop-arc.pairs.items
    c.add_pair.new.pairs.items c.loop-arc.invariant c.in_ok-add_pair.ensures)
