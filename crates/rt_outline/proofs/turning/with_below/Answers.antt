use Rattle.rt_outline.proofs.Sided.{below_found}
use Rattle.rt_outline.proofs.turning.with_below.Goals as goal

pub returns : goal.returns
returns c =
    let frame = c.args.frame.now in
    below_found frame.arcs.items c.deref-2.result.now frame.back.items c.deref.result.now c.args.stands.now c.deref-2.ensures.value c.deref.ensures.value c.requires.frame.turned
    c.args.node c.in_ok-lower.lower c.insert.new.self c.spread.new.found c.in_ok-lower.ensures c.in_ok-insert.ensures frame.origins.items c.args.access c.in_ok-found.found c.spread-2.new.found
    c.in_ok-spread.ensures c.in_ok-found.ensures c.in_ok-spread-2.ensures
