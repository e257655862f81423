use Rattle.rt_outline.proofs.Sided.{above_found}
use Rattle.rt_outline.proofs.turning.with_above.Goals as goal

pub returns : goal.returns
returns c =
    let frame = c.args.frame.now in
    above_found frame.arcs.items c.deref.result.now frame.back.items c.deref-2.result.now c.args.stands.now c.deref.ensures.value c.deref-2.ensures.value c.requires.frame.turned
    c.args.node c.in_ok-found.found c.insert.new.self c.spread.new.found c.in_ok-found.ensures c.in_ok-insert.ensures c.spread-2.new.found c.in_ok-spread.ensures c.in_ok-spread-2.ensures
