use Rattle.rt_outline.proofs.Sided.{both_of}
use Rattle.rt_outline.proofs.turning.has_both.Goals as goal

pub returns-then-has_hub : goal.returns-then-has_hub
returns-then-has_hub c = λ e.
    let frame = c.args.frame.now in
    both_of frame.origins.items frame.arcs.items c.deref-then-has_hub.result.now frame.back.items c.deref.result.now c.args.access c.args.node c.args.other c.deref-then-has_hub.ensures.value c.deref.ensures.value
    c.requires.frame.turned (c.has_hub.ensures c.if-has_hub.true) (c.has_hub-then-has_hub.ensures e)
