use Rattle.rt_outline.proofs.upper.Upper.of.Goals as goal

pub framed-requires : goal.framed-requires
framed-requires c = (c.args.extra.now, c.in_ok-named.ensures)
