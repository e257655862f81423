use Rattle.rt_outline.proofs.Closed.{joined_frame}
use Rattle.rt_outline.proofs.frame.Frame.join.Goals as goal

pub returns-clause-frame : goal.returns-clause-frame
returns-clause-frame c =
    joined_frame c.args.self.now.origins.items c.args.self.now.steps c.args.self.now.arcs.items c.args.self.now.back.items c.add.new.arcs.items c.add-2.new.arcs.items
    c.args.from c.args.arc.to c.args.arc.line c.requires.to c.requires.frame c.in_ok-add.ensures c.in_ok-add-2.ensures
