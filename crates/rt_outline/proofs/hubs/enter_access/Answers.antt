use Rattle.rt_lines.specs.declared.label.Label.TheVariants.{Load}
use Rattle.rt_outline.proofs.Gathered.{made_kept, stepped_more}
use Rattle.rt_outline.proofs.hubs.enter_access.Goals as goal

pub returns-clause-more : goal.returns-clause-more
returns-clause-more c =
    stepped_more c.args.frame.now.origins.items c.stepped.new.self.origins.items c.stepped-2.new.self.origins.items c.args.frame.now.arcs.items c.stepped.new.self.arcs.items c.stepped-2.new.self.arcs.items
    c.in_ok-stepped.ensures.more c.in_ok-stepped-2.ensures.more

pub returns-clause-access : goal.returns-clause-access
returns-clause-access c = (
  (
    c.in_ok-stepped.field-0,
    made_kept c.stepped.new.self.origins.items c.in_ok-stepped-2.ensures.more.more c.stepped-2.new.self.origins.items c.in_ok-stepped-2.ensures.more.behind c.in_ok-stepped.field-0 c.args.node Load c.in_ok-stepped.ensures.made,
  ),
  (c.in_ok-stepped-2.field-0, c.in_ok-stepped-2.ensures.made),
)
