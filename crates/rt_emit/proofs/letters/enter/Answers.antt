use Rattle.std.proofs.Common.{sym, ◌∙◌}
use Rattle.rt_emit.proofs.Lettering.{entered, entered_again}
use Rattle.rt_emit.proofs.letters.enter.Goals as goal

pub returns-in_ok-add_letter-clause-after : goal.returns-in_ok-add_letter-clause-after
returns-in_ok-add_letter-clause-after c =
    entered c.args.node c.args.label c.args.next c.args.edges.now.entries c.put_edge.new.edges.entries c.in_ok-put_edge.ensures.edges
    c.args.letters.now c.add_letter.new.letters (sym c.in_ok-put_edge.ensures.none ∙
    c.if-branch.true) c.requires.after c.in_ok-add_letter.ensures

pub returns-else-branch-clause-after : goal.returns-else-branch-clause-after
returns-else-branch-clause-after c =
    entered_again c.args.node c.args.label c.args.next c.args.edges.now.entries c.put_edge.new.edges.entries c.in_ok-put_edge.ensures.edges
    c.args.letters.now (sym c.in_ok-put_edge.ensures.none ∙ c.if-branch.false) c.requires.after
