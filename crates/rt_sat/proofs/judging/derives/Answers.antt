use Rattle.std.proofs.Common.{subst}
use Rattle.std.proofs.lemmas.List.Elements.{All-head, All-tail}
use Rattle.rt_lines.specs.declared.line.Judge.{Judge}
use Rattle.rt_lines.specs.Lines.{HasConstantsBelow}
use Rattle.rt_rules.specs.Rules.{line_of}
use Rattle.rt_sat.proofs.judging.derives.Goals as goal

pub has_low-requires-clause-constants : goal.has_low-requires-clause-constants
has_low-requires-clause-constants c = All-tail (HasConstantsBelow c.args.order.now.count) (line_of c.args.judge.now) c.args.lines.now c.requires

pub has_low-requires-clause-constant : goal.has_low-requires-clause-constant
has_low-requires-clause-constant c =
    subst (λ (j : Judge). HasConstantsBelow c.args.order.now.count (line_of j)) c.in-Low.is (All-head (HasConstantsBelow c.args.order.now.count) (line_of c.args.judge.now) c.args.lines.now c.requires)

pub has_up-requires-clause-constants : goal.has_up-requires-clause-constants
has_up-requires-clause-constants c = All-tail (HasConstantsBelow c.args.order.now.count) (line_of c.args.judge.now) c.args.lines.now c.requires

pub has_up-requires-clause-constant : goal.has_up-requires-clause-constant
has_up-requires-clause-constant c =
    subst (λ (j : Judge). HasConstantsBelow c.args.order.now.count (line_of j)) c.in-Up.is (All-head (HasConstantsBelow c.args.order.now.count) (line_of c.args.judge.now) c.args.lines.now c.requires)
