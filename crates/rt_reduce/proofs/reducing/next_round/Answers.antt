use Rattle.std.proofs.Common.{List, All, sym, subst, ◌∙◌}
use Rattle.rt_lines.specs.declared.line.Line.{Line}
use Rattle.rt_lines.specs.Lines.{HasConstantsBelow}
use Rattle.rt_polar.specs.Tidied.{tidied}
use Rattle.rt_reduction.specs.Emits.{AreOfScheme}
use Rattle.rt_reduction.specs.Rounds.{IsRound}
use Rattle.rt_reduce.proofs.reducing.next_round.Goals as goal

pub round_after-requires-clause-scheme : goal.round_after-requires-clause-scheme
round_after-requires-clause-scheme c = subst AreOfScheme (sym (c.from_vec.ensures ∙ c.in_ok-copies.ensures)) c.requires.scheme

pub round_after-requires-clause-constants : goal.round_after-requires-clause-constants
round_after-requires-clause-constants c =
    subst (All (HasConstantsBelow c.args.order.now.count)) (sym (c.from_vec.ensures ∙ c.in_ok-copies.ensures)) c.requires.constants

pub returns-clause-round : goal.returns-clause-round
returns-clause-round c =
    subst (λ (ls : List Line). IsRound c.args.order.now (tidied ls) c.in_ok-after.after) (c.from_vec.ensures ∙ c.in_ok-copies.ensures)
    c.in_ok-after.ensures.round
