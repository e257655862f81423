use Rattle.std.proofs.Common.{◌≡◌, true, ◌∙◌}
use Rattle.rt_rules.specs.Rules.Derivable.{same_sub}
use Rattle.rt_sat.proofs.Below.{below_whole, first_in, second_in, there_two}
use Rattle.rt_sat.proofs.Frames.{extra_named}
use Rattle.rt_sat.proofs.judging.is_below.Goals as goal

pub returns-then-not-are_one : goal.returns-then-not-are_one
returns-then-not-are_one c = λ order. (
  λ e. absurd (cc),
  λ d. (let t : c.are_one.result ≡ true = (c.are_one.ensures c.args.lines.now order c.requires).1 (same_sub d) in absurd (cc)),
)

pub begin-requires-clause-there : goal.begin-requires-clause-there
begin-requires-clause-there c =
    there_two c.args.lines.now c.args.x.now c.args.y.now c.deref.result.now (c.deref.ensures.value ∙ c.in_ok-extra.ensures) (λ order. (c.are_one.ensures c.args.lines.now order c.requires).0 c.if-not-are_one.false)

pub number-left-requires : goal.number-left-requires
number-left-requires c =
    extra_named c.args.lines.now c.deref.result.now c.in_ok-begun.begun.frame.named c.in_ok-begun.ensures.1.is_named c.args.x.now (first_in c.args.x.now _ c.deref.result.now (c.deref.ensures.value ∙ c.in_ok-extra.ensures))

pub number-right-requires : goal.number-right-requires
number-right-requires c =
    extra_named c.args.lines.now c.deref.result.now c.in_ok-begun.begun.frame.named c.in_ok-begun.ensures.1.is_named c.args.y.now (second_in c.args.x.now c.args.y.now _ c.deref.result.now (c.deref.ensures.value ∙ c.in_ok-extra.ensures))

pub returns : goal.returns
returns c =
    below_whole c.args.lines.now c.deref.result.now c.in_ok-begun.ensures.0 c.in_ok-begun.begun c.in_ok-begun.ensures.1 c.deref-2.result.now c.deref-3.result.now c.in_ok-yes.yes c.in_ok-yes.ensures c.args.x.now c.args.y.now
    c.number-left.result c.number-right.result c.number-left.ensures c.number-right.ensures (c.deref-2.ensures.value ∙ c.in_ok-sources.ensures) (c.deref-3.ensures.value ∙ c.in_ok-targets.ensures)
