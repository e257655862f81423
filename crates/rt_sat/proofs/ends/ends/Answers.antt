use Rattle.std.proofs.Common.{None, get_or, Contains, subst}
use Rattle.std.proofs.lemmas.List.Elements.{Contains-get_or}
use Rattle.rt_rules.proofs.Lists.{Contains-none}
use Rattle.rt_sat.proofs.ends.ends.Goals as goal

pub loop-kid-init : goal.loop-kid-init
loop-kid-init c = record {
  ends = λ end h. absurd (Contains-none end (subst (λ xs. Contains xs end) c.new-ends.ensures.items h));
  before = λ lines are end h. absurd (Contains-none end (subst (λ xs. Contains xs end) c.new-ends.ensures.items h));
  behind = λ lines are end h. absurd (Contains-none end (subst (λ xs. Contains xs end) c.new-ends.ensures.items h));
}

pub add_kid-requires-clause-kid : goal.add_kid-requires-clause-kid
add_kid-requires-clause-kid c = c.requires.kids (get_or c.args.kids.now c.loop-kid.kid-index (record { parent = 0; through = None; variable = 0 })) (Contains-get_or c.args.kids.now c.loop-kid.kid-index (record { parent = 0; through = None; variable = 0 }) c.loop-kid-test.true)

pub loop-turned-preserved : goal.loop-turned-preserved
loop-turned-preserved c = record {
  ends = c.in_ok-add_kid.ensures.ends c.loop-turned.invariant.ends;
  before = λ lines are. c.in_ok-add_kid.ensures.before lines are (c.loop-turned.invariant.before lines are);
  behind = λ lines are. c.in_ok-add_kid.ensures.behind lines are (c.loop-turned.invariant.behind lines are);
}
