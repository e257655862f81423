use Rattle.rt_rules.proofs.WithoutSame.{without_same_var, without_same_sub, without_same_low, without_same_up}
use Rattle.rt_rules.proofs.laws.without_same.Goals as goal

pub returns-clause-var : goal.returns-clause-var
returns-clause-var c = without_same_var

pub returns-clause-sub : goal.returns-clause-sub
returns-clause-sub c = without_same_sub

pub returns-clause-low : goal.returns-clause-low
returns-clause-low c = without_same_low

pub returns-clause-up : goal.returns-clause-up
returns-clause-up c = without_same_up
