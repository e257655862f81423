use Rattle.rt_sat.proofs.checking.is_covered.Goals as goal

pub returns-in_default : goal.returns-in_default
returns-in_default c = λ e more walked k p a. (let h = c.between.ensures.least k p in absurd (c.in_default.not-Some h.0 h.1))
