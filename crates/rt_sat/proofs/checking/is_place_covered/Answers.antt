use Rattle.rt_sat.proofs.checking.is_place_covered.Goals as goal

pub returns-else-count-eq-NONE : goal.returns-else-count-eq-NONE
returns-else-count-eq-NONE c = λ e more walked few. c.is_covered_to.ensures e more walked
