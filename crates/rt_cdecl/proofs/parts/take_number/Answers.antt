use Rattle.rt_cdecl.proofs.Clear.{first_number, number_is}
use Rattle.rt_cdecl.proofs.parts.take_number.Goals as goal

pub returns-in-Some : goal.returns-in-Some
returns-in-Some c = λ n rest small stops same. number_is n _ rest _ _ _ small stops same c.split_digits.ensures c.in-Some.ensures

pub returns-in-None : goal.returns-in-None
returns-in-None c = λ n rest small stops same. c.in-None.ensures n small (first_number n rest _ _ _ small stops same c.split_digits.ensures).0
