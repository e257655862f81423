use Rattle.rt_liveness.proofs.Plain.{plain_code, no_code}
use Rattle.rt_liveness.proofs.calls.is_plain.Goals as goal

pub returns-in-Some : goal.returns-in-Some
returns-in-Some c = plain_code c.args.word c.decode.result c.in-Some.insn c.is_plain_insn.result c.in-Some.is c.decode.ensures.found c.decode.ensures.only c.is_plain_insn.ensures

pub returns-in-None : goal.returns-in-None
returns-in-None c = no_code c.args.word c.decode.result c.in-None.is c.decode.ensures.only
