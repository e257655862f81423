use Rattle.rt_cdecl.proofs.ArgTexts.{AllTaken}
use Rattle.rt_cdecl.proofs.reading.take_args.Given as goal

abbrev pub invariant-loop-i : goal.invariant-loop-i
invariant-loop-i l = AllTaken l.text l.i l.args l.rest
