use Rattle.std.proofs.Common.{take}
use Rattle.rt_sketch.specs.Inside.Letters.{AddsLetters}
use Rattle.rt_sketch.proofs.letters.enter_word.Given as goal

abbrev pub invariant-loop-label : goal.invariant-loop-label
invariant-loop-label l = AddsLetters (take l.label-index l.label-items) l.fn.letters.keys l.letters.keys
