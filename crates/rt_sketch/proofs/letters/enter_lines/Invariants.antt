use Rattle.std.proofs.Common.{take}
use Rattle.rt_sketch.specs.Inside.Letters.{AddsLetters, words_of}
use Rattle.rt_sketch.proofs.letters.enter_lines.Given as goal

abbrev pub invariant-loop-line : goal.invariant-loop-line
invariant-loop-line l = AddsLetters (words_of (take l.line-index l.lines)) l.fn.letters.keys l.letters.keys
