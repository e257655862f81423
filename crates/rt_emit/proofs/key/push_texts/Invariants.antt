use Rattle.std.proofs.Common.{◌≡◌, ◌++◌, map, take}
use Rattle.rt_texts.specs.Texts.{label_text}
use Rattle.rt_emit.specs.Keys.{numbers}
use Rattle.rt_emit.proofs.key.push_texts.Given as goal

abbrev pub invariant-loop-label : goal.invariant-loop-label
invariant-loop-label l = numbers l.key ≡ numbers l.initial.key ++ map label_text (take l.label-index l.label-items)
