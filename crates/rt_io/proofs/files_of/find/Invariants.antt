use Rattle.std.proofs.Common.{◌≡◌, drop}
use Rattle.rt_io.specs.Memory.{content_of}
use Rattle.rt_io.proofs.files_of.find.Given as goal

abbrev pub invariant-loop-pair : goal.invariant-loop-pair
invariant-loop-pair l = content_of l.contents l.name ≡ content_of (drop l.pair-index l.contents) l.name
