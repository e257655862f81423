use Rattle.std.proofs.Common.{◌≡◌, ◌+◌, ◌*◌}
use Rattle.rt_base.specs.First.{entries}
use Rattle.rt_elf.specs.Fields.{word_at}
use Rattle.rt_elf.proofs.object.Object.words.Given as goal

abbrev pub invariant-loop-k : goal.invariant-loop-k
invariant-loop-k l = l.words.items ≡ entries (λ k. word_at l.self.bytes (l.section.offset + 4 * k)) 0 l.k
