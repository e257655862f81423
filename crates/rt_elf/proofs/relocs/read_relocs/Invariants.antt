use Rattle.std.proofs.Common.{ℕ, ◌+◌, ◌*◌, ◌/◌, ◌++◌}
use Rattle.rt_base.specs.First.{entries}
use Rattle.rt_base.proofs.Entries.{IsGoing}
use Rattle.rt_elf.specs.Relocs.{reloc_at, reloc_fault, relocs_fault}
use Rattle.rt_elf.proofs.relocs.read_relocs.Given as goal

abbrev pub invariant-loop-index : goal.invariant-loop-index
invariant-loop-index l =
    IsGoing
    (λ (j : ℕ). reloc_fault l.bytes l.symbols (l.section.offset + 12 * j))
    (λ (j : ℕ). reloc_at l.bytes l.section.info (l.section.offset + 12 * j))
    l.count l.index l.relocs (relocs_fault l.bytes l.symbols l.section)
    (l.initial.relocs ++ entries (λ (j : ℕ). reloc_at l.bytes l.section.info (l.section.offset + 12 * j)) 0 (l.section.size / 12))
