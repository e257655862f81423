use Rattle.std.proofs.Common.{ℕ}
use Rattle.rt_base.proofs.Entries.{IsGoing}
use Rattle.rt_elf.specs.Header.{header_place, section_count}
use Rattle.rt_elf.specs.Sections.{section_by, sections_of, section_fault, sections_fault}
use Rattle.rt_elf.proofs.sections.read_sections.Given as goal

abbrev pub invariant-loop-index : goal.invariant-loop-index
invariant-loop-index l =
    IsGoing (λ (k : ℕ). section_fault l.bytes (header_place l.bytes k)) (section_by l.bytes) (section_count l.bytes)
    l.index l.sections (sections_fault l.bytes) (sections_of l.bytes)
