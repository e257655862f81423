-- The parts of an object, as contracts see them.
use Rattle.std.specs.Prelude.{ℕ, List}
use Rattle.rt_elf.specs.declared.section.Section.{Section}
use Rattle.rt_elf.specs.declared.symbol.Symbol.{Symbol}
use Rattle.rt_elf.specs.declared.reloc.Reloc.{Reloc}

pub record Parts : Type 0 where
  pub sections : List Section
  pub symbols : List Symbol
  pub relocs : List Reloc
  pub bytes : List ℕ
