-- What checks answer. The definitions of first faults are those of the base crate.
use Rattle.std.specs.Prelude.{◌≡◌, Option, Some, None, Result, Ok, Err}
use Rattle.rt_elf.specs.declared.fault.ElfFault.{ElfFault}
use Rattle.rt_elf.specs.declared.fault.ElfFault.TheVariants.{Bad, Memory}

-- a check answers Ok where there is no fault, else the fault
abbrev pub checked : Option ElfFault → Result (Unit {0}) ElfFault
checked None = Ok tt
checked (Some fault) = Err fault

-- an error of a reader is the first fault; memory may always run out
abbrev pub IsFaultOf : Option ElfFault → ElfFault → Type 0
IsFaultOf fault (Bad number offset) = fault ≡ Some (Bad number offset)
IsFaultOf fault Memory = Unit {0}
