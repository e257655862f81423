-- What is known of a procedure of an object.
use Rattle.std.specs.Prelude.{ℕ, ◌<◌, All, List}
use Rattle.rt_elf.specs.Parts.{Parts as Object}
use Rattle.rt_elf.specs.Object.{IsLinkable}
use Rattle.rt_insn.specs.Range.{HasRange}
use Rattle.rt_proc.specs.declared.proc.Proc.{Proc}
use Rattle.rt_proc.specs.declared.site.Kind.{Kind}
use Rattle.rt_proc.specs.declared.site.Kind.TheVariants as kind
use Rattle.rt_proc.specs.declared.site.Site.{Site}
use Rattle.rt_proc.specs.Laws.{IsClosed}
use Rattle.rt_proc.specs.Order.{AreAscending}
use Rattle.rt_proc.specs.Procs.{places_of, AreProcs}
use Rattle.rt_track.specs.Placed.{NamesRegisters}
use Rattle.rt_body.specs.declared.action.Action.{Action}
use Rattle.rt_body.specs.Actions.{defined_by, op_of}

-- the fields of an instruction are in their ranges, and a link register is one of x0 to x31
abbrev pub IsKindInRange : Kind → Type 0
IsKindInRange (kind.Plain insn) = HasRange insn
IsKindInRange (kind.Call callee link) = link < 32
IsKindInRange kind.Return = Unit {0}
IsKindInRange kind.Stop = Unit {0}

-- its sites rise by their places, the entry and each step lead to one of them, and what they are is in range
pub record IsReadable (proc : Proc) : Type 0 where
  pub ascending : AreAscending (places_of proc.sites)
  pub closed : IsClosed proc
  pub in_range : All (λ (site : Site). IsKindInRange site.kind) proc.sites

-- so is each procedure of an object, whatever undefined symbols end paths
abbrev pub IsLawOfProcs : Type 0
IsLawOfProcs =
    (object : Object) (ends : List ℕ) (procs : List Proc) → IsLinkable object → AreProcs object ends procs → All IsReadable procs

-- the registers that an action computes with and those that it defines are x0 to x31
pub record HasOpRegisters (action : Action) : Type 0 where
  pub named : NamesRegisters (op_of action)
  pub defined : All (λ register. register < 32) (defined_by action)
