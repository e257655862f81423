-- What is told of the calls of an object's procedures.
use Rattle.std.specs.Prelude.{◌≡◌, ◌↔◌, ◌<◌, ℕ, ◌-◌, ◌&&◌, nat_lt, ℤ, pos, Bool, true, false, IsTrue, List, [], ◌∷◌, All, length, get_or}
use Rattle.std.specs.Prelude.{slice_index_or}
use Rattle.std.specs.Coded.{Π_prop, Unit-prop, le_prop}
use Rattle.std.specs.List.{filter}
use Rattle.rt_elf.specs.Parts.{Parts as Object}
use Rattle.rt_insn.specs.declared.insn.Insn.TheVariants.{Jalr}
use Rattle.rt_insn.specs.Table.{IsCode}
use Rattle.rt_link.specs.declared.place.Place.{Place}
use Rattle.rt_control.specs.Places.{word_of}
use Rattle.rt_proc.specs.declared.proc.Proc.{Proc}
use Rattle.rt_proc.specs.declared.site.Callee.{Callee}
use Rattle.rt_proc.specs.declared.site.Callee.TheVariants.{Proc as Procedure, Extern, Unknown}
use Rattle.rt_proc.specs.declared.site.Site.{Site}
use Rattle.rt_liveness.specs.declared.call.Call.{Call}
use Rattle.rt_liveness.specs.Programs.{Program, callees_of}
use Rattle.rt_liveness.specs.Gives.{Gives}
use Rattle.rt_liveness.specs.Takes.{Takes, CalleeAt, is_argument}

-- whether the callee of a call takes an argument register, as told
abbrev pub takes_register : Call → ℕ → Bool
takes_register call register = is_argument register && slice_index_or call.takes (register - 10) false

-- the argument registers that it takes, a0 to a7
abbrev pub taken_registers : Call → List ℕ
taken_registers call = filter (takes_register call) (10 ∷ 11 ∷ 12 ∷ 13 ∷ 14 ∷ 15 ∷ 16 ∷ 17 ∷ [])

-- whether it gives the result of a number
abbrev pub gives_result : Call → ℕ → Bool
gives_result call r = slice_index_or call.gives r false

-- the site at a place jumps to what a register holds, with nothing added to it
abbrev pub IsPlainJump : Object → Place → Type 0
IsPlainJump object place = (link register : ℕ) × IsCode (word_of object place) (Jalr link register (pos 0))

-- what is told of a call of a callee by a site of a procedure is true
pub record IsCallOf (program : Program) (q s : ℕ) (place : Place) (callee : Callee) (call : Call) : Type 0 where
  pub called : call.callee ≡ callee
  pub takes_each : length call.takes ≡ 8
  pub gives_each : length call.gives ≡ 2
  pub takes : (register : ℕ) → IsTrue (takes_register call register) ↔ Takes program (CalleeAt q s callee) register
  pub gives : (r : ℕ) → IsTrue (gives_result call r) ↔ Gives program callee r
  pub is_plain : IsTrue call.is_plain ↔ IsPlainJump program.object place

-- what is told of each of a site's callees, in their order
pub record AreCallsAt (program : Program) (q s : ℕ) (site : Site) (calls : List Call) : Type 0 where
  pub one_each : length calls ≡ length (callees_of site)
  pub each : (i : ℕ) (callee : Callee) (call : Call) → i < length calls
      → IsCallOf program q s site.place (get_or (callees_of site) i callee) (get_or calls i call)

-- of each site of a procedure
pub record AreCallsIn (program : Program) (q : ℕ) (proc : Proc) (calls : List (List Call)) : Type 0 where
  pub one_each : length calls ≡ length proc.sites
  pub each : (s : ℕ) (site : Site) → s < length calls → AreCallsAt program q s (get_or proc.sites s site) (get_or calls s [])

-- of each procedure
pub record AreCallsOf (program : Program) (all : List (List (List Call))) : Type 0 where
  pub one_each : length all ≡ length program.procs
  pub each : (q : ℕ) (proc : Proc) → q < length all → AreCallsIn program q (get_or program.procs q proc) (get_or all q [])

-- the register of a callee that is not known is one of x0 to x31
abbrev pub HasCalleeRegister : Callee → Type 0
HasCalleeRegister (Procedure number) = Unit {0}
HasCalleeRegister (Extern symbol) = Unit {0}
HasCalleeRegister (Unknown register) = register < 32

abbrev pub HasCallRegister : Call → Type 0
HasCallRegister call = HasCalleeRegister call.callee

-- such facts have one proof
HasCalleeRegister-prop : (callee : Callee) → IsProp (HasCalleeRegister callee)
HasCalleeRegister-prop (Procedure number) = Unit-prop
HasCalleeRegister-prop (Extern symbol) = Unit-prop
HasCalleeRegister-prop (Unknown register) = le_prop

pub HaveCallRegisters-prop : (calls : List (List Call)) → IsProp (All (All HasCallRegister) calls)
HaveCallRegisters-prop calls = Π_prop (λ k. Π_prop
    (λ d. Π_prop (λ less. Π_prop (λ j. Π_prop (λ e. Π_prop (λ under. HasCalleeRegister-prop _))))))
