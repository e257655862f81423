-- Which argument registers procedures take.
use Rattle.std.specs.Prelude.{◌≡◌, ◌≤◌, ℕ, ◌+◌, ◌&&◌, nat_le, Bool, true, false, Contains}
use Rattle.rt_lines.specs.declared.label.Loc.TheVariants.{Arg}
use Rattle.rt_lines.specs.declared.label.Label.TheVariants.{In}
use Rattle.rt_flow.specs.declared.def.Def.TheVariants.{Entry, At}
use Rattle.rt_proc.specs.declared.site.Callee.{Callee}
use Rattle.rt_proc.specs.declared.site.Callee.TheVariants.{Proc, Extern, Unknown}
use Rattle.rt_proc.specs.declared.site.Kind.TheVariants as kind
use Rattle.rt_proc.specs.declared.site.Site.{Site}
use Rattle.rt_body.specs.Readings.{Reading}
use Rattle.rt_liveness.specs.Programs.{Program, IsSiteOf, callees_of, is_call, IsSigned, IsCounted}
use Rattle.rt_liveness.specs.Reads.{reads_of}
use Rattle.rt_liveness.specs.Gives.{result_register, HasReal}

-- an argument register, a0 to a7 (RISC-V psABI, "Integer Calling Convention")
abbrev pub is_argument : ℕ → Bool
is_argument register = nat_le 10 register && nat_le register 17

-- who takes arguments: the procedure of a number, or a callee where a site of a procedure calls it
pub data Taker : Type 0 where
  Procedure : ℕ → Taker
  CalleeAt : ℕ → ℕ → Callee → Taker

-- the register's value at the entry of the procedure reaches its site, and the register is an argument's
pub record ReachesSite (program : Program) (q s register : ℕ) (site : Site) : Type 0 where
  pub reading : Reading
  pub is_site : IsSiteOf program q s reading site
  pub is_argument : is_argument register ≡ true
  pub reaches : Contains (reading.reaching s register) Entry

-- an instruction that is no call wrote the register, and what it wrote reaches the site
pub record IsPassed (program : Program) (q s register : ℕ) : Type 0 where
  pub reading : Reading
  pub site : Site
  pub is_site : IsSiteOf program q s reading site
  pub d : ℕ
  pub reaches : Contains (reading.reaching s register) (At d)
  pub writer : Site
  pub is_writer : IsSiteOf program q d reading writer
  pub no_call : is_call writer.kind ≡ false

-- A procedure takes an argument register if its value at the entry reaches a site that reads it: the site itself does, or a
-- callee takes it there, or it is a return, which reads a result's register where a real definition of it reaches. An external
-- function takes what its signature names, and the registers that its signature counts; without a signature it takes nothing.
-- One that is not known takes what instructions that are no calls wrote for it.
pub data Takes (program : Program) : Taker → ℕ → Type 0 where
  by_instruction : {q s register : ℕ} {site : Site} → ReachesSite program q s register site → Contains (reads_of site.kind) register
      → Takes program (Procedure q) register
  by_callee : {q s register : ℕ} {site : Site} {callee : Callee} → ReachesSite program q s register site →
      Contains (callees_of site) callee
      → Takes program (CalleeAt q s callee) register → Takes program (Procedure q) register
  by_return : {q s r : ℕ} {site : Site} → (reaches : ReachesSite program q s (result_register r) site) →
      site.kind ≡ kind.Return → r ≤ 1
      → HasReal program reaches.reading q s r → Takes program (Procedure q) (result_register r)
  of_procedure : {q s p register : ℕ} → Takes program (Procedure p) register → Takes program (CalleeAt q s (Proc p)) register
  by_signature : {q s symbol n : ℕ} → n ≤ 7 → IsSigned program symbol (In (Arg n)) →
      Takes program (CalleeAt q s (Extern symbol)) (10 + n)
  by_count : {q s symbol n : ℕ} → n ≤ 7 → IsCounted program symbol n → Takes program (CalleeAt q s (Extern symbol)) (10 + n)
  by_pointer : {q s register through : ℕ} → is_argument register ≡ true → IsPassed program q s register
      → Takes program (CalleeAt q s (Unknown through)) register
