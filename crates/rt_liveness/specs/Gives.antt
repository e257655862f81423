-- Which results procedures give.
use Rattle.std.specs.Prelude.{◌≡◌, ◌≤◌, ◌⊎◌, ℕ, ◌+◌, None, true, false, Contains}
use Rattle.rt_lines.specs.declared.label.Label.TheVariants.{Out}
use Rattle.rt_flow.specs.declared.def.Def.{Def}
use Rattle.rt_flow.specs.declared.def.Def.TheVariants.{At}
use Rattle.rt_proc.specs.declared.site.Callee.{Callee}
use Rattle.rt_proc.specs.declared.site.Callee.TheVariants.{Proc, Extern, Unknown}
use Rattle.rt_proc.specs.declared.site.Kind.TheVariants as kind
use Rattle.rt_proc.specs.declared.site.Site.{Site}
use Rattle.rt_body.specs.Readings.{Reading}
use Rattle.rt_liveness.specs.Programs.{Program, IsSiteOf, is_call, signature_at, IsSigned}

-- the register of the result of a number: a0 or a1 (RISC-V psABI, "Integer Calling Convention")
abbrev pub result_register : ℕ → ℕ
result_register r = 10 + r

-- the definition of a result's register by site d reaches a return of the procedure of a number
pub record ReachesReturn (program : Program) (q d r : ℕ) (writer : Site) : Type 0 where
  pub s : ℕ
  pub reading : Reading
  pub site : Site
  pub is_site : IsSiteOf program q s reading site
  pub returns : site.kind ≡ kind.Return
  pub is_result : r ≤ 1
  pub reaches : Contains (reading.reaching s (result_register r)) (At d)
  pub is_writer : IsSiteOf program q d reading writer

-- A callee gives a result: an instruction that is no call wrote what reaches a return, or a call did whose callee gives it,
-- or a procedure gives it in which this one goes on for good. An external function gives what its signature names, and where
-- it has none, or is not known, a0.
pub data Gives (program : Program) : Callee → ℕ → Type 0 where
  by_instruction : {q d r : ℕ} {writer : Site} → ReachesReturn program q d r writer → is_call writer.kind ≡ false →
      Gives program (Proc q) r
  by_call : {q d r link : ℕ} {writer : Site} {callee : Callee} → ReachesReturn program q d r writer →
      writer.kind ≡ kind.Call callee link
      → Gives program callee r → Gives program (Proc q) r
  by_tail : {q s r : ℕ} {reading : Reading} {site : Site} {callee : Callee} → IsSiteOf program q s reading site →
      Contains site.tails callee
      → Gives program callee r → Gives program (Proc q) r
  by_signature : {symbol r : ℕ} → r ≤ 1 → IsSigned program symbol (Out r) → Gives program (Extern symbol) r
  by_default : {symbol : ℕ} → signature_at program symbol ≡ None → Gives program (Extern symbol) 0
  by_pointer : {register : ℕ} → Gives program (Unknown register) 0

-- a real definition of the register of a result reaches a site: one that an instruction wrote that is no call, or a call
-- whose callee gives it
pub record HasReal (program : Program) (reading : Reading) (q s r : ℕ) : Type 0 where
  pub d : ℕ
  pub reaches : Contains (reading.reaching s (result_register r)) (At d)
  pub writer : Site
  pub is_writer : IsSiteOf program q d reading writer
  pub real : (is_call writer.kind ≡ false)
      ⊎ ((callee : Callee) × (link : ℕ) × (writer.kind ≡ kind.Call callee link) × Gives program callee r)
