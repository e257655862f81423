-- What was found of calls.
use Rattle.std.specs.Prelude.{◌≡◌, ◌↔◌, ◌<◌, ◌+◌, ℕ, pos, Bool, false, IsTrue, Some, List, [], ◌∷◌, get_or, slice_get, length}
use Rattle.std.specs.Ordering.{int_eq}
use Rattle.rt_elf.specs.Parts.{Parts as Object}
use Rattle.rt_flow.specs.declared.def.Def.{Def}
use Rattle.rt_insn.specs.declared.insn.Insn.{Insn}
use Rattle.rt_insn.specs.declared.insn.Insn.TheVariants.{Jalr}
use Rattle.rt_proc.specs.declared.proc.Proc.{Proc}
use Rattle.rt_proc.specs.declared.site.Callee.{Callee}
use Rattle.rt_proc.specs.declared.site.Site.{Site}
use Rattle.rt_body.specs.declared.body.Body.{Body}
use Rattle.rt_body.specs.Told.{reading_of}
use Rattle.rt_liveness.specs.declared.call.Call.{Call}
use Rattle.rt_liveness.specs.declared.interface.Interface.{Interface}
use Rattle.rt_liveness.specs.Calls.{IsPlainJump}
use Rattle.rt_liveness.specs.Inside.Closures.{is_met}
use Rattle.rt_liveness.specs.Inside.Conditions.{when_given, when_taken}
use Rattle.rt_liveness.specs.Inside.GivesRules.{IsProcedure}
use Rattle.rt_liveness.specs.Programs.{callees_of}

-- an instruction is a jump to what a register holds, with nothing added to it
abbrev pub is_plain_insn : Insn → Bool
is_plain_insn (Jalr link register offset) = int_eq offset (pos 0)
is_plain_insn other = false

-- one of a second list for each of a first one, of which it is true
pub record ArePaired {X Y : Type 0} (P : ℕ → X → Y → Type 0) (firsts : List X) (count : ℕ) (seconds : List Y) : Type 0 where
  pub one_each : length seconds ≡ count
  pub each : (k : ℕ) (x : X) (y : Y) → slice_get firsts k ≡ Some x → slice_get seconds k ≡ Some y → P k x y

-- what was found of a call of a callee by a site
pub record IsCallFound (interface : Interface) (sites : List Site) (reaching : ℕ → ℕ → List Def) (s : ℕ) (is_plain : Bool)
    (callee : Callee) (call : Call) : Type 0 where
  pub called : call.callee ≡ callee
  pub takes_each : length call.takes ≡ 8
  pub takes : (n : ℕ) → n < 8 → get_or call.takes n false ≡
      is_met interface.taken.keys (when_taken interface.named.items sites (reaching s (10 + n)) callee (10 + n))
  pub gives : call.gives ≡ is_met interface.given.keys (when_given interface.named.items callee 0) ∷
      is_met interface.given.keys (when_given interface.named.items callee 1) ∷ []
  pub plain : call.is_plain ≡ is_plain

-- of those of a site
abbrev pub AreCallsFoundAt : Interface → List Site → (ℕ → ℕ → List Def) → ℕ → Bool → Site → List Call → Type 0
AreCallsFoundAt interface sites reaching s is_plain site calls =
    ArePaired (λ k callee call. IsCallFound interface sites reaching s is_plain callee call) (callees_of site)
    (length (callees_of site)) calls

-- of a site, and whether it is a plain jump
pub record IsSiteFound (object : Object) (interface : Interface) (sites : List Site) (reaching : ℕ → ℕ → List Def) (s : ℕ)
    (site : Site) (calls : List Call) : Type 0 where
  pub plain : Bool
  pub is_plain : IsTrue plain ↔ IsPlainJump object site.place
  pub calls_at : AreCallsFoundAt interface sites reaching s plain site calls

-- of a procedure's sites
abbrev pub AreCallsFoundIn : Object → Interface → List Site → (ℕ → ℕ → List Def) → List (List Call) → Type 0
AreCallsFoundIn object interface sites reaching calls = ArePaired (IsSiteFound object interface sites reaching) sites (length sites) calls

-- of a procedure
pub record IsProcFound (object : Object) (interface : Interface) (procs : List Proc) (bodies : List Body) (q : ℕ) (proc : Proc)
    (calls : List (List Call)) : Type 0 where
  pub body : Body
  pub is_procedure : IsProcedure procs bodies q proc body
  pub calls_in : AreCallsFoundIn object interface proc.sites (reading_of body).reaching calls

-- of all procedures
abbrev pub AreCallsFound : Object → Interface → List Proc → List Body → List (List (List Call)) → Type 0
AreCallsFound object interface procs bodies calls = ArePaired (IsProcFound object interface procs bodies) procs (length procs) calls
