-- The rules of what procedures take.
use Rattle.std.specs.Prelude.{◌≡◌, ◌⊎◌, ◌<◌, ℕ, ◌+◌, true, ◌||◌, Some, List, Contains, slice_get, length}
use Rattle.rt_flow.specs.declared.def.Def.{Def}
use Rattle.rt_proc.specs.declared.proc.Proc.{Proc}
use Rattle.rt_proc.specs.declared.site.Callee.{Callee}
use Rattle.rt_proc.specs.declared.site.Kind.{Kind}
use Rattle.rt_proc.specs.declared.site.Site.{Site}
use Rattle.rt_body.specs.declared.body.Body.{Body}
use Rattle.rt_body.specs.Told.{reading_of}
use Rattle.rt_liveness.specs.declared.named.Named.{Named}
use Rattle.rt_liveness.specs.declared.rule.Port.{Port}
use Rattle.rt_liveness.specs.declared.rule.Rule.{Rule}
use Rattle.rt_liveness.specs.Inside.Conditions.{port_of, begins_with_entry, is_among, returns_real, when_taken, when_true}
use Rattle.rt_liveness.specs.Inside.GivesRules.{IsProcedure}
use Rattle.rt_liveness.specs.Programs.{callees_of}
use Rattle.rt_liveness.specs.Reads.{reads_of}

-- the rule of a site of a kind that reads a register itself, of which these definitions reach it
abbrev pub IsReadRule : List Port → List Named → List Site → ℕ → Kind → ℕ → List Def → Rule → Type 0
IsReadRule given named sites q kind register defs rule =
    rule ≡ record {
      when = when_true (is_among (reads_of kind) register || returns_real given named sites kind register defs);
      port = port_of q register;
    }

-- those of callees that take it
abbrev pub AreTakenRules : List Named → List Site → ℕ → List Callee → ℕ → List Def → Rule → Type 0
AreTakenRules named sites q callees register defs rule =
    (callee : Callee) × Contains callees callee
    × (rule ≡ record { when = when_taken named sites defs callee register; port = port_of q register })

-- those of both, where Entry reaches the site
abbrev pub AreRegisterRules : List Port → List Named → List Site → ℕ → Kind → List Callee → ℕ → List Def →
    Rule → Type 0
AreRegisterRules given named sites q kind callees register defs rule =
    (begins_with_entry defs ≡ true)
    × (IsReadRule given named sites q kind register defs rule ⊎ AreTakenRules named sites q callees register defs rule)

-- those of a site for all argument registers
abbrev pub AreRegistersRules : List Port → List Named → List Site → (ℕ → ℕ → List Def) → ℕ → ℕ → Site →
    Rule → Type 0
AreRegistersRules given named sites reaching q s site rule =
    (n : ℕ) × (n < 8) × AreRegisterRules given named sites q site.kind (callees_of site) (10 + n) (reaching s (10 + n)) rule

-- those of a procedure
abbrev pub AreTakesRules : List Port → List Named → List Site → (ℕ → ℕ → List Def) → ℕ → Rule → Type 0
AreTakesRules given named sites reaching q rule =
    (s : ℕ) × (s < length sites)
    × ((site : Site) × (slice_get sites s ≡ Some site) × AreRegistersRules given named sites reaching q s site rule)

-- those of all procedures
abbrev pub AreAllRules : List Port → List Named → List Proc → List Body → Rule → Type 0
AreAllRules given named procs bodies rule =
    (q : ℕ) × (q < length procs)
    × ((proc : Proc) × (body : Body) × IsProcedure procs bodies q proc body
    × AreTakesRules given named proc.sites (reading_of body).reaching q rule)
