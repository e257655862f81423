-- The rules of what procedures give.
use Rattle.std.specs.Prelude.{◌≡◌, ◌⊎◌, ◌<◌, ℕ, ◌+◌, Some, List, Contains, slice_get, length}
use Rattle.rt_flow.specs.declared.def.Def.{Def}
use Rattle.rt_flow.specs.declared.def.Def.TheVariants.{At}
use Rattle.rt_proc.specs.declared.proc.Proc.{Proc}
use Rattle.rt_proc.specs.declared.site.Callee.{Callee}
use Rattle.rt_proc.specs.declared.site.Kind.{Kind}
use Rattle.rt_proc.specs.declared.site.Kind.TheVariants.{Return}
use Rattle.rt_proc.specs.declared.site.Site.{Site}
use Rattle.rt_body.specs.declared.body.Body.{Body}
use Rattle.rt_body.specs.Told.{reading_of}
use Rattle.rt_liveness.specs.declared.named.Named.{Named}
use Rattle.rt_liveness.specs.declared.rule.Rule.{Rule}
use Rattle.rt_liveness.specs.Inside.Conditions.{port_of, when_given, when_written}

-- the rule of a definition of a result's register by a site of a procedure
pub record IsWriterRule (named : List Named) (sites : List Site) (q r : ℕ) (def : Def) (rule : Rule) : Type 0 where
  pub d : ℕ
  pub writer : Site
  pub is_def : def ≡ At d
  pub is_writer : slice_get sites d ≡ Some writer
  pub is_rule : rule ≡ record { when = when_written named writer.kind r; port = port_of q (10 + r) }

-- those of definitions
abbrev pub AreWriterRules : List Named → List Site → ℕ → ℕ → List Def → Rule → Type 0
AreWriterRules named sites q r defs rule = (def : Def) × Contains defs def × IsWriterRule named sites q r def rule

-- those of a return
abbrev pub AreReturnRules : List Named → List Site → (ℕ → ℕ → List Def) → ℕ → ℕ → Rule → Type 0
AreReturnRules named sites reaching q s rule = (r : ℕ) × (r < 2) × AreWriterRules named sites q r (reaching s (10 + r)) rule

-- those of a site of a kind, if it is a return
abbrev pub AreReturnedRules : List Named → List Site → (ℕ → ℕ → List Def) → ℕ → ℕ → Kind → Rule → Type 0
AreReturnedRules named sites reaching q s kind rule = (kind ≡ Return) × AreReturnRules named sites reaching q s rule

-- those of a procedure that goes on in a callee for good
abbrev pub AreCalleeRules : List Named → ℕ → Callee → Rule → Type 0
AreCalleeRules named q callee rule = (r : ℕ) × (r < 2) ×
    (rule ≡ record { when = when_given named callee r; port = port_of q (10 + r) })

abbrev pub AreTailRules : List Named → ℕ → List Callee → Rule → Type 0
AreTailRules named q tails rule = (callee : Callee) × Contains tails callee × AreCalleeRules named q callee rule

-- those of a site
abbrev pub AreSiteRules : List Named → List Site → (ℕ → ℕ → List Def) → ℕ → ℕ → Site → Rule → Type 0
AreSiteRules named sites reaching q s site rule =
    AreReturnedRules named sites reaching q s site.kind rule ⊎ AreTailRules named q site.tails rule

-- those of a procedure
abbrev pub AreGivesRules : List Named → List Site → (ℕ → ℕ → List Def) → ℕ → Rule → Type 0
AreGivesRules named sites reaching q rule =
    (s : ℕ) × (s < length sites) ×
    ((site : Site) × (slice_get sites s ≡ Some site) × AreSiteRules named sites reaching q s site rule)

-- a procedure and what is known of it, by its number
pub record IsProcedure (procs : List Proc) (bodies : List Body) (q : ℕ) (proc : Proc) (body : Body) : Type 0 where
  pub is_proc : slice_get procs q ≡ Some proc
  pub is_body : slice_get bodies q ≡ Some body

-- those of all procedures
abbrev pub AreAllRules : List Named → List Proc → List Body → Rule → Type 0
AreAllRules named procs bodies rule =
    (q : ℕ) × (q < length procs)
    × ((proc : Proc) × (body : Body) × IsProcedure procs bodies q proc body
    × AreGivesRules named proc.sites (reading_of body).reaching q rule)
