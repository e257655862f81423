-- Rules at the end of lists of rules.
use Rattle.std.proofs.Common.{◌≡◌, ℕ, ◌+◌, ◌<◌, ◌≤◌, List, [], ◌∷◌, ◌++◌, length, slice_get, Some, sym, ap, subst, ◌∙◌, arith}
use Rattle.std.proofs.lemmas.Option.{slice_get_within}
use Rattle.rt_flow.specs.declared.def.Def.{Def}
use Rattle.rt_flow.specs.declared.def.Def.TheVariants.{At}
use Rattle.rt_proc.specs.declared.proc.Proc.{Proc}
use Rattle.rt_proc.specs.declared.site.Site.{Site}
use Rattle.rt_body.specs.declared.body.Body.{Body}
use Rattle.rt_liveness.specs.declared.named.Named.{Named}
use Rattle.rt_liveness.specs.declared.rule.Port.{Port}
use Rattle.rt_liveness.specs.declared.rule.Rule.{Rule}
use Rattle.rt_liveness.specs.declared.rule.When.{When}
use Rattle.rt_liveness.specs.Inside.Additions.{Adds}
use Rattle.rt_liveness.specs.Inside.Conditions.{port_of, when_written}
use Rattle.rt_liveness.specs.Inside.GivesRules.{IsProcedure, IsWriterRule}
use Rattle.rt_liveness.proofs.Adding.{alike, nothing, pushed}

-- one rule, of which the condition is known in other words
pub pushed_rule : (old new : List Rule) (w v : When) (port : Port) → (let rule : Rule = record { when = w; port = port } in new ≡ old ++ rule ∷ []) → w ≡ v → Adds old new (λ rule. rule ≡ record { when = v; port = port })
pushed_rule old new w v port is e =
    let rule : When → Rule = λ u. record { when = u; port = port } in
    pushed old new (rule v) (is ∙ ap (λ (u : When). old ++ rule u ∷ []) e)

-- the rule of a definition by a site
module _ (named : List Named) (sites : List Site) (q r d : ℕ) (def : Def) (is_def : def ≡ At d) where
  of_site : (rule : Rule) (w : IsWriterRule named sites q r def rule) → w.d ≡ d
  of_site rule w = let both : At w.d ≡ At d = sym w.is_def ∙ is_def in cc

  pub writer_rule : (writer : Site) → slice_get sites d ≡ Some writer → (old new : List Rule) → Adds old new (λ rule. rule ≡ record { when = when_written named writer.kind r; port = port_of q (10 + r) }) → Adds old new (IsWriterRule named sites q r def)
  writer_rule writer at old new =
      alike old new (λ rule. rule ≡ record { when = when_written named writer.kind r; port = port_of q (10 + r) }) (IsWriterRule named sites q r def)
      (λ rule. ((λ e. record { d = d; writer = writer; is_def = is_def; is_writer = at; is_rule = e }), λ w. back rule w))
    where
      back : (rule : Rule) → IsWriterRule named sites q r def rule → rule ≡ record { when = when_written named writer.kind r; port = port_of q (10 + r) }
      back rule w =
          let there : slice_get sites d ≡ Some w.writer = subst (λ (n : ℕ). slice_get sites n ≡ Some w.writer) (of_site rule w) w.is_writer in
          let one : w.writer ≡ writer = let both : Some w.writer ≡ Some writer = sym there ∙ at in cc in
          let said : Site → Rule = λ site. record { when = when_written named site.kind r; port = port_of q (10 + r) } in
          w.is_rule ∙ ap said one

  pub no_writer : (rules : List Rule) → length sites ≤ d → Adds rules rules (IsWriterRule named sites q r def)
  no_writer rules past =
      nothing rules (IsWriterRule named sites q r def) (λ rule w.
      let less = slice_get_within sites w.d w.writer w.is_writer in
      let same = of_site rule w in
      absurd (omega arith))

-- what is added for a procedure and its body
module _ (procs : List Proc) (bodies : List Body) (told : Body → ℕ → ℕ → List Def) (Q : List Site → (ℕ → ℕ → List Def) → ℕ → Rule → Type 0) (q : ℕ) where
  abbrev pub ForProcedure : Rule → Type 0
  ForProcedure rule = (p : Proc) × (b : Body) × IsProcedure procs bodies q p b × Q p.sites (told b) q rule

  same_procedure : (p p' : Proc) (b b' : Body) → IsProcedure procs bodies q p b → IsProcedure procs bodies q p' b' → (p ≡ p') × (b ≡ b')
  same_procedure p p' b b' is is' =
      let procs_same : Some p ≡ Some p' = sym is.is_proc ∙ is'.is_proc in
      let bodies_same : Some b ≡ Some b' = sym is.is_body ∙ is'.is_body in
      ((cc), (cc))

  moved : (p p' : Proc) (b b' : Body) (rule : Rule) → (p ≡ p') × (b ≡ b') → Q p.sites (told b) q rule → Q p'.sites (told b') q rule
  moved p p' b b' rule (e, f) h = subst (λ (x : Proc). Q x.sites (told b') q rule) e (subst (λ (y : Body). Q p.sites (told y) q rule) f h)

  pub for_procedure : (proc : Proc) (body : Body) (sites : List Site) (old new : List Rule) → IsProcedure procs bodies q proc body → sites ≡ proc.sites → Adds old new (Q sites (told body) q) → Adds old new ForProcedure
  for_procedure proc body sites old new is same adds =
      alike old new (Q proc.sites (told body) q) ForProcedure (λ rule. ((λ h. (proc, body, is, h)), λ h. moved h.0 proc h.1 body rule (same_procedure h.0 proc h.1 body h.2 is) h.3))
      (subst (λ (xs : List Site). Adds old new (Q xs (told body) q)) same adds)
