-- What follows from the rules of what procedures give is what they give.
use Rattle.std.proofs.Common.{◌≡◌, ℕ, zero, suc, ◌+◌, ◌<◌, ◌≤◌, ◌⊎◌, ◌↔◌, inl, inr, Bool, true, false, ◌==◌, not, Option, Some, None, List, Contains, All, length, map, get_or, slice_get, refl, sym, ap, subst, ◌∙◌, arith}
use Rattle.std.specs.Option.{option_map}
use Rattle.std.proofs.lemmas.Bool.{true≢false}
use Rattle.std.proofs.lemmas.Bool.Decides.{Decides-eqb}
use Rattle.std.proofs.lemmas.List.Elements.{All-contains}
use Rattle.std.proofs.lemmas.Option.{slice_get-get_or, slice_get-map, slice_get_within}
use Rattle.rt_lines.specs.declared.label.Label.TheVariants.{Out}
use Rattle.rt_elf.specs.Parts.{Parts as Object}
use Rattle.rt_flow.specs.declared.def.Def.{Def}
use Rattle.rt_flow.specs.declared.def.Def.TheVariants.{At}
use Rattle.rt_proc.specs.declared.proc.Proc.{Proc}
use Rattle.rt_proc.specs.declared.site.Callee.{Callee}
use Rattle.rt_proc.specs.declared.site.Callee.TheVariants as callee
use Rattle.rt_proc.specs.declared.site.Kind.{Kind}
use Rattle.rt_proc.specs.declared.site.Kind.TheVariants as kind
use Rattle.rt_proc.specs.declared.site.Site.{Site}
use Rattle.rt_proc.specs.Laws.{IsCallee, IsKind, HasCallees}
use Rattle.rt_body.specs.declared.body.Body.{Body}
use Rattle.rt_body.specs.Readings.{Reading}
use Rattle.rt_body.specs.Told.{reading_of}
use Rattle.rt_scheme.specs.declared.scheme.Scheme.{Scheme}
use Rattle.rt_scheme.specs.Ports.{names_label}
use Rattle.rt_sigs.specs.Signatures.{Signature}
use Rattle.rt_liveness.specs.declared.named.Named.{Named}
use Rattle.rt_liveness.specs.declared.rule.Port.{Port}
use Rattle.rt_liveness.specs.declared.rule.Rule.{Rule}
use Rattle.rt_liveness.specs.declared.rule.When.{When}
use Rattle.rt_liveness.specs.declared.rule.When.TheVariants.{Never, Always, If}
use Rattle.rt_liveness.specs.Inside.Closures.{Follows}
use Rattle.rt_liveness.specs.Inside.Conditions.{port_of, gives_named, gives_of, when_given, when_written, when_true}
use Rattle.rt_liveness.specs.Gives.{Gives, ReachesReturn}
use Rattle.rt_liveness.specs.Inside.GivesRules.{IsWriterRule, AreWriterRules, AreReturnRules, AreTailRules, AreSiteRules, AreGivesRules, AreAllRules, IsProcedure}
use Rattle.rt_liveness.specs.Inside.Interfaces.{IsClosure}
use Rattle.rt_liveness.specs.Programs.{Program, IsSiteOf, is_call, signature_at, IsSigned}
use Rattle.rt_liveness.specs.Inside.Signed.{AreNamed, names_result}
use Rattle.rt_liveness.specs.Told.{program_of}
use Rattle.rt_liveness.proofs.Adding.{found_at}
use Rattle.rt_liveness.proofs.Meeting.{Holds, holds_of, met, holds_true, true_holds}

-- what a map finds at a place
pub mapped_at : {X Y : Type 0} (f : X → Y) (xs : List X) (k : ℕ) (y : Y) → slice_get (map f xs) k ≡ Some y → (x : X) × (slice_get xs k ≡ Some x) × (f x ≡ y)
mapped_at {X} {Y} f xs k y h = by (slice_get xs k) refl
  where
    by : (o : Option X) → slice_get xs k ≡ o → (x : X) × (slice_get xs k ≡ Some x) × (f x ≡ y)
    by None e = let none : None ≡ Some y = sym (slice_get-map f xs k ∙ ap (option_map f) e) ∙ h in cc
    by (Some x) e = let some : Some (f x) ≡ Some y = sym (slice_get-map f xs k ∙ ap (option_map f) e) ∙ h in (x, e, (cc))

pub known_callee : (object : Object) (count : ℕ) (callee : Callee) (link : ℕ) (k : Kind) → k ≡ kind.Call callee link → IsKind object count k → IsCallee object count callee
known_callee object count callee link k is h = (subst (IsKind object count) is h).0

-- what a site writes that is no call is a result
pub written_own : (named : List Named) (k : Kind) (r : ℕ) → is_call k ≡ false → when_written named k r ≡ Always
written_own named (kind.Plain insn) r e = refl
written_own named (kind.Call callee link) r e = absurd (true≢false e)
written_own named kind.Return r e = refl
written_own named kind.Stop r e = refl

module _ (object : Object) (procs : List Proc) (bodies : List Body) (signatures : List Signature) (named : List Named) where
  abbrev pub program : Program
  program = program_of object procs bodies signatures

  abbrev pub KnownCallees : Type 0
  KnownCallees = All (λ (proc : Proc). All (HasCallees object (length procs)) proc.sites) procs

  -- a site of a procedure of which the body is known
  pub site_of : (q s : ℕ) (proc : Proc) (body : Body) (site : Site) → IsProcedure procs bodies q proc body → slice_get proc.sites s ≡ Some site → IsSiteOf program q s (reading_of body) site
  site_of q s proc body site is at = record {
    proc = proc;
    is_proc = is.is_proc;
    is_reading = slice_get-map reading_of bodies q ∙ ap (option_map reading_of) is.is_body;
    is_site = at;
  }

  -- and back
  pub record HasBody (q s : ℕ) (reading : Reading) (site : Site) : Type 0 where
    pub proc : Proc
    pub body : Body
    pub is_procedure : IsProcedure procs bodies q proc body
    pub is_reading : reading_of body ≡ reading
    pub is_site : slice_get proc.sites s ≡ Some site

  pub body_of : (q s : ℕ) (reading : Reading) (site : Site) → IsSiteOf program q s reading site → HasBody q s reading site
  body_of q s reading site is =
      let found = mapped_at reading_of bodies q reading is.is_reading in
      record { proc = is.proc; body = found.0; is_procedure = record { is_proc = is.is_proc; is_body = found.1 }; is_reading = found.2; is_site = is.is_site }

  pub same_proc : (q : ℕ) (p p' : Proc) (b b' : Body) → IsProcedure procs bodies q p b → IsProcedure procs bodies q p' b' → (p ≡ p') × (b ≡ b')
  same_proc q p p' b b' is is' =
      let procs_same : Some p ≡ Some p' = sym is.is_proc ∙ is'.is_proc in
      let bodies_same : Some b ≡ Some b' = sym is.is_body ∙ is'.is_body in
      ((cc), (cc))

  module _ (laws : KnownCallees) where
    pub known_site : (q s : ℕ) (proc : Proc) (site : Site) → slice_get procs q ≡ Some proc → slice_get proc.sites s ≡ Some site → HasCallees object (length procs) site
    known_site q s proc site is at =
        All-contains (HasCallees object (length procs)) proc.sites site (All-contains (λ (p : Proc). All (HasCallees object (length procs)) p.sites) procs proc laws (found_at procs q proc is)) (found_at proc.sites s site at)

  module _ (are_named : AreNamed object signatures named) where
    -- the function of a symbol gives what its signature names
    pub named_gives : (symbol r : ℕ) → symbol < length object.symbols → r < 2 → gives_named named symbol r ≡ names_result (signature_at program symbol) r
    named_gives symbol r known few = by (slice_get named symbol) refl
      where
        by : (o : Option Named) → slice_get named symbol ≡ o → gives_of (slice_get named symbol) r ≡ names_result (signature_at program symbol) r
        by None e =
            let long : length named ≡ length object.symbols = are_named.one_each in
            let there = slice_get-get_or named symbol nobody (omega arith) in
            let bad : None ≡ Some (get_or named symbol nobody) = sym e ∙ there in
            cc
          where
            nobody : Named
            nobody = record { takes = List.[]; gives = List.[] }
        by (Some one) e = ap (λ (o : Option Named). gives_of o r) e ∙ (are_named.each symbol one e).gives r few

    abbrev Given : Port → Type 0
    Given port = (r : ℕ) × (port.register ≡ 10 + r) × Gives program (callee.Proc port.procedure) r

    -- what signatures name is given
    signed_sound : (symbol r : ℕ) (o : Option Scheme) → r < 2 → signature_at program symbol ≡ o → names_result o r ≡ true → Gives program (callee.Extern symbol) r
    signed_sound symbol r None few is e = subst (Gives program (callee.Extern symbol)) (sym ((Decides-eqb r 0).0 e)) (Gives.by_default is)
    signed_sound symbol r (Some scheme) few is e = Gives.by_signature (omega arith) (scheme, is, e)

    given_sound : (one : Callee) (r : ℕ) → IsCallee object (length procs) one → r < 2 → Holds Given (when_given named one r) → Gives program one r
    given_sound (callee.Proc p) r known few (r', e, g) = let same : r' ≡ r = omega arith in subst (Gives program (callee.Proc p)) same g
    given_sound (callee.Extern symbol) r known few h =
        signed_sound symbol r (signature_at program symbol) few refl (sym (named_gives symbol r known.is_symbol few) ∙ holds_true Given (gives_named named symbol r) h)
    given_sound (callee.Unknown register) r known few h = subst (Gives program (callee.Unknown register)) (sym ((Decides-eqb r 0).0 (holds_true Given (r == 0) h))) Gives.by_pointer

    -- what a writer writes that reaches a return is given
    written_sound : (q d r : ℕ) (writer : Site) → IsKind object (length procs) writer.kind → r < 2 → ReachesReturn program q d r writer → (k : Kind) → writer.kind ≡ k → Holds Given (when_written named k r) → Gives program (callee.Proc q) r
    written_sound q d r writer known few reach (kind.Plain insn) is h = Gives.by_instruction reach (ap is_call is)
    written_sound q d r writer known few reach (kind.Call one link) is h = Gives.by_call reach is (given_sound one r (known_callee object (length procs) one link writer.kind is known) few h)
    written_sound q d r writer known few reach kind.Return is h = Gives.by_instruction reach (ap is_call is)
    written_sound q d r writer known few reach kind.Stop is h = Gives.by_instruction reach (ap is_call is)

    module _ (laws : KnownCallees) where
      rule_sound : (rule : Rule) → AreAllRules named procs bodies rule → Holds Given rule.when → Given rule.port
      rule_sound rule (q, less, (proc, body, is, (s, within, (site, at, rules)))) h = by rules
        where
          port_is : (r : ℕ) → rule.port ≡ port_of q (10 + r) → Gives program (callee.Proc q) r → Given rule.port
          port_is r e g = subst Given (sym e) (r, refl, g)

          by : AreSiteRules named proc.sites (reading_of body).reaching q s site rule → Given rule.port
          by (inl (returns, (r, few, (def, there, w)))) =
              let writer_of = site_of q w.d proc body w.writer is w.is_writer in
              let reach : ReachesReturn program q w.d r w.writer = record {
                s = s;
                reading = reading_of body;
                site = site;
                is_site = site_of q s proc body site is at;
                returns = returns;
                is_result = omega arith;
                reaches = subst (Contains ((reading_of body).reaching s (10 + r))) w.is_def there;
                is_writer = writer_of;
              } in
              let when_is : rule.when ≡ when_written named w.writer.kind r = ap (λ (x : Rule). x.when) w.is_rule in
              port_is r (ap (λ (x : Rule). x.port) w.is_rule)
              (written_sound q w.d r w.writer (known_site laws q w.d proc w.writer is.is_proc w.is_writer).0 few reach w.writer.kind refl (subst (Holds Given) when_is h))
          by (inr (one, there, (r, few, is_rule))) =
              let when_is : rule.when ≡ when_given named one r = ap (λ (x : Rule). x.when) is_rule in
              let known = All-contains (IsCallee object (length procs)) site.tails one (known_site laws q s proc site is.is_proc at).1 there in
              port_is r (ap (λ (x : Rule). x.port) is_rule) (Gives.by_tail (site_of q s proc body site is at) there (given_sound one r known few (subst (Holds Given) when_is h)))

      module _ (given : List Port) (closure : IsClosure (AreAllRules named procs bodies) given) where
        follows_sound : (port : Port) → Follows closure.by_rules port → Given port
        follows_sound port (Follows.fact said) = rule_sound (record { when = Always; port = port }) ((closure.are_rules _).0 said) tt
        follows_sound port (Follows.step {premise} f said) = rule_sound (record { when = If premise; port = port }) ((closure.are_rules _).0 said) (follows_sound premise f)

        -- what was found is given
        pub found_given : (one : Callee) (r : ℕ) → IsCallee object (length procs) one → r < 2 → Holds (Contains given) (when_given named one r) → Gives program one r
        found_given one r known few h = given_sound one r known few (holds_of (Contains given) Given (λ port there. follows_sound port ((closure.follows port).0 there)) (when_given named one r) h)

        -- the port of a rule that is met was found
        rule_met : (when : When) (port : Port) → AreAllRules named procs bodies (record { when = when; port = port }) → Holds (Contains given) when → Contains given port
        rule_met Never port is h = absurd h
        rule_met Always port is h = (closure.follows port).1 (Follows.fact ((closure.are_rules _).1 is))
        rule_met (If premise) port is h = (closure.follows port).1 (Follows.step ((closure.follows premise).0 h) ((closure.are_rules _).1 is))

        -- a writer that reaches a return has a rule
        written_met : (q d r : ℕ) (writer : Site) → ReachesReturn program q d r writer → Holds (Contains given) (when_written named writer.kind r) → Contains given (port_of q (10 + r))
        written_met q d r writer reach h =
            let at = body_of q reach.s reach.reading reach.site reach.is_site in
            let there = body_of q d reach.reading writer reach.is_writer in
            let same = same_proc q there.proc at.proc there.body at.body there.is_procedure at.is_procedure in
            let written : slice_get at.proc.sites d ≡ Some writer = subst (λ (p : Proc). slice_get p.sites d ≡ Some writer) same.0 there.is_site in
            let reaches : Contains ((reading_of at.body).reaching reach.s (10 + r)) (At d) = subst (λ (x : Reading). Contains (x.reaching reach.s (10 + r)) (At d)) (sym at.is_reading) reach.reaches in
            let result = reach.is_result in
            rule_met (when_written named writer.kind r) (port_of q (10 + r)) (
              q,
              slice_get_within procs q at.proc at.is_procedure.is_proc,
              (
                at.proc,
                at.body,
                at.is_procedure,
                (
                  reach.s,
                  slice_get_within at.proc.sites reach.s reach.site at.is_site,
                  (
                    reach.site,
                    at.is_site,
                    inl (reach.returns, (r, omega arith, (At d, reaches, record { d = d; writer = writer; is_def = refl; is_writer = written; is_rule = refl }))),
                  ),
                ),
              ),
            )
            h

        signed_met : (symbol r : ℕ) → IsCallee object (length procs) (callee.Extern symbol) → r < 2 → names_result (signature_at program symbol) r ≡ true → Holds (Contains given) (when_given named (callee.Extern symbol) r)
        signed_met symbol r known few e = true_holds (Contains given) (gives_named named symbol r) (named_gives symbol r known.is_symbol few ∙ e)

        known_tail : (q s : ℕ) (reading : Reading) (site : Site) (one : Callee) → IsSiteOf program q s reading site → Contains site.tails one → IsCallee object (length procs) one
        known_tail q s reading site one is there = All-contains (IsCallee object (length procs)) site.tails one (known_site laws q s is.proc site is.is_proc is.is_site).1 there

        known_called : (q d r link : ℕ) (writer : Site) (one : Callee) → ReachesReturn program q d r writer → writer.kind ≡ kind.Call one link → IsCallee object (length procs) one
        known_called q d r link writer one reach is =
            known_callee object (length procs) one link writer.kind is (known_site laws q d reach.is_writer.proc writer reach.is_writer.is_proc reach.is_writer.is_site).0

        -- what is given was found
        pub given_found : (one : Callee) (r : ℕ) → Gives program one r → IsCallee object (length procs) one → (r < 2) × Holds (Contains given) (when_given named one r)
        given_found (callee.Proc q) r (Gives.by_instruction {d = d} {writer = writer} reach own) known =
            let result = reach.is_result in
            (omega arith, written_met q d r writer reach (subst (Holds (Contains given)) (sym (written_own named writer.kind r own)) tt))
        given_found (callee.Proc q) r (Gives.by_call {d = d} {link = link} {writer = writer} {callee = one} reach is g) known =
            let rest = given_found one r g (known_called q d r link writer one reach is) in
            (rest.0, written_met q d r writer reach (subst (λ (k : Kind). Holds (Contains given) (when_written named k r)) (sym is) rest.1))
        given_found (callee.Proc q) r (Gives.by_tail {s = s} {reading = reading} {site = site} {callee = one} is there g) known =
            let rest = given_found one r g (known_tail q s reading site one is there) in
            let at = body_of q s reading site is in (
              rest.0,
              rule_met (when_given named one r) (port_of q (10 + r))
                  (q, slice_get_within procs q at.proc at.is_procedure.is_proc, (at.proc, at.body, at.is_procedure, (s, slice_get_within at.proc.sites s site at.is_site, (site, at.is_site, inr (one, there, (r, rest.0, refl))))))
                  rest.1,
            )
        given_found (callee.Extern symbol) r (Gives.by_signature result (scheme, is, names)) known =
            let few : r < 2 = omega arith in
            (few, signed_met symbol r known few (ap (λ (o : Option Scheme). names_result o r) is ∙ names))
        given_found (callee.Extern symbol) zero (Gives.by_default is) known = (omega arith, signed_met symbol 0 known (omega arith) (ap (λ (o : Option Scheme). names_result o 0) is))
        given_found (callee.Unknown register) zero Gives.by_pointer known = (omega arith, tt)
        given_found (callee.Unknown register) (suc r) h known = elim h [ ]
