-- What follows from the rules of what procedures take is what they take.
use Rattle.std.proofs.Common.{◌≡◌, ℕ, zero, suc, ◌+◌, ◌-◌, ◌<◌, ◌≤◌, ◌⊎◌, inl, inr, Bool, true, false, ◌&&◌, ◌||◌, not, nat_le, Option, Some, None, List, [], ◌∷◌, Contains, AllPairs, length, get_or, slice_get, refl, sym, ap, subst, ◌∙◌, arith}
use Rattle.std.specs.List.{list_any}
use Rattle.std.proofs.lemmas.Bool.{true≢false, lt-ltb, ltb-true, and_parts, or_left, or_right, and_from, or_cases}
use Rattle.std.proofs.lemmas.Bool.Decides.{leb_tells}
use Rattle.std.proofs.lemmas.List.Elements.{All-contains, Contains-append_cases}
use Rattle.std.proofs.lemmas.Option.{slice_get-get_or, slice_get_within}
use Rattle.rt_rules.proofs.Lists.{Contains-none, Contains-here, Contains-cons_cases}
use Rattle.rt_elf.specs.Parts.{Parts as Object}
use Rattle.rt_flow.specs.declared.def.Def.{Def}
use Rattle.rt_flow.specs.declared.def.Def.TheVariants.{Entry, At}
use Rattle.rt_flow.specs.Bodies.{Precedes}
use Rattle.rt_proc.specs.declared.proc.Proc.{Proc}
use Rattle.rt_proc.specs.declared.site.Callee.{Callee}
use Rattle.rt_proc.specs.declared.site.Callee.TheVariants as callee
use Rattle.rt_proc.specs.declared.site.Kind.{Kind}
use Rattle.rt_proc.specs.declared.site.Kind.TheVariants as kind
use Rattle.rt_proc.specs.declared.site.Site.{Site}
use Rattle.rt_proc.specs.Laws.{IsCallee, IsKind, HasCallees}
use Rattle.rt_body.specs.declared.body.Body.{Body}
use Rattle.rt_body.specs.Readings.{Reading}
use Rattle.rt_body.specs.Told.{reading_of}
use Rattle.rt_scheme.specs.declared.scheme.Scheme.{Scheme}
use Rattle.rt_sigs.specs.Signatures.{Signature}
use Rattle.rt_liveness.specs.declared.named.Named.{Named}
use Rattle.rt_liveness.specs.declared.rule.Port.{Port}
use Rattle.rt_liveness.specs.declared.rule.Rule.{Rule}
use Rattle.rt_liveness.specs.declared.rule.When.{When}
use Rattle.rt_liveness.specs.declared.rule.When.TheVariants.{Never, Always, If}
use Rattle.rt_liveness.specs.Inside.Closures.{Follows, is_met}
use Rattle.rt_liveness.specs.Inside.Conditions.{port_of, begins_with_entry, is_among, is_own, is_own_at, is_real, is_real_at, is_return, returns_real, takes_named, takes_of, when_taken, when_written, when_true}
use Rattle.rt_liveness.specs.Gives.{Gives, HasReal, result_register}
use Rattle.rt_liveness.specs.Inside.GivesRules.{IsProcedure, AreAllRules as AreGivesRules}
use Rattle.rt_liveness.specs.Inside.Interfaces.{IsClosure}
use Rattle.rt_liveness.specs.Programs.{Program, callees_of, called_by, is_call, signature_at, args_at}
use Rattle.rt_liveness.specs.Reads.{reads_of}
use Rattle.rt_liveness.specs.Inside.Signed.{AreNamed, names_argument, counts_argument}
use Rattle.rt_liveness.specs.Takes.{Taker, Takes, ReachesSite, IsPassed, is_argument}
use Rattle.rt_liveness.specs.Inside.TakesRules.{IsReadRule, AreTakenRules, AreRegisterRules, AreAllRules}
use Rattle.rt_liveness.specs.Told.{program_of}
use Rattle.rt_liveness.proofs.Giving.{KnownCallees, HasBody, site_of, body_of, same_proc, known_site, known_callee, written_own, found_given, given_found}
use Rattle.rt_liveness.proofs.Meeting.{Holds, holds_of, met, holds_true, true_holds, any_some, some_any, among, return_kind}

-- Entry stands first where it is among definitions in their order
entry_first : (defs : List Def) → AllPairs Precedes defs → Contains defs Entry → begins_with_entry defs ≡ true
entry_first [] rises h = absurd (Contains-none Entry h)
entry_first (Entry ∷ defs) rises h = refl
entry_first (At d ∷ defs) rises (zero, less, e) = cc
entry_first (At d ∷ defs) rises (suc k, less, e) = absurd (subst (Precedes (At d)) e (rises 0 (suc k) Entry (omega arith) less))

first_entry : (defs : List Def) → begins_with_entry defs ≡ true → Contains defs Entry
first_entry [] e = absurd (true≢false (sym e))
first_entry (Entry ∷ defs) e = Contains-here Entry defs
first_entry (At d ∷ defs) e = absurd (true≢false (sym e))

le_of : (m n : ℕ) → nat_le m n ≡ true → m ≤ n
le_of m n e = elim (leb_tells m n) [ inl h ↦ h.1 | inr h ↦ absurd (true≢false (sym e ∙ h.0)) ]

of_le : (m n : ℕ) → m ≤ n → nat_le m n ≡ true
of_le m n le = elim (leb_tells m n) [ inl h ↦ h.0 | inr h ↦ let more = h.1 in absurd (omega arith) ]

-- the number of an argument register
pub argument_number : (register : ℕ) → is_argument register ≡ true → (10 + (register - 10) ≡ register) × (register - 10 < 8)
argument_number register e =
    let both = and_parts (nat_le 10 register) (nat_le register 17) e in
    let low = le_of 10 register both.0 in
    let high = le_of register 17 both.1 in
    (omega arith, omega arith)

pub number_argument : (n : ℕ) → n < 8 → is_argument (10 + n) ≡ true
number_argument n less = and_from (nat_le 10 (10 + n)) (nat_le (10 + n) 17) (of_le 10 (10 + n) (omega arith)) (of_le (10 + n) 17 (omega arith))

own_site : (o : Option Site) → is_own_at o ≡ true → (writer : Site) × (o ≡ Some writer) × (is_call writer.kind ≡ false)
own_site None e = absurd (true≢false (sym e))
own_site (Some writer) e = (writer, refl, no (is_call writer.kind) e)
  where
    no : (b : Bool) → not b ≡ true → b ≡ false
    no true f = absurd (true≢false (sym f))
    no false f = refl

real_site : (given : List Port) (named : List Named) (r : ℕ) (o : Option Site) → is_real_at given named r o ≡ true → (writer : Site) × (o ≡ Some writer) × (is_met given (when_written named writer.kind r) ≡ true)
real_site given named r None e = absurd (true≢false (sym e))
real_site given named r (Some writer) e = (writer, refl, e)

-- each callee of a site is known
pub callee_known : (object : Object) (count : ℕ) (site : Site) (one : Callee) → HasCallees object count site → Contains (callees_of site) one → IsCallee object count one
callee_known object count site one known there = elim (Contains-append_cases (called_by site.kind) site.tails one there) [
  | inl called ↦ called_known site.kind known.0 called
  | inr tail ↦ All-contains (IsCallee object count) site.tails one known.1 tail
]
  where
    called_known : (k : Kind) → IsKind object count k → Contains (called_by k) one → IsCallee object count one
    called_known (kind.Plain insn) h c = absurd (Contains-none one c)
    called_known (kind.Call other link) h c = elim (Contains-cons_cases other [] one c) [ inl e ↦ subst (IsCallee object count) e h.0 | inr none ↦ absurd (Contains-none one none) ]
    called_known kind.Return h c = absurd (Contains-none one c)
    called_known kind.Stop h c = absurd (Contains-none one c)

module _ (object : Object) (procs : List Proc) (bodies : List Body) (signatures : List Signature) (named : List Named)
    (laws : KnownCallees object procs bodies signatures named) (are_named : AreNamed object signatures named)
    (ordered : (q s register : ℕ) (proc : Proc) (body : Body) → IsProcedure procs bodies q proc body → s < length proc.sites → register < 32 → AllPairs Precedes ((reading_of body).reaching s register))
    (given : List Port) (gives : IsClosure (AreGivesRules named procs bodies) given) where
  abbrev here : Program
  here = program_of object procs bodies signatures

  -- whether the signature of a symbol names or counts an argument
  abbrev is_said : ℕ → ℕ → Bool
  is_said symbol n = names_argument (signature_at here symbol) n || counts_argument (args_at here symbol) n

  -- the function of a symbol takes what its signature names or counts
  named_takes : (symbol n : ℕ) → symbol < length object.symbols → n < 8 → takes_named named symbol n ≡ is_said symbol n
  named_takes symbol n known few = by (slice_get named symbol) refl
    where
      nobody : Named
      nobody = record { takes = []; gives = [] }

      by : (o : Option Named) → slice_get named symbol ≡ o → takes_of (slice_get named symbol) n ≡ is_said symbol n
      by None e =
          let long : length named ≡ length object.symbols = are_named.one_each in
          let there = slice_get-get_or named symbol nobody (omega arith) in
          let bad : None ≡ Some (get_or named symbol nobody) = sym e ∙ there in
          cc
      by (Some one) e = ap (λ (o : Option Named). takes_of o n) e ∙ (are_named.each symbol one e).takes n few

  abbrev Taken : Port → Type 0
  Taken port = Takes here (Taker.Procedure port.procedure) port.register

  names_sound : (q s symbol n : ℕ) (o : Option Scheme) → n < 8 → signature_at here symbol ≡ o → names_argument o n ≡ true → Takes here (Taker.CalleeAt q s (callee.Extern symbol)) (10 + n)
  names_sound q s symbol n None few is e = absurd (true≢false (sym e))
  names_sound q s symbol n (Some scheme) few is e = Takes.by_signature (omega arith) (scheme, is, e)

  counts_sound : (q s symbol n : ℕ) (o : Option ℕ) → n < 8 → args_at here symbol ≡ o → counts_argument o n ≡ true → Takes here (Taker.CalleeAt q s (callee.Extern symbol)) (10 + n)
  counts_sound q s symbol n None few is e = absurd (true≢false (sym e))
  counts_sound q s symbol n (Some count) few is e = Takes.by_count (omega arith) (count, is, ltb-true n count e)

  signed_sound : (q s symbol n : ℕ) → n < 8 → is_said symbol n ≡ true → Takes here (Taker.CalleeAt q s (callee.Extern symbol)) (10 + n)
  signed_sound q s symbol n few e = elim (or_cases (names_argument (signature_at here symbol) n) (counts_argument (args_at here symbol) n) e) [
    | inl names ↦ names_sound q s symbol n (signature_at here symbol) few refl names
    | inr counts ↦ counts_sound q s symbol n (args_at here symbol) few refl counts
  ]

  said_taken : (symbol n : ℕ) → symbol < length object.symbols → n < 8 → is_said symbol n ≡ true → takes_named named symbol (10 + n - 10) ≡ true
  said_taken symbol n known less is =
      let number : n ≡ 10 + n - 10 = omega arith in
      subst (λ (k : ℕ). takes_named named symbol k ≡ true) number (named_takes symbol n known less ∙ is)

  -- a callee takes what its condition says
  taken_sound : (q s : ℕ) (proc : Proc) (body : Body) (site : Site) → IsProcedure procs bodies q proc body → slice_get proc.sites s ≡ Some site → (one : Callee) → IsCallee object (length procs) one
      → (register : ℕ) → is_argument register ≡ true → Holds Taken (when_taken named proc.sites ((reading_of body).reaching s register) one register) → Takes here (Taker.CalleeAt q s one) register
  taken_sound q s proc body site is at (callee.Proc p) known register argument h = Takes.of_procedure h
  taken_sound q s proc body site is at (callee.Extern symbol) known register argument h =
      let number = argument_number register argument in
      subst (Takes here (Taker.CalleeAt q s (callee.Extern symbol))) number.0
      (signed_sound q s symbol (register - 10) number.1
      (sym (named_takes symbol (register - 10) known.is_symbol number.1) ∙ holds_true Taken (takes_named named symbol (register - 10)) h))
  taken_sound q s proc body site is at (callee.Unknown through) known register argument h =
      let defs = (reading_of body).reaching s register in
      let found = any_some (is_own proc.sites) defs (holds_true Taken (list_any (is_own proc.sites) defs) h) in
      Takes.by_pointer argument (passed found.0 found.1 found.2)
    where
      passed : (def : Def) → Contains ((reading_of body).reaching s register) def → is_own proc.sites def ≡ true → IsPassed here q s register
      passed Entry there own = absurd (true≢false (sym own))
      passed (At d) there own =
          let writer = own_site (slice_get proc.sites d) own in
          record {
            reading = reading_of body;
            site = site;
            is_site = site_of object procs bodies signatures named q s proc body site is at;
            d = d;
            reaches = there;
            writer = writer.0;
            is_writer = site_of object procs bodies signatures named q d proc body writer.0 is writer.1;
            no_call = writer.2;
          }

  -- what is written is a result, or what is given
  written_real : (q d r : ℕ) (proc : Proc) (writer : Site) → slice_get procs q ≡ Some proc → slice_get proc.sites d ≡ Some writer → r < 2 → (k : Kind) → writer.kind ≡ k → Holds (Contains given) (when_written named k r)
      → (is_call writer.kind ≡ false) ⊎ ((one : Callee) × (link : ℕ) × (writer.kind ≡ kind.Call one link) × Gives here one r)
  written_real q d r proc writer is at few (kind.Plain insn) e h = inl (ap is_call e)
  written_real q d r proc writer is at few (kind.Call one link) e h =
      let known = known_callee object (length procs) one link writer.kind e (known_site object procs bodies signatures named laws q d proc writer is at).0 in
      inr (one, link, e, found_given object procs bodies signatures named are_named laws given gives one r known few h)
  written_real q d r proc writer is at few kind.Return e h = inl (ap is_call e)
  written_real q d r proc writer is at few kind.Stop e h = inl (ap is_call e)

  real_written : (q d r : ℕ) (proc : Proc) (writer : Site) → slice_get procs q ≡ Some proc → slice_get proc.sites d ≡ Some writer
      → (is_call writer.kind ≡ false) ⊎ ((one : Callee) × (link : ℕ) × (writer.kind ≡ kind.Call one link) × Gives here one r) → Holds (Contains given) (when_written named writer.kind r)
  real_written q d r proc writer is at (inl own) = subst (Holds (Contains given)) (sym (written_own named writer.kind r own)) tt
  real_written q d r proc writer is at (inr (one, link, e, g)) =
      let known = known_callee object (length procs) one link writer.kind e (known_site object procs bodies signatures named laws q d proc writer is at).0 in
      subst (λ (k : Kind). Holds (Contains given) (when_written named k r)) (sym e) (given_found object procs bodies signatures named are_named laws given gives one r g known).1

  real_sound : (q s n : ℕ) (proc : Proc) (body : Body) → IsProcedure procs bodies q proc body → n < 2 → list_any (is_real given named proc.sites n) ((reading_of body).reaching s (10 + n)) ≡ true → HasReal here (reading_of body) q s n
  real_sound q s n proc body is few e = let found = any_some (is_real given named proc.sites n) ((reading_of body).reaching s (10 + n)) e in by found.0 found.1 found.2
    where
      by : (def : Def) → Contains ((reading_of body).reaching s (10 + n)) def → is_real given named proc.sites n def ≡ true → HasReal here (reading_of body) q s n
      by Entry there real = absurd (true≢false (sym real))
      by (At d) there real =
          let writer = real_site given named n (slice_get proc.sites d) real in
          record {
            d = d;
            reaches = there;
            writer = writer.0;
            is_writer = site_of object procs bodies signatures named q d proc body writer.0 is writer.1;
            real = written_real q d n proc writer.0 is.is_proc writer.1 few writer.0.kind refl ((met given (when_written named writer.0.kind n)).0 writer.2);
          }

  abbrev reach_of : (q s n : ℕ) (proc : Proc) (body : Body) (site : Site) → IsProcedure procs bodies q proc body → slice_get proc.sites s ≡ Some site → n < 8 → begins_with_entry ((reading_of body).reaching s (10 + n)) ≡ true → ReachesSite here q s (10 + n) site
  reach_of q s n proc body site is at few begins = record {
    reading = reading_of body;
    is_site = site_of object procs bodies signatures named q s proc body site is at;
    is_argument = number_argument n few;
    reaches = first_entry ((reading_of body).reaching s (10 + n)) begins;
  }

  rule_sound : (rule : Rule) → AreAllRules given named procs bodies rule → Holds Taken rule.when → Taken rule.port
  rule_sound rule (q, less, (proc, body, is, (s, within, (site, at, (n, few, (begins, rules)))))) h = by rules
    where
      port_is : rule.port ≡ port_of q (10 + n) → Takes here (Taker.Procedure q) (10 + n) → Taken rule.port
      port_is e t = subst Taken (sym e) t

      reads : (is_among (reads_of site.kind) (10 + n) ≡ true) ⊎ (returns_real given named proc.sites site.kind (10 + n) ((reading_of body).reaching s (10 + n)) ≡ true) → Takes here (Taker.Procedure q) (10 + n)
      reads (inl e) = Takes.by_instruction (reach_of q s n proc body site is at few begins) ((among (reads_of site.kind) (10 + n)).0 e)
      reads (inr e) =
          let defs = (reading_of body).reaching s (10 + n) in
          let first = and_parts (is_return site.kind) (nat_le (10 + n) 11 && list_any (is_real given named proc.sites (10 + n - 10)) defs) e in
          let second = and_parts (nat_le (10 + n) 11) (list_any (is_real given named proc.sites (10 + n - 10)) defs) first.1 in
          let low = le_of (10 + n) 11 second.0 in
          let number : 10 + n - 10 ≡ n = omega arith in
          let result : n ≤ 1 = omega arith in
          Takes.by_return {r = n} (reach_of q s n proc body site is at few begins) (return_kind site.kind first.0) result
          (real_sound q s n proc body is (omega arith) (subst (λ (r : ℕ). list_any (is_real given named proc.sites r) defs ≡ true) number second.1))

      by : IsReadRule given named proc.sites q site.kind (10 + n) ((reading_of body).reaching s (10 + n)) rule ⊎ AreTakenRules named proc.sites q (callees_of site) (10 + n) ((reading_of body).reaching s (10 + n)) rule → Taken rule.port
      by (inl is_rule) =
          let one = is_among (reads_of site.kind) (10 + n) in
          let other = returns_real given named proc.sites site.kind (10 + n) ((reading_of body).reaching s (10 + n)) in
          port_is (ap (λ (x : Rule). x.port) is_rule)
          (reads (or_cases one other (holds_true Taken (one || other) (subst (Holds Taken) (ap (λ (x : Rule). x.when) is_rule) h))))
      by (inr (one, there, is_rule)) =
          port_is (ap (λ (x : Rule). x.port) is_rule)
          (Takes.by_callee (reach_of q s n proc body site is at few begins) there
          (taken_sound q s proc body site is at one (known_of one there) (10 + n) (number_argument n few) (subst (Holds Taken) (ap (λ (x : Rule). x.when) is_rule) h)))
        where
          known_of : (one : Callee) → Contains (callees_of site) one → IsCallee object (length procs) one
          known_of one there = callee_known object (length procs) site one (known_site object procs bodies signatures named laws q s proc site is.is_proc at) there

  module _ (taken : List Port) (takes : IsClosure (AreAllRules given named procs bodies) taken) where
    follows_sound : (port : Port) → Follows takes.by_rules port → Taken port
    follows_sound port (Follows.fact said) = rule_sound (record { when = Always; port = port }) ((takes.are_rules _).0 said) tt
    follows_sound port (Follows.step {premise} f said) = rule_sound (record { when = If premise; port = port }) ((takes.are_rules _).0 said) (follows_sound premise f)

    -- what was found is taken
    pub found_taken : (q s : ℕ) (proc : Proc) (body : Body) (site : Site) → IsProcedure procs bodies q proc body → slice_get proc.sites s ≡ Some site → (one : Callee) → IsCallee object (length procs) one
        → (register : ℕ) → is_argument register ≡ true → Holds (Contains taken) (when_taken named proc.sites ((reading_of body).reaching s register) one register) → Takes here (Taker.CalleeAt q s one) register
    found_taken q s proc body site is at one known register argument h =
        taken_sound q s proc body site is at one known register argument
        (holds_of (Contains taken) Taken (λ port there. follows_sound port ((takes.follows port).0 there)) (when_taken named proc.sites ((reading_of body).reaching s register) one register) h)

    rule_met : (when : When) (port : Port) → AreAllRules given named procs bodies (record { when = when; port = port }) → Holds (Contains taken) when → Contains taken port
    rule_met Never port is h = absurd h
    rule_met Always port is h = (takes.follows port).1 (Follows.fact ((takes.are_rules _).1 is))
    rule_met (If premise) port is h = (takes.follows port).1 (Follows.step ((takes.follows premise).0 h) ((takes.are_rules _).1 is))

    -- a site that Entry reaches has rules
    module _ (q s register : ℕ) (site : Site) (reach : ReachesSite here q s register site) where
      found_body : HasBody object procs bodies signatures named q s reach.reading site
      found_body = body_of object procs bodies signatures named q s reach.reading site reach.is_site

      entry : Contains ((reading_of found_body.body).reaching s register) Entry
      entry = subst (λ (x : Reading). Contains (x.reaching s register) Entry) (sym found_body.is_reading) reach.reaches

      few : register < 32
      few = let number = argument_number register reach.is_argument in omega arith

      within : s < length found_body.proc.sites
      within = slice_get_within found_body.proc.sites s site found_body.is_site

      begins : begins_with_entry ((reading_of found_body.body).reaching s register) ≡ true
      begins = entry_first ((reading_of found_body.body).reaching s register) (ordered q s register found_body.proc found_body.body found_body.is_procedure within few) entry

      site_met : (when : When) → (let rule : Rule = record { when = when; port = port_of q register } in let defs = (reading_of found_body.body).reaching s register in
          IsReadRule given named found_body.proc.sites q site.kind register defs rule ⊎ AreTakenRules named found_body.proc.sites q (callees_of site) register defs rule)
          → Holds (Contains taken) when → Contains taken (port_of q register)
      site_met when rules h =
          let number = argument_number register reach.is_argument in
          rule_met when (port_of q register) (
            q,
            slice_get_within procs q found_body.proc found_body.is_procedure.is_proc,
            (
              found_body.proc,
              found_body.body,
              found_body.is_procedure,
              (
                s,
                within,
                (
                  site,
                  found_body.is_site,
                  (
                    register - 10,
                    number.1,
                    subst (λ (x : ℕ). AreRegisterRules given named found_body.proc.sites q site.kind (callees_of site) x ((reading_of found_body.body).reaching s x) (record { when = when; port = port_of q register })) (sym number.0) (begins, rules),
                  ),
                ),
              ),
            ),
          )
          h

      read_met : (is_among (reads_of site.kind) register || returns_real given named found_body.proc.sites site.kind register ((reading_of found_body.body).reaching s register)) ≡ true → Contains taken (port_of q register)
      read_met e =
          let b = is_among (reads_of site.kind) register || returns_real given named found_body.proc.sites site.kind register ((reading_of found_body.body).reaching s register) in
          site_met (when_true b) (inl refl) (true_holds (Contains taken) b e)

    -- a return that reads a result
    return_met : (q s r : ℕ) (site : Site) (reach : ReachesSite here q s (result_register r) site) → site.kind ≡ kind.Return → r ≤ 1 → HasReal here reach.reading q s r → Contains taken (port_of q (10 + r))
    return_met q s r site reach returns result real =
        let at = found_body q s (10 + r) site reach in
        let there = body_of object procs bodies signatures named q real.d reach.reading real.writer real.is_writer in
        let same = same_proc object procs bodies signatures named q there.proc at.proc there.body at.body there.is_procedure at.is_procedure in
        let written : slice_get at.proc.sites real.d ≡ Some real.writer = subst (λ (p : Proc). slice_get p.sites real.d ≡ Some real.writer) same.0 there.is_site in
        let defs = (reading_of at.body).reaching s (10 + r) in
        let reaches : Contains defs (At real.d) = subst (λ (x : Reading). Contains (x.reaching s (10 + r)) (At real.d)) (sym at.is_reading) real.reaches in
        let holds = (met given (when_written named real.writer.kind r)).1 (real_written q real.d r at.proc real.writer at.is_procedure.is_proc written real.real) in
        let is : is_real given named at.proc.sites r (At real.d) ≡ true = ap (is_real_at given named r) written ∙ holds in
        let any = some_any (is_real given named at.proc.sites r) defs (At real.d) reaches is in
        let number : r ≡ 10 + r - 10 = omega arith in
        let low : nat_le (10 + r) 11 ≡ true = of_le (10 + r) 11 (omega arith) in
        let moved : list_any (is_real given named at.proc.sites (10 + r - 10)) defs ≡ true = subst (λ (n : ℕ). list_any (is_real given named at.proc.sites n) defs ≡ true) number any in
        let is_returned : is_return site.kind ≡ true = ap is_return returns in
        read_met q s (10 + r) site reach
        (or_right (is_among (reads_of site.kind) (10 + r)) (returns_real given named at.proc.sites site.kind (10 + r) defs)
        (and_from (is_return site.kind) (nat_le (10 + r) 11 && list_any (is_real given named at.proc.sites (10 + r - 10)) defs) is_returned
        (and_from (nat_le (10 + r) 11) (list_any (is_real given named at.proc.sites (10 + r - 10)) defs) low moved)))

    -- what a taker takes was found
    abbrev IsFound : Taker → ℕ → Type 0
    IsFound (Taker.Procedure q) register = Contains taken (port_of q register)
    IsFound (Taker.CalleeAt q s one) register =
        (proc : Proc) (body : Body) → IsProcedure procs bodies q proc body → IsCallee object (length procs) one → Holds (Contains taken) (when_taken named proc.sites ((reading_of body).reaching s register) one register)

    pub taken_found : (taker : Taker) (register : ℕ) → Takes here taker register → IsFound taker register
    taken_found (Taker.Procedure q) register (Takes.by_instruction {s = s} {site = site} reach reads) =
        let here_at = found_body q s register site reach in
        read_met q s register site reach
        (or_left (is_among (reads_of site.kind) register) (returns_real given named here_at.proc.sites site.kind register ((reading_of here_at.body).reaching s register)) ((among (reads_of site.kind) register).1 reads))
    taken_found (Taker.Procedure q) register (Takes.by_callee {s = s} {site = site} {callee = one} reach there t) =
        let here_at = found_body q s register site reach in
        let known = callee_known object (length procs) site one (known_site object procs bodies signatures named laws q s here_at.proc site here_at.is_procedure.is_proc here_at.is_site) there in
        site_met q s register site reach (when_taken named here_at.proc.sites ((reading_of here_at.body).reaching s register) one register) (inr (one, there, refl))
        (taken_found (Taker.CalleeAt q s one) register t here_at.proc here_at.body here_at.is_procedure known)
    taken_found (Taker.Procedure q) register (Takes.by_return {s = s} {r = r} {site = site} reach returns result real) = return_met q s r site reach returns result real
    taken_found (Taker.CalleeAt q s one) register (Takes.of_procedure {p = p} t) = λ proc body is known. taken_found (Taker.Procedure p) register t
    taken_found (Taker.CalleeAt q s one) register (Takes.by_signature {symbol = symbol} {n = n} few (scheme, is_signed, names)) = λ proc body is known.
        true_holds (Contains taken) (takes_named named symbol (10 + n - 10))
        (said_taken symbol n known.is_symbol (omega arith)
        (or_left (names_argument (signature_at here symbol) n) (counts_argument (args_at here symbol) n) (ap (λ (o : Option Scheme). names_argument o n) is_signed ∙ names)))
    taken_found (Taker.CalleeAt q s one) register (Takes.by_count {symbol = symbol} {n = n} few (count, is_counted, less)) = λ proc body is known.
        true_holds (Contains taken) (takes_named named symbol (10 + n - 10))
        (said_taken symbol n known.is_symbol (omega arith)
        (or_right (names_argument (signature_at here symbol) n) (counts_argument (args_at here symbol) n) (ap (λ (o : Option ℕ). counts_argument o n) is_counted ∙ lt-ltb n count less)))
    taken_found (Taker.CalleeAt q s one) register (Takes.by_pointer argument passed) = λ proc body is known.
        let at = body_of object procs bodies signatures named q s passed.reading passed.site passed.is_site in
        let there = body_of object procs bodies signatures named q passed.d passed.reading passed.writer passed.is_writer in
        let same = same_proc object procs bodies signatures named q at.proc proc at.body body at.is_procedure is in
        let same' = same_proc object procs bodies signatures named q there.proc proc there.body body there.is_procedure is in
        let written : slice_get proc.sites passed.d ≡ Some passed.writer = subst (λ (p : Proc). slice_get p.sites passed.d ≡ Some passed.writer) same'.0 there.is_site in
        let reading_is : passed.reading ≡ reading_of body = sym at.is_reading ∙ ap reading_of same.1 in
        let reaches : Contains ((reading_of body).reaching s register) (At passed.d) = subst (λ (x : Reading). Contains (x.reaching s register) (At passed.d)) reading_is passed.reaches in
        let own : is_own proc.sites (At passed.d) ≡ true = ap is_own_at written ∙ ap not passed.no_call in
        true_holds (Contains taken) (list_any (is_own proc.sites) ((reading_of body).reaching s register)) (some_any (is_own proc.sites) ((reading_of body).reaching s register) (At passed.d) reaches own)

-- what is taken is an argument register
pub takes_argument : (program : Program) (taker : Taker) (register : ℕ) → Takes program taker register → is_argument register ≡ true
takes_argument program taker register (Takes.by_instruction reach reads) = reach.is_argument
takes_argument program taker register (Takes.by_callee reach there t) = reach.is_argument
takes_argument program taker register (Takes.by_return reach returns result real) = reach.is_argument
takes_argument program taker register (Takes.of_procedure {p = p} t) = takes_argument program (Taker.Procedure p) register t
takes_argument program taker register (Takes.by_signature {n = n} few signed) = number_argument n (omega arith)
takes_argument program taker register (Takes.by_count {n = n} few counted) = number_argument n (omega arith)
takes_argument program taker register (Takes.by_pointer argument passed) = argument
