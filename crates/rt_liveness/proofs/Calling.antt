-- What was found of calls is true of them.
use Rattle.std.proofs.Common.{◌≡◌, ℕ, zero, suc, ◌+◌, ◌-◌, ◌<◌, ◌≤◌, ◌↔◌, Bool, true, false, IsTrue, Some, List, [], ◌∷◌, Contains, All, AllPairs, length, map, get_or, slice_get, refl, sym, ap, subst, ◌∙◌, arith}
use Rattle.std.proofs.lemmas.Bool.{true≢false, and_parts, and_from}
use Rattle.std.proofs.lemmas.List.{length-map}
use Rattle.std.proofs.Math.ListN.{get_or-map}
use Rattle.std.proofs.lemmas.Option.{slice_get-get_or, slice_get_within, get_or_from_slice_get}
use Rattle.rt_elf.specs.Parts.{Parts as Object}
use Rattle.rt_flow.specs.declared.def.Def.{Def}
use Rattle.rt_flow.specs.Bodies.{Precedes}
use Rattle.rt_link.specs.declared.place.Place.{Place}
use Rattle.rt_proc.specs.declared.proc.Proc.{Proc}
use Rattle.rt_proc.specs.declared.site.Callee.{Callee}
use Rattle.rt_proc.specs.declared.site.Callee.TheVariants as callee
use Rattle.rt_proc.specs.declared.site.Kind.TheVariants.{Stop}
use Rattle.rt_proc.specs.declared.site.Site.{Site}
use Rattle.rt_proc.specs.Laws.{IsCallee}
use Rattle.rt_body.specs.Actions.{site_action}
use Rattle.rt_body.specs.declared.body.Body.{Body}
use Rattle.rt_body.specs.Readings.{Reading}
use Rattle.rt_body.specs.Right.{IsReading}
use Rattle.rt_body.specs.Told.{reading_of, sites_in}
use Rattle.rt_sigs.specs.Signatures.{Signature}
use Rattle.rt_liveness.specs.declared.call.Call.{Call}
use Rattle.rt_liveness.specs.declared.interface.Interface.{Interface}
use Rattle.rt_liveness.specs.Calls.{takes_register, gives_result, IsPlainJump, IsCallOf, AreCallsAt, AreCallsIn, AreCallsOf, HasCalleeRegister, HasCallRegister}
use Rattle.rt_liveness.specs.Inside.Closures.{is_met}
use Rattle.rt_liveness.specs.Inside.Conditions.{when_given, when_taken}
use Rattle.rt_liveness.specs.Inside.Found.{IsCallFound, IsSiteFound, IsProcFound, AreCallsFoundAt, AreCallsFoundIn, AreCallsFound}
use Rattle.rt_liveness.specs.Gives.{Gives}
use Rattle.rt_liveness.specs.Inside.GivesRules.{IsProcedure}
use Rattle.rt_liveness.specs.Inside.Interfaces.{IsInterface}
use Rattle.rt_liveness.specs.Programs.{Program, IsProgram, callees_of}
use Rattle.rt_liveness.specs.Takes.{Taker, Takes, is_argument}
use Rattle.rt_liveness.specs.Told.{program_of}
use Rattle.rt_liveness.proofs.Adding.{found_at}
use Rattle.rt_liveness.proofs.Giving.{KnownCallees, known_site, found_given, given_found}
use Rattle.rt_liveness.proofs.Meeting.{met}
use Rattle.rt_liveness.proofs.Taking.{callee_known, argument_number, takes_argument, found_taken, taken_found}

module _ (object : Object) (procs : List Proc) (bodies : List Body) (signatures : List Signature) (right : IsProgram (program_of object procs bodies signatures)) where
  -- what is known of a procedure's registers
  pub reading_is : (q : ℕ) (proc : Proc) (body : Body) → IsProcedure procs bodies q proc body → IsReading object proc (reading_of body)
  reading_is q proc body is =
      let known = right.readings q proc (reading_of body) (slice_get_within procs q proc is.is_proc) in
      let proc_is : get_or procs q proc ≡ proc = get_or_from_slice_get procs q proc proc is.is_proc in
      let body_is : get_or (map reading_of bodies) q (reading_of body) ≡ reading_of body = get_or-map reading_of bodies q body ∙ ap reading_of (get_or_from_slice_get bodies q body body is.is_body) in
      subst (λ (p : Proc). IsReading object p (reading_of body)) proc_is (subst (IsReading object (get_or procs q proc)) body_is known)

  pub one_body_each : length procs ≡ length bodies
  one_body_each = sym right.one_each ∙ length-map bodies reading_of

  -- each site has an action
  pub site_each : (q : ℕ) (proc : Proc) (body : Body) → IsProcedure procs bodies q proc body → length proc.sites ≡ sites_in body
  site_each q proc body is = sym (ap length (reading_is q proc body is).actions ∙ length-map proc.sites (site_action object))

  pub site_each_at : (q : ℕ) (proc : Proc) (body : Body) → q < length procs → length (get_or procs q proc).sites ≡ sites_in (get_or bodies q body)
  site_each_at q proc body less =
      let each = one_body_each in
      site_each q (get_or procs q proc) (get_or bodies q body) (record { is_proc = slice_get-get_or procs q proc less; is_body = slice_get-get_or bodies q body (omega arith) })

  pub in_order : (q s register : ℕ) (proc : Proc) (body : Body) → IsProcedure procs bodies q proc body → s < length proc.sites → register < 32 → AllPairs Precedes ((reading_of body).reaching s register)
  in_order q s register proc body is less few =
      let each = site_each q proc body is in
      ((reading_is q proc body is).reaching s register (omega arith)).in_order

  module _ (interface : Interface) (laws : KnownCallees object procs bodies signatures interface.named.items) (is_interface : IsInterface object procs bodies signatures interface) where
    abbrev here : Program
    here = program_of object procs bodies signatures

    -- of a call of a callee by a site
    module _ (q s : ℕ) (proc : Proc) (body : Body) (site : Site) (is : IsProcedure procs bodies q proc body) (at : slice_get proc.sites s ≡ Some site) where
      abbrev taken : List Def → Callee → ℕ → Bool
      taken defs one register = is_met interface.taken.keys (when_taken interface.named.items proc.sites defs one register)

      abbrev defs_at : ℕ → List Def
      defs_at register = (reading_of body).reaching s register

      module _ (one : Callee) (known : IsCallee object (length procs) one) (plain : Bool) (call : Call) (found : IsCallFound interface proc.sites (reading_of body).reaching s plain one call) where
        takes_to : (register : ℕ) → takes_register call register ≡ true → Takes here (Taker.CalleeAt q s one) register
        takes_to register e =
            let both = and_parts (is_argument register) (get_or call.takes (register - 10) false) e in
            let number = argument_number register both.0 in
            let low : taken (defs_at (10 + (register - 10))) one (10 + (register - 10)) ≡ true = sym (found.takes (register - 10) number.1) ∙ both.1 in
            let high : taken (defs_at register) one register ≡ true = subst (λ (x : ℕ). taken (defs_at x) one x ≡ true) number.0 low in
            found_taken object procs bodies signatures interface.named.items laws is_interface.are_named in_order interface.given.keys is_interface.are_given interface.taken.keys is_interface.are_taken
            q s proc body site is at one known register both.0 ((met interface.taken.keys (when_taken interface.named.items proc.sites (defs_at register) one register)).0 high)

        takes_from : (register : ℕ) → Takes here (Taker.CalleeAt q s one) register → takes_register call register ≡ true
        takes_from register t =
            let argument = takes_argument here (Taker.CalleeAt q s one) register t in
            let number = argument_number register argument in
            let holds = taken_found object procs bodies signatures interface.named.items laws is_interface.are_named in_order interface.given.keys is_interface.are_given interface.taken.keys is_interface.are_taken
            (Taker.CalleeAt q s one) register t proc body is known
            in
            let high : taken (defs_at register) one register ≡ true = (met interface.taken.keys (when_taken interface.named.items proc.sites (defs_at register) one register)).1 holds in
            let low : taken (defs_at (10 + (register - 10))) one (10 + (register - 10)) ≡ true = subst (λ (x : ℕ). taken (defs_at x) one x ≡ true) (sym number.0) high in
            and_from (is_argument register) (get_or call.takes (register - 10) false) argument (found.takes (register - 10) number.1 ∙ low)

        given_to : (r : ℕ) → r < 2 → is_met interface.given.keys (when_given interface.named.items one r) ≡ true → Gives here one r
        given_to r few e =
            found_given object procs bodies signatures interface.named.items is_interface.are_named laws interface.given.keys is_interface.are_given one r known few ((met interface.given.keys (when_given interface.named.items one r)).0 e)

        given_from : (r : ℕ) → Gives here one r → (r < 2) × (is_met interface.given.keys (when_given interface.named.items one r) ≡ true)
        given_from r g =
            let h = given_found object procs bodies signatures interface.named.items is_interface.are_named laws interface.given.keys is_interface.are_given one r g known in
            (h.0, (met interface.given.keys (when_given interface.named.items one r)).1 h.1)

        gives_both : (r : ℕ) → (get_or (is_met interface.given.keys (when_given interface.named.items one 0) ∷ is_met interface.given.keys (when_given interface.named.items one 1) ∷ []) r false ≡ true) ↔ Gives here one r
        gives_both zero = (given_to 0 (omega arith), λ g. (given_from 0 g).1)
        gives_both (suc zero) = (given_to 1 (omega arith), λ g. (given_from 1 g).1)
        gives_both (suc (suc r)) = ((λ e. absurd (true≢false (sym e))), λ g. let few = (given_from (suc (suc r)) g).0 in absurd (omega arith))

        pub call_is : (IsTrue plain ↔ IsPlainJump object site.place) → IsCallOf here q s site.place one call
        call_is is_plain = record {
          called = found.called;
          takes_each = found.takes_each;
          gives_each = ap length found.gives;
          takes = λ register. (takes_to register, takes_from register);
          gives = λ r. subst (λ (gs : List Bool). (get_or gs r false ≡ true) ↔ Gives here one r) (sym found.gives) (gives_both r);
          is_plain = subst (λ (b : Bool). IsTrue b ↔ IsPlainJump object site.place) (sym found.plain) is_plain;
        }

      -- of those of a site
      pub calls_at_are : (calls : List Call) → IsSiteFound object interface proc.sites (reading_of body).reaching s site calls → AreCallsAt here q s site calls
      calls_at_are calls found = record {
        one_each = found.calls_at.one_each;
        each = λ i one call less.
            let long : length calls ≡ length (callees_of site) = found.calls_at.one_each in
            let one_at = slice_get-get_or (callees_of site) i one (omega arith) in
            let known = callee_known object (length procs) site (get_or (callees_of site) i one) (known_site object procs bodies signatures interface.named.items laws q s proc site is.is_proc at) (found_at (callees_of site) i (get_or (callees_of site) i one) one_at) in
            call_is (get_or (callees_of site) i one) known found.plain (get_or calls i call) (found.calls_at.each i (get_or (callees_of site) i one) (get_or calls i call) one_at (slice_get-get_or calls i call less)) found.is_plain;
      }

      register_is : (one : Callee) → IsCallee object (length procs) one → HasCalleeRegister one
      register_is (callee.Proc p) known = tt
      register_is (callee.Extern symbol) known = tt
      register_is (callee.Unknown register) known = known

      pub calls_at_registers : (calls : List Call) → IsSiteFound object interface proc.sites (reading_of body).reaching s site calls → All HasCallRegister calls
      calls_at_registers calls found = λ i call less.
          let long : length calls ≡ length (callees_of site) = found.calls_at.one_each in
          let one = get_or (callees_of site) i call.callee in
          let one_at = slice_get-get_or (callees_of site) i call.callee (omega arith) in
          let known = callee_known object (length procs) site one (known_site object procs bodies signatures interface.named.items laws q s proc site is.is_proc at) (found_at (callees_of site) i one one_at) in
          let call_found = found.calls_at.each i one (get_or calls i call) one_at (slice_get-get_or calls i call less) in
          subst HasCalleeRegister (sym call_found.called) (register_is one known)

    -- of those of a procedure's sites
    module _ (q : ℕ) (proc : Proc) (calls : List (List Call)) (found : IsProcFound object interface procs bodies q proc calls) where
      pub calls_in_are : AreCallsIn here q proc calls
      calls_in_are = record {
        one_each = found.calls_in.one_each;
        each = λ s site less.
            let long : length calls ≡ length proc.sites = found.calls_in.one_each in
            let at = slice_get-get_or proc.sites s site (omega arith) in
            calls_at_are q s proc found.body (get_or proc.sites s site) found.is_procedure at (get_or calls s []) (found.calls_in.each s (get_or proc.sites s site) (get_or calls s []) at (slice_get-get_or calls s [] less));
      }

      pub calls_in_registers : (nowhere : Site) → All (All HasCallRegister) calls
      calls_in_registers nowhere = λ s other less.
          let long : length calls ≡ length proc.sites = found.calls_in.one_each in
          let at = slice_get-get_or proc.sites s nowhere (omega arith) in
          calls_at_registers q s proc found.body (get_or proc.sites s nowhere) found.is_procedure at (get_or calls s other) (found.calls_in.each s (get_or proc.sites s nowhere) (get_or calls s other) at (slice_get-get_or calls s other less))

    -- of all
    module _ (all : List (List (List Call))) (found : AreCallsFound object interface procs bodies all) where
      pub calls_are : AreCallsOf here all
      calls_are = record {
        one_each = found.one_each;
        each = λ q proc less.
            let long : length all ≡ length procs = found.one_each in
            let at = slice_get-get_or procs q proc (omega arith) in
            calls_in_are q (get_or procs q proc) (get_or all q []) (found.each q (get_or procs q proc) (get_or all q []) at (slice_get-get_or all q [] less));
      }

      pub calls_registers : All (All (All HasCallRegister)) all
      calls_registers = λ q other less.
          let long : length all ≡ length procs = found.one_each in
          let at = slice_get-get_or procs q no_proc (omega arith) in
          calls_in_registers q (get_or procs q no_proc) (get_or all q other) (found.each q (get_or procs q no_proc) (get_or all q other) at (slice_get-get_or all q other less)) no_site
        where
          place : Place
          place = record { section = 0; offset = 0 }

          no_proc : Proc
          no_proc = record { entry = place; name = []; sites = [] }

          no_site : Site
          no_site = record { place = place; kind = Stop; next = []; tails = [] }
