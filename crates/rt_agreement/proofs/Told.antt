-- How calls are told by what is known of an object's procedures.
use Rattle.std.proofs.Common.{◌≡◌, ◌<◌, ◌≤◌, ◌+◌, zero, suc, ℕ, Bool, true, false, cond, ◌||◌, ◌⊎◌, inl, inr, Option, Some, None, List, [], ◌∷◌, length, get_or, map, refl, sym, ap, subst, ◌∙◌, true≢false, arith}
use Rattle.std.specs.Prelude.{Contains, IsTrue, slice_get, slice_index_or}
use Rattle.std.proofs.lemmas.Bool.{or_cases}
use Rattle.std.proofs.lemmas.Bool.Decides.{nat_tests}
use Rattle.std.proofs.lemmas.Option.{get_or_from_slice_get, slice_get_within}
use Rattle.rt_base.proofs.Lists.{Contains-map_source, filter-source}
use Rattle.rt_lines.specs.declared.label.Loc.TheVariants.{Arg}
use Rattle.rt_lines.specs.declared.label.Label.TheVariants.{In}
use Rattle.rt_lattice.specs.declared.roles.Roles.{Roles}
use Rattle.rt_scheme.specs.declared.scheme.Scheme as scheme
use Rattle.rt_scheme.specs.Instances.{instance_ports}
use Rattle.rt_scheme.specs.Ports.{has_port, names_label}
use Rattle.rt_proc.specs.declared.proc.Proc.{Proc}
use Rattle.rt_proc.specs.declared.site.Callee.{Callee}
use Rattle.rt_proc.specs.declared.site.Callee.TheVariants as callee
use Rattle.rt_liveness.specs.declared.call.Call.{Call}
use Rattle.rt_liveness.specs.Programs.{Program, args_at, signature_at}
use Rattle.rt_liveness.specs.Calls.{AreCallsIn, takes_register}
use Rattle.rt_liveness.specs.Takes.{Takes, CalleeAt, Procedure, by_count, by_signature, of_procedure}
use Rattle.rt_frame.specs.Frames.{Frame, IsFrameOf}
use Rattle.rt_body.specs.Readings.{Reading}
use Rattle.rt_table.specs.Table.{Context, Linked, Target, Member, Scheme, Held, Unknown, calls_of, is_covered, port_registers}
use Rattle.rt_table.specs.Facts.{AreKnown, IsKnown, Knowledge}
use Rattle.rt_table.specs.Lists.{IsContext, is_member, linked_by, linked_in, scheme_target, target_by, words_at}
use Rattle.rt_agreement.specs.Objects.{AreToldCalls, IsToldAs, NameTaken}
use Rattle.rt_agreement.proofs.Calling.{IsCallAt, call-there, inside}

-- the calls of sites that are told are the calls
module _ (link : Call → Linked) (same : (call : Call) → (link call).call ≡ call) where
  calls_here : (here : List Call) → map (λ (l : Linked). l.call) (map link here) ≡ here
  calls_here [] = refl
  calls_here (call ∷ here) = ap (λ c. c ∷ map (λ (l : Linked). l.call) (map link here)) (same call) ∙ ap (λ cs. call ∷ cs) (calls_here here)

  calls_all : (calls : List (List Call)) → map (λ (here : List Linked). map (λ (l : Linked). l.call) here) (map (λ (here : List Call). map link here) calls) ≡ calls
  calls_all [] = refl
  calls_all (here ∷ calls) =
      ap (λ (cs : List Call). cs ∷ map (λ (here : List Linked). map (λ (l : Linked). l.call) here) (map (λ (here : List Call). map link here) calls)) (calls_here here)
      ∙ ap (λ css. here ∷ css) (calls_all calls)

  pub linked_there : (calls : List (List Call)) (site : ℕ) → slice_index_or (map (λ (here : List Call). map link here) calls) site [] ≡ map link (slice_index_or calls site [])
  linked_there [] site = refl
  linked_there (here ∷ calls) zero = refl
  linked_there (here ∷ calls) (suc site) = linked_there calls site

-- the argument registers of a number are a0 to a7
numbered : (n : ℕ) → Contains (0 ∷ 1 ∷ 2 ∷ 3 ∷ 4 ∷ 5 ∷ 6 ∷ 7 ∷ []) n → n ≤ 7
numbered n (k, less, e) = by k less e
  where
    by : (k : ℕ) → k < 8 → get_or (0 ∷ 1 ∷ 2 ∷ 3 ∷ 4 ∷ 5 ∷ 6 ∷ 7 ∷ []) k n ≡ n → n ≤ 7
    by zero less e = omega (arith, e)
    by (suc zero) less e = omega (arith, e)
    by (suc (suc zero)) less e = omega (arith, e)
    by (suc (suc (suc zero))) less e = omega (arith, e)
    by (suc (suc (suc (suc zero)))) less e = omega (arith, e)
    by (suc (suc (suc (suc (suc zero))))) less e = omega (arith, e)
    by (suc (suc (suc (suc (suc (suc zero)))))) less e = omega (arith, e)
    by (suc (suc (suc (suc (suc (suc (suc zero))))))) less e = omega (arith, e)
    by (suc (suc (suc (suc (suc (suc (suc (suc k)))))))) less e = absurd (omega (arith, less))

-- where it is known of procedures of some kind that their schemes name only argument registers that they take
abbrev pub NameTakenOf : (ℕ → Type 0) → Program → List (Option scheme.Scheme) → List ℕ → Type 0
NameTakenOf C program schemes group =
    (q n : ℕ) (given : scheme.Scheme) → C q → is_member group q ≡ false → slice_index_or schemes q None ≡ Some given
    → names_label given.base given.lines (In (Arg n)) ≡ true → n ≤ 7 → Takes program (Procedure q) (10 + n)

module _ (C : ℕ → Type 0) (program : Program) (known : List Knowledge) (schemes : List (Option scheme.Scheme)) (group : List ℕ)
    (named : NameTakenOf C program schemes group) where
  -- a scheme's call takes what is passed to it
  abbrev IsEach : (ℕ → Type 0) → Target → Type 0
  IsEach P (Scheme own lines covered) = (n : ℕ) → Contains (port_registers (instance_ports own lines 0) covered) n → P n
  IsEach P other = Unit {0}

  by_scheme : (P : ℕ → Type 0) (covered : Option ℕ) (given : Option scheme.Scheme)
      → ((n : ℕ) (s : scheme.Scheme) → n ≤ 7 → given ≡ Some s → has_port (instance_ports s.base s.lines 0) (In (Arg n)) ≡ true → P n)
      → ((n : ℕ) → n ≤ 7 → is_covered covered n ≡ true → P n) → IsEach P (scheme_target covered given)
  by_scheme P covered None f g = tt
  by_scheme P covered (Some s) f g = λ n c. by n (filter-source (λ (m : ℕ). has_port (instance_ports s.base s.lines 0) (In (Arg m)) || is_covered covered m) (0 ∷ 1 ∷ 2 ∷ 3 ∷ 4 ∷ 5 ∷ 6 ∷ 7 ∷ []) n c)
    where
      either : (n : ℕ) → n ≤ 7 → (has_port (instance_ports s.base s.lines 0) (In (Arg n)) ≡ true) ⊎ (is_covered covered n ≡ true) → P n
      either n few (inl e) = f n s few refl e
      either n few (inr e) = g n few e

      by : (n : ℕ) → Contains (0 ∷ 1 ∷ 2 ∷ 3 ∷ 4 ∷ 5 ∷ 6 ∷ 7 ∷ []) n × ((has_port (instance_ports s.base s.lines 0) (In (Arg n)) || is_covered covered n) ≡ true) → P n
      by n parts = either n (numbered n parts.0) (or_cases (has_port (instance_ports s.base s.lines 0) (In (Arg n))) (is_covered covered n) parts.1)

  each_told : (call : Call) (covered : Option ℕ) (given : Option scheme.Scheme) → IsEach (λ n. IsTrue (takes_register call (10 + n))) (scheme_target covered given)
      → IsToldAs call (scheme_target covered given)
  each_told call covered None h = tt
  each_told call covered (Some s) h = h

  covers : (symbol n : ℕ) (covered : Option ℕ) → args_at program symbol ≡ covered → is_covered covered n ≡ true → (count : ℕ) × (args_at program symbol ≡ Some count) × (n < count)
  covers symbol n None e c = absurd (true≢false (sym c))
  covers symbol n (Some count) e c = let less : n < count = grind (arith, nat_tests) in (count, e, less)

  module _ (q s : ℕ) (call : Call) (takes : (register : ℕ) → Takes program (CalleeAt q s call.callee) register → IsTrue (takes_register call register))
      (calls_only : (p : ℕ) → call.callee ≡ callee.Proc p → C p) where
    by_callee : (c : Callee) → call.callee ≡ c → IsToldAs call (target_by program known schemes group c call.is_plain)
    by_callee (callee.Proc p) e = by (is_member group p) refl
      where
        by : (b : Bool) → is_member group p ≡ b
            → IsToldAs call (cond b (Member p (words_at known p)) (scheme_target None (slice_index_or schemes p None)))
        by true is = tt
        by false is =
            each_told call None (slice_index_or schemes p None)
            (by_scheme (λ n. IsTrue (takes_register call (10 + n))) None (slice_index_or schemes p None)
            (λ n given few found has. takes (10 + n) (subst (λ (c : Callee). Takes program (CalleeAt q s c) (10 + n)) (sym e) (of_procedure (named p n given (calls_only p e) is found has few))))
            (λ n few c. absurd (true≢false (sym c))))
    by_callee (callee.Extern symbol) e =
        each_told call (args_at program symbol) (signature_at program symbol)
        (by_scheme (λ n. IsTrue (takes_register call (10 + n))) (args_at program symbol) (signature_at program symbol)
        (λ n given few found has. takes (10 + n) (subst (λ (c : Callee). Takes program (CalleeAt q s c) (10 + n)) (sym e) (by_signature few (given, found, has))))
        (λ n few c. takes (10 + n) (subst (λ (c : Callee). Takes program (CalleeAt q s c) (10 + n)) (sym e) (by_count few (covers symbol n (args_at program symbol) refl c)))))
    by_callee (callee.Unknown register) e = by call.is_plain refl
      where
        by : (b : Bool) → call.is_plain ≡ b → IsToldAs call (cond b (Held register) Unknown)
        by true is = (e, is)
        by false is = tt

  -- the calls of a procedure, which calls only such procedures
  module _ (q : ℕ) (proc : Proc) (calls : List (List Call)) (are : AreCallsIn program q proc calls)
      (calls_only : (site : ℕ) (call : Call) (p : ℕ) → IsCallAt program q proc site call → call.callee ≡ callee.Proc p → C p) where
    call_told : (site : ℕ) (call : Call) → Contains (slice_index_or calls site []) call → IsToldAs call (target_by program known schemes group call.callee call.is_plain)
    call_told site call there =
        let mine : IsCallAt program q proc site call = call-there program q proc calls are site call there in
        by_callee q site call (λ register t. (mine.is_call.takes register).1 t) (λ p e. calls_only site call p mine e) call.callee refl

    calls_told_by : (linked : List (List Linked)) → linked ≡ linked_in program known schemes group calls → (site : ℕ) (one : Linked) → Contains (slice_index_or linked site []) one
        → IsToldAs one.call one.target
    calls_told_by linked e site one c =
        let link = linked_by program known schemes group in
        let there : Contains (map link (slice_index_or calls site [])) one =
        subst (λ (ls : List Linked). Contains ls one) (ap (λ (l : List (List Linked)). slice_index_or l site []) e ∙ linked_there link (λ call. refl) calls site) c in
        let (call, among, is) = Contains-map_source link (slice_index_or calls site []) one there in
        subst (λ (l : Linked). IsToldAs l.call l.target) is (call_told site call among)

-- what the table is read against for a member of a group, by what is known of the member
pub record IsMember (program : Program) (schemes : List (Option scheme.Scheme)) (group : List ℕ) (known : List Knowledge) (number : ℕ) (context : Context) : Type 0 where
  pub proc : Proc
  pub is_proc : slice_get program.procs number ≡ Some proc
  pub knowledge : Knowledge
  pub is_known : IsKnown program number proc knowledge
  pub reading : context.reading ≡ knowledge.reading
  pub linked : context.linked ≡ linked_in program known schemes group knowledge.calls
  pub calls : knowledge.calls ≡ calls_of context
  pub frame : context.frame ≡ knowledge.frame

pub member-of : (program : Program) (known : List Knowledge) (roles : Roles) (schemes : List (Option scheme.Scheme)) (group : List ℕ) (number : ℕ)
    (context : Context) → AreKnown program known → IsContext program known roles schemes group number context → IsMember program schemes group known number context
member-of program known roles schemes group number context are is =
    let less : number < length known = slice_get_within known number is.knowledge is.is_known in
    let (proc, at) = inside program.procs number (omega (arith, less, are.one_each)) in
    let one : IsKnown program number (get_or program.procs number proc) (get_or known number is.knowledge) = are.each number proc is.knowledge less in
    let here : IsKnown program number proc (get_or known number is.knowledge) =
    subst (λ (p : Proc). IsKnown program number p (get_or known number is.knowledge)) (get_or_from_slice_get program.procs number proc proc at) one in
    record {
      proc = proc;
      is_proc = at;
      knowledge = is.knowledge;
      is_known = subst (λ (k : Knowledge). IsKnown program number proc k) (get_or_from_slice_get known number is.knowledge is.knowledge is.is_known) here;
      reading = is.reading;
      linked = is.linked;
      calls = sym (ap (λ (linked : List (List Linked)). map (λ (here : List Linked). map (λ (l : Linked). l.call) here) linked) is.linked
          ∙ calls_all (linked_by program known schemes group) (λ call. refl) is.knowledge.calls);
      frame = is.frame;
    }

-- the calls of a member are told, where what is known is known of the procedures that it calls
pub calls-told-where : (C : ℕ → Type 0) (program : Program) (known : List Knowledge) (schemes : List (Option scheme.Scheme)) (group : List ℕ) (number : ℕ)
    (context : Context) (member : IsMember program schemes group known number context) → NameTakenOf C program schemes group
    → ((site : ℕ) (call : Call) (p : ℕ) → IsCallAt program number member.proc site call → call.callee ≡ callee.Proc p → C p)
    → IsFrameOf context.reading (calls_of context) context.frame × AreToldCalls context
calls-told-where C program known schemes group number context member named calls_only =
    let frame : IsFrameOf member.knowledge.reading (calls_of context) member.knowledge.frame =
    subst (λ (cs : List (List Call)). IsFrameOf member.knowledge.reading cs member.knowledge.frame) member.calls member.is_known.frame in
    let read : IsFrameOf context.reading (calls_of context) member.knowledge.frame =
    subst (λ (r : Reading). IsFrameOf r (calls_of context) member.knowledge.frame) (sym member.reading) frame in (
      subst (λ (f : Frame). IsFrameOf context.reading (calls_of context) f) (sym member.frame) read,
      calls_told_by C program known schemes group named number member.proc member.knowledge.calls member.is_known.calls calls_only context.linked member.linked,
    )

pub calls_told : (program : Program) (known : List Knowledge) (roles : Roles) (schemes : List (Option scheme.Scheme)) (group : List ℕ) (number : ℕ)
    (context : Context) → AreKnown program known → NameTaken program schemes group → IsContext program known roles schemes group number context
    → IsFrameOf context.reading (calls_of context) context.frame × AreToldCalls context
calls_told program known roles schemes group number context are named is =
    calls-told-where (λ p. Unit {0}) program known schemes group number context (member-of program known roles schemes group number context are is)
    (λ q n given any. named q n given) (λ site call p is_call e. tt)
