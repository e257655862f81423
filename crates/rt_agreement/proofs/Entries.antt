-- Where the lines of a procedure speak of what an argument register held at the entry, the procedure takes that register.
use Rattle.std.proofs.Common.{◌≡◌, ◌⊎◌, inl, inr, ◌<◌, ◌≤◌, ◌+◌, ℕ, ℤ, pos, zero, suc, Bool, true, false, cond, nat_eq, Some, option_map, List, [], ◌∷◌, length, map, flat_map, refl, sym, ap, subst, ◌∙◌, arith, true≢false}
use Rattle.std.specs.Prelude.{Contains, slice_get}
use Rattle.std.specs.Int.{cast_signed, w32}
use Rattle.std.specs.List.{filter, list_any}
use Rattle.std.proofs.lemmas.Bool.{cases_lt}
use Rattle.std.proofs.lemmas.List.{get_or_past, length-map}
use Rattle.std.proofs.lemmas.List.Elements.{Contains-append_cases}
use Rattle.std.proofs.lemmas.Option.{get_or_from_slice_get, slice_get-map}
use Rattle.rt_base.proofs.Lists.{Contains-none, Contains-here, Contains-there, Contains-cons_cases, Contains-flat_map_source, filter-source, found_from, found_to}
use Rattle.rt_link.specs.Effects.{link_at}
use Rattle.rt_proc.specs.declared.proc.Proc.{Proc}
use Rattle.rt_proc.specs.declared.site.Callee.{Callee}
use Rattle.rt_proc.specs.declared.site.Callee.TheVariants as callee
use Rattle.rt_proc.specs.declared.site.Kind.{Kind}
use Rattle.rt_proc.specs.declared.site.Kind.TheVariants as kind
use Rattle.rt_proc.specs.declared.site.Site.{Site}
use Rattle.rt_flow.specs.declared.def.Def.{Def}
use Rattle.rt_flow.specs.declared.def.Def.TheVariants as def
use Rattle.rt_flow.specs.Bodies.{Reaches}
use Rattle.rt_track.specs.declared.value.Value.{Value}
use Rattle.rt_track.specs.declared.value.Value.TheVariants as value
use Rattle.rt_track.specs.declared.op.Op.TheVariants as op
use Rattle.rt_track.specs.Candidates.{Node, Use, Definition, IsCandidate, IsSole, IsValue, entry_value}
use Rattle.rt_track.specs.Candidates.IsCandidate.{of_zero, of_reaching, of_entry, of_own, of_const, of_sym, of_add_i, of_add, of_several}
use Rattle.rt_track.specs.Values.{onto, plus, sum}
use Rattle.rt_body.specs.declared.action.Action.TheVariants as action
use Rattle.rt_body.specs.Actions.{defined_by, op_of, site_action}
use Rattle.rt_body.specs.Readings.{Reading, action_at, op_at}
use Rattle.rt_body.specs.Right.{IsReading}
use Rattle.rt_body.specs.Symbols.{lowest}
use Rattle.rt_liveness.specs.declared.call.Call.{Call}
use Rattle.rt_liveness.specs.Programs.{Program, callees_of, called_by}
use Rattle.rt_liveness.specs.Reads.{reads_of}
use Rattle.rt_liveness.specs.Calls.{AreCallsIn, taken_registers, takes_register}
use Rattle.rt_liveness.specs.Takes.{Takes, Procedure, ReachesSite, by_instruction, by_callee, by_return, is_argument}
use Rattle.rt_frame.specs.declared.question.Question.{Question}
use Rattle.rt_frame.specs.declared.question.Question.TheVariants.{OfUse, OfDefinition}
use Rattle.rt_frame.specs.Questions.{action_questions, call_questions, calls_at, is_real, is_result, questions, results}
use Rattle.rt_agreement.proofs.Calling.{IsCallAt, call-there, inside}
use Rattle.rt_agreement.proofs.Real.{one_real}
use Rattle.rt_agreement.proofs.Using.{IsOfAction, IsOfCall, added_used, asked-action, asked-call, insn_used, summed_used, used_by}

-- A procedure of a program, with what is known of its registers and the calls of its sites; none of these goes on for good in what a
-- register holds.
module _ (program : Program) (q : ℕ) (proc : Proc) (reading : Reading) (calls : List (List Call)) (is_proc : slice_get program.procs q ≡ Some proc)
    (is_read : slice_get program.readings q ≡ Some reading) (is : IsReading program.object proc reading) (are : AreCallsIn program q proc calls)
    (no_tail : (s r : ℕ) (site : Site) → slice_get proc.sites s ≡ Some site → Contains site.tails (callee.Unknown r) → ⊥) where
  -- where a register's value at the entry reaches the site of a number, the procedure takes it
  abbrev pub IsRead : ℕ → ℕ → Type 0
  IsRead s r = is_argument r ≡ true → Reaches reading.body (pos r) def.Entry s → Takes program (Procedure q) r

  many : length reading.actions ≡ length proc.sites
  many = ap length is.actions ∙ length-map proc.sites (site_action program.object)

  act_is : (s : ℕ) (site : Site) → slice_get proc.sites s ≡ Some site → action_at reading.actions s ≡ site_action program.object site
  act_is s site at =
      ap (λ actions. action_at actions s) is.actions
      ∙ get_or_from_slice_get (map (site_action program.object) proc.sites) s (site_action program.object site) action.Pass
      (slice_get-map (site_action program.object) proc.sites s ∙ ap (option_map (site_action program.object)) at)

  reaches_site : (s r : ℕ) (site : Site) → s < length reading.actions → slice_get proc.sites s ≡ Some site → is_argument r ≡ true
      → Reaches reading.body (pos r) def.Entry s → ReachesSite program q s r site
  reaches_site s r site less at argument reaches = record {
    reading = reading;
    is_site = record { proc = proc; is_proc = is_proc; is_reading = is_read; is_site = at };
    is_argument = argument;
    reaches = ((is.reaching s r less).reaching def.Entry).1 reaches;
  }

  -- a site reads what its kind reads
  kind_reads : (s r : ℕ) (site : Site) → s < length reading.actions → slice_get proc.sites s ≡ Some site → Contains (reads_of site.kind) r → IsRead s r
  kind_reads s r site less at reads argument reaches = by_instruction (reaches_site s r site less at argument reaches) reads

  -- the registers that its action takes something from, where it is no return
  module _ (s r : ℕ) (site : Site) (less : s < length reading.actions) (at : slice_get proc.sites s ≡ Some site) where
    -- a return tells of a result's register where a real definition reaches
    abbrev IsTold : Type 0
    IsTold = (n : ℕ) × (r ≡ 10 + n) × (n ≤ 1) × (list_any (is_real reading calls r) (reading.reaching s r) ≡ true)

    returns_read : site.kind ≡ kind.Return → IsTold → IsRead s r
    unfolding reaches_site
    returns_read k (n, e, few, real) argument reaches =
        let argument_there : is_argument (10 + n) ≡ true = subst (λ m. is_argument m ≡ true) e argument in
        let reaches_there : Reaches reading.body (pos (10 + n)) def.Entry s = subst (λ m. Reaches reading.body (pos m) def.Entry s) e reaches in
        let real_there : list_any (is_real reading calls (10 + n)) (reading.reaching s (10 + n)) ≡ true =
        subst (λ m. list_any (is_real reading calls m) (reading.reaching s m) ≡ true) e real in
        subst (Takes program (Procedure q)) (sym e)
        (by_return (reaches_site s (10 + n) site less at argument_there reaches_there) k few
        ((one_real program q proc reading calls s n is_proc is_read is are few).0 real_there))

    -- by the kind of the site
    by_kind : (k : Kind) → site.kind ≡ k → Contains (used_by (site_action program.object (record site { kind = k }))) r → (site.kind ≡ kind.Return → IsTold) → IsRead s r
    by_kind (kind.Plain insn) e c told =
        kind_reads s r site less at
        (subst (λ k. Contains (reads_of k) r) (sym e) (insn_used (lowest program.object) (link_at program.object site.place) insn r c))
    by_kind kind.Return e c told = returns_read e (told e)
    by_kind (kind.Call callee link) e c told = absurd (Contains-none r c)
    by_kind kind.Stop e c told = absurd (Contains-none r c)

    used_read : Contains (used_by (action_at reading.actions s)) r → (site.kind ≡ kind.Return → IsTold) → IsRead s r
    used_read c told = by_kind site.kind refl (subst (λ act. Contains (used_by act) r) (act_is s site at) c) told

  site_at : (s : ℕ) → s < length reading.actions → (site : Site) × (slice_get proc.sites s ≡ Some site)
  site_at s less = inside proc.sites s (omega (arith, less, many))

  -- Calls.

  -- a call of a site
  module _ (s : ℕ) (less : s < length reading.actions) (call : Call) (is_call : IsCallAt program q proc s call) where
    -- reads what its callee takes
    taken_read : (r : ℕ) → Contains (taken_registers call) r → IsRead s r
    taken_read r taken argument reaches =
        let takes : takes_register call r ≡ true = (filter-source (takes_register call) (10 ∷ 11 ∷ 12 ∷ 13 ∷ 14 ∷ 15 ∷ 16 ∷ 17 ∷ []) r taken).1 in
        by_callee (reaches_site s r is_call.site less is_call.is_site argument reaches) is_call.among ((is_call.is_call.takes r).0 takes)

    -- and what its callee is held in
    held_by : (r : ℕ) (k : Kind) → Contains (called_by k) (callee.Unknown r) → Contains (reads_of k) r
    held_by r (kind.Call c link) h = by (Contains-cons_cases c [] (callee.Unknown r) h)
      where
        by : (c ≡ callee.Unknown r) ⊎ Contains [] (callee.Unknown r) → Contains (reads_of (kind.Call c link)) r
        by (inl same) = subst (λ (o : Callee). Contains (reads_of (kind.Call o link)) r) (sym same) (Contains-here r [])
        by (inr none) = absurd (Contains-none (callee.Unknown r) none)
    held_by r (kind.Plain insn) h = absurd (Contains-none (callee.Unknown r) h)
    held_by r kind.Return h = absurd (Contains-none (callee.Unknown r) h)
    held_by r kind.Stop h = absurd (Contains-none (callee.Unknown r) h)

    held_read : (r : ℕ) → call.callee ≡ callee.Unknown r → IsRead s r
    held_read r e =
        by (Contains-append_cases (called_by is_call.site.kind) is_call.site.tails (callee.Unknown r) (subst (Contains (callees_of is_call.site)) e is_call.among))
      where
        by : Contains (called_by is_call.site.kind) (callee.Unknown r) ⊎ Contains is_call.site.tails (callee.Unknown r) → IsRead s r
        by (inl h) = kind_reads s r is_call.site less is_call.is_site (held_by r is_call.site.kind h)
        by (inr h) = absurd (no_tail s r is_call.site is_call.is_site h)

  -- Questions.

  -- what a site is asked for of a register, it reads; a definition of the entry that a return tells of is of a register that it reads
  abbrev IsAnswered : ℕ → Question → Type 0
  IsAnswered s (OfUse site r) = IsRead s r
  IsAnswered s (OfDefinition d r) = (d ≡ def.Entry → IsRead s r) × Contains (reading.reaching s r) d

  some_real : (s r : ℕ) (d : Def) → Contains (results reading calls s r) d
      → (list_any (is_real reading calls r) (reading.reaching s r) ≡ true) × Contains (reading.reaching s r) d
  some_real s r d c = by (list_any (is_real reading calls r) (reading.reaching s r)) refl c
    where
      by : (b : Bool) → list_any (is_real reading calls r) (reading.reaching s r) ≡ b
          → Contains (cond b (filter (is_result reading calls r) (reading.reaching s r)) []) d
          → (list_any (is_real reading calls r) (reading.reaching s r) ≡ true) × Contains (reading.reaching s r) d
      by true e h = (e, (filter-source (is_result reading calls r) (reading.reaching s r) d h).0)
      by false e h = absurd (Contains-none d h)

  result_used : (m : ℕ) → m ≤ 1 → Contains (10 ∷ 11 ∷ []) (10 + m)
  result_used zero few = Contains-here 10 (11 ∷ [])
  result_used (suc zero) few = Contains-there 10 (11 ∷ []) 11 (Contains-here 11 [])
  result_used (suc (suc m)) few = absurd (omega (arith, few))

  module _ (s : ℕ) (less : s < length reading.actions) where
    by_action : (question : Question) → IsOfAction s question reading calls (action_at reading.actions s) question → IsAnswered s question
    by_action (OfUse site r) (c, other) =
        let (o, at) = site_at s less in
        used_read s r o less at c
        (λ k. absurd (other (act_is s o at ∙ ap (λ (k : Kind). site_action program.object (record o { kind = k })) k)))
    by_action (OfDefinition d r) (returns, (m, e, few, there)) =
        let (o, at) = site_at s less in
        let told = some_real s r d there in (
          (λ same. used_read s r o less at
              (subst (λ act. Contains (used_by act) r) (sym returns) (subst (Contains (10 ∷ 11 ∷ [])) (sym e) (result_used m few)))
              (λ k. (m, e, few, told.0))),
          told.1,
        )

    by_call : (call : Call) → Contains (calls_at calls s) call → (question : Question) → IsOfCall s question call question → IsAnswered s question
    by_call call there question (n, e, either) = subst (IsAnswered s) e (by either)
      where
        by : (call.callee ≡ callee.Unknown n) ⊎ Contains (taken_registers call) n → IsRead s n
        by (inl held) = held_read s less call (call-there program q proc calls are s call there) n held
        by (inr taken) = taken_read s less call (call-there program q proc calls are s call there) n taken

    pub answered : (question : Question) → Contains (questions reading calls s (action_at reading.actions s)) question → IsAnswered s question
    answered question c =
        by (Contains-append_cases (action_questions reading calls s (action_at reading.actions s)) (flat_map (call_questions s) (calls_at calls s)) question c)
      where
        by : Contains (action_questions reading calls s (action_at reading.actions s)) question ⊎ Contains (flat_map (call_questions s) (calls_at calls s)) question
            → IsAnswered s question
        by (inl d) = by_action question (asked-action s question reading calls (action_at reading.actions s) d)
        by (inr d) =
            let (call, there, h) = Contains-flat_map_source (call_questions s) (calls_at calls s) question d in
            by_call call there question (asked-call s question call h)

  -- Values.

  -- where an action at a site computes from a register, the site reads it
  pub computes_read : (s p : ℕ) → Contains (used_by (action_at reading.actions s)) p → (action_at reading.actions s ≡ action.Return → ⊥) → IsRead s p
  computes_read s p c other = by (cases_lt s (length reading.actions))
    where
      by : (s < length reading.actions) ⊎ (length reading.actions ≤ s) → IsRead s p
      by (inl less) = by_action s less (OfUse s p) (c, other)
      by (inr past) = absurd (Contains-none p (subst (λ act. Contains (used_by act) p) (get_or_past reading.actions s action.Pass past) c))

  abbrev IsTakenAt : ℕ → Node → Type 0
  IsTakenAt reg (Use s r) = is_argument reg ≡ true → IsRead s r → Takes program (Procedure q) reg
  IsTakenAt reg (Definition def.Entry r) = reg ≡ r
  IsTakenAt reg (Definition (def.At s) r) = is_argument reg ≡ true → Takes program (Procedure q) reg

  abbrev IsTakenBy : Value → Node → Type 0
  IsTakenBy (value.Entry reg k) node = IsTakenAt reg node
  IsTakenBy other node = Unit {0}

  entry_taken : (r : ℕ) → IsTakenBy (entry_value r) (Definition def.Entry r)
  entry_taken r = elim (nat_eq r 2) as (λ b. IsTakenBy (cond b (value.Frame (pos 0)) (value.Entry r (pos 0))) (Definition def.Entry r)) [ true ↦ tt | false ↦ refl ]

  reaching_taken : (v : Value) (d : Def) (s r : ℕ) → Reaches reading.body (pos r) d s → IsTakenBy v (Definition d r) → IsTakenBy v (Use s r)
  reaching_taken (value.Entry reg k) def.Entry s r reaches same =
      λ argument read. subst (Takes program (Procedure q)) (sym same) (read (subst (λ n. is_argument n ≡ true) same argument) reaches)
  reaching_taken (value.Entry reg k) (def.At d) s r reaches h = λ argument read. h argument
  reaching_taken (value.Const n) d s r reaches h = tt
  reaching_taken (value.Sym g offset) d s r reaches h = tt
  reaching_taken (value.Frame k) d s r reaches h = tt
  reaching_taken (value.At site reg k) d s r reaches h = tt
  reaching_taken value.Multi d s r reaches h = tt

  plus_taken : (v : Value) (k : ℤ) (s r p : ℕ) → IsRead s p → IsTakenBy v (Use s p) → IsTakenBy (plus v k) (Definition (def.At s) r)
  plus_taken (value.Entry reg offset) k s r p read h = λ argument. h argument read
  plus_taken (value.Const n) k s r p read h = tt
  plus_taken (value.Sym g offset) k s r p read h = tt
  plus_taken (value.Frame offset) k s r p read h = tt
  plus_taken (value.At site reg offset) k s r p read h = tt
  plus_taken value.Multi k s r p read h = tt

  onto_taken : (v w : Value) (s r p : ℕ) → IsRead s p → IsTakenBy v (Use s p) → IsTakenBy (onto s r v w) (Definition (def.At s) r)
  onto_taken v (value.Const n) s r p read h = plus_taken v (cast_signed w32 n) s r p read h
  onto_taken v value.Multi s r p read h = tt
  onto_taken v (value.Entry reg offset) s r p read h = tt
  onto_taken v (value.Sym g offset) s r p read h = tt
  onto_taken v (value.Frame offset) s r p read h = tt
  onto_taken v (value.At site reg offset) s r p read h = tt

  sum_taken : (v w : Value) (s r p m : ℕ) → IsRead s p → IsRead s m → IsTakenBy v (Use s p) → IsTakenBy w (Use s m) → IsTakenBy (sum s r v w) (Definition (def.At s) r)
  sum_taken (value.Const n) w s r p m read other h g = plus_taken w (cast_signed w32 n) s r m other g
  sum_taken value.Multi w s r p m read other h g = tt
  sum_taken (value.Entry reg offset) w s r p m read other h g = onto_taken (value.Entry reg offset) w s r p read h
  sum_taken (value.Sym symbol offset) w s r p m read other h g = onto_taken (value.Sym symbol offset) w s r p read h
  sum_taken (value.Frame offset) w s r p m read other h g = onto_taken (value.Frame offset) w s r p read h
  sum_taken (value.At site reg offset) w s r p m read other h g = onto_taken (value.At site reg offset) w s r p read h

  candidate_taken : {node : Node} {v : Value} → IsCandidate reading.body (op_at reading.actions) node v → IsTakenBy v node
  candidate_taken of_zero = tt
  candidate_taken (of_reaching {s = s} {r = r} {d = d} {v = v} nonzero reaches c) = reaching_taken v d s r reaches (candidate_taken c)
  candidate_taken (of_entry {r = r}) = entry_taken r
  candidate_taken (of_own e) = tt
  candidate_taken (of_const e) = tt
  candidate_taken (of_sym e) = tt
  candidate_taken (of_add_i {s = s} {r = r} {q = p} {k = k} {v = v} e c) =
      plus_taken v k s r p
      (computes_read s p (added_used (action_at reading.actions s) p k e) (λ returns. let same : op.Own ≡ op.AddI p k = sym (ap op_of returns) ∙ e in cc))
      (candidate_taken c)
  candidate_taken (of_add {s = s} {r = r} {q = p} {p = m} {v = v} {w = w} e c d) =
      let used = summed_used (action_at reading.actions s) p m e in
      let other : action_at reading.actions s ≡ action.Return → ⊥ = λ returns. let same : op.Own ≡ op.Add p m = sym (ap op_of returns) ∙ e in cc in
      sum_taken v w s r p m (computes_read s p used.0 other) (computes_read s m used.1 other) (candidate_taken c) (candidate_taken d)
  candidate_taken (of_several c d apart) = tt

  sole_taken : (node : Node) (reg : ℕ) (k : ℤ) (v : Value) → IsValue (IsCandidate reading.body (op_at reading.actions) node) v → v ≡ value.Entry reg k → IsTakenAt reg node
  sole_taken node reg k v found e = by found.else_multi
    where
      by : IsSole (IsCandidate reading.body (op_at reading.actions) node) v ⊎ (v ≡ value.Multi) → IsTakenAt reg node
      by (inl sole) = subst (λ w. IsTakenBy w node) e (candidate_taken sole.candidate)
      by (inr several) = let same : value.Multi ≡ value.Entry reg k = sym several ∙ e in cc

  -- the register whose value at the entry a use has is taken, where its site reads what is used
  pub use_taken : (s r reg : ℕ) (k : ℤ) → IsRead s r → reading.value_at s r ≡ value.Entry reg k → is_argument reg ≡ true → Takes program (Procedure q) reg
  use_taken s r reg k read e argument = by (cases_lt s (length reading.actions)) (cases_lt r 32)
    where
      else : (s < length reading.actions → r < 32 → ⊥) → Takes program (Procedure q) reg
      else beyond = let same : value.Multi ≡ value.Entry reg k = sym (is.value_at_else s r beyond) ∙ e in cc

      by : (s < length reading.actions) ⊎ (length reading.actions ≤ s) → (r < 32) ⊎ (32 ≤ r) → Takes program (Procedure q) reg
      by (inl less) (inl few) = sole_taken (Use s r) reg k (reading.value_at s r) (is.value_at s r less few) e argument read
      by (inl less) (inr large) = else (λ a b. omega (arith, b, large))
      by (inr past) few = else (λ a b. omega (arith, a, past))

  -- so is that whose value a definition by a site has
  pub definition_taken : (s r reg : ℕ) (k : ℤ) → reading.value_of s r ≡ value.Entry reg k → is_argument reg ≡ true → Takes program (Procedure q) reg
  definition_taken s r reg k e argument = by (list_any (nat_eq r) (defined_by (action_at reading.actions s))) refl
    where
      by : (b : Bool) → list_any (nat_eq r) (defined_by (action_at reading.actions s)) ≡ b → Takes program (Procedure q) reg
      by true found =
          sole_taken (Definition (def.At s) r) reg k (reading.value_of s r) (is.value_of s r (found_from (defined_by (action_at reading.actions s)) r found)) e argument
      by false found =
          let same : value.At s r (pos 0) ≡ value.Entry reg k =
          sym (is.value_of_else s r (λ c. absurd (true≢false (sym (found_to (defined_by (action_at reading.actions s)) r c) ∙ found)))) ∙ e in cc
