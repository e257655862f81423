-- The rows of a member of a group name, directly after a procedure, no argument register but those that the procedure takes.
use Rattle.std.proofs.Common.{◌≡◌, ℕ, Bool, true, false, cond, Option, Some, None, List, [], ◌∷◌, refl, sym, ap, subst, ◌∙◌}
use Rattle.std.specs.Prelude.{Contains, slice_get, slice_index_or}
use Rattle.rt_base.proofs.Lists.{Contains-map_source, filter-source}
use Rattle.rt_proc.specs.declared.site.Callee.{Callee}
use Rattle.rt_proc.specs.declared.site.Callee.TheVariants as callee
use Rattle.rt_proc.specs.declared.site.Site.{Site}
use Rattle.rt_body.specs.Readings.{Reading}
use Rattle.rt_body.specs.Right.{IsReading}
use Rattle.rt_liveness.specs.declared.call.Call.{Call}
use Rattle.rt_liveness.specs.Programs.{Program, args_at, signature_at}
use Rattle.rt_liveness.specs.Calls.{AreCallsIn, taken_registers, takes_register}
use Rattle.rt_liveness.specs.Takes.{Taker, Takes, Procedure, CalleeAt, by_count, by_signature, by_instruction, by_callee, by_return, by_pointer, of_procedure}
use Rattle.rt_rows.specs.declared.row.Row.{Row}
use Rattle.rt_scheme.specs.declared.scheme.Scheme as scheme
use Rattle.rt_table.specs.Table.{AreProcedureRows, Context, Linked, Member, calls_of, linked_at}
use Rattle.rt_table.specs.Facts.{Knowledge}
use Rattle.rt_table.specs.Lists.{is_member, linked_by, scheme_target, target_by, words_at}
use Rattle.rt_agreement.specs.Objects.{AreToldCalls}
use Rattle.rt_agreement.proofs.Calling.{IsCallAt, call-there}
use Rattle.rt_agreement.proofs.Letters.{IsLetteredRow}
use Rattle.rt_agreement.proofs.Told.{IsMember, linked_there}
use Rattle.rt_agreement.proofs.Naming.{ArePassed, IsOfScheme, IsTakenLetter, rows-lettered}

-- what a site's callee takes that is a procedure, the procedure takes
callee_takes : (program : Program) {t : Taker} {r : ℕ} → Takes program t r → (q s p : ℕ) → t ≡ CalleeAt q s (callee.Proc p) → Takes program (Procedure p) r
callee_takes program (of_procedure {p = m} {register = r} h) q s p e = let same : m ≡ p = cc in subst (λ n. Takes program (Procedure n) r) same h
callee_takes program (by_instruction reaches c) q s p e = cc
callee_takes program (by_callee reaches c h) q s p e = cc
callee_takes program (by_return reaches k few h) q s p e = cc
callee_takes program (by_signature few h) q s p e = cc
callee_takes program (by_count few h) q s p e = cc
callee_takes program (by_pointer argument h) q s p e = cc

module _ (program : Program) (known : List Knowledge) (schemes : List (Option scheme.Scheme)) (group : List ℕ) where
  no_member : (covered : Option ℕ) (o : Option scheme.Scheme) (p : ℕ) (words : List ℕ) → scheme_target covered o ≡ Member p words → ⊥
  no_member covered None p words e = cc
  no_member covered (Some s) p words e = cc

  -- a call that is told as one of a member is one
  member_callee : (c : Callee) (plain : Bool) (p : ℕ) (words : List ℕ) → target_by program known schemes group c plain ≡ Member p words → c ≡ callee.Proc p
  member_callee (callee.Proc q) plain p words e = by (is_member group q) e
    where
      by : (b : Bool) → cond b (Member q (words_at known q)) (scheme_target None (slice_index_or schemes q None)) ≡ Member p words → callee.Proc q ≡ callee.Proc p
      by true same = let number : q ≡ p = cc in ap callee.Proc number
      by false other = absurd (no_member None (slice_index_or schemes q None) p words other)
  member_callee (callee.Extern symbol) plain p words e = absurd (no_member (args_at program symbol) (signature_at program symbol) p words e)
  member_callee (callee.Unknown r) true p words e = cc
  member_callee (callee.Unknown r) false p words e = cc

  lines_of : (covered : Option ℕ) (o : Option scheme.Scheme) → IsOfScheme (scheme_target covered o)
  lines_of covered None = tt
  lines_of covered (Some s) = s.bases

  -- a call that is told by a scheme has the lines of one
  target_lines : (c : Callee) (plain : Bool) → IsOfScheme (target_by program known schemes group c plain)
  target_lines (callee.Proc q) plain =
      elim (is_member group q) as (λ b. IsOfScheme (cond b (Member q (words_at known q)) (scheme_target None (slice_index_or schemes q None))))
      [ true ↦ tt | false ↦ lines_of None (slice_index_or schemes q None) ]
  target_lines (callee.Extern symbol) plain = lines_of (args_at program symbol) (signature_at program symbol)
  target_lines (callee.Unknown r) true = tt
  target_lines (callee.Unknown r) false = tt

  module _ (number : ℕ) (context : Context) (member : IsMember program schemes group known number context) (procedure : context.procedure ≡ number)
      (is_reading : IsReading program.object member.proc member.knowledge.reading)
      (no_tail : (s r : ℕ) (site : Site) → slice_get member.proc.sites s ≡ Some site → Contains site.tails (callee.Unknown r) → ⊥)
      (tells : AreToldCalls context) where
    is_proc : slice_get program.procs context.procedure ≡ Some member.proc
    is_proc = subst (λ n. slice_get program.procs n ≡ Some member.proc) (sym procedure) member.is_proc

    is_read : slice_get program.readings context.procedure ≡ Some context.reading
    is_read =
        subst (λ n. slice_get program.readings n ≡ Some context.reading) (sym procedure)
        (subst (λ (r : Reading). slice_get program.readings number ≡ Some r) (sym member.reading) member.is_known.reading)

    is_true : IsReading program.object member.proc context.reading
    is_true = subst (IsReading program.object member.proc) (sym member.reading) is_reading

    are_calls : AreCallsIn program context.procedure member.proc (calls_of context)
    are_calls =
        subst (λ n. AreCallsIn program n member.proc (calls_of context)) (sym procedure)
        (subst (AreCallsIn program number member.proc) member.calls member.is_known.calls)

    -- what is told at a site is a call of it
    linked_call : (site : ℕ) (linked : Linked) → Contains (linked_at context site) linked
        → (call : Call) × Contains (slice_index_or member.knowledge.calls site []) call × (linked_by program known schemes group call ≡ linked)
    linked_call site linked c =
        let link = linked_by program known schemes group in
        let calls = member.knowledge.calls in
        Contains-map_source link (slice_index_or calls site []) linked
        (subst (λ (ls : List Linked). Contains ls linked) (ap (λ (l : List (List Linked)). slice_index_or l site []) member.linked ∙ linked_there link (λ call. refl) calls site) c)

    passes : ArePassed program context
    passes site linked p r words c e taken =
        let (call, there, same) = linked_call site linked c in
        let mine : IsCallAt program number member.proc site call = call-there program number member.proc member.knowledge.calls member.is_known.calls site call there in
        let is_proc : call.callee ≡ callee.Proc p = member_callee call.callee call.is_plain p words (ap (λ (l : Linked). l.target) same ∙ e) in
        let taken_here : Contains (taken_registers call) r = subst (λ (l : Linked). Contains (taken_registers l.call) r) (sym same) taken in
        let takes : takes_register call r ≡ true = (filter-source (takes_register call) (10 ∷ 11 ∷ 12 ∷ 13 ∷ 14 ∷ 15 ∷ 16 ∷ 17 ∷ []) r taken_here).1 in
        callee_takes program ((mine.is_call.takes r).0 takes) number site p (ap (CalleeAt number site) is_proc)

    of_scheme : (site : ℕ) (linked : Linked) → Contains (linked_at context site) linked → IsOfScheme linked.target
    of_scheme site linked c =
        let (call, there, same) = linked_call site linked c in
        subst (λ (l : Linked). IsOfScheme l.target) same (target_lines call.callee call.is_plain)

    pub member-rows : (rows : List Row) → AreProcedureRows context rows → (r : Row) → Contains rows r → IsLetteredRow (IsTakenLetter program) r
    member-rows rows told r there =
        rows-lettered program context member.proc is_proc is_read is_true are_calls no_tail tells passes of_scheme rows told r there
