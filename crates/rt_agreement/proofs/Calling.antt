-- What is told of a call of a procedure's site.
use Rattle.std.proofs.Common.{◌≡◌, ◌⊎◌, inl, inr, ◌<◌, ◌≤◌, zero, suc, ℕ, Some, List, [], ◌∷◌, length, get_or, refl, sym, subst, arith}
use Rattle.std.specs.Prelude.{Contains, slice_get, slice_index_or}
use Rattle.std.proofs.lemmas.Bool.{cases_lt}
use Rattle.std.proofs.lemmas.List.{get_or_past}
use Rattle.std.proofs.lemmas.Option.{get_or_from_slice_get}
use Rattle.rt_base.proofs.Lists.{Contains-none}
use Rattle.rt_proc.specs.declared.proc.Proc.{Proc}
use Rattle.rt_proc.specs.declared.site.Callee.{Callee}
use Rattle.rt_proc.specs.declared.site.Site.{Site}
use Rattle.rt_liveness.specs.declared.call.Call.{Call}
use Rattle.rt_liveness.specs.Programs.{Program, callees_of}
use Rattle.rt_liveness.specs.Calls.{AreCallsAt, AreCallsIn, IsCallOf}

-- what a list holds inside, it gives
pub inside : {X : Type 0} (xs : List X) (k : ℕ) → k < length xs → (x : X) × (slice_get xs k ≡ Some x)
inside [] k less = absurd (omega (arith, less))
inside (x ∷ xs) zero less = (x, refl)
inside (x ∷ xs) (suc k) less = inside xs k (omega (arith, less))

-- a call of the site of a number of a procedure: what is told of it is true
pub record IsCallAt (program : Program) (q : ℕ) (proc : Proc) (s : ℕ) (call : Call) : Type 0 where
  pub site : Site
  pub is_site : slice_get proc.sites s ≡ Some site
  pub is_call : IsCallOf program q s site.place call.callee call
  pub among : Contains (callees_of site) call.callee

module _ (program : Program) (q : ℕ) (proc : Proc) (calls : List (List Call)) (are : AreCallsIn program q proc calls) where
  pub call-there : (s : ℕ) (call : Call) → Contains (slice_index_or calls s []) call → IsCallAt program q proc s call
  call-there s call (i, less, e) = by (cases_lt s (length calls))
    where
      by : (s < length calls) ⊎ (length calls ≤ s) → IsCallAt program q proc s call
      by (inl within) =
          let (site, at) = inside proc.sites s (omega (arith, within, are.one_each)) in
          let told : AreCallsAt program q s site (slice_index_or calls s []) =
          subst (λ (o : Site). AreCallsAt program q s o (slice_index_or calls s [])) (get_or_from_slice_get proc.sites s site site at) (are.each s site within) in
          let one : IsCallOf program q s site.place (get_or (callees_of site) i call.callee) (get_or (slice_index_or calls s []) i call) = told.each i call.callee call less in
          let mine : IsCallOf program q s site.place (get_or (callees_of site) i call.callee) call =
          subst (λ (c : Call). IsCallOf program q s site.place (get_or (callees_of site) i call.callee) c) e one in
          record {
            site = site;
            is_site = at;
            is_call = subst (λ (c : Callee). IsCallOf program q s site.place c call) (sym mine.called) mine;
            among = (i, omega (arith, less, told.one_each), sym mine.called);
          }
      by (inr past) = absurd (Contains-none call (subst (λ (cs : List Call). Contains cs call) (get_or_past calls s [] past) (i, less, e)))
