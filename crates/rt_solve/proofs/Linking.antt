-- The lists of a group's members are the same where procedures for whom no member calls have other schemes.
use Rattle.std.proofs.Common.{◌≡◌, ℕ, zero, suc, ◌<◌, ◌≤◌, ◌⊎◌, inl, inr, Bool, true, false, cond, Option, Some, None, List, [], ◌∷◌, ◌||◌, All, Contains, map, length, get_or, nat_eq, refl, sym, ap, subst, ◌∙◌, arith}
use Rattle.std.specs.Prelude.{slice_get}
use Rattle.std.proofs.lemmas.Bool.{both_ways, cases_lt, eq-eqb}
use Rattle.std.proofs.lemmas.Option.{get_or_from_slice_get, slice_get-get_or, slice_get_within}
use Rattle.std.proofs.lemmas.List.{get_or_default}
use Rattle.std.proofs.lemmas.List.Elements.{Contains-append_cases, Contains-get_or}
use Rattle.rt_lines.specs.declared.line.Line.{Line}
use Rattle.rt_lattice.specs.declared.roles.Roles.{Roles}
use Rattle.rt_elf.specs.Parts.{Parts as Object}
use Rattle.rt_proc.specs.declared.proc.Proc as procedure
use Rattle.rt_proc.specs.declared.site.Callee.{Callee}
use Rattle.rt_proc.specs.declared.site.Callee.TheVariants as callee
use Rattle.rt_proc.specs.declared.site.Kind.{Kind}
use Rattle.rt_proc.specs.declared.site.Kind.TheVariants as kind
use Rattle.rt_proc.specs.declared.site.Site.{Site}
use Rattle.rt_calls.specs.Calls.{Calls, CallsAt, TailCallsAt}
use Rattle.rt_liveness.specs.declared.call.Call.{Call}
use Rattle.rt_liveness.specs.Calls.{AreCallsIn}
use Rattle.rt_liveness.specs.Programs.{Program, called_by, callees_of}
use Rattle.rt_scheme.specs.declared.scheme.Scheme.{Scheme}
use Rattle.rt_sigs.specs.Signatures.{Signature}
use Rattle.rt_table.specs.Facts.{AreKnown, Knowledge}
use Rattle.rt_table.specs.Lists.{AreLinesOf, AreRowsOf, is_member, linked_by, linked_in, scheme_target, target_by, words_at}
use Rattle.rt_table.specs.Table.{Member, Target}
use Rattle.rt_table.proofs.Framings.{element}

map_same : {X Y : Type 0} (f g : X → Y) (xs : List X) → All (λ x. f x ≡ g x) xs → map f xs ≡ map g xs
map_same f g [] same = refl
map_same f g (x ∷ xs) same =
    let rest : map f xs ≡ map g xs = map_same f g xs (λ k d lt. same (suc k) d (omega arith)) in
    λ i. same 0 x (omega arith) i ∷ rest i

none_in : (c : Callee) → Contains {X = Callee} [] c → ⊥
none_in c (k, lt, e) = omega arith

only_one : (c d : Callee) → Contains (c ∷ []) d → c ≡ d
only_one c d (zero, lt, e) = e
only_one c d (suc k, lt, e) = absurd (omega arith)

-- a callee of a site is called by it, or is one in which the site goes on for good
module _ (site : Site) (q : ℕ) where
  called_at : (k : Kind) → site.kind ≡ k → Contains (called_by k) (callee.Proc q) → CallsAt site q
  called_at (kind.Call c link) e h = (link, e ∙ ap (λ d. kind.Call d link) (only_one c (callee.Proc q) h))
  called_at (kind.Plain insn) e h = absurd (none_in (callee.Proc q) h)
  called_at kind.Return e h = absurd (none_in (callee.Proc q) h)
  called_at kind.Stop e h = absurd (none_in (callee.Proc q) h)

  leads_to : Contains (callees_of site) (callee.Proc q) → CallsAt site q ⊎ TailCallsAt site q
  leads_to h = by (Contains-append_cases (called_by site.kind) site.tails (callee.Proc q) h)
    where
      by : Contains (called_by site.kind) (callee.Proc q) ⊎ Contains site.tails (callee.Proc q) → CallsAt site q ⊎ TailCallsAt site q
      by (inl g) = inl (called_at site.kind refl g)
      by (inr g) = inr g

-- the lists of schemes agree at each procedure for which a member of the group calls and that is no member
pub record AgreeFor (procs : List procedure.Proc) (group : List ℕ) (first second : List (Option Scheme)) : Type 0 where
  pub called : (p q : ℕ) → Contains group p → Calls procs p q → (Contains group q → ⊥) → get_or first q None ≡ get_or second q None
  pub past : (q : ℕ) → length procs ≤ q → get_or first q None ≡ get_or second q None

any_member : (q : ℕ) (group : List ℕ) (k : ℕ) → k < length group → get_or group k q ≡ q → is_member group q ≡ true
any_member q [] k lt e = absurd (omega arith)
any_member q (p ∷ group) zero lt e = λ i. eq-eqb q p (sym e) i || is_member group q
any_member q (p ∷ group) (suc k) lt e = (λ i. nat_eq q p || any_member q group k (omega arith) e i) ∙ or_true (nat_eq q p)
  where
    or_true : (b : Bool) → b || true ≡ true
    or_true true = refl
    or_true false = refl

module _ (program : Program) (known : List Knowledge) (group : List ℕ) (first second : List (Option Scheme)) where
  -- a callee is told the same
  abbrev IsSame : Callee → Type 0
  IsSame c = (q : ℕ) → c ≡ callee.Proc q → (Contains group q → ⊥) → get_or first q None ≡ get_or second q None

  no_member : (q : ℕ) → is_member group q ≡ false → Contains group q → ⊥
  no_member q e (k, lt, f) = both_ways (is_member group q) e (any_member q group k lt f)

  abbrev chosen : ℕ → List (Option Scheme) → Bool → Target
  chosen q schemes t = cond t (Member q (words_at known q)) (scheme_target None (get_or schemes q None))

  by_member : (q : ℕ) → IsSame (callee.Proc q) → (t : Bool) → is_member group q ≡ t → chosen q first (is_member group q) ≡ chosen q second (is_member group q)
  by_member q same true e = (λ i. chosen q first (e i)) ∙ sym (λ i. chosen q second (e i))
  by_member q same false e = (λ i. chosen q first (e i)) ∙ ap (scheme_target None) (same q refl (no_member q e)) ∙ sym (λ i. chosen q second (e i))

  target_same : (c : Callee) (is_plain : Bool) → IsSame c → target_by program known first group c is_plain ≡ target_by program known second group c is_plain
  target_same (callee.Proc q) is_plain same = by_member q same (is_member group q) refl
  target_same (callee.Extern symbol) is_plain same = refl
  target_same (callee.Unknown register) is_plain same = refl

  call_same : (call : Call) → IsSame call.callee → linked_by program known first group call ≡ linked_by program known second group call
  call_same call same = λ i. record { call = call; target = target_same call.callee call.is_plain same i }

  site_same : (calls : List Call) → All (λ call. IsSame call.callee) calls → map (linked_by program known first group) calls ≡ map (linked_by program known second group) calls
  site_same calls same = map_same (linked_by program known first group) (linked_by program known second group) calls (λ k d lt. call_same (get_or calls k d) (same k d lt))

  linked_same : (calls : List (List Call)) → All (All (λ call. IsSame call.callee)) calls → linked_in program known first group calls ≡ linked_in program known second group calls
  linked_same calls same = map_same _ _ calls (λ k d lt. site_same (get_or calls k d) (same k d lt))

  -- a call of a site of a member
  module _ (agree : AgreeFor program.procs group first second) (number : ℕ) (member : Contains group number) (proc : procedure.Proc) (at : slice_get program.procs number ≡ Some proc)
      (calls : List (List Call)) (are : AreCallsIn program number proc calls) where
    leads_same : (site : Site) (c : Callee) → Contains proc.sites site → Contains (callees_of site) c → IsSame c
    leads_same site c stands has q e apart = by (cases_lt q (length program.procs))
      where
        by : (q < length program.procs) ⊎ (length program.procs ≤ q) → get_or first q None ≡ get_or second q None
        by (inl lt) = agree.called number q member (lt, (proc, at, (site, stands, leads_to site q (subst (Contains (callees_of site)) e has)))) apart
        by (inr le) = agree.past q le

    each_same : (s : ℕ) → s < length calls → All (λ call. IsSame call.callee) (get_or calls s [])
    each_same s lt i call less =
        let within : s < length proc.sites = omega (arith, are.one_each) in
        let some : Site = element proc.sites s within in
        let site : Site = get_or proc.sites s some in
        let here = are.each s some lt in
        let is = here.each i (get_or (get_or calls s []) i call).callee call less in
        leads_same site (get_or (get_or calls s []) i call).callee (s, within, get_or_default proc.sites s site some within)
        (i, omega (arith, here.one_each), sym is.called)

    calls_same : All (All (λ call. IsSame call.callee)) calls
    calls_same s d lt = subst (All (λ call. IsSame call.callee)) (get_or_default calls s [] d lt) (each_same s lt)

  member_same : AreKnown program known → AgreeFor program.procs group first second → (number : ℕ) (knowledge : Knowledge) → Contains group number → slice_get known number ≡ Some knowledge →
      linked_in program known first group knowledge.calls ≡ linked_in program known second group knowledge.calls
  member_same are agree number knowledge member at =
      let lt : number < length known = slice_get_within known number knowledge at in
      let within : number < length program.procs = omega (arith, are.one_each) in
      let some : procedure.Proc = element program.procs number within in
      let is = are.each number some knowledge lt in
      let calls : AreCallsIn program number (get_or program.procs number some) knowledge.calls =
      subst (λ (k : Knowledge). AreCallsIn program number (get_or program.procs number some) k.calls) (get_or_from_slice_get known number knowledge knowledge at) is.calls in
      linked_same knowledge.calls (calls_same agree number member (get_or program.procs number some) (slice_get-get_or program.procs number some within) knowledge.calls calls)

  rows_same : AreKnown program known → AgreeFor program.procs group first second → (roles : Roles) (number : ℕ) (rows : _) → Contains group number → AreRowsOf program known roles first group number rows → AreRowsOf program known roles second group number rows
  rows_same are agree roles number rows member of =
      let is = of.is_context in
      record {
        context = of.context;
        is_context = record {
          procedure = is.procedure;
          knowledge = is.knowledge;
          is_known = is.is_known;
          reading = is.reading;
          frame = is.frame;
          linked = is.linked ∙ member_same are agree number is.knowledge member is.is_known;
          is_code = is.is_code;
          constant = is.constant;
        };
        are_rows = of.are_rows;
      }

-- the lists of a group
pub lines_same : (object : Object) (roles : Roles) (procs : List procedure.Proc) (signatures : List Signature) (group : List ℕ) (first second : List (Option Scheme)) (bodies : List (List Line)) →
    AgreeFor procs group first second → AreLinesOf object roles procs signatures first group bodies → AreLinesOf object roles procs signatures second group bodies
lines_same object roles procs signatures group first second bodies agree are = record {
  readings = are.readings;
  known = are.known;
  are_known = are.are_known;
  rows = are.rows;
  one_each = are.one_each;
  are_rows = λ i lt. rows_same (record { object = object; procs = procs; readings = are.readings; signatures = signatures }) are.known group first second are.are_known agree roles (get_or group i 0) (get_or are.rows i [])
      (Contains-get_or group i 0 lt) (are.are_rows i lt);
  lines = are.lines;
}
