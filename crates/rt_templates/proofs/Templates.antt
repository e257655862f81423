-- The templates of the table's lists are such that callees come first.
use Rattle.std.proofs.Common.{◌≡◌, ℕ, zero, suc, ◌<◌, ◌⊎◌, inl, inr, Bool, true, false, nat_eq, if◌then◌else◌, Option, Some, None, List}
use Rattle.std.proofs.Common.{[], ◌∷◌, map, get_or, length, refl, sym, ap, subst, ◌∙◌, eq-eqb, true≢false, arith}
use Rattle.std.specs.Prelude.{All, Contains, slice_get, slice_index_or}
use Rattle.std.proofs.lemmas.Bool.{and_parts}
use Rattle.std.proofs.lemmas.List.Elements.{All-contains, Contains-append_cases, Contains-get_or}
use Rattle.rt_base.proofs.Lists.{Contains-none, Contains-here, Contains-there, Contains-cons_cases, Contains-map_source, list_any-from}
use Rattle.rt_lines.specs.declared.line.Line.{Line}
use Rattle.rt_lattice.specs.declared.roles.Roles.{Roles}
use Rattle.rt_elf.specs.Parts.{Parts as Object}
use Rattle.rt_proc.specs.declared.proc.Proc.{Proc}
use Rattle.rt_proc.specs.declared.site.Callee.{Callee}
use Rattle.rt_proc.specs.declared.site.Callee.TheVariants as callee
use Rattle.rt_liveness.specs.declared.call.Call.{Call}
use Rattle.rt_liveness.specs.Programs.{Program, args_at, signature_at}
use Rattle.rt_scheme.specs.declared.scheme.Scheme.{Scheme}
use Rattle.rt_components.specs.Groups.{IsAmongFirst, group_at}
use Rattle.rt_calls.specs.Calls.{AreGroupsOf, LeadTo}
use Rattle.rt_proc.specs.declared.site.Site.{Site}
use Rattle.rt_proc.specs.declared.site.Kind.{Kind}
use Rattle.rt_proc.specs.declared.site.Kind.TheVariants as kind
use Rattle.rt_liveness.specs.Calls.{AreCallsAt, AreCallsIn}
use Rattle.rt_liveness.specs.Programs.{called_by, callees_of}
use Rattle.rt_scheme.specs.Schemes.{AreSchemeLines, is_scheme_line}
use Rattle.rt_sigs.specs.Signatures.{AreSignatures, Signature, names_no_global, signature_of}
use Rattle.rt_body.specs.Readings.{Reading}
use Rattle.rt_body.specs.Symbols.{symbol_of}
use Rattle.rt_unfold.specs.Unfolded.{AreTemplates}
use Rattle.rt_templates.specs.Tables.{AreTemplatesOf, TemplatesLaw}
use lib.Pointwise.{pointwise}
use Rattle.std.proofs.lemmas.List.Elements.{All-head, All-tail}
use Rattle.rt_rows.specs.declared.name.Name.TheVariants as name
use Rattle.rt_rows.specs.declared.row.Root.{Root}
use Rattle.rt_rows.specs.declared.row.Root.TheVariants as root
use Rattle.rt_rows.specs.declared.row.Row.{Row}
use Rattle.rt_rows.specs.declared.row.Row.TheVariants as row
use Rattle.rt_rows.specs.Terms.{HasRoot, IsGroupRow}
use Rattle.rt_table.specs.declared.item.Item.{Item as TableItem}
use Rattle.rt_table.specs.declared.item.Item.TheVariants as item
use Rattle.rt_table.specs.Facts.{AreKnown, Knowledge}
use Rattle.rt_table.specs.Lists.{IsContext, is_member, linked_by, linked_in, scheme_target, target_by, words_at}
use Rattle.rt_table.specs.Table.{Member, linked_at, target_at}
use Rattle.rt_unfold.specs.Unfolded.{Item, Plain, Instance, Outside, Given, Nothing, Template}
use Rattle.rt_templates.specs.Tables.{IsTemplateOf, called_in, called_of, given_by, item_of, outside_by}
use Rattle.rt_templates.proofs.ItemRows.{HasHeldRegister, IsGood, IsGoodItem, IsRootIn, any-sound, good-items, good-written}
use Rattle.std.proofs.lemmas.Bool.{eqb-true}
use Rattle.rt_base.proofs.Lists.{list_any-at}
use Rattle.rt_table.proofs.Looking.{get-within}
use Rattle.std.proofs.lemmas.Option.{get_or_from_slice_get, slice_get-get_or}

pub member-contains : (group : List ℕ) (q : ℕ) → is_member group q ≡ true → Contains group q
member-contains group q e = let s = list_any-at (nat_eq q) group e in subst (Contains group) (sym (eqb-true q s.0 s.2)) s.1

pub member-has : (group : List ℕ) (q : ℕ) → Contains group q → is_member group q ≡ true
member-has group q c = list_any-from (nat_eq q) group q c (eq-eqb q q refl)

module _ (program : Program) (schemes : List (Option Scheme)) (group : List ℕ) where
  -- a call of a procedure outside the group that has a scheme
  abbrev pub IsOutsideCall : ℕ → Callee → Type 0
  IsOutsideCall q c = (c ≡ callee.Proc q) × (is_member group q ≡ false) × (s : Scheme) × (slice_index_or schemes q None ≡ Some s)

  outside_by-source : (r q : ℕ) (o : Option Scheme) → outside_by r o ≡ Outside q → (r ≡ q) × (s : Scheme) × (o ≡ Some s)
  outside_by-source r q None e = cc
  outside_by-source r q (Some s) e = (cc, s, refl)

  called_of-source : (c : Callee) (q : ℕ) → called_of program schemes group c ≡ Outside q → IsOutsideCall q c
  called_of-source (callee.Proc r) q e = by (is_member group r) refl e
    where
      by : (t : Bool) → is_member group r ≡ t → (if t then Nothing else outside_by r (slice_index_or schemes r None)) ≡ Outside q → IsOutsideCall q (callee.Proc r)
      by true f g = cc
      by false f g =
          let s = outside_by-source r q (slice_index_or schemes r None) g in
          (ap callee.Proc s.0, subst (λ n. is_member group n ≡ false) s.0 f, s.1, subst (λ n. slice_index_or schemes n None ≡ Some s.1) s.0 s.2)
  called_of-source (callee.Extern symbol) q e = by (signature_at program symbol) e
    where
      by : (o : Option Scheme) → given_by o ≡ Outside q → IsOutsideCall q (callee.Extern symbol)
      by None f = cc
      by (Some s) f = cc
  called_of-source (callee.Unknown register) q e = cc

  pub called_in-source : (calls : List Call) (i q : ℕ) → called_in program schemes group calls i ≡ Outside q → (call : Call) × Contains calls call × IsOutsideCall q call.callee
  called_in-source [] i q e = cc
  called_in-source (call ∷ more) zero q e = (call, Contains-here call more, called_of-source call.callee q e)
  called_in-source (call ∷ more) (suc i) q e = let s = called_in-source more i q e in (s.0, Contains-there call more s.0 s.1, s.2)

  given_of-source : (c : Callee) (own : ℕ) (lines : List Line) → called_of program schemes group c ≡ Given own lines →
      (symbol : ℕ) × (s : Scheme) × (signature_at program symbol ≡ Some s) × (s.base ≡ own) × (s.lines ≡ lines)
  given_of-source (callee.Proc r) own lines e = by (is_member group r) e
    where
      none : (o : Option Scheme) → outside_by r o ≡ Given own lines → (symbol : ℕ) × (s : Scheme) × (signature_at program symbol ≡ Some s) × (s.base ≡ own) × (s.lines ≡ lines)
      none None g = cc
      none (Some s) g = cc

      by : (t : Bool) → (if t then Nothing else outside_by r (slice_index_or schemes r None)) ≡ Given own lines →
          (symbol : ℕ) × (s : Scheme) × (signature_at program symbol ≡ Some s) × (s.base ≡ own) × (s.lines ≡ lines)
      by true g = cc
      by false g = none (slice_index_or schemes r None) g
  given_of-source (callee.Extern symbol) own lines e = by (signature_at program symbol) refl e
    where
      by : (o : Option Scheme) → signature_at program symbol ≡ o → given_by o ≡ Given own lines →
          (n : ℕ) × (s : Scheme) × (signature_at program n ≡ Some s) × (s.base ≡ own) × (s.lines ≡ lines)
      by None f g = cc
      by (Some s) f g = (symbol, s, f, cc, cc)
  given_of-source (callee.Unknown register) own lines e = cc

  pub given_in-source : (calls : List Call) (i own : ℕ) (lines : List Line) → called_in program schemes group calls i ≡ Given own lines →
      (symbol : ℕ) × (s : Scheme) × (signature_at program symbol ≡ Some s) × (s.base ≡ own) × (s.lines ≡ lines)
  given_in-source [] i own lines e = cc
  given_in-source (call ∷ more) zero own lines e = given_of-source call.callee own lines e
  given_in-source (call ∷ more) (suc i) own lines e = given_in-source more i own lines e

  -- Procedures that are called by their own variables are members.

  scheme_held : (covered : Option ℕ) (o : Option Scheme) → HasHeldRegister (Contains group) (scheme_target covered o)
  scheme_held covered None = tt
  scheme_held covered (Some s) = tt

  target_held : (known : List Knowledge) (c : Callee) (b : Bool) → HasHeldRegister (Contains group) (target_by program known schemes group c b)
  target_held known (callee.Proc q) b = by (is_member group q) refl
    where
      by : (t : Bool) → is_member group q ≡ t → HasHeldRegister (Contains group) (if t then Member q (words_at known q) else scheme_target None (slice_index_or schemes q None))
      by true e = member-contains group q e
      by false e = scheme_held None (slice_index_or schemes q None)
  target_held known (callee.Extern symbol) b = scheme_held (args_at program symbol) (signature_at program symbol)
  target_held known (callee.Unknown register) true = tt
  target_held known (callee.Unknown register) false = tt

  held_here : (known : List Knowledge) (here : List Call) (i : ℕ) → HasHeldRegister (Contains group) (target_at (map (linked_by program known schemes group) here) i)
  held_here known [] i = tt
  held_here known (call ∷ here) zero = target_held known call.callee call.is_plain
  held_here known (call ∷ here) (suc i) = held_here known here i

  held_in : (known : List Knowledge) (calls : List (List Call)) (site i : ℕ) → HasHeldRegister (Contains group) (target_at (slice_index_or (linked_in program known schemes group calls) site []) i)
  held_in known [] site i = tt
  held_in known (here ∷ calls) zero i = held_here known here i
  held_in known (here ∷ calls) (suc site) i = held_in known calls site i

  module _ (known : List Knowledge) (roles : Roles) (p : ℕ) (template : Template) (member : Contains group p) (is : IsTemplateOf program known roles schemes group p template) where
    abbrev context_is : IsContext program known roles schemes group p is.context
    context_is = is.is_context

    own_is : Contains group (is.context).procedure
    own_is = subst (Contains group) (sym context_is.procedure) member

    held : (site i : ℕ) → HasHeldRegister (Contains group) (target_at (linked_at is.context site) i)
    held site i =
        subst (λ ls. HasHeldRegister (Contains group) (target_at (slice_index_or ls site []) i)) (sym context_is.linked) (held_in known (context_is.knowledge).calls site i)

    good : All (IsGoodItem is.context (λ _. Unit {0}) (λ _. Unit {0}) (Contains group) own_is) is.items
    good =
        good-written is.context (λ _. Unit {0}) (λ _. Unit {0}) (Contains group) own_is (any-sound (Contains group) is.context held) is.writes
        (good-items is.context (λ _. Unit {0}) (λ _. Unit {0}) (Contains group) own_is (any-sound (Contains group) is.context held))

    plain_row : (x : Row) → Contains template.items (Plain x) → IsGood is.context (λ _. Unit {0}) (λ _. Unit {0}) (Contains group) own_is x
    plain_row x c =
        let s = Contains-map_source item_of is.items (Plain x) (subst (λ items. Contains items (Plain x)) is.items_are c) in
        by s.0 (All-contains (IsGoodItem is.context (λ _. Unit {0}) (λ _. Unit {0}) (Contains group) own_is) is.items s.0 good s.1) s.2
      where
        row_of : Item → Row
        row_of (Plain y) = y
        row_of (Instance s j) = x

        by : (y : TableItem) → IsGoodItem is.context (λ _. Unit {0}) (λ _. Unit {0}) (Contains group) own_is y → item_of y ≡ Plain x → IsGood is.context (λ _. Unit {0}) (λ _. Unit {0}) (Contains group) own_is x
        by (item.Told y) h e = subst (IsGood is.context (λ _. Unit {0}) (λ _. Unit {0}) (Contains group) own_is) (ap row_of e) h
        by (item.Instance s j) h e = cc

    row_group : (r : Row) → IsGood is.context (λ _. Unit {0}) (λ _. Unit {0}) (Contains group) own_is r → IsGroupRow r
    row_group (row.Var x) h = h.1
    row_group (row.Same x y) h = (h.0.1, h.1.1)
    row_group (row.Sub x y) h = (h.0.1, h.1.1)
    row_group (row.Low k x) h = h.1.1
    row_group (row.Up x k) h = h.0.1

    row_root : (r : Row) (x : Root) → IsGood is.context (λ _. Unit {0}) (λ _. Unit {0}) (Contains group) own_is r → HasRoot r x → IsRootIn is.context (λ _. Unit {0}) (Contains group) x
    row_root (row.Var y) x h e = subst (IsRootIn is.context (λ _. Unit {0}) (Contains group)) e h.0
    row_root (row.Same y z) x h (inl e) = subst (IsRootIn is.context (λ _. Unit {0}) (Contains group)) e h.0.0
    row_root (row.Same y z) x h (inr e) = subst (IsRootIn is.context (λ _. Unit {0}) (Contains group)) e h.1.0
    row_root (row.Sub y z) x h (inl e) = subst (IsRootIn is.context (λ _. Unit {0}) (Contains group)) e h.0.0
    row_root (row.Sub y z) x h (inr e) = subst (IsRootIn is.context (λ _. Unit {0}) (Contains group)) e h.1.0
    row_root (row.Low k y) x h e = subst (IsRootIn is.context (λ _. Unit {0}) (Contains group)) e h.1.0
    row_root (row.Up y k) x h e = subst (IsRootIn is.context (λ _. Unit {0}) (Contains group)) e h.0.0

    -- the fields of the record on templates, for one member

    pub form : (x : Row) → Contains template.items (Plain x) → IsGroupRow x
    form x c = row_group x (plain_row x c)

    pub member_root : (q : ℕ) (x : Row) → Contains template.items (Plain x) → HasRoot x (root.Proc q) → Contains group q
    member_root q x c h = row_root x (root.Proc q) (plain_row x c) h

    pub inner_root : (procedure site i n : ℕ) (x : Row) → Contains template.items (Plain x) → HasRoot x (root.Named (name.Inner procedure site i n)) → ⊥
    inner_root procedure site i n x c h = row_root x (root.Named (name.Inner procedure site i n)) (plain_row x c) h

    pub outside_member : (site i q : ℕ) → template.called site i ≡ Outside q → Contains group q → ⊥
    outside_member site i q e c =
        let s = called_in-source (slice_index_or (context_is.knowledge).calls site []) i q (sym (is.called_are site i) ∙ e) in
        true≢false (sym (member-has group q c) ∙ s.2.1)

-- what a list has at a place that is none of it
pub some-within : (schemes : List (Option Scheme)) (q : ℕ) (s : Scheme) → slice_index_or schemes q None ≡ Some s → q < length schemes
some-within [] q s e = cc
some-within (o ∷ schemes) zero s e = omega arith
some-within (o ∷ schemes) (suc q) s e = let less = some-within schemes q s e in omega arith

list-within : (calls : List (List Call)) (site : ℕ) (call : Call) → Contains (slice_index_or calls site []) call → site < length calls
list-within [] site call c = absurd (Contains-none call c)
list-within (here ∷ calls) zero call c = omega arith
list-within (here ∷ calls) (suc site) call c = let less = list-within calls site call c in omega arith

-- Calls of sites lead to the procedures that are called.

leads_by : (k : Kind) (q : ℕ) → Contains (called_by k) (callee.Proc q) → (link : ℕ) × (k ≡ kind.Call (callee.Proc q) link)
leads_by (kind.Call c link) q h = by (Contains-cons_cases c [] (callee.Proc q) h)
  where
    by : (c ≡ callee.Proc q) ⊎ Contains [] (callee.Proc q) → (l : ℕ) × (kind.Call c link ≡ kind.Call (callee.Proc q) l)
    by (inl e) = (link, ap (λ d. kind.Call d link) e)
    by (inr none) = absurd (Contains-none (callee.Proc q) none)
leads_by other q h = absurd (Contains-none (callee.Proc q) h)

leads : (sites : List Site) (site : Site) (q : ℕ) → Contains sites site → Contains (callees_of site) (callee.Proc q) → LeadTo sites q
leads sites site q c d = by (Contains-append_cases (called_by site.kind) site.tails (callee.Proc q) d)
  where
    by : Contains (called_by site.kind) (callee.Proc q) ⊎ Contains site.tails (callee.Proc q) → LeadTo sites q
    by (inl e) = (site, c, inl (leads_by site.kind q e))
    by (inr e) = (site, c, inr e)

no_site : Site
no_site = record { place = record { section = 0; offset = 0 }; kind = kind.Return; next = []; tails = [] }

no_proc : Proc
no_proc = record { entry = record { section = 0; offset = 0 }; name = []; sites = [] }

module _ (program : Program) (q p : ℕ) (proc : Proc) (calls : List (List Call)) (are : AreCallsIn program p proc calls) where
  callee-there : (site : ℕ) (call : Call) → Contains (slice_index_or calls site []) call → call.callee ≡ callee.Proc q → LeadTo proc.sites q
  callee-there site call (i, less, at) e =
      let within : site < length calls = list-within calls site call (i, less, at) in
      let here : AreCallsAt program p site (get_or proc.sites site no_site) (get_or calls site []) = are.each site no_site within in
      let one = here.each i (callee.Proc q) call less in
      let is : call.callee ≡ get_or (callees_of (get_or proc.sites site no_site)) i (callee.Proc q) = ap (λ (c : Call). c.callee) (sym at) ∙ one.called in
      let inside : site < length proc.sites = subst (λ n. site < n) are.one_each within in
      let place : i < length (callees_of (get_or proc.sites site no_site)) = subst (λ n. i < n) here.one_each less in
      leads proc.sites (get_or proc.sites site no_site) q (Contains-get_or proc.sites site no_site inside)
      (subst (Contains (callees_of (get_or proc.sites site no_site))) (sym is ∙ e) (Contains-get_or (callees_of (get_or proc.sites site no_site)) i (callee.Proc q) place))

-- Lines of signatures.

signed_of : (P : Scheme → Type 0) (signatures : List Signature) (name : List ℕ) (s : Scheme) → All (λ (signature : Signature). P signature.1.scheme) signatures
    → signature_of signatures name ≡ Some s → P s
signed_of P [] name s h e = cc
signed_of P ((other, t) ∷ signatures) name s h e =
    by (pointwise nat_eq other name) e (signed_of P signatures name s (All-tail (λ (signature : Signature). P signature.1.scheme) (other, t) signatures h))
  where
    by : (b : Bool) → (if b then Some t.scheme else signature_of signatures name) ≡ Some s → (signature_of signatures name ≡ Some s → P s) → P s
    by true f rest = (let is : t.scheme ≡ s = cc in subst P is (All-head (λ (signature : Signature). P signature.1.scheme) (other, t) signatures h))
    by false f rest = rest f

signed_fit : (count : ℕ) (signatures : List Signature) (name : List ℕ) (s : Scheme) → AreSignatures count signatures → signature_of signatures name ≡ Some s → AreSchemeLines s.base s.lines
signed_fit count signatures name s are e =
    signed_of (λ (t : Scheme). AreSchemeLines t.base t.lines) signatures name s
    (λ i x within. let one = are.each i x within in
    subst (λ own. AreSchemeLines own ((get_or signatures i x).1.scheme).lines) (sym one.own)
    (λ k d less. (and_parts (is_scheme_line 0 (get_or ((get_or signatures i x).1.scheme).lines k d)) (names_no_global (get_or ((get_or signatures i x).1.scheme).lines k d)) (one.good k d less).1).0)) e

module _ (object : Object) (roles : Roles) (procs : List Proc) (signatures : List Signature) (schemes : List (Option Scheme)) (groups : List (List ℕ))
    (templates : ℕ → Template) (count : ℕ) (are_groups : AreGroupsOf procs groups) (are_signatures : AreSignatures count signatures)
    (one_each : length schemes ≡ length procs) (are : AreTemplatesOf object roles procs signatures schemes groups templates) where
  abbrev program_of : List Reading → Program
  program_of readings = record { object = object; procs = procs; readings = readings; signatures = signatures }

  at : (k p : ℕ) → k < length groups → Contains (get_or groups k []) p → (readings : List Reading) × (known : List Knowledge) × AreKnown (program_of readings) known
      × IsTemplateOf (program_of readings) known roles schemes (get_or groups k []) p (templates p)
  at k p within c = let e = are.each (get_or groups k []) (Contains-get_or groups k [] within) in (e.0, e.1, e.2, e.3 p c)

  callees_first : (k p site i q : ℕ) → k < length groups → Contains (get_or groups k []) p → (readings : List Reading) (known : List Knowledge) → AreKnown (program_of readings) known →
      (is : IsTemplateOf (program_of readings) known roles schemes (get_or groups k []) p (templates p)) → (templates p).called site i ≡ Outside q → IsAmongFirst groups k q
  callees_first k p site i q within c readings known are_known is e =
      let knowledge = (is.is_context).knowledge in
      let s = called_in-source (program_of readings) schemes (get_or groups k []) (slice_index_or knowledge.calls site []) i q (sym (is.called_are site i) ∙ e) in
      let p_known : p < length known = get-within known p knowledge (is.is_context).is_known in
      let p_within : p < length procs = subst (λ n. p < n) are_known.one_each p_known in
      let calls : AreCallsIn (program_of readings) p (get_or procs p no_proc) knowledge.calls =
      subst (λ (k : Knowledge). AreCallsIn (program_of readings) p (get_or procs p no_proc) k.calls) (get_or_from_slice_get known p knowledge knowledge (is.is_context).is_known)
      (are_known.each p no_proc knowledge p_known).calls in
      let lead = callee-there (program_of readings) q p (get_or procs p no_proc) knowledge.calls calls site s.0 s.1 s.2.0 in
      let q_within : q < length procs = subst (λ n. q < n) one_each (some-within schemes q s.2.2 s.2.3) in
      by s.2.1 (are_groups.may k within p q c (q_within, (get_or procs p no_proc, slice_get-get_or procs p no_proc p_within, lead)))
    where
      by : is_member (get_or groups k []) q ≡ false → Contains (group_at groups k) q ⊎ IsAmongFirst groups k q → IsAmongFirst groups k q
      by f (inl d) = absurd (true≢false (sym (member-has (get_or groups k []) q d) ∙ f))
      by f (inr d) = d

  given_fits : (k p site i own : ℕ) (lines : List Line) → (readings : List Reading) (known : List Knowledge) →
      (is : IsTemplateOf (program_of readings) known roles schemes (get_or groups k []) p (templates p)) → (templates p).called site i ≡ Given own lines → AreSchemeLines own lines
  given_fits k p site i own lines readings known is e =
      let s = given_in-source (program_of readings) schemes (get_or groups k []) (slice_index_or ((is.is_context).knowledge).calls site []) i own lines (sym (is.called_are site i) ∙ e) in
      subst (λ n. AreSchemeLines n lines) s.3 (subst (AreSchemeLines (s.1).base) s.4 (signed_fit count signatures (symbol_of object s.0).name s.1 are_signatures s.2))

  pub are_templates : AreTemplates groups templates
  are_templates = record {
    earlier = λ k p site i q within c e. let a = at k p within c in callees_first k p site i q within c a.0 a.1 a.2 a.3 e;
    outside = λ k p site i q within c e d. let a = at k p within c in outside_member (program_of a.0) schemes (get_or groups k []) a.1 roles p (templates p) c a.3 site i q e d;
    given = λ k p site i own lines within c e. let a = at k p within c in given_fits k p site i own lines a.0 a.1 a.3 e;
    forms = λ k p x within c d. let a = at k p within c in form (program_of a.0) schemes (get_or groups k []) a.1 roles p (templates p) c a.3 x d;
    members = λ k p q x within c d h. let a = at k p within c in member_root (program_of a.0) schemes (get_or groups k []) a.1 roles p (templates p) c a.3 q x d h;
    no_inner = λ k p procedure site i n x within c d h. let a = at k p within c in inner_root (program_of a.0) schemes (get_or groups k []) a.1 roles p (templates p) c a.3 procedure site i n x d h;
  }

pub templates_law : TemplatesLaw
templates_law object roles procs signatures schemes groups templates count are_groups are_signatures one_each are =
    are_templates object roles procs signatures schemes groups templates count are_groups are_signatures one_each are
