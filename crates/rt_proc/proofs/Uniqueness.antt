-- An object has one list of procedures, where these symbols end paths.
use Rattle.std.proofs.Common.{◌≡◌, ◌↔◌, inl, inr, ℕ, ◌<◌, List, Contains, Ok, Err, length, get_or, sym, ap, subst, ◌∙◌, arith}
use Rattle.std.proofs.lemmas.List.{get_or-map, length-map, same_lists}
use Rattle.rt_elf.specs.Parts.{Parts as Object}
use Rattle.rt_link.specs.declared.place.Place.{Place}
use Rattle.rt_control.specs.declared.form.Form.{Form}
use Rattle.rt_control.specs.Laws.{IsLawOfOneForm}
use Rattle.rt_proc.specs.declared.proc.Proc.{Proc}
use Rattle.rt_proc.specs.declared.site.Site.{Site}
use Rattle.rt_proc.specs.Bodies.{IsInBody}
use Rattle.rt_proc.specs.Ends.{Look, IsLookAt, ended_look}
use Rattle.rt_proc.specs.Entries.{IsEntry}
use Rattle.rt_proc.specs.Laws.{IsLawOfOneList}
use Rattle.rt_proc.specs.Order.{IsBelow}
use Rattle.rt_proc.specs.Procs.{AreProcs, IsProc, IsSite, entries_of, name_at, places_of}
use Rattle.rt_proc.specs.Sites.{site_of}
use Rattle.rt_proc.proofs.Ordered.{one_ordered}
use Rattle.rt_proc.proofs.Faulty.{IsBelow-asymmetric}

abbrev form_of : Form → Look → Form
form_of form (Ok found) = found
form_of form (Err fault) = form

module _ (object : Object) (ends : List ℕ) (one_form : IsLawOfOneForm) where
  one_look : (place : Place) (first second : Look) → IsLookAt object ends place first → IsLookAt object ends place second → first ≡ second
  one_look place first second a b =
      a.is_ended ∙ ap (ended_look ends) (one_form object place a.found b.found a.is_at b.is_at) ∙ sym b.is_ended

  -- a site
  module _ (entries : List Place) (own : Place) (s t : Site) (a : IsSite object ends entries own s) (b : IsSite object ends entries own t) where
    one_site : s.place ≡ t.place → s ≡ t
    one_site same =
        let there : IsLookAt object ends s.place (Ok b.form) = subst (λ p. IsLookAt object ends p (Ok b.form)) (sym same) b.is_at in
        let form : a.form ≡ b.form = ap (form_of a.form) (one_look s.place (Ok a.form) (Ok b.form) a.is_at there) in
        a.is_site ∙ (λ i. site_of entries own (same i) (form i)) ∙ sym b.is_site

  -- a procedure
  module _ (entries : List Place) (p q : Proc) (a : IsProc object ends entries p) (there : IsProc object ends entries q) (entry : p.entry ≡ q.entry) where
    names_same : p.name ≡ q.name
    names_same = a.name ∙ ap (name_at object) entry ∙ sym there.name

    places_same : places_of p.sites ≡ places_of q.sites
    places_same =
        one_ordered IsBelow IsBelow-asymmetric (IsInBody object ends p.entry) (places_of p.sites) (places_of q.sites) a.ascending a.body there.ascending
        (subst (λ own. (place : Place) → Contains (places_of q.sites) place ↔ IsInBody object ends own place) (sym entry) there.body)

    count_same : length p.sites ≡ length q.sites
    count_same =
        sym (length-map p.sites (λ (site : Site). site.place)) ∙ ap length places_same ∙ length-map q.sites (λ (site : Site). site.place)

    place_same : (k : ℕ) (d : Site) → k < length p.sites → (get_or p.sites k d).place ≡ (get_or q.sites k d).place
    place_same k d less =
        let less' : k < length q.sites = omega (arith, less, count_same) in
        sym (get_or-map (λ (site : Site). site.place) p.sites k d d.place less) ∙ ap (λ places. get_or places k d.place) places_same
        ∙ get_or-map (λ (site : Site). site.place) q.sites k d d.place less'

    sites_same : p.sites ≡ q.sites
    sites_same = same_lists p.sites q.sites count_same (λ k d less.
        let less' : k < length q.sites = omega (arith, less, count_same) in
        one_site entries p.entry (get_or p.sites k d) (get_or q.sites k d) (a.sites k d less)
        (subst (λ own. IsSite object ends entries own (get_or q.sites k d)) (sym entry) (there.sites k d less')) (place_same k d less))

    one_proc : p ≡ q
    one_proc = λ i. record { entry = entry i; name = names_same i; sites = sites_same i }

  module _ (first second : List Proc) (a : AreProcs object ends first) (b : AreProcs object ends second) where
    entries_same : entries_of first ≡ entries_of second
    entries_same =
        one_ordered IsBelow IsBelow-asymmetric (IsEntry object ends) (entries_of first) (entries_of second) a.ascending a.entries b.ascending b.entries

    counts_same : length first ≡ length second
    counts_same =
        sym (length-map first (λ (proc : Proc). proc.entry)) ∙ ap length entries_same ∙ length-map second (λ (proc : Proc). proc.entry)

    entry_same : (k : ℕ) (d : Proc) → k < length first → (get_or first k d).entry ≡ (get_or second k d).entry
    entry_same k d less =
        let less' : k < length second = omega (arith, less, counts_same) in
        sym (get_or-map (λ (proc : Proc). proc.entry) first k d d.entry less) ∙ ap (λ entries. get_or entries k d.entry) entries_same
        ∙ get_or-map (λ (proc : Proc). proc.entry) second k d d.entry less'

    one_list : first ≡ second
    one_list = same_lists first second counts_same (λ k d less.
        let less' : k < length second = omega (arith, less, counts_same) in
        one_proc (entries_of first) (get_or first k d) (get_or second k d) (a.each k d less)
        (subst (λ entries. IsProc object ends entries (get_or second k d)) (sym entries_same) (b.each k d less')) (entry_same k d less))

pub one_list_of : IsLawOfOneForm → IsLawOfOneList
one_list_of one_form object ends first second a b = one_list object ends one_form first second a b
