-- Each scheme is alike to the unfolded lists, group after group.
use Rattle.std.proofs.Common.{◌≡◌, ℕ, zero, suc, ◌<◌, ◌⊎◌, inl, inr, Bool, true, false, not, nat_eq, IsTrue, List, [], map, flat_map}
use Rattle.std.proofs.Common.{get_or, length, Contains, refl, sym, subst, ◌∙◌, arith}
use Rattle.std.proofs.lemmas.Bool.{eqb-true}
use Rattle.std.proofs.lemmas.List.Elements.{Contains-get_or}
use Rattle.std.proofs.lemmas.List.{get_or_default}
use Rattle.rt_base.proofs.Lists.{All-from_contains, Contains-map_source, Contains-flat_map_source, list_all-from}
use Rattle.rt_lines.specs.declared.label.Label.{Label}
use Rattle.rt_lines.specs.declared.variable.Base.TheVariants as base
use Rattle.rt_lines.specs.declared.variable.Dtv.{Dtv}
use Rattle.rt_lines.specs.declared.line.Line.{Line}
use Rattle.rt_lines.specs.Numbering.{deduplicated}
use Rattle.rt_lines.specs.Orders.{Below}
use Rattle.rt_lines.specs.Sides.{sides}
use Rattle.rt_lines.proofs.Deduplicating.{deduplicated-source}
use Rattle.rt_rules.specs.Rules.{HasSide}
use Rattle.rt_rules.specs.Alike.{Alike, is_inside_for}
use Rattle.rt_rules.proofs.Covering.{Alike-sym, Alike-trans}
use Rattle.rt_rules.proofs.LineSides.{HasSide-in_sides}
use Rattle.rt_scheme.specs.Schemes.{AreSchemeLines}
use Rattle.rt_scheme.specs.Splitting.{AreInterfaceLines, is_interface_line, is_interface_side, is_interface_variable}
use Rattle.rt_lines.specs.FirstFree.{first_free}
use Rattle.rt_scheme.specs.SplitExistentials.{existential_for, other_interfaces, split_for}
use Rattle.rt_rules.proofs.FirstFree.{first_free-above}
use Rattle.rt_scheme.proofs.SplittingKeeps.{split-alike, split-scheme}
use Rattle.rt_rows.specs.declared.name.Name.{Name}
use Rattle.rt_rows.specs.declared.row.Root.{Root}
use Rattle.rt_rows.specs.declared.row.Root.TheVariants as root
use Rattle.rt_rows.specs.declared.row.Term.{Term}
use Rattle.rt_rows.specs.declared.row.Row.{Row}
use Rattle.rt_rows.specs.declared.row.Row.TheVariants as row
use Rattle.rt_rows.specs.Terms.{HasRoot, IsGroupRow, IsGroupTerm, group_lines, is_group_side, line_of, lines_by, names_of, root_base}
use Rattle.rt_rows.specs.Terms.{variable_of}
use Rattle.rt_unfold.specs.Unfolded.{Plain, Instance, Outside, Given, Template, AreTemplates, AreSolvedBy, AreUnfolded, UnfoldingLaw}
use Rattle.rt_unfold.specs.Unfolded.{called_rows, lines_with, template_rows}
use Rattle.rt_unfold.proofs.Filling.{IsInstanceRoot, called-root, filled-source, group_alike}
use Rattle.rt_unfold.proofs.OneNumbering.{of_lists}

-- The form of a group's lines.

group_side : (names : List Name) (r : Root) (word : List Label) → IsTrue (is_group_side r word)
    → is_interface_side (root_base names r) word ≡ true
group_side names (root.Proc p) word h = h
group_side names (root.Global g) word h = h
group_side names (root.Outer n) word h = h
group_side names (root.Named x) word h = h

group_term : (names : List Name) (y : Term) (x : Dtv) → IsGroupTerm y → variable_of names y ≡ x → is_interface_variable x ≡ true
group_term names y x h e = subst (λ v. is_interface_variable v ≡ true) e (group_side names y.root y.word h)

group_row : (names : List Name) (r : Row) (x : Dtv) → IsGroupRow r → HasSide (line_of names r) x → is_interface_variable x ≡ true
group_row names (row.Var y) x h e = group_term names y x h e
group_row names (row.Same y z) x h (inl e) = group_term names y x h.0 e
group_row names (row.Same y z) x h (inr e) = group_term names z x h.1 e
group_row names (row.Sub y z) x h (inl e) = group_term names y x h.0 e
group_row names (row.Sub y z) x h (inr e) = group_term names z x h.1 e
group_row names (row.Low k y) x h e = group_term names y x h e
group_row names (row.Up y k) x h e = group_term names y x h e

instance_term : (p site i : ℕ) (x : Term) → IsInstanceRoot p site i x.root → IsGroupTerm x
instance_term p site i x h = by x.root x.word h
  where
    by : (r : Root) (w : List Label) → IsInstanceRoot p site i r → IsTrue (is_group_side r w)
    by (root.Proc q) w g = absurd g
    by (root.Global q) w g = refl
    by (root.Named y) w g = refl
    by (root.Outer n) w g = absurd g

instance_row : (p site i : ℕ) (r : Row) → ((s : Root) → HasRoot r s → IsInstanceRoot p site i s) → IsGroupRow r
instance_row p site i (row.Var x) h = instance_term p site i x (h x.root refl)
instance_row p site i (row.Same x y) h = (instance_term p site i x (h x.root (inl refl)), instance_term p site i y (h y.root (inr refl)))
instance_row p site i (row.Sub x y) h = (instance_term p site i x (h x.root (inl refl)), instance_term p site i y (h y.root (inr refl)))
instance_row p site i (row.Low k x) h = instance_term p site i x (h x.root refl)
instance_row p site i (row.Up x k) h = instance_term p site i x (h x.root refl)

-- lines of rows of a group's form are those of an interface
lists_fit : (lists : List (List Row)) → ((rows : List Row) (r : Row) → Contains lists rows → Contains rows r → IsGroupRow r)
    → AreInterfaceLines (flat_map (λ (lines : List Line). lines) (group_lines lists))
lists_fit lists h = All-from_contains (λ line. IsTrue (is_interface_line line))
    (flat_map (λ (lines : List Line). lines) (group_lines lists)) (λ l c. list_all-from is_interface_variable (sides l) (λ x d. at l c x d))
  where
    names : List Name
    names = names_of (of_lists lists)

    at : (l : Line) → Contains (flat_map (λ (lines : List Line). lines) (group_lines lists)) l → (x : Dtv) → Contains (sides l) x
        → is_interface_variable x ≡ true
    at l c x d =
        let s = Contains-flat_map_source (λ (lines : List Line). lines) (group_lines lists) l c in
        let t = Contains-map_source (λ rows. deduplicated (lines_by (names_of (of_lists lists)) rows)) lists s.0 s.1 in
        let u = deduplicated-source (lines_by (names_of (of_lists lists)) t.0) l (subst (λ lines. Contains lines l) (sym t.2) s.2) in
        let v = Contains-map_source (line_of (names_of (of_lists lists))) t.0 l u in
        group_row (names_of (of_lists lists)) v.0 x (h t.0 v.0 t.1 v.1) (subst (λ m. HasSide m x) (sym v.2) (HasSide-in_sides l x d))

-- the lines of a group are those of an interface, where those of procedures outside are of schemes
pub lines_with-fit : (lines_of : ℕ → List Line) (templates : ℕ → Template) (group : List ℕ) →
    ((p site i q : ℕ) → Contains group p → (templates p).called site i ≡ Outside q → AreSchemeLines q (lines_of q)) →
    ((p site i own : ℕ) (lines : List Line) → Contains group p → (templates p).called site i ≡ Given own lines → AreSchemeLines own lines) →
    ((p : ℕ) (x : Row) → Contains group p → Contains (templates p).items (Plain x) → IsGroupRow x) →
    AreInterfaceLines (lines_with lines_of templates group)
lines_with-fit lines_of templates group outer given forms = lists_fit (map (λ p. template_rows lines_of templates p) group) fits
  where
    of_items : (p : ℕ) (r : Row) → Contains group p →
        Contains (templates p).items (Plain r)
        ⊎ ((site : ℕ) × (i : ℕ) × Contains (templates p).items (Instance site i)
        × Contains (called_rows lines_of p site i ((templates p).called site i)) r) → IsGroupRow r
    of_items p r c (inl d) = forms p r c d
    of_items p r c (inr (site, i, d, e)) =
        instance_row p site i r (λ s h. called-root lines_of p site i ((templates p).called site i) r s (λ q f. outer p site i q c f)
        (λ own lines f. given p site i own lines c f) e h)

    fits : (rows : List Row) (r : Row) → Contains (map (λ p. template_rows lines_of templates p) group) rows → Contains rows r
        → IsGroupRow r
    fits rows r c d =
        let s = Contains-map_source (λ p. template_rows lines_of templates p) group rows c in
        of_items s.0 r s.1
        (filled-source (λ site i. called_rows lines_of s.0 site i ((templates s.0).called site i)) (templates s.0).items r
        (subst (λ xs. Contains xs r) (sym s.2) d))

pub split_for-fit : (q : ℕ) (lines : List Line) → AreInterfaceLines lines → AreSchemeLines q (split_for q lines)
split_for-fit q lines fit = split-scheme q (existential_for (first_free lines) (other_interfaces q lines)) lines fit

pub split_for-alike : (order : Below) (q : ℕ) (lines : List Line) → AreInterfaceLines lines
    → Alike order (is_inside_for q) lines (split_for q lines)
split_for-alike order q lines fit = split-alike q (first_free lines) lines fit (first_free-above lines) order

module _ (order : Below) (groups : List (List ℕ)) (templates : ℕ → Template) (schemes unfolded : ℕ → List Line)
    (are_templates : AreTemplates groups templates) (solved : AreSolvedBy order groups templates schemes)
    (are_unfolded : AreUnfolded groups templates unfolded) where
  abbrev pub Claim : ℕ → Type 0
  Claim p = AreInterfaceLines (unfolded p) × AreSchemeLines p (schemes p) × Alike order (is_inside_for p) (unfolded p) (schemes p)

  abbrev split_unfolded : ℕ → List Line
  split_unfolded q = split_for q (unfolded q)

  module _ (k : ℕ) (within : k < length groups)
      (earlier : (p site i q : ℕ) → Contains (get_or groups k []) p → (templates p).called site i ≡ Outside q → Claim q) where
    abbrev group : List ℕ
    group = get_or groups k []

    stands : Contains groups group
    stands = Contains-get_or groups k [] within

    fit_split : (p site i q : ℕ) → Contains group p → (templates p).called site i ≡ Outside q → AreSchemeLines q (split_unfolded q)
    fit_split p site i q c e = split_for-fit q (unfolded q) (earlier p site i q c e).0

    fit_scheme : (p site i q : ℕ) → Contains group p → (templates p).called site i ≡ Outside q → AreSchemeLines q (schemes q)
    fit_scheme p site i q c e = (earlier p site i q c e).1

    alike_split : (p site i q : ℕ) → Contains group p → (templates p).called site i ≡ Outside q
        → Alike order (is_inside_for q) (split_unfolded q) (schemes q)
    alike_split p site i q c e =
        Alike-trans order (is_inside_for q) (split_unfolded q) (unfolded q) (schemes q)
        (Alike-sym order (is_inside_for q) (unfolded q) (split_unfolded q)
        (split_for-alike order q (unfolded q) (earlier p site i q c e).0)) (earlier p site i q c e).2

    outer_inside : (own : ℕ) → Contains group own → (p site i q : ℕ) → Contains group p → (templates p).called site i ≡ Outside q
        → is_inside_for own (base.Proc q) ≡ true
    outer_inside own d p site i q c e = by (nat_eq q own) refl
      where
        by : (t : Bool) → nat_eq q own ≡ t → not t ≡ true
        by true f = absurd (are_templates.outside k p site i q within c e
            (subst (Contains (get_or groups k [])) (sym (eqb-true q own f)) d))
        by false f = refl

    given_fit : (p site i own : ℕ) (lines : List Line) → Contains group p → (templates p).called site i ≡ Given own lines
        → AreSchemeLines own lines
    given_fit p site i own lines c e = are_templates.given k p site i own lines within c e

    pub claim_at : (p : ℕ) → Contains group p → Claim p
    claim_at p c = (
      subst AreInterfaceLines (sym (are_unfolded.each group p stands c))
          (lines_with-fit split_unfolded templates group fit_split given_fit (λ o x d e. are_templates.forms k o x within d e)),
      solved.are_schemes group p stands c,
      subst (λ lines. Alike order (is_inside_for p) lines (schemes p)) (sym (are_unfolded.each group p stands c))
          (Alike-trans order (is_inside_for p) (lines_with split_unfolded templates group) (lines_with schemes templates group) (schemes p)
          (group_alike templates group order (is_inside_for p) split_unfolded schemes (λ n. refl) (outer_inside p c)
          (λ o site i q d e. are_templates.outside k o site i q within d e) fit_split fit_scheme alike_split given_fit
          (λ o q x d e h. are_templates.members k o q x within d e h)
          (λ o procedure site i n x d e h. are_templates.no_inner k o procedure site i n x within d e h))
          (solved.alike group p stands c)),
    )

  pub claim : (bound k p : ℕ) → k < bound → k < length groups → Contains (get_or groups k []) p → Claim p
  claim zero k p below within c = absurd (omega arith)
  claim (suc bound) k p below within c =
      claim_at k within
      (λ o site i q d e. let s = are_templates.earlier k o site i q within d e in
      let less : s.0 < k = s.1 in
      claim bound s.0 q (omega arith) (omega arith) s.2)
      p c

  pub claim_in : (group : List ℕ) (p : ℕ) → Contains groups group → Contains group p → Claim p
  claim_in group p (k, within, e) c =
      claim (suc k) k p (omega arith) within (subst (λ members. Contains members p) (sym (same_entry k within e)) c)
    where
      same_entry : (k : ℕ) → k < length groups → get_or groups k group ≡ group → get_or groups k [] ≡ group
      same_entry k lt f = get_or_default groups k [] group lt ∙ f

pub unfolding_law : UnfoldingLaw
unfolding_law order groups templates schemes unfolded are_templates solved are_unfolded group p c d =
    (claim_in order groups templates schemes unfolded are_templates solved are_unfolded group p c d).2
