-- Unfolded lists are made group after group.
use Rattle.std.proofs.Common.{◌≡◌, ℕ, zero, suc, ◌<◌, Bool, true, false, nat_eq, if◌then◌else◌, List, [], ◌∷◌, ◌++◌, flat_map}
use Rattle.std.proofs.Common.{get_or, length, Contains, refl, sym, ap, subst, ◌∙◌, eq-eqb, arith}
use Rattle.std.specs.List.{list_any}
use Rattle.std.proofs.lemmas.Bool.{eqb-true}
use Rattle.std.proofs.lemmas.List.{get_or_default}
use Rattle.std.proofs.lemmas.List.Elements.{Contains-get_or}
use Rattle.rt_base.proofs.Lists.{list_any-at, list_any-from, found_to}
use Rattle.rt_lines.specs.declared.line.Line.{Line}
use Rattle.rt_scheme.specs.SplitExistentials.{split_for}
use Rattle.rt_rows.specs.declared.row.Row.{Row}
use Rattle.rt_rows.specs.Terms.{group_lines}
use Rattle.rt_unfold.proofs.Mapping.{map-same}
use Rattle.rt_unfold.specs.There.{AreApart, OneLaw, ThereLaw}
use Rattle.rt_unfold.specs.Unfolded.{Item, Plain, Instance, Called, Outside, Given, Nothing, Template, AreTemplates, AreUnfolded}
use Rattle.rt_unfold.specs.Unfolded.{called_rows, filled, lines_with, rows_by, template_rows}

-- The same lines of procedures outside give the same lists.

filled-same : (f g : ℕ → ℕ → List Row) (items : List Item) → ((site i : ℕ) → f site i ≡ g site i) → filled f items ≡ filled g items
filled-same f g [] h = refl
filled-same f g (Plain x ∷ items) h = ap (λ rows. x ∷ rows) (filled-same f g items h)
filled-same f g (Instance site i ∷ items) h = λ t. h site i t ++ filled-same f g items h t

called-same : (first second : ℕ → List Line) (p site i : ℕ) (called : Called) → ((q : ℕ) → called ≡ Outside q → first q ≡ second q) →
    called_rows first p site i called ≡ called_rows second p site i called
called-same first second p site i (Outside q) h = ap (rows_by p site i q) (h q refl)
called-same first second p site i (Given own lines) h = refl
called-same first second p site i Nothing h = refl

lines-same : (first second : ℕ → List Line) (templates : ℕ → Template) (group : List ℕ) →
    ((p site i q : ℕ) → Contains group p → (templates p).called site i ≡ Outside q → first q ≡ second q)
    → lines_with first templates group ≡ lines_with second templates group
lines-same first second templates group h =
    ap (λ rows. flat_map (λ (lines : List Line). lines) (group_lines rows))
    (map-same (template_rows first templates) (template_rows second templates) group
    (λ p c. filled-same (λ site i. called_rows first p site i ((templates p).called site i))
    (λ site i. called_rows second p site i ((templates p).called site i)) (templates p).items
    (λ site i. called-same first second p site i ((templates p).called site i) (λ q e. h p site i q c e))))

-- The group of a procedure.

abbrev group_of : List (List ℕ) → ℕ → List ℕ
group_of [] p = []
group_of (group ∷ groups) p = if list_any (nat_eq p) group then group else group_of groups p

group_of-is : (groups : List (List ℕ)) (k p : ℕ) → k < length groups → Contains (get_or groups k []) p
    → ((j : ℕ) → j < k → Contains (get_or groups j []) p → ⊥) → group_of groups p ≡ get_or groups k []
group_of-is [] k p within c first = absurd (omega arith)
group_of-is (group ∷ groups) zero p within c first = ap (λ t. if t then group else group_of groups p) (found_to group p c)
group_of-is (group ∷ groups) (suc k) p within c first =
    by (list_any (nat_eq p) group) refl (group_of-is groups k p (omega arith) c (λ j less d. first (suc j) (omega arith) d))
  where
    by : (t : Bool) → list_any (nat_eq p) group ≡ t → group_of groups p ≡ get_or groups k []
        → (if t then group else group_of groups p) ≡ get_or groups k []
    by true e rest =
        let s = list_any-at (nat_eq p) group e in
        absurd (first 0 (omega arith) (subst (Contains group) (sym (eqb-true p s.0 s.2)) s.1))
    by false e rest = rest

module _ (groups : List (List ℕ)) (templates : ℕ → Template) (are_templates : AreTemplates groups templates) where
  -- One at most.

  one : (first second : ℕ → List Line) → AreUnfolded groups templates first → AreUnfolded groups templates second →
      (bound k p : ℕ) → k < bound → k < length groups → Contains (get_or groups k []) p → first p ≡ second p
  one first second is_first is_second zero k p below within c = absurd (omega arith)
  one first second is_first is_second (suc bound) k p below within c =
      is_first.each (get_or groups k []) p (Contains-get_or groups k [] within) c
      ∙ (lines-same (λ q. split_for q (first q)) (λ q. split_for q (second q)) templates (get_or groups k [])
      (λ o site i q d e. let s = are_templates.earlier k o site i q within d e in
      let less : s.0 < k = s.1 in
      ap (split_for q) (one first second is_first is_second bound s.0 q (omega arith) (omega arith) s.2))
      ∙ sym (is_second.each (get_or groups k []) p (Contains-get_or groups k [] within) c))

  -- One at least.

  module _ (are_apart : AreApart groups) where
    group-is : (k p : ℕ) → k < length groups → Contains (get_or groups k []) p → group_of groups p ≡ get_or groups k []
    group-is k p within c = group_of-is groups k p within c (λ j less d. let same : j ≡ k = are_apart j k p
        (omega arith) within d c in absurd (omega arith))

    -- unfolded so often
    abbrev unfolded_to : ℕ → ℕ → List Line
    unfolded_to zero p = []
    unfolded_to (suc depth) p = lines_with (λ q. split_for q (unfolded_to depth q)) templates (group_of groups p)

    -- often enough
    stays : (a b k p : ℕ) → k < a → k < b → k < length groups → Contains (get_or groups k []) p → unfolded_to a p ≡ unfolded_to b p
    stays zero b k p ka kb within c = absurd (omega arith)
    stays (suc a) zero k p ka kb within c = absurd (omega arith)
    stays (suc a) (suc b) k p ka kb within c =
        let is_group = group-is k p within c in
        ap (lines_with (λ q. split_for q (unfolded_to a q)) templates) is_group
        ∙ (lines-same (λ q. split_for q (unfolded_to a q)) (λ q. split_for q (unfolded_to b q)) templates (get_or groups k [])
        (λ o site i q d e. let s = are_templates.earlier k o site i q within d e in
        let less : s.0 < k = s.1 in
        ap (split_for q) (stays a b s.0 q (omega arith) (omega arith) (omega arith) s.2))
        ∙ ap (lines_with (λ q. split_for q (unfolded_to b q)) templates) (sym is_group))

    at_place : (k p : ℕ) → k < length groups → Contains (get_or groups k []) p →
        unfolded_to (length groups) p ≡ lines_with (λ q. split_for q (unfolded_to (length groups) q)) templates (get_or groups k [])
    at_place k p within c =
        stays (length groups) (suc (length groups)) k p within (omega arith) within c
        ∙ ap (lines_with (λ q. split_for q (unfolded_to (length groups) q)) templates) (group-is k p within c)

same_entry : (groups : List (List ℕ)) (group : List ℕ) (k : ℕ) → k < length groups → get_or groups k group ≡ group
    → get_or groups k [] ≡ group
same_entry groups group k lt f = get_or_default groups k [] group lt ∙ f

pub there_law : ThereLaw
there_law groups templates are_templates are_apart = (
  unfolded_to groups templates are_templates are_apart
      (length groups),
  record { each = each },
)
  where
    each : (group : List ℕ) (p : ℕ) → Contains groups group → Contains group p →
        unfolded_to groups templates are_templates are_apart (length groups) p
        ≡ lines_with (λ q. split_for q (unfolded_to groups templates are_templates are_apart (length groups) q)) templates group
    each group p (k, within, e) d =
        let same = same_entry groups group k within e in
        at_place groups templates are_templates are_apart k p within (subst (λ members. Contains members p) (sym same) d)
        ∙ ap (lines_with (λ q. split_for q (unfolded_to groups templates are_templates are_apart (length groups) q)) templates) same

pub one_law : OneLaw
one_law groups templates first second are_templates is_first is_second group p (k, within, e) d =
    one groups templates are_templates first second is_first is_second (suc k) k p (omega arith) within
    (subst (λ members. Contains members p) (sym (same_entry groups group k within e)) d)
