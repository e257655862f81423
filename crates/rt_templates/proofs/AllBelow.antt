-- The schemes that are solved say what all of the code below them says.
use Rattle.std.proofs.Common.{◌≡◌, ℕ, suc, ◌<◌, ◌⊎◌, inl, inr, Bool, true, false, if◌then◌else◌, Option, Some, None, List, [], ◌∷◌, map}
use Rattle.std.proofs.Common.{flat_map, get_or, length, refl, sym, ap, subst, ◌∙◌, arith}
use Rattle.std.specs.Prelude.{Contains, slice_index_or}
use Rattle.std.proofs.lemmas.List.{get_or_default}
use Rattle.std.proofs.lemmas.List.Elements.{Contains-get_or}
use Rattle.std.specs.List.Sorted.{IsStrictlyIncreasing}
use Rattle.rt_base.proofs.Lists.{Contains-here, Contains-there, Contains-none, Contains-cons_cases}
use Rattle.rt_lines.specs.declared.line.Line.{Line}
use Rattle.rt_lines.specs.Orders.{Below}
use Rattle.rt_rules.specs.Alike.{Alike, is_inside_for}
use Rattle.rt_lattice.specs.declared.roles.Roles.{Roles}
use Rattle.rt_elf.specs.Parts.{Parts as Object}
use Rattle.rt_components.specs.Groups.{group_at}
use Rattle.rt_components.specs.Groups.Reaches.{there}
use Rattle.rt_proc.specs.declared.proc.Proc.{Proc}
use Rattle.rt_calls.specs.Calls.{AreGroupsOf}
use Rattle.rt_scheme.specs.declared.scheme.Scheme.{Scheme}
use Rattle.rt_scheme.specs.Schemes.{AreSchemeLines}
use Rattle.rt_sigs.specs.Signatures.{AreSignatures, Signature}
use Rattle.rt_rows.specs.Terms.{group_lines}
use Rattle.rt_table.specs.Lists.{AreLinesOf, is_member}
use Rattle.rt_solve.specs.Solved.{AreSolved, IsGroupSolved}
use Rattle.rt_unfold.specs.There.{AreApart, ThereLaw}
use Rattle.rt_unfold.specs.Labels.{UnfoldedLabelsLaw}
use Rattle.rt_unfold.specs.Unfolded.{Template, AreTemplates, AreSolvedBy, UnfoldingLaw, lines_with, template_rows}
use Rattle.rt_templates.specs.Laws.{AreMadeOf, SayAllBelow, SolvedLaw}
use Rattle.rt_templates.specs.Tables.{AreTemplatesOf, HaveOwnBases, IsTemplateOf, TemplatesLaw, lines_or_none, scheme_lines}
use Rattle.rt_templates.proofs.Choosing.{group-is, group-lines, group_template, no_template, program_with}
use Rattle.rt_templates.proofs.Templates.{member-contains, member-has, some-within}

module _ (object : Object) (roles : Roles) (order : Below) (procs : List Proc) (signatures : List Signature)
    (schemes : List (Option Scheme)) where
  abbrev IsSolved : List ℕ → Type 0
  IsSolved group = IsGroupSolved object roles order procs signatures schemes group

  abbrev AreAllSolved : List (List ℕ) → Type 0
  AreAllSolved [] = Unit {0}
  AreAllSolved (group ∷ groups) = IsSolved group × AreAllSolved groups

  all-from : (groups : List (List ℕ)) → ((group : List ℕ) → Contains groups group → IsSolved group) → AreAllSolved groups
  all-from [] h = tt
  all-from (group ∷ groups) h =
      (h group (Contains-here group groups), all-from groups (λ other c. h other (Contains-there group groups other c)))

  -- the template of a member of a group that is solved
  abbrev template_in : (group : List ℕ) → IsSolved group → ℕ → Template
  template_in group is p = group_template object roles procs signatures schemes group is.bodies is.are_lines p

  -- a procedure's template is that of the first group that has it as a member
  abbrev chosen : (groups : List (List ℕ)) → AreAllSolved groups → ℕ → Template
  chosen [] are p = no_template
  chosen (group ∷ groups) are p = if is_member group p then template_in group are.0 p else chosen groups are.1 p

  -- a group as it is solved, whose members' templates are the chosen ones
  abbrev HasChosen : (groups : List (List ℕ)) → AreAllSolved groups → List ℕ → Type 0
  HasChosen groups are group = (is : IsSolved group) × ((p : ℕ) → Contains group p → chosen groups are p ≡ template_in group is p)

  apart_later : (first : List ℕ) (groups : List (List ℕ)) → AreApart (first ∷ groups) → AreApart groups
  apart_later first groups apart j k p less within d e =
      let same : suc j ≡ suc k = apart (suc j) (suc k) p (omega arith) (omega arith) d e in omega arith

  has-chosen : (groups : List (List ℕ)) (are : AreAllSolved groups) → AreApart groups → (group : List ℕ) → Contains groups group
      → HasChosen groups are group
  has-chosen [] are apart group c = absurd (Contains-none group c)
  has-chosen (first ∷ groups) are apart group c =
      by (λ d. has-chosen groups are.1 (apart_later first groups apart) group d) (Contains-cons_cases first groups group c)
    where
      at_first : HasChosen (first ∷ groups) are first
      at_first = (are.0, λ p d. ap (λ (t : Bool). if t then template_in first are.0 p else chosen groups are.1 p) (member-has first p d))

      later : (k : ℕ) → k < length groups → get_or groups k [] ≡ group → (p : ℕ) → Contains group p → (t : Bool) → is_member first p ≡ t
          → t ≡ false
      later k within e p d true f =
          let same : 0 ≡ suc k = apart 0 (suc k) p (omega arith) (omega arith) (member-contains first p f)
          (subst (λ members. Contains members p) (sym e) d) in
          absurd (omega arith)
      later k within e p d false f = refl

      by : (Contains groups group → HasChosen groups are.1 group) → (first ≡ group) ⊎ Contains groups group
          → HasChosen (first ∷ groups) are group
      by more (inl e) = subst (HasChosen (first ∷ groups) are) e at_first
      by more (inr (k, within, e)) =
          let rest = more (k, within, e) in (
            rest.0,
            λ p d. ap (λ (t : Bool). if t then template_in first are.0 p else chosen groups are.1 p)
                (later k within (get_or_default groups k [] group within ∙ e) p d (is_member first p) refl) ∙ rest.1 p d,
          )

module _ (object : Object) (roles : Roles) (order : Below) (procs : List Proc) (signatures : List Signature) (groups : List (List ℕ))
    (schemes : List (Option Scheme)) (count : ℕ) (are_groups : AreGroupsOf procs groups) (are_signatures : AreSignatures count signatures)
    (are : AreSolved object roles order procs signatures groups schemes) where
  -- Groups.

  apart : AreApart groups
  apart j k p less within c d = (are_groups.together j k p p c d).1 (there, there)

  increasing : (group : List ℕ) → Contains groups group → IsStrictlyIncreasing group
  increasing group (k, within, e) = subst IsStrictlyIncreasing (get_or_default groups k [] group within ∙ e) (are_groups.ascending k within)

  -- each procedure is a member of a group
  grouped : (p : ℕ) → p < length procs → (group : List ℕ) × Contains groups group × Contains group p
  grouped p within = let s = (are_groups.nodes p).0 within in (group_at groups s.0, Contains-get_or groups s.0 [] s.1, s.2)

  -- Schemes.

  abbrev HasScheme : ℕ → List Line → Type 0
  HasScheme p lines =
      (s : Scheme) × (slice_index_or schemes p None ≡ Some s) × (s.base ≡ p) × Alike order (is_inside_for p) lines s.lines

  has-scheme : (group : List ℕ) (is : IsGroupSolved object roles order procs signatures schemes group) (p : ℕ) → Contains group p →
      HasScheme p (flat_map (λ (lines : List Line). lines) is.bodies)
  has-scheme group is p (i, within, e) =
      let has = is.solved i within in
      subst (λ n. HasScheme n (flat_map (λ (lines : List Line). lines) is.bodies)) (get_or_default group i 0 p within ∙ e)
      (has.scheme, has.is_scheme, has.own, has.alike)

  own_bases : HaveOwnBases schemes
  own_bases q s e =
      let there_is = grouped q (subst (λ n. q < n) are.one_each (some-within schemes q s e)) in
      let has = has-scheme there_is.0 (are.each there_is.0 there_is.1) q there_is.2 in
      let same : Some s ≡ Some has.0 = sym e ∙ has.1 in
      ap (λ (o : Option Scheme). base_or q o) same ∙ has.2
    where
      base_or : ℕ → Option Scheme → ℕ
      base_or n None = n
      base_or n (Some t) = t.base

  lines-are : (p : ℕ) (s : Scheme) → slice_index_or schemes p None ≡ Some s → s.lines ≡ scheme_lines schemes p
  lines-are p s e = sym (ap lines_or_none e)

  -- Templates.

  all_solved : AreAllSolved object roles order procs signatures schemes groups
  all_solved = all-from object roles order procs signatures schemes groups are.each

  abbrev templates : ℕ → Template
  templates p = chosen object roles order procs signatures schemes groups all_solved p

  at_group : (group : List ℕ) → Contains groups group → HasChosen object roles order procs signatures schemes groups all_solved group
  at_group group c = has-chosen object roles order procs signatures schemes groups all_solved apart group c

  are_of : AreTemplatesOf object roles procs signatures schemes groups templates
  are_of = record {
    each = λ group c. let s = at_group group c in let lines = s.0.are_lines in (
      lines.readings,
      lines.known,
      lines.are_known,
      λ p d. subst (IsTemplateOf (program_with object roles procs signatures schemes lines.readings) lines.known roles schemes group p)
          (sym (s.1 p d)) (group-is object roles procs signatures schemes group s.0.bodies lines p d),
    );
  }

  lists-are : (group : List ℕ) (c : Contains groups group) →
      (at_group group c).0.bodies ≡ group_lines (map (λ p. template_rows (scheme_lines schemes) templates p) group)
  lists-are group c =
      let s = at_group group c in
      group-lines object roles procs signatures schemes group s.0.bodies s.0.are_lines templates own_bases (increasing group c) s.1

  solved_by : AreSolvedBy order groups templates (scheme_lines schemes)
  solved_by = record {
    are_schemes = λ group p c d. let has = has-scheme group (at_group group c).0 p d in
        subst (AreSchemeLines p) (lines-are p has.0 has.1) (subst (λ n. AreSchemeLines n has.0.lines) has.2 has.0.bases);
    alike = λ group p c d. let has = has-scheme group (at_group group c).0 p d in
        subst (Alike order (is_inside_for p) (lines_with (scheme_lines schemes) templates group)) (lines-are p has.0 has.1)
        (subst (λ lists. Alike order (is_inside_for p) (flat_map (λ (lines : List Line). lines) lists) has.0.lines) (lists-are group c)
        has.3);
  }

  module _ (templates_law : TemplatesLaw) (there_law : ThereLaw) (unfolding_law : UnfoldingLaw) (labels_law : UnfoldedLabelsLaw) where
    are_templates : AreTemplates groups templates
    are_templates = templates_law object roles procs signatures schemes groups templates count are_groups are_signatures are.one_each are_of

    made : AreMadeOf object roles procs signatures schemes groups templates
    made = record {
      are_of = are_of;
      are_templates = are_templates;
      lists = λ group c. subst (AreLinesOf object roles procs signatures schemes group) (lists-are group c) (at_group group c).0.are_lines;
    }

    say_all_below : SayAllBelow object roles order procs signatures schemes groups
    say_all_below =
        let u = there_law groups templates are_templates apart in
        record {
          templates = templates;
          made = made;
          unfolded = u.0;
          are_unfolded = u.1;
          alike = λ p within. let g = grouped p within in
              unfolding_law order groups templates (scheme_lines schemes) u.0 are_templates solved_by u.1 g.0 p g.1 g.2;
          labels = λ p l within. let g = grouped p within in
              labels_law order groups templates (scheme_lines schemes) u.0 are_templates solved_by u.1 g.0 p g.1 g.2 l;
        }

pub solved_law : TemplatesLaw → ThereLaw → UnfoldingLaw → UnfoldedLabelsLaw → SolvedLaw
solved_law templates_law there_law unfolding_law labels_law object roles order procs signatures groups schemes count are_groups
    are_signatures are =
    say_all_below object roles order procs signatures groups schemes count are_groups are_signatures are
    templates_law there_law unfolding_law labels_law
