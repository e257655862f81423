-- The templates of the table's lists, and that the lists are made of them.
use Rattle.std.proofs.Common.{◌≡◌, ℕ, suc, ◌<◌, ◌⊎◌, inl, inr, Bool, true, false, nat_eq, if◌then◌else◌, Option, List, [], ◌∷◌, map}
use Rattle.std.proofs.Common.{get_or, length, refl, sym, ap, subst, ◌∙◌, eq-eqb, true≢false, arith}
use Rattle.std.specs.Prelude.{Contains}
use Rattle.std.specs.List.Sorted.{IsStrictlyIncreasing}
use Rattle.std.proofs.lemmas.Bool.{eqb-true}
use Rattle.std.proofs.lemmas.List.{get_or_default}
use Rattle.std.proofs.lemmas.List.Kept.{AllPairs-from_increasing}
use Rattle.rt_base.proofs.Lists.{Contains-none, Contains-cons_cases}
use Rattle.rt_lines.specs.declared.line.Line.{Line}
use Rattle.rt_lattice.specs.declared.roles.Roles.{Roles}
use Rattle.rt_elf.specs.Parts.{Parts as Object}
use Rattle.rt_proc.specs.declared.proc.Proc.{Proc}
use Rattle.rt_body.specs.Readings.{Reading}
use Rattle.rt_liveness.specs.Programs.{Program}
use Rattle.rt_scheme.specs.declared.scheme.Scheme.{Scheme}
use Rattle.rt_sigs.specs.Signatures.{Signature}
use Rattle.rt_rows.specs.declared.row.Row.{Row}
use Rattle.rt_rows.specs.Terms.{group_lines}
use Rattle.rt_table.specs.Facts.{AreKnown, Knowledge}
use Rattle.rt_table.specs.Lists.{AreLinesOf, AreRowsOf}
use Rattle.rt_unfold.specs.Unfolded.{Nothing, Template, template_rows}
use Rattle.rt_unfold.proofs.Mapping.{map-same}
use Rattle.rt_templates.specs.Tables.{HaveOwnBases, IsTemplateOf, ListsLaw, scheme_lines}
use Rattle.rt_templates.proofs.TableRows.{rows-are, rows_with, template-is, template_of}

-- no two members of a list are one
abbrev AreDistinct : List ℕ → Type 0
AreDistinct [] = Unit {0}
AreDistinct (p ∷ ps) = (Contains ps p → ⊥) × AreDistinct ps

distinct-from : (ps : List ℕ) → ((i j : ℕ) → i < j → j < length ps → get_or ps i 0 < get_or ps j 0) → AreDistinct ps
distinct-from [] h = tt
distinct-from (p ∷ ps) h = (none, distinct-from ps (λ i j less within. h (suc i) (suc j) (omega arith) (omega arith)))
  where
    none : Contains ps p → ⊥
    none (i, within, e) =
        let above : p < get_or ps i 0 = h 0 (suc i) (omega arith) (omega arith) in
        let is : get_or ps i 0 ≡ p = get_or_default ps i 0 p within ∙ e in
        omega arith

pub distinct-increasing : (ps : List ℕ) → IsStrictlyIncreasing ps → AreDistinct ps
distinct-increasing ps h = distinct-from ps (λ i j less within. AllPairs-from_increasing ps h i j 0 less within)

-- the template of no procedure
abbrev pub no_template : Template
no_template = record { items = []; called = λ site i. Nothing }

-- Members of a group.

module _ (program : Program) (known : List Knowledge) (roles : Roles) (schemes : List (Option Scheme)) (group : List ℕ) where
  -- the rows of each of some members
  abbrev AreEach : List ℕ → List (List Row) → Type 0
  AreEach [] [] = Unit {0}
  AreEach [] (rows ∷ lists) = ⊥
  AreEach (p ∷ ps) [] = ⊥
  AreEach (p ∷ ps) (rows ∷ lists) = AreRowsOf program known roles schemes group p rows × AreEach ps lists

  each-from : (ps : List ℕ) (lists : List (List Row)) → length lists ≡ length ps →
      ((i : ℕ) → i < length ps → AreRowsOf program known roles schemes group (get_or ps i 0) (get_or lists i [])) → AreEach ps lists
  each-from [] [] e h = tt
  each-from [] (rows ∷ lists) e h = absurd (omega arith)
  each-from (p ∷ ps) [] e h = absurd (omega arith)
  each-from (p ∷ ps) (rows ∷ lists) e h = (h 0 (omega arith), each-from ps lists (omega arith) (λ i within. h (suc i) (omega arith)))

  -- the template of one of them
  abbrev member_template : (ps : List ℕ) (lists : List (List Row)) → AreEach ps lists → ℕ → Template
  member_template [] lists are q = no_template
  member_template (p ∷ ps) [] are q = no_template
  member_template (p ∷ ps) (rows ∷ lists) are q =
      if nat_eq q p then template_of program known roles schemes group p rows are.0 else member_template ps lists are.1 q

  member-is : (ps : List ℕ) (lists : List (List Row)) (are : AreEach ps lists) (q : ℕ) → Contains ps q →
      IsTemplateOf program known roles schemes group q (member_template ps lists are q)
  member-is [] lists are q c = absurd (Contains-none q c)
  member-is (p ∷ ps) [] are q c = absurd are
  member-is (p ∷ ps) (rows ∷ lists) are q c = by (nat_eq q p) refl (λ d. member-is ps lists are.1 q d)
    where
      later : nat_eq q p ≡ false → (p ≡ q) ⊎ Contains ps q → Contains ps q
      later f (inl e) = absurd (true≢false (sym (eq-eqb q p (sym e)) ∙ f))
      later f (inr d) = d

      by : (t : Bool) → nat_eq q p ≡ t
          → (Contains ps q → IsTemplateOf program known roles schemes group q (member_template ps lists are.1 q))
          → IsTemplateOf program known roles schemes group q
          (if t then template_of program known roles schemes group p rows are.0 else member_template ps lists are.1 q)
      by true f rest =
          subst (λ n. IsTemplateOf program known roles schemes group n (template_of program known roles schemes group p rows are.0))
          (sym (eqb-true q p f)) (template-is program known roles schemes group p rows are.0)
      by false f rest = rest (later f (Contains-cons_cases p ps q c))

  member-rows : HaveOwnBases schemes → (ps : List ℕ) (lists : List (List Row)) (are : AreEach ps lists) → AreDistinct ps →
      lists ≡ map (λ p. rows_with (scheme_lines schemes) p (member_template ps lists are p)) ps
  member-rows own_bases [] [] are apart = refl
  member-rows own_bases [] (rows ∷ lists) are apart = absurd are
  member-rows own_bases (p ∷ ps) [] are apart = absurd are
  member-rows own_bases (p ∷ ps) (rows ∷ lists) are apart = λ t. first t ∷ others (member-rows own_bases ps lists are.1 apart.1) t
    where
      first : rows ≡ rows_with (scheme_lines schemes) p (member_template (p ∷ ps) (rows ∷ lists) are p)
      first =
          rows-are program known roles schemes group own_bases p rows are.0
          ∙ ap (λ (t : Bool). rows_with (scheme_lines schemes) p
          (if t then template_of program known roles schemes group p rows are.0 else member_template ps lists are.1 p))
          (sym (eq-eqb p p refl))

      no_first : (q : ℕ) → Contains ps q → (t : Bool) → nat_eq q p ≡ t → t ≡ false
      no_first q c true f = absurd (apart.0 (subst (Contains ps) (eqb-true q p f) c))
      no_first q c false f = refl

      others : lists ≡ map (λ q. rows_with (scheme_lines schemes) q (member_template ps lists are.1 q)) ps
          → lists ≡ map (λ q. rows_with (scheme_lines schemes) q (member_template (p ∷ ps) (rows ∷ lists) are q)) ps
      others rest =
          rest
          ∙ map-same (λ q. rows_with (scheme_lines schemes) q (member_template ps lists are.1 q))
          (λ q. rows_with (scheme_lines schemes) q (member_template (p ∷ ps) (rows ∷ lists) are q)) ps
          (λ q c. ap (λ (t : Bool). rows_with (scheme_lines schemes) q
          (if t then template_of program known roles schemes group p rows are.0 else member_template ps lists are.1 q))
          (sym (no_first q c (nat_eq q p) refl)))

-- The lists of a group.

module _ (object : Object) (roles : Roles) (procs : List Proc) (signatures : List Signature) (schemes : List (Option Scheme)) where
  abbrev pub program_with : List Reading → Program
  program_with readings = record { object = object; procs = procs; readings = readings; signatures = signatures }

  module _ (group : List ℕ) (bodies : List (List Line)) (are : AreLinesOf object roles procs signatures schemes group bodies) where
    pub each-of : AreEach (program_with are.readings) are.known roles schemes group group are.rows
    each-of = each-from (program_with are.readings) are.known roles schemes group group are.rows are.one_each are.are_rows

    -- the template of a member
    abbrev pub group_template : ℕ → Template
    group_template q = member_template (program_with are.readings) are.known roles schemes group group are.rows each-of q

    pub group-is : (q : ℕ) → Contains group q → IsTemplateOf (program_with are.readings) are.known roles schemes group q (group_template q)
    group-is q c = member-is (program_with are.readings) are.known roles schemes group group are.rows each-of q c

    -- templates that are those of the members give the lists
    pub group-lines : (templates : ℕ → Template) → HaveOwnBases schemes → IsStrictlyIncreasing group →
        ((q : ℕ) → Contains group q → templates q ≡ group_template q) →
        bodies ≡ group_lines (map (λ p. template_rows (scheme_lines schemes) templates p) group)
    group-lines templates own_bases increasing same =
        are.lines
        ∙ ap group_lines
        (member-rows (program_with are.readings) are.known roles schemes group own_bases group are.rows each-of
        (distinct-increasing group increasing)
        ∙ map-same (λ p. rows_with (scheme_lines schemes) p (group_template p)) (λ p. template_rows (scheme_lines schemes) templates p)
        group (λ p c. ap (rows_with (scheme_lines schemes) p) (sym (same p c))))

    -- what is found of the members of a group of one
    abbrev HasFound : List ℕ → Type 0
    HasFound members =
        (readings : List Reading) × (known : List Knowledge) × AreKnown (program_with readings) known
        × ((p : ℕ) → Contains members p → IsTemplateOf (program_with readings) known roles schemes members p (group_template p))

    pub has-found : (members : List ℕ) → Contains (group ∷ []) members → HasFound members
    has-found members c = by (Contains-cons_cases group [] members c)
      where
        by : (group ≡ members) ⊎ Contains [] members → HasFound members
        by (inl e) = subst HasFound e (are.readings, are.known, are.are_known, group-is)
        by (inr none) = absurd (Contains-none members none)

pub lists_law : ListsLaw
lists_law object roles procs signatures schemes group bodies increasing own_bases are = (
  group_template object roles procs signatures schemes group bodies are,
  record { each = has-found object roles procs signatures schemes group bodies are },
  group-lines object roles procs signatures schemes group bodies are (group_template object roles procs signatures schemes group bodies are)
      own_bases increasing (λ q c. refl),
)
