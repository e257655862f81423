-- Which constants and bases the lines of rows name.
use Rattle.std.proofs.Common.{◌≡◌, ℕ, ◌⊎◌, inl, inr, List, [], ◌∷◌, map, get_or, flat_map, All, Contains, refl, sym, ap, subst, ◌∙◌}
use Rattle.std.specs.Prelude.{Bool, true, false, ◌&&◌, IsTrue}
use Rattle.std.specs.List.{list_all}
use Rattle.std.proofs.Math.ListN.{get_or-map}
use Rattle.std.proofs.lemmas.List.Elements.{All-map}
use Rattle.std.proofs.lemmas.Bool.{and_from}
use Rattle.rt_base.proofs.Lists.{Contains-map_source}
use Rattle.rt_lines.specs.declared.label.Label.{Label}
use Rattle.rt_lines.specs.declared.variable.Base.{Base}
use Rattle.rt_lines.specs.declared.variable.Dtv.{Dtv}
use Rattle.rt_lines.specs.declared.line.Line.{Line}
use Rattle.rt_lines.specs.Lines.{HasConstantsBelow}
use Rattle.rt_rules.specs.Rules.{HasSide}
use Rattle.rt_rules.specs.Laws.{NamesBase}
use Rattle.rt_scheme.specs.Splitting.{AreInterfaceLines, is_interface_line, is_interface_side, is_interface_variable}
use Rattle.rt_lines.specs.Numbering.{deduplicated}
use Rattle.rt_lines.proofs.Deduplicating.{deduplicated-all, deduplicated-source}
use Rattle.rt_rows.specs.declared.name.Name.{Name}
use Rattle.rt_rows.specs.declared.row.Root.{Root}
use Rattle.rt_rows.specs.declared.row.Root.TheVariants.{Proc, Global, Outer, Named}
use Rattle.rt_rows.specs.declared.row.Row.{Row}
use Rattle.rt_rows.specs.declared.row.Row.TheVariants.{Var, Same, Sub, Low, Up}
use Rattle.rt_rows.specs.declared.row.Term.{Term}
use Rattle.rt_rows.specs.Terms.{HasConstantBelow, HasRoot, IsBaseOf, IsGroupRow, IsGroupTerm, NamesRoot, group_lines, is_group_side, line_of, lines_by, names_of, root_base, variable_of}

-- the names of some lists of rows together
abbrev group_names : List (List Row) → List Name
group_names lists = names_of (flat_map (λ rows. rows) lists)

-- Constants.

line_constants : (count : ℕ) (names : List Name) (row : Row) → HasConstantBelow count row → HasConstantsBelow count (line_of names row)
line_constants count names (Var x) h = h
line_constants count names (Same x y) h = h
line_constants count names (Sub x y) h = h
line_constants count names (Low k x) h = h
line_constants count names (Up x k) h = h

list_constants : (count : ℕ) (names : List Name) (rows : List Row) → All (HasConstantBelow count) rows → All (HasConstantsBelow count) (deduplicated (lines_by names rows))
list_constants count names rows h =
    deduplicated-all (HasConstantsBelow count) (lines_by names rows)
    (All-map (HasConstantsBelow count) (line_of names) rows (λ k d lt. line_constants count names (get_or rows k d) (h k d lt)))

-- the constants of the lines are below a count where those of the rows are
pub group-constants : (count : ℕ) (lists : List (List Row)) → All (All (HasConstantBelow count)) lists → All (All (HasConstantsBelow count)) (group_lines lists)
group-constants count lists h =
    All-map (All (HasConstantsBelow count)) (λ rows. deduplicated (lines_by (group_names lists) rows)) lists
    (λ k d lt. list_constants count (group_names lists) (get_or lists k d) (h k d lt))

-- Interfaces.

group_side : (names : List Name) (r : Root) (word : List Label) → IsTrue (is_group_side r word) → IsTrue (is_interface_side (root_base names r) word)
group_side names (Proc p) word h = h
group_side names (Global g) word h = h
group_side names (Outer n) word h = h
group_side names (Named name) word h = h

group_term : (names : List Name) (x : Term) → IsGroupTerm x → IsTrue (is_interface_variable (variable_of names x))
group_term names x h = group_side names x.root x.word h

group_one : (names : List Name) (x : Term) → IsGroupTerm x → list_all is_interface_variable (variable_of names x ∷ []) ≡ true
group_one names x h = and_from (is_interface_variable (variable_of names x)) true (group_term names x h) refl

group_two : (names : List Name) (x y : Term) → IsGroupTerm x → IsGroupTerm y
    → list_all is_interface_variable (variable_of names x ∷ variable_of names y ∷ []) ≡ true
group_two names x y h k =
    and_from (is_interface_variable (variable_of names x)) (list_all is_interface_variable (variable_of names y ∷ [])) (group_term names x h) (group_one names y k)

group_line : (names : List Name) (row : Row) → IsGroupRow row → IsTrue (is_interface_line (line_of names row))
group_line names (Var x) h = group_one names x h
group_line names (Same x y) h = group_two names x y h.0 h.1
group_line names (Sub x y) h = group_two names x y h.0 h.1
group_line names (Low k x) h = group_one names x h
group_line names (Up x k) h = group_one names x h

list_interfaces : (names : List Name) (rows : List Row) → All IsGroupRow rows → AreInterfaceLines (deduplicated (lines_by names rows))
list_interfaces names rows h =
    deduplicated-all (λ line. IsTrue (is_interface_line line)) (lines_by names rows)
    (All-map (λ line. IsTrue (is_interface_line line)) (line_of names) rows (λ k d lt. group_line names (get_or rows k d) (h k d lt)))

-- the lines have the form of an interface's where the rows have that of a group's
pub group-interfaces : (lists : List (List Row)) → All (All IsGroupRow) lists → All AreInterfaceLines (group_lines lists)
group-interfaces lists h =
    All-map AreInterfaceLines (λ rows. deduplicated (lines_by (group_names lists) rows)) lists
    (λ k d lt. list_interfaces (group_names lists) (get_or lists k d) (h k d lt))

-- Bases.

-- a side of a row's line is of a root of the row
side_root : (names : List Name) (row : Row) (x : Dtv) → HasSide (line_of names row) x → (r : Root) × HasRoot row r × (root_base names r ≡ x.base)
side_root names (Var y) x e = (y.root, refl, ap (λ v. v.base) e)
side_root names (Same y z) x (inl e) = (y.root, inl refl, ap (λ v. v.base) e)
side_root names (Same y z) x (inr e) = (z.root, inr refl, ap (λ v. v.base) e)
side_root names (Sub y z) x (inl e) = (y.root, inl refl, ap (λ v. v.base) e)
side_root names (Sub y z) x (inr e) = (z.root, inr refl, ap (λ v. v.base) e)
side_root names (Low k y) x e = (y.root, refl, ap (λ v. v.base) e)
side_root names (Up y k) x e = (y.root, refl, ap (λ v. v.base) e)

base_root : (names : List Name) (rows : List Row) (r : Root) (b : Base) → NamesRoot rows r → root_base names r ≡ b → IsBaseOf rows b
base_root names rows (Proc p) b h e = subst (IsBaseOf rows) e h
base_root names rows (Global g) b h e = subst (IsBaseOf rows) e h
base_root names rows (Outer n) b h e = subst (IsBaseOf rows) e h
base_root names rows (Named name) b h e = subst (IsBaseOf rows) e tt

list_bases : (names : List Name) (rows : List Row) (b : Base) → NamesBase (deduplicated (lines_by names rows)) b → IsBaseOf rows b
list_bases names rows b (l, x, c, h, e) = by_row (Contains-map_source (line_of names) rows l (deduplicated-source (lines_by names rows) l c))
  where
    by_root : (row : Row) → Contains rows row → (r : Root) × HasRoot row r × (root_base names r ≡ x.base) → IsBaseOf rows b
    by_root row d (r, g, f) = base_root names rows r b (row, d, g) (f ∙ e)

    by_row : (row : Row) × Contains rows row × (line_of names row ≡ l) → IsBaseOf rows b
    by_row (row, d, f) = by_root row d (side_root names row x (subst (λ m. HasSide m x) (sym f) h))

-- a base that lines name is an existential, or that of a side of their rows
pub group-bases : (lists : List (List Row)) (i : ℕ) (b : Base) → NamesBase (get_or (group_lines lists) i []) b → IsBaseOf (get_or lists i []) b
group-bases lists i b h =
    list_bases (group_names lists) (get_or lists i []) b
    (subst (λ lines. NamesBase lines b) (get_or-map (λ rows. deduplicated (lines_by (group_names lists) rows)) lists i []) h)
