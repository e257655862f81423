-- Lists in which callees' own lists stand in place of their schemes.
use Rattle.std.specs.Prelude.{◌≡◌, ℕ, ◌<◌, Option, Some, None, List, [], ◌∷◌, ◌++◌, map, flat_map, get_or, length, Contains}
use Rattle.rt_lines.specs.declared.label.Label.{Label}
use Rattle.rt_lines.specs.declared.variable.Base.{Base}
use Rattle.rt_lines.specs.declared.variable.Base.TheVariants as base
use Rattle.rt_lines.specs.declared.variable.Dtv.{Dtv}
use Rattle.rt_lines.specs.declared.line.Line.{Line}
use Rattle.rt_lines.specs.declared.line.Line.TheVariants as line
use Rattle.rt_lines.specs.Orders.{Below}
use Rattle.rt_rules.specs.Alike.{Alike, is_inside_for}
use Rattle.rt_scheme.specs.Schemes.{AreSchemeLines}
use Rattle.rt_scheme.specs.SplitExistentials.{split_for}
use Rattle.rt_scheme.specs.Instances.{instance_lines, instance_ports}
use Rattle.rt_scheme.specs.Ports.{label_at}
use Rattle.rt_rows.specs.declared.name.Name.{Name}
use Rattle.rt_rows.specs.declared.name.Name.TheVariants as name
use Rattle.rt_rows.specs.declared.row.Root.{Root}
use Rattle.rt_rows.specs.declared.row.Root.TheVariants as root
use Rattle.rt_rows.specs.declared.row.Term.{Term}
use Rattle.rt_rows.specs.declared.row.Row.{Row}
use Rattle.rt_rows.specs.declared.row.Row.TheVariants as row
use Rattle.rt_rows.specs.Terms.{HasRoot, IsGroupRow, group_lines}

-- The rows of an instance.

-- what an existential of an instance by a call of a procedure's site stands for, by the instance's ports
abbrev pub new_name : ℕ → ℕ → ℕ → ℕ → Option Label → Name
new_name procedure site i n (Some letter) = name.Port procedure site i letter
new_name procedure site i n None = name.Inner procedure site i n

abbrev pub new_root : ℕ → ℕ → ℕ → List (Label × ℕ) → Base → Root
new_root procedure site i ports (base.Proc p) = root.Proc p
new_root procedure site i ports (base.Global g) = root.Global g
new_root procedure site i ports (base.Exist n) = root.Named (new_name procedure site i n (label_at ports n))
new_root procedure site i ports (base.Outer n) = root.Outer n

abbrev pub new_term : ℕ → ℕ → ℕ → List (Label × ℕ) → Dtv → Term
new_term procedure site i ports x = record { root = new_root procedure site i ports x.base; word = x.word }

abbrev pub new_row : ℕ → ℕ → ℕ → List (Label × ℕ) → Line → Row
new_row procedure site i ports (line.Var x) = row.Var (new_term procedure site i ports x)
new_row procedure site i ports (line.Same x y) = row.Same (new_term procedure site i ports x) (new_term procedure site i ports y)
new_row procedure site i ports (line.Sub x y) = row.Sub (new_term procedure site i ports x) (new_term procedure site i ports y)
new_row procedure site i ports (line.Low k x) = row.Low k (new_term procedure site i ports x)
new_row procedure site i ports (line.Up x k) = row.Up (new_term procedure site i ports x) k

-- the rows of an instance of lines, of their own base, by a call of a procedure's site
abbrev pub rows_by : ℕ → ℕ → ℕ → ℕ → List Line → List Row
rows_by procedure site i own lines = map (new_row procedure site i (instance_ports own lines 0)) (instance_lines own lines 0)

-- The lists of procedures.

-- an item of a procedure's list: a row, or the place of the instance that a call of a site, by its number among the site's calls, makes of
-- what it calls
pub data Item : Type 0 where
  Plain : Row → Item
  Instance : ℕ → ℕ → Item

-- the rows of items, where an instance has rows in its place
abbrev pub filled : (ℕ → ℕ → List Row) → List Item → List Row
filled rows_of [] = []
filled rows_of (Plain x ∷ items) = x ∷ filled rows_of items
filled rows_of (Instance site i ∷ items) = rows_of site i ++ filled rows_of items

-- what a call makes an instance of: the lines of a procedure outside the group, lines that are given, of their own base, or nothing
pub data Called : Type 0 where
  Outside : ℕ → Called
  Given : ℕ → List Line → Called
  Nothing : Called

-- what a procedure's list is made of: its items, and what each call of a site makes an instance of
pub record Template : Type 0 where
  pub items : List Item
  pub called : ℕ → ℕ → Called

-- the rows of an instance by a call of a procedure's site, where each procedure outside the group has lines
abbrev pub called_rows : (ℕ → List Line) → ℕ → ℕ → ℕ → Called → List Row
called_rows lines_of procedure site i (Outside q) = rows_by procedure site i q (lines_of q)
called_rows lines_of procedure site i (Given own lines) = rows_by procedure site i own lines
called_rows lines_of procedure site i Nothing = []

abbrev pub template_rows : (ℕ → List Line) → (ℕ → Template) → ℕ → List Row
template_rows lines_of templates p = filled (λ site i. called_rows lines_of p site i ((templates p).called site i)) (templates p).items

-- the lines of all members of a group together, where each procedure outside it has lines
abbrev pub lines_with : (ℕ → List Line) → (ℕ → Template) → List ℕ → List Line
lines_with lines_of templates group =
    flat_map (λ (lines : List Line). lines) (group_lines (map (λ p. template_rows lines_of templates p) group))

-- The templates of the procedures of groups, of which those called come first: a member of a group makes instances of procedures of earlier
-- groups, or of the lines of a scheme. Its rows name members of the group alone, and none of an instance's inner existentials.
pub record AreTemplates (groups : List (List ℕ)) (templates : ℕ → Template) : Type 0 where
  pub earlier : (k p site i q : ℕ) → k < length groups → Contains (get_or groups k []) p →
      (templates p).called site i ≡ Outside q →
      (j : ℕ) × (j < k) × Contains (get_or groups j []) q
  pub outside : (k p site i q : ℕ) → k < length groups → Contains (get_or groups k []) p → (templates p).called site i ≡ Outside q
      → Contains (get_or groups k []) q → ⊥
  pub given : (k p site i own : ℕ) (lines : List Line) → k < length groups → Contains (get_or groups k []) p
      → (templates p).called site i ≡ Given own lines → AreSchemeLines own lines
  pub forms : (k p : ℕ) (x : Row) → k < length groups → Contains (get_or groups k []) p → Contains (templates p).items (Plain x)
      → IsGroupRow x
  pub members : (k p q : ℕ) (x : Row) → k < length groups → Contains (get_or groups k []) p → Contains (templates p).items (Plain x)
      → HasRoot x (root.Proc q) → Contains (get_or groups k []) q
  pub no_inner : (k p procedure site i n : ℕ) (x : Row) → k < length groups → Contains (get_or groups k []) p
      → Contains (templates p).items (Plain x) → HasRoot x (root.Named (name.Inner procedure site i n)) → ⊥

-- each procedure of the groups has a scheme, alike under the order of constants to the lines of its group's members together, where each
-- procedure outside has its scheme
pub record AreSolvedBy (order : Below) (groups : List (List ℕ)) (templates : ℕ → Template) (schemes : ℕ →
    List Line) : Type 0 where
  pub are_schemes : (group : List ℕ) (p : ℕ) → Contains groups group → Contains group p → AreSchemeLines p (schemes p)
  pub alike : (group : List ℕ) (p : ℕ) → Contains groups group → Contains group p
      → Alike order (is_inside_for p) (lines_with schemes templates group) (schemes p)

-- The unfolded lists: each procedure has the lines of its group's members together, where each procedure outside has its own unfolded
-- list, in which an existential stands for each argument and result of other procedures. As those called come in earlier groups, this goes
-- down the groups.
pub record AreUnfolded (groups : List (List ℕ)) (templates : ℕ → Template) (unfolded : ℕ → List Line) : Type 0 where
  pub each : (group : List ℕ) (p : ℕ) → Contains groups group → Contains group p
      → unfolded p ≡ lines_with (λ q. split_for q (unfolded q)) templates group

-- what a caller can conclude from a procedure's scheme is what it could conclude from all lists below it, under the order of constants
-- under which the schemes are alike
abbrev pub UnfoldingLaw : Type 0
UnfoldingLaw =
    (order : Below) (groups : List (List ℕ)) (templates : ℕ → Template) (schemes unfolded : ℕ → List Line) →
    AreTemplates groups templates → AreSolvedBy order groups templates schemes → AreUnfolded groups templates unfolded →
    (group : List ℕ) (p : ℕ) → Contains groups group → Contains group p
    → Alike order (is_inside_for p) (unfolded p) (schemes p)
