-- The rows of instances name what the lines of their schemes name.
use Rattle.std.proofs.Common.{◌≡◌, ℕ, Bool, true, false, cond, nat_eq, ◌&&◌, Option, Some, None, List, [], ◌∷◌, ◌++◌, length, get_or, map, refl, sym, subst}
use Rattle.std.specs.Prelude.{All, IsTrue}
use Rattle.std.proofs.lemmas.Bool.{false≢true}
use Rattle.std.proofs.lemmas.List.Elements.{All-nil, All-cons, All-append, All-head, All-map, All-tail}
use Rattle.rt_lines.specs.declared.label.Label.{Label}
use Rattle.rt_lines.specs.declared.variable.Base.{Base}
use Rattle.rt_lines.specs.declared.variable.Base.TheVariants as base
use Rattle.rt_lines.specs.declared.line.Line.{Line}
use Rattle.rt_lines.specs.declared.line.Line.TheVariants as line
use Rattle.rt_rules.specs.Alike.{map_line}
use Rattle.rt_scheme.specs.declared.origin.Origin.{Origin}
use Rattle.rt_scheme.specs.declared.origin.Origin.TheVariants.{Port, Bound}
use Rattle.rt_scheme.specs.Instances.{instance_lines, instance_ports, instanced, instanced_side, number_of, origins}
use Rattle.rt_scheme.specs.Ports.{label_at}
use Rattle.rt_scheme.specs.Schemes.{AreSchemeLines, is_interface, is_scheme_line, is_scheme_side, is_scheme_variable}
use Rattle.rt_rows.specs.declared.row.Row.{Row}
use Rattle.rt_table.specs.declared.item.Item.{Item}
use Rattle.rt_table.specs.declared.item.Item.TheVariants as item
use Rattle.rt_table.specs.Inside.Named.{IsNameWithin}
use Rattle.rt_table.specs.Table.{AreProcedureRows, Context, Target, Member, Scheme, Held, Unknown, filled, instance_rows, linked_at, new_name, new_row, new_term, scheme_rows, target_at}
use Rattle.rt_table.proofs.Sound.{IsGood, IsGoodItem, IsRootIn, IsSound, IsTermIn, good-items, good-written}

-- a base is a global of some kind, or no global
abbrev pub IsGoodBase : (ℕ → Type 0) → Base → Type 0
IsGoodBase G (base.Global g) = G g
IsGoodBase G other = Unit {0}

-- a line names such globals, and constants of some kind
abbrev pub IsGoodLine : (ℕ → Type 0) → (ℕ → Type 0) → Line → Type 0
IsGoodLine G C (line.Var x) = IsGoodBase G x.base
IsGoodLine G C (line.Same x y) = IsGoodBase G x.base × IsGoodBase G y.base
IsGoodLine G C (line.Sub x y) = IsGoodBase G x.base × IsGoodBase G y.base
IsGoodLine G C (line.Low k x) = C k × IsGoodBase G x.base
IsGoodLine G C (line.Up x k) = IsGoodBase G x.base × C k

-- so do those of a scheme
abbrev pub IsGoodTarget : (ℕ → Type 0) → (ℕ → Type 0) → Target → Type 0
IsGoodTarget G C (Scheme own lines covered) = AreSchemeLines own lines × All (IsGoodLine G C) lines
IsGoodTarget G C other = Unit {0}

both_left : (b c : Bool) → IsTrue (b && c) → IsTrue b
both_left true c h = refl
both_left false c h = cc

both_right : (b c : Bool) → IsTrue (b && c) → IsTrue c
both_right true c h = h
both_right false c h = cc

module _ (context : Context) (G : ℕ → Type 0) (C : ℕ → Type 0) where
  module _ (site i own : ℕ) (ports : List (Label × ℕ)) (order : List Origin) where
    name_within : (n : ℕ) (l : Option Label) → IsNameWithin (length context.reading.actions) (new_name context site i n l)
    name_within n None = tt
    name_within n (Some l) = tt

    existential : (n : ℕ) (w : List Label) → IsTermIn context G (new_term context site i ports (record { base = base.Exist n; word = w }))
    existential n w = (name_within n (label_at ports n), refl)

    variable : (b : Base) (w : List Label) → IsTrue (is_scheme_side own b w) → IsGoodBase G b → IsTermIn context G (new_term context site i ports (instanced_side own 0 order b w))
    variable (base.Proc n) [] h g = absurd (false≢true (both_right (nat_eq n own) false h))
    variable (base.Proc n) (l ∷ w) h g =
        elim (nat_eq n own)
        as (λ b. IsTrue (b && is_interface (l ∷ w)) →
        IsTermIn context G (new_term context site i ports (cond b (record { base = base.Exist (number_of 0 order (Port l)); word = w }) (record { base = base.Proc n; word = l ∷ w }))))
        [ true ↦ λ t. existential (number_of 0 order (Port l)) w | false ↦ λ t. absurd (false≢true t) ]
        h
    variable (base.Global n) w h g = (g, refl)
    variable (base.Exist n) w h g = existential (number_of 0 order (Bound n)) w
    variable (base.Outer n) w h g = absurd (false≢true h)

    row_good : (l : Line) → IsTrue (is_scheme_line own l) → IsGoodLine G C l → IsGood context G C (new_row context site i ports (map_line (instanced own 0 order) l))
    row_good (line.Var x) h g = variable x.base x.word h g
    row_good (line.Same x y) h g = (
      variable x.base x.word (both_left (is_scheme_variable own x) (is_scheme_variable own y) h) g.0,
      variable y.base y.word (both_right (is_scheme_variable own x) (is_scheme_variable own y) h) g.1,
    )
    row_good (line.Sub x y) h g = (
      variable x.base x.word (both_left (is_scheme_variable own x) (is_scheme_variable own y) h) g.0,
      variable y.base y.word (both_right (is_scheme_variable own x) (is_scheme_variable own y) h) g.1,
    )
    row_good (line.Low k x) h g = (g.0, variable x.base x.word h g.1)
    row_good (line.Up x k) h g = (variable x.base x.word h g.0, g.1)

  -- the rows of the instance of a target's scheme
  instance_good : (site i : ℕ) (target : Target) → IsGoodTarget G C target → All (IsGood context G C) (scheme_rows context site i target)
  instance_good site i (Scheme own lines covered) h =
      All-map (IsGood context G C) (new_row context site i (instance_ports own lines 0)) (instance_lines own lines 0)
      (All-map (λ l. IsGood context G C (new_row context site i (instance_ports own lines 0) l)) (map_line (instanced own 0 (origins own lines))) lines
      (λ k d less. row_good site i own (instance_ports own lines 0) (origins own lines) (get_or lines k d) (h.0 k d less) (h.1 k d less)))
  instance_good site i (Member q words) h = All-nil (IsGood context G C)
  instance_good site i (Held register) h = All-nil (IsGood context G C)
  instance_good site i Unknown h = All-nil (IsGood context G C)

  filled_good : (rows_of : ℕ → ℕ → List Row) → ((site i : ℕ) → All (IsGood context G C) (rows_of site i)) → (items : List Item) → All (IsGoodItem context G C) items
      → All (IsGood context G C) (filled rows_of items)
  filled_good rows_of each [] h = All-nil (IsGood context G C)
  filled_good rows_of each (item.Told x ∷ items) h =
      All-cons (IsGood context G C) x (filled rows_of items) (All-head (IsGoodItem context G C) (item.Told x) items h)
      (filled_good rows_of each items (All-tail (IsGoodItem context G C) (item.Told x) items h))
  filled_good rows_of each (item.Instance site i ∷ items) h =
      All-append (IsGood context G C) (rows_of site i) (filled rows_of items) (each site i)
      (filled_good rows_of each items (All-tail (IsGoodItem context G C) (item.Instance site i) items h))

  -- the rows of a procedure
  pub procedure-good : IsSound context G C → ((site i : ℕ) → IsGoodTarget G C (target_at (linked_at context site) i)) → (rows : List Row) → AreProcedureRows context rows
      → All (IsGood context G C) rows
  procedure-good sound targets rows are =
      subst (All (IsGood context G C)) (sym are.filled_in)
      (filled_good (instance_rows context) (λ site i. instance_good site i (target_at (linked_at context site) i) (targets site i)) are.items
      (good-written context G C sound are.writes (good-items context G C sound)))
