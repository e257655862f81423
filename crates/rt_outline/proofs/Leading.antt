-- What outer arcs and arcs of lines that stand say of variables.
use Rattle.std.proofs.Common.{◌≡◌, ℕ, zero, suc, ◌<◌, Bool, true, false, List, [], ◌∷◌, Contains, Some, None, length, get_or, sym, subst, arith}
use Rattle.std.specs.Prelude.{slice_get}
use Rattle.std.proofs.lemmas.Option.{get_or_from_slice_get, slice_get_within}
use Rattle.rt_base.proofs.Lists.{Contains-here, Contains-there}
use Rattle.rt_lines.specs.declared.variable.Dtv.{Dtv}
use Rattle.rt_lines.specs.declared.line.Line.{Line}
use Rattle.rt_lines.specs.declared.line.Line.TheVariants.{Sub}
use Rattle.rt_lines.specs.Orders.{Below}
use Rattle.rt_rules.specs.Rules.{Derivable}
use Rattle.rt_rules.specs.Rules.Derivable.{sub_line, sub_chain}
use Rattle.rt_components.specs.Groups.{Reaches}
use Rattle.rt_components.specs.Groups.Reaches.{there, onward}
use Rattle.rt_named.specs.Origins.{no_variable}
use Rattle.rt_outline.specs.declared.arc.Arc.{Arc}
use Rattle.rt_outline.specs.Arcs.{AreTurned, Leads, MayLead}
use Rattle.rt_outline.specs.Enclosing.{IsOuter}
use Rattle.rt_outline.specs.Frames.{variable_at}
use Rattle.rt_outline.specs.Lines.{IsNumber, AreNumbers, IsLineArc, AreLineArcs, HasBelow, Lined, standing}
use Rattle.rt_outline.specs.Inside.Resting.{AreBelowSome}

-- a line whose flag is set stands
pub standing_in : (lines : List Line) (stands : List Bool) (i : ℕ) (l : Line) → slice_get lines i ≡ Some l → get_or stands i false ≡ true → Contains (standing lines stands) l
standing_in [] flags i l e f = absurd (let h : i < 0 = slice_get_within [] i l e in omega arith)
standing_in (k ∷ lines) [] i l e f = absurd (cc)
standing_in (k ∷ lines) (true ∷ flags) zero l e f = let g : k ≡ l = cc in subst (Contains (k ∷ standing lines flags)) g (Contains-here k (standing lines flags))
standing_in (k ∷ lines) (false ∷ flags) zero l e f = absurd (cc)
standing_in (k ∷ lines) (true ∷ flags) (suc i) l e f = Contains-there k (standing lines flags) l (standing_in lines flags i l e f)
standing_in (k ∷ lines) (false ∷ flags) (suc i) l e f = standing_in lines flags i l e f

module _ (lines : List Line) (named : List Dtv) (arcs : List (List Arc)) (stands : List Bool) where
  at_of : (n : ℕ) (x : Dtv) → IsNumber named n x → variable_at named n ≡ x
  at_of n x e = get_or_from_slice_get named n x no_variable e

  -- what arcs of lines that stand lead to, they derive
  module _ (count : ℕ) (are : AreLineArcs lines count named arcs) (order : Below) where
    abbrev IsBelow : ℕ → ℕ → Type 0
    IsBelow v w = Derivable order (standing lines stands) (Sub (variable_at named v) (variable_at named w))

    pub line_derived : (v w : ℕ) → Leads arcs stands false v w → IsBelow v w
    line_derived v w (None, c, e) = absurd (cc)
    line_derived v w (Some i, c, e) =
        let a : IsLineArc lines named v w i = are.only v w i c in
        let d : Derivable order (standing lines stands) (Sub a.left a.right) = sub_line (standing_in lines stands i (Sub a.left a.right) a.line e) in
        subst (λ x. Derivable order (standing lines stands) (Sub x (variable_at named w))) (sym (at_of v a.left a.from))
        (subst (λ y. Derivable order (standing lines stands) (Sub a.left y)) (sym (at_of w a.right a.to)) d)

    pub chained : (u v w : ℕ) → IsBelow u v → Reaches (Leads arcs stands false) v w → IsBelow u w
    chained u v w d there = d
    chained u v w d (onward {b = b} e r) = chained u b w (sub_chain d (line_derived v b e)) r

  module _ (from to : List Dtv) (sources targets : List ℕ) (left : AreNumbers named from sources) (right : AreNumbers named to targets) where
    not_below : IsOuter lines named arcs → (MayLead (Leads arcs stands true) sources targets → ⊥) → (order : Below) → HasBelow order (standing lines stands) from to → ⊥
    not_below outer none order (x, y, c, d, h) =
        let s : (n : ℕ) × Contains sources n × IsNumber named n x = left.all x c in
        let t : (n : ℕ) × Contains targets n × IsNumber named n y = right.all y d in
        let g : Derivable order (standing lines stands) (Sub (variable_at named s.0) (variable_at named t.0)) =
        subst (λ z. Derivable order (standing lines stands) (Sub z (variable_at named t.0))) (sym (at_of s.0 x s.2)) (subst (λ z. Derivable order (standing lines stands) (Sub x z)) (sym (at_of t.0 y t.2)) h) in
        none (s.0, t.0, s.1, outer order stands s.0 t.0 (slice_get_within named s.0 x s.2) (slice_get_within named t.0 y t.2) g, t.1)

    is_below : (count : ℕ) → AreLineArcs lines count named arcs → AreBelowSome named arcs stands sources targets → (order : Below) → HasBelow order (standing lines stands) from to
    is_below count are (s, c, below) order =
        let r : (t : ℕ) × Contains targets t × Derivable order (standing lines stands) (Sub (variable_at named s) (variable_at named t)) = below lines count order are in
        let x : (x : Dtv) × Contains from x × IsNumber named s x = left.only s c in
        let y : (y : Dtv) × Contains to y × IsNumber named (r.0) y = right.only (r.0) (r.1) in
        (x.0, y.0, x.1, y.1, subst (λ z. Derivable order (standing lines stands) (Sub z y.0)) (at_of s x.0 x.2) (subst (λ z. Derivable order (standing lines stands) (Sub (variable_at named s) z)) (at_of (r.0) y.0 y.2) r.2))

    pub view_not_below : (view : Lined) → record { lines = lines; named = named } ≡ view → IsOuter lines named arcs → (MayLead (Leads arcs stands true) sources targets → ⊥) →
        (order : Below) → HasBelow order (standing view.lines stands) from to → ⊥
    view_not_below view e outer none order h = not_below outer none order (subst (λ (v : Lined). HasBelow order (standing v.lines stands) from to) (sym e) h)

    pub view_is_below : (view : Lined) → record { lines = lines; named = named } ≡ view → AreLineArcs lines (length lines) named arcs → AreBelowSome named arcs stands sources targets →
        (order : Below) → HasBelow order (standing view.lines stands) from to
    view_is_below view e are led order = subst (λ (v : Lined). HasBelow order (standing v.lines stands) from to) e (is_below (length lines) are led order)

pub below_as : (named : List Dtv) (arcs some : List (List Arc)) (stands : List Bool) (sources froms targets tos : List ℕ) → some ≡ arcs → froms ≡ sources → tos ≡ targets → AreBelowSome named some stands froms tos → AreBelowSome named arcs stands sources targets
below_as named arcs some stands sources froms targets tos e f g below =
    subst (λ xs. AreBelowSome named xs stands sources targets) e (subst (λ xs. AreBelowSome named some stands xs targets) f (subst (λ xs. AreBelowSome named some stands froms xs) g below))

pub turned_as : (arcs some back more : List (List Arc)) → some ≡ arcs → more ≡ back → AreTurned arcs back → AreTurned some more
turned_as arcs some back more e f turned = subst (λ xs. AreTurned xs more) (sym e) (subst (AreTurned arcs) (sym f) turned)
