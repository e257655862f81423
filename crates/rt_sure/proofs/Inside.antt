-- Where arcs lead from one variable to another, it lies below the other by all lines.
use Rattle.std.proofs.Common.{◌≡◌, ℕ, ◌+◌, ◌<◌, Bool, true, List, Contains, None, Some, drop, length, sym, ap, subst, ◌∙◌}
use Rattle.std.specs.Prelude.{slice_get}
use Rattle.std.proofs.lemmas.Option.{get_or_from_slice_get, slice_get_within}
use Rattle.rt_lines.specs.declared.variable.Dtv.{Dtv}
use Rattle.rt_lines.specs.declared.line.Line.{Line}
use Rattle.rt_lines.specs.declared.line.Line.TheVariants.{Var, Sub}
use Rattle.rt_lines.specs.Orders.{Below}
use Rattle.rt_rules.specs.Rules.{Derivable}
use Rattle.rt_rules.specs.Rules.Derivable.{sub_line, sub_self, sub_chain}
use Rattle.rt_bridge.proofs.Growing.{dv-vd}
use Rattle.rt_components.specs.Groups.{Reaches}
use Rattle.rt_components.specs.Groups.Reaches.{there, onward}
use Rattle.rt_named.specs.Origins.{no_variable}
use Rattle.rt_outline.specs.declared.arc.Arc.{Arc}
use Rattle.rt_outline.specs.Arcs.{HasArc, Leads}
use Rattle.rt_outline.specs.Lines.{IsLineArc}
use Rattle.rt_sat.specs.declared.state.Edge.{Edge}
use Rattle.rt_sat.specs.Numbered.{AreWithin, at_number}
use Rattle.rt_sat.specs.Searches.{Walk}
use Rattle.rt_sat.specs.Searches.Walk.{stays, steps}
use Rattle.rt_sat.specs.Tables.{IsLayered, IsTableOf, place}
use Rattle.rt_sat.proofs.Below.{below_numbers, frame, within}
use Rattle.rt_equals.specs.Plain.{HasPlain}
use Rattle.rt_sure.specs.Arcs.{AreArcs, AreInside}

-- what is pushed is among the edges
pub pushed_in : (lines : List Line) (extra known : List Dtv) (edges : List Edge) (count : ℕ) →
    IsLayered lines extra known edges count → (e : Edge) → Contains (drop count edges) e → Contains edges e
pushed_in lines extra known edges count layered e c =
    layered.table.closing.pushed_in e (subst (λ n. Contains (drop n edges) e) layered.counted c)

-- a plain edge is a way of count nought
plain_walk : (edges pushed : List Edge) (v w : ℕ) → ((e : Edge) → Contains pushed e → Contains edges e) → HasPlain pushed v w →
    Walk edges (place v) (place w) 0
plain_walk edges pushed v w among h =
    subst (λ n. Walk edges (place v) (place w) n) (ap (λ n. n + 0) h.plain.none)
    (subst (λ s. Walk edges s (place w) (h.edge.count + 0)) (h.plain.from ∙ ap place h.start)
    (steps h.edge (among h.edge h.listed) (subst (λ s. Walk edges s (place w) 0) (sym (h.plain.to ∙ ap place h.end)) stays)))

module _ (lines : List Line) (extra known : List Dtv) (edges : List Edge) (count : ℕ) (layered : IsLayered lines extra known edges count)
    (arcs : List (List Arc)) (are : AreArcs lines (length lines) known (drop count edges) arcs) (order : Below) where
  abbrev table : IsTableOf lines extra known edges
  table = layered.table

  among : (e : Edge) → Contains (drop count edges) e → Contains edges e
  among e c = pushed_in lines extra known edges count layered e c

  inside : AreWithin known edges
  inside = within order lines extra known edges table

  exists : (n : ℕ) → n < length known → Derivable order lines (Var (at_number known n))
  exists n h =
      subst (λ x. Derivable order lines (Var x)) (dv-vd (at_number known n)) ((frame order lines extra known edges table).there n h).derives

  number_is : (n : ℕ) (x : Dtv) → slice_get known n ≡ Some x → at_number known n ≡ x
  number_is n x e = get_or_from_slice_get known n x no_variable e

  of_line : (v w i : ℕ) → HasArc arcs v w (Some i) → Derivable order lines (Sub (at_number known v) (at_number known w))
  of_line v w i c =
      let a : IsLineArc lines known v w i = are.only v w i c in
      let l : Contains lines (Sub a.left a.right) = (
        i,
        slice_get_within lines i (Sub a.left a.right) a.line,
        get_or_from_slice_get lines i (Sub a.left a.right) (Sub a.left a.right) a.line,
      ) in
      subst (λ x. Derivable order lines (Sub x (at_number known w))) (sym (number_is v a.left a.from))
      (subst (λ y. Derivable order lines (Sub a.left y)) (sym (number_is w a.right a.to)) (sub_line l))

  arc_within : (stands : List Bool) (v w : ℕ) → Leads arcs stands true v w → w < length known
  arc_within stands v w (None, c, e) =
      let h : HasPlain (drop count edges) v w = are.pushed_only v w c in
      subst (λ n. n < length known) h.end (inside h.edge (among h.edge h.listed)).1
  arc_within stands v w (Some i, c, e) =
      let a : IsLineArc lines known v w i = are.only v w i c in slice_get_within known w a.right a.to

  arc_below : (stands : List Bool) (v w : ℕ) → v < length known → w < length known → Leads arcs stands true v w →
      Derivable order lines (Sub (at_number known v) (at_number known w))
  arc_below stands v w h k (None, c, e) =
      (below_numbers order lines extra known edges table v w h k).1
      (plain_walk edges (drop count edges) v w among (are.pushed_only v w c))
  arc_below stands v w h k (Some i, c, e) = of_line v w i c

  pub reach_below : (stands : List Bool) {v w : ℕ} → v < length known → Reaches (Leads arcs stands true) v w →
      Derivable order lines (Sub (at_number known v) (at_number known w))
  reach_below stands {v} h there = sub_self (exists v h)
  reach_below stands {v} {w} h (onward {b} e r) =
      let k : b < length known = arc_within stands v b e in
      sub_chain (arc_below stands v b h k e) (reach_below stands k r)

-- and so the arcs are inside
pub are_inside : (lines : List Line) (extra known : List Dtv) (edges : List Edge) (count : ℕ) →
    IsLayered lines extra known edges count → (arcs : List (List Arc)) → AreArcs lines (length lines) known (drop count edges) arcs →
    AreInside lines known arcs
are_inside lines extra known edges count layered arcs are order stands v w h k r =
    reach_below lines extra known edges count layered arcs are order stands h r
