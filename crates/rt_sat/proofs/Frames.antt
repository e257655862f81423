-- Which named variables can be read and written through, and the frame that they are.
use Rattle.std.proofs.Common.{◌≡◌, ℕ, ◌<◌, inl, inr, List, [], Bool, Option, Contains, length, sym, ap, subst, ◌∙◌, arith}
use Rattle.std.proofs.lemmas.List.{get_or_default}
use Rattle.rt_lines.specs.declared.variable.Dtv.{Dtv}
use Rattle.rt_lines.specs.declared.line.Line.{Line}
use Rattle.rt_lines.specs.declared.line.Line.TheVariants.{Var as VarLine}
use Rattle.rt_lines.specs.Orders.{Below}
use Rattle.rt_rules.specs.Rules.{HasSide, Derivable}
use Rattle.rt_rules.specs.Rules.Derivable.{named as side_there}
use Rattle.rt_rules.proofs.Covering.{front, extended-nil}
use Rattle.rt_bridge.specs.Growing.{vd, V}
use Rattle.rt_bridge.proofs.Growing.{der, dv-vd}
use Rattle.rt_shape.specs.Graphs.{Graph, node_of}
use Rattle.rt_named.specs.Origins.{no_variable}
use Rattle.rt_named.specs.Naming.{named as named_by}
use Rattle.rt_named.specs.Laws.{IsPrefix, IsGiven}
use Rattle.rt_named.specs.Nodes.{flips_at, AreNodesOf, AreFlipsOf}
use Rattle.rt_named.proofs.Contents.{contents_law, once_law}
use Rattle.rt_sat.specs.Deciding.{flips_by}
use Rattle.rt_sat.specs.declared.state.Edge.{Edge}
use Rattle.rt_sat.specs.declared.table.Begun.{Begun}
use Rattle.rt_sat.specs.Numbered.{at_number, AreDistinct}
use Rattle.rt_sat.specs.Pushes.{IsClosing}
use Rattle.rt_sat.specs.Tables.{AreFlagged, AreThere, FrameLaw, IsBegun, IsTableOf}
use Rattle.rt_sat.proofs.Deciding.{are_flips}

-- flags of nodes are flags of the variables
pub flagged_by : (graph : Graph) (known : List Dtv) (nodes : List (Option ℕ)) (flips : List Bool) → AreNodesOf graph known nodes → AreFlipsOf graph nodes flips → AreFlagged graph known flips
flagged_by graph known nodes flips are flags n h = flags.flag n (omega (arith, h, are.each)) ∙ ap (flips_at graph) (are.node n h)

-- each variable that lines and existing variables name exists
pub named_there : (order : Below) (lines : List Line) (extra : List Dtv) → AreThere lines extra → (n : ℕ) → n < length (named_by lines extra) → Derivable order lines (VarLine (at_number (named_by lines extra) n))
named_there order lines extra there n h =
    let x : Dtv = at_number (named_by lines extra) n in
    let s : (y : Dtv) × IsGiven lines extra y × IsPrefix x y = (contents_law lines extra x).0 (n, h, get_or_default (named_by lines extra) n x no_variable h) in
    let d : Derivable order lines (VarLine s.0) = (elim s.1 [
      | inl c ↦ side_there c.0 c.1 c.2
      | inr c ↦ there order s.0 c
    ]) in
    front order lines x s.2.0 (subst (λ z. Derivable order lines (VarLine z)) (sym s.2.1) d)

same_flip : (graph : Graph) (x : Dtv) → flips_by graph (vd x) ≡ flips_at graph (node_of graph x)
same_flip graph x = ap (λ z. flips_at graph (node_of graph z)) (dv-vd x)

pub frame_law : FrameLaw
frame_law L extra graph flips shape there flagged = record {
  there = λ n h. der L (V (vd (at_number (named_by L.lines extra) n)))
      (subst (λ z. Derivable L.order L.lines (VarLine z)) (sym (dv-vd (at_number (named_by L.lines extra) n))) (named_there L.order L.lines extra there n h));
  flip = λ n h. (
    λ e. (are_flips L extra graph shape (vd (at_number (named_by L.lines extra) n))).0 (same_flip graph (at_number (named_by L.lines extra) n) ∙ sym (flagged n h) ∙ e),
    λ f. flagged n h ∙ sym (same_flip graph (at_number (named_by L.lines extra) n)) ∙ (are_flips L extra graph shape (vd (at_number (named_by L.lines extra) n))).1 f,
  );
}

-- what is named, by an equal list
module _ (lines : List Line) (extra known : List Dtv) (is : known ≡ named_by lines extra) where
  pub named_distinct : AreDistinct known
  named_distinct = subst AreDistinct (sym is) (once_law lines extra)

  given_named : (x : Dtv) → IsGiven lines extra x → Contains known x
  given_named x g = subst (λ xs. Contains xs x) (sym is) ((contents_law lines extra x).1 (x, g, ([], extended-nil x)))

  pub side_named : (l : Line) (x : Dtv) → Contains lines l → HasSide l x → Contains known x
  side_named l x c h = given_named x (inl (l, c, h))

  pub extra_named : (x : Dtv) → Contains extra x → Contains known x
  extra_named x c = given_named x (inr c)

-- what a table begins with, and all that is pushed, are a table
abbrev pub begun_table : (lines : List Line) (extra : List Dtv) (marks : List Bool) (begun : Begun) → IsBegun lines extra marks begun → (edges : List Edge) →
    IsClosing begun.frame.named begun.frame.flips.items begun.frame.matters.items begun.first.items edges → IsTableOf lines extra begun.frame.named edges
begun_table lines extra marks begun is edges closing = record {
  graph = is.graph;
  flips = begun.frame.flips.items;
  marks = marks;
  matters = begun.frame.matters.items;
  first = begun.first.items;
  is_named = is.is_named;
  shape = is.shape;
  flagged = is.flagged;
  marked = is.marked;
  mattering = is.mattering;
  extra_there = is.extra_there;
  entered = is.entered;
  closing = closing;
}
