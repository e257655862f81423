-- Graphs in which whatever the lines derive holds.
use Rattle.std.proofs.Common.{◌≡◌, ℕ, Some, List, Contains, refl, sym, subst, ◌∙◌}
use Rattle.rt_lines.specs.declared.label.Label.{Label}
use Rattle.rt_lines.specs.declared.label.Label.TheVariants.{Load, Store}
use Rattle.rt_lines.specs.declared.variable.Dtv.{Dtv}
use Rattle.rt_lines.specs.declared.line.Line.{Line}
use Rattle.rt_lines.specs.declared.line.Line.TheVariants.{Var, Same, Sub, Low, Up}
use Rattle.rt_lines.specs.Orders.{Below}
use Rattle.rt_rules.specs.Rules.{longer, HasSide, Derivable}
use Rattle.rt_rules.specs.Rules.Derivable.{named, prefix, left_side, right_side, same_letter, same_line, same_sub, same_self, same_back, same_chain, same_longer, sub_line, sub_self, sub_chain, sub_co, sub_contra, sub_pointer, low_line, up_line, low_sub, up_sub}
use Rattle.rt_shape.specs.Graphs.{Graph, node_of, step_of, Has}
use Rattle.rt_shape.specs.Shapes.{Equates}
use Rattle.rt_shape.proofs.Walks.{node_of-longer, node_of-back, one_node}

-- the two variables have one node
abbrev pub HaveOne : Graph → Dtv → Dtv → Type 0
HaveOne graph x y = (n : ℕ) × (node_of graph x ≡ Some n) × (node_of graph y ≡ Some n)

-- each side of a line has a node, sides that are equated have one, and so have the load and the store of a node
pub record IsModel (lines : List Line) (graph : Graph) : Type 0 where
  pub sides : (l : Line) (x : Dtv) → Contains lines l → HasSide l x → Has graph x
  pub equated : (l : Line) (x y : Dtv) → Contains lines l → Equates l x y → HaveOne graph x y
  pub pointers : (m i j : ℕ) → step_of graph m Load ≡ Some i → step_of graph m Store ≡ Some j → i ≡ j

-- what a judgement says of the nodes of its sides
abbrev pub Holds : Graph → Line → Type 0
Holds graph (Var x) = Has graph x
Holds graph (Same x y) = HaveOne graph x y
Holds graph (Sub x y) = HaveOne graph x y
Holds graph (Low k x) = Has graph x
Holds graph (Up x k) = Has graph x

module _ (order : Below) (lines : List Line) (graph : Graph) (model : IsModel lines graph) where
  front : (x : Dtv) (l : Label) → Has graph (longer x l) → Has graph x
  front x l (n, e) = let b = node_of-back graph x l n e in (b.0, b.1)

  turned : (x y : Dtv) → HaveOne graph x y → HaveOne graph y x
  turned x y (n, e, f) = (n, f, e)

  letter : (x y : Dtv) (l : Label) → HaveOne graph x y → Has graph (longer x l) → HaveOne graph (longer x l) (longer y l)
  letter x y l (n, e, f) (m, g) =
      let s : step_of graph n l ≡ Some m = sym (node_of-longer graph x l n e) ∙ g in
      (m, g, node_of-longer graph y l n f ∙ s)

  chain : (x y z : Dtv) → HaveOne graph x y → HaveOne graph y z → HaveOne graph x z
  chain x y z (m, e, f) (n, g, h) = (n, subst (λ k. node_of graph x ≡ Some k) (one_node graph y m n f g) e, h)

  pointer : (x : Dtv) → Has graph (longer x Load) → Has graph (longer x Store) → HaveOne graph (longer x Store) (longer x Load)
  pointer x (i, e) (j, f) =
      let a = node_of-back graph x Load i e in
      let b = node_of-back graph x Store j f in
      let same : a.0 ≡ b.0 = one_node graph x a.0 b.0 a.1 b.1 in
      let load : step_of graph b.0 Load ≡ Some i = subst (λ k. step_of graph k Load ≡ Some i) same a.2 in
      (j, f, subst (λ k. node_of graph (longer x Load) ≡ Some k) (model.pointers b.0 i j load b.2) e)

  -- whatever the lines derive holds
  pub holds : {j : Line} → Derivable order lines j → Holds graph j
  holds (named l {x = x} c h) = model.sides l x c h
  holds (prefix {x = x} l d) = front x l (holds d)
  holds (left_side d) = let h = holds d in (h.0, h.1)
  holds (right_side d) = let h = holds d in (h.0, h.2)
  holds (same_letter {x = x} {y = y} l d e) = let h = letter x y l (holds d) (holds e) in (h.0, h.2)
  holds (same_line {x = x} {y = y} c) = model.equated (Same x y) x y c (refl, refl)
  holds (same_sub d) = holds d
  holds (same_self d) = let h = holds d in (h.0, h.1, h.1)
  holds (same_back {x = x} {y = y} d) = turned x y (holds d)
  holds (same_chain {x = x} {y = y} {z = z} d e) = chain x y z (holds d) (holds e)
  holds (same_longer {x = x} {y = y} l d e) = letter x y l (holds d) (holds e)
  holds (sub_line {x = x} {y = y} c) = model.equated (Sub x y) x y c (refl, refl)
  holds (sub_self d) = let h = holds d in (h.0, h.1, h.1)
  holds (sub_chain {x = x} {y = y} {z = z} d e) = chain x y z (holds d) (holds e)
  holds (sub_co {x = x} {y = y} l d e s) = turned (longer y l) (longer x l) (letter y x l (turned x y (holds d)) (holds e))
  holds (sub_contra {x = x} {y = y} l d e s) = letter y x l (turned x y (holds d)) (holds e)
  holds (sub_pointer x d e) = pointer x (holds d) (holds e)
  holds (low_line {k = k} {x = x} c) = model.sides (Low k x) x c refl
  holds (up_line {k = k} {x = x} c) = model.sides (Up x k) x c refl
  holds (low_sub d e a) = let h = holds e in (h.0, h.2)
  holds (up_sub d e a) = let h = holds d in (h.0, h.1)
