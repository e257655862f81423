-- The bases of what is derivable are named.
use Rattle.std.proofs.Common.{inl, inr, List, refl, subst}
use Rattle.rt_lines.specs.declared.variable.Dtv.{Dtv}
use Rattle.rt_lines.specs.declared.line.Line.{Line}
use Rattle.rt_lines.specs.declared.line.Line.TheVariants.{Same, Sub, Low, Up}
use Rattle.rt_lines.specs.Orders.{Below}
use Rattle.rt_rules.specs.Rules.{HasSide, Derivable}
use Rattle.rt_rules.specs.Laws.{NamesBase}
use Rattle.rt_rules.proofs.Carry.{side}
use Rattle.rt_bridge.specs.Growing.{Var, dv}
use Rattle.rt_bridge.proofs.Growing.{dv-vd}
use Rattle.rt_bridge.proofs.Trees.{Fact, V, E, S, Lo, Hi, Tree, tree}
use Rattle.rt_bridge.proofs.Trees.Tree.{e1, e2, e3a, e3b, e4, q0, q1, q2, q3, q4, q5, s1, s2, s3, s4, s5, s6, c1l, c1u, c2, c3}

module _ (order : Below) (lines : List Line) where
  abbrev IsNamed : Var → Type 0
  IsNamed x = NamesBase lines ((dv x).base)

  abbrev AreNamed : Fact → Type 0
  AreNamed (V x) = IsNamed x
  AreNamed (E x y) = IsNamed x × IsNamed y
  AreNamed (S x y) = IsNamed x × IsNamed y
  AreNamed (Lo k x) = IsNamed x
  AreNamed (Hi x k) = IsNamed x

  pub are_named : {f : Fact} → Tree order lines f → AreNamed f
  are_named (e1 l {x} c h) = (l, dv x, c, h, refl)
  are_named (e2 l d) = are_named d
  are_named (e3a d) = (are_named d).0
  are_named (e3b d) = (are_named d).1
  are_named (e4 l d e) = (are_named d).1
  are_named (q0 {x} {y} c) = ((Same (dv x) (dv y), dv x, c, inl refl, refl), (Same (dv x) (dv y), dv y, c, inr refl, refl))
  are_named (q1 d) = are_named d
  are_named (q2 d) = (are_named d, are_named d)
  are_named (q3 d) = ((are_named d).1, (are_named d).0)
  are_named (q4 d e) = ((are_named d).0, (are_named e).1)
  are_named (q5 l d e) = are_named d
  are_named (s1 {x} {y} c) = ((Sub (dv x) (dv y), dv x, c, inl refl, refl), (Sub (dv x) (dv y), dv y, c, inr refl, refl))
  are_named (s2 d) = (are_named d, are_named d)
  are_named (s3 d e) = ((are_named d).0, (are_named e).1)
  are_named (s4 l d e h) = are_named d
  are_named (s5 l d e h) = ((are_named d).1, (are_named d).0)
  are_named (s6 d e) = (are_named d, are_named d)
  are_named (c1l {k} {x} c) = (Low k (dv x), dv x, c, refl, refl)
  are_named (c1u {k} {x} c) = (Up (dv x) k, dv x, c, refl, refl)
  are_named (c2 d e a) = (are_named e).1
  are_named (c3 d e a) = (are_named d).0

  pub base_named : (j : Line) → Derivable order lines j → (x : Dtv) → HasSide j x → NamesBase lines x.base
  base_named j d x h = subst (λ z. NamesBase lines z.base) (dv-vd x) (are_named (tree order lines (side order lines j x d h)))
