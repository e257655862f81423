-- What lines name and what flips, by tests.
use Rattle.std.proofs.Common.{◌≡◌, ℕ, inl, inr, true, List, [], ◌∷◌, Contains, Option, Some, None, IsSome, refl, sym, ap, ◌∙◌}
use Rattle.std.specs.Prelude.{is_some}
use Rattle.std.specs.List.{list_any, Any}
use Rattle.std.proofs.lemmas.List.{get_or_default}
use Rattle.std.proofs.lemmas.List.Folds.{list_any_at, Any-from_list_any}
use Rattle.rt_lines.specs.declared.label.Label.TheVariants.{Load, Store}
use Rattle.rt_lines.specs.declared.variable.Base.{Base}
use Rattle.rt_lines.specs.declared.variable.Dtv.{Dtv}
use Rattle.rt_lines.specs.declared.line.Line.{Line}
use Rattle.rt_lines.specs.declared.line.Line.TheVariants.{Var as VarLine, Same, Sub, Low, Up}
use Rattle.rt_lines.specs.Orders.{Below}
use Rattle.rt_lines.specs.Equality.{variable_eq}
use Rattle.rt_lines.proofs.Equal.{variable_equal}
use Rattle.rt_rules.specs.Rules.{longer, extended, HasSide, Derivable}
use Rattle.rt_rules.specs.Rules.Derivable.{named, prefix, left_side, right_side, same_letter, same_line, same_sub, same_self, same_back, same_chain, same_longer, sub_line, sub_self, sub_chain, sub_co, sub_contra, sub_pointer, low_line, up_line, low_sub, up_sub}
use Rattle.rt_rules.proofs.Covering.{extended-nil, extended-cons}
use Rattle.rt_bridge.specs.Growing.{Var, at, dot, dv, Given, V}
use Rattle.rt_bridge.specs.Counted.{Flip}
use Rattle.rt_bridge.specs.Laws.{Named, AreNamed, AreFlips}
use Rattle.rt_bridge.proofs.Growing.{der}
use Rattle.rt_shape.specs.Graphs.{Graph, node_of, step_of}
use Rattle.rt_shape.specs.Shapes.{IsShapeOf}
use Rattle.rt_shape.proofs.ReadWrite.{read_write_lem}
use Rattle.rt_named.specs.Naming.{named as named_by}
use Rattle.rt_named.specs.Laws.{IsPrefix, IsGiven}
use Rattle.rt_named.proofs.Contents.{contents_law}
use Rattle.rt_named.specs.Nodes.{flips_at}
use Rattle.rt_sat.specs.Deciding.{is_among, flips_by, DecidingLaw}
use Rattle.rt_lines.proofs.Same.{variable_self}
use Rattle.std.proofs.lemmas.Bool.{and_parts, and_from}

-- a line has a side of the base
abbrev HasBase : List Line → Base → Type 0
HasBase lines b = (l : Line) × (y : Dtv) × Contains lines l × HasSide l y × (y.base ≡ b)

module _ (order : Below) (lines : List Line) where
  abbrev AreBased : Line → Type 0
  AreBased (VarLine x) = HasBase lines x.base
  AreBased (Same x y) = HasBase lines x.base × HasBase lines y.base
  AreBased (Sub x y) = HasBase lines x.base × HasBase lines y.base
  AreBased (Low k x) = HasBase lines x.base
  AreBased (Up x k) = HasBase lines x.base

  -- what is derivable is of bases that lines name
  based : {j : Line} → Derivable order lines j → AreBased j
  based (named l {x = x} c h) = (l, x, c, h, refl)
  based (prefix l d) = based d
  based (left_side d) = (based d).0
  based (right_side d) = (based d).1
  based (same_letter l d e) = (based d).1
  based (same_line {x = x} {y = y} c) = ((Same x y, x, c, inl refl, refl), (Same x y, y, c, inr refl, refl))
  based (same_sub d) = based d
  based (same_self d) = (based d, based d)
  based (same_back d) = ((based d).1, (based d).0)
  based (same_chain d e) = ((based d).0, (based e).1)
  based (same_longer l d e) = based d
  based (sub_line {x = x} {y = y} c) = ((Sub x y, x, c, inl refl, refl), (Sub x y, y, c, inr refl, refl))
  based (sub_self d) = (based d, based d)
  based (sub_chain d e) = ((based d).0, (based e).1)
  based (sub_co l d e s) = based d
  based (sub_contra l d e s) = ((based d).1, (based d).0)
  based (sub_pointer x d e) = (based d, based d)
  based (low_line {k = k} {x = x} c) = (Low k x, x, c, refl, refl)
  based (up_line {k = k} {x = x} c) = (Up x k, x, c, refl, refl)
  based (low_sub d e a) = (based e).1
  based (up_sub d e a) = (based d).0

pub among-from : (known : List Dtv) (x : Dtv) → Contains known x → list_any (variable_eq x) known ≡ true
among-from known x c = list_any_at (variable_eq x) known c.0 x c.1 (ap (variable_eq x) c.2 ∙ variable_self x)

pub among-to : (known : List Dtv) (x : Dtv) → list_any (variable_eq x) known ≡ true → Contains known x
among-to known x e =
    let a : Any (λ (y : Dtv). variable_eq x y ≡ true) known = Any-from_list_any (variable_eq x) known e in
    (a.0, a.2, get_or_default known a.0 x a.1 a.2 ∙ a.3 ∙ sym (variable_equal x a.1 a.4))

module _ (L : Given) (extra : List Dtv) (graph : Graph) (shape : IsShapeOf L.lines graph) where
  abbrev known : List Dtv
  known = named_by L.lines extra

  among : (x : Var) → ((y : Dtv) × IsGiven L.lines extra y × IsPrefix (dv x) y) → Named (is_among known) x
  among x s = among-from known (dv x) ((contents_law L.lines extra (dv x)).1 s)

  given : (x : Var) → Named (is_among known) x → (y : Dtv) × IsGiven L.lines extra y × IsPrefix (dv x) y
  given x h = (contents_law L.lines extra (dv x)).0 (among-to known (dv x) h)

  base_one : (y : Dtv) (b : Base) → y.base ≡ b → extended (record { base = b; word = [] }) y.word ≡ y
  base_one y b e = λ i. record { base = sym e i; word = y.word }

  pub are_named : AreNamed L (is_among known)
  are_named = record {
    parents = λ x l h. (let s : (y : Dtv) × IsGiven L.lines extra y × IsPrefix (dv (dot x l)) y = given (dot x l) h in among x (s.0, s.1, (l ∷ s.2.0, sym (extended-cons (dv x) l s.2.0) ∙ s.2.1)));
    bases = λ b d. (let s : HasBase L.lines b = based L.order L.lines d.derives in among (at b) (s.1, inl (s.0, s.2, s.3), (s.1.word, base_one s.1 b s.4)));
    sides = λ x y h. (
      among x (dv x, inl (Sub (dv x) (dv y), h, inl refl), ([], extended-nil (dv x))),
      among y (dv y, inl (Sub (dv x) (dv y), h, inr refl), ([], extended-nil (dv y))),
    );
  }

  flip_of : (x : Var) (o : Option ℕ) → node_of graph (dv x) ≡ o → flips_at graph o ≡ true → Flip L x
  flip_of x None e f = absurd (cc)
  flip_of x (Some n) e f =
      let p : (is_some (step_of graph n Load) ≡ true) × (is_some (step_of graph n Store) ≡ true) = and_parts (is_some (step_of graph n Load)) (is_some (step_of graph n Store)) f in
      let d : Derivable L.order L.lines (VarLine (longer (dv x) Load)) × Derivable L.order L.lines (VarLine (longer (dv x) Store)) = (read_write_lem L.lines graph L.order (dv x) n shape e).0 (p.0, p.1) in
      (der L (V (dot x Load)) d.0, der L (V (dot x Store)) d.1)

  by_node : (x : Var) (o : Option ℕ) → node_of graph (dv x) ≡ o → IsSome o → Flip L x → flips_at graph o ≡ true
  by_node x None e s f = absurd (cc)
  by_node x (Some n) e s f =
      let h : IsSome (step_of graph n Load) × IsSome (step_of graph n Store) = (read_write_lem L.lines graph L.order (dv x) n shape e).1 (f.0.derives, f.1.derives) in
      and_from (is_some (step_of graph n Load)) (is_some (step_of graph n Store)) h.0 h.1

  pub are_flips : AreFlips L (flips_by graph)
  are_flips x = (flip_of x (node_of graph (dv x)) refl, λ f. by_node x (node_of graph (dv x)) refl ((shape.there L.order (dv x)).1 (prefix Load f.0.derives)) f)

pub deciding_law : DecidingLaw
deciding_law L extra graph shape = (are_named L extra graph shape, are_flips L extra graph shape)
