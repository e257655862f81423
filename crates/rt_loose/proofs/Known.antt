-- The variables that lines name: prefixes, bases and sides are among them, and all exist.
use Rattle.std.proofs.Common.{◌≡◌, ◌⊎◌, ◌∙◌, inl, inr, List, [], ◌∷◌, Bool, true, false, Contains, refl, sym, ap, subst}
use Rattle.std.specs.List.{list_any}
use Rattle.rt_base.proofs.Lists.{list_any-at, list_any-from}
use Rattle.rt_lines.specs.declared.label.Label.{Label}
use Rattle.rt_lines.specs.declared.variable.Base.{Base}
use Rattle.rt_lines.specs.declared.variable.Dtv.{Dtv}
use Rattle.rt_lines.specs.declared.line.Line.{Line}
use Rattle.rt_lines.specs.declared.line.Line.TheVariants.{Var as VarLine, Same, Sub, Low, Up}
use Rattle.rt_lines.specs.Equality.{variable_eq}
use Rattle.rt_lines.specs.Orders.{Below}
use Rattle.rt_lines.specs.contracts.variable.DtvEq.TheImpl.Laws as variable_laws
use Rattle.rt_lines.proofs.Equal.{variable_equal}
use Rattle.rt_rules.specs.Rules.{longer, HasSide, Derivable}
use Rattle.rt_rules.specs.Rules.Derivable.{named as side_named, prefix, left_side, right_side, same_letter, same_line, same_sub, same_self, same_back, same_chain, same_longer, sub_line, sub_self, sub_chain, sub_co, sub_contra, sub_pointer, low_line, up_line, low_sub, up_sub}
use Rattle.rt_rules.specs.Laws.{NamesBase}
use Rattle.rt_rules.proofs.Lists.{Contains-none}
use Rattle.rt_rules.proofs.Covering.{extended-nil, extended-cons, front}
use Rattle.rt_named.specs.Naming.{named}
use Rattle.rt_named.specs.Laws.{IsPrefix, IsGiven}
use Rattle.rt_named.proofs.Contents.{contents_law}
use Rattle.rt_bridge.specs.Growing.{Var, at, dot, dv, vd, Given, V, Der, HasSub}
use Rattle.rt_bridge.proofs.Growing.{vd-dv}
use Rattle.rt_lines.proofs.Same.{variable_self}

-- a list has a variable or not
pub has_or : (known : List Dtv) (x : Dtv) → Contains known x ⊎ (Contains known x → ⊥)
has_or known x = by (list_any (variable_eq x) known) refl
  where
    found : list_any (variable_eq x) known ≡ true → Contains known x
    found e =
        let r : (y : Dtv) × Contains known y × (variable_eq x y ≡ true) = list_any-at (variable_eq x) known e in
        subst (Contains known) (sym (variable_equal x r.0 r.2)) r.1

    by : (b : Bool) → list_any (variable_eq x) known ≡ b → Contains known x ⊎ (Contains known x → ⊥)
    by true e = inl (found e)
    by false e = inr (λ c. let t : list_any (variable_eq x) known ≡ true = list_any-from (variable_eq x) known x c (variable_self x) in cc)

-- two variables are one or not
pub one_var : (x y : Var) → (x ≡ y) ⊎ (x ≡ y → ⊥)
one_var x y = by (variable_eq (dv x) (dv y)) refl
  where
    by : (b : Bool) → variable_eq (dv x) (dv y) ≡ b → (x ≡ y) ⊎ (x ≡ y → ⊥)
    by true e = inl (sym (vd-dv x) ∙ ap vd (variable_equal (dv x) (dv y) e) ∙ vd-dv y)
    by false e = inr (λ s.
        let t : variable_eq (dv x) (dv y) ≡ true = subst (λ z. variable_eq (dv x) (dv z) ≡ true) s (variable_self (dv x)) in cc)

module _ (order : Below) (lines : List Line) where
  -- the bases of what is derivable stand in the lines
  abbrev AreBased : Line → Type 0
  AreBased (VarLine x) = NamesBase lines x.base
  AreBased (Same x y) = NamesBase lines x.base × NamesBase lines y.base
  AreBased (Sub x y) = NamesBase lines x.base × NamesBase lines y.base
  AreBased (Low k x) = NamesBase lines x.base
  AreBased (Up x k) = NamesBase lines x.base

  based : {j : Line} → Derivable order lines j → AreBased j
  based (side_named l {x = x} c h) = (l, x, c, h, refl)
  based (prefix l d) = based d
  based (left_side d) = (based d).0
  based (right_side d) = (based d).1
  based (same_letter l d e) = (based d).1
  based (same_line {x = x} {y = y} c) = ((Same x y, x, c, inl refl, refl), (Same x y, y, c, inr refl, refl))
  based (same_sub d) = based d
  based (same_self d) = (based d, based d)
  based (same_back d) = ((based d).1, (based d).0)
  based (same_chain d e) = ((based d).0, (based e).1)
  based (same_longer l d e) = ((based d).0, (based d).1)
  based (sub_line {x = x} {y = y} c) = ((Sub x y, x, c, inl refl, refl), (Sub x y, y, c, inr refl, refl))
  based (sub_self d) = (based d, based d)
  based (sub_chain d e) = ((based d).0, (based e).1)
  based (sub_co l d e s) = ((based d).0, (based d).1)
  based (sub_contra l d e s) = ((based d).1, (based d).0)
  based (sub_pointer x d e) = (based d, based d)
  based (low_line {k = k} {x = x} c) = (Low k x, x, c, refl, refl)
  based (up_line {k = k} {x = x} c) = (Up x k, x, c, refl, refl)
  based (low_sub d e a) = (based e).1
  based (up_sub d e a) = (based d).0

  -- the variables that the lines name
  abbrev pub Known : Dtv → Type 0
  Known x = Contains (named lines []) x

  pub known_front : (x : Dtv) (l : Label) → Known (longer x l) → Known x
  known_front x l c =
      let r : (y : Dtv) × IsGiven lines [] y × IsPrefix (longer x l) y = (contents_law lines [] (longer x l)).0 c in
      (contents_law lines [] x).1 (r.0, r.1, (l ∷ r.2.0, sym (extended-cons x l r.2.0) ∙ r.2.1))

  pub known_side : (l : Line) (x : Dtv) → Contains lines l → HasSide l x → Known x
  known_side l x c h = (contents_law lines [] x).1 (x, inl (l, c, h), ([], extended-nil x))

  given_there : (y : Dtv) → IsGiven lines [] y → Derivable order lines (VarLine y)
  given_there y (inl (l, c, h)) = side_named l c h
  given_there y (inr c) = absurd (Contains-none y c)

  pub known_there : (x : Dtv) → Known x → Derivable order lines (VarLine x)
  known_there x c =
      let r : (y : Dtv) × IsGiven lines [] y × IsPrefix x y = (contents_law lines [] x).0 c in
      front order lines x r.2.0 (subst (λ z. Derivable order lines (VarLine z)) (sym r.2.1) (given_there r.0 r.1))

  pub known_base : (b : Base) → Derivable order lines (VarLine (record { base = b; word = [] })) → Known (record { base = b; word = [] })
  known_base b d =
      let r : NamesBase lines b = based d in
      (contents_law lines [] (record { base = b; word = [] })).1
      (r.1, inl (r.0, r.2, r.3), (r.1.word, ap (λ (a : Base). record { base = a; word = r.1.word }) (sym r.4)))

  -- the same of variables built at the right end
  abbrev pub L : Given
  L = record { order = order; lines = lines }

  abbrev pub N : Var → Type 0
  N v = Known (dv v)

  pub dec : (v : Var) → N v ⊎ (N v → ⊥)
  dec v = has_or (named lines []) (dv v)

  pub parent : (v : Var) (l : Label) → N (dot v l) → N v
  parent v l c = known_front (dv v) l c

  pub root : (b : Base) → Der L (V (at b)) → N (at b)
  root b d = known_base b d.derives

  pub sides : (u v : Var) → HasSub L u v → N u × N v
  sides u v c = (known_side (Sub (dv u) (dv v)) (dv u) c (inl refl), known_side (Sub (dv u) (dv v)) (dv v) c (inr refl))
