-- Which variables lines name: each with what it begins with, the bases of all that is derivable, and the sides of lines.
use Rattle.std.proofs.Common.{◌≡◌, ◌⊎◌, inl, inr, Bool, true, false, List, [], ◌∷◌, Contains, refl, sym, ap, subst, ◌∙◌}
use Rattle.std.specs.List.{list_any, Any}
use Rattle.std.proofs.lemmas.List.{get_or_default}
use Rattle.std.proofs.lemmas.List.Folds.{list_any_at, Any-from_list_any}
use Rattle.rt_lines.specs.declared.label.Label.{Label}
use Rattle.rt_lines.specs.declared.variable.Base.{Base}
use Rattle.rt_lines.specs.declared.variable.Dtv.{Dtv}
use Rattle.rt_lines.specs.declared.line.Line.{Line}
use Rattle.rt_lines.specs.declared.line.Line.TheVariants.{Var as VarLine, Same, Sub, Low, Up}
use Rattle.rt_lines.specs.Orders.{Below}
use Rattle.rt_lines.specs.Equality.{variable_eq}
use Rattle.rt_lines.specs.contracts.variable.DtvEq.TheImpl.Laws as variable_laws
use Rattle.rt_lines.proofs.Equal.{variable_equal}
use Rattle.rt_rules.specs.Rules.{extended, HasSide, Derivable}
use Rattle.rt_rules.specs.Rules.Derivable.{named, prefix, left_side, right_side, same_letter, same_line, same_sub, same_self, same_back, same_chain, same_longer, sub_line, sub_self, sub_chain, sub_co, sub_contra, sub_pointer, low_line, up_line, low_sub, up_sub}
use Rattle.rt_rules.proofs.Covering.{extended-nil, extended-cons}
use Rattle.rt_bridge.specs.Growing.{Var, at, dot, dv, Given, V, Der, HasSub}
use Rattle.rt_named.specs.Naming.{named as named_by}
use Rattle.rt_named.specs.Laws.{IsPrefix, IsGiven}
use Rattle.rt_named.proofs.Contents.{contents_law}

-- a line has a side of the base
abbrev HasBase : List Line → Base → Type 0
HasBase lines b = (l : Line) × (y : Dtv) × Contains lines l × HasSide l y × (y.base ≡ b)

module _ (order : Below) (lines : List Line) where
  abbrev AreBased : Line → Type 0
  AreBased (VarLine x) = HasBase lines x.base
  AreBased (Same x y) = HasBase lines x.base × HasBase lines y.base
  AreBased (Sub x y) = HasBase lines x.base × HasBase lines y.base
  AreBased (Low k x) = HasBase lines x.base
  AreBased (Up x k) = HasBase lines x.base

  -- what is derivable is of bases that lines name
  based : {j : Line} → Derivable order lines j → AreBased j
  based (named l {x = x} c h) = (l, x, c, h, refl)
  based (prefix l d) = based d
  based (left_side d) = (based d).0
  based (right_side d) = (based d).1
  based (same_letter l d e) = (based d).1
  based (same_line {x = x} {y = y} c) = ((Same x y, x, c, inl refl, refl), (Same x y, y, c, inr refl, refl))
  based (same_sub d) = based d
  based (same_self d) = (based d, based d)
  based (same_back d) = ((based d).1, (based d).0)
  based (same_chain d e) = ((based d).0, (based e).1)
  based (same_longer l d e) = based d
  based (sub_line {x = x} {y = y} c) = ((Sub x y, x, c, inl refl, refl), (Sub x y, y, c, inr refl, refl))
  based (sub_self d) = (based d, based d)
  based (sub_chain d e) = ((based d).0, (based e).1)
  based (sub_co l d e s) = based d
  based (sub_contra l d e s) = ((based d).1, (based d).0)
  based (sub_pointer x d e) = (based d, based d)
  based (low_line {k = k} {x = x} c) = (Low k x, x, c, refl, refl)
  based (up_line {k = k} {x = x} c) = (Up x k, x, c, refl, refl)
  based (low_sub d e a) = (based e).1
  based (up_sub d e a) = (based d).0

-- a variable is in a list, or is not
pub is_known : (known : List Dtv) (x : Dtv) → Contains known x ⊎ (Contains known x → ⊥)
is_known known x = by (list_any (variable_eq x) known) refl
  where
    by : (b : Bool) → list_any (variable_eq x) known ≡ b → Contains known x ⊎ (Contains known x → ⊥)
    by true e =
        let a : Any (λ (y : Dtv). variable_eq x y ≡ true) known = Any-from_list_any (variable_eq x) known e in
        inl (a.0, a.2, get_or_default known a.0 x a.1 a.2 ∙ a.3 ∙ sym (variable_equal x a.1 a.4))
    by false e = inr (λ c. (let f : list_any (variable_eq x) known ≡ true = list_any_at (variable_eq x) known c.0 x c.1 (ap (variable_eq x) c.2 ∙ (variable_laws.laws-law).refl x) in cc))

module _ (L : Given) (extra known : List Dtv) (is : known ≡ named_by L.lines extra) where
  among : (x : Var) → ((y : Dtv) × IsGiven L.lines extra y × IsPrefix (dv x) y) → Contains known (dv x)
  among x s = subst (λ xs. Contains xs (dv x)) (sym is) ((contents_law L.lines extra (dv x)).1 s)

  base_one : (y : Dtv) (b : Base) → y.base ≡ b → extended (record { base = b; word = [] }) y.word ≡ y
  base_one y b e = λ i. record { base = sym e i; word = y.word }

  pub parents : (x : Var) (l : Label) → Contains known (dv (dot x l)) → Contains known (dv x)
  parents x l h =
      let s : (y : Dtv) × IsGiven L.lines extra y × IsPrefix (dv (dot x l)) y = (contents_law L.lines extra (dv (dot x l))).0 (subst (λ xs. Contains xs (dv (dot x l))) is h) in
      among x (s.0, s.1, (l ∷ s.2.0, sym (extended-cons (dv x) l s.2.0) ∙ s.2.1))

  pub bases : (b : Base) → Der L (V (at b)) → Contains known (dv (at b))
  bases b d = let s : HasBase L.lines b = based L.order L.lines d.derives in among (at b) (s.1, inl (s.0, s.2, s.3), (s.1.word, base_one s.1 b s.4))

  pub both_sides : (x y : Var) → HasSub L x y → Contains known (dv x) × Contains known (dv y)
  both_sides x y h = (
    among x (dv x, inl (Sub (dv x) (dv y), h, inl refl), ([], extended-nil (dv x))),
    among y (dv y, inl (Sub (dv x) (dv y), h, inr refl), ([], extended-nil (dv y))),
  )
