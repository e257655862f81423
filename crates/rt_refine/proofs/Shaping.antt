-- Existentials of one shape.
use Rattle.std.proofs.Common.{◌≡◌, ℕ, ◌⊎◌, inl, inr, List, [], ◌∷◌, Option, Some, None, refl, sym, ap, subst, ◌∙◌}
use Rattle.rt_lines.specs.declared.variable.Base.TheVariants.{Exist}
use Rattle.rt_lines.specs.declared.line.Line.{Line}
use Rattle.rt_lines.specs.declared.line.Line.TheVariants.{Var, Same}
use Rattle.rt_lines.specs.Orders.{Below}
use Rattle.rt_rules.specs.Rules.{Derivable}
use Rattle.rt_rules.specs.Rules.Derivable.{same_back, same_chain}
use Rattle.rt_rules.specs.Laws.{NamesBase}
use Rattle.rt_rules.specs.Put.{exist}
use Rattle.rt_rules.proofs.Carry.{are_there}
use Rattle.rt_base.proofs.Options.{some_of}
use Rattle.rt_shape.specs.Graphs.{Graph, node_of}
use Rattle.rt_shape.specs.Shapes.{IsShapeOf}
use Rattle.rt_refine.specs.Refinements.{IsRefinement}
use Rattle.rt_refine.specs.Groups.{IsGrouped, IsNamed, node_key}
use Rattle.rt_refine.specs.Splits.{AreClasses}
use Rattle.rt_refine.proofs.Holding.{hold}

-- members of one class have one key
pub key_one : (key : ℕ → List ℕ) (named : ℕ → Type 0) (class : ℕ → ℕ) → IsGrouped key named class → (v w : ℕ) → class v ≡ class w →
    (v ≡ w) ⊎ (key v ≡ key w)
key_one key named class is v w e = by (is.same v) (is.same w)
  where
    by : (class v ≡ v) ⊎ (named v × (key (class v) ≡ key v)) → (class w ≡ w) ⊎ (named w × (key (class w) ≡ key w)) →
        (v ≡ w) ⊎ (key v ≡ key w)
    by (inl f) (inl g) = inl (sym f ∙ e ∙ g)
    by (inl f) (inr (a, g)) = inr (ap key (sym f ∙ e) ∙ g)
    by (inr (a, f)) (inl g) = inr (sym f ∙ ap key (e ∙ g))
    by (inr (a, f)) (inr (b, g)) = inr (sym f ∙ ap key e ∙ g)

-- and are named, if they are two
pub named_one : (key : ℕ → List ℕ) (named : ℕ → Type 0) (class : ℕ → ℕ) → IsGrouped key named class → (v w : ℕ) →
    class v ≡ class w → (v ≡ w) ⊎ (named v × named w × (key v ≡ key w))
named_one key named class is v w e = by (is.same v) (is.same w) (key_one key named class is v w e)
  where
    of : (n m : ℕ) → named n → class n ≡ m → named m
    of n m a f = subst named f (is.within n a)

    by : (class v ≡ v) ⊎ (named v × (key (class v) ≡ key v)) → (class w ≡ w) ⊎ (named w × (key (class w) ≡ key w)) →
        (v ≡ w) ⊎ (key v ≡ key w) → (v ≡ w) ⊎ (named v × named w × (key v ≡ key w))
    by p q (inl f) = inl f
    by (inl f) (inl g) (inr h) = inl (sym f ∙ e ∙ g)
    by (inl f) (inr (b, g)) (inr h) = inr (of w v b (sym e ∙ f), b, h)
    by (inr (a, f)) (inl g) (inr h) = inr (a, of v w a (e ∙ g), h)
    by (inr (a, f)) (inr (b, g)) (inr h) = inr (a, b, h)

module _ (lines : List Line) where
  abbrev HaveOneShape : ℕ → ℕ → Type 0
  HaveOneShape v w = (order : Below) → Derivable order lines (Same (exist v) (exist w))

  none : Below
  none = record { count = 0; cells = [] }

  -- members of one class of a refinement have one shape
  pub shaped_pair : (other : ℕ → ℕ) → IsRefinement lines other → (v w : ℕ) → other v ≡ other w → (v ≡ w) ⊎ HaveOneShape v w
  shaped_pair other is v w e = by (is.shaped v) (is.shaped w)
    where
      move_right : (c d : ℕ) → c ≡ d → HaveOneShape v c → HaveOneShape v d
      move_right c d f g = subst (HaveOneShape v) f g

      by : (other v ≡ v) ⊎ HaveOneShape v (other v) → (other w ≡ w) ⊎ HaveOneShape w (other w) → (v ≡ w) ⊎ HaveOneShape v w
      by (inl f) (inl g) = inl (sym f ∙ e ∙ g)
      by (inl f) (inr g) =
          inr (λ order. same_back (subst (λ (k : ℕ). Derivable order lines (Same (exist w) (exist k))) (sym e ∙ f) (g order)))
      by (inr f) (inl g) = inr (move_right (other v) w (e ∙ g) f)
      by (inr f) (inr g) = inr (λ order. same_chain (move_right (other v) (other w) e f order) (same_back (g order)))

  -- and are named, if they are two
  shape_named : (v w : ℕ) → HaveOneShape v w → IsNamed lines v × IsNamed lines w
  shape_named v w d =
      let h = hold none lines (NamesBase lines) (λ l x c s. (l, x, c, s, refl)) (d none) in
      (of_base v h.0, of_base w h.1)
    where
      of_base : (n : ℕ) → NamesBase lines (Exist n) → IsNamed lines n
      of_base n (l, x, c, s, e) = (l, c, (x, s, e))

  pub named_pair : (other : ℕ → ℕ) → IsRefinement lines other → (v w : ℕ) → other v ≡ other w → (v ≡ w) ⊎ (IsNamed lines v × IsNamed lines w)
  named_pair other is v w e = by (shaped_pair other is v w e)
    where
      by : (v ≡ w) ⊎ HaveOneShape v w → (v ≡ w) ⊎ (IsNamed lines v × IsNamed lines w)
      by (inl f) = inl f
      by (inr d) = inr (shape_named v w d)

  module _ (graph : Graph) (shape : IsShapeOf lines graph) where
    abbrev node : ℕ → Option ℕ
    node n = node_of graph (exist n)

    abbrev key : ℕ → List ℕ
    key n = node_key (node n) n

    -- one key, one shape
    key_shape : (v w : ℕ) → key v ≡ key w → (v ≡ w) ⊎ HaveOneShape v w
    key_shape v w e = by (node v) (node w) refl refl e
      where
        by : (m n : Option ℕ) → node v ≡ m → node w ≡ n → node_key m v ≡ node_key n w → (v ≡ w) ⊎ HaveOneShape v w
        by (Some m) (Some n) f g h = let i : m ≡ n = cc in inr (λ order. (shape.one order (exist v) (exist w) m n f g).0 i)
        by (Some m) None f g h = absurd (cc)
        by None (Some n) f g h = absurd (cc)
        by None None f g h = let i : v ≡ w = cc in inl i

    -- one shape, one key
    shape_key : (v w : ℕ) → HaveOneShape v w → key v ≡ key w
    shape_key v w d =
        let a : Derivable none lines (Var (exist v)) = (are_there none lines (d none)).0 in
        let b : Derivable none lines (Var (exist w)) = (are_there none lines (d none)).1 in
        let m = some_of (node v) ((shape.there none (exist v)).1 a) in
        let n = some_of (node w) ((shape.there none (exist w)).1 b) in
        let e : m.0 ≡ n.0 = (shape.one none (exist v) (exist w) m.0 n.0 m.1 n.1).1 (d none) in
        ap (λ (o : Option ℕ). node_key o v) m.1 ∙ ap (λ (k : ℕ). k ∷ []) e ∙ sym (ap (λ (o : Option ℕ). node_key o w) n.1)

    -- the classes of those of one shape
    pub shape_classes_are : (class : ℕ → ℕ) → IsGrouped key (IsNamed lines) class → AreClasses lines class
    shape_classes_are class is = record {
      least = is.least;
      own = is.own;
      alone = is.alone;
      shaped = λ v w e. shaped v w (key_one key (IsNamed lines) class is v w e);
      widest = λ other o v w e. widest v w (shaped_pair other o v w e);
    }
      where
        shaped : (v w : ℕ) → (v ≡ w) ⊎ (key v ≡ key w) → (v ≡ w) ⊎ HaveOneShape v w
        shaped v w (inl e) = inl e
        shaped v w (inr e) = key_shape v w e

        widest : (v w : ℕ) → (v ≡ w) ⊎ HaveOneShape v w → class v ≡ class w
        widest v w (inl e) = ap class e
        widest v w (inr d) = let a = shape_named v w d in is.one v w a.0 a.1 (shape_key v w d)
