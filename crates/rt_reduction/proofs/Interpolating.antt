-- What lines and added ones derive of variables of the outside and of kept bases, the lines that are written and the added ones derive.
use Rattle.std.proofs.Common.{◌≡◌, ℕ, ◌⊎◌, inl, inr, List, ◌++◌, Contains, refl, sym, subst}
use Rattle.std.proofs.lemmas.List.Elements.{Contains-append_cases}
use Rattle.rt_lines.specs.declared.label.Label.{Label}
use Rattle.rt_lines.specs.declared.label.Label.TheVariants.{Load, Store}
use Rattle.rt_lines.specs.declared.variable.Base.{Base}
use Rattle.rt_lines.specs.declared.line.Line.{Line}
use Rattle.rt_lines.specs.declared.line.Line.TheVariants.{Same, Sub, Low, Up}
use Rattle.rt_lines.specs.Orders.{Below}
use Rattle.rt_rules.specs.Rules.{HasSide}
use Rattle.rt_bridge.specs.Growing.{Var, dot, dv}
use Rattle.rt_bridge.proofs.Trees.{Fact, V, E, S, Lo, Hi, Tree, both}
use Rattle.rt_bridge.proofs.Trees.Tree.{e1, e2, e3a, e3b, e4, q0, q1, q2, q3, q4, q5, s1, s2, s3, s4, s5, s6, c1l, c1u, c2, c3}

abbrev pub root : Var → Base
root x = (dv x).base

-- The second variable may stand for the first one: it is the first, of a base that shows; or has its shape by the lines, and a kept base;
-- or both have a
-- letter more.
pub data Stands (order : Below) (lines : List Line) (Shows Kept : Base → Type 0) : Var → Var → Type 0 where
  itself : (x : Var) → Shows (root x) → Stands order lines Shows Kept x x
  by_shape : (x y : Var) → Kept (root y) → Tree order lines (E x y) → Stands order lines Shows Kept x y
  more : {x y : Var} (l : Label) → Stands order lines Shows Kept x y → Stands order lines Shows Kept (dot x l) (dot y l)

module _ (order : Below) (lines added written : List Line) (Shows Kept : Base → Type 0)
    (keeps : (x : Var) → Shows (root x) → Tree order lines (V x) → Kept (root x))
    (one_class : (x y : Var) → Kept (root x) → Kept (root y) → Tree order lines (E x y) → Tree order written (E x y))
    (stays : (l : Line) → Contains added l → Contains written l)
    (outer : (l : Line) (x : Var) → Contains added l → HasSide l (dv x) → Shows (root x)) where
  abbrev L : Fact → Type 0
  L f = Tree order lines f

  abbrev W : Fact → Type 0
  W f = Tree order written f

  abbrev For : Var → Var → Type 0
  For x y = Stands order lines Shows Kept x y

  there : {x y : Var} → L (E x y) → L (V x) × L (V y)
  there d = both order lines d

  there_written : {x y : Var} → W (E x y) → W (V x) × W (V y)
  there_written d = both order written d

  -- where the lines derive a variable, what stands for it has its shape and a kept base
  one_shape : {x y : Var} → For x y → L (V x) → L (E x y) × Kept (root y)
  one_shape (itself x h) d = (q2 d, keeps x h d)
  one_shape (by_shape x y k e) d = (e, k)
  one_shape (more l r) d = let p = one_shape r (e2 l d) in (q5 l p.0 d, p.1)

  -- what stands for a variable of a base that shows has its shape by the lines that are written, where one of the two is there
  shown : {x y : Var} → For x y → Shows (root x) → W (V x) → W (E x y)
  shown (itself x h) s d = q2 d
  shown (by_shape x y k e) s d = one_class x y (keeps x s (there e).0) k e
  shown (more l r) s d = q5 l (shown r s (e2 l d)) d

  shown_back : {x y : Var} → For x y → Shows (root x) → W (V y) → W (E x y)
  shown_back (itself x h) s d = q2 d
  shown_back (by_shape x y k e) s d = one_class x y (keeps x s (there e).0) k e
  shown_back (more l r) s d = q3 (q5 l (q3 (shown_back r s (e2 l d))) d)

  -- what stands for one variable has one shape
  unique : {x y z : Var} → For x y → For x z → W (V y) → W (E y z)
  unique (itself x h) r d = shown r h d
  unique (by_shape x y k e) r d = let p = one_shape r (there e).0 in one_class y _ k p.1 (q4 (q3 e) p.0)
  unique (more l r) (more m s) d = q5 l (unique r s (e2 l d)) d
  unique (more l r) (itself x h) d = q3 (shown_back (more l r) h d)
  unique (more l r) (by_shape x z k e) d = let p = one_shape (more l r) (there e).0 in one_class _ z p.1 k (q4 (q3 p.0) e)

  -- the lines derive it, or the lines that are written derive it of what stands for it
  abbrev HasV : Var → Type 0
  HasV x = L (V x) ⊎ ((y : Var) × For x y × W (V y))

  abbrev HasE : Var → Var → Type 0
  HasE x y = L (E x y) ⊎ ((u : Var) × (w : Var) × For x u × For y w × W (E u w))

  use_v : {x y : Var} → HasV x → For x y → W (V y)
  use_v (inl d) r = let p = one_shape r d in (there_written (one_class _ _ p.1 p.1 (q2 (there p.0).1))).0
  use_v (inr (z, s, d)) r = (there_written (unique s r d)).1

  use_e : {x y u w : Var} → HasE x y → For x u → For y w → W (E u w)
  use_e (inl d) r s = let p = one_shape r (there d).0 in let q = one_shape s (there d).1 in one_class _ _ p.1 q.1 (q4 (q3 p.0) (q4 d q.0))
  use_e (inr (u, w, r, s, d)) r' s' = q4 (q3 (unique r r' (there_written d).0)) (q4 d (unique s s' (there_written d).1))

  -- what stands for a variable stands for each of its shape
  for_shape : {x y u : Var} → L (E x y) → For x u → For y u
  for_shape {y = y} {u = u} d r = let p = one_shape r (there d).0 in by_shape y u p.1 (q4 (q3 d) p.0)

  -- what stands for a variable with a letter more is one with that letter more, or the lines derive that variable
  shorter : {x z : Var} (l : Label) → For (dot x l) z → ((u : Var) × For x u × (z ≡ dot u l)) ⊎ L (V (dot x l))
  shorter {x} l (itself _ h) = inl (x, itself x h, refl)
  shorter l (by_shape _ y k e) = inr (there e).0
  shorter l (more {y = u} _ r) = inl (u, r, refl)

  left_v : {x y : Var} → HasE x y → HasV x
  left_v (inl d) = inl (there d).0
  left_v (inr (u, w, r, s, d)) = inr (u, r, (there_written d).0)

  back_e : {x y : Var} → HasE x y → HasE y x
  back_e (inl d) = inl (q3 d)
  back_e (inr (u, w, r, s, d)) = inr (w, u, s, r, q3 d)

  self_e : {x : Var} → HasV x → HasE x x
  self_e (inl d) = inl (q2 d)
  self_e (inr (u, r, d)) = inr (u, u, r, r, q2 d)

  chain_e : {x y z : Var} → HasE x y → HasE y z → HasE x z
  chain_e (inl d) (inl e) = inl (q4 d e)
  chain_e (inl d) (inr (u, w, r, s, e)) = inr (u, w, for_shape (q3 d) r, s, e)
  chain_e (inr (u, w, r, s, d)) (inl e) = inr (u, w, r, for_shape e s, d)
  chain_e (inr (u, w, r, s, d)) (inr (u', w', r', s', e)) = inr (u, w', r, s', q4 d (q4 (unique s r' (there_written d).1) e))

  prefix_v : {x : Var} (l : Label) → HasV (dot x l) → HasV x
  prefix_v {x} l (inl d) = inl (e2 l d)
  prefix_v {x} l (inr (z, r, d)) = by (shorter l r)
    where
      by : ((u : Var) × For x u × (z ≡ dot u l)) ⊎ L (V (dot x l)) → HasV x
      by (inl (u, s, e)) = inr (u, s, e2 l (subst (λ y. W (V y)) e d))
      by (inr e) = inl (e2 l e)

  longer_e : {x y : Var} (l : Label) → HasE x y → HasV (dot x l) → HasE (dot x l) (dot y l)
  longer_e {x} {y} l (inl e) (inl d) = inl (q5 l e d)
  longer_e {x} {y} l (inl e) (inr (z, r, d)) = by (shorter l r)
    where
      by : ((u : Var) × For x u × (z ≡ dot u l)) ⊎ L (V (dot x l)) → HasE (dot x l) (dot y l)
      by (inl (u, s, f)) = inr (dot u l, dot u l, more l s, more l (for_shape e s), q2 (subst (λ v. W (V v)) f d))
      by (inr f) = inl (q5 l e f)
  longer_e {x} {y} l (inr (u, w, r, s, e)) h = inr (dot u l, dot w l, more l r, more l s, q5 l e (use_v h (more l r)))

  pointer_e : {x : Var} → HasV (dot x Load) → HasV (dot x Store) → HasE (dot x Store) (dot x Load)
  pointer_e {x} h k = load h k
    where
      joined : (u : Var) → For x u → HasV (dot x Load) → HasV (dot x Store) → HasE (dot x Store) (dot x Load)
      joined u r h k = inr (dot u Store, dot u Load, more Store r, more Load r, q1 (s6 (use_v h (more Load r)) (use_v k (more Store r))))

      both_by : L (V (dot x Load)) → HasV (dot x Store) → (z : Var) → ((u : Var) × For x u × (z ≡ dot u Store)) ⊎ L (V (dot x Store)) →
          HasE (dot x Store) (dot x Load)
      both_by d k z (inl (u, r, e)) = joined u r (inl d) k
      both_by d k z (inr e) = inl (q1 (s6 d e))

      store : L (V (dot x Load)) → HasV (dot x Store) → HasE (dot x Store) (dot x Load)
      store d (inl e) = inl (q1 (s6 d e))
      store d (inr (z, r, e)) = both_by d (inr (z, r, e)) z (shorter Store r)

      load_by : HasV (dot x Load) → HasV (dot x Store) → (z : Var) → ((u : Var) × For x u × (z ≡ dot u Load)) ⊎ L (V (dot x Load)) →
          HasE (dot x Store) (dot x Load)
      load_by h k z (inl (u, r, e)) = joined u r h k
      load_by h k z (inr d) = store d k

      load : HasV (dot x Load) → HasV (dot x Store) → HasE (dot x Store) (dot x Load)
      load (inl d) k = store d k
      load (inr (z, r, d)) k = load_by (inr (z, r, d)) k z (shorter Load r)

  abbrev Holds : Fact → Type 0
  Holds (V x) = HasV x
  Holds (E x y) = HasE x y
  Holds (S x y) = HasE x y
  Holds (Lo k x) = Unit {0}
  Holds (Hi x k) = Unit {0}

  line_v : (l : Line) (x : Var) → HasSide l (dv x) → Contains lines l ⊎ Contains added l → HasV x
  line_v l x h (inl c) = inl (e1 l c h)
  line_v l x h (inr c) = inr (x, itself x (outer l x c h), e1 l (stays l c) h)

  line_same : (x y : Var) → Contains lines (Same (dv x) (dv y)) ⊎ Contains added (Same (dv x) (dv y)) → HasE x y
  line_same x y (inl c) = inl (q0 c)
  line_same x y (inr c) = inr (x, y, itself x (outer _ x c (inl refl)), itself y (outer _ y c (inr refl)), q0 (stays _ c))

  line_sub : (x y : Var) → Contains lines (Sub (dv x) (dv y)) ⊎ Contains added (Sub (dv x) (dv y)) → HasE x y
  line_sub x y (inl c) = inl (q1 (s1 c))
  line_sub x y (inr c) = inr (x, y, itself x (outer _ x c (inl refl)), itself y (outer _ y c (inr refl)), q1 (s1 (stays _ c)))

  holds : {f : Fact} → Tree order (lines ++ added) f → Holds f
  holds (e1 l {x} c h) = line_v l x h (Contains-append_cases lines added l c)
  holds (e2 l d) = prefix_v l (holds d)
  holds (e3a d) = left_v (holds d)
  holds (e3b d) = left_v (back_e (holds d))
  holds (e4 l d e) = left_v (back_e (longer_e l (holds d) (holds e)))
  holds (q0 {x} {y} c) = line_same x y (Contains-append_cases lines added (Same (dv x) (dv y)) c)
  holds (q1 d) = holds d
  holds (q2 d) = self_e (holds d)
  holds (q3 d) = back_e (holds d)
  holds (q4 d e) = chain_e (holds d) (holds e)
  holds (q5 l d e) = longer_e l (holds d) (holds e)
  holds (s1 {x} {y} c) = line_sub x y (Contains-append_cases lines added (Sub (dv x) (dv y)) c)
  holds (s2 d) = self_e (holds d)
  holds (s3 d e) = chain_e (holds d) (holds e)
  holds (s4 l d e h) = back_e (longer_e l (back_e (holds d)) (holds e))
  holds (s5 l d e h) = longer_e l (back_e (holds d)) (holds e)
  holds (s6 d e) = pointer_e (holds d) (holds e)
  holds (c1l c) = tt
  holds (c1u c) = tt
  holds (c2 d e a) = tt
  holds (c3 d e a) = tt

  pub shown_var : (x : Var) → Shows (root x) → Tree order (lines ++ added) (V x) → W (V x)
  shown_var x h d = use_v (holds d) (itself x h)

  -- a `<=` line of the lines is of one variable, or of bases that show, and is written; and bounds are written
  module _
      (sub_line : (x y : Var) → Contains lines (Sub (dv x) (dv y)) → (x ≡ y) ⊎
      (Shows (root x) × Shows (root y) × Contains written (Sub (dv x) (dv y))))
      (low : (k : ℕ) (x : Var) → Contains lines (Low k (dv x)) → Contains written (Low k (dv x)))
      (high : (k : ℕ) (x : Var) → Contains lines (Up (dv x) k) → Contains written (Up (dv x) k)) where
    abbrev IsOneWay : Var → Var → Type 0
    IsOneWay x y = (x ≡ y) ⊎ (Shows (root x) × Shows (root y) × Contains written (Sub (dv x) (dv y)))

    way : (x y : Var) → Contains lines (Sub (dv x) (dv y)) ⊎ Contains added (Sub (dv x) (dv y)) → IsOneWay x y
    way x y (inl c) = sub_line x y c
    way x y (inr c) = inr (outer _ x c (inl refl), outer _ y c (inr refl), stays _ c)

    abbrev Both : Var → Var → Type 0
    Both x y = (Shows (root x) → Shows (root y)) × (Shows (root y) → Shows (root x))

    abbrev Roots : Fact → Type 0
    Roots (V x) = Unit {0}
    Roots (E x y) = Unit {0}
    Roots (S x y) = Both x y
    Roots (Lo k x) = Unit {0}
    Roots (Hi x k) = Unit {0}

    line_roots : (x y : Var) → IsOneWay x y → Both x y
    line_roots x y (inl e) = (λ h. subst (λ z. Shows (root z)) e h, λ h. subst (λ z. Shows (root z)) (sym e) h)
    line_roots x y (inr (h, k, c)) = (λ s. k, λ s. h)

    roots : {f : Fact} → Tree order (lines ++ added) f → Roots f
    roots (e1 l m h) = tt
    roots (e2 l d) = tt
    roots (e3a d) = tt
    roots (e3b d) = tt
    roots (e4 l d e) = tt
    roots (q0 m) = tt
    roots (q1 d) = tt
    roots (q2 d) = tt
    roots (q3 d) = tt
    roots (q4 d e) = tt
    roots (q5 l d e) = tt
    roots (s1 {x} {y} c) = line_roots x y (way x y (Contains-append_cases lines added (Sub (dv x) (dv y)) c))
    roots (s2 d) = (λ h. h, λ h. h)
    roots (s3 d e) = (λ h. (roots e).0 ((roots d).0 h), λ h. (roots d).1 ((roots e).1 h))
    roots (s4 l d e h) = roots d
    roots (s5 l d e h) = ((roots d).1, (roots d).0)
    roots (s6 d e) = (λ h. h, λ h. h)
    roots (c1l c) = tt
    roots (c1u c) = tt
    roots (c2 d e a) = tt
    roots (c3 d e a) = tt

    abbrev Under : Fact → Type 0
    Under (V x) = Unit {0}
    Under (E x y) = Unit {0}
    Under (S x y) = Shows (root x) → W (S x y)
    Under (Lo k x) = Shows (root x) → W (Lo k x)
    Under (Hi x k) = Shows (root x) → W (Hi x k)

    line_under : (x y : Var) → Tree order (lines ++ added) (V x) → IsOneWay x y → Shows (root x) → W (S x y)
    line_under x y d (inl e) h = subst (λ z. W (S x z)) e (s2 (shown_var x h d))
    line_under x y d (inr k) h = s1 k.2

    low_under : (k : ℕ) (x : Var) → Contains lines (Low k (dv x)) ⊎ Contains added (Low k (dv x)) → W (Lo k x)
    low_under k x (inl c) = c1l (low k x c)
    low_under k x (inr c) = c1l (stays _ c)

    up_under : (k : ℕ) (x : Var) → Contains lines (Up (dv x) k) ⊎ Contains added (Up (dv x) k) → W (Hi x k)
    up_under k x (inl c) = c1u (high k x c)
    up_under k x (inr c) = c1u (stays _ c)

    pub under : {f : Fact} → Tree order (lines ++ added) f → Under f
    under (e1 l m h) = tt
    under (e2 l d) = tt
    under (e3a d) = tt
    under (e3b d) = tt
    under (e4 l d e) = tt
    under (q0 m) = tt
    under (q1 d) = tt
    under (q2 d) = tt
    under (q3 d) = tt
    under (q4 d e) = tt
    under (q5 l d e) = tt
    under (s1 {x} {y} c) = line_under x y (e3a {y = y} (s1 c)) (way x y (Contains-append_cases lines added (Sub (dv x) (dv y)) c))
    under (s2 {x} d) = λ h. s2 (shown_var x h d)
    under (s3 d e) = λ h. s3 (under d h) (under e ((roots d).0 h))
    under (s4 {x} {y} l d e c) = λ h. s4 l (under d h) (shown_var (dot y l) ((roots d).0 h) e) c
    under (s5 {x} {y} l d e c) = λ h. s5 l (under d ((roots d).1 h)) (shown_var (dot y l) h e) c
    under (s6 {x} d e) = λ h. s6 (shown_var (dot x Load) h d) (shown_var (dot x Store) h e)
    under (c1l {k} {x} c) = λ h. low_under k x (Contains-append_cases lines added (Low k (dv x)) c)
    under (c1u {k} {x} c) = λ h. up_under k x (Contains-append_cases lines added (Up (dv x) k) c)
    under (c2 d e a) = λ h. c2 (under d ((roots e).1 h)) (under e ((roots e).1 h)) a
    under (c3 d e a) = λ h. c3 (under d h) (under e ((roots d).0 h)) a
