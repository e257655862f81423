-- Outer arcs: what is derivable they lead to.
use Rattle.std.proofs.Common.{◌≡◌, ℕ, ◌<◌, ◌⊎◌, inl, inr, Bool, true, false, List, [], ◌∷◌, ◌++◌, Contains, Option, Some, None, IsSome, length, get_or, refl, sym, ap, subst, ◌∙◌, arith}
use Rattle.std.specs.Prelude.{slice_get, is_some}
use Rattle.std.proofs.lemmas.List.{get_or_past}
use Rattle.std.proofs.lemmas.Option.{get_or_from_slice_get, slice_get-get_or, slice_get_within}
use Rattle.rt_lines.specs.declared.label.Label.{Label}
use Rattle.rt_lines.specs.declared.label.Label.TheVariants.{In, Out, Load, Store, Field}
use Rattle.rt_lines.specs.declared.label.Variance.TheVariants.{Co, Contra}
use Rattle.rt_lines.specs.declared.variable.Dtv.{Dtv}
use Rattle.rt_lines.specs.declared.line.Line.{Line}
use Rattle.rt_lines.specs.declared.line.Line.TheVariants.{Sub}
use Rattle.rt_lines.specs.Orders.{Below}
use Rattle.rt_lines.specs.Words.{label_variance}
use Rattle.rt_rules.specs.Rules.{longer, Derivable}
use Rattle.rt_rules.specs.Rules.Derivable.{prefix}
use Rattle.rt_rules.proofs.Carry.{given}
use Rattle.rt_rules.proofs.Covering.{derives_more}
use Rattle.rt_bridge.specs.Growing.{Var, dot, dv, vd, Given, Fact, V, E, S, Der, HasSub}
use Rattle.rt_bridge.specs.Counted.{Flip, IsPointer}
use Rattle.rt_bridge.proofs.Growing.{der, dv-vd, both, q1, q2, q3, q4, q5, s6}
use Rattle.rt_components.specs.Groups.{Reaches}
use Rattle.rt_components.specs.Groups.Reaches.{there, onward}
use Rattle.rt_enclosing.specs.Upper.{NeedHub, IsUpper, Steps, stay, by_line, by_push}
use Rattle.rt_enclosing.specs.Turning.{AreBehind, IsTurning}
use Rattle.rt_enclosing.proofs.Upper.{flip_along, steps_to}
use Rattle.rt_enclosing.proofs.Turning.{turning_steps}
use Rattle.rt_named.specs.Naming.{named as named_by}
use Rattle.rt_named.specs.Origins.{no_variable}
use Rattle.rt_shape.specs.Graphs.{Graph, node_of, step_of}
use Rattle.rt_shape.specs.Shapes.{IsShapeOf}
use Rattle.rt_shape.proofs.ReadWrite.{read_write_lem}
use Rattle.rt_outline.specs.declared.arc.Arc.{Arc}
use Rattle.rt_outline.specs.Arcs.{HasArc, Leads}
use Rattle.rt_outline.specs.Enclosing.{IsOuter}
use Rattle.rt_outline.specs.Frames.{Origins, IsMade, IsClosed, HavePointers, AreOriginsOf, variable_at}
use Rattle.rt_outline.specs.Frames.IsPushed.{co, contra}
use Rattle.rt_outline.specs.Hubs.{HasAccess, HaveHubs, common_of, key_of, key_by, key_from}
use Rattle.rt_outline.specs.Lines.{IsNumber, AreLineArcs, standing}
use Rattle.rt_outline.specs.Turning.{AreSplit, AreTold, AreTurning, HaveAbove, HaveBelow, HaveBoth, IsMarked}
use Rattle.rt_named.specs.Nodes.{AreNodesOf, AreFlipsOf, flips_at}
use Rattle.rt_outline.proofs.Inner.{distinct}
use Rattle.rt_outline.proofs.Naming.{is_known, parents, bases, both_sides}
use Rattle.rt_outline.proofs.Pushing.{reaches_join}
use Rattle.rt_outline.proofs.Standing.{Stands, standing_line}
use Rattle.rt_components.proofs.Reaching.{reaches_by}
use Rattle.rt_named.proofs.Making.{last_letter}
use Rattle.std.proofs.lemmas.Bool.{and_from}

no_letter : (w : List Label) (l : Label) → w ++ l ∷ [] ≡ [] → ⊥
no_letter [] l e = cc
no_letter (k ∷ w) l e = cc

-- pushed arcs are followed whichever lines stand
pushed_open : (arcs : List (List Arc)) (stands : List Bool) (v w : ℕ) → Leads arcs [] true v w → Leads arcs stands true v w
pushed_open arcs stands v w (None, c, e) = (None, c, refl)
pushed_open arcs stands v w (Some i, c, e) = absurd (let f : get_or [] i false ≡ false = get_or_past [] i false (omega arith) in let g : true ≡ false = sym e ∙ f in cc)

-- the node of a variable that can be read and written through has a load and a store
flips_there : (L : Given) (graph : Graph) → IsShapeOf L.lines graph → (x : Var) → Flip L x → flips_at graph (node_of graph (dv x)) ≡ true
flips_there L graph shape x f = by (node_of graph (dv x)) refl ((shape.there L.order (dv x)).1 (prefix Load f.0.derives))
  where
    by : (o : Option ℕ) → node_of graph (dv x) ≡ o → IsSome o → flips_at graph o ≡ true
    by None e s = absurd (cc)
    by (Some n) e s =
        let h : IsSome (step_of graph n Load) × IsSome (step_of graph n Store) = (read_write_lem L.lines graph L.order (dv x) n shape e).1 (f.0.derives, f.1.derives) in
        and_from (is_some (step_of graph n Load)) (is_some (step_of graph n Store)) h.0 h.1

-- the node of a variable that there is
node_there : (L : Given) (graph : Graph) → IsShapeOf L.lines graph → (x : Var) → Der L (V x) → (n : ℕ) × (node_of graph (dv x) ≡ Some n)
node_there L graph shape x d = by (node_of graph (dv x)) refl ((shape.there L.order (dv x)).1 d.derives)
  where
    by : (o : Option ℕ) → node_of graph (dv x) ≡ o → IsSome o → (n : ℕ) × (node_of graph (dv x) ≡ Some n)
    by None e s = absurd (cc)
    by (Some n) e s = (n, e)

-- letters of pointers behind what can be read and written through have one shape, and one letter
pointers_same : (L : Given) (x : Var) (l m : Label) → IsPointer l → IsPointer m → Flip L x → Der L (E (dot x l) (dot x m))
pointers_same L x Load Load p q f = q2 f.0
pointers_same L x Store Store p q f = q2 f.1
pointers_same L x Store Load p q f = q1 (s6 f.0 f.1)
pointers_same L x Load Store p q f = q3 (q1 (s6 f.0 f.1))
pointers_same L x (In a) m p q f = absurd p
pointers_same L x (Out a) m p q f = absurd p
pointers_same L x (Field a b) m p q f = absurd p
pointers_same L x Load (In a) p q f = absurd q
pointers_same L x Load (Out a) p q f = absurd q
pointers_same L x Load (Field a b) p q f = absurd q
pointers_same L x Store (In a) p q f = absurd q
pointers_same L x Store (Out a) p q f = absurd q
pointers_same L x Store (Field a b) p q f = absurd q

pointers_one : (l m : Label) → IsPointer l → IsPointer m → common_of true l ≡ common_of true m
pointers_one Load Load p q = refl
pointers_one Store Store p q = refl
pointers_one Store Load p q = refl
pointers_one Load Store p q = refl
pointers_one (In a) m p q = absurd p
pointers_one (Out a) m p q = absurd p
pointers_one (Field a b) m p q = absurd p
pointers_one Load (In a) p q = absurd q
pointers_one Load (Out a) p q = absurd q
pointers_one Load (Field a b) p q = absurd q
pointers_one Store (In a) p q = absurd q
pointers_one Store (Out a) p q = absurd q
pointers_one Store (Field a b) p q = absurd q

pointer_there : (L : Given) (x : Var) (m : Label) → IsPointer m → Flip L x → Der L (V (dot x m))
pointer_there L x Load p f = f.0
pointer_there L x Store p f = f.1
pointer_there L x (In a) p f = absurd p
pointer_there L x (Out a) p f = absurd p
pointer_there L x (Field a b) p f = absurd p

-- arcs of lines and pushed ones between the numbers of named variables and more nodes, closed, with pointers and hubs
module _ (lines : List Line) (extra known : List Dtv) (is : known ≡ named_by lines extra) (graph : Graph) (shape : IsShapeOf lines graph)
    (classes : List (Option ℕ)) (flips : List Bool) (classed : AreNodesOf graph known classes) (flagged : AreFlipsOf graph classes flips)
    (first origins : Origins) (are : AreOriginsOf known first) (behind : (n p : ℕ) (l : Label) → IsMade first n p l → IsMade origins n p l)
    (arcs : List (List Arc)) (all : List Bool) (whole : (i : ℕ) → i < length lines → get_or all i false ≡ true) (closed : IsClosed origins arcs all)
    (pointers : HavePointers origins arcs)
    (lowest : (n : ℕ) → slice_get flips n ≡ Some true → (h : ℕ) × HasAccess origins h × Reaches (Leads arcs all true) h n)
    (entered : AreLineArcs lines (length lines) known arcs) where
  abbrev Every : ℕ → ℕ → Type 0
  Every = Leads arcs all true

  abbrev Pushed : ℕ → ℕ → Type 0
  Pushed = Leads arcs [] true

  at_of : (n : ℕ) (x : Dtv) → IsNumber known n x → variable_at known n ≡ x
  at_of n x e = get_or_from_slice_get known n x no_variable e

  number_of : (x : Dtv) → Contains known x → (n : ℕ) × IsNumber known n x
  number_of x c = (c.0, slice_get-get_or known c.0 x c.1 ∙ ap Some c.2)

  one : (i j : ℕ) (x : Dtv) → IsNumber known i x → IsNumber known j x → i ≡ j
  one i j x h k = distinct lines extra known is i j (slice_get_within known i x h) (slice_get_within known j x k) (at_of i x h ∙ sym (at_of j x k))

  -- the number of a variable with a letter more is made of its number
  made : (v p : ℕ) (x : Dtv) (l : Label) → IsNumber known p x → IsNumber known v (longer x l) → IsMade origins v p l
  made v p x l h k = behind v p l (by (get_or first v None) (slice_get-get_or first v None small))
    where
      small : v < length first
      small = let s : v < length known = slice_get_within known v (longer x l) k in omega (arith, s, are.each)

      by : (o : Option (ℕ × Label)) → slice_get first v ≡ Some o → IsMade first v p l
      by None e = absurd (no_letter x.word l (sym (ap (λ (y : Dtv). y.word) (at_of v (longer x l) k)) ∙ are.bare v e))
      by (Some (q, m)) e =
          let a : (q < v) × (variable_at known v ≡ longer (variable_at known q) m) = are.only v q m e in
          let same : (x ≡ variable_at known q) × (l ≡ m) = last_letter x (variable_at known q) l m (sym (at_of v (longer x l) k) ∙ a.1) in
          let within : q < length known = (let s : v < length known = slice_get_within known v (longer x l) k in omega (arith, s, a.0)) in
          let n : q ≡ p = one q p x (slice_get-get_or known q no_variable within ∙ ap Some (sym same.0)) h in
          subst (λ u. IsMade first v u l) n (subst (λ u. IsMade first v q u) (sym same.1) e)

  class_at : (x : Dtv) (v : ℕ) → IsNumber known v x → get_or classes v None ≡ node_of graph x
  class_at x v h = classed.node v (slice_get_within known v x h) ∙ ap (node_of graph) (at_of v x h)

  flag_at : (x : Dtv) (v : ℕ) → IsNumber known v x → get_or flips v false ≡ flips_at graph (node_of graph x)
  flag_at x v h =
      let s : v < length known = slice_get_within known v x h in
      flagged.flag v (omega (arith, s, classed.each)) ∙ ap (flips_at graph) (class_at x v h)

  -- a way between the numbers of two variables
  abbrev Between : (ℕ → ℕ → Type 0) → Var → Var → Type 0
  Between R x y = (v : ℕ) × (w : ℕ) × IsNumber known v (dv x) × IsNumber known w (dv y) × Reaches R v w

  -- a node with a load and a store below both
  abbrev Meeting : ℕ → ℕ → Type 0
  Meeting v w = (h : ℕ) × HasAccess origins h × Reaches Every h v × Reaches Every h w

  abbrev Meets : Var → Var → Type 0
  Meets x y = (v : ℕ) × (w : ℕ) × IsNumber known v (dv x) × IsNumber known w (dv y) × Meeting v w

  abbrev M : Var → Type 0
  M x = Contains known (dv x)

  pushed_ways : (stands : List Bool) {v w : ℕ} → Reaches Pushed v w → Reaches (Leads arcs stands true) v w
  pushed_ways stands r = reaches_by Pushed (Leads arcs stands true) (pushed_open arcs stands) r

  chained : (x y z : Var) → Between Every x y → Between Every y z → Between Every x z
  chained x y z b c = (b.0, c.1, b.2, c.3, reaches_join Every (subst (Reaches Every b.0) (one b.1 c.0 (dv y) b.3 c.2) b.4) c.4)

  turned_meets : (x y : Var) → Meets x y → Meets y x
  turned_meets x y m = (m.1, m.0, m.3, m.2, (m.4.0, m.4.1, m.4.3, m.4.2))

  onward_meets : (x y z : Var) → Meets x y → Between Every y z → Meets x z
  onward_meets x y z m b = (m.0, b.1, m.2, b.3, (m.4.0, m.4.1, m.4.2, reaches_join Every (subst (Reaches Every m.4.0) (one m.1 b.0 (dv y) m.3 b.2) m.4.3) b.4))

  longer_co : (x y : Var) (l : Label) → label_variance l ≡ Co → M (dot x l) → M (dot y l) → Between Every x y → Between Pushed (dot x l) (dot y l)
  longer_co x y l s m n b =
      let v : (v : ℕ) × IsNumber known v (dv (dot x l)) = number_of (dv (dot x l)) m in
      let w : (w : ℕ) × IsNumber known w (dv (dot y l)) = number_of (dv (dot y l)) n in
      (v.0, w.0, v.1, w.1, closed v.0 w.0 (co s (made v.0 b.0 (dv x) l b.2 v.1) (made w.0 b.1 (dv y) l b.3 w.1) b.4))

  longer_contra : (x y : Var) (l : Label) → label_variance l ≡ Contra → M (dot x l) → M (dot y l) → Between Every x y → Between Pushed (dot y l) (dot x l)
  longer_contra x y l s m n b =
      let v : (v : ℕ) × IsNumber known v (dv (dot x l)) = number_of (dv (dot x l)) m in
      let w : (w : ℕ) × IsNumber known w (dv (dot y l)) = number_of (dv (dot y l)) n in
      (w.0, v.0, w.1, v.1, closed w.0 v.0 (contra s (made w.0 b.1 (dv y) l b.3 w.1) (made v.0 b.0 (dv x) l b.2 v.1) b.4))

  -- from a store by the node that is below both to a load
  over_hub : (x y : Var) → M (dot x Store) → M (dot y Load) → Meets x y → Between Pushed (dot x Store) (dot y Load)
  over_hub x y m n b =
      let v : (v : ℕ) × IsNumber known v (dv (dot x Store)) = number_of (dv (dot x Store)) m in
      let w : (w : ℕ) × IsNumber known w (dv (dot y Load)) = number_of (dv (dot y Load)) n in
      let h : HasAccess origins b.4.0 = b.4.1 in
      let up : Reaches Pushed v.0 h.1.0 = closed v.0 h.1.0 (contra refl (made v.0 b.0 (dv x) Store b.2 v.1) h.1.1 b.4.2) in
      let down : Reaches Pushed h.0.0 w.0 = closed h.0.0 w.0 (co refl h.0.1 (made w.0 b.1 (dv y) Load b.3 w.1) b.4.3) in
      (v.0, w.0, v.1, w.1, reaches_join Pushed up (onward (None, pointers b.4.0 h.1.0 h.0.0 h.1.1 h.0.1, refl) down))

  module _ (order : Below) where
    abbrev L : Given
    L = record { order = order; lines = lines }

    flip_at : (x : Var) (v : ℕ) → IsNumber known v (dv x) → Flip L x → slice_get flips v ≡ Some true
    flip_at x v h f =
        let s : v < length known = slice_get_within known v (dv x) h in
        slice_get-get_or flips v false (omega (arith, s, classed.each, flagged.each)) ∙ ap Some (flag_at (dv x) v h ∙ flips_there L graph shape x f)

    alone_meets : (x : Var) → M x → Flip L x → Meets x x
    alone_meets x m f =
        let v : (v : ℕ) × IsNumber known v (dv x) = number_of (dv x) m in
        let h : (h : ℕ) × HasAccess origins h × Reaches Every h v.0 = lowest v.0 (flip_at x v.0 v.1 f) in
        (v.0, v.0, v.1, v.1, (h.0, h.1, h.2, h.2))

    -- the key of the number of a variable with a letter more
    key_at : (x : Var) (l : Label) (v p c : ℕ) → IsNumber known p (dv x) → IsNumber known v (dv (dot x l)) → node_of graph (dv x) ≡ Some c →
        key_of origins classes flips v ≡ Some (c, common_of (flips_at graph (Some c)) l)
    key_at x l v p c h k e =
        ap (key_from classes flips) (made v p (dv x) l h k) ∙ ap (key_by flips p l) (class_at (dv x) p h ∙ e)
        ∙ ap (λ (b : Bool). Some (c, common_of b l)) (flag_at (dv x) p h ∙ ap (flips_at graph) e)

    -- letters beside each other have one letter for both
    beside_one : (x : Var) (l m : Label) (c : ℕ) → node_of graph (dv x) ≡ Some c → (l ≡ m) ⊎ (IsPointer l × IsPointer m × Flip L x) →
        common_of (flips_at graph (Some c)) l ≡ common_of (flips_at graph (Some c)) m
    beside_one x l m c e (inl f) = ap (common_of (flips_at graph (Some c))) f
    beside_one x l m c e (inr (p, q, f)) =
        let t : flips_at graph (Some c) ≡ true = ap (flips_at graph) (sym e) ∙ flips_there L graph shape x f in
        ap (λ (b : Bool). common_of b l) t ∙ pointers_one l m p q ∙ ap (λ (b : Bool). common_of b m) (sym t)

    -- and variables behind them one shape
    beside_same : (x y : Var) (l m : Label) → Der L (E x y) → Der L (V (dot x l)) → (l ≡ m) ⊎ (IsPointer l × IsPointer m × Flip L x) → Der L (E (dot x l) (dot y m))
    beside_same x y l m e d (inl f) = subst (λ k. Der L (E (dot x l) (dot y k))) f (q5 l e d)
    beside_same x y l m e d (inr (p, q, f)) = q4 (pointers_same L x l m p q f) (q5 m e (pointer_there L x m q f))

    -- where hubs stand for all that may have a common lower variable
    module _ (hubs : HaveHubs origins arcs classes flips) where
      hub_meets : (x y : Var) (l m : Label) → NeedHub L M x y l m → Meets (dot x l) (dot y m)
      hub_meets x y l m need =
          let v : (v : ℕ) × IsNumber known v (dv (dot x l)) = number_of (dv (dot x l)) need.first.0 in
          let w : (w : ℕ) × IsNumber known w (dv (dot y m)) = number_of (dv (dot y m)) need.second.0 in
          let p : (p : ℕ) × IsNumber known p (dv x) = number_of (dv x) (parents L extra known is x l need.first.0) in
          let q : (q : ℕ) × IsNumber known q (dv y) = number_of (dv y) (parents L extra known is y m need.second.0) in
          let c : (c : ℕ) × (node_of graph (dv x) ≡ Some c) = node_there L graph shape x (both L need.same).0 in
          let d : (d : ℕ) × (node_of graph (dv y) ≡ Some d) = node_there L graph shape y (both L need.same).1 in
          let same : c.0 ≡ d.0 = (shape.one order (dv x) (dv y) c.0 d.0 c.1 d.1).1 need.same.derives in
          let k : key_of origins classes flips v.0 ≡ Some (c.0, common_of (flips_at graph (Some c.0)) l) = key_at x l v.0 p.0 c.0 p.1 v.1 c.1 in
          let j : key_of origins classes flips w.0 ≡ Some (c.0, common_of (flips_at graph (Some c.0)) l) =
          key_at y m w.0 q.0 c.0 q.1 w.1 (d.1 ∙ ap Some (sym same)) ∙ ap (λ (k : Label). Some (c.0, k)) (sym (beside_one x l m c.0 c.1 need.beside)) in
          let flip : Flip L (dot y m) = flip_along L (beside_same x y l m need.same need.first.1 need.beside) need.flips in
          let a = (hubs.2 v.0 (flip_at (dot x l) v.0 v.1 need.flips)).hub (c.0, common_of (flips_at graph (Some c.0)) l) k in
          let b = (hubs.2 w.0 (flip_at (dot y m) w.0 w.1 flip)).hub (c.0, common_of (flips_at graph (Some c.0)) l) j in
          let g : Some a.0 ≡ Some b.0 = sym a.1 ∙ b.1 in
          let h : a.0 ≡ b.0 = cc in
          (v.0, w.0, v.1, w.1, (a.0, hubs.1 (c.0, common_of (flips_at graph (Some c.0)) l) a.0 a.1, onward (None, a.2, refl) there, onward (None, subst (λ n. HasArc arcs n w.0 None) (sym h) b.2, refl) there))

      upper : IsUpper L M (Between Every) Meets (Between Pushed)
      upper = record {
        self = λ {x} t. (let v : (v : ℕ) × IsNumber known v (dv x) = number_of (dv x) t.0 in (v.0, v.0, v.1, v.1, there));
        chain = λ {x} {y} {z} b c. chained x y z b c;
        stays = λ {x} {y} b. (b.0, b.1, b.2, b.3, pushed_ways all b.4);
        co = λ {x} {y} l s t u e b. longer_co x y l s t.0 u.0 b;
        contra = λ {x} {y} l s t u e b. longer_contra x y l s t.0 u.0 b;
        pointer = λ {x} {y} t u f e b. over_hub x y t.0 u.0 b;
        alone = λ {x} t f. alone_meets x t.0 f;
        turned = λ {x} {y} b. turned_meets x y b;
        onward = λ {x} {y} {z} b c. onward_meets x y z b c;
        hubs = λ {x} {y} {l} {m} n. hub_meets x y l m n;
      }

    -- where nodes tell which variables have a common lower variable, and which a common upper one
    module _ (marks : List Bool) (told : AreTurning origins Every classes flips marks (length classes)) where
      abbrev Matters : Var → Type 0
      Matters x = (c : ℕ) × (node_of graph (dv x) ≡ Some c) × (get_or marks c false ≡ true)

      abbrev MayMeet : Var → Var → Type 0
      MayMeet x y = (v : ℕ) × (w : ℕ) × IsNumber known v (dv x) × IsNumber known w (dv y) × HaveBelow origins Every (get_or flips v false) v w

      abbrev MayJoin : Var → Var → Type 0
      MayJoin x y = (v : ℕ) × (w : ℕ) × IsNumber known v (dv x) × IsNumber known w (dv y) × HaveAbove Every v w

      small : (x : Var) (v : ℕ) → IsNumber known v (dv x) → v < length classes
      small x v h = let s : v < length known = slice_get_within known v (dv x) h in omega (arith, s, classed.each)

      marked_at : (x : Var) (v : ℕ) → IsNumber known v (dv x) → Matters x → IsMarked classes marks v
      marked_at x v h (c, e, m) = (c, class_at (dv x) v h ∙ e, m)

      matters_at : (x : Var) (v : ℕ) → IsNumber known v (dv x) → IsMarked classes marks v → Matters x
      matters_at x v h (c, e, m) = (c, sym (class_at (dv x) v h) ∙ e, m)

      flag_of : (x : Var) (v : ℕ) → IsNumber known v (dv x) → Flip L x → get_or flips v false ≡ true
      flag_of x v h f = flag_at (dv x) v h ∙ flips_there L graph shape x f

      -- variables of one shape have one node
      node_same : (x y : Var) (c : ℕ) → Der L (E x y) → node_of graph (dv x) ≡ Some c → node_of graph (dv y) ≡ Some c
      node_same x y c e f =
          let d : (d : ℕ) × (node_of graph (dv y) ≡ Some d) = node_there L graph shape y (both L e).1 in
          let same : c ≡ d.0 = (shape.one order (dv x) (dv y) c d.0 f d.1).1 e.derives in
          d.1 ∙ ap Some (sym same)

      flags_same : (x y : Var) (v w : ℕ) → IsNumber known v (dv x) → IsNumber known w (dv y) → Der L (E x y) → get_or flips w false ≡ get_or flips v false
      flags_same x y v w h k e =
          let c : (c : ℕ) × (node_of graph (dv x) ≡ Some c) = node_there L graph shape x (both L e).0 in
          flag_at (dv y) w k ∙ ap (flips_at graph) (node_same x y c.0 e c.1 ∙ sym c.1) ∙ sym (flag_at (dv x) v h)

      there_matters : (x : Var) → M x → Flip L x → Matters x
      there_matters x m f =
          let v : (v : ℕ) × IsNumber known v (dv x) = number_of (dv x) m in
          matters_at x v.0 v.1 ((told.marked v.0 (small x v.0 v.1)).through (flag_of x v.0 v.1 f))

      letter_matters : (x : Var) (l : Label) → M (dot x l) → Matters (dot x l) → Matters x
      letter_matters x l m w =
          let v : (v : ℕ) × IsNumber known v (dv (dot x l)) = number_of (dv (dot x l)) m in
          let p : (p : ℕ) × IsNumber known p (dv x) = number_of (dv x) (parents L extra known is x l m) in
          matters_at x p.0 p.1
          ((told.marked v.0 (small (dot x l) v.0 v.1)).letters p.0 l (made v.0 p.0 (dv x) l p.1 v.1) (marked_at (dot x l) v.0 v.1 w))

      self_below : (v : ℕ) → v < length known → HaveBelow origins Every (get_or flips v false) v v
      self_below v s = by (get_or flips v false) refl
        where
          by : (b : Bool) → get_or flips v false ≡ b → HaveBelow origins Every (get_or flips v false) v v
          by true e =
              let h : (h : ℕ) × HasAccess origins h × Reaches Every h v =
              lowest v (slice_get-get_or flips v false (omega (arith, s, classed.each, flagged.each)) ∙ ap Some e) in
              (h.0, λ f. h.1, h.2, h.2)
          by false e = (v, λ f. absurd (let g : false ≡ true = sym e ∙ f in cc), there, there)

      self_meets : (x : Var) → M x → MayMeet x x
      self_meets x m =
          let v : (v : ℕ) × IsNumber known v (dv x) = number_of (dv x) m in
          (v.0, v.0, v.1, v.1, self_below v.0 (slice_get_within known v.0 (dv x) v.1))

      self_joins : (x : Var) → M x → MayJoin x x
      self_joins x m = let v : (v : ℕ) × IsNumber known v (dv x) = number_of (dv x) m in (v.0, v.0, v.1, v.1, (v.0, there, there))

      other_meets : (x y : Var) → Der L (E x y) → MayMeet x y → MayMeet y x
      other_meets x y e (v, w, h, k, (n, a, r, s)) = (w, v, k, h, (n, λ f. a (sym (flags_same x y v w h k e) ∙ f), s, r))

      other_joins : (x y : Var) → MayJoin x y → MayJoin y x
      other_joins x y (v, w, h, k, (n, r, s)) = (w, v, k, h, (n, s, r))

      higher_meets : (x y z : Var) → MayMeet x y → Between Every y z → MayMeet x z
      higher_meets x y z (v, w, h, k, (n, a, r, s)) b =
          (v, b.1, h, b.3, (n, a, r, reaches_join Every (subst (Reaches Every n) (one w b.0 (dv y) k b.2) s) b.4))

      lower_joins : (x y z : Var) → MayJoin x y → Between Every z y → MayJoin x z
      lower_joins x y z (v, w, h, k, (n, r, s)) b =
          (v, b.0, h, b.2, (n, r, reaches_join Every b.4 (subst (λ u. Reaches Every u n) (one w b.1 (dv y) k b.3) s)))

      -- what is told of variables behind letters
      told_of : (x y : Var) (l m : Label) → AreBehind L M Matters x y l m → (v w p q : ℕ) → IsNumber known v (dv (dot x l)) →
          IsNumber known w (dv (dot y m)) → IsNumber known p (dv x) → IsNumber known q (dv y) → AreTold origins Every flips p q l m v w
      told_of x y l m b v w p q h k i j =
          let c : (c : ℕ) × (node_of graph (dv x) ≡ Some c) = node_there L graph shape x (both L b.same).0 in
          told.told v (small (dot x l) v h) p c.0 l (made v p (dv x) l i h) (marked_at (dot x l) v h b.matters) (class_at (dv x) p i ∙ c.1)
          w q m (small (dot y m) w k) (made w q (dv y) m j k) (class_at (dv y) q j ∙ node_same x y c.0 b.same c.1)

      weaker : (a : Bool) (p q : ℕ) → HaveBelow origins Every a p q → HaveBelow origins Every false p q
      weaker a p q (n, f, r, s) = (n, λ e. absurd (cc), r, s)

      behind_meets : (x y : Var) (l : Label) → AreBehind L M Matters x y l l → (p q : ℕ) → IsNumber known p (dv x) → IsNumber known q (dv y) →
          ((v w : ℕ) → AreSplit origins Every (get_or flips v false) (label_variance l) p q v w → HaveBelow origins Every (get_or flips v false) v w) →
          MayMeet (dot x l) (dot y l)
      behind_meets x y l b p q i j f =
          let v : (v : ℕ) × IsNumber known v (dv (dot x l)) = number_of (dv (dot x l)) b.first.0 in
          let w : (w : ℕ) × IsNumber known w (dv (dot y l)) = number_of (dv (dot y l)) b.second.0 in
          (v.0, w.0, v.1, w.1, f v.0 w.0 ((told_of x y l l b v.0 w.0 p q v.1 w.1 i j).same refl))

      behind_joins : (x y : Var) (l : Label) → AreBehind L M Matters x y l l → (p q : ℕ) → IsNumber known p (dv x) → IsNumber known q (dv y) →
          ((v w : ℕ) → AreSplit origins Every (get_or flips v false) (label_variance l) p q v w → HaveAbove Every v w) →
          MayJoin (dot x l) (dot y l)
      behind_joins x y l b p q i j f =
          let v : (v : ℕ) × IsNumber known v (dv (dot x l)) = number_of (dv (dot x l)) b.first.0 in
          let w : (w : ℕ) × IsNumber known w (dv (dot y l)) = number_of (dv (dot y l)) b.second.0 in
          (v.0, w.0, v.1, w.1, f v.0 w.0 ((told_of x y l l b v.0 w.0 p q v.1 w.1 i j).same refl))

      both_of : (x y : Var) (l m : Label) → IsPointer l → IsPointer m → Flip L x → AreBehind L M Matters x y l m →
          (v : ℕ) × (w : ℕ) × IsNumber known v (dv (dot x l)) × IsNumber known w (dv (dot y m)) × HaveBoth origins Every (get_or flips v false) v w
      both_of x y l m i j f b =
          let v : (v : ℕ) × IsNumber known v (dv (dot x l)) = number_of (dv (dot x l)) b.first.0 in
          let w : (w : ℕ) × IsNumber known w (dv (dot y m)) = number_of (dv (dot y m)) b.second.0 in
          let p : (p : ℕ) × IsNumber known p (dv x) = number_of (dv x) (parents L extra known is x l b.first.0) in
          let q : (q : ℕ) × IsNumber known q (dv y) = number_of (dv y) (parents L extra known is y m b.second.0) in
          (v.0, w.0, v.1, w.1, (told_of x y l m b v.0 w.0 p.0 q.0 v.1 w.1 p.1 q.1).pointers i j (flag_of x p.0 p.1 f))

      over_meet : (x y : Var) → M (dot x Store) → M (dot y Load) → Flip L x → MayMeet x y → Between Pushed (dot x Store) (dot y Load)
      over_meet x y m n f (v, w, h, k, (u, a, r, s)) = over_hub x y m n (v, w, h, k, (u, a (flag_of x v h f), r, s))

      turning : IsTurning L M Matters (Between Every) MayMeet MayJoin (Between Pushed)
      turning = record {
        self = λ {x} t. (let v : (v : ℕ) × IsNumber known v (dv x) = number_of (dv x) t.0 in (v.0, v.0, v.1, v.1, there));
        chain = λ {x} {y} {z} b c. chained x y z b c;
        stays = λ {x} {y} b. (b.0, b.1, b.2, b.3, pushed_ways all b.4);
        co = λ {x} {y} l s t u e b. longer_co x y l s t.0 u.0 b;
        contra = λ {x} {y} l s t u e b. longer_contra x y l s t.0 u.0 b;
        pointer = λ {x} {y} t u f e b. over_meet x y t.0 u.0 f b;
        flips = λ {x} t f. there_matters x t.0 f;
        shape = λ {x} {y} e w. (w.0, node_same x y w.0 e w.1, w.2);
        letter = λ {x} l t w. letter_matters x l t.0 w;
        alone_meets = λ {x} t w. self_meets x t.0;
        turned_meets = λ {x} {y} e b. other_meets x y e b;
        onward_meets = λ {x} {y} {z} b c. higher_meets x y z b c;
        alone_joins = λ {x} t w. self_joins x t.0;
        turned_joins = λ {x} {y} b. other_joins x y b;
        onward_joins = λ {x} {y} {z} b c. lower_joins x y z b c;
        meets_co = λ {x} {y} l s b m. behind_meets x y l b m.0 m.1 m.2 m.3 (λ v w t. t.co_below s (weaker (get_or flips m.0 false) m.0 m.1 m.4));
        meets_contra = λ {x} {y} l s b m. behind_meets x y l b m.0 m.1 m.2 m.3 (λ v w t. t.contra_below s m.4);
        joins_co = λ {x} {y} l s b m. behind_joins x y l b m.0 m.1 m.2 m.3 (λ v w t. t.co_above s m.4);
        joins_contra =
            λ {x} {y} l s b m. behind_joins x y l b m.0 m.1 m.2 m.3 (λ v w t. t.contra_above s (weaker (get_or flips m.0 false) m.0 m.1 m.4));
        meets_pointer = λ {x} {y} {l} {m} i j f b. (let t = both_of x y l m i j f b in (t.0, t.1, t.2, t.3, t.4.below));
        joins_pointer = λ {x} {y} {l} {m} i j f b. (let t = both_of x y l m i j f b in (t.0, t.1, t.2, t.3, t.4.above));
      }

    module _ (stands : List Bool) where
      abbrev some : List Line
      some = standing lines stands

      abbrev fewer : Given
      fewer = record { order = order; lines = some }

      some_line : (l : Line) → Contains some l → Contains lines l
      some_line l c = let r : (i : ℕ) × Stands lines stands i l = standing_line lines stands l c in (r.0, slice_get_within lines r.0 l r.1.0, get_or_from_slice_get lines r.0 l l r.1.0)

      more : (f : Fact) → Der fewer f → Der L f
      more f d = der L f (derives_more order some lines (λ l c. given order lines l (some_line l c)) d.derives)

      abbrev HasLine : Var → Var → Type 0
      HasLine x y = (i : ℕ) × (v : ℕ) × (w : ℕ) × (i < length lines) × (get_or stands i false ≡ true) × IsNumber known v (dv x) × IsNumber known w (dv y) × HasArc arcs v w (Some i)

      line_arc : (x y : Var) → HasSub fewer x y → HasLine x y
      line_arc x y c =
          let s : (i : ℕ) × Stands lines stands i (Sub (dv x) (dv y)) = standing_line lines stands (Sub (dv x) (dv y)) c in
          let small : s.0 < length lines = slice_get_within lines s.0 (Sub (dv x) (dv y)) s.1.0 in
          let a : (v : ℕ) × (w : ℕ) × IsNumber known v (dv x) × IsNumber known w (dv y) × HasArc arcs v w (Some s.0) = entered.all s.0 (dv x) (dv y) small s.1.0 in
          (s.0, a.0, a.1, small, s.1.1, a.2, a.3, a.4)

      line_every : (x y : Var) → HasSub fewer x y → Between Every x y
      line_every x y c = let a : HasLine x y = line_arc x y c in (a.1, a.2, a.5, a.6, onward (Some a.0, a.7, whole a.0 a.3) there)

      abbrev Open : ℕ → ℕ → Type 0
      Open = Leads arcs stands true

      steps_reach : {x y : Var} → Steps fewer (Between Pushed) x y → (v w : ℕ) → IsNumber known v (dv x) → IsNumber known w (dv y) → Reaches Open v w
      steps_reach {x} stay v w h k = subst (Reaches Open v) (one v w (dv x) h k) there
      steps_reach (by_line {x} {y} c s) v w h k =
          let a : HasLine x y = line_arc x y c in
          onward (Some a.0, subst (λ n. HasArc arcs n a.2 (Some a.0)) (one a.1 v (dv x) a.5 h) a.7, a.4) (steps_reach s a.2 w a.6 k)
      steps_reach (by_push {x} {y} b s) v w h k =
          reaches_join Open (subst (λ n. Reaches Open n b.1) (one b.0 v (dv x) b.2 h) (pushed_ways stands b.4)) (steps_reach s b.1 w b.3 k)

      -- steps lead wherever the lines that stand say that a variable lies below another
      abbrev AreLedTo : Type 0
      AreLedTo = (x y : Var) → M x → M y → Der fewer (S x y) → Steps fewer (Between Pushed) x y

      derived_led : AreLedTo → (x y : Var) (v w : ℕ) → IsNumber known v (dv x) → IsNumber known w (dv y) → Der fewer (S x y) →
          Reaches Open v w
      derived_led steps x y v w h k d = steps_reach (steps x y (listed x v h) (listed y w k) d) v w h k
        where
          listed : (x : Var) (v : ℕ) → IsNumber known v (dv x) → M x
          listed x v h = (v, slice_get_within known v (dv x) h, get_or_from_slice_get known v (dv x) (dv x) h)

      by_hubs : HaveHubs origins arcs classes flips → AreLedTo
      by_hubs hubs x y p q d =
          steps_to L fewer M (Between Every) Meets (Between Pushed) (upper hubs) more (parents L extra known is) line_every
          (λ z. is_known known (dv z)) (λ b e. bases L extra known is b (more _ e)) (λ u z c. both_sides L extra known is u z (some_line _ c)) p q d

      by_turns : (marks : List Bool) → AreTurning origins Every classes flips marks (length classes) → AreLedTo
      by_turns marks told x y p q d =
          turning_steps L fewer M (Matters marks told) (Between Every) (MayMeet marks told) (MayJoin marks told) (Between Pushed)
          (turning marks told) more (parents L extra known is) line_every
          (λ z. is_known known (dv z)) (λ b e. bases L extra known is b (more _ e)) (λ u z c. both_sides L extra known is u z (some_line _ c)) p q d

  -- and so they are outer arcs
  outer_by : ((order : Below) (stands : List Bool) → AreLedTo order stands) → IsOuter lines known arcs
  outer_by steps order stands v w h k d =
      derived_led order stands (steps order stands) (vd x) (vd y) v w (number v h) (number w k)
      (der (fewer order stands) (S (vd x) (vd y)) (subst (λ z. Derivable order (standing lines stands) (Sub z (dv (vd y)))) (sym (dv-vd x)) (subst (λ z. Derivable order (standing lines stands) (Sub x z)) (sym (dv-vd y)) d)))
    where
      x : Dtv
      x = variable_at known v

      y : Dtv
      y = variable_at known w

      number : (n : ℕ) → n < length known → IsNumber known n (dv (vd (variable_at known n)))
      number n h = slice_get-get_or known n no_variable h ∙ ap Some (sym (dv-vd (variable_at known n)))

  pub outer_of : HaveHubs origins arcs classes flips → IsOuter lines known arcs
  outer_of hubs = outer_by (λ order stands. by_hubs order stands hubs)

  pub outer_turning : (marks : List Bool) → AreTurning origins (Leads arcs all true) classes flips marks (length classes) → IsOuter lines known arcs
  outer_turning marks told = outer_by (λ order stands. by_turns order stands marks told)
