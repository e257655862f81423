-- Half pushes go edge by edge, where both letters are named; kept pushes go to the nearest.
use Rattle.std.proofs.Common.{◌≡◌, ℕ, zero, suc, ◌⊎◌, inl, inr, refl, sym, subst, arith, ◌≤◌, ◌+◌}
use Rattle.rt_lines.specs.declared.label.Label.{Label}
use Rattle.rt_lines.specs.declared.label.Label.TheVariants.{Load, Store}
use Rattle.rt_lines.specs.declared.label.Variance.{Variance}
use Rattle.rt_lines.specs.declared.label.Variance.TheVariants.{Co, Contra}
use Rattle.rt_lines.specs.Words.{times}
use Rattle.rt_bridge.specs.Growing.{Var, dot}
use Rattle.rt_bridge.specs.Counted.{bit, differ, IsEven, State, st}
use Rattle.rt_bridge.specs.Ways.{Way, stays, turns, steps, WayIn}
use Rattle.rt_bridge.proofs.Bridges.{even_join, even_here}
use Rattle.rt_bridge.proofs.Tables.{one_step, one_turn, way_in, along_in}

-- the pointer letter of a sign
abbrev pub pointer : Variance → Label
pointer Co = Load
pointer Contra = Store

half_even : (n : ℕ) → IsEven n → (k : ℕ) × (k + k ≡ n)
half_even zero e = (0, refl)
half_even (suc zero) e = absurd (omega arith)
half_even (suc (suc n)) e = let h : (k : ℕ) × (k + k ≡ n) = half_even n (omega arith) in (suc h.0, omega (arith, h.1))

halved : (w : ℕ) (a b : Variance) → IsEven (w + differ a b) → (k : ℕ) × ((k + k) + bit b ≡ w + bit a)
halved w Co Co e = let h : (k : ℕ) × (k + k ≡ w) = half_even w (omega arith) in (h.0, omega (arith, h.1))
halved w Contra Contra e = let h : (k : ℕ) × (k + k ≡ w) = half_even w (omega arith) in (h.0, omega (arith, h.1))
halved w Co Contra e = let h : (k : ℕ) × (k + k ≡ w + 1) = half_even (w + 1) (omega arith) in (h.0, omega (arith, h.1))
halved zero Contra Co e = absurd (omega arith)
halved (suc w) Contra Co e = let h : (k : ℕ) × (k + k ≡ w) = half_even w (omega arith) in (h.0, omega (arith, h.1))

-- the sign at the other end of a count
signed : (k : ℕ) (c : Variance) → (e : Variance) × IsEven (k + differ c e)
signed zero c = (c, even_here c)
signed (suc k) c = by (signed k c)
  where
    by : (e : Variance) × IsEven (k + differ c e) → (e : Variance) × IsEven (suc k + differ c e)
    by (Co, h) = (Contra, turned c h)
      where
        turned : (c : Variance) → IsEven (k + differ c Co) → IsEven (suc k + differ c Contra)
        turned Co h = omega (arith, h)
        turned Contra h = omega (arith, h)
    by (Contra, h) = (Co, turned c h)
      where
        turned : (c : Variance) → IsEven (k + differ c Contra) → IsEven (suc k + differ c Co)
        turned Co h = omega (arith, h)
        turned Contra h = omega (arith, h)

-- The variables of a class have both letters. The child of sign c of a parent of sign a is that with the letter `pointer (times c a)`. An edge of count w
-- between parents gives one of count k between children, where 2 k and the right bit are w and the left bit.
module _ (Edge : State → State → ℕ → Type 0)
    (even : (x y : State) (w : ℕ) → Edge x y w → IsEven (w + differ x.sign y.sign))
    (edge : (x y : Var) (a b c e : Variance) (w k : ℕ) → Edge (st x a) (st y b) w → (k + k) + bit b ≡ w + bit a → IsEven (k + differ c e) →
    WayIn Edge (st (dot x (pointer (times c a))) c) (st (dot y (pointer (times e b))) e) k)
    (store_load : (x : Var) → Edge (st (dot x Store) Co) (st (dot x Load) Co) 0)
    (load_store : (x : Var) → Edge (st (dot x Load) Contra) (st (dot x Store) Contra) 0) where
  -- what a way between parents gives between children: the right child's sign follows from the count
  pub record Child (x y : Var) (a b c : Variance) (d : ℕ) : Type 0 where
    pub sign : Variance
    pub count : ℕ
    pub exact : (count + count) + bit b ≡ d + bit a
    pub parity : IsEven (count + differ c sign)
    pub ways : WayIn Edge (st (dot x (pointer (times c a))) c) (st (dot y (pointer (times sign b))) sign) count

  turned_co : (x y : Var) (b c : Variance) (d : ℕ) → ((e : Variance) → Child x y Contra b e d) → Child x y Co b c (1 + d)
  turned_co x y b Co d f = let r : Child x y Contra b Contra d = f Contra in
      record {
        sign = r.sign;
        count = 1 + r.count;
        exact = omega (arith, r.exact);
        parity = even_join Co Contra r.sign 1 r.count refl r.parity;
        ways = along_in Edge (way_in Edge 1 (omega arith) (one_turn Edge (dot x Load) Co)) r.ways;
      }
  turned_co x y b Contra d f = let r : Child x y Contra b Co d = f Co in
      record {
        sign = r.sign;
        count = 1 + r.count;
        exact = omega (arith, r.exact);
        parity = even_join Contra Co r.sign 1 r.count refl r.parity;
        ways = along_in Edge (way_in Edge 1 (omega arith) (one_turn Edge (dot x Store) Contra)) r.ways;
      }

  turned_contra : (x y : Var) (b c : Variance) (d : ℕ) → ((e : Variance) → Child x y Co b e d) → Child x y Contra b c (1 + d)
  turned_contra x y b Co d f = let r : Child x y Co b Co d = f Co in
      record {
        sign = r.sign;
        count = 0 + r.count;
        exact = omega (arith, r.exact);
        parity = even_join Co Co r.sign 0 r.count refl r.parity;
        ways = along_in Edge (way_in Edge 0 (omega arith) (one_step Edge (store_load x))) r.ways;
      }
  turned_contra x y b Contra d f = let r : Child x y Co b Contra d = f Contra in
      record {
        sign = r.sign;
        count = 0 + r.count;
        exact = omega (arith, r.exact);
        parity = even_join Contra Contra r.sign 0 r.count refl r.parity;
        ways = along_in Edge (way_in Edge 0 (omega arith) (one_step Edge (load_store x))) r.ways;
      }

  stepped : (x u y : Var) (a m b c : Variance) (w d : ℕ) → Edge (st x a) (st u m) w → ((e : Variance) → Child u y m b e d) → Child x y a b c (w + d)
  stepped x u y a m b c w d e f =
      let h : (k : ℕ) × ((k + k) + bit m ≡ w + bit a) = halved w a m (even (st x a) (st u m) w e) in
      let s : (e : Variance) × IsEven (h.0 + differ c e) = signed h.0 c in
      let r : Child u y m b s.0 d = f s.0 in
      record {
        sign = r.sign;
        count = h.0 + r.count;
        exact = omega (arith, h.1, r.exact);
        parity = even_join c s.0 r.sign h.0 r.count s.1 r.parity;
        ways = along_in Edge (edge x u a m c s.0 w h.0 e h.1 s.1) r.ways;
      }

  stayed : (x : Var) (a c : Variance) → Child x x a a c 0
  stayed x a c = record { sign = c; count = 0; exact = refl; parity = even_here c; ways = way_in Edge 0 (omega arith) stays }

  turned_by : (x y : Var) (a b c : Variance) (d : ℕ) → ((e : Variance) → Child x y (times Contra a) b e d) → Child x y a b c (1 + d)
  turned_by x y Co b c d f = turned_co x y b c d f
  turned_by x y Contra b c d f = turned_contra x y b c d f

  pub child : {x y : State} {d : ℕ} → Way Edge x y d → (c : Variance) → Child x.var y.var x.sign y.sign c d
  child (stays {x}) c = stayed x.var x.sign c
  child (turns {x} {a} {y} {k} w) c = turned_by x y.var a y.sign c k (λ e. child w e)
  child (steps {x} {y = u} {z = y} {j} {k} e w) c = stepped x.var u.var y.var x.sign u.sign y.sign c j k e (λ s. child w s)

  -- to the child of the other sign it is one more
  other : (y : Var) (b e : Variance) → WayIn Edge (st (dot y (pointer (times e b))) e) (st (dot y (pointer (times (times Contra e) b))) (times Contra e)) 1
  other y Co Co = along_in Edge {j = 1} {k = 0} (way_in Edge 1 (omega arith) (one_turn Edge (dot y Load) Co)) (way_in Edge 0 (omega arith) (one_step Edge (load_store y)))
  other y Co Contra = along_in Edge {j = 1} {k = 0} (way_in Edge 1 (omega arith) (one_turn Edge (dot y Store) Contra)) (way_in Edge 0 (omega arith) (one_step Edge (store_load y)))
  other y Contra Co = along_in Edge {j = 0} {k = 1} (way_in Edge 0 (omega arith) (one_step Edge (store_load y))) (way_in Edge 1 (omega arith) (one_turn Edge (dot y Load) Co))
  other y Contra Contra = along_in Edge {j = 0} {k = 1} (way_in Edge 0 (omega arith) (one_step Edge (load_store y))) (way_in Edge 1 (omega arith) (one_turn Edge (dot y Store) Contra))

  few_same : (b a : Variance) (d n k : ℕ) → (n + n) + bit b ≡ d + bit a → d + bit a ≤ (k + k) + bit b → n ≤ k
  few_same b a d n k e h = omega (arith, e, h)

  few_other : (b a c e f : Variance) (d n k : ℕ) → (n + n) + bit b ≡ d + bit a → d + bit a ≤ (k + k) + bit b → IsEven (n + differ c e) → IsEven (k + differ c f) → f ≡ times Contra e → n + 1 ≤ k
  few_other b a Co Co Contra d n k e h p q g = omega (arith, e, h, p, q)
  few_other b a Co Contra Co d n k e h p q g = omega (arith, e, h, p, q)
  few_other b a Contra Co Contra d n k e h p q g = omega (arith, e, h, p, q)
  few_other b a Contra Contra Co d n k e h p q g = omega (arith, e, h, p, q)
  few_other b a c Co Co d n k e h p q g = absurd (cc)
  few_other b a c Contra Contra d n k e h p q g = absurd (cc)

  same_or : (e f : Variance) → (f ≡ e) ⊎ (f ≡ times Contra e)
  same_or Co Co = inl refl
  same_or Co Contra = inr refl
  same_or Contra Co = inr refl
  same_or Contra Contra = inl refl

  within : {x y : State} {n k : ℕ} → n ≤ k → WayIn Edge x y n → WayIn Edge x y k
  within h w = record { count = w.count; few = omega (arith, h, w.few); way = w.way }

  -- each half push of a way has a way
  pub half_closed : (x y : Var) (a b c f : Variance) (d k : ℕ) → Way Edge (st x a) (st y b) d → d + bit a ≤ (k + k) + bit b → IsEven (k + differ c f) →
      WayIn Edge (st (dot x (pointer (times c a))) c) (st (dot y (pointer (times f b))) f) k
  half_closed x y a b c f d k w h q = by (child w c)
    where
      by : Child x y a b c d → WayIn Edge (st (dot x (pointer (times c a))) c) (st (dot y (pointer (times f b))) f) k
      by r = elim (same_or r.sign f) [
        | inl e ↦ subst (λ g. WayIn Edge (st (dot x (pointer (times c a))) c) (st (dot y (pointer (times g b))) g) k) (sym e) (within (few_same b a d r.count k r.exact h) r.ways)
        | inr e ↦ subst (λ g. WayIn Edge (st (dot x (pointer (times c a))) c) (st (dot y (pointer (times g b))) g) k) (sym e)
            (within (few_other b a c r.sign f d r.count k r.exact h r.parity q e) (along_in Edge r.ways (other y b r.sign)))
      ]

-- Kept pushes under one letter add up, so it is enough to push to the nearest variables that have the letter.
module _ (Edge : State → State → ℕ → Type 0) (l : Label) (Has : Var → Type 0) (has : (x : Var) → Has x ⊎ (Has x → ⊥)) where
  -- a way whose inner variables don't have the letter
  pub data Near : State → State → ℕ → Type 0 where
    reached : {x : State} → Near x x 0
    turned : {x : Var} {a : Variance} {y : State} {k : ℕ} → (Has x → ⊥) → Near (st x (times Contra a)) y k → Near (st x a) y (1 + k)
    stepped_on : {x y z : State} {j k : ℕ} → (Has x.var → ⊥) → Edge x y j → Near y z k → Near x z (j + k)

  -- a first edge, and on to the nearest
  pub record First (x y : State) (k : ℕ) : Type 0 where
    pub between : State
    pub first : ℕ
    pub rest : ℕ
    pub edge : Edge x between first
    pub near : Near between y rest
    pub sum : k ≡ first + rest
    pub ends : Has y.var

  module _ (Goal : State → State → ℕ → Type 0)
      (none : (x : State) → Has x.var → Goal x x 0)
      (turn_child : (x : Var) (a : Variance) → Has x → Goal (st x a) (st x (times Contra a)) 1)
      (first_child : (x y : State) (k : ℕ) → Has x.var → First x y k → Goal x y k)
      (join : (x y z : State) (j k : ℕ) → Goal x y j → Goal y z k → Goal x z (j + k)) where
    -- the nearest variable with the letter, and the goal from it
    pub record Later (x z : State) (k : ℕ) : Type 0 where
      pub nearest : State
      pub before : ℕ
      pub after : ℕ
      pub near : Near x nearest before
      pub goal : Goal nearest z after
      pub sum : k ≡ before + after
      pub has_it : Has nearest.var

    pub record From (x z : State) (k : ℕ) : Type 0 where
      pub at_once : Has x.var → Goal x z k
      pub later : (Has x.var → ⊥) → Later x z k

    goal_at : {x z : State} {j k : ℕ} → j ≡ k → Goal x z j → Goal x z k
    goal_at {x} {z} e g = subst (λ n. Goal x z n) e g

    by_first : {x y z : State} {j k : ℕ} → Edge x y j → Has x.var → From y z k → Has y.var ⊎ (Has y.var → ⊥) → Goal x z (j + k)
    by_first {x} {y} {z} {j} {k} e p f (inl h) =
        join x y z j k (first_child x y j p (record { between = y; first = j; rest = 0; edge = e; near = reached; sum = omega arith; ends = h })) (f.at_once h)
    by_first {x} {y} {z} {j} {k} e p f (inr n) =
        let r : Later y z k = f.later n in
        let a : Goal x r.nearest (j + r.before) = first_child x r.nearest (j + r.before) p (record { between = y; first = j; rest = r.before; edge = e; near = r.near; sum = refl; ends = r.has_it }) in
        goal_at (omega (arith, r.sum)) (join x r.nearest z (j + r.before) r.after a r.goal)

    by_later : {x y z : State} {j k : ℕ} → Edge x y j → (Has x.var → ⊥) → From y z k → Has y.var ⊎ (Has y.var → ⊥) → Later x z (j + k)
    by_later {x} {y} {z} {j} {k} e n f (inl h) =
        record { nearest = y; before = j + 0; after = k; near = stepped_on n e reached; goal = f.at_once h; sum = omega arith; has_it = h }
    by_later {x} {y} {z} {j} {k} e n f (inr n') =
        let r : Later y z k = f.later n' in
        record { nearest = r.nearest; before = j + r.before; after = r.after; near = stepped_on n e r.near; goal = r.goal; sum = omega (arith, r.sum); has_it = r.has_it }

    from : {x z : State} {k : ℕ} → Way Edge x z k → Has z.var → From x z k
    from (stays {x}) q = record { at_once = λ p. none x p; later = λ n. absurd (n q) }
    from (turns {x} {a} {y} {k} w) q =
        let f : From (st x (times Contra a)) y k = from w q in record {
          at_once = λ p. join (st x a) (st x (times Contra a)) y 1 k (turn_child x a p) (f.at_once p);
          later = λ n. let r : Later (st x (times Contra a)) y k = f.later n in
              record { nearest = r.nearest; before = 1 + r.before; after = r.after; near = turned n r.near; goal = r.goal; sum = omega (arith, r.sum); has_it = r.has_it };
        }
    from (steps {x} {y} {z} {j} {k} e w) q =
        let f : From y z k = from w q in record { at_once = λ p. by_first e p f (has y.var); later = λ n. by_later e n f (has y.var) }

    -- each way from one variable with the letter to another one
    pub nearest_closed : {x z : State} {k : ℕ} → Way Edge x z k → Has x.var → Has z.var → Goal x z k
    nearest_closed w p q = (from w q).at_once p
