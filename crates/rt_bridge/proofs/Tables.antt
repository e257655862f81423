-- What is closed under pushes has a way for each counted judgement, of its list and of each list with fewer lines.
use Rattle.std.proofs.Common.{◌≡◌, ℕ, ◌⊎◌, inl, inr, subst, arith, ◌≤◌, ◌+◌}
use Rattle.rt_lines.specs.declared.label.Label.{Label}
use Rattle.rt_lines.specs.declared.label.Label.TheVariants.{Load, Store}
use Rattle.rt_lines.specs.declared.label.Variance.{Variance}
use Rattle.rt_lines.specs.declared.label.Variance.TheVariants.{Contra}
use Rattle.rt_lines.specs.Words.{label_variance, times}
use Rattle.rt_bridge.specs.Growing.{Var, dot, Given, Fact, V, E, Der, HasSub}
use Rattle.rt_bridge.specs.Counted.{State, st, Push, half, kept, Bridge, here, turn, up, down, join, push}
use Rattle.rt_bridge.specs.Ways.{Way, stays, turns, steps, WayIn, IsClosed, HasLines}
use Rattle.rt_bridge.proofs.Growing.{s1, both}
use Rattle.rt_bridge.proofs.Bridges.{bridge_same}

module _ (Edge : State → State → ℕ → Type 0) where
  pub one_step : {x y : State} {k : ℕ} → Edge x y k → Way Edge x y k
  one_step {x} {y} {k} e = subst (λ n. Way Edge x y n) (omega arith) (steps e stays)

  pub one_turn : (x : Var) (a : Variance) → Way Edge (st x a) (st x (times Contra a)) 1
  one_turn x a = turns stays

  pub along : {x y z : State} {j k : ℕ} → Way Edge x y j → Way Edge y z k → Way Edge x z (j + k)
  along {y} {z} {k} stays w = subst (λ n. Way Edge y z n) (omega arith) w
  along {x} {z} {k} (turns {k = i} v) w = subst (λ n. Way Edge x z n) (omega arith) (turns (along v w))
  along {x} {z} {k} (steps {j = i} {k = h} e v) w = subst (λ n. Way Edge x z n) (omega arith) (steps e (along v w))

  pub way_in : {x y : State} {k : ℕ} (n : ℕ) → n ≤ k → Way Edge x y n → WayIn Edge x y k
  way_in n h w = record { count = n; few = h; way = w }

  pub along_in : {x y z : State} {j k : ℕ} → WayIn Edge x y j → WayIn Edge y z k → WayIn Edge x z (j + k)
  along_in v w = record { count = v.count + w.count; few = omega (arith, v.few, w.few); way = along v.way w.way }

  -- L has the frame of the table; the lines are those of `fewer`, of which each fact holds of L
  module _ (L fewer : Given) (M : Var → Type 0) (more : (f : Fact) → Der fewer f → Der L f) (closed : IsClosed Edge L M) (lines : HasLines Edge fewer) where
    push_more : {x : Var} {l m : Label} {d k : ℕ} {a b : Variance} → Push fewer x l m d a b k → Push L x l m d a b k
    push_more {x} (half p q f g h i) = half p q (more (V (dot x Load)) f) (more (V (dot x Store)) g) h i
    push_more kept = kept

    fewer_by : (x y : Var) (l m : Label) (a b : Variance) (d n k : ℕ) → M (dot x l) → M (dot y m) → Der fewer (V (dot x l)) → Der fewer (V (dot y m)) → n ≤ d →
        Way Edge (st x (times (label_variance l) a)) (st y (times (label_variance m) b)) n → Push fewer x l m d a b k → WayIn Edge (st (dot x l) a) (st (dot y m) b) k
    fewer_by x y l m a b d n k p q v w h c (half p' q' f g i j) =
        closed x y l m a b n k p q (more (V (dot x l)) v) (more (V (dot y m)) w) c (half p' q' (more (V (dot x Load)) f) (more (V (dot x Store)) g) (omega (arith, h, i)) j)
    fewer_by x y l m a b d n k p q v w h c kept =
        let r : WayIn Edge (st (dot x l) a) (st (dot y l) b) n = closed x y l l a b n n p q (more (V (dot x l)) v) (more (V (dot y l)) w) c kept in
        record { count = r.count; few = omega (arith, h, r.few); way = r.way }

    -- each counted judgement of the fewer lines has a way
    pub covered : {x y : State} {k : ℕ} → Bridge fewer M x y k → WayIn Edge x y k
    covered (here a m v) = way_in 0 (omega arith) stays
    covered (turn {x} a m v) = way_in 1 (omega arith) (one_turn x a)
    covered (up m) = way_in 0 (omega arith) (one_step (lines.forth m))
    covered (down m) = way_in 0 (omega arith) (one_step (lines.back m))
    covered (join b c) = along_in (covered b) (covered c)
    covered (push {x} {y} {l} {m} {a} {b} {d} {k} p q v w c s) =
        let r : WayIn Edge (st x (times (label_variance l) a)) (st y (times (label_variance m) b)) d = covered c in
        fewer_by x y l m a b d r.count k p q v w r.few r.way s

-- The same where counts above nought are only asked for in classes that matter: those that flip, and those with such a class below them.
module _ (Edge : State → State → ℕ → Type 0) (L fewer : Given) (M Matters : Var → Type 0) (more : (f : Fact) → Der fewer f → Der L f)
    (one_class : (x y : Var) → Der L (E x y) → Matters x → Matters y)
    (upwards : (x : Var) (l : Label) → Der L (V (dot x l)) → Matters (dot x l) → Matters x)
    (flipping : (x : Var) → Der L (V (dot x Load)) → Der L (V (dot x Store)) → Matters x)
    (lines : HasLines Edge fewer)
    (closed : (x y : Var) (l m : Label) (a b : Variance) (d k : ℕ) → (k ≡ 0) ⊎ Matters (dot x l) → M (dot x l) → M (dot y m) → Der L (V (dot x l)) → Der L (V (dot y m)) →
    Way Edge (st x (times (label_variance l) a)) (st y (times (label_variance m) b)) d → Push L x l m d a b k → WayIn Edge (st (dot x l) a) (st (dot y m) b) k) where
  split_left : (X : Type 0) (j k : ℕ) → (j + k ≡ 0) ⊎ X → (j ≡ 0) ⊎ X
  split_left X j k (inl e) = inl (omega (arith, e))
  split_left X j k (inr h) = inr h

  split_right : (x y : Var) (j k : ℕ) → Der L (E x y) → (j + k ≡ 0) ⊎ Matters x → (k ≡ 0) ⊎ Matters y
  split_right x y j k s (inl e) = inl (omega (arith, e))
  split_right x y j k s (inr h) = inr (one_class x y s h)

  parent_matters : {x : Var} {l m : Label} {d k : ℕ} {a b : Variance} → Der L (V (dot x l)) → Push fewer x l m d a b k → (k ≡ 0) ⊎ Matters (dot x l) → (d ≡ 0) ⊎ Matters x
  parent_matters {x} v (half p q f g h i) w = inr (flipping x (more (V (dot x Load)) f) (more (V (dot x Store)) g))
  parent_matters v (kept {d}) (inl e) = inl e
  parent_matters {x} v (kept {l}) (inr h) = inr (upwards x l v h)

  by_push : (x y : Var) (l m : Label) (a b : Variance) (d n k : ℕ) → (k ≡ 0) ⊎ Matters (dot x l) → M (dot x l) → M (dot y m) → Der fewer (V (dot x l)) → Der fewer (V (dot y m)) → n ≤ d →
      Way Edge (st x (times (label_variance l) a)) (st y (times (label_variance m) b)) n → Push fewer x l m d a b k → WayIn Edge (st (dot x l) a) (st (dot y m) b) k
  by_push x y l m a b d n k o p q v w h c (half p' q' f g i j) =
      closed x y l m a b n k o p q (more (V (dot x l)) v) (more (V (dot y m)) w) c (half p' q' (more (V (dot x Load)) f) (more (V (dot x Store)) g) (omega (arith, h, i)) j)
  by_push x y l m a b d n k o p q v w h c kept =
      let o' : (n ≡ 0) ⊎ Matters (dot x l) = elim o [ inl e ↦ inl (omega (arith, e, h)) | inr z ↦ inr z ] in
      let r : WayIn Edge (st (dot x l) a) (st (dot y l) b) n = closed x y l l a b n n o' p q (more (V (dot x l)) v) (more (V (dot y l)) w) c kept in
      record { count = r.count; few = omega (arith, h, r.few); way = r.way }

  pub covered_where : {x y : State} {k : ℕ} → Bridge fewer M x y k → (k ≡ 0) ⊎ Matters x.var → WayIn Edge x y k
  covered_where (here a m v) o = way_in Edge 0 (omega arith) stays
  covered_where (turn {x} a m v) o = way_in Edge 1 (omega arith) (one_turn Edge x a)
  covered_where (up m) o = way_in Edge 0 (omega arith) (one_step Edge (lines.forth m))
  covered_where (down m) o = way_in Edge 0 (omega arith) (one_step Edge (lines.back m))
  covered_where (join {x} {y} {z} {j} {k} b c) o =
      along_in Edge (covered_where b (split_left (Matters x.var) j k o)) (covered_where c (split_right x.var y.var j k (more (E x.var y.var) (bridge_same fewer M b)) o))
  covered_where (push {x} {y} {l} {m} {a} {b} {d} {k} p q v w c s) o =
      let r : WayIn Edge (st x (times (label_variance l) a)) (st y (times (label_variance m) b)) d = covered_where c (parent_matters (more (V (dot x l)) v) s o) in
      by_push x y l m a b d r.count k o p q v w r.few r.way s

-- each way of sound edges is a counted judgement
module _ (Edge : State → State → ℕ → Type 0) (L : Given) (M : Var → Type 0) (sides : (x y : Var) → HasSub L x y → M x × M y)
    (sound : (x y : State) (k : ℕ) → Edge x y k → Bridge L M x y k) where
  bridge_end : {x y : State} {k : ℕ} → Bridge L M x y k → M y.var × Der L (V y.var)
  bridge_end (here a m v) = (m, v)
  bridge_end (turn a m v) = (m, v)
  bridge_end (up {x} {y} h) = ((sides x y h).1, (both L (s1 {x = x} {y = y} h)).1)
  bridge_end (down {x} {y} h) = ((sides x y h).0, (both L (s1 {x = x} {y = y} h)).0)
  bridge_end (join b c) = bridge_end c
  bridge_end (push p q v w c s) = (q, w)

  pub way_bridge : {x y : State} {k : ℕ} → Way Edge x y k → M x.var → Der L (V x.var) → Bridge L M x y k
  way_bridge (stays {x}) m v = here x.sign m v
  way_bridge (turns {a} w) m v = join (turn a m v) (way_bridge w m v)
  way_bridge (steps {x} {y} {j} e w) m v = let b : Bridge L M x y j = sound x y j e in join b (way_bridge w (bridge_end b).0 (bridge_end b).1)
