-- Counted judgements between named variables go over named variables alone.
use Rattle.std.proofs.Common.{◌≡◌, ℕ, zero, suc, ◌⊎◌, inl, inr, refl, sym, subst, arith, ◌≤◌, ◌+◌}
use Rattle.rt_lines.specs.declared.label.Label.{Label}
use Rattle.rt_lines.specs.declared.label.Variance.{Variance}
use Rattle.rt_lines.specs.declared.label.Variance.TheVariants.{Co, Contra}
use Rattle.rt_lines.specs.declared.variable.Base.{Base}
use Rattle.rt_lines.specs.Words.{label_variance, times}
use Rattle.rt_bridge.specs.Growing.{Var, at, dot, Given, V, S, Der, HasSub}
use Rattle.rt_bridge.specs.Counted.{State, st, Push, kept, Bridge, here, turn, up, down, join, push}
use Rattle.rt_bridge.proofs.Growing.{e2}
use Rattle.rt_bridge.proofs.Bridges.{ways, bridge_same, bridge_even, push_join, Every}

-- elimination of the variables outside a smaller set
pub data Leaves (L : Given) (P : Var → Type 0) : State → State → ℕ → Type 0 where
  stay : {x : State} → P x.var → Leaves L P x x 0
  leave : {u w : Var} {l m : Label} {a b : Variance} {d k : ℕ} → (P (dot u l) → ⊥) → P (dot w m) → Der L (V (dot u l)) → Der L (V (dot w m)) →
      Bridge L P (st u (times (label_variance l) a)) (st w (times (label_variance m) b)) d → Push L u l m d a b k → Leaves L P (st (dot u l) a) (st (dot w m) b) k

pub data Enters (L : Given) (P : Var → Type 0) : State → State → ℕ → Type 0 where
  stayed : {x : State} → P x.var → Enters L P x x 0
  enter : {u w : Var} {l m : Label} {a b : Variance} {d k : ℕ} → P (dot u l) → (P (dot w m) → ⊥) → Der L (V (dot u l)) → Der L (V (dot w m)) →
      Bridge L P (st u (times (label_variance l) a)) (st w (times (label_variance m) b)) d → Push L u l m d a b k → Enters L P (st (dot u l) a) (st (dot w m) b) k

pub data Normal (L : Given) (P : Var → Type 0) : State → State → ℕ → Type 0 where
  via : {x x' y' y : State} {i j h k : ℕ} → Leaves L P x x' i → Bridge L P x' y' j → Enters L P y' y h → k ≡ i + (j + h) → Normal L P x y k
  direct : {u w : Var} {l m : Label} {a b : Variance} {d k : ℕ} → (P (dot u l) → ⊥) → (P (dot w m) → ⊥) → Der L (V (dot u l)) → Der L (V (dot w m)) →
      Bridge L P (st u (times (label_variance l) a)) (st w (times (label_variance m) b)) d → Push L u l m d a b k → Normal L P (st (dot u l) a) (st (dot w m) b) k

module _ (L : Given) (P : Var → Type 0) where
  out_stays : {x y z : State} {i k : ℕ} → Leaves L P x y i → P x.var → Bridge L P y z k → Bridge L P x z (i + k)
  out_stays {z} {k} (stay {x} p) q b = subst (λ n. Bridge L P x z n) (omega arith) b
  out_stays (leave n p v w b k) q c = absurd (n q)

  in_stays : {x y z : State} {k i : ℕ} → Bridge L P z x k → Enters L P x y i → P y.var → Bridge L P z y (k + i)
  in_stays {z} {k} c (stayed {x} p) q = subst (λ n. Bridge L P z x n) (omega arith) c
  in_stays c (enter p n v w b k) q = absurd (n q)

  close : {x y : State} {k : ℕ} → Normal L P x y k → P x.var → P y.var → Bridge L P x y k
  close {x} {y} (via o b i e) p q = subst (λ n. Bridge L P x y n) (sym e) (out_stays o p (in_stays b i q))
  close (direct n m v w b k) p q = absurd (n p)

  -- into a variable and out of it again
  glue : {x y v z w : State} {i j h k : ℕ} → Bridge L P x y i → Enters L P y v j → Leaves L P v z h → Bridge L P z w k → Bridge L P x w (i + (j + (h + k)))
  glue {x} {w} {i} {k} b (stayed p) (stay q) c = subst (λ n. Bridge L P x w n) (omega arith) (join b c)
  glue b (stayed p) (leave n q v w d k) c = absurd (n p)
  glue b (enter p n v w d k) (stay q) c = absurd (n q)
  glue {x} {w} {i} {j} {h} {k} b (enter p n v' w' d s) (leave n' q v'' w'' d' s') c =
      subst (λ n. Bridge L P x w n) (omega arith)
      (join b (join (push p q v' w'' (join d d') (push_join L (bridge_same L P d) (bridge_even L P d) (bridge_even L P d') s s')) c))

  -- a direct way to a leaf and out of it; into a leaf and a direct way on
  direct_out : {u w : Var} {l m : Label} {a b : Variance} {d k h : ℕ} {z : State} → (P (dot u l) → ⊥) → (P (dot w m) → ⊥) → Der L (V (dot u l)) →
      Bridge L P (st u (times (label_variance l) a)) (st w (times (label_variance m) b)) d → Push L u l m d a b k → Leaves L P (st (dot w m) b) z h → Leaves L P (st (dot u l) a) z (k + h)
  direct_out n n' v b s (stay p) = absurd (n' p)
  direct_out n n' v b s (leave _ p v' w' b' s') = leave n p v w' (join b b') (push_join L (bridge_same L P b) (bridge_even L P b) (bridge_even L P b') s s')

  in_direct : {u w : Var} {l m : Label} {a b : Variance} {d k h : ℕ} {x : State} → (P (dot u l) → ⊥) → (P (dot w m) → ⊥) → Der L (V (dot w m)) →
      Enters L P x (st (dot u l) a) h → Bridge L P (st u (times (label_variance l) a)) (st w (times (label_variance m) b)) d → Push L u l m d a b k → Enters L P x (st (dot w m) b) (h + k)
  in_direct n n' v (stayed p) b s = absurd (n p)
  in_direct n n' v (enter p _ v' w' b' s') b s = enter p n' v' v (join b' b) (push_join L (bridge_same L P b') (bridge_even L P b') (bridge_even L P b) s' s)

  normal_join : {x y z : State} {j k : ℕ} → Normal L P x y j → Normal L P y z k → Normal L P x z (j + k)
  normal_join (via o b i e) (via o' b' i' e') = via o (glue b i o' b') i' (omega arith)
  normal_join (via o b i e) (direct n m v w b' s) = via o b (in_direct n m w i b' s) (omega arith)
  normal_join (direct n m v w b s) (via o' b' i' e') = via (direct_out n m v b s o') b' i' (omega arith)
  normal_join (direct n m v w b s) (direct n' m' v' w' b' s') = direct n m' v w' (join b b') (push_join L (bridge_same L P b) (bridge_even L P b) (bridge_even L P b') s s')

pub times-turn : (s a : Variance) → times Contra (times s a) ≡ times s (times Contra a)
times-turn Co a = refl
times-turn Contra Co = refl
times-turn Contra Contra = refl

module _ (L : Given) (P Q : Var → Type 0) (dec : (x : Var) → P x ⊎ (P x → ⊥)) (parent : (x : Var) (l : Label) → Q (dot x l) → P x)
    (root : (b : Base) → Der L (V (at b)) → P (at b)) (lines : (x y : Var) → HasSub L x y → P x × P y) where
  at_here : (x : Var) (a : Variance) → Q x → Der L (V x) → P x ⊎ (P x → ⊥) → Normal L P (st x a) (st x a) 0
  at_here x a q v (inl p) = via (stay p) (here a p v) (stayed p) refl
  at_here (at b) a q v (inr n) = absurd (n (root b v))
  at_here (dot x l) a q v (inr n) = direct n n v v (here (times (label_variance l) a) (parent x l q) (e2 l v)) kept

  at_turn : (x : Var) (a : Variance) → Q x → Der L (V x) → P x ⊎ (P x → ⊥) → Normal L P (st x a) (st x (times Contra a)) 1
  at_turn x a q v (inl p) = via (stay p) (turn a p v) (stayed p) refl
  at_turn (at b) a q v (inr n) = absurd (n (root b v))
  at_turn (dot x l) a q v (inr n) =
      let b : Bridge L P (st x (times (label_variance l) a)) (st x (times Contra (times (label_variance l) a))) 1 = turn (times (label_variance l) a) (parent x l q) (e2 l v) in
      direct n n v v (subst (λ s. Bridge L P (st x (times (label_variance l) a)) (st x s) 1) (times-turn (label_variance l) a) b) kept

  at_push : (x y : Var) (l m : Label) (a b : Variance) (d k : ℕ) → Q (dot x l) → Q (dot y m) → Der L (V (dot x l)) → Der L (V (dot y m)) →
      Bridge L P (st x (times (label_variance l) a)) (st y (times (label_variance m) b)) d → Push L x l m d a b k →
      P (dot x l) ⊎ (P (dot x l) → ⊥) → P (dot y m) ⊎ (P (dot y m) → ⊥) → Normal L P (st (dot x l) a) (st (dot y m) b) k
  at_push x y l m a b d k q r v w c s (inl p) (inl p') = via (stay p) (push p p' v w c s) (stayed p') (omega arith)
  at_push x y l m a b d k q r v w c s (inl p) (inr n) = via (stay p) (here a p v) (enter p n v w c s) (omega arith)
  at_push x y l m a b d k q r v w c s (inr n) (inl p) = via (leave n p v w c s) (here b p w) (stayed p) (omega arith)
  at_push x y l m a b d k q r v w c s (inr n) (inr n') = direct n n' v w c s

  normal : {x y : State} {k : ℕ} → Bridge L Q x y k → Normal L P x y k
  normal (here {x} a q v) = at_here x a q v (dec x)
  normal (turn {x} a q v) = at_turn x a q v (dec x)
  normal (up {x} {y} m) = let p : P x × P y = lines x y m in via (stay p.0) (up m) (stayed p.1) refl
  normal (down {x} {y} m) = let p : P x × P y = lines x y m in via (stay p.1) (down m) (stayed p.0) refl
  normal (join b c) = normal_join L P (normal b) (normal c)
  normal (push {x} {y} {l} {m} {a} {b} {d} {k} q r v w c s) =
      at_push x y l m a b d k q r v w (close L P (normal c) (parent x l q) (parent y m r)) s (dec (dot x l)) (dec (dot y m))

  eliminate : {x y : State} {k : ℕ} → Bridge L Q x y k → P x.var → P y.var → Bridge L P x y k
  eliminate b p q = close L P (normal b) p q

-- all variables of at most n letters, beside the named ones
abbrev pub size : Var → ℕ
size (at b) = 0
size (dot x l) = suc (size x)

pub data Upto (M : Var → Type 0) (n : ℕ) (x : Var) : Type 0 where
  named : M x → Upto M n x
  short : size x ≤ n → Upto M n x

pub more : (L : Given) (P Q : Var → Type 0) → ((x : Var) → P x → Q x) → {x y : State} {k : ℕ} → Bridge L P x y k → Bridge L Q x y k
more L P Q f (here a p v) = here a (f _ p) v
more L P Q f (turn a p v) = turn a (f _ p) v
more L P Q f (up m) = up m
more L P Q f (down m) = down m
more L P Q f (join b c) = join (more L P Q f b) (more L P Q f c)
more L P Q f (push p q v w b s) = push (f _ p) (f _ q) v w (more L P Q f b) s

pub wider : (M : Var → Type 0) (n m : ℕ) → n ≤ m → (x : Var) → Upto M n x → Upto M m x
wider M n m h x (named p) = named p
wider M n m h x (short p) = short (omega arith)

-- each derivation has a bound on its words
bounded : (L : Given) (M : Var → Type 0) → {x y : State} {k : ℕ} → Bridge L Every x y k → (n : ℕ) × Bridge L (Upto M n) x y k
bounded L M (here {x} a p v) = (size x, here a (short (omega arith)) v)
bounded L M (turn {x} a p v) = (size x, turn a (short (omega arith)) v)
bounded L M (up m) = (0, up m)
bounded L M (down m) = (0, down m)
bounded L M (join {x} {y} {z} b c) =
    let d : (n : ℕ) × Bridge L (Upto M n) x y _ = bounded L M b in
    let e : (n : ℕ) × Bridge L (Upto M n) y z _ = bounded L M c in (
      d.0 + e.0,
      join (more L (Upto M d.0) (Upto M (d.0 + e.0)) (wider M d.0 (d.0 + e.0) (omega arith)) d.1)
          (more L (Upto M e.0) (Upto M (d.0 + e.0)) (wider M e.0 (d.0 + e.0) (omega arith)) e.1),
    )
bounded L M (push {x} {y} {l} {m} {a} {b} {d} p q v w c s) =
    let e : (n : ℕ) × Bridge L (Upto M n) (st x (times (label_variance l) a)) (st y (times (label_variance m) b)) d = bounded L M c in
    let n : ℕ = e.0 + (suc (size x) + suc (size y)) in
    (n, push (short (omega arith)) (short (omega arith)) v w (more L (Upto M e.0) (Upto M n) (wider M e.0 n (omega arith)) e.1) s)

pub le_or : (n m : ℕ) → (n ≤ m) ⊎ (suc m ≤ n)
le_or zero m = inl (omega arith)
le_or (suc n) zero = inr (omega arith)
le_or (suc n) (suc m) = elim (le_or n m) [ inl h ↦ inl (omega arith) | inr h ↦ inr (omega arith) ]

pub upto_by : (M : Var → Type 0) (n : ℕ) (x : Var) → M x ⊎ (M x → ⊥) → (size x ≤ n) ⊎ (suc n ≤ size x) → Upto M n x ⊎ (Upto M n x → ⊥)
upto_by M n x (inl p) h = inl (named p)
upto_by M n x (inr f) (inl h) = inl (short h)
upto_by M n x (inr f) (inr h) = inr (λ u. elim u [ named p ↦ f p | short h' ↦ omega arith ])

module _ (L : Given) (M : Var → Type 0) (dec : (x : Var) → M x ⊎ (M x → ⊥)) (parent : (x : Var) (l : Label) → M (dot x l) → M x)
    (root : (b : Base) → Der L (V (at b)) → M (at b)) (lines : (x y : Var) → HasSub L x y → M x × M y) where
  parent_upto : (n : ℕ) (x : Var) (l : Label) → Upto M (suc n) (dot x l) → Upto M n x
  parent_upto n x l (named p) = named (parent x l p)
  parent_upto n x l (short h) = short (omega arith)

  parent_none : (x : Var) (l : Label) → Upto M 0 (dot x l) → M x
  parent_none x l (named p) = parent x l p
  parent_none x l (short h) = absurd (omega arith)

  lower : (n : ℕ) {x y : State} {k : ℕ} → M x.var → M y.var → Bridge L (Upto M n) x y k → Bridge L M x y k
  lower zero p q b = eliminate L M (Upto M 0) dec parent_none root lines b p q
  lower (suc n) p q b = lower n p q (eliminate L (Upto M n) (Upto M (suc n)) (λ x. upto_by M n x (dec x) (le_or (size x) n)) (parent_upto n)
      (λ b v. named (root b v)) (λ x y m. (named (lines x y m).0, named (lines x y m).1)) b (named p) (named q))

  -- what is derivable is found over the named variables
  pub complete : {x y : Var} → M x → M y → Der L (S x y) → Bridge L M (st x Co) (st y Co) 0
  complete {x} {y} p q d =
      let b : (n : ℕ) × Bridge L (Upto M n) (st x Co) (st y Co) 0 = bounded L M (ways L d).forth in
      lower b.0 p q b.1
