-- Paths between variables of a set go over the set alone.
use Rattle.std.proofs.Common.{ℕ, zero, suc, ◌⊎◌, inl, inr, arith, ◌≤◌, ◌+◌}
use Rattle.rt_lines.specs.declared.label.Label.{Label}
use Rattle.rt_lines.specs.declared.variable.Base.{Base}
use Rattle.rt_bridge.specs.Growing.{Var, at, dot, Given, V, Der, HasSub}
use Rattle.rt_bridge.proofs.Growing.{e2}
use Rattle.rt_bridge.proofs.Bridges.{Every}
use Rattle.rt_bridge.proofs.Eliminating.{size, Upto, named, short, le_or, wider, upto_by}
use Rattle.rt_loose.specs.Kinds.{Kind, before, kept}
use Rattle.rt_loose.proofs.Paths.{Pushes, Path, here, up, down, flexible_up, flexible_down, join, push, Composed, compose, more}

pub data Leaves (L : Given) (P : Var → Type 0) : Var → Var → Kind → Type 0 where
  stay : {x : Var} {k : Kind} → P x → Leaves L P x x k
  leave : {u w : Var} {l m : Label} {d k : Kind} → (P (dot u l) → ⊥) → P (dot w m) → Der L (V (dot u l)) → Der L (V (dot w m)) →
      Path L P u w d → Pushes L u l m d k → Leaves L P (dot u l) (dot w m) k

pub data Enters (L : Given) (P : Var → Type 0) : Var → Var → Kind → Type 0 where
  stayed : {x : Var} {k : Kind} → P x → Enters L P x x k
  enter : {u w : Var} {l m : Label} {d k : Kind} → P (dot u l) → (P (dot w m) → ⊥) → Der L (V (dot u l)) → Der L (V (dot w m)) →
      Path L P u w d → Pushes L u l m d k → Enters L P (dot u l) (dot w m) k

pub data Normal (L : Given) (P : Var → Type 0) : Var → Var → Kind → Type 0 where
  via : {x x' y' y : Var} {k : Kind} → Leaves L P x x' k → Path L P x' y' k → Enters L P y' y k → Normal L P x y k
  direct : {u w : Var} {l m : Label} {d k : Kind} → (P (dot u l) → ⊥) → (P (dot w m) → ⊥) → Der L (V (dot u l)) → Der L (V (dot w m)) →
      Path L P u w d → Pushes L u l m d k → Normal L P (dot u l) (dot w m) k

module _ (L : Given) (P : Var → Type 0) where
  pushed : {u w : Var} {l m : Label} {k : Kind} → P (dot u l) → P (dot w m) → Der L (V (dot u l)) → Der L (V (dot w m)) →
      Composed L P u w l m k → Path L P (dot u l) (dot w m) k
  pushed p q v w c = push p q v w c.way c.pushes

  glue : {x y v z w : Var} {k : Kind} → Path L P x y k → Enters L P y v k → Leaves L P v z k → Path L P z w k → Path L P x w k
  glue b (stayed p) (stay q) c = join b c
  glue b (stayed p) (leave n q v w d s) c = absurd (n p)
  glue b (enter p n v w d s) (stay q) c = absurd (n q)
  glue b (enter p n v w d s) (leave n' q v' w' d' s') c = join b (join (pushed p q v w' (compose L P d s d' s')) c)

  direct_out : {u w z : Var} {l m : Label} {d k : Kind} → (P (dot u l) → ⊥) → (P (dot w m) → ⊥) → Der L (V (dot u l)) → Path L P u w d →
      Pushes L u l m d k → Leaves L P (dot w m) z k → Leaves L P (dot u l) z k
  direct_out n n' v b s (stay p) = absurd (n' p)
  direct_out {u} {w} {z} n n' v b s (leave {w = w'} _ p v' v'' b' s') =
      let c : Composed L P u w' _ _ _ = compose L P b s b' s' in leave n p v v'' c.way c.pushes

  in_direct : {u w x : Var} {l m : Label} {d k : Kind} → (P (dot u l) → ⊥) → (P (dot w m) → ⊥) → Der L (V (dot w m)) →
      Enters L P x (dot u l) k → Path L P u w d → Pushes L u l m d k → Enters L P x (dot w m) k
  in_direct n n' v (stayed p) b s = absurd (n p)
  in_direct {w} n n' v (enter {u = u'} p _ v' v'' b' s') b s =
      let c : Composed L P u' w _ _ _ = compose L P b' s' b s in enter p n' v' v c.way c.pushes

  normal_join : {x y z : Var} {k : Kind} → Normal L P x y k → Normal L P y z k → Normal L P x z k
  normal_join (via o b i) (via o' b' i') = via o (glue b i o' b') i'
  normal_join (via o b i) (direct n m v w b' s) = via o b (in_direct n m w i b' s)
  normal_join (direct n m v w b s) (via o' b' i') = via (direct_out n m v b s o') b' i'
  normal_join (direct {u} n m v w b s) (direct {w = w'} n' m' v' v'' b' s') =
      let c : Composed L P u w' _ _ _ = compose L P b s b' s' in direct n m' v v'' c.way c.pushes

  out_stays : {x y z : Var} {k : Kind} → Leaves L P x y k → P x → Path L P y z k → Path L P x z k
  out_stays (stay p) q b = b
  out_stays (leave n p v w b s) q c = absurd (n q)

  in_stays : {x y z : Var} {k : Kind} → Path L P z x k → Enters L P x y k → P y → Path L P z y k
  in_stays c (stayed p) q = c
  in_stays c (enter p n v w b s) q = absurd (n q)

  close : {x y : Var} {k : Kind} → Normal L P x y k → P x → P y → Path L P x y k
  close (via o b i) p q = out_stays o p (in_stays b i q)
  close (direct n m v w b s) p q = absurd (n p)

module _ (L : Given) (P Q : Var → Type 0) (dec : (x : Var) → P x ⊎ (P x → ⊥)) (parent : (x : Var) (l : Label) → Q (dot x l) → P x)
    (root : (b : Base) → Der L (V (at b)) → P (at b)) (lines : (x y : Var) → HasSub L x y → P x × P y) where
  at_here : (x : Var) (k : Kind) → Q x → Der L (V x) → P x ⊎ (P x → ⊥) → Normal L P x x k
  at_here x k q v (inl p) = via (stay p) (here k p v) (stayed p)
  at_here (at b) k q v (inr n) = absurd (n (root b v))
  at_here (dot x l) k q v (inr n) = direct n n v v (here (before l k) (parent x l q) (e2 l v)) kept

  at_push : (x y : Var) (l m : Label) (d k : Kind) → Q (dot x l) → Q (dot y m) → Der L (V (dot x l)) → Der L (V (dot y m)) →
      Path L P x y d → Pushes L x l m d k → P (dot x l) ⊎ (P (dot x l) → ⊥) → P (dot y m) ⊎ (P (dot y m) → ⊥) →
      Normal L P (dot x l) (dot y m) k
  at_push x y l m d k q r v w c s (inl p) (inl p') = via (stay p) (push p p' v w c s) (stayed p')
  at_push x y l m d k q r v w c s (inl p) (inr n) = via (stay p) (here k p v) (enter p n v w c s)
  at_push x y l m d k q r v w c s (inr n) (inl p) = via (leave n p v w c s) (here k p w) (stayed p)
  at_push x y l m d k q r v w c s (inr n) (inr n') = direct n n' v w c s

  pub normal : {x y : Var} {k : Kind} → Path L Q x y k → Normal L P x y k
  normal (here {x} k q v) = at_here x k q v (dec x)
  normal (up {x} {y} m) = let p : P x × P y = lines x y m in via (stay p.0) (up m) (stayed p.1)
  normal (down {x} {y} m) = let p : P x × P y = lines x y m in via (stay p.1) (down m) (stayed p.0)
  normal (flexible_up {x} {y} m) = let p : P x × P y = lines x y m in via (stay p.0) (flexible_up m) (stayed p.1)
  normal (flexible_down {x} {y} m) = let p : P x × P y = lines x y m in via (stay p.1) (flexible_down m) (stayed p.0)
  normal (join b c) = normal_join L P (normal b) (normal c)
  normal (push {x} {y} {l} {m} {d} {k} q r v w c s) =
      at_push x y l m d k q r v w (close L P (normal c) (parent x l q) (parent y m r)) s (dec (dot x l)) (dec (dot y m))

  pub eliminate : {x y : Var} {k : Kind} → Path L Q x y k → P x → P y → Path L P x y k
  eliminate b p q = close L P (normal b) p q

-- each path has a bound on its words
bounded : (L : Given) (M : Var → Type 0) → {x y : Var} {k : Kind} → Path L Every x y k → (n : ℕ) × Path L (Upto M n) x y k
bounded L M (here {x} k p v) = (size x, here k (short (omega arith)) v)
bounded L M (up m) = (0, up m)
bounded L M (down m) = (0, down m)
bounded L M (flexible_up m) = (0, flexible_up m)
bounded L M (flexible_down m) = (0, flexible_down m)
bounded L M (join {x} {y} {z} {k} b c) =
    let d : (n : ℕ) × Path L (Upto M n) x y k = bounded L M b in
    let e : (n : ℕ) × Path L (Upto M n) y z k = bounded L M c in (
      d.0 + e.0,
      join (more L (Upto M d.0) (Upto M (d.0 + e.0)) (wider M d.0 (d.0 + e.0) (omega arith)) d.1)
          (more L (Upto M e.0) (Upto M (d.0 + e.0)) (wider M e.0 (d.0 + e.0) (omega arith)) e.1),
    )
bounded L M (push {x} {y} {l} {m} {d} {k} p q v w c s) =
    let e : (n : ℕ) × Path L (Upto M n) x y d = bounded L M c in
    let n : ℕ = e.0 + (suc (size x) + suc (size y)) in
    (n, push (short (omega arith)) (short (omega arith)) v w (more L (Upto M e.0) (Upto M n) (wider M e.0 n (omega arith)) e.1) s)

module _ (L : Given) (M : Var → Type 0) (dec : (x : Var) → M x ⊎ (M x → ⊥)) (parent : (x : Var) (l : Label) → M (dot x l) → M x)
    (root : (b : Base) → Der L (V (at b)) → M (at b)) (lines : (x y : Var) → HasSub L x y → M x × M y) where
  parent_upto : (n : ℕ) (x : Var) (l : Label) → Upto M (suc n) (dot x l) → Upto M n x
  parent_upto n x l (named p) = named (parent x l p)
  parent_upto n x l (short h) = short (omega arith)

  parent_none : (x : Var) (l : Label) → Upto M 0 (dot x l) → M x
  parent_none x l (named p) = parent x l p
  parent_none x l (short h) = absurd (omega arith)

  lower : (n : ℕ) {x y : Var} {k : Kind} → M x → M y → Path L (Upto M n) x y k → Path L M x y k
  lower zero p q b = eliminate L M (Upto M 0) dec parent_none root lines b p q
  lower (suc n) p q b = lower n p q (eliminate L (Upto M n) (Upto M (suc n)) (λ x. upto_by M n x (dec x) (le_or (size x) n)) (parent_upto n)
      (λ b v. named (root b v)) (λ x y m. (named (lines x y m).0, named (lines x y m).1)) b (named p) (named q))

  -- a path over all variables between two of the set is one over the set
  pub reduced : {x y : Var} {k : Kind} → M x → M y → Path L Every x y k → Path L M x y k
  reduced p q b = let d : (n : ℕ) × Path L (Upto M n) _ _ _ = bounded L M b in lower d.0 p q d.1
