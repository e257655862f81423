-- How a path from a named variable comes to one that isn't named.
use Rattle.std.proofs.Common.{◌≡◌, ℕ, zero, suc, ◌⊎◌, inl, inr, refl, subst, arith, ◌≤◌}
use Rattle.rt_lines.specs.declared.label.Label.{Label}
use Rattle.rt_lines.specs.declared.variable.Base.{Base}
use Rattle.rt_bridge.specs.Growing.{Var, at, dot, Given, V, Der, HasSub}
use Rattle.rt_bridge.proofs.Bridges.{Every}
use Rattle.rt_bridge.proofs.Eliminating.{size}
use Rattle.rt_loose.specs.Kinds.{Kind}
use Rattle.rt_loose.proofs.Paths.{Pushes, Path, Composed, compose, more}
use Rattle.rt_loose.proofs.Eliminating.{stay, leave, Enters, stayed, enter, Normal, via, direct, normal, eliminate, reduced}

pub data Prefix : Var → Var → Type 0 where
  whole : {x : Var} → Prefix x x
  part : {x y : Var} (l : Label) → Prefix x y → Prefix x (dot y l)

prefix_size : {x y : Var} → Prefix x y → size x ≤ size y
prefix_size whole = omega arith
prefix_size (part l p) = let h : size _ ≤ size _ = prefix_size p in omega arith

prefix_parent : {x y : Var} {l : Label} → Prefix (dot x l) y → Prefix x y
prefix_parent {l} whole = part l whole
prefix_parent (part m p) = part m (prefix_parent p)

-- named, or a prefix of a variable
pub data Near (N : Var → Type 0) (y x : Var) : Type 0 where
  named : N x → Near N y x
  along : Prefix x y → Near N y x

near_more : (N : Var → Type 0) {y z : Var} → Prefix y z → (x : Var) → Near N y x → Near N z x
near_more N p x (named n) = named n
near_more N p x (along q) = along (prefix_chain q p)
  where
    prefix_chain : {x y z : Var} → Prefix x y → Prefix y z → Prefix x z
    prefix_chain q whole = q
    prefix_chain q (part l p) = part l (prefix_chain q p)

-- how a path from a named variable enters z.l, which is not named
pub record Entry (L : Given) (N : Var → Type 0) (n z : Var) (l : Label) (k : Kind) : Type 0 where
  pub head : Var
  pub last : Label
  pub is_named : N (dot head last)
  pub exists_there : Der L (V (dot head last))
  pub arrives : Path L N n (dot head last) k
  pub kind : Kind
  pub beside : Path L (Near N z) head z kind
  pub pushes : Pushes L head last l kind k

module _ (L : Given) (N : Var → Type 0) (same_var : (x y : Var) → (x ≡ y) ⊎ (x ≡ y → ⊥)) (dec : (x : Var) → N x ⊎ (N x → ⊥))
    (parent : (x : Var) (l : Label) → N (dot x l) → N x) (root : (b : Base) → Der L (V (at b)) → N (at b))
    (lines : (x y : Var) → HasSub L x y → N x × N y) where
  prefix_by : (x y : Var) → (x ≡ y) ⊎ (x ≡ y → ⊥) → Prefix x y ⊎ (Prefix x y → ⊥)
  prefix_by x y (inl e) = inl (subst (λ z. Prefix x z) e whole)
  prefix_by x (at b) (inr n) = inr (λ p. no_base x b n p)
    where
      no_base : (x : Var) (b : Base) → (x ≡ at b → ⊥) → Prefix x (at b) → ⊥
      no_base x b n whole = n refl
  prefix_by x (dot y l) (inr n) = elim (prefix_by x y (same_var x y)) [
    | inl p ↦ inl (part l p)
    | inr f ↦ inr (λ p. no_part x y l n f p)
  ]
    where
      no_part : (x y : Var) (l : Label) → (x ≡ dot y l → ⊥) → (Prefix x y → ⊥) → Prefix x (dot y l) → ⊥
      no_part x y l n f whole = n refl
      no_part x y l n f (part m p) = f p

  near_by : (y x : Var) → N x ⊎ (N x → ⊥) → Prefix x y ⊎ (Prefix x y → ⊥) → Near N y x ⊎ (Near N y x → ⊥)
  near_by y x (inl n) p = inl (named n)
  near_by y x (inr f) (inl p) = inl (along p)
  near_by y x (inr f) (inr g) = inr (λ h. elim h [ named n ↦ f n | along p ↦ g p ])

  near_dec : (y x : Var) → Near N y x ⊎ (Near N y x → ⊥)
  near_dec y x = near_by y x (dec x) (prefix_by x y (same_var x y))

  near_parent : (y : Var) (m : Label) (x : Var) (l : Label) → Near N (dot y m) (dot x l) → Near N y x
  near_parent y m x l (named n) = named (parent x l n)
  near_parent y m x l (along p) = along (tail_prefix x l y m p)
    where
      tail_prefix : (x : Var) (l : Label) (y : Var) (m : Label) → Prefix (dot x l) (dot y m) → Prefix x y
      tail_prefix x l y m whole = whole
      tail_prefix x l y m (part o p) = prefix_parent p

  own_parent : (y : Var) (x : Var) (l : Label) → Near N y (dot x l) → Near N y x
  own_parent y x l (named n) = named (parent x l n)
  own_parent y x l (along p) = along (prefix_parent p)

  step_down : (y : Var) (m : Label) {a b : Var} {k : Kind} → Path L (Near N (dot y m)) a b k → Near N y a → Near N y b →
      Path L (Near N y) a b k
  step_down y m w p q = eliminate L (Near N y) (Near N (dot y m)) (near_dec y) (near_parent y m) (λ b v. named (root b v))
      (λ a b c. (named (lines a b c).0, named (lines a b c).1)) w p q

  -- down to a prefix
  down_to : {y z : Var} → Prefix y z → {a b : Var} {k : Kind} → Path L (Near N z) a b k → Near N y a → Near N y b →
      Path L (Near N y) a b k
  down_to whole w p q = w
  down_to (part {y = z} l c) w p q = down_to c (step_down z l w (near_more N c _ p) (near_more N c _ q)) p q

  no_parent : (b : Base) (x : Var) (l : Label) → Near N (at b) (dot x l) → N x
  no_parent b x l (named n) = parent x l n
  no_parent b x l (along p) = absurd (bare x l b p)
    where
      bare : (x : Var) (l : Label) (b : Base) → Prefix (dot x l) (at b) → ⊥
      bare x l b p = let h : size (dot x l) ≤ size (at b) = prefix_size p in omega arith

  down_named : (z : Var) {a b : Var} {k : Kind} → Path L (Near N z) a b k → N a → N b → Path L N a b k
  down_named (at c) w p q = eliminate L N (Near N (at c)) dec (no_parent c) root lines w p q
  down_named (dot z l) w p q = down_named z (step_down z l w (named p) (named q)) p q

  not_near : (z : Var) (l : Label) → (N (dot z l) → ⊥) → Near N z (dot z l) → ⊥
  not_near z l f (named n) = f n
  not_near z l f (along p) = too_long z l p
    where
      too_long : (z : Var) (l : Label) → Prefix (dot z l) z → ⊥
      too_long z l p = let h : size (dot z l) ≤ size z = prefix_size p in omega arith

  entry_named : (n z u : Var) (m l : Label) (d k : Kind) → N n → N (dot u m) → Der L (V (dot u m)) → Path L (Near N z) n (dot u m) k →
      Path L (Near N z) u z d → Pushes L u m l d k → Entry L N n z l k
  entry_named n z u m l d k p q v b c s = record {
    head = u;
    last = m;
    is_named = q;
    exists_there = v;
    arrives = down_named z b p q;
    kind = d;
    beside = c;
    pushes = s;
  }

  entry_composed : (n z u : Var) (m l : Label) (d k : Kind) → Prefix u z → Entry L N n u m k → Path L (Near N z) u z d →
      Pushes L u m l d k → Entry L N n z l k
  entry_composed n z u m l d k p e c s =
      let b : Path L (Near N z) e.head u e.kind = more L (Near N u) (Near N z) (near_more N p) e.beside in
      let x : Composed L (Near N z) e.head z e.last l k = compose L (Near N z) b e.pushes c s in record {
        head = e.head;
        last = e.last;
        is_named = e.is_named;
        exists_there = e.exists_there;
        arrives = e.arrives;
        kind = x.between;
        beside = x.way;
        pushes = x.pushes;
      }

  -- that shorter variables are entered so
  abbrev Shorter : ℕ → Type 0
  Shorter f = (z : Var) (l : Label) → size (dot z l) ≤ f → (N (dot z l) → ⊥) → (n : Var) (k : Kind) → N n →
      Path L (Near N (dot z l)) n (dot z l) k → Entry L N n z l k

  entry_by : (f : ℕ) (rec : Shorter f) (n z u : Var) (m l : Label) (d k : Kind) → size z ≤ f → N n → Near N z (dot u m) →
      N (dot u m) ⊎ (N (dot u m) → ⊥) → Der L (V (dot u m)) → Path L (Near N z) n (dot u m) k → Path L (Near N z) u z d →
      Pushes L u m l d k → Entry L N n z l k
  entry_by f rec n z u m l d k h p q (inl i) v b c s = entry_named n z u m l d k p i v b c s
  entry_by f rec n z u m l d k h p (named q) (inr j) v b c s = absurd (j q)
  entry_by f rec n z u m l d k h p (along q) (inr j) v b c s =
      let g : size (dot u m) ≤ size z = prefix_size q in
      entry_composed n z u m l d k (prefix_parent q) (rec u m (omega arith) j n k p (down_to q b (named p) (along whole))) c s

  entry_in : (f : ℕ) (rec : Shorter f) (n y z : Var) (l : Label) (k : Kind) → size z ≤ f → (N (dot z l) → ⊥) → N n →
      Path L (Near N z) n y k → Enters L (Near N z) y (dot z l) k → Entry L N n z l k
  entry_in f rec n y z l k h j p b (stayed q) = absurd (not_near z l j q)
  entry_in f rec n y z l k h j p b (enter {u} {l = m} {d} q _ v w c s) = entry_by f rec n z u m l d k h p q (dec (dot u m)) v b c s

  entry_normal : (f : ℕ) (rec : Shorter f) (n z : Var) (l : Label) (k : Kind) → size z ≤ f → (N (dot z l) → ⊥) → N n →
      Normal L (Near N z) n (dot z l) k → Entry L N n z l k
  entry_normal f rec n z l k h j p (via (stay q) b i) = entry_in f rec n _ z l k h j p b i
  entry_normal f rec n z l k h j p (via (leave g q v w b s) c i) = absurd (g (named p))
  entry_normal f rec n z l k h j p (direct g g' v w b s) = absurd (g (named p))

  -- a path from a named variable to one that isn't named enters it from a named one beside it
  enters : (f : ℕ) → Shorter f
  enters zero z l h j n k p w = absurd (omega arith)
  enters (suc f) z l h j n k p w =
      entry_normal f (enters f) n z l k (omega arith) j p
      (normal L (Near N z) (Near N (dot z l)) (near_dec z) (near_parent z l) (λ b v. named (root b v))
      (λ a b c. (named (lines a b c).0, named (lines a b c).1)) w)

  pub entered : (z : Var) (l : Label) → (N (dot z l) → ⊥) → (n : Var) (k : Kind) → N n → Path L Every n (dot z l) k → Entry L N n z l k
  entered z l j n k p w =
      enters (size (dot z l)) z l (omega arith) j n k p
      (reduced L (Near N (dot z l)) (near_dec (dot z l)) (own_parent (dot z l)) (λ b v. named (root b v))
      (λ a b c. (named (lines a b c).0, named (lines a b c).1)) (named p) (along whole) w)
