-- What counted judgements of counts nought and one say by an upper relation that tells common lower variables and upper ones apart.
use Rattle.std.proofs.Common.{◌≡◌, ℕ, ◌⊎◌, refl, arith, ◌≤◌, ◌+◌}
use Rattle.rt_lines.specs.declared.label.Label.{Label}
use Rattle.rt_lines.specs.declared.label.Label.TheVariants.{In, Out, Load, Store, Field}
use Rattle.rt_lines.specs.declared.label.Variance.{Variance}
use Rattle.rt_lines.specs.declared.label.Variance.TheVariants.{Co, Contra}
use Rattle.rt_lines.specs.declared.variable.Base.{Base}
use Rattle.rt_lines.specs.Words.{label_variance, times}
use Rattle.rt_bridge.specs.Growing.{Var, at, dot, Given, Fact, V, E, S, Der, HasSub}
use Rattle.rt_bridge.specs.Counted.{bit, differ, IsEven, State, IsPointer, Push, half, kept, Bridge, here, turn, up, down, join, push, Flip}
use Rattle.rt_bridge.proofs.Growing.{e2, q3, q4}
use Rattle.rt_bridge.proofs.Bridges.{bridge_same, bridge_even}
use Rattle.rt_bridge.proofs.Eliminating.{complete}
use Rattle.rt_enclosing.specs.Lower.{IsThere}
use Rattle.rt_enclosing.specs.Upper.{Steps, stay, by_line, by_push}
use Rattle.rt_enclosing.specs.Turning.{AreBehind, IsTurning}
use Rattle.rt_enclosing.proofs.Upper.{flip_along}

-- an upper relation of a list, and a list with fewer lines, which it has
module _ (L fewer : Given) (M W : Var → Type 0) (below meets joins pushed : Var → Var → Type 0)
    (upper : IsTurning L M W below meets joins pushed)
    (more : (f : Fact) → Der fewer f → Der L f) (parent : (x : Var) (l : Label) → M (dot x l) → M x)
    (lines : (x y : Var) → HasSub fewer x y → below x y) where
  abbrev Step : Var → Var → Type 0
  Step = Steps fewer pushed

  along : {x y z : Var} → Step x y → Step y z → Step x z
  along stay s = s
  along (by_line h r) s = by_line h (along r s)
  along (by_push p r) s = by_push p (along r s)

  -- what counts of nought and one say, by the signs of both ends
  abbrev Says : Variance → Variance → ℕ → Var → Var → Type 0
  Says Co Co k x y = k ≡ 0 → Step x y
  Says Contra Contra k x y = k ≡ 0 → Step y x
  Says Contra Co k x y = k ≤ 1 → W x → meets x y
  Says Co Contra k x y = k ≤ 1 → W x → joins x y

  -- steps stay in the upper relation
  follow : {x y z : Var} → below x y → Step y z → below x z
  follow b stay = b
  follow b (by_line {x} {y} h s) = follow (upper.chain b (lines x y h)) s
  follow b (by_push p s) = follow (upper.chain b (upper.stays p)) s

  rise : {x y z : Var} → meets x y → Step y z → meets x z
  rise b stay = b
  rise b (by_line {x} {y} h s) = rise (upper.onward_meets b (lines x y h)) s
  rise b (by_push p s) = rise (upper.onward_meets b (upper.stays p)) s

  sink : {x y z : Var} → joins x y → Step z y → joins x z
  sink b stay = b
  sink b (by_line {x} {y} h s) = upper.onward_joins (sink b s) (lines x y h)
  sink b (by_push p s) = upper.onward_joins (sink b s) (upper.stays p)

  front_there : {x : Var} {l : Label} → IsThere L M (dot x l) → IsThere L M x
  front_there {x} {l} t = (parent x l t.0, e2 l t.1)

  pushed_step : {x y : Var} → pushed x y → Step x y
  pushed_step p = by_push p stay

  -- a letter more at both ends, as its sign says
  longer_co : {x y : Var} (l : Label) → label_variance l ≡ Co → IsThere L M (dot x l) → IsThere L M (dot y l) → Der L (E x y) → Step x y →
      Step (dot x l) (dot y l)
  longer_co l e t u q s = pushed_step (upper.co l e t u q (follow (upper.self (front_there t)) s))

  longer_contra : {x y : Var} (l : Label) → label_variance l ≡ Contra → IsThere L M (dot x l) → IsThere L M (dot y l) → Der L (E x y) →
      Step x y → Step (dot y l) (dot x l)
  longer_contra l e t u q s = pushed_step (upper.contra l e t u q (follow (upper.self (front_there t)) s))

  says_join : (a b c : Variance) (j k : ℕ) (x y z : Var) → IsEven (j + differ a b) → IsEven (k + differ b c) → Der L (E x y) → Der L (E y z) →
      Says a b j x y → Says b c k y z → Says a c (j + k) x z
  says_join Co Co Co j k x y z p q s r f g = λ e. along (f (omega (arith, e))) (g (omega (arith, e)))
  says_join Co Contra Co j k x y z p q s r f g = λ e. absurd (omega (arith, p, e))
  says_join Contra Contra Contra j k x y z p q s r f g = λ e. along (g (omega (arith, e))) (f (omega (arith, e)))
  says_join Contra Co Contra j k x y z p q s r f g = λ e. absurd (omega (arith, p, e))
  says_join Contra Co Co j k x y z p q s r f g = λ h w. rise (f (omega (arith, h)) w) (g (omega (arith, h, p)))
  says_join Contra Contra Co j k x y z p q s r f g =
      λ h w. upper.turned_meets (q4 (q3 r) (q3 s)) (rise (upper.turned_meets r (g (omega (arith, h)) (upper.shape s w))) (f (omega (arith, h, q))))
  says_join Co Contra Contra j k x y z p q s r f g = λ h w. sink (f (omega (arith, h)) w) (g (omega (arith, h, p)))
  says_join Co Co Contra j k x y z p q s r f g =
      λ h w. upper.turned_joins (sink (upper.turned_joins (g (omega (arith, h)) (upper.shape s w))) (f (omega (arith, h, q))))

  behind : (l m : Label) (x y : Var) → IsThere L M (dot x l) → IsThere L M (dot y m) → Der L (E x y) → W (dot x l) → AreBehind L M W x y l m
  behind l m x y t u q w = record { first = t; second = u; same = q; matters = w }

  -- a letter that is kept
  says_kept : (l : Label) (a b s : Variance) (k : ℕ) (x y : Var) → label_variance l ≡ s → IsThere L M (dot x l) → IsThere L M (dot y l) →
      Der L (E x y) →
      Says (times s a) (times s b) k x y → Says a b k (dot x l) (dot y l)
  says_kept l Co Co Co k x y e t u q f = λ z. longer_co l e t u q (f z)
  says_kept l Co Co Contra k x y e t u q f = λ z. longer_contra l e u t (q3 q) (f z)
  says_kept l Contra Contra Co k x y e t u q f = λ z. longer_co l e u t (q3 q) (f z)
  says_kept l Contra Contra Contra k x y e t u q f = λ z. longer_contra l e t u q (f z)
  says_kept l Contra Co Co k x y e t u q f = λ h w. upper.meets_co l e (behind l l x y t u q w) (f h (upper.letter l t w))
  says_kept l Contra Co Contra k x y e t u q f = λ h w. upper.meets_contra l e (behind l l x y t u q w) (f h (upper.letter l t w))
  says_kept l Co Contra Co k x y e t u q f = λ h w. upper.joins_co l e (behind l l x y t u q w) (f h (upper.letter l t w))
  says_kept l Co Contra Contra k x y e t u q f = λ h w. upper.joins_contra l e (behind l l x y t u q w) (f h (upper.letter l t w))

  -- load or store, behind what can be read and written through
  says_half : (l m : Label) (a b : Variance) (d k : ℕ) (x y : Var) → IsPointer l → IsPointer m → Flip L x → IsThere L M (dot x l) →
      IsThere L M (dot y m) → Der L (E x y) →
      d + bit (times (label_variance l) a) ≤ (k + k) + bit (times (label_variance m) b) →
      IsEven (d + differ (times (label_variance l) a) (times (label_variance m) b)) →
      Says (times (label_variance l) a) (times (label_variance m) b) d x y → Says a b k (dot x l) (dot y m)
  says_half l m Contra Co d k x y p q fx t u e h i f = λ n w. upper.meets_pointer p q fx (behind l m x y t u e w)
  says_half l m Co Contra d k x y p q fx t u e h i f = λ n w. upper.joins_pointer p q fx (behind l m x y t u e w)
  says_half Load Load Co Co d k x y p q fx t u e h i f = λ z. longer_co Load refl t u e (f (omega (arith, h, z)))
  says_half Store Store Co Co d k x y p q fx t u e h i f = λ z. longer_contra Store refl u t (q3 e) (f (omega (arith, h, z)))
  says_half Store Load Co Co d k x y p q fx t u e h i f = λ z. pushed_step (upper.pointer t u fx e (f (omega (arith, h, z)) (upper.flips (front_there t) fx)))
  says_half Load Store Co Co d k x y p q fx t u e h i f = λ z. absurd (omega (arith, h, z))
  says_half Load Load Contra Contra d k x y p q fx t u e h i f = λ z. longer_co Load refl u t (q3 e) (f (omega (arith, h, z)))
  says_half Store Store Contra Contra d k x y p q fx t u e h i f = λ z. longer_contra Store refl t u e (f (omega (arith, h, z)))
  says_half Load Store Contra Contra d k x y p q fx t u e h i f =
      λ z. pushed_step (upper.pointer u t (flip_along L e fx) (q3 e)
      (upper.turned_meets e (f (omega (arith, h, z)) (upper.flips (front_there t) fx))))
  says_half Store Load Contra Contra d k x y p q fx t u e h i f = λ z. absurd (omega (arith, h, z))
  says_half (Field wide off) m Co Co d k x y p q fx t u e h i f = absurd p
  says_half (In loc) m Co Co d k x y p q fx t u e h i f = absurd p
  says_half (Out n) m Co Co d k x y p q fx t u e h i f = absurd p
  says_half Load (Field wide off) Co Co d k x y p q fx t u e h i f = absurd q
  says_half Load (In loc) Co Co d k x y p q fx t u e h i f = absurd q
  says_half Load (Out n) Co Co d k x y p q fx t u e h i f = absurd q
  says_half Store (Field wide off) Co Co d k x y p q fx t u e h i f = absurd q
  says_half Store (In loc) Co Co d k x y p q fx t u e h i f = absurd q
  says_half Store (Out n) Co Co d k x y p q fx t u e h i f = absurd q
  says_half (Field wide off) m Contra Contra d k x y p q fx t u e h i f = absurd p
  says_half (In loc) m Contra Contra d k x y p q fx t u e h i f = absurd p
  says_half (Out n) m Contra Contra d k x y p q fx t u e h i f = absurd p
  says_half Load (Field wide off) Contra Contra d k x y p q fx t u e h i f = absurd q
  says_half Load (In loc) Contra Contra d k x y p q fx t u e h i f = absurd q
  says_half Load (Out n) Contra Contra d k x y p q fx t u e h i f = absurd q
  says_half Store (Field wide off) Contra Contra d k x y p q fx t u e h i f = absurd q
  says_half Store (In loc) Contra Contra d k x y p q fx t u e h i f = absurd q
  says_half Store (Out n) Contra Contra d k x y p q fx t u e h i f = absurd q

  says_push : (x y : Var) (l m : Label) (a b : Variance) (d k : ℕ) → IsThere L M (dot x l) → IsThere L M (dot y m) → Der L (E x y) →
      IsEven (d + differ (times (label_variance l) a) (times (label_variance m) b)) →
      Says (times (label_variance l) a) (times (label_variance m) b) d x y →
      Push fewer x l m d a b k → Says a b k (dot x l) (dot y m)
  says_push x y l m a b d k t u e i f (half p q g h n j) = says_half l m a b d k x y p q (more _ g, more _ h) t u e n i f
  says_push x y l m a b d k t u e i f kept = says_kept l a b (label_variance l) d x y refl t u e f

  says_here : (a : Variance) (x : Var) → Says a a 0 x x
  says_here Co x = λ e. stay
  says_here Contra x = λ e. stay

  says_turn : (a : Variance) (x : Var) → IsThere L M x → Says a (times Contra a) 1 x x
  says_turn Co x t = λ h w. upper.alone_joins t w
  says_turn Contra x t = λ h w. upper.alone_meets t w

  -- each counted judgement of the fewer lines
  pub says : {x y : State} {k : ℕ} → Bridge fewer M x y k → Says x.sign y.sign k x.var y.var
  says (here {x} a m v) = says_here a x
  says (turn {x} a m v) = says_turn a x (m, more _ v)
  says (up h) = λ e. by_line h stay
  says (down h) = λ e. by_line h stay
  says (join {x} {y} {z} {j} {k} b c) =
      says_join x.sign y.sign z.sign j k x.var y.var z.var (bridge_even fewer M b) (bridge_even fewer M c)
      (more _ (bridge_same fewer M b)) (more _ (bridge_same fewer M c)) (says b) (says c)
  says (push {x} {y} {l} {m} {a} {b} {d} {k} p q v w c s) =
      says_push x y l m a b d k (p, more _ v) (q, more _ w) (more _ (bridge_same fewer M c)) (bridge_even fewer M c) (says c) s

  -- what the fewer lines derive, steps lead to
  pub turning_steps : (dec : (x : Var) → M x ⊎ (M x → ⊥)) (root : (b : Base) → Der fewer (V (at b)) → M (at b)) →
      (sides : (x y : Var) → HasSub fewer x y → M x × M y) →
      {x y : Var} → M x → M y → Der fewer (S x y) → Step x y
  turning_steps dec root sides p q d = says (complete fewer M dec parent root sides p q d) refl
