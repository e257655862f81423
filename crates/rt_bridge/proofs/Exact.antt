-- One variable lies below another exactly if there is a counted judgement of count nought; and on lines of existence alone exactly if the numbers allow it.
use Rattle.std.proofs.Common.{◌≡◌, ℕ, ◌⊎◌, List, [], ◌∷◌, refl, subst, arith, ◌≤◌, ◌+◌, Bool, true}
use Rattle.rt_lines.specs.declared.label.Label.{Label}
use Rattle.rt_lines.specs.declared.label.Variance.{Variance}
use Rattle.rt_lines.specs.declared.label.Variance.TheVariants.{Co, Contra}
use Rattle.rt_lines.specs.declared.variable.Base.{Base}
use Rattle.rt_lines.specs.Words.{label_variance, times, variance_of_word}
use Rattle.rt_bridge.specs.Growing.{Var, at, dot, rest, Given, V, E, S, Der, HasSub}
use Rattle.rt_bridge.specs.Counted.{differ, IsEven, State, st, Push, half, kept, Bridge, here, turn, up, down, join, push, Flip}
use Rattle.rt_bridge.proofs.Growing.{e2, both}
use Rattle.rt_bridge.proofs.Bridges.{ways, bridge_same, even_join, even_here, even_turn, bridge_even, push_join, Every}
use Rattle.rt_bridge.proofs.Eliminating.{times-turn, complete}
use Rattle.rt_bridge.proofs.Chains.{nil, swap, place_of, tail_num, same_place, kept_count, derivable, place, num, Spell, num_flip}

-- One variable lies below another by the rules exactly if the named variables have a bridge of count 0
module _ (L : Given) (fl : Var → Bool) (yes : (x : Var) → fl x ≡ true → Flip L x) (no : (x : Var) → Flip L x → fl x ≡ true)
    (M : Var → Type 0) (dec : (x : Var) → M x ⊎ (M x → ⊥)) (parent : (x : Var) (l : Label) → M (dot x l) → M x)
    (root : (b : Base) → Der L (V (at b)) → M (at b)) (lines : (x y : Var) → HasSub L x y → M x × M y) where
  pub exact : (x y : Var) → M x → M y → Der L (V x) → (Der L (S x y) → Bridge L M (st x Co) (st y Co) 0) × (Bridge L M (st x Co) (st y Co) 0 → Der L (S x y))
  exact x y p q v = (complete L M dec parent root lines p q, derivable fl L yes no M v)

-- where no `<=` line reaches, a bridge is one of the parents pushed; on `var` lines alone this gives the other half of the chain law
pub data Level (L : Given) (M : Var → Type 0) : State → State → ℕ → Type 0 where
  bare : {b : Base} {a c : Variance} {k : ℕ} → IsEven (k + differ a c) → Level L M (st (at b) a) (st (at b) c) k
  level : {x y : Var} {l m : Label} {a b : Variance} {d k : ℕ} → Der L (V (dot x l)) → Bridge L M (st x (times (label_variance l) a)) (st y (times (label_variance m) b)) d →
      Push L x l m d a b k → Level L M (st (dot x l) a) (st (dot y m) b) k

module _ (L : Given) (M : Var → Type 0) (parent : (x : Var) (l : Label) → M (dot x l) → M x)
    (Z : Var → Type 0) (closed : (x y : Var) → Der L (E x y) → Z x → Z y)
    (free : (x y : Var) → HasSub L x y → (Z x → ⊥) × (Z y → ⊥)) where
  level_here : (x : Var) (a : Variance) → M x → Der L (V x) → Level L M (st x a) (st x a) 0
  level_here (at b) a q v = bare (even_here a)
  level_here (dot x l) a q v = level v (here (times (label_variance l) a) (parent x l q) (e2 l v)) kept

  level_turn : (x : Var) (a : Variance) → M x → Der L (V x) → Level L M (st x a) (st x (times Contra a)) 1
  level_turn (at b) a q v = bare (even_turn a)
  level_turn (dot x l) a q v =
      let b : Bridge L M (st x (times (label_variance l) a)) (st x (times Contra (times (label_variance l) a))) 1 = turn (times (label_variance l) a) (parent x l q) (e2 l v) in
      level v (subst (λ s. Bridge L M (st x (times (label_variance l) a)) (st x s) 1) (times-turn (label_variance l) a) b) kept

  level_join : {x y z : State} {j k : ℕ} → Level L M x y j → Level L M y z k → Level L M x z (j + k)
  level_join (bare {a} {c} {k = j} e) (bare {c = d} {k} f) = bare (even_join a c d j k e f)
  level_join (level v b s) (level v' b' s') = level v (join b b') (push_join L (bridge_same L M b) (bridge_even L M b) (bridge_even L M b') s s')

  zone : {x y : State} {k : ℕ} → Bridge L M x y k → Z x.var → Level L M x y k
  zone (here {x} a q v) z = level_here x a q v
  zone (turn {x} a q v) z = level_turn x a q v
  zone (up {x} {y} m) z = absurd ((free x y m).0 z)
  zone (down {x} {y} m) z = absurd ((free x y m).1 z)
  zone (join {x} {y} b c) z = level_join (zone b z) (zone c (closed x.var y.var (bridge_same L M b) z))
  zone (push q r v w c s) z = level v c s

-- both ends come from one base, by spellings of one word whose numbers rise
pub record Rooted (fl : Var → Bool) (x y : Var) (r s : List Label) : Type 0 where
  pub base : Base
  pub pattern_word : List Label
  pub left : List Label
  pub right : List Label
  pub is_left : rest x r ≡ rest (at base) left
  pub is_right : rest y s ≡ rest (at base) right
  pub spells_left : Spell fl (at base) pattern_word left
  pub spells_right : Spell fl (at base) pattern_word right
  pub rises : num fl (at base) left ≤ num fl (at base) right

module _ (L : Given) (fl : Var → Bool) (yes : (x : Var) → fl x ≡ true → Flip L x) (no : (x : Var) → Flip L x → fl x ≡ true)
    (lineless : (x y : Var) → HasSub L x y → ⊥) where
  parents_level : {x y : State} {k : ℕ} → Bridge L Every x y k → Level L Every x y k
  parents_level b = zone L Every (λ x l p. tt) Every (λ x y e z. tt) (λ x y m. ((λ z. lineless x y m), (λ z. lineless x y m))) b tt

  descend : (x y : Var) (a b : Variance) (k : ℕ) → Level L Every (st x a) (st y b) k → (w r s : List Label) → Der L (V (rest x w)) → Spell fl x w r → Spell fl x w s →
      variance_of_word r ≡ a → variance_of_word s ≡ b → num fl x r + k ≤ num fl x s → Rooted fl x y r s
  descend (at c) y a b k (bare e) w r s u ar bs sr ss n =
      record { base = c; pattern_word = w; left = r; right = s; is_left = refl; is_right = refl; spells_left = ar; spells_right = bs; rises = omega arith }
  descend (dot x l) y a b k (level {y = y'} {m} {d} v c (half p q g g' h i)) w r s u ar bs sr ss n =
      let pl : place fl x l ≡ true = place_of fl x l p (no x (g, g')) in
      let pm : place fl x m ≡ true = place_of fl x m q (no x (g, g')) in
      let o : Rooted fl x y' (l ∷ r) (m ∷ s) = descend x y' (times (label_variance l) a) (times (label_variance m) b) d (parents_level c) (l ∷ w) (l ∷ r) (m ∷ s) u (swap l l pl pl ar) (swap l m pl pm bs)
      (rw sr refl) (rw ss refl) (rw (num_flip fl x l r pl, num_flip fl x m s pm, tail_num fl L yes no x l m pl pm bs u, sr, ss) (omega arith)) in
      record { base = o.base; pattern_word = o.pattern_word; left = o.left; right = o.right; is_left = o.is_left; is_right = o.is_right; spells_left = o.spells_left; spells_right = o.spells_right; rises = o.rises }
  descend (dot x l) y a b k (level {y = y'} {d} v c kept) w r s u ar bs sr ss n =
      let e : IsEven (d + differ (times (label_variance l) a) (times (label_variance l) b)) = bridge_even L Every c in
      let o : Rooted fl x y' (l ∷ r) (l ∷ s) = descend x y' (times (label_variance l) a) (times (label_variance l) b) d (parents_level c) (l ∷ w) (l ∷ r) (l ∷ s) u
      (same_place fl L yes no x l (place fl x l) refl ar) (same_place fl L yes no x l (place fl x l) refl bs) (rw sr refl) (rw ss refl)
      (kept_count fl L yes no x l w r s d (place fl x l) refl ar bs (rw (sr, ss) e) n) in
      record { base = o.base; pattern_word = o.pattern_word; left = o.left; right = o.right; is_left = o.is_left; is_right = o.is_right; spells_left = o.spells_left; spells_right = o.spells_right; rises = o.rises }

  -- from derivable to numbers
  pub counted : (x y : Var) → Der L (S x y) → Rooted fl x y [] []
  counted x y d = descend x y Co Co 0 (parents_level (ways L d).forth) [] [] [] (both L d).0 nil nil refl refl (omega arith)
