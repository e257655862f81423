-- An upper relation without load and store of some variables is one with them.
use Rattle.std.proofs.Common.{◌≡◌, ◌⊎◌, inl, inr, [], ◌∷◌, refl, sym, subst}
use Rattle.rt_lines.specs.declared.label.Label.{Label}
use Rattle.rt_lines.specs.declared.label.Label.TheVariants.{In, Out, Load, Store, Field}
use Rattle.rt_lines.specs.declared.label.Variance.{Variance}
use Rattle.rt_lines.specs.declared.label.Variance.TheVariants.{Co, Contra}
use Rattle.rt_lines.specs.Words.{label_variance, variance_of_word, times}
use Rattle.rt_bridge.specs.Growing.{Var, at, dot, Given, E, Der, HasSub}
use Rattle.rt_bridge.specs.Counted.{IsPointer, Flip}
use Rattle.rt_bridge.proofs.Growing.{e2, q2, q3, q4}
use Rattle.rt_enclosing.specs.Lower.{IsThere}
use Rattle.rt_enclosing.specs.Upper.{AreBeside, NeedHub, IsUpper, Steps, stay, by_line, by_push}
use Rattle.rt_enclosing.specs.Implicit.{IsAccess, Shown, AreImplicit, ArePushedBehind}

is_pointer : (l : Label) → IsPointer l ⊎ (IsPointer l → ⊥)
is_pointer Load = inl tt
is_pointer Store = inl tt
is_pointer (Field wide off) = inr (λ p. p)
is_pointer (In loc) = inr (λ p. p)
is_pointer (Out n) = inr (λ p. p)

module _ (L fewer : Given) (M I : Var → Type 0) (below meets pushed : Var → Var → Type 0)
    (dec : (x : Var) → I x ⊎ (I x → ⊥)) (parent : (x : Var) (l : Label) → M (dot x l) → M x)
    (are : AreImplicit L fewer I) (upper : IsUpper L (Shown M I) below meets pushed)
    (behind : ArePushedBehind L (Shown M I) I below meets pushed) where
  -- a relation of what is shown, with the loads and stores
  pub data Wide (Rel : Var → Var → Type 0) : Var → Var → Type 0 where
    shown : {x y : Var} → (IsAccess I x → ⊥) → (IsAccess I y → ⊥) → Rel x y → Wide Rel x y
    loads : {x y : Var} → I x → I y → Der L (E x y) → below x y → Wide Rel (dot x Load) (dot y Load)
    stores : {x y : Var} → I x → I y → Der L (E x y) → below x y → Wide Rel (dot y Store) (dot x Store)
    cross : {x y : Var} → I x → I y → Der L (E x y) → meets x y → Wide Rel (dot x Store) (dot y Load)

  pub data Joint : Var → Var → Type 0 where
    joint : {x y : Var} → (IsAccess I x → ⊥) → (IsAccess I y → ⊥) → meets x y → Joint x y

  access : (x : Var) → IsAccess I x ⊎ (IsAccess I x → ⊥)
  access (at b) = inr (λ p. p)
  access (dot x l) = elim (is_pointer l) [
    | inl p ↦ elim (dec x) [ inl i ↦ inl (p, i) | inr n ↦ inr (λ a. n a.1) ]
    | inr n ↦ inr (λ a. n a.0)
  ]

  -- what can be read and written through is no load or store of those variables, and so they are none
  flat : (x : Var) → Flip L x → IsAccess I x → ⊥
  flat (at b) f a = a
  flat (dot x l) f a = are.level a.1 a.0 f

  none : {x : Var} → I x → IsAccess I x → ⊥
  none {x} i a = flat x (are.flips i) a

  apart : {x : Var} (l : Label) → (I x → ⊥) → IsAccess I (dot x l) → ⊥
  apart l n a = n a.1

  shown_there : {x : Var} → (IsAccess I x → ⊥) → IsThere L M x → IsThere L (Shown M I) x
  shown_there n t = ((t.0, n), t.1)

  self_by : (x : Var) → IsThere L M x → IsAccess I x ⊎ (IsAccess I x → ⊥) → Wide below x x
  self_by x t (inr n) = shown n n (upper.self (shown_there n t))
  self_by (at b) t (inl a) = absurd a
  self_by (dot x Load) t (inl a) = loads a.1 a.1 (q2 (e2 Load t.1)) (upper.self (shown_there (none a.1) (parent x Load t.0, e2 Load t.1)))
  self_by (dot x Store) t (inl a) =
      stores a.1 a.1 (q2 (e2 Store t.1)) (upper.self (shown_there (none a.1) (parent x Store t.0, e2 Store t.1)))
  self_by (dot x (Field wide off)) t (inl a) = absurd a.0
  self_by (dot x (In loc)) t (inl a) = absurd a.0
  self_by (dot x (Out n)) t (inl a) = absurd a.0

  wide_chain : {x y z : Var} → Wide below x y → Wide below y z → Wide below x z
  wide_chain (shown n m p) (shown n' m' q) = shown n m' (upper.chain p q)
  wide_chain (shown n m p) (loads i j e q) = absurd (m (tt, i))
  wide_chain (shown n m p) (stores i j e q) = absurd (m (tt, j))
  wide_chain (shown n m p) (cross i j e q) = absurd (m (tt, i))
  wide_chain (loads i j e p) (shown n m q) = absurd (n (tt, j))
  wide_chain (loads i j e p) (loads i' j' e' q) = loads i j' (q4 e e') (upper.chain p q)
  wide_chain (stores i j e p) (shown n m q) = absurd (n (tt, i))
  wide_chain (stores i j e p) (stores i' j' e' q) = stores i' j (q4 e' e) (upper.chain q p)
  wide_chain (stores i j e p) (cross i' j' e' q) = cross j j' (q4 (q3 e) e') (upper.turned (upper.onward (upper.turned q) p))
  wide_chain (cross i j e p) (shown n m q) = absurd (n (tt, j))
  wide_chain (cross i j e p) (loads i' j' e' q) = cross i j' (q4 e e') (upper.onward p q)

  wide_stays : {x y : Var} → Wide pushed x y → Wide below x y
  wide_stays (shown n m p) = shown n m (upper.stays p)
  wide_stays (loads i j e p) = loads i j e p
  wide_stays (stores i j e p) = stores i j e p
  wide_stays (cross i j e p) = cross i j e p

  -- a letter behind what is shown
  shown_co : (l : Label) (x y : Var) → label_variance l ≡ Co → IsThere L M (dot x l) → IsThere L M (dot y l) → Der L (E x y) → below x y →
      IsPointer l ⊎ (IsPointer l → ⊥) → I x ⊎ (I x → ⊥) → Wide pushed (dot x l) (dot y l)
  shown_co l x y c t u e b (inr n) d =
      shown (λ a. n a.0) (λ a. n a.0) (upper.co l c (shown_there (λ a. n a.0) t) (shown_there (λ a. n a.0) u) e b)
  shown_co l x y c t u e b (inl p) (inr n) =
      let m : I y → ⊥ = λ i. n (are.shape i (q3 e)) in
      shown (apart l n) (apart l m) (upper.co l c (shown_there (apart l n) t) (shown_there (apart l m) u) e b)
  shown_co Load x y c t u e b (inl p) (inl i) = loads i (are.shape i e) e b
  shown_co Store x y c t u e b (inl p) (inl i) = absurd (cc)
  shown_co (Field wide off) x y c t u e b (inl p) (inl i) = absurd p
  shown_co (In loc) x y c t u e b (inl p) (inl i) = absurd p
  shown_co (Out n) x y c t u e b (inl p) (inl i) = absurd p

  shown_contra : (l : Label) (x y : Var) → label_variance l ≡ Contra → IsThere L M (dot x l) → IsThere L M (dot y l) → Der L (E x y) →
      below x y → IsPointer l ⊎ (IsPointer l → ⊥) → I x ⊎ (I x → ⊥) → Wide pushed (dot y l) (dot x l)
  shown_contra l x y c t u e b (inr n) d =
      shown (λ a. n a.0) (λ a. n a.0) (upper.contra l c (shown_there (λ a. n a.0) t) (shown_there (λ a. n a.0) u) e b)
  shown_contra l x y c t u e b (inl p) (inr n) =
      let m : I y → ⊥ = λ i. n (are.shape i (q3 e)) in
      shown (apart l m) (apart l n) (upper.contra l c (shown_there (apart l n) t) (shown_there (apart l m) u) e b)
  shown_contra Store x y c t u e b (inl p) (inl i) = stores i (are.shape i e) e b
  shown_contra Load x y c t u e b (inl p) (inl i) = absurd (cc)
  shown_contra (Field wide off) x y c t u e b (inl p) (inl i) = absurd p
  shown_contra (In loc) x y c t u e b (inl p) (inl i) = absurd p
  shown_contra (Out n) x y c t u e b (inl p) (inl i) = absurd p

  -- what is behind load or store of those variables is shown
  past : {x : Var} (p l : Label) → IsPointer p → I x → IsAccess I (dot (dot x p) l) → ⊥
  past p l q i a = are.level i q (are.flips a.1)

  past_there : {x : Var} (p l : Label) → IsPointer p → I x → IsThere L M (dot (dot x p) l) → IsThere L (Shown M I) (dot (dot x p) l)
  past_there p l q i t = shown_there (past p l q i) t

  signs : (l : Label) (b : Variance) → label_variance l ≡ b → variance_of_word (l ∷ []) ≡ b
  signs l Co e = rw e refl
  signs l Contra e = rw e refl

  flipped : (l : Label) (b : Variance) → label_variance l ≡ b → variance_of_word (Store ∷ l ∷ []) ≡ times Contra b
  flipped l Co e = rw e refl
  flipped l Contra e = rw e refl

  wide_co : {x y : Var} (l : Label) → label_variance l ≡ Co → IsThere L M (dot x l) → IsThere L M (dot y l) → Der L (E x y) →
      Wide below x y → Wide pushed (dot x l) (dot y l)
  wide_co {x} {y} l c t u s (shown n m p) = shown_co l x y c t u s p (is_pointer l) (dec x)
  wide_co l c t u s (loads i j e p) =
      shown (past Load l tt i) (past Load l tt j)
      (behind.co Load l tt (signs l Co c) i (past_there Load l tt i t) (past_there Load l tt j u) e p)
  wide_co l c t u s (stores i j e p) =
      shown (past Store l tt j) (past Store l tt i)
      (behind.contra Store l tt (flipped l Co c) i (past_there Store l tt i u) (past_there Store l tt j t) e p)
  wide_co l c t u s (cross i j e p) =
      shown (past Store l tt i) (past Load l tt j) (behind.pointer_co l c i (past_there Store l tt i t) (past_there Load l tt j u) e p)

  wide_contra : {x y : Var} (l : Label) → label_variance l ≡ Contra → IsThere L M (dot x l) → IsThere L M (dot y l) → Der L (E x y) →
      Wide below x y → Wide pushed (dot y l) (dot x l)
  wide_contra {x} {y} l c t u s (shown n m p) = shown_contra l x y c t u s p (is_pointer l) (dec x)
  wide_contra l c t u s (loads i j e p) =
      shown (past Load l tt j) (past Load l tt i)
      (behind.contra Load l tt (signs l Contra c) i (past_there Load l tt i t) (past_there Load l tt j u) e p)
  wide_contra l c t u s (stores i j e p) =
      shown (past Store l tt i) (past Store l tt j)
      (behind.co Store l tt (flipped l Contra c) i (past_there Store l tt i u) (past_there Store l tt j t) e p)
  wide_contra l c t u s (cross i j e p) =
      shown (past Load l tt j) (past Store l tt i) (behind.pointer_contra l c i (past_there Store l tt i t) (past_there Load l tt j u) e p)

  wide_pointer : {x y : Var} → IsThere L M (dot x Store) → IsThere L M (dot y Load) → Flip L x → Der L (E x y) → Joint x y →
      I x ⊎ (I x → ⊥) → Wide pushed (dot x Store) (dot y Load)
  wide_pointer t u f e (joint n m p) (inl i) = cross i (are.shape i e) e p
  wide_pointer {x} {y} t u f e (joint n m p) (inr k) =
      let h : I y → ⊥ = λ i. k (are.shape i (q3 e)) in
      shown (apart Store k) (apart Load h) (upper.pointer (shown_there (apart Store k) t) (shown_there (apart Load h) u) f e p)

  joint_onward : {x y z : Var} → Joint x y → Wide below y z → Joint x z
  joint_onward (joint n m p) (shown n' m' q) = joint n m' (upper.onward p q)
  joint_onward (joint n m p) (loads i j e q) = absurd (m (tt, i))
  joint_onward (joint n m p) (stores i j e q) = absurd (m (tt, j))
  joint_onward (joint n m p) (cross i j e q) = absurd (m (tt, i))

  joint_turned : {x y : Var} → Joint x y → Joint y x
  joint_turned (joint n m p) = joint m n (upper.turned p)

  beside_shown : {x y : Var} (l m : Label) → AreBeside L x l m → Der L (E x y) → (IsAccess I (dot x l) → ⊥) → IsAccess I (dot y m) → ⊥
  beside_shown l m (inl e) s n a = n (subst IsPointer (sym e) a.0, are.shape a.1 (q3 s))
  beside_shown l m (inr b) s n a = n (b.0, are.shape a.1 (q3 s))

  wide_hubs : {x y : Var} {l m : Label} → NeedHub L M x y l m → Joint (dot x l) (dot y m)
  wide_hubs {x} {y} {l} {m} h =
      let n : IsAccess I (dot x l) → ⊥ = flat (dot x l) h.flips in
      let k : IsAccess I (dot y m) → ⊥ = beside_shown l m h.beside h.same n in
      let t : IsThere L (Shown M I) (dot x l) = shown_there n h.first in
      let u : IsThere L (Shown M I) (dot y m) = shown_there k h.second in
      joint n k (upper.hubs (record { first = t; second = u; same = h.same; beside = h.beside; flips = h.flips }))

  pub wide_upper : IsUpper L M (Wide below) Joint (Wide pushed)
  wide_upper = record {
    self = λ {x} t. self_by x t (access x);
    chain = wide_chain;
    stays = wide_stays;
    co = wide_co;
    contra = wide_contra;
    pointer = λ {x} t u f e j. wide_pointer t u f e j (dec x);
    alone = λ {x} t f. joint (flat x f) (flat x f) (upper.alone (shown_there (flat x f) t) f);
    turned = joint_turned;
    onward = joint_onward;
    hubs = wide_hubs;
  }

  pub wide_lines : ((x y : Var) → HasSub fewer x y → below x y) → (x y : Var) → HasSub fewer x y → Wide below x y
  wide_lines lines x y h = let s : (IsAccess I x → ⊥) × (IsAccess I y → ⊥) = are.sides x y h in shown s.0 s.1 (lines x y h)

  -- steps from what is shown go over what is shown
  pub bared : {x y : Var} → (IsAccess I x → ⊥) → Steps fewer (Wide pushed) x y → Steps fewer pushed x y
  bared n stay = stay
  bared n (by_line {x} {y} h s) = by_line h (bared (are.sides x y h).1 s)
  bared n (by_push (shown k m p) s) = by_push p (bared m s)
  bared n (by_push (loads i j e p) s) = absurd (n (tt, i))
  bared n (by_push (stores i j e p) s) = absurd (n (tt, j))
  bared n (by_push (cross i j e p) s) = absurd (n (tt, i))
