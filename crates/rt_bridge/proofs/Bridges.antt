-- Counted judgements: they hold of what is derivable, join variables of one shape, and keep parity.
use Rattle.std.proofs.Common.{◌≡◌, ℕ, Contains, refl, sym, subst, arith, ◌≤◌, ◌+◌}
use Rattle.rt_lines.specs.declared.label.Label.{Label}
use Rattle.rt_lines.specs.declared.label.Label.TheVariants.{In, Out, Load, Store, Field}
use Rattle.rt_lines.specs.declared.label.Variance.{Variance}
use Rattle.rt_lines.specs.declared.label.Variance.TheVariants.{Co, Contra}
use Rattle.rt_lines.specs.declared.variable.Dtv.{Dtv}
use Rattle.rt_lines.specs.declared.line.Line.TheVariants.{Var as VarLine, Sub}
use Rattle.rt_lines.specs.Words.{label_variance, times}
use Rattle.rt_rules.specs.Rules.{longer, Derivable}
use Rattle.rt_rules.specs.Rules.Derivable.{sub_line, sub_self, sub_chain, sub_co, sub_contra, sub_pointer}
use Rattle.rt_bridge.specs.Growing.{Var, dot, dv, vd, Given, V, E, S, Der, HasSub}
use Rattle.rt_bridge.specs.Counted.{bit, differ, IsEven, State, st, IsPointer, Push, half, kept, Bridge, here, turn, up, down, join, push}
use Rattle.rt_bridge.proofs.Growing.{der, e2, e4, q1, q2, q3, q4, q5, s1, s6, dv-vd, vd-longer, vd-dv}

-- the rules of derivation are admissible, over all variables
abbrev pub Every : Var → Type 0
Every x = Unit {0}

pub record Ways (L : Given) (x y : Var) : Type 0 where
  pub forth : Bridge L Every (st x Co) (st y Co) 0
  pub back : Bridge L Every (st y Contra) (st x Contra) 0

bridge_letter : (L : Given) {x y : Var} (l : Label) (a : Variance) → Der L (V (dot x l)) → Der L (V (dot y l)) →
    Bridge L Every (st x (times (label_variance l) a)) (st y (times (label_variance l) a)) 0 → Bridge L Every (st (dot x l) a) (st (dot y l) a) 0
bridge_letter L l a d e b = push tt tt d e b kept

seen : (L : Given) (x : Dtv) → Derivable L.order L.lines (VarLine x) → Der L (V (vd x))
seen L x d = der L (V (vd x)) (subst (λ y. Derivable L.order L.lines (VarLine y)) (sym (dv-vd x)) d)

seen_longer : (L : Given) (x : Dtv) (l : Label) → Derivable L.order L.lines (VarLine (longer x l)) → Der L (V (dot (vd x) l))
seen_longer L x l d = subst (λ y. Der L (V y)) (vd-longer x l) (seen L (longer x l) d)

seen_sub : (L : Given) (x y : Dtv) → Derivable L.order L.lines (Sub x y) → Der L (S (vd x) (vd y))
seen_sub L x y d = der L (S (vd x) (vd y)) (rw (dv-vd x, dv-vd y) d)

seen_line : (L : Given) (x y : Dtv) → Contains L.lines (Sub x y) → HasSub L (vd x) (vd y)
seen_line L x y c = rw (dv-vd x, dv-vd y) c

ways_of : (L : Given) {x y : Dtv} → Derivable L.order L.lines (Sub x y) → Ways L (vd x) (vd y)
ways_of L (sub_line {x = x} {y = y} m) = record { forth = up (seen_line L x y m); back = down (seen_line L x y m) }
ways_of L (sub_self {x = x} d) = record { forth = here Co tt (seen L x d); back = here Contra tt (seen L x d) }
ways_of L (sub_chain d e) = record { forth = join (ways_of L d).forth (ways_of L e).forth; back = join (ways_of L e).back (ways_of L d).back }
ways_of L (sub_co {x = x} {y = y} l d v e) =
    let w : Ways L (vd x) (vd y) = ways_of L d in
    let s : Der L (S (vd x) (vd y)) = seen_sub L x y d in
    let b : Der L (V (dot (vd y) l)) = seen_longer L y l v in
    rw (vd-longer x l, vd-longer y l) (record {
      forth = bridge_letter L l Co (e4 l (q3 (q1 s)) b) b (rw e w.forth);
      back = bridge_letter L l Contra b (e4 l (q3 (q1 s)) b) (rw e w.back);
    })
ways_of L (sub_contra {x = x} {y = y} l d v e) =
    let w : Ways L (vd x) (vd y) = ways_of L d in
    let s : Der L (S (vd x) (vd y)) = seen_sub L x y d in
    let b : Der L (V (dot (vd y) l)) = seen_longer L y l v in
    rw (vd-longer x l, vd-longer y l) (record {
      forth = bridge_letter L l Co b (e4 l (q3 (q1 s)) b) (rw e w.back);
      back = bridge_letter L l Contra (e4 l (q3 (q1 s)) b) b (rw e w.forth);
    })
ways_of L (sub_pointer x d e) =
    let b : Der L (V (dot (vd x) Load)) = seen_longer L x Load d in
    let c : Der L (V (dot (vd x) Store)) = seen_longer L x Store e in
    let w : Ways L (dot (vd x) Store) (dot (vd x) Load) = record {
      forth = push tt tt c b (turn Contra tt (e2 Load b)) (half tt tt b c (omega arith) refl);
      back = push tt tt b c (turn Contra tt (e2 Load b)) (half tt tt b c (omega arith) refl);
    } in
    rw (vd-longer x Store, vd-longer x Load) w

pub ways : (L : Given) {x y : Var} → Der L (S x y) → Ways L x y
ways L {x} {y} d = subst (λ z. Ways L z y) (vd-dv x) (subst (λ z. Ways L (vd (dv x)) z) (vd-dv y) (ways_of L d.derives))

pub pointer_same : (L : Given) (y : Var) (l m : Label) → IsPointer l → IsPointer m → Der L (V (dot y Load)) → Der L (V (dot y Store)) → Der L (E (dot y l) (dot y m))
pointer_same L y Load Load p q d e = q2 d
pointer_same L y Load Store p q d e = q3 (q1 (s6 d e))
pointer_same L y Store Load p q d e = q1 (s6 d e)
pointer_same L y Store Store p q d e = q2 e
pointer_same L y (Field wide off) m p q d e = absurd p
pointer_same L y (In loc) m p q d e = absurd p
pointer_same L y (Out n) m p q d e = absurd p
pointer_same L y Load (Field wide off) p q d e = absurd q
pointer_same L y Load (In loc) p q d e = absurd q
pointer_same L y Load (Out n) p q d e = absurd q
pointer_same L y Store (Field wide off) p q d e = absurd q
pointer_same L y Store (In loc) p q d e = absurd q
pointer_same L y Store (Out n) p q d e = absurd q

pub push_same : (L : Given) {x y : Var} {l m : Label} {d k : ℕ} {a b : Variance} → Der L (E x y) → Der L (V (dot x l)) → Push L x l m d a b k → Der L (E (dot x l) (dot y m))
push_same L e v (half {l} {m} p q f g h i) = q4 (q5 l e v) (pointer_same L _ l m p q (e4 Load e f) (e4 Store e g))
push_same L e v (kept {l}) = q5 l e v

pub bridge_same : (L : Given) (M : Var → Type 0) {x y : State} {k : ℕ} → Bridge L M x y k → Der L (E x.var y.var)
bridge_same L M (here a m v) = q2 v
bridge_same L M (turn a m v) = q2 v
bridge_same L M (up m) = q1 (s1 m)
bridge_same L M (down m) = q3 (q1 (s1 m))
bridge_same L M (join p q) = q4 (bridge_same L M p) (bridge_same L M q)
bridge_same L M (push m n v w b p) = push_same L (bridge_same L M b) v p

pub even_join : (a b c : Variance) (j k : ℕ) → IsEven (j + differ a b) → IsEven (k + differ b c) → IsEven ((j + k) + differ a c)
even_join Co Co Co j k p q = omega arith
even_join Co Co Contra j k p q = omega arith
even_join Co Contra Co j k p q = omega arith
even_join Co Contra Contra j k p q = omega arith
even_join Contra Co Co j k p q = omega arith
even_join Contra Co Contra j k p q = omega arith
even_join Contra Contra Co j k p q = omega arith
even_join Contra Contra Contra j k p q = omega arith

pub differ-times : (s a b : Variance) → differ (times s a) (times s b) ≡ differ a b
differ-times Co a b = refl
differ-times Contra Co Co = refl
differ-times Contra Co Contra = refl
differ-times Contra Contra Co = refl
differ-times Contra Contra Contra = refl

pub push_even : (L : Given) {x : Var} {l m : Label} {d k : ℕ} {a b : Variance} → IsEven (d + differ (times (label_variance l) a) (times (label_variance m) b)) → Push L x l m d a b k → IsEven (k + differ a b)
push_even L e (half p q f g h i) = i
push_even L e (kept {l} {d} {a} {b}) = rw differ-times at e

pub even_here : (a : Variance) → IsEven (0 + differ a a)
even_here Co = refl
even_here Contra = refl

pub even_turn : (a : Variance) → IsEven (1 + differ a (times Contra a))
even_turn Co = refl
even_turn Contra = refl

pub bridge_even : (L : Given) (M : Var → Type 0) {x y : State} {k : ℕ} → Bridge L M x y k → IsEven (k + differ x.sign y.sign)
bridge_even L M (here a m v) = even_here a
bridge_even L M (turn a m v) = even_turn a
bridge_even L M (up m) = refl
bridge_even L M (down m) = refl
bridge_even L M (join {x} {y} {z} {j} {k} p q) = even_join x.sign y.sign z.sign j k (bridge_even L M p) (bridge_even L M q)
bridge_even L M (push m n v w b p) = push_even L (bridge_even L M b) p

pub bits_keep : (a b : Variance) (d : ℕ) → IsEven (d + differ a b) → d + bit a ≤ (d + d) + bit b
bits_keep Co Co d e = omega arith
bits_keep Co Contra d e = omega arith
bits_keep Contra Co d e = omega arith
bits_keep Contra Contra d e = omega arith

-- a kept push over a flipping place is a half push
pub to_half : (L : Given) (x : Var) (l : Label) (d : ℕ) (a b : Variance) → IsPointer l → Der L (V (dot x Load)) → Der L (V (dot x Store)) →
    IsEven (d + differ (times (label_variance l) a) (times (label_variance l) b)) → Push L x l l d a b d
to_half L x l d a b p f g e = half p p f g (bits_keep (times (label_variance l) a) (times (label_variance l) b) d e) (rw differ-times at e)

pub push_join : (L : Given) {x y : Var} {l m o : Label} {d e j k : ℕ} {a b c : Variance} → Der L (E x y) →
    IsEven (d + differ (times (label_variance l) a) (times (label_variance m) b)) → IsEven (e + differ (times (label_variance m) b) (times (label_variance o) c)) →
    Push L x l m d a b j → Push L y m o e b c k → Push L x l o (d + e) a c (j + k)
push_join L s u v (half {l} {m} {d} {k = j} {a} {b} p q f g h i) (half {m = o} {d = e} {k = k} {b = c} p' q' f' g' h' i') =
    half p q' f g (omega arith) (even_join a b c j k i i')
push_join L s u v (half {l} {m} {d} {k = j} {a} {b} p q f g h i) (kept {d = e} {b = c}) =
    half p q f g (omega (arith, bits_keep (times (label_variance m) b) (times (label_variance m) c) e v)) (even_join a b c j e i (rw differ-times at v))
push_join L s u v (kept {l} {d} {a} {b}) (half {m = o} {d = e} {k = k} {b = c} p' q' f' g' h' i') =
    half p' q' (e4 Load (q3 s) f') (e4 Store (q3 s) g') (omega (arith, bits_keep (times (label_variance l) a) (times (label_variance l) b) d u)) (even_join a b c d k (rw differ-times at u) i')
push_join L s u v kept kept = kept
