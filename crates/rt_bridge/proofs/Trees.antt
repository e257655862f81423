-- Derivations as trees over variables that grow at the right end: families whose indices are constructors, so that they can be matched.
use Rattle.std.proofs.Common.{◌≡◌, ℕ, inl, inr, List, Contains, refl, sym, subst}
use Rattle.rt_lines.specs.declared.label.Label.{Label}
use Rattle.rt_lines.specs.declared.label.Label.TheVariants.{Load, Store}
use Rattle.rt_lines.specs.declared.label.Variance.TheVariants.{Co, Contra}
use Rattle.rt_lines.specs.declared.variable.Dtv.{Dtv}
use Rattle.rt_lines.specs.declared.line.Line.{Line}
use Rattle.rt_lines.specs.declared.line.Line.TheVariants.{Var as VarLine, Same, Sub, Low, Up}
use Rattle.rt_lines.specs.Words.{label_variance}
use Rattle.rt_lines.specs.Orders.{Below, IsAtOrBelow}
use Rattle.rt_rules.specs.Rules.{longer, HasSide, Derivable}
use Rattle.rt_rules.specs.Rules.Derivable.{named, prefix, left_side, right_side, same_letter, same_line, same_sub, same_self, same_back, same_chain, same_longer, sub_line, sub_self, sub_chain, sub_co, sub_contra, sub_pointer, low_line, up_line, low_sub, up_sub}
use Rattle.rt_bridge.specs.Growing.{Var, dot, dv, vd}
use Rattle.rt_bridge.proofs.Growing.{dv-vd, vd-longer}

pub data Fact : Type 0 where
  V : Var → Fact
  E : Var → Var → Fact
  S : Var → Var → Fact
  Lo : ℕ → Var → Fact
  Hi : Var → ℕ → Fact

pub data Tree (O : Below) (L : List Line) : Fact → Type 0 where
  e1 : (l : Line) {x : Var} → Contains L l → HasSide l (dv x) → Tree O L (V x)
  e2 : {x : Var} (l : Label) → Tree O L (V (dot x l)) → Tree O L (V x)
  e3a : {x y : Var} → Tree O L (S x y) → Tree O L (V x)
  e3b : {x y : Var} → Tree O L (S x y) → Tree O L (V y)
  e4 : {x y : Var} (l : Label) → Tree O L (E x y) → Tree O L (V (dot x l)) → Tree O L (V (dot y l))
  q0 : {x y : Var} → Contains L (Same (dv x) (dv y)) → Tree O L (E x y)
  q1 : {x y : Var} → Tree O L (S x y) → Tree O L (E x y)
  q2 : {x : Var} → Tree O L (V x) → Tree O L (E x x)
  q3 : {x y : Var} → Tree O L (E x y) → Tree O L (E y x)
  q4 : {x y z : Var} → Tree O L (E x y) → Tree O L (E y z) → Tree O L (E x z)
  q5 : {x y : Var} (l : Label) → Tree O L (E x y) → Tree O L (V (dot x l)) → Tree O L (E (dot x l) (dot y l))
  s1 : {x y : Var} → Contains L (Sub (dv x) (dv y)) → Tree O L (S x y)
  s2 : {x : Var} → Tree O L (V x) → Tree O L (S x x)
  s3 : {x y z : Var} → Tree O L (S x y) → Tree O L (S y z) → Tree O L (S x z)
  s4 : {x y : Var} (l : Label) → Tree O L (S x y) → Tree O L (V (dot y l)) → label_variance l ≡ Co → Tree O L (S (dot x l) (dot y l))
  s5 : {x y : Var} (l : Label) → Tree O L (S x y) → Tree O L (V (dot y l)) → label_variance l ≡ Contra → Tree O L (S (dot y l) (dot x l))
  s6 : {x : Var} → Tree O L (V (dot x Load)) → Tree O L (V (dot x Store)) → Tree O L (S (dot x Store) (dot x Load))
  c1l : {k : ℕ} {x : Var} → Contains L (Low k (dv x)) → Tree O L (Lo k x)
  c1u : {k : ℕ} {x : Var} → Contains L (Up (dv x) k) → Tree O L (Hi x k)
  c2 : {j k : ℕ} {x y : Var} → Tree O L (Lo k x) → Tree O L (S x y) → IsAtOrBelow O j k → Tree O L (Lo j y)
  c3 : {j k : ℕ} {x y : Var} → Tree O L (S x y) → Tree O L (Hi y k) → IsAtOrBelow O k j → Tree O L (Hi x j)

abbrev pub fact_of : Line → Fact
fact_of (VarLine x) = V (vd x)
fact_of (Same x y) = E (vd x) (vd y)
fact_of (Sub x y) = S (vd x) (vd y)
fact_of (Low k x) = Lo k (vd x)
fact_of (Up x k) = Hi (vd x) k

abbrev pub line_of : Fact → Line
line_of (V x) = VarLine (dv x)
line_of (E x y) = Same (dv x) (dv y)
line_of (S x y) = Sub (dv x) (dv y)
line_of (Lo k x) = Low k (dv x)
line_of (Hi x k) = Up (dv x) k

module _ (O : Below) (L : List Line) where
  at_letter : (x : Dtv) (l : Label) → Tree O L (V (vd (longer x l))) → Tree O L (V (dot (vd x) l))
  at_letter x l t = subst (λ z. Tree O L (V z)) (vd-longer x l) t

  -- each derivation is a tree
  pub tree : {j : Line} → Derivable O L j → Tree O L (fact_of j)
  tree (named l {x = x} c h) = e1 l {x = vd x} c (subst (λ z. HasSide l z) (sym (dv-vd x)) h)
  tree (prefix {x = x} l d) = e2 l (at_letter x l (tree d))
  tree (left_side d) = e3a (tree d)
  tree (right_side d) = e3b (tree d)
  tree (same_letter {x = x} {y = y} l d e) = subst (λ z. Tree O L (V z)) (sym (vd-longer y l)) (e4 l (tree d) (at_letter x l (tree e)))
  tree (same_line {x = x} {y = y} c) = q0 (rw (dv-vd x, dv-vd y) c)
  tree (same_sub d) = q1 (tree d)
  tree (same_self d) = q2 (tree d)
  tree (same_back d) = q3 (tree d)
  tree (same_chain d e) = q4 (tree d) (tree e)
  tree (same_longer {x = x} {y = y} l d e) = rw (vd-longer x l, vd-longer y l) (q5 l (tree d) (at_letter x l (tree e)))
  tree (sub_line {x = x} {y = y} c) = s1 (rw (dv-vd x, dv-vd y) c)
  tree (sub_self d) = s2 (tree d)
  tree (sub_chain d e) = s3 (tree d) (tree e)
  tree (sub_co {x = x} {y = y} l d e h) = rw (vd-longer x l, vd-longer y l) (s4 l (tree d) (at_letter y l (tree e)) h)
  tree (sub_contra {x = x} {y = y} l d e h) = rw (vd-longer x l, vd-longer y l) (s5 l (tree d) (at_letter y l (tree e)) h)
  tree (sub_pointer x d e) = rw (vd-longer x Store, vd-longer x Load) (s6 (at_letter x Load (tree d)) (at_letter x Store (tree e)))
  tree (low_line {k = k} {x = x} c) = c1l (rw (dv-vd x) c)
  tree (up_line {k = k} {x = x} c) = c1u (rw (dv-vd x) c)
  tree (low_sub d e a) = c2 (tree d) (tree e) a
  tree (up_sub d e a) = c3 (tree d) (tree e) a

  -- and each tree is a derivation
  pub derivation : {f : Fact} → Tree O L f → Derivable O L (line_of f)
  derivation (e1 l c h) = named l c h
  derivation (e2 l d) = prefix l (derivation d)
  derivation (e3a d) = left_side (derivation d)
  derivation (e3b d) = right_side (derivation d)
  derivation (e4 l d e) = same_letter l (derivation d) (derivation e)
  derivation (q0 c) = same_line c
  derivation (q1 d) = same_sub (derivation d)
  derivation (q2 d) = same_self (derivation d)
  derivation (q3 d) = same_back (derivation d)
  derivation (q4 d e) = same_chain (derivation d) (derivation e)
  derivation (q5 l d e) = same_longer l (derivation d) (derivation e)
  derivation (s1 c) = sub_line c
  derivation (s2 d) = sub_self (derivation d)
  derivation (s3 d e) = sub_chain (derivation d) (derivation e)
  derivation (s4 l d e h) = sub_co l (derivation d) (derivation e) h
  derivation (s5 l d e h) = sub_contra l (derivation d) (derivation e) h
  derivation (s6 {x} d e) = sub_pointer (dv x) (derivation d) (derivation e)
  derivation (c1l c) = low_line c
  derivation (c1u c) = up_line c
  derivation (c2 d e a) = low_sub (derivation d) (derivation e) a
  derivation (c3 d e a) = up_sub (derivation d) (derivation e) a

  -- what one shape joins is there
  abbrev pub AreBoth : Fact → Type 0
  AreBoth (V x) = Tree O L (V x)
  AreBoth (E x y) = Tree O L (V x) × Tree O L (V y)
  AreBoth (S x y) = Tree O L (V x) × Tree O L (V y)
  AreBoth (Lo k x) = Tree O L (V x)
  AreBoth (Hi x k) = Tree O L (V x)

  pub both : {f : Fact} → Tree O L f → AreBoth f
  both (e1 l c h) = e1 l c h
  both (e2 l d) = e2 l d
  both (e3a d) = e3a d
  both (e3b d) = e3b d
  both (e4 l d e) = e4 l d e
  both (q0 c) = (e1 _ c (inl refl), e1 _ c (inr refl))
  both (q1 d) = both d
  both (q2 d) = (d, d)
  both (q3 d) = ((both d).1, (both d).0)
  both (q4 d e) = ((both d).0, (both e).1)
  both (q5 l d e) = (e, e4 l d e)
  both (s1 c) = (e1 _ c (inl refl), e1 _ c (inr refl))
  both (s2 d) = (d, d)
  both (s3 d e) = ((both d).0, (both e).1)
  both (s4 l d e h) = (e4 l (q3 (q1 d)) e, e)
  both (s5 l d e h) = (e, e4 l (q3 (q1 d)) e)
  both (s6 d e) = (e, d)
  both (c1l c) = e1 _ c refl
  both (c1u c) = e1 _ c refl
  both (c2 d e a) = e3b e
  both (c3 d e a) = e3a d
