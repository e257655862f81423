-- The lower relations say what is derivable.
use Rattle.std.proofs.Common.{◌≡◌, List, refl}
use Rattle.rt_lines.specs.declared.label.Label.{Label}
use Rattle.rt_lines.specs.declared.label.Label.TheVariants.{Load, Store}
use Rattle.rt_lines.specs.declared.label.Variance.{Variance}
use Rattle.rt_lines.specs.declared.label.Variance.TheVariants.{Co, Contra}
use Rattle.rt_lines.specs.Words.{variance_of_word}
use Rattle.rt_bridge.specs.Growing.{Var, dot, rest, Given, V, S, Der}
use Rattle.rt_bridge.proofs.Growing.{e4, q1, q3, s1, s2, s3, s4, s5, s6, both, prefix, same_rest, below_rest, Turned}
use Rattle.rt_enclosing.specs.Lower.{Relation, below, meets, joins, opposite, Means, Lower, line, self, chain, meet, meet_turned, meet_onward}
use Rattle.rt_enclosing.specs.Lower.{join, join_turned, join_onward, co, contra, pointer_co, pointer_contra}

module _ (L : Given) where
  turned_co : (s : Variance) {x y : Var} → s ≡ Co → Turned L s x y → Der L (S x y)
  turned_co Co e d = d
  turned_co Contra e d = absurd (cc)

  turned_contra : (s : Variance) {x y : Var} → s ≡ Contra → Turned L s x y → Der L (S y x)
  turned_contra Contra e d = d
  turned_contra Co e d = absurd (cc)

  -- from the store of one to the load of another that lie above one variable
  pub pointer_below : {x y z : Var} → Der L (S z x) → Der L (S z y) → Der L (V (dot x Store)) → Der L (V (dot y Load)) →
      Der L (S (dot x Store) (dot y Load))
  pointer_below {z} d e v w =
      let store : Der L (V (dot z Store)) = e4 Store (q3 (q1 d)) v in
      let load : Der L (V (dot z Load)) = e4 Load (q3 (q1 e)) w in
      s3 (s5 Store d v refl) (s3 (s6 load store) (s4 Load e w refl))

  along_co : (w : List Label) (x y : Var) → variance_of_word w ≡ Co → Der L (S x y) → Der L (V (rest y w)) → Der L (S (rest x w) (rest y w))
  along_co w x y e d v = turned_co (variance_of_word w) e (below_rest L w x y d v)

  along_contra : (w : List Label) (x y : Var) → variance_of_word w ≡ Contra → Der L (S x y) → Der L (V (rest y w)) →
      Der L (S (rest y w) (rest x w))
  along_contra w x y e d v = turned_contra (variance_of_word w) e (below_rest L w x y d v)

  -- what is behind a path exists at the upper end, if it does at the lower one
  up_there : (w : List Label) (x y : Var) → Der L (S x y) → Der L (V (rest x w)) → Der L (V (rest y w))
  up_there w x y d v = (both L (same_rest L w (q1 d) v)).1

  means_co : (r : Relation) (w : List Label) (x y : Var) → variance_of_word w ≡ Co → Means L r x y → Der L (V (rest x w)) →
      Der L (V (rest y w)) → Means L r (rest x w) (rest y w)
  means_co below w x y e d v u = along_co w x y e d u
  means_co meets w x y e (z, c, d) v u = (rest z w, along_co w z x e c v, along_co w z y e d u)
  means_co joins w x y e (z, c, d) v u = (rest z w, along_co w x z e c (up_there w x z c v), along_co w y z e d (up_there w y z d u))

  means_contra : (r : Relation) (w : List Label) (x y : Var) → variance_of_word w ≡ Contra → Means L r x y → Der L (V (rest x w)) →
      Der L (V (rest y w)) → Means L (opposite r) (rest y w) (rest x w)
  means_contra below w x y e d v u = along_contra w x y e d u
  means_contra meets w x y e (z, c, d) v u = (rest z w, along_contra w z y e d u, along_contra w z x e c v)
  means_contra joins w x y e (z, c, d) v u =
      (rest z w, along_contra w y z e d (up_there w y z d u), along_contra w x z e c (up_there w x z c v))

  module _ (M : Var → Type 0) where
    pub lower_means : {r : Relation} {x y : Var} → Lower L M r x y → Means L r x y
    lower_means (line h) = s1 h
    lower_means (self t) = s2 t.1
    lower_means (chain p q) = s3 (lower_means p) (lower_means q)
    lower_means (meet {z} p q) = (z, lower_means p, lower_means q)
    lower_means (meet_turned p) = let m : Means L meets _ _ = lower_means p in (m.0, m.2, m.1)
    lower_means (meet_onward p q) = let m : Means L meets _ _ = lower_means p in (m.0, m.1, s3 m.2 (lower_means q))
    lower_means (join {z} p q) = (z, lower_means p, lower_means q)
    lower_means (join_turned p) = let m : Means L joins _ _ = lower_means p in (m.0, m.2, m.1)
    lower_means (join_onward p q) = let m : Means L joins _ _ = lower_means p in (m.0, m.1, s3 (lower_means q) m.2)
    lower_means (co {r} {x} {y} w e p t u) = means_co r w x y e (lower_means p) t.1 u.1
    lower_means (contra {r} {x} {y} w e p t u) = means_contra r w x y e (lower_means p) t.1 u.1
    lower_means (pointer_co {x} {y} w e p t u) =
        let m : Means L meets x y = lower_means p in
        along_co w (dot x Store) (dot y Load) e (pointer_below m.1 m.2 (prefix L w t.1) (prefix L w u.1)) u.1
    lower_means (pointer_contra {x} {y} w e p t u) =
        let m : Means L meets x y = lower_means p in
        along_contra w (dot x Store) (dot y Load) e (pointer_below m.1 m.2 (prefix L w t.1) (prefix L w u.1)) u.1
