-- Existentials that equal other variables give their places to them: alike, one answer, no equals left.
use Rattle.std.proofs.Common.{◌≡◌, ℕ, ◌<◌, ◌⊎◌, inl, inr, List, map, Contains, Bool, true, false, cond, refl, sym, subst, ◌∙◌, arith}
use Rattle.rt_base.proofs.Lists.{Contains-map, Contains-map_source}
use Rattle.rt_lines.specs.declared.label.Label.{Label}
use Rattle.rt_lines.specs.declared.label.Variance.{Variance}
use Rattle.rt_lines.specs.declared.label.Variance.TheVariants.{Co, Contra}
use Rattle.rt_lines.specs.declared.variable.Base.{Base}
use Rattle.rt_lines.specs.declared.variable.Base.TheVariants.{Exist}
use Rattle.rt_lines.specs.declared.variable.Dtv.{Dtv}
use Rattle.rt_lines.specs.declared.line.Line.{Line}
use Rattle.rt_lines.specs.declared.line.Line.TheVariants.{Var, Same, Sub, Low, Up}
use Rattle.rt_lines.specs.contracts.variable.DtvEq.TheImpl.Laws as variable_laws
use Rattle.rt_lines.specs.Equality.{variable_eq}
use Rattle.rt_lines.specs.Words.{variance_of_word}
use Rattle.rt_lines.specs.Orders.{Below}
use Rattle.rt_lines.proofs.Deduplicating.{deduplicated-source}
use Rattle.rt_rules.specs.Rules.{extended, HasSide, Derivable}
use Rattle.rt_rules.specs.Rules.Derivable.{left_side, same_line, same_sub, same_chain, sub_line, sub_self, sub_chain, low_line, up_line}
use Rattle.rt_rules.specs.Rules.Derivable.{low_sub, up_sub}
use Rattle.rt_rules.specs.Alike.{Covers, Alike, map_line}
use Rattle.rt_rules.specs.Put.{exist, put, put_lines}
use Rattle.rt_rules.proofs.Carry.{given, side}
use Rattle.rt_rules.proofs.Covering.{covers_by, covers_lines, Alike-refl, Alike-trans}
use Rattle.rt_rules.proofs.Renaming.{one_base}
use Rattle.rt_rules.proofs.Turned.{IsTurned, same_word, turned_word}
use Rattle.rt_polar.specs.Tidied.{without_self, tidied}
use Rattle.rt_polar.proofs.AlikeTidied.{Alike-tidied}
use Rattle.rt_polar.proofs.Exchanging.{put-apart, put-own}
use Rattle.rt_reduction.specs.Merges.{HasEqual, IsMerge, Merges}
use Rattle.rt_reduction.specs.Merges.Merges.{none_left, merges}
use Rattle.rt_reduction.specs.Laws.{HasNoSelf, MergesAlikeLaw, OneMergeLaw, NoEqualLaw, MergesNoSelfLaw}
use Rattle.rt_reduction.proofs.Before.{one_first}
use Rattle.rt_reduction.proofs.Placing.{put-longer, not_outside}

module _ (order : Below) (lines : List Line) (n : ℕ) (z : Dtv) (above : Derivable order lines (Sub (exist n) z))
    (below : Derivable order lines (Sub z (exist n))) where
  abbrev IsNear : Dtv → Dtv → Type 0
  IsNear x y = Derivable order lines (Sub y x) × Derivable order lines (Sub x y)

  near_by : (v : Variance) (x y : Dtv) → IsTurned order lines v y x → IsTurned order lines v x y → IsNear x y
  near_by Co x y d e = (d, e)
  near_by Contra x y d e = (e, d)

  near_word : (w : List Label) → Derivable order lines (Var (extended (exist n) w)) → IsNear (extended (exist n) w) (extended z w)
  near_word w d =
      let s : Derivable order lines (Same (extended (exist n) w) (extended z w)) = same_word order lines (exist n) z w (same_sub above) d in
      near_by (variance_of_word w) (extended (exist n) w) (extended z w) (turned_word order lines Co z (exist n) w below d)
      (turned_word order lines Co (exist n) z w above (side order lines (Same (extended (exist n) w) (extended z w)) (extended z w) s
      (inr refl)))

  -- a variable and what becomes of it lie below each other
  pub near : (x : Dtv) → Derivable order lines (Var x) → IsNear x (put n z x)
  near x d = by (one_base x.base (Exist n))
    where
      own : x.base ≡ Exist n → extended (exist n) x.word ≡ x
      own e = λ i. record { base = sym e i; word = x.word }

      by : (x.base ≡ Exist n) ⊎ (x.base ≡ Exist n → ⊥) → IsNear x (put n z x)
      by (inl e) =
          subst (λ y. IsNear y (put n z x)) (own e)
          (subst (IsNear (extended (exist n) x.word)) (sym (put-own n z x e))
          (near_word x.word (subst (λ y. Derivable order lines (Var y)) (sym (own e)) d)))
      by (inr apart) = subst (IsNear x) (sym (put-apart n z x apart)) (sub_self d, sub_self d)

  near_side : (l : Line) (x : Dtv) → Contains lines l → HasSide l x → IsNear x (put n z x)
  near_side l x c h = near x (side order lines l x (given order lines l c) h)

  -- what becomes of each line is derivable
  put_derives : (l : Line) → Contains lines l → Derivable order lines (map_line (put n z) l)
  put_derives (Var x) c = left_side (near_side (Var x) x c refl).0
  put_derives (Same x y) c = same_chain (same_sub (near_side (Same x y) x c (inl refl)).0)
      (same_chain (same_line c) (same_sub (near_side (Same x y) y c (inr refl)).1))
  put_derives (Sub x y) c = sub_chain (near_side (Sub x y) x c (inl refl)).0 (sub_chain (sub_line c) (near_side (Sub x y) y c (inr refl)).1)
  put_derives (Low k x) c = low_sub (low_line c) (near_side (Low k x) x c refl).1 (inl refl)
  put_derives (Up x k) c = up_sub (near_side (Up x k) x c refl).0 (up_line c) (inl refl)

  module _ (inside : Base → Bool) (inner : inside (Exist n) ≡ true) where
    forth : Covers order inside lines (put_lines n z lines)
    forth = covers_by order inside lines (put_lines n z lines) (put n z) (put-longer n z)
        (λ x out. put-apart n z x (not_outside inside x.base (Exist n) out inner))
        (λ l c. given order (put_lines n z lines) (map_line (put n z) l) (Contains-map (map_line (put n z)) lines l c))

    back_line : (k : Line) → (l : Line) × Contains lines l × (map_line (put n z) l ≡ k) → Derivable order lines k
    back_line k (l, c, e) = subst (Derivable order lines) e (put_derives l c)

    pub Alike-equal : Alike order inside lines (put_lines n z lines)
    Alike-equal = (
      forth,
      covers_lines order inside (put_lines n z lines) lines
          (λ k c. back_line k (Contains-map_source (map_line (put n z)) lines k c)),
    )

alike_by : (order : Below) (inside : Base → Bool) (left start : List Line) → ((n : ℕ) → inside (Exist n) ≡ true) →
    Merges order left start → Alike order inside start left
alike_by order inside left start inner (none_left none) = Alike-refl order inside left
alike_by order inside left start inner (merges n z now merge rest) =
    Alike-trans order inside now (put_lines n z now) left (Alike-equal order now n z merge.equal.above merge.equal.below inside (inner n))
    (Alike-trans order inside (put_lines n z now) (tidied (put_lines n z now)) left (Alike-tidied order inside (put_lines n z now))
    (alike_by order inside left (tidied (put_lines n z now)) inner rest))

pub merges_alike_lem : MergesAlikeLaw
merges_alike_lem order inside start left inner m = alike_by order inside left start inner m

-- one step of merging
data Steps (order : Below) (left lines : List Line) : Type 0 where
  ends_here : left ≡ lines → ((n : ℕ) → HasEqual order lines n → ⊥) → Steps order left lines
  goes_on : (n : ℕ) (z : Dtv) → IsMerge order lines n z → Merges order left (tidied (put_lines n z lines)) → Steps order left lines

steps : {order : Below} {left lines : List Line} → Merges order left lines → Steps order left lines
steps (none_left none) = ends_here refl none
steps (merges n z lines merge rest) = goes_on n z merge rest

order_cases : (n m : ℕ) → (n < m) ⊎ ((m < n) ⊎ (n ≡ m))
order_cases n m = grind arith

one_number : (order : Below) (lines : List Line) (m n : ℕ) (y z : Dtv) → IsMerge order lines m y → IsMerge order lines n z → m ≡ n
one_number order lines m n y z a b = by (order_cases m n)
  where
    by : (m < n) ⊎ ((n < m) ⊎ (m ≡ n)) → m ≡ n
    by (inl h) = absurd (b.least m h (y, a.equal))
    by (inr (inl h)) = absurd (a.least n h (z, b.equal))
    by (inr (inr e)) = e

one_side : (order : Below) (lines : List Line) (n : ℕ) (y z : Dtv) → IsMerge order lines n y → IsMerge order lines n z → y ≡ z
one_side order lines n y z a b = one_first y z (b.first y a.equal) (a.first z b.equal)

answers : (order : Below) (left other start : List Line) → Merges order left start → Merges order other start → left ≡ other
answers order left other start (none_left none) b = by (steps b)
  where
    by : Steps order other left → left ≡ other
    by (ends_here e nothing) = sym e
    by (goes_on n z merge rest) = absurd (none n (z, merge.equal))
answers order left other start (merges n z now merge rest) b = by (steps b) (answers order left other (tidied (put_lines n z now)) rest)
  where
    by : Steps order other now → (Merges order other (tidied (put_lines n z now)) → left ≡ other) → left ≡ other
    by (ends_here e none) induction = absurd (none n (z, merge.equal))
    by (goes_on m y merge' rest') induction =
        let e : m ≡ n = one_number order now m n y z merge' merge in
        let f : y ≡ z = one_side order now n y z (subst (λ k. IsMerge order now k y) e merge') merge in
        induction (subst (λ k. Merges order other (tidied (put_lines k z now))) e
        (subst (λ x. Merges order other (tidied (put_lines m x now))) f rest'))

pub one_merge_lem : OneMergeLaw
one_merge_lem order start left other a b = answers order left other start a b

left_none : (order : Below) (left start : List Line) → Merges order left start → (n : ℕ) → HasEqual order left n → ⊥
left_none order left start (none_left none) = none
left_none order left start (merges n z now merge rest) = left_none order left (tidied (put_lines n z now)) rest

pub no_equal_lem : NoEqualLaw
no_equal_lem order start left m n z l c h apart above below =
    left_none order left start m n (z, record { line = l; stands = c; is_side = h; other_base = apart; above = above; below = below })

pub variable_itself : (x y : Dtv) → x ≡ y → variable_eq x y ≡ true
variable_itself x y e = subst (λ z. variable_eq x z ≡ true) e ((variable_laws.laws-law).refl x)

-- tidied lines put no variable beside itself
pub cond_sub : (t : Bool) (y x : Dtv) (l : Line) → cond t (Var y) l ≡ Sub x x → (t ≡ false) × (l ≡ Sub x x)
cond_sub true y x l e = absurd (cc)
cond_sub false y x l e = (refl, e)

pub cond_same : (t : Bool) (y x : Dtv) (l : Line) → cond t (Var y) l ≡ Same x x → (t ≡ false) × (l ≡ Same x x)
cond_same true y x l e = absurd (cc)
cond_same false y x l e = (refl, e)

no_self_sub : (l : Line) (x : Dtv) → without_self l ≡ Sub x x → ⊥
no_self_sub (Var y) x e = cc
no_self_sub (Low k y) x e = cc
no_self_sub (Up y k) x e = cc
no_self_sub (Same y w) x e = let p : (variable_eq y w ≡ false) × (Same y w ≡ Sub x x) = cond_sub (variable_eq y w) y x (Same y w) e in
    let f : Same y w ≡ Sub x x = p.1 in cc
no_self_sub (Sub y w) x e =
    let p : (variable_eq y w ≡ false) × (Sub y w ≡ Sub x x) = cond_sub (variable_eq y w) y x (Sub y w) e in
    let f : y ≡ x = let g : Sub y w ≡ Sub x x = p.1 in cc in
    let h : w ≡ x = let g : Sub y w ≡ Sub x x = p.1 in cc in
    let k : variable_eq y w ≡ true = variable_itself y w (f ∙ sym h) in
    let m : variable_eq y w ≡ false = p.0 in
    cc

no_self_same : (l : Line) (x : Dtv) → without_self l ≡ Same x x → ⊥
no_self_same (Var y) x e = cc
no_self_same (Low k y) x e = cc
no_self_same (Up y k) x e = cc
no_self_same (Sub y w) x e = let p : (variable_eq y w ≡ false) × (Sub y w ≡ Same x x) = cond_same (variable_eq y w) y x (Sub y w) e in
    let f : Sub y w ≡ Same x x = p.1 in cc
no_self_same (Same y w) x e =
    let p : (variable_eq y w ≡ false) × (Same y w ≡ Same x x) = cond_same (variable_eq y w) y x (Same y w) e in
    let f : y ≡ x = let g : Same y w ≡ Same x x = p.1 in cc in
    let h : w ≡ x = let g : Same y w ≡ Same x x = p.1 in cc in
    let k : variable_eq y w ≡ true = variable_itself y w (f ∙ sym h) in
    let m : variable_eq y w ≡ false = p.0 in
    cc

pub tidied_no_self : (lines : List Line) → HasNoSelf (tidied lines)
tidied_no_self lines x = (λ c. sub (source (Sub x x) c), λ c. same (source (Same x x) c))
  where
    source : (k : Line) → Contains (tidied lines) k → (l : Line) × Contains lines l × (without_self l ≡ k)
    source k c = Contains-map_source without_self lines k (deduplicated-source (map without_self lines) k c)

    sub : (l : Line) × Contains lines l × (without_self l ≡ Sub x x) → ⊥
    sub (l, c, e) = no_self_sub l x e

    same : (l : Line) × Contains lines l × (without_self l ≡ Same x x) → ⊥
    same (l, c, e) = no_self_same l x e

no_self_by : (order : Below) (left start : List Line) → Merges order left start → HasNoSelf start → HasNoSelf left
no_self_by order left start (none_left none) h = h
no_self_by order left start (merges n z now merge rest) h = no_self_by order left (tidied (put_lines n z now)) rest
    (tidied_no_self (put_lines n z now))

pub merges_no_self_lem : MergesNoSelfLaw
merges_no_self_lem order start left m h = no_self_by order left start m h
