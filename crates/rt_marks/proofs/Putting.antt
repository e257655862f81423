-- Variables in the place of existentials, of which all that defines them, or all that consumes them, is put there.
use Rattle.std.proofs.Common.{◌≡◌, ℕ, ◌⊎◌, inl, inr, List, [], map, Contains, Option, Some, None, Bool, true, false, refl, ap, sym, subst, ◌∙◌}
use Rattle.std.proofs.lemmas.List.Elements.{All-contains}
use Rattle.rt_base.proofs.Lists.{Contains-map, Contains-map_source}
use Rattle.rt_lines.specs.declared.label.Label.{Label}
use Rattle.rt_lines.specs.declared.label.Variance.{Variance}
use Rattle.rt_lines.specs.declared.label.Variance.TheVariants.{Co, Contra}
use Rattle.rt_lines.specs.declared.variable.Base.{Base}
use Rattle.rt_lines.specs.declared.variable.Base.TheVariants.{Proc, Global, Exist, Outer}
use Rattle.rt_lines.specs.declared.variable.Dtv.{Dtv}
use Rattle.rt_lines.specs.declared.line.Line.{Line}
use Rattle.rt_lines.specs.declared.line.Line.TheVariants.{Var, Same, Sub, Low, Up}
use Rattle.rt_lines.specs.Words.{times, variance_of_word}
use Rattle.rt_lines.specs.Orders.{Below}
use Rattle.rt_rules.specs.Rules.{extended, HasSide}
use Rattle.rt_loose.specs.Loose.{Loosely}
use Rattle.rt_loose.specs.Loose.Loosely.{left_side, right_side, same_line, same_self, same_back, same_chain, sub_line, sub_self, sub_chain, low_line, up_line, low_sub, up_sub}
use Rattle.rt_rules.specs.Alike.{map_line}
use Rattle.rt_marks.specs.Outsides.{LooselyCovers, LooselyAlike}
use Rattle.rt_rules.specs.Put.{exist, put_found, put_each_at, put_each, HasUse, use_of, IsOnlyUse}
use Rattle.rt_marks.proofs.Carrying.{given, side}
use Rattle.rt_rules.proofs.Covering.{extended-nil}
use Rattle.rt_rules.proofs.Putting.{put_each-longer, put_each-none}
use Rattle.rt_marks.proofs.Covering.{covers_by, covers_lines}
use Rattle.rt_rules.proofs.Turned.{times-twice, one_of_both}
use Rattle.rt_marks.proofs.Turned.{IsTurned, turned_word, turned_self, same_turned}

none_outside : (inside : Base → Bool) (n : ℕ) (found : Option Dtv) → ((z : Dtv) → found ≡ Some z → inside (Exist n) ≡ true) → inside (Exist n) ≡ false → found ≡ None
none_outside inside n None inner e = refl
none_outside inside n (Some z) inner e = let t : inside (Exist n) ≡ true = inner z refl in cc

-- The sign of an existential says on which side of it lies what is put in its place. What becomes of each line is derived, or the
-- line has no use of the existential at the sign.
module _ (order : Below) (inside : Base → Bool) (lines : List Line) (sign : ℕ → Variance) (place : ℕ → Option Dtv)
    (turned : (n : ℕ) (z : Dtv) → place n ≡ Some z → IsTurned order lines (sign n) z (exist n))
    (unused : (n : ℕ) (z : Dtv) (l : Line) → place n ≡ Some z → Contains lines l → Loosely order lines (map_line (put_each place) l) ⊎ (HasUse (sign n) n l → ⊥))
    (inner : (n : ℕ) (z : Dtv) → place n ≡ Some z → inside (Exist n) ≡ true) where
  fixes : (x : Dtv) → inside x.base ≡ false → put_each place x ≡ x
  fixes x out = put_each-none place x (λ n e. none_outside inside n (place n) (λ z. inner n z) (subst (λ b. inside b ≡ false) e out))

  forth : LooselyCovers order inside lines (map (map_line (put_each place)) lines)
  forth =
      covers_by order inside lines (map (map_line (put_each place)) lines) (put_each place) (put_each-longer place) fixes
      (λ l c. given order (map (map_line (put_each place)) lines) (map_line (put_each place) l) (Contains-map (map_line (put_each place)) lines l c))

  turned_found : (found : Option Dtv) (n : ℕ) (w : List Label) → place n ≡ found → Loosely order lines (Var (record { base = Exist n; word = w })) →
      IsTurned order lines (times (sign n) (variance_of_word w)) (put_found found (Exist n) w) (record { base = Exist n; word = w })
  turned_found None n w e d = turned_self order lines (times (sign n) (variance_of_word w)) (record { base = Exist n; word = w }) d
  turned_found (Some z) n w e d = turned_word order lines (sign n) z (exist n) w (turned n z e) d

  -- a variable has the shape of what it becomes
  same_put_at : (b : Base) (w : List Label) → Loosely order lines (Var (record { base = b; word = w })) → Loosely order lines (Same (put_each_at place b w) (record { base = b; word = w }))
  same_put_at (Exist n) w d = same_turned order lines (times (sign n) (variance_of_word w)) (put_each_at place (Exist n) w) (record { base = Exist n; word = w }) (turned_found (place n) n w refl d)
  same_put_at (Proc n) w d = same_self d
  same_put_at (Global n) w d = same_self d
  same_put_at (Outer n) w d = same_self d

  same_put : (x : Dtv) → Loosely order lines (Var x) → Loosely order lines (Same (put_each place x) x)
  same_put x d = same_put_at x.base x.word d

  -- what becomes of the line is derived
  abbrev IsUse : Line → Type 0
  IsUse l = Loosely order lines (map_line (put_each place) l)

  -- a use of the line, where the variable stands in it at the sign
  abbrev Uses : Variance → Line → Base → List Label → Type 0
  Uses v l b w = (n : ℕ) → b ≡ Exist n → variance_of_word w ≡ times (times Contra v) (sign n) → HasUse (sign n) n l

  free_sign : (v : Variance) (n : ℕ) (z : Dtv) (w : List Label) (l : Line) → (variance_of_word w ≡ times v (sign n)) ⊎ (variance_of_word w ≡ times (times Contra v) (sign n)) →
      Uses v l (Exist n) w → (HasUse (sign n) n l → ⊥) → variance_of_word w ≡ times v (sign n)
  free_sign v n z w l (inl e) uses not_use = e
  free_sign v n z w l (inr e) uses not_use = absurd (not_use (uses n refl e))

  turned_free : (v : Variance) (n : ℕ) (z : Dtv) (w : List Label) (l : Line) → place n ≡ Some z → Loosely order lines (Var (record { base = Exist n; word = w })) → Uses v l (Exist n) w →
      IsUse l ⊎ (HasUse (sign n) n l → ⊥) → IsTurned order lines v (extended z w) (record { base = Exist n; word = w }) ⊎ IsUse l
  turned_free v n z w l p d uses (inl u) = inr u
  turned_free v n z w l p d uses (inr not_use) =
      let e : variance_of_word w ≡ times v (sign n) = free_sign v n z w l (one_of_both v (sign n) (variance_of_word w)) uses not_use in
      let s : times (sign n) (variance_of_word w) ≡ v = ap (times (sign n)) e ∙ times-twice (sign n) v in
      inl (subst (λ u. IsTurned order lines u (extended z w) (record { base = Exist n; word = w })) s (turned_found (Some z) n w p d))

  turned_put_found : (v : Variance) (found : Option Dtv) (n : ℕ) (w : List Label) (l : Line) → place n ≡ found → Contains lines l → Loosely order lines (Var (record { base = Exist n; word = w })) → Uses v l (Exist n) w →
      IsTurned order lines v (put_found found (Exist n) w) (record { base = Exist n; word = w }) ⊎ IsUse l
  turned_put_found v None n w l p c d uses = inl (turned_self order lines v (record { base = Exist n; word = w }) d)
  turned_put_found v (Some z) n w l p c d uses =
      turned_free v n z w l p d uses (unused n z l p c)

  turned_put_at : (v : Variance) (b : Base) (w : List Label) (l : Line) → Contains lines l → Loosely order lines (Var (record { base = b; word = w })) → Uses v l b w →
      IsTurned order lines v (put_each_at place b w) (record { base = b; word = w }) ⊎ IsUse l
  turned_put_at v (Exist n) w l c d uses = turned_put_found v (place n) n w l refl c d uses
  turned_put_at v (Proc n) w l c d uses = inl (turned_self order lines v (record { base = Proc n; word = w }) d)
  turned_put_at v (Global n) w l c d uses = inl (turned_self order lines v (record { base = Global n; word = w }) d)
  turned_put_at v (Outer n) w l c d uses = inl (turned_self order lines v (record { base = Outer n; word = w }) d)

  -- a side of a line lies on the right side of what it becomes, unless what becomes of the line is derived
  turned_put : (v : Variance) (x : Dtv) (l : Line) → Contains lines l → HasSide l x → Uses v l x.base x.word → IsTurned order lines v (put_each place x) x ⊎ IsUse l
  turned_put v x l c h uses = turned_put_at v x.base x.word l c (side order lines l x (given order lines l c) h) uses

  put_low : (k : ℕ) (x : Dtv) → Contains lines (Low k x) → IsTurned order lines Contra (put_each place x) x ⊎ IsUse (Low k x) → Loosely order lines (Low k (put_each place x))
  put_low k x c (inl d) = low_sub (low_line c) d (inl refl)
  put_low k x c (inr u) = u

  put_up : (x : Dtv) (k : ℕ) → Contains lines (Up x k) → IsTurned order lines Co (put_each place x) x ⊎ IsUse (Up x k) → Loosely order lines (Up (put_each place x) k)
  put_up x k c (inl d) = up_sub d (up_line c) (inl refl)
  put_up x k c (inr u) = u

  put_sub : (x y : Dtv) → Contains lines (Sub x y) → IsTurned order lines Co (put_each place x) x ⊎ IsUse (Sub x y) → IsTurned order lines Contra (put_each place y) y ⊎ IsUse (Sub x y) →
      Loosely order lines (Sub (put_each place x) (put_each place y))
  put_sub x y c (inl d) (inl e) = sub_chain d (sub_chain (sub_line c) e)
  put_sub x y c (inr u) e = u
  put_sub x y c (inl d) (inr u) = u

  put_line : (l : Line) → Contains lines l → Loosely order lines (map_line (put_each place) l)
  put_line (Var x) c = side order lines _ (put_each place x) (same_put x (given order lines (Var x) c)) (inl refl)
  put_line (Same x y) c =
      same_chain (same_put x (side order lines (Same x y) x (same_line c) (inl refl)))
      (same_chain (same_line c) (same_back (same_put y (side order lines (Same x y) y (same_line c) (inr refl)))))
  put_line (Sub x y) c =
      put_sub x y c (turned_put Co x (Sub x y) c (inl refl) (λ n e s. inl (e, s))) (turned_put Contra y (Sub x y) c (inr refl) (λ n e s. inr (e, s)))
  put_line (Low k x) c = put_low k x c (turned_put Contra x (Low k x) c refl (λ n e s. (e, s)))
  put_line (Up x k) c = put_up x k c (turned_put Co x (Up x k) c refl (λ n e s. (e, s)))

  put_source : (k : Line) → (l : Line) × Contains lines l × (map_line (put_each place) l ≡ k) → Loosely order lines k
  put_source k (l, c, e) = subst (Loosely order lines) e (put_line l c)

  alike_uses : LooselyAlike order inside lines (map (map_line (put_each place)) lines)
  alike_uses =
      (forth, covers_lines order inside (map (map_line (put_each place)) lines) lines (λ k c. put_source k (Contains-map_source (map_line (put_each place)) lines k c)))

-- the sign of an existential says whether all that defines it is put in its place, or all that consumes it
module _ (order : Below) (inside : Base → Bool) (lines : List Line) (sign : ℕ → Variance) (place : ℕ → Option Dtv)
    (only : (n : ℕ) (z : Dtv) → place n ≡ Some z → IsOnlyUse (sign n) n z lines)
    (apart : (n : ℕ) (z : Dtv) (m : ℕ) → place n ≡ Some z → z.base ≡ Exist m → place m ≡ None)
    (inner : (n : ℕ) (z : Dtv) → place n ≡ Some z → inside (Exist n) ≡ true) where
  -- what is in the place, and the existential
  turned_use : (s : Variance) (n : ℕ) (z : Dtv) → Contains lines (use_of s n z) → IsTurned order lines s z (exist n)
  turned_use Co n z c = sub_line c
  turned_use Contra n z c = sub_line c

  -- the line that puts z in the place becomes one of z alone
  put_use : (s : Variance) (n : ℕ) (z : Dtv) → place n ≡ Some z → Contains lines (use_of s n z) → Loosely order lines (map_line (put_each place) (use_of s n z))
  put_use s n z p c = by_sign s (given order lines (use_of s n z) c)
    where
      here : put_each place z ≡ z
      here = put_each-none place z (λ m e. apart n z m p e)

      found : put_each place (exist n) ≡ z
      found = ap (λ o. put_found o (Exist n) []) p ∙ extended-nil z

      by_sign : (s : Variance) → Loosely order lines (use_of s n z) → Loosely order lines (map_line (put_each place) (use_of s n z))
      by_sign Co d = rw (here, found) (sub_self (left_side d))
      by_sign Contra d = rw (here, found) (sub_self (right_side d))

  put_used : (n : ℕ) (z : Dtv) (l : Line) → place n ≡ Some z → Contains lines l → (l ≡ use_of (sign n) n z) ⊎ (HasUse (sign n) n l → ⊥) → Loosely order lines (map_line (put_each place) l) ⊎ (HasUse (sign n) n l → ⊥)
  put_used n z l p c (inl e) = inl (subst (λ k. Loosely order lines (map_line (put_each place) k)) (sym e) (put_use (sign n) n z p (subst (Contains lines) e c)))
  put_used n z l p c (inr h) = inr h

  pub alike_put_each : LooselyAlike order inside lines (map (map_line (put_each place)) lines)
  alike_put_each =
      alike_uses order inside lines sign place (λ n z p. turned_use (sign n) n z (only n z p).stands)
      (λ n z l p c. put_used n z l p c (All-contains (λ k. (k ≡ use_of (sign n) n z) ⊎ (HasUse (sign n) n k → ⊥)) lines l (only n z p).only c)) inner
