-- Variables in the place of existentials.
use Rattle.std.proofs.Common.{◌≡◌, ℕ, ◌⊎◌, inl, inr, List, [], ◌∷◌, ◌++◌, map, Contains, Option, Some, None, Bool, true, false, refl, ap, sym, subst, append_assoc, ◌∙◌}
use Rattle.std.proofs.lemmas.List.Elements.{All-contains}
use Rattle.rt_base.proofs.Lists.{Contains-map, Contains-map_source}
use Rattle.rt_lines.specs.declared.label.Label.{Label}
use Rattle.rt_lines.specs.declared.label.Variance.{Variance}
use Rattle.rt_lines.specs.declared.label.Variance.TheVariants.{Co, Contra}
use Rattle.rt_lines.specs.declared.variable.Base.{Base}
use Rattle.rt_lines.specs.declared.variable.Base.TheVariants.{Proc, Global, Exist, Outer}
use Rattle.rt_lines.specs.declared.variable.Dtv.{Dtv}
use Rattle.rt_lines.specs.declared.line.Line.{Line}
use Rattle.rt_lines.specs.declared.line.Line.TheVariants.{Var, Same, Sub, Low, Up}
use Rattle.rt_lines.specs.Words.{times, variance_of_word}
use Rattle.rt_lines.specs.Orders.{Below}
use Rattle.rt_rules.specs.Rules.{longer, extended, HasSide, Derivable}
use Rattle.rt_rules.specs.Rules.Derivable.{left_side, right_side, same_line, same_self, same_back, same_chain, sub_line, sub_self, sub_chain, low_line, up_line, low_sub, up_sub}
use Rattle.rt_rules.specs.Alike.{Covers, Alike, map_line}
use Rattle.rt_rules.specs.Put.{exist, put_found, put_each_at, put_each, HasUse, use_of, IsOnlyUse, BecomesSelf, IsFollowing}
use Rattle.rt_rules.specs.Laws.{FollowingLaw, PuttingLaw}
use Rattle.rt_rules.proofs.Carry.{given, side}
use Rattle.rt_rules.proofs.Covering.{covers_by, covers_lines, extended-nil}
use Rattle.rt_rules.proofs.Turned.{times-twice, one_of_both, IsTurned, turned_word, turned_self, same_turned}

put_found-longer : (found : Option Dtv) (b : Base) (w : List Label) (l : Label) → put_found found b (w ++ l ∷ []) ≡ longer (put_found found b w) l
put_found-longer None b w l = refl
put_found-longer (Some z) b w l = λ i. record { base = z.base; word = sym (append_assoc z.word w (l ∷ [])) i }

put_each_at-longer : (place : ℕ → Option Dtv) (b : Base) (w : List Label) (l : Label) → put_each_at place b (w ++ l ∷ []) ≡ longer (put_each_at place b w) l
put_each_at-longer place (Exist n) w l = put_found-longer (place n) (Exist n) w l
put_each_at-longer place (Proc n) w l = refl
put_each_at-longer place (Global n) w l = refl
put_each_at-longer place (Outer n) w l = refl

pub put_each-longer : (place : ℕ → Option Dtv) (x : Dtv) (l : Label) → put_each place (longer x l) ≡ longer (put_each place x) l
put_each-longer place x l = put_each_at-longer place x.base x.word l

-- a variable whose base has no place stays
put_each_at-none : (place : ℕ → Option Dtv) (b : Base) (w : List Label) → ((n : ℕ) → b ≡ Exist n → place n ≡ None) → put_each_at place b w ≡ record { base = b; word = w }
put_each_at-none place (Exist n) w none = rw (none n refl) refl
put_each_at-none place (Proc n) w none = refl
put_each_at-none place (Global n) w none = refl
put_each_at-none place (Outer n) w none = refl

pub put_each-none : (place : ℕ → Option Dtv) (x : Dtv) → ((n : ℕ) → x.base ≡ Exist n → place n ≡ None) → put_each place x ≡ x
put_each-none place x none = put_each_at-none place x.base x.word none

none_outside : (inside : Base → Bool) (n : ℕ) (found : Option Dtv) → ((z : Dtv) → found ≡ Some z → inside (Exist n) ≡ true) → inside (Exist n) ≡ false → found ≡ None
none_outside inside n None inner e = refl
none_outside inside n (Some z) inner e = let t : inside (Exist n) ≡ true = inner z refl in cc

-- The sign of an existential says on which side of it lies what is put in its place. What becomes of each line is derived, or the
-- line has no use of the existential at the sign.
module _ (order : Below) (inside : Base → Bool) (lines : List Line) (sign : ℕ → Variance) (place : ℕ → Option Dtv)
    (turned : (n : ℕ) (z : Dtv) → place n ≡ Some z → IsTurned order lines (sign n) z (exist n))
    (unused : (n : ℕ) (z : Dtv) (l : Line) → place n ≡ Some z → Contains lines l → Derivable order lines (map_line (put_each place) l) ⊎ (HasUse (sign n) n l → ⊥))
    (inner : (n : ℕ) (z : Dtv) → place n ≡ Some z → inside (Exist n) ≡ true) where
  fixes : (x : Dtv) → inside x.base ≡ false → put_each place x ≡ x
  fixes x out = put_each-none place x (λ n e. none_outside inside n (place n) (λ z. inner n z) (subst (λ b. inside b ≡ false) e out))

  forth : Covers order inside lines (map (map_line (put_each place)) lines)
  forth =
      covers_by order inside lines (map (map_line (put_each place)) lines) (put_each place) (put_each-longer place) fixes
      (λ l c. given order (map (map_line (put_each place)) lines) (map_line (put_each place) l) (Contains-map (map_line (put_each place)) lines l c))

  turned_found : (found : Option Dtv) (n : ℕ) (w : List Label) → place n ≡ found → Derivable order lines (Var (record { base = Exist n; word = w })) →
      IsTurned order lines (times (sign n) (variance_of_word w)) (put_found found (Exist n) w) (record { base = Exist n; word = w })
  turned_found None n w e d = turned_self order lines (times (sign n) (variance_of_word w)) (record { base = Exist n; word = w }) d
  turned_found (Some z) n w e d = turned_word order lines (sign n) z (exist n) w (turned n z e) d

  -- a variable has the shape of what it becomes
  same_put_at : (b : Base) (w : List Label) → Derivable order lines (Var (record { base = b; word = w })) → Derivable order lines (Same (put_each_at place b w) (record { base = b; word = w }))
  same_put_at (Exist n) w d = same_turned order lines (times (sign n) (variance_of_word w)) (put_each_at place (Exist n) w) (record { base = Exist n; word = w }) (turned_found (place n) n w refl d)
  same_put_at (Proc n) w d = same_self d
  same_put_at (Global n) w d = same_self d
  same_put_at (Outer n) w d = same_self d

  same_put : (x : Dtv) → Derivable order lines (Var x) → Derivable order lines (Same (put_each place x) x)
  same_put x d = same_put_at x.base x.word d

  -- what becomes of the line is derived
  abbrev IsUse : Line → Type 0
  IsUse l = Derivable order lines (map_line (put_each place) l)

  -- a use of the line, where the variable stands in it at the sign
  abbrev Uses : Variance → Line → Base → List Label → Type 0
  Uses v l b w = (n : ℕ) → b ≡ Exist n → variance_of_word w ≡ times (times Contra v) (sign n) → HasUse (sign n) n l

  free_sign : (v : Variance) (n : ℕ) (z : Dtv) (w : List Label) (l : Line) → (variance_of_word w ≡ times v (sign n)) ⊎ (variance_of_word w ≡ times (times Contra v) (sign n)) →
      Uses v l (Exist n) w → (HasUse (sign n) n l → ⊥) → variance_of_word w ≡ times v (sign n)
  free_sign v n z w l (inl e) uses not_use = e
  free_sign v n z w l (inr e) uses not_use = absurd (not_use (uses n refl e))

  turned_free : (v : Variance) (n : ℕ) (z : Dtv) (w : List Label) (l : Line) → place n ≡ Some z → Derivable order lines (Var (record { base = Exist n; word = w })) → Uses v l (Exist n) w →
      IsUse l ⊎ (HasUse (sign n) n l → ⊥) → IsTurned order lines v (extended z w) (record { base = Exist n; word = w }) ⊎ IsUse l
  turned_free v n z w l p d uses (inl u) = inr u
  turned_free v n z w l p d uses (inr not_use) =
      let e : variance_of_word w ≡ times v (sign n) = free_sign v n z w l (one_of_both v (sign n) (variance_of_word w)) uses not_use in
      let s : times (sign n) (variance_of_word w) ≡ v = ap (times (sign n)) e ∙ times-twice (sign n) v in
      inl (subst (λ u. IsTurned order lines u (extended z w) (record { base = Exist n; word = w })) s (turned_found (Some z) n w p d))

  turned_put_found : (v : Variance) (found : Option Dtv) (n : ℕ) (w : List Label) (l : Line) → place n ≡ found → Contains lines l → Derivable order lines (Var (record { base = Exist n; word = w })) → Uses v l (Exist n) w →
      IsTurned order lines v (put_found found (Exist n) w) (record { base = Exist n; word = w }) ⊎ IsUse l
  turned_put_found v None n w l p c d uses = inl (turned_self order lines v (record { base = Exist n; word = w }) d)
  turned_put_found v (Some z) n w l p c d uses =
      turned_free v n z w l p d uses (unused n z l p c)

  turned_put_at : (v : Variance) (b : Base) (w : List Label) (l : Line) → Contains lines l → Derivable order lines (Var (record { base = b; word = w })) → Uses v l b w →
      IsTurned order lines v (put_each_at place b w) (record { base = b; word = w }) ⊎ IsUse l
  turned_put_at v (Exist n) w l c d uses = turned_put_found v (place n) n w l refl c d uses
  turned_put_at v (Proc n) w l c d uses = inl (turned_self order lines v (record { base = Proc n; word = w }) d)
  turned_put_at v (Global n) w l c d uses = inl (turned_self order lines v (record { base = Global n; word = w }) d)
  turned_put_at v (Outer n) w l c d uses = inl (turned_self order lines v (record { base = Outer n; word = w }) d)

  -- a side of a line lies on the right side of what it becomes, unless what becomes of the line is derived
  turned_put : (v : Variance) (x : Dtv) (l : Line) → Contains lines l → HasSide l x → Uses v l x.base x.word → IsTurned order lines v (put_each place x) x ⊎ IsUse l
  turned_put v x l c h uses = turned_put_at v x.base x.word l c (side order lines l x (given order lines l c) h) uses

  put_low : (k : ℕ) (x : Dtv) → Contains lines (Low k x) → IsTurned order lines Contra (put_each place x) x ⊎ IsUse (Low k x) → Derivable order lines (Low k (put_each place x))
  put_low k x c (inl d) = low_sub (low_line c) d (inl refl)
  put_low k x c (inr u) = u

  put_up : (x : Dtv) (k : ℕ) → Contains lines (Up x k) → IsTurned order lines Co (put_each place x) x ⊎ IsUse (Up x k) → Derivable order lines (Up (put_each place x) k)
  put_up x k c (inl d) = up_sub d (up_line c) (inl refl)
  put_up x k c (inr u) = u

  put_sub : (x y : Dtv) → Contains lines (Sub x y) → IsTurned order lines Co (put_each place x) x ⊎ IsUse (Sub x y) → IsTurned order lines Contra (put_each place y) y ⊎ IsUse (Sub x y) →
      Derivable order lines (Sub (put_each place x) (put_each place y))
  put_sub x y c (inl d) (inl e) = sub_chain d (sub_chain (sub_line c) e)
  put_sub x y c (inr u) e = u
  put_sub x y c (inl d) (inr u) = u

  put_line : (l : Line) → Contains lines l → Derivable order lines (map_line (put_each place) l)
  put_line (Var x) c = side order lines _ (put_each place x) (same_put x (given order lines (Var x) c)) (inl refl)
  put_line (Same x y) c =
      same_chain (same_put x (side order lines (Same x y) x (same_line c) (inl refl)))
      (same_chain (same_line c) (same_back (same_put y (side order lines (Same x y) y (same_line c) (inr refl)))))
  put_line (Sub x y) c =
      put_sub x y c (turned_put Co x (Sub x y) c (inl refl) (λ n e s. inl (e, s))) (turned_put Contra y (Sub x y) c (inr refl) (λ n e s. inr (e, s)))
  put_line (Low k x) c = put_low k x c (turned_put Contra x (Low k x) c refl (λ n e s. (e, s)))
  put_line (Up x k) c = put_up x k c (turned_put Co x (Up x k) c refl (λ n e s. (e, s)))

  put_source : (k : Line) → (l : Line) × Contains lines l × (map_line (put_each place) l ≡ k) → Derivable order lines k
  put_source k (l, c, e) = subst (Derivable order lines) e (put_line l c)

  Alike-uses : Alike order inside lines (map (map_line (put_each place)) lines)
  Alike-uses =
      (forth, covers_lines order inside (map (map_line (put_each place)) lines) lines (λ k c. put_source k (Contains-map_source (map_line (put_each place)) lines k c)))

-- where what defines each existential that has a place becomes what is in the place, and the rest derives that this lies below it
pub following_lem : FollowingLaw
following_lem order inside lines place following inner =
    Alike-uses order inside lines (λ n. Co) place (λ n z e. following.below n z e order) (λ n z l e c. by n z l e (following.becomes n z l e c)) inner
  where
    by : (n : ℕ) (z : Dtv) (l : Line) → place n ≡ Some z → BecomesSelf place n z l ⊎ (HasUse Co n l → ⊥) → Derivable order lines (map_line (put_each place) l) ⊎ (HasUse Co n l → ⊥)
    by n z l e (inl (w, f, g)) =
        let found : put_each place (exist n) ≡ z = ap (λ o. put_found o (Exist n) []) e ∙ extended-nil z in
        inl (subst (λ k. Derivable order lines (map_line (put_each place) k)) (sym f) (rw (g, found) (sub_self (left_side (following.below n z e order)))))
    by n z l e (inr h) = inr h

-- the sign of an existential says whether all that defines it is put in its place, or all that consumes it
module _ (order : Below) (inside : Base → Bool) (lines : List Line) (sign : ℕ → Variance) (place : ℕ → Option Dtv)
    (only : (n : ℕ) (z : Dtv) → place n ≡ Some z → IsOnlyUse (sign n) n z lines)
    (apart : (n : ℕ) (z : Dtv) (m : ℕ) → place n ≡ Some z → z.base ≡ Exist m → place m ≡ None)
    (inner : (n : ℕ) (z : Dtv) → place n ≡ Some z → inside (Exist n) ≡ true) where
  -- what is in the place, and the existential
  turned_use : (s : Variance) (n : ℕ) (z : Dtv) → Contains lines (use_of s n z) → IsTurned order lines s z (exist n)
  turned_use Co n z c = sub_line c
  turned_use Contra n z c = sub_line c

  -- the line that puts z in the place becomes one of z alone
  put_use : (s : Variance) (n : ℕ) (z : Dtv) → place n ≡ Some z → Contains lines (use_of s n z) → Derivable order lines (map_line (put_each place) (use_of s n z))
  put_use s n z p c = by_sign s (given order lines (use_of s n z) c)
    where
      here : put_each place z ≡ z
      here = put_each-none place z (λ m e. apart n z m p e)

      found : put_each place (exist n) ≡ z
      found = ap (λ o. put_found o (Exist n) []) p ∙ extended-nil z

      by_sign : (s : Variance) → Derivable order lines (use_of s n z) → Derivable order lines (map_line (put_each place) (use_of s n z))
      by_sign Co d = rw (here, found) (sub_self (left_side d))
      by_sign Contra d = rw (here, found) (sub_self (right_side d))

  put_used : (n : ℕ) (z : Dtv) (l : Line) → place n ≡ Some z → Contains lines l → (l ≡ use_of (sign n) n z) ⊎ (HasUse (sign n) n l → ⊥) → Derivable order lines (map_line (put_each place) l) ⊎ (HasUse (sign n) n l → ⊥)
  put_used n z l p c (inl e) = inl (subst (λ k. Derivable order lines (map_line (put_each place) k)) (sym e) (put_use (sign n) n z p (subst (Contains lines) e c)))
  put_used n z l p c (inr h) = inr h

  pub Alike-put_each : Alike order inside lines (map (map_line (put_each place)) lines)
  Alike-put_each =
      Alike-uses order inside lines sign place (λ n z p. turned_use (sign n) n z (only n z p).stands)
      (λ n z l p c. put_used n z l p c (All-contains (λ k. (k ≡ use_of (sign n) n z) ⊎ (HasUse (sign n) n k → ⊥)) lines l (only n z p).only c)) inner

pub putting_lem : PuttingLaw
putting_lem order inside lines place putting inner = Alike-put_each order inside lines (λ n. Co) place putting.only putting.apart inner
