-- Lines with a side in an existential's place.
use Rattle.std.proofs.Common.{◌≡◌, ◌≢◌, ℕ, zero, suc, ◌⊎◌, inl, inr, List, [], ◌∷◌, map, AllPairs, Contains, Bool, true, false, cond, nat_eq, eq-eqb, Option, Some, None, refl, sym, ap, ◌∙◌, arith}
use Rattle.std.proofs.Math.ListN.{set}
use Rattle.std.proofs.lemmas.List.Elements.{All-contains}
use Rattle.std.proofs.lemmas.List.Kept.{AllPairs-cons}
use Rattle.rt_lines.specs.declared.label.Label.{Label}
use Rattle.rt_lines.specs.declared.variable.Base.{Base}
use Rattle.rt_lines.specs.declared.variable.Base.TheVariants.{Proc, Global, Exist, Outer}
use Rattle.rt_lines.specs.declared.variable.Dtv.{Dtv}
use Rattle.rt_lines.specs.declared.line.Line.{Line}
use Rattle.rt_lines.specs.declared.line.Line.TheVariants.{Var, Same, Sub, Low, Up}
use Rattle.rt_lines.specs.Equality.{variable_eq}
use Rattle.rt_rules.specs.Rules.{extended, HasSide}
use Rattle.rt_rules.specs.Alike.{map_line}
use Rattle.rt_rules.specs.Put.{put_at, put, put_lines}
use Rattle.rt_rules.proofs.Lists.{All-from_contains, Contains-here, Contains-there}
use Rattle.rt_lines.specs.Numbering.{deduplicated}
use Rattle.rt_polar.specs.Index.{Names}
use Rattle.rt_polar.specs.Laws.{StayingLaw}
use Rattle.rt_polar.specs.Inside.Places.{Holds, IsFound, lines_of, moved}
use Rattle.rt_polar.specs.Tidied.{without_self, tidied}
use Rattle.rt_polar.proofs.Exchanging.{put-apart, put_line-apart}
use Rattle.rt_polar.proofs.Settling.{deduplicated-same}
use Rattle.rt_polar.proofs.Slots.{lines_source}
use Rattle.rt_polar.proofs.Soles.{one_slot}
use Rattle.rt_base.proofs.Lists.{map-map}

-- what is put has another base
put_at-base : (n : ℕ) (z : Dtv) (b : Base) (w : List Label) → z.base ≢ Exist n → (put_at n z b w).base ≢ Exist n
put_at-base n z (Exist m) w other = by (nat_eq m n) refl
  where
    by : (t : Bool) → nat_eq m n ≡ t → (cond t (extended z w) (record { base = Exist m; word = w })).base ≢ Exist n
    by true e = other
    by false e = λ f. let same : m ≡ n = cc in let t : nat_eq m n ≡ true = rw same (eq-eqb n n refl) in cc
put_at-base n z (Proc m) w other = λ e. cc
put_at-base n z (Global m) w other = λ e. cc
put_at-base n z (Outer m) w other = λ e. cc

put-again : (n : ℕ) (z x : Dtv) → z.base ≢ Exist n → put n z (put n z x) ≡ put n z x
put-again n z x other = put-apart n z (put n z x) (put_at-base n z x.base x.word other)

pub without_self-again : (l : Line) → without_self (without_self l) ≡ without_self l
without_self-again (Var x) = refl
without_self-again (Same x y) = by (variable_eq x y) refl
  where
    by : (t : Bool) → variable_eq x y ≡ t → without_self (cond t (Var x) (Same x y)) ≡ cond t (Var x) (Same x y)
    by true e = refl
    by false e = rw e refl
without_self-again (Sub x y) = by (variable_eq x y) refl
  where
    by : (t : Bool) → variable_eq x y ≡ t → without_self (cond t (Var x) (Sub x y)) ≡ cond t (Var x) (Sub x y)
    by true e = refl
    by false e = rw e refl
without_self-again (Low k x) = refl
without_self-again (Up x k) = refl

module _ (n : ℕ) (z : Dtv) where
  -- a side of what a line becomes is what a side of it becomes
  side_source : (l : Line) (x : Dtv) → HasSide (moved n z l) x → (y : Dtv) × HasSide l y × (put n z y ≡ x)
  side_source (Var y) x h = (y, refl, h)
  side_source (Same y w) x h = by (variable_eq (put n z y) (put n z w)) h
    where
      by : (t : Bool) → HasSide (cond t (Var (put n z y)) (Same (put n z y) (put n z w))) x → (v : Dtv) × ((y ≡ v) ⊎ (w ≡ v)) × (put n z v ≡ x)
      by true g = (y, inl refl, g)
      by false (inl g) = (y, inl refl, g)
      by false (inr g) = (w, inr refl, g)
  side_source (Sub y w) x h = by (variable_eq (put n z y) (put n z w)) h
    where
      by : (t : Bool) → HasSide (cond t (Var (put n z y)) (Sub (put n z y) (put n z w))) x → (v : Dtv) × ((y ≡ v) ⊎ (w ≡ v)) × (put n z v ≡ x)
      by true g = (y, inl refl, g)
      by false (inl g) = (y, inl refl, g)
      by false (inr g) = (w, inr refl, g)
  side_source (Low k y) x h = (y, refl, h)
  side_source (Up y k) x h = (y, refl, h)

  module _ (other : z.base ≢ Exist n) where
    pub moved-again : (l : Line) → moved n z (moved n z l) ≡ moved n z l
    moved-again (Var x) = ap Var (put-again n z x other)
    moved-again (Same x y) = by (variable_eq (put n z x) (put n z y)) refl
      where
        by : (t : Bool) → variable_eq (put n z x) (put n z y) ≡ t → moved n z (cond t (Var (put n z x)) (Same (put n z x) (put n z y))) ≡ cond t (Var (put n z x)) (Same (put n z x) (put n z y))
        by true e = ap Var (put-again n z x other)
        by false e = (λ i. without_self (Same (put-again n z x other i) (put-again n z y other i))) ∙ ap (λ t. cond t (Var (put n z x)) (Same (put n z x) (put n z y))) e
    moved-again (Sub x y) = by (variable_eq (put n z x) (put n z y)) refl
      where
        by : (t : Bool) → variable_eq (put n z x) (put n z y) ≡ t → moved n z (cond t (Var (put n z x)) (Sub (put n z x) (put n z y))) ≡ cond t (Var (put n z x)) (Sub (put n z x) (put n z y))
        by true e = ap Var (put-again n z x other)
        by false e = (λ i. without_self (Sub (put-again n z x other i) (put-again n z y other i))) ∙ ap (λ t. cond t (Var (put n z x)) (Sub (put n z x) (put n z y))) e
    moved-again (Low k x) = ap (Low k) (put-again n z x other)
    moved-again (Up x k) = ap (λ y. Up y k) (put-again n z x other)

    -- no moved line names the existential
    pub moved-unnamed : (l : Line) → Names n (moved n z l) → ⊥
    moved-unnamed l (x, h, e) = let s = side_source l x h in put_at-base n z s.0.base s.0.word other (ap (λ y. y.base) s.2 ∙ e)

  -- a moved line names what the line names, or the base of what was put
  pub moved-names : (m : ℕ) (l : Line) → Names m (moved n z l) → Names m l ⊎ (z.base ≡ Exist m)
  moved-names m l (x, h, e) = let s = side_source l x h in by s.0 s.1 (ap (λ y. y.base) s.2 ∙ e)
    where
      at : (b : Base) (w : List Label) → (put_at n z b w).base ≡ Exist m → (b ≡ Exist m) ⊎ (z.base ≡ Exist m)
      at (Exist k) w f = which (nat_eq k n) f
        where
          which : (t : Bool) → (cond t (extended z w) (record { base = Exist k; word = w })).base ≡ Exist m → (Exist k ≡ Exist m) ⊎ (z.base ≡ Exist m)
          which true g = inr g
          which false g = inl g
      at (Proc k) w f = inl f
      at (Global k) w f = inl f
      at (Outer k) w f = inl f

      back : (y : Dtv) → HasSide l y → (y.base ≡ Exist m) ⊎ (z.base ≡ Exist m) → Names m l ⊎ (z.base ≡ Exist m)
      back y g (inl f) = inl (y, g, f)
      back y g (inr f) = inr f

      by : (y : Dtv) → HasSide l y → (put n z y).base ≡ Exist m → Names m l ⊎ (z.base ≡ Exist m)
      by y g f = back y g (at y.base y.word f)

  -- a line that does not name it and puts no variable beside itself stays
  pub moved-apart : (l : Line) → (Names n l → ⊥) → without_self l ≡ l → moved n z l ≡ l
  moved-apart l unnamed plain = ap without_self (put_line-apart n z l (λ x h e. unnamed (x, h, e))) ∙ plain

-- exchanging and tidying, line by line
pub tidied-moved : (n : ℕ) (z : Dtv) (lines : List Line) → tidied (put_lines n z lines) ≡ deduplicated (map (moved n z) lines)
tidied-moved n z lines = ap deduplicated (map-map (map_line (put n z)) without_self lines)

pub map-same : (f : Line → Line) (lines : List Line) → ((l : Line) → Contains lines l → f l ≡ l) → map f lines ≡ lines
map-same f [] h = refl
map-same f (l ∷ lines) h = let first : f l ≡ l = h l (Contains-here l lines) in let rest : map f lines ≡ lines = map-same f lines (λ k c. h k (Contains-there l lines k c)) in cc

-- where a line is replaced by one that becomes the same
pub map-replaced : (f : Line → Line) (slots : List (Option Line)) (i : ℕ) (k l : Line) → Holds slots i k → f l ≡ f k → map f (lines_of (set slots i (Some l))) ≡ map f (lines_of slots)
map-replaced f [] i k l h e = cc
map-replaced f (None ∷ slots) zero k l h e = cc
map-replaced f (Some j ∷ slots) zero k l h e = let same : j ≡ k = cc in ap (λ m. m ∷ map f (lines_of slots)) (e ∙ ap f (sym same))
map-replaced f (None ∷ slots) (suc i) k l h e = map-replaced f slots i k l h e
map-replaced f (Some j ∷ slots) (suc i) k l h e = ap (λ ms. f j ∷ ms) (map-replaced f slots i k l h e)

-- the lines of slots are distinct
pub lines_distinct : (slots : List (Option Line)) → ((i j : ℕ) (l : Line) → Holds slots i l → Holds slots j l → i ≡ j) → AllPairs (λ a b. a ≢ b) (lines_of slots)
lines_distinct [] one = λ i j d less lt. absurd (omega arith)
lines_distinct (None ∷ slots) one = lines_distinct slots (λ i j l a b. let e : suc i ≡ suc j = one (suc i) (suc j) l a b in omega (arith, e))
lines_distinct (Some k ∷ slots) one =
    AllPairs-cons (λ a b. a ≢ b) k (lines_of slots)
    (All-from_contains (λ l. k ≢ l) (lines_of slots) (λ l c e. let s = lines_source slots l c in let f : 0 ≡ suc s.0 = one 0 (suc s.0) l (ap Some e) s.1 in absurd (omega (arith, f))))
    (lines_distinct slots (λ i j l a b. let e : suc i ≡ suc j = one (suc i) (suc j) l a b in omega (arith, e)))

-- lines of slots that stay by a change are tidied after it
pub changed_same : (f : Line → Line) (slots : List (Option Line)) (at : ℕ → ℕ → Bool) → IsFound slots at → ((i : ℕ) (l : Line) → Holds slots i l → f l ≡ l) → deduplicated (map f (lines_of slots)) ≡ lines_of slots
changed_same f slots at found stays =
    ap deduplicated (map-same f (lines_of slots) (λ l c. let s = lines_source slots l c in stays s.0 l s.1))
    ∙ deduplicated-same [] (lines_of slots) (lines_distinct slots (one_slot slots at found))

-- distinct lines that put no variable beside itself are tidied
pub staying_lem : StayingLaw
staying_lem lines once plain = ap deduplicated (map-same without_self lines (λ l c. All-contains (λ k. without_self k ≡ k) lines l plain c)) ∙ deduplicated-same [] lines once
