-- Lists cut at the place of an only use.
use Rattle.std.proofs.Common.{◌≡◌, ◌≢◌, ℕ, zero, suc, ◌<◌, inl, inr, List, [], ◌∷◌, ◌++◌, length, get_or, take, drop, All, refl, sym, ap, ◌∙◌, arith, length-append}
use Rattle.std.proofs.lemmas.List.Elements.{All-cons}
use Rattle.rt_lines.specs.declared.label.Variance.{Variance}
use Rattle.rt_lines.specs.declared.label.Variance.TheVariants.{Co, Contra}
use Rattle.rt_lines.specs.declared.variable.Base.TheVariants.{Exist}
use Rattle.rt_lines.specs.declared.variable.Dtv.{Dtv}
use Rattle.rt_lines.specs.declared.line.Line.{Line}
use Rattle.rt_rules.specs.Put.{HasUse, use_of}
use Rattle.rt_polar.specs.Polar.{IsSole, IsOnlyPlace}

pub use_has : (sign : Variance) (n : ℕ) (z : Dtv) → HasUse sign n (use_of sign n z)
use_has Co n z = inr (refl, refl)
use_has Contra n z = inl (refl, refl)

-- where only x among the elements is of a kind, only its place has one
pub one_place : {X : Type 0} (P : X → Type 0) (before : List X) (x : X) (after : List X) → All (λ y. P y → ⊥) (before ++ after) → (k : ℕ) (d : X) → k < length (before ++ x ∷ after) → P (get_or (before ++ x ∷ after) k d) → k ≡ length before
one_place P [] x after none zero d lt h = refl
one_place P [] x after none (suc k) d lt h = absurd (none k d (omega arith) h)
one_place P (a ∷ before) x after none zero d lt h = absurd (none 0 d (omega arith) h)
one_place P (a ∷ before) x after none (suc k) d lt h = ap suc (one_place P before x after (λ i e l. none (suc i) e (omega arith)) k d (omega arith) h)

pub cut_length : {X : Type 0} (before : List X) (x : X) (after : List X) → length before < length (before ++ x ∷ after)
cut_length before x after = omega (arith, length-append before (x ∷ after))

pub cut_at : {X : Type 0} (before : List X) (x : X) (after : List X) (d : X) → get_or (before ++ x ∷ after) (length before) d ≡ x
cut_at [] x after d = refl
cut_at (b ∷ before) x after d = cut_at before x after d

pub cut_here : {X : Type 0} (xs : List X) (k : ℕ) (d : X) → k < length xs → xs ≡ take k xs ++ get_or xs k d ∷ drop (suc k) xs
cut_here [] k d lt = absurd (omega arith)
cut_here (x ∷ xs) zero d lt = refl
cut_here (x ∷ xs) (suc k) d lt = ap (λ ys. x ∷ ys) (cut_here xs k d (omega arith))

pub take_length : {X : Type 0} (xs : List X) (k : ℕ) → k < length xs → length (take k xs) ≡ k
take_length [] k lt = absurd (omega arith)
take_length (x ∷ xs) zero lt = refl
take_length (x ∷ xs) (suc k) lt = ap suc (take_length xs k (omega arith))

-- the elements at other places
pub others : {X : Type 0} (P : X → Type 0) (xs : List X) (k : ℕ) → k < length xs → ((i : ℕ) (d : X) → i < length xs → i ≢ k → P (get_or xs i d)) → All P (take k xs ++ drop (suc k) xs)
others P [] k lt h = absurd (omega arith)
others P (x ∷ xs) zero lt h = λ i d less. h (suc i) d (omega arith) (λ e. let f : suc i ≡ 0 = e in absurd (omega (arith, f)))
others P (x ∷ xs) (suc k) lt h = All-cons P x (take k xs ++ drop (suc k) xs) (h 0 x (omega arith) (λ e. let f : 0 ≡ suc k = e in absurd (omega (arith, f))))
    (others P xs k (omega arith) (λ j e l apart. h (suc j) e (omega arith) (λ f. let g : suc j ≡ suc k = f in let m : j ≡ k = omega (arith, g) in apart m)))

-- two cuts at one place
pub same_before : {X : Type 0} (a b : List X) (x y : X) (c d : List X) → a ++ x ∷ c ≡ b ++ y ∷ d → length a ≡ length b → a ≡ b
same_before [] [] x y c d e f = refl
same_before [] (y' ∷ b) x y c d e f = absurd (omega (arith, f))
same_before (x' ∷ a) [] x y c d e f = absurd (omega (arith, f))
same_before (x' ∷ a) (y' ∷ b) x y c d e f =
    let h : x' ≡ y' = cc in
    let t : a ++ x ∷ c ≡ b ++ y ∷ d = cc in
    let g : length a ≡ length b = omega (arith, f) in
    let r : a ≡ b = same_before a b x y c d t g in
    cc

pub same_after : {X : Type 0} (a b : List X) (x y : X) (c d : List X) → a ++ x ∷ c ≡ b ++ y ∷ d → length a ≡ length b → c ≡ d
same_after [] [] x y c d e f = cc
same_after [] (y' ∷ b) x y c d e f = absurd (omega (arith, f))
same_after (x' ∷ a) [] x y c d e f = absurd (omega (arith, f))
same_after (x' ∷ a) (y' ∷ b) x y c d e f =
    let t : a ++ x ∷ c ≡ b ++ y ∷ d = cc in
    let g : length a ≡ length b = omega (arith, f) in
    same_after a b x y c d t g

-- the place of a sole use is the only one that has a use
pub sole_place : (sign : Variance) (n : ℕ) (z : Dtv) (lines : List Line) (place : ℕ) → IsSole sign n z lines place → IsOnlyPlace sign n lines place
sole_place sign n z lines place sole = rw (sole.cut, sole.at) here
  where
    here : IsOnlyPlace sign n (sole.before ++ use_of sign n z ∷ sole.after) (length sole.before)
    here = record {
      within = cut_length sole.before (use_of sign n z) sole.after;
      uses = λ d. rw (cut_at sole.before (use_of sign n z) sole.after d) (use_has sign n z);
      only = λ k d lt h. one_place (HasUse sign n) sole.before (use_of sign n z) sole.after sole.alone k d lt h;
    }

-- and the line there is the use
pub sole_line : (sign : Variance) (n : ℕ) (z : Dtv) (lines : List Line) (place : ℕ) (d : Line) → IsSole sign n z lines place → get_or lines place d ≡ use_of sign n z
sole_line sign n z lines place d sole = rw (sole.cut, sole.at) (cut_at sole.before (use_of sign n z) sole.after d)

-- the line at the only place, where it is a use of another base
pub sole_at : (sign : Variance) (n : ℕ) (z : Dtv) (lines : List Line) (place : ℕ) (d : Line) → IsOnlyPlace sign n lines place → z.base ≢ Exist n → get_or lines place d ≡ use_of sign n z → IsSole sign n z lines place
sole_at sign n z lines place d only other e = record {
  other_base = other;
  before = take place lines;
  after = drop (suc place) lines;
  cut = cut_here lines place d only.within ∙ ap (λ l. take place lines ++ l ∷ drop (suc place) lines) e;
  at = sym (take_length lines place only.within);
  alone = others (λ l. HasUse sign n l → ⊥) lines place only.within (λ i d' lt apart h. apart (only.only i d' lt h));
}
