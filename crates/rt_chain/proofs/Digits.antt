-- Digits of numbers, and the letter that is exchanged for the next one.
use Rattle.std.proofs.Common.{◌≡◌, ℕ, zero, suc, ◌+◌, ◌*◌, ◌^◌, ◌<◌, ◌≤◌, List, [], ◌∷◌, Bool, true, false, cond, length, get_or, drop, set, refl, ap, ◌∙◌, arith, add-one, drop-cons, pow_pos, pow_mono}
use Rattle.std.proofs.lemmas.List.Sums.{sum_by-cons}
use Rattle.std.proofs.Math.Nat.{two-pow-succ}
use Rattle.rt_lines.specs.declared.label.Label.{Label}
use Rattle.rt_lines.specs.declared.label.Label.TheVariants.{In, Out, Load, Store, Field}
use Rattle.rt_lines.specs.declared.label.Variance.{Variance}
use Rattle.rt_lines.specs.declared.label.Variance.TheVariants.{Co, Contra}
use Rattle.rt_lines.specs.Words.{label_variance, times, variance_of_word, IsLabel}
use Rattle.rt_bridge.specs.Counted.{bit, IsPointer}
use Rattle.rt_chain.specs.Numbers.{number_of, count_true, AreAtPointers, AreSpellings, at_end, equal_at, flipped_at}
use Rattle.rt_chain.specs.Inside.Letters.{other}

pub bit-small : (s : Variance) → bit s ≤ 1
bit-small Co = omega arith
bit-small Contra = omega arith

pow-pos : (n : ℕ) → 1 ≤ 2 ^ n
pow-pos n = pow_pos n

pow-more : (m n : ℕ) → m ≤ n → 2 ^ m ≤ 2 ^ n
pow-more m n h = pow_mono h

-- one place more
count-yes : (f : List Bool) → count_true (true ∷ f) ≡ suc (count_true f)
count-yes f = sum_by-cons (λ (b : Bool). cond b 1 0) true f ∙ omega arith

count-no : (f : List Bool) → count_true (false ∷ f) ≡ count_true f
count-no f = sum_by-cons (λ (b : Bool). cond b 1 0) false f ∙ omega arith

bound : (w : List Label) (f : List Bool) → number_of w f + 1 ≤ 2 ^ count_true f
bound [] f = omega (arith, pow-pos (count_true f))
bound (l ∷ w) [] = omega arith
bound (l ∷ w) (true ∷ f) = rw (count-yes f, two-pow-succ (count_true f)) (omega (arith, bound w f, bit-small (times (label_variance l) (variance_of_word w))))
bound (l ∷ w) (false ∷ f) = rw (count-no f) (bound w f)

fewer : (i : ℕ) (f : List Bool) → count_true (drop i f) ≤ count_true f
fewer zero f = omega arith
fewer (suc i) [] = omega arith
fewer (suc i) (true ∷ f) = omega (arith, fewer i f, count-yes f)
fewer (suc i) (false ∷ f) = omega (arith, fewer i f, count-no f)

-- the number of a suffix is small
pub small : (w : List Label) (f : List Bool) (i : ℕ) → count_true f ≤ 100 → number_of (drop i w) (drop i f) + 1 ≤ 2 ^ 100
small w f i h = omega (arith, bound (drop i w) (drop i f), pow-more (count_true (drop i f)) 100 (omega (arith, fewer i f, h)))

-- the number of a suffix from the next one's
pub digit_yes : (w : List Label) (f : List Bool) (i : ℕ) (d : Label) → i < length w → i < length f → get_or f i false ≡ true →
    number_of (drop i w) (drop i f) ≡ bit (times (label_variance (get_or w i d)) (variance_of_word (drop (i + 1) w))) + 2 * number_of (drop (i + 1) w) (drop (i + 1) f)
digit_yes w f i d h k e = rw (drop-cons w i d h, drop-cons f i false k, e, add-one i) refl

pub digit_no : (w : List Label) (f : List Bool) (i : ℕ) (d : Label) → i < length w → i < length f → get_or f i false ≡ false →
    number_of (drop i w) (drop i f) ≡ number_of (drop (i + 1) w) (drop (i + 1) f)
digit_no w f i d h k e = rw (drop-cons w i d h, drop-cons f i false k, e, add-one i) refl

-- the sign of a suffix from the next one's
pub sign_here : (w : List Label) (i : ℕ) (d : Label) → i < length w → variance_of_word (drop i w) ≡ times (label_variance (get_or w i d)) (variance_of_word (drop (i + 1) w))
sign_here w i d h = rw (drop-cons w i d h, add-one i) refl

pub times-twice : (a b : Variance) → times a (times a b) ≡ b
times-twice Co b = refl
times-twice Contra Co = refl
times-twice Contra Contra = refl

-- and the next one's from it
pub sign_next : (w : List Label) (i : ℕ) (d : Label) → i < length w → times (label_variance (get_or w i d)) (variance_of_word (drop i w)) ≡ variance_of_word (drop (i + 1) w)
sign_next w i d h = ap (times (label_variance (get_or w i d))) (sign_here w i d h) ∙ times-twice (label_variance (get_or w i d)) (variance_of_word (drop (i + 1) w))

pub other_good : (l : Label) → IsLabel l → IsLabel (other l)
other_good Load h = tt
other_good Store h = tt
other_good (In a) h = h
other_good (Out n) h = h
other_good (Field w k) h = h

-- the word with the letter exchanged, where it is the leftmost digit that is 0
pub record Raised (w : List Label) (f : List Bool) (i : ℕ) : Type 0 where
  pub spells : AreSpellings f w (set w i (other (get_or w i Load)))
  pub number : number_of (set w i (other (get_or w i Load))) f ≡ number_of w f + 1
  pub sign : variance_of_word (set w i (other (get_or w i Load))) ≡ times Contra (variance_of_word w)

same : (w : List Label) (f : List Bool) → length w ≡ length f → AreSpellings f w w
same [] [] e = at_end
same (l ∷ w) (b ∷ f) e = equal_at b l (same w f (omega arith))
same [] (b ∷ f) e = absurd (omega arith)
same (l ∷ w) [] e = absurd (omega arith)

turned : (a b : Variance) → times a (times Contra b) ≡ times Contra (times a b)
turned Co b = refl
turned Contra Co = refl
turned Contra Contra = refl

-- at the exchanged letter
lifted : (l : Label) (w : List Label) (f : List Bool) (s : Variance) → length w ≡ length f → IsPointer l → variance_of_word w ≡ s → times (label_variance l) s ≡ Contra → Raised (l ∷ w) (true ∷ f) 0
lifted Load w f Co e p v h = absurd (cc)
lifted Load w f Contra e p v h = record { spells = flipped_at Load Store tt tt (same w f e); number = rw v (omega arith); sign = rw v refl }
lifted Store w f Co e p v h = record { spells = flipped_at Store Load tt tt (same w f e); number = rw v (omega arith); sign = rw v refl }
lifted Store w f Contra e p v h = absurd (cc)
lifted (In a) w f s e p v h = absurd p
lifted (Out n) w f s e p v h = absurd p
lifted (Field u k) w f s e p v h = absurd p

-- to the left of it
carried : (l : Label) (b : Bool) (w : List Label) (f : List Bool) (i : ℕ) → Raised w f i → (b ≡ true → variance_of_word (l ∷ w) ≡ Co) → Raised (l ∷ w) (b ∷ f) (suc i)
carried l true w f i r one =
    let s : variance_of_word (l ∷ set w i (other (get_or w i Load))) ≡ Contra = ap (times (label_variance l)) r.sign ∙ turned (label_variance l) (variance_of_word w) ∙ ap (times Contra) (one refl) in
    record { spells = equal_at true l r.spells; number = rw (s, one refl) (omega (arith, r.number)); sign = ap (times (label_variance l)) r.sign ∙ turned (label_variance l) (variance_of_word w) }
carried l false w f i r one =
    record { spells = equal_at false l r.spells; number = r.number; sign = ap (times (label_variance l)) r.sign ∙ turned (label_variance l) (variance_of_word w) }

pub raised : (w : List Label) (f : List Bool) (i : ℕ) → length w ≡ length f → i < length w → AreAtPointers w f → get_or f i false ≡ true → variance_of_word (drop i w) ≡ Contra →
    ((k : ℕ) → k < i → get_or f k false ≡ true → variance_of_word (drop k w) ≡ Co) → Raised w f i
raised [] f i e h p t v ones = absurd (omega arith)
raised (l ∷ w) [] i e h p t v ones = absurd (omega arith)
raised (l ∷ w) (b ∷ f) zero e h p t v ones = rw t (lifted l w f (variance_of_word w) (omega arith) (p 0 (omega arith) t) refl v)
raised (l ∷ w) (b ∷ f) (suc i) e h p t v ones =
    carried l b w f i (raised w f i (omega arith) (omega arith) (λ k less at. p (suc k) (omega arith) at) t v (λ k less at. ones (suc k) (omega arith) at)) (λ g. ones 0 (omega arith) g)
