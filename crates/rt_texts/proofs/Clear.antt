-- Bytes that do not stand in texts: dots in labels and bases, spaces in variables and constants.
use Rattle.std.proofs.Common.{◌≡◌, ◌≢◌, ℕ, suc, ◌+◌, ◌<◌, ◌^◌, ◌%◌, ◌⊎◌, List, [], ◌∷◌, ◌++◌, Bool, true, false, ◌&&◌, nat_lt, refl, inl, inr, arith, codes, decimal, ℤ, pos, negsuc, FitsSigned, w32, All, length, slice_index_or, ◌≤◌}
use Rattle.std.specs.Fmt.{signed_decimal}
use Rattle.std.proofs.lemmas.Bool.{false≢true, ltb-true, and_parts}
use Rattle.std.proofs.lemmas.Fmt.{decimal_by_steps}
use Rattle.rt_lines.specs.declared.label.Loc.TheVariants.{Arg, Stack}
use Rattle.rt_lines.specs.declared.label.Label.{Label}
use Rattle.rt_lines.specs.declared.label.Label.TheVariants.{In, Out, Load, Store, Field}
use Rattle.rt_lines.specs.declared.variable.Base.{Base}
use Rattle.rt_lines.specs.declared.variable.Base.TheVariants.{Proc, Global, Exist, Outer}
use Rattle.rt_lines.specs.declared.variable.Dtv.{Dtv}
use Rattle.std.proofs.lemmas.List.Elements.{All-head, All-tail}
use Rattle.rt_lines.specs.Names.{IsNameByte, IsName, AreNames}
use Rattle.rt_lines.specs.Words.{IsLabel}
use Rattle.rt_texts.specs.Goods.{IsNumber, IsBase, IsWord, IsDtv}
use Rattle.rt_texts.specs.Texts.{field_front, label_text, base_text, word_text, dtv_text, constant_text}
use Rattle.rt_texts.specs.Readings.{HasNo, StopsAt}
use Rattle.rt_texts.proofs.Cuts.{HasNo-append}

-- a dot or a space
abbrev pub IsMark : ℕ → Type 0
IsMark byte = (byte ≡ 46) ⊎ (byte ≡ 32)

HasNo-decimal : (byte n : ℕ) → IsMark byte → n < 2 ^ 64 → HasNo byte (decimal n)
HasNo-decimal byte n mark h =
    decimal_by_steps (λ n ds. HasNo byte ds)
    (λ n small. (λ e. elim mark [ inl m ↦ absurd (omega arith) | inr m ↦ absurd (omega arith) ], tt))
    (λ n ds big clear. HasNo-append byte ds ((48 + n % 10) ∷ []) clear (λ e. elim mark [ inl m ↦ absurd (omega arith) | inr m ↦ absurd (omega arith) ], tt))
    n h

HasNo-signed : (byte : ℕ) (z : ℤ) → IsMark byte → FitsSigned w32 z → HasNo byte (signed_decimal z)
HasNo-signed byte (pos n) mark h = HasNo-decimal byte n mark (omega arith)
HasNo-signed byte (negsuc n) mark h = (λ e. elim mark [ inl m ↦ absurd (omega arith) | inr m ↦ absurd (omega arith) ], HasNo-decimal byte (suc n) mark (omega arith))

-- each byte is above the dot, as letters, `_` and `@` are
abbrev are_above : List ℕ → Bool
are_above [] = true
are_above (x ∷ xs) = nat_lt 46 x && are_above xs

HasNo-front : (byte : ℕ) (front : List ℕ) → IsMark byte → are_above front ≡ true → HasNo byte front
HasNo-front byte [] mark h = tt
HasNo-front byte (x ∷ xs) mark h =
    let parts = and_parts (nat_lt 46 x) (are_above xs) h in
    let above : 46 < x = ltb-true 46 x parts.0 in
    (λ e. elim mark [ inl m ↦ absurd (omega arith) | inr m ↦ absurd (omega arith) ], HasNo-front byte xs mark parts.1)

pub HasNo-label : (byte : ℕ) (l : Label) → IsMark byte → IsLabel l → HasNo byte (label_text l)
HasNo-label byte (In (Arg n)) mark good = HasNo-append byte (codes "in_a") (decimal n) (HasNo-front byte (codes "in_a") mark refl) (HasNo-decimal byte n mark (omega arith))
HasNo-label byte (In (Stack k)) mark good = HasNo-append byte (codes "in_stack") (decimal k) (HasNo-front byte (codes "in_stack") mark refl) (HasNo-decimal byte k mark (omega arith))
HasNo-label byte (Out n) mark good = HasNo-append byte (codes "out_a") (decimal n) (HasNo-front byte (codes "out_a") mark refl) (HasNo-decimal byte n mark (omega arith))
HasNo-label byte Load mark good = HasNo-front byte (codes "load") mark refl
HasNo-label byte Store mark good = HasNo-front byte (codes "store") mark refl
HasNo-label byte (Field w k) mark (width, fits) =
    let small : w < 2 ^ 64 = elim width [ inl e ↦ omega arith | inr r ↦ elim r [ inl e ↦ omega arith | inr e ↦ omega arith ] ] in
    let front : HasNo byte (field_front w) =
    HasNo-append byte (codes "s") (decimal w ++ codes "@") (HasNo-front byte (codes "s") mark refl)
    (HasNo-append byte (decimal w) (codes "@") (HasNo-decimal byte w mark small) (HasNo-front byte (codes "@") mark refl)) in
    HasNo-append byte (field_front w) (signed_decimal k) front (HasNo-signed byte k mark fits)

HasNo-numbered : (byte : ℕ) (front : List ℕ) (n : ℕ) → IsMark byte → are_above front ≡ true → IsNumber n → HasNo byte (front ++ decimal n)
HasNo-numbered byte front n mark h small = HasNo-append byte front (decimal n) (HasNo-front byte front mark h) (HasNo-decimal byte n mark (omega arith))

pub HasNo-base : (byte : ℕ) (b : Base) → IsMark byte → IsBase b → HasNo byte (base_text b)
HasNo-base byte (Proc n) mark good = HasNo-numbered byte (codes "f") n mark refl good
HasNo-base byte (Global n) mark good = HasNo-numbered byte (codes "g") n mark refl good
HasNo-base byte (Exist n) mark good = HasNo-numbered byte (codes "t") n mark refl good
HasNo-base byte (Outer n) mark good = HasNo-numbered byte (codes "x") n mark refl good

pub StopsAt-word : (w : List Label) → StopsAt 46 (word_text w)
StopsAt-word [] = tt
StopsAt-word (l ∷ w) = refl

HasNo-word : (byte : ℕ) (w : List Label) → IsMark byte → 46 ≢ byte → IsWord w → HasNo byte (word_text w)
HasNo-word byte [] mark other good = tt
HasNo-word byte (l ∷ w) mark other good =
    (other, HasNo-append byte (label_text l) (word_text w) (HasNo-label byte l mark (All-head IsLabel l w good)) (HasNo-word byte w mark other (All-tail IsLabel l w good)))

-- no space stands in a variable
pub HasNo-dtv : (x : Dtv) → IsDtv x → HasNo 32 (dtv_text x)
HasNo-dtv x good =
    HasNo-append 32 (base_text x.base) (word_text x.word) (HasNo-base 32 x.base (inr refl) good.0) (HasNo-word 32 x.word (inr refl) (λ e. absurd (omega arith)) good.1)

HasNo-name_bytes : (name : List ℕ) → All IsNameByte name → HasNo 32 name
HasNo-name_bytes [] good = tt
HasNo-name_bytes (b ∷ bs) good =
    let here : IsNameByte b = All-head IsNameByte b bs good in
    (λ e. elim here [ inl h ↦ absurd (omega arith) | inr r ↦ elim r [ inl h ↦ absurd (omega arith) | inr h ↦ absurd (omega arith) ] ], HasNo-name_bytes bs (All-tail IsNameByte b bs good))

-- no space stands in a constant
pub HasNo-constant : (names : List (List ℕ)) (k : ℕ) → AreNames names → k < length names → HasNo 32 (constant_text names k)
HasNo-constant names k good h =
    let spelled : IsName (slice_index_or names k []) = good.spelled k [] h in
    (λ e. absurd (omega arith), HasNo-name_bytes (slice_index_or names k []) spelled.rest)

-- each byte is greater
abbrev pub AreAbove : ℕ → List ℕ → Type 0
AreAbove low [] = Unit {0}
AreAbove low (b ∷ bs) = (low < b) × AreAbove low bs

pub AreAbove-append : (low : ℕ) (a b : List ℕ) → AreAbove low a → AreAbove low b → AreAbove low (a ++ b)
AreAbove-append low [] b h k = k
AreAbove-append low (x ∷ a) b (h, hs) k = (h, AreAbove-append low a b hs k)

pub AreAbove-less : (low less : ℕ) (a : List ℕ) → less ≤ low → AreAbove low a → AreAbove less a
AreAbove-less low less [] le h = tt
AreAbove-less low less (x ∷ a) le (h, hs) = (omega arith, AreAbove-less low less a le hs)

pub HasNo-above : (byte low : ℕ) (a : List ℕ) → byte ≤ low → AreAbove low a → HasNo byte a
HasNo-above byte low [] le h = tt
HasNo-above byte low (x ∷ a) le (h, hs) = (λ e. absurd (omega arith), HasNo-above byte low a le hs)
