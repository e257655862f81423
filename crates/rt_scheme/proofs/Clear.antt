-- Bytes that do not stand in lines and in the texts of names: line ends anywhere, spaces in numbers.
use Rattle.std.proofs.Common.{◌≡◌, ℕ, suc, ◌+◌, ◌<◌, ◌≤◌, ◌^◌, ◌/◌, ◌%◌, ◌==◌, List, [], ◌∷◌, ◌++◌, Bool, true, false, ◌&&◌, nat_lt, if◌then◌else◌, refl, inl, inr, arith, codes, decimal, ℤ, pos, negsuc, FitsSigned, w32, All, length, slice_index_or}
use Rattle.std.specs.Fmt.{signed_decimal}
use Rattle.std.specs.List.{flat_map}
use Rattle.std.proofs.lemmas.Bool.{false≢true, ltb-true, and_parts}
use Rattle.std.proofs.lemmas.Bool.Decides.{nat_tests}
use Rattle.std.proofs.lemmas.Fmt.{decimal_by_steps}
use Rattle.std.proofs.lemmas.List.Elements.{All-head, All-tail}
use Rattle.rt_lines.specs.declared.label.Loc.TheVariants.{Arg, Stack}
use Rattle.rt_lines.specs.declared.label.Label.{Label}
use Rattle.rt_lines.specs.declared.label.Label.TheVariants.{In, Out, Load, Store, Field}
use Rattle.rt_lines.specs.declared.variable.Base.{Base}
use Rattle.rt_lines.specs.declared.variable.Base.TheVariants.{Proc, Global, Exist, Outer}
use Rattle.rt_lines.specs.declared.variable.Dtv.{Dtv}
use Rattle.rt_lines.specs.declared.line.Line.{Line}
use Rattle.rt_lines.specs.declared.line.Line.TheVariants.{Var, Same, Sub, Low, Up}
use Rattle.rt_lines.specs.Names.{IsNameByte, IsName, AreNames}
use Rattle.rt_lines.specs.Words.{IsLabel}
use Rattle.rt_texts.specs.Goods.{IsBase, IsWord, IsDtv, IsLine}
use Rattle.rt_texts.specs.Texts.{field_front, label_text, base_text, word_text, dtv_text, constant_text, line_text}
use Rattle.rt_texts.specs.Readings.{HasNo}
use Rattle.rt_scheme.specs.NameTexts.{hexadecimal_digit, is_plain, byte_text, name_text}
use Rattle.rt_texts.proofs.Clear.{AreAbove, AreAbove-append, AreAbove-less, HasNo-above}

-- digits are
pub AreAbove-decimal : (n : ℕ) → n < 2 ^ 64 → AreAbove 47 (decimal n)
AreAbove-decimal n h =
    decimal_by_steps (λ n ds. AreAbove 47 ds)
    (λ n small. (omega arith, tt))
    (λ n ds big clear. AreAbove-append 47 ds ((48 + n % 10) ∷ []) clear (omega arith, tt))
    n h

AreAbove-number : (n : ℕ) → n < 2 ^ 64 → AreAbove 31 (decimal n)
AreAbove-number n h = AreAbove-less 47 31 (decimal n) (omega arith) (AreAbove-decimal n h)

AreAbove-signed : (z : ℤ) → FitsSigned w32 z → AreAbove 31 (signed_decimal z)
AreAbove-signed (pos n) h = AreAbove-number n (omega arith)
AreAbove-signed (negsuc n) h = (omega arith, AreAbove-number (suc n) (omega arith))

-- fixed texts are, as a test tells
abbrev are_visible : List ℕ → Bool
are_visible [] = true
are_visible (x ∷ xs) = nat_lt 31 x && are_visible xs

pub AreAbove-fixed : (front : List ℕ) → are_visible front ≡ true → AreAbove 31 front
AreAbove-fixed [] h = tt
AreAbove-fixed (x ∷ xs) h =
    let parts = and_parts (nat_lt 31 x) (are_visible xs) h in
    (ltb-true 31 x parts.0, AreAbove-fixed xs parts.1)

pub AreAbove-numbered : (front : List ℕ) (n : ℕ) (rest : List ℕ) → are_visible front ≡ true → n < 2 ^ 64 → AreAbove 31 rest → AreAbove 31 (front ++ (decimal n ++ rest))
AreAbove-numbered front n rest h small good =
    AreAbove-append 31 front (decimal n ++ rest) (AreAbove-fixed front h) (AreAbove-append 31 (decimal n) rest (AreAbove-number n small) good)

numbered : (front : List ℕ) (n : ℕ) → are_visible front ≡ true → n < 2 ^ 64 → AreAbove 31 (front ++ decimal n)
numbered front n h small = AreAbove-append 31 front (decimal n) (AreAbove-fixed front h) (AreAbove-number n small)

AreAbove-label : (l : Label) → IsLabel l → AreAbove 31 (label_text l)
AreAbove-label (In (Arg n)) good = numbered (codes "in_a") n refl (omega arith)
AreAbove-label (In (Stack k)) good = numbered (codes "in_stack") k refl (omega arith)
AreAbove-label (Out n) good = numbered (codes "out_a") n refl (omega arith)
AreAbove-label Load good = AreAbove-fixed (codes "load") refl
AreAbove-label Store good = AreAbove-fixed (codes "store") refl
AreAbove-label (Field w k) (width, fits) =
    let small : w < 2 ^ 64 = elim width [ inl e ↦ omega arith | inr r ↦ elim r [ inl e ↦ omega arith | inr e ↦ omega arith ] ] in
    let front : AreAbove 31 (field_front w) = AreAbove-numbered (codes "s") w (codes "@") refl small (AreAbove-fixed (codes "@") refl) in
    AreAbove-append 31 (field_front w) (signed_decimal k) front (AreAbove-signed k fits)

AreAbove-base : (b : Base) → IsBase b → AreAbove 31 (base_text b)
AreAbove-base (Proc n) good = numbered (codes "f") n refl (omega arith)
AreAbove-base (Global n) good = numbered (codes "g") n refl (omega arith)
AreAbove-base (Exist n) good = numbered (codes "t") n refl (omega arith)
AreAbove-base (Outer n) good = numbered (codes "x") n refl (omega arith)

AreAbove-word : (w : List Label) → IsWord w → AreAbove 31 (word_text w)
AreAbove-word [] good = tt
AreAbove-word (l ∷ w) good =
    (omega arith, AreAbove-append 31 (label_text l) (word_text w) (AreAbove-label l (All-head IsLabel l w good)) (AreAbove-word w (All-tail IsLabel l w good)))

AreAbove-dtv : (x : Dtv) → IsDtv x → AreAbove 31 (dtv_text x)
AreAbove-dtv x good = AreAbove-append 31 (base_text x.base) (word_text x.word) (AreAbove-base x.base good.0) (AreAbove-word x.word good.1)

AreAbove-name_bytes : (name : List ℕ) → All IsNameByte name → AreAbove 31 name
AreAbove-name_bytes [] good = tt
AreAbove-name_bytes (b ∷ bs) good =
    let here : IsNameByte b = All-head IsNameByte b bs good in
    (elim here [ inl h ↦ omega arith | inr r ↦ elim r [ inl h ↦ omega arith | inr h ↦ omega arith ] ], AreAbove-name_bytes bs (All-tail IsNameByte b bs good))

AreAbove-constant : (names : List (List ℕ)) (k : ℕ) → AreNames names → k < length names → AreAbove 31 (constant_text names k)
AreAbove-constant names k good h =
    let spelled : IsName (slice_index_or names k []) = good.spelled k [] h in
    (omega arith, AreAbove-name_bytes (slice_index_or names k []) spelled.rest)

between : (word a b : List ℕ) → are_visible word ≡ true → AreAbove 31 a → AreAbove 31 b → AreAbove 31 ((a ++ word) ++ b)
between word a b h ha hb = AreAbove-append 31 (a ++ word) b (AreAbove-append 31 a word ha (AreAbove-fixed word h)) hb

-- no line end stands in a line
pub AreAbove-line : (names : List (List ℕ)) (line : Line) → AreNames names → IsLine (length names) line → AreAbove 31 (line_text names line)
AreAbove-line names (Var x) fine good = AreAbove-append 31 (codes "var ") (dtv_text x) (AreAbove-fixed (codes "var ") refl) (AreAbove-dtv x good)
AreAbove-line names (Same x y) fine good =
    between (codes " ") (codes "same " ++ dtv_text x) (dtv_text y) refl (AreAbove-append 31 (codes "same ") (dtv_text x) (AreAbove-fixed (codes "same ") refl) (AreAbove-dtv x good.0)) (AreAbove-dtv y good.1)
AreAbove-line names (Sub x y) fine good = between (codes " <= ") (dtv_text x) (dtv_text y) refl (AreAbove-dtv x good.0) (AreAbove-dtv y good.1)
AreAbove-line names (Low k x) fine good = between (codes " <= ") (constant_text names k) (dtv_text x) refl (AreAbove-constant names k fine good.0) (AreAbove-dtv x good.1)
AreAbove-line names (Up x k) fine good = between (codes " <= ") (dtv_text x) (constant_text names k) refl (AreAbove-dtv x good.0) (AreAbove-constant names k fine good.1)

-- nor in a name's text
digit_above : (n : ℕ) → 31 < hexadecimal_digit n
digit_above n = grind (arith, nat_tests)

plain_above : (b : ℕ) → is_plain b ≡ true → 31 < b
plain_above b e = grind (arith, nat_tests)

AreAbove-byte : (b : ℕ) → AreAbove 31 (byte_text b)
AreAbove-byte b = by (is_plain b) refl
  where
    by : (p : Bool) → is_plain b ≡ p → AreAbove 31 (if p then b ∷ [] else 92 ∷ hexadecimal_digit (b / 16) ∷ hexadecimal_digit (b % 16) ∷ [])
    by true e = (plain_above b e, tt)
    by false e = (omega arith, (digit_above (b / 16), (digit_above (b % 16), tt)))

AreAbove-bytes : (name : List ℕ) → AreAbove 31 (flat_map byte_text name)
AreAbove-bytes [] = tt
AreAbove-bytes (b ∷ name) = AreAbove-append 31 (byte_text b) (flat_map byte_text name) (AreAbove-byte b) (AreAbove-bytes name)

pub AreAbove-name : (name : List ℕ) → AreAbove 31 (name_text name)
AreAbove-name [] = AreAbove-fixed (codes "-") refl
AreAbove-name (b ∷ []) = by (b == 45)
  where
    by : (t : Bool) → AreAbove 31 (if t then 92 ∷ codes "2d" else byte_text b)
    by true = AreAbove-fixed (92 ∷ codes "2d") refl
    by false = AreAbove-byte b
AreAbove-name (a ∷ b ∷ name) = AreAbove-bytes (a ∷ b ∷ name)
