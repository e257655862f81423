-- The text of a name means that name.
use Rattle.std.proofs.Common.{◌≡◌, ℕ, ◌+◌, ◌*◌, ◌<◌, ◌/◌, ◌%◌, ◌==◌, Bool, true, false, if◌then◌else◌, List, [], ◌∷◌, ◌++◌, codes, refl, sym, ap, ◌∙◌, arith}
use Rattle.std.specs.List.{flat_map}
use Rattle.std.specs.Str.{bytes_eq}
use Rattle.std.proofs.lemmas.Bool.Decides.{nat_tests}
use Rattle.std.proofs.lemmas.List.Elements.{All-head, All-tail}
use Rattle.std.proofs.lemmas.Slice.Eq.{bytes_eq-Decides}
use Rattle.rt_texts.specs.Readings.{IsNoText}
use Rattle.rt_scheme.specs.NameTexts.{hexadecimal_digit, is_plain, byte_text, name_text}
use Rattle.rt_scheme.specs.NameReadings.{AreBytes, digit_value, unescaped, meant}

digit_value-of_digit : (n : ℕ) → n < 16 → digit_value (hexadecimal_digit n) ≡ n
digit_value-of_digit n h = grind (arith, nat_tests)

plain_byte : (b : ℕ) → is_plain b ≡ true → (b == 92) ≡ false
plain_byte b e = grind (arith, nat_tests)

unescaped-plain : (b : ℕ) (s : List ℕ) → (b == 92) ≡ false → unescaped (b ∷ s) ≡ b ∷ unescaped s
unescaped-plain b [] e = refl
unescaped-plain b (c ∷ []) e = refl
unescaped-plain b (c ∷ d ∷ s) e = ap (λ t. if t then (16 * digit_value c + digit_value d) ∷ unescaped s else b ∷ unescaped (c ∷ d ∷ s)) e

two_digits : (b : ℕ) → b < 256 → 16 * digit_value (hexadecimal_digit (b / 16)) + digit_value (hexadecimal_digit (b % 16)) ≡ b
two_digits b h =
    let high : digit_value (hexadecimal_digit (b / 16)) ≡ b / 16 = digit_value-of_digit (b / 16) (omega arith) in
    let low : digit_value (hexadecimal_digit (b % 16)) ≡ b % 16 = digit_value-of_digit (b % 16) (omega arith) in
    omega arith

unescaped-byte : (b : ℕ) (s : List ℕ) → b < 256 → unescaped (byte_text b ++ s) ≡ b ∷ unescaped s
unescaped-byte b s h = by (is_plain b) refl
  where
    by : (p : Bool) → is_plain b ≡ p → unescaped ((if p then b ∷ [] else 92 ∷ hexadecimal_digit (b / 16) ∷ hexadecimal_digit (b % 16) ∷ []) ++ s) ≡ b ∷ unescaped s
    by true e = unescaped-plain b s (plain_byte b e)
    by false e = ap (λ n. n ∷ unescaped s) (two_digits b h)

unescaped-bytes : (name : List ℕ) → AreBytes name → unescaped (flat_map byte_text name) ≡ name
unescaped-bytes [] good = refl
unescaped-bytes (b ∷ name) good =
    unescaped-byte b (flat_map byte_text name) (All-head (λ n. n < 256) b name good) ∙ ap (λ s. b ∷ s) (unescaped-bytes name (All-tail (λ n. n < 256) b name good))

-- a byte's text, by whether it is plain
abbrev text_if : Bool → ℕ → List ℕ
text_if p n = if p then n ∷ [] else 92 ∷ hexadecimal_digit (n / 16) ∷ hexadecimal_digit (n % 16) ∷ []

-- a text of two bytes and more
meant-long_if : (p q : Bool) (a b : ℕ) (s : List ℕ) → meant (text_if p a ++ (text_if q b ++ s)) ≡ unescaped (text_if p a ++ (text_if q b ++ s))
meant-long_if true true a b s = refl
meant-long_if true false a b s = refl
meant-long_if false q a b s = refl

meant-long : (a b : ℕ) (s : List ℕ) → meant (byte_text a ++ (byte_text b ++ s)) ≡ unescaped (byte_text a ++ (byte_text b ++ s))
meant-long a b s = meant-long_if (is_plain a) (is_plain b) a b s

-- a text of one byte's name
meant-one : (b : ℕ) → b < 256 → (b == 45) ≡ false → meant (byte_text b) ≡ b ∷ []
meant-one b h other = by (is_plain b) refl
  where
    by : (p : Bool) → is_plain b ≡ p → meant (if p then b ∷ [] else 92 ∷ hexadecimal_digit (b / 16) ∷ hexadecimal_digit (b % 16) ∷ []) ≡ b ∷ []
    by true e = ap (λ t. if t then [] else b ∷ []) other
    by false e = ap (λ n. n ∷ []) (two_digits b h)

pub meant-name : (name : List ℕ) → AreBytes name → meant (name_text name) ≡ name
meant-name [] good = refl
meant-name (b ∷ []) good = by (b == 45) refl
  where
    by : (t : Bool) → (b == 45) ≡ t → meant (if t then 92 ∷ codes "2d" else byte_text b) ≡ b ∷ []
    by true e = let is : b ≡ 45 = grind (arith, nat_tests) in ap (λ n. n ∷ []) (sym is)
    by false e = meant-one b (All-head (λ n. n < 256) b [] good) e
meant-name (a ∷ b ∷ name) good = meant-long a b (flat_map byte_text name) ∙ unescaped-bytes (a ∷ b ∷ name) good

-- what was printed is the text of the name
pub printed_text : (printed before after given name : List ℕ) → printed ≡ after → after ≡ before ++ name_text given → before ≡ [] → given ≡ name → printed ≡ name_text name
printed_text printed before after given name shown is none same = shown ∙ (is ∙ (ap (λ s. s ++ name_text given) none ∙ ap name_text same))

-- a text that is not that of what it means is no name's
pub no_name : (text name printed : List ℕ) (eq : Bool) → name ≡ meant text → printed ≡ name_text name → eq ≡ bytes_eq printed text → eq ≡ false → IsNoText AreBytes name_text text
no_name text name printed eq means is test unlike other good same =
    let named : other ≡ name = sym (meant-name other good) ∙ (ap meant same ∙ sym means) in
    let texts : printed ≡ text = is ∙ (ap name_text (sym named) ∙ same) in
    let like = (bytes_eq-Decides printed text).1 texts in
    cc

-- a text that is that of what it means
pub is_text : (text name given printed : List ℕ) (eq : Bool) → given ≡ name → printed ≡ name_text name → eq ≡ bytes_eq printed text → eq ≡ true → name_text given ≡ text
is_text text name given printed eq same is test like = ap name_text same ∙ (sym is ∙ (bytes_eq-Decides printed text).0 (sym test ∙ like))

-- two names have two texts
pub one_name : (a b : List ℕ) → AreBytes a → AreBytes b → name_text a ≡ name_text b → a ≡ b
one_name a b good good' same = sym (meant-name a good) ∙ (ap meant same ∙ meant-name b good')
