-- Numbers in decimal, read.
use Rattle.std.proofs.Common.{◌≡◌, ℕ, ◌<◌, ◌^◌, List, Result, Ok, subst, arith, decimal, ℤ, pos, negsuc, FitsSigned, w32, to_z, of_z, false, Err}
use Rattle.std.specs.Fmt.{signed_decimal}
use Rattle.std.specs.Str.{IsUtf8, bytes_eq}
use Rattle.std.proofs.lemmas.Int.{to_z-of_z}
use Rattle.std.proofs.lemmas.Slice.Eq.{bytes_eq-Decides}
use Rattle.std.specs.Str.Parse.{ParsesUnsigned, ParsesSigned}
use Rattle.std.proofs.lemmas.Str.{IsUtf8-from_ascii}
use Rattle.std.proofs.lemmas.Fmt.{IsAscii-decimal, IsAscii-signed, parse-decimal, parse-signed_decimal}
use Rattle.rt_texts.specs.Goods.{IsNumber}
use lib.Signed.{mag}

number_small : (n : ℕ) → IsNumber n → n < 2 ^ 64
number_small n h = omega arith

pub signed_small : (z : ℤ) → FitsSigned w32 z → mag z < 2 ^ 63
signed_small (pos n) h = omega arith
signed_small (negsuc n) h = omega arith

pub IsUtf8-number : (n : ℕ) (text : List ℕ) → IsNumber n → decimal n ≡ text → IsUtf8 text
IsUtf8-number n text h e = subst IsUtf8 e (IsUtf8-from_ascii (decimal n) (IsAscii-decimal n (number_small n h)))

pub IsUtf8-signed : (z : ℤ) (text : List ℕ) → FitsSigned w32 z → signed_decimal z ≡ text → IsUtf8 text
IsUtf8-signed z text h e = subst IsUtf8 e (IsUtf8-from_ascii (signed_decimal z) (IsAscii-signed z (signed_small z h)))

-- what std's parser makes of a number's text
parses_number : {E : Type 0} (n : ℕ) (text digits : List ℕ) (r : Result ℕ E) → IsNumber n → decimal n ≡ text → digits ≡ text → ParsesUnsigned 32 10 digits r → r ≡ Ok n
parses_number n text digits r h e f parses = parse-decimal 32 n digits r h (number_small n h) (cc) parses

parses_signed : {E : Type 0} (z : ℤ) (text digits : List ℕ) (r : Result ℤ E) → FitsSigned w32 z → signed_decimal z ≡ text → digits ≡ text → ParsesSigned w32 10 digits r → r ≡ Ok z
parses_signed z text digits r h e f parses = parse-signed_decimal w32 z digits r h (signed_small z h) (cc) parses

-- a text that std's parser refuses is that of no number
pub refused_number : {E : Type 0} (n : ℕ) (text digits : List ℕ) (r : Result ℕ E) (fault : E) → IsNumber n → decimal n ≡ text → digits ≡ text → ParsesUnsigned 32 10 digits r → r ≡ Err fault → ⊥
refused_number n text digits r fault h e f parses is = let p = parses_number n text digits r h e f parses in cc

pub refused_signed : {E : Type 0} (z : ℤ) (text digits : List ℕ) (r : Result ℤ E) (fault : E) → FitsSigned w32 z → signed_decimal z ≡ text → digits ≡ text → ParsesSigned w32 10 digits r → r ≡ Err fault → ⊥
refused_signed z text digits r fault h e f parses is = let p = parses_signed z text digits r h e f parses in cc

-- a text that the number parsed of it does not print is that of no number
pub reprinted_number : {E : Type 0} (n m : ℕ) (text digits printed : List ℕ) (r : Result ℕ E) → IsNumber n → decimal n ≡ text → digits ≡ text → ParsesUnsigned 32 10 digits r → r ≡ Ok m → printed ≡ decimal m → bytes_eq printed text ≡ false → ⊥
reprinted_number n m text digits printed r h e f parses is same unlike =
    let p = parses_number n text digits r h e f parses in
    let number : n ≡ m = cc in
    let texts : printed ≡ text = rw (same, ← number) e in
    let like = (bytes_eq-Decides printed text).1 texts in
    cc

pub reprinted_signed : {E : Type 0} (z m : ℤ) (text digits printed : List ℕ) (r : Result ℤ E) → FitsSigned w32 z → signed_decimal z ≡ text → digits ≡ text → ParsesSigned w32 10 digits r → r ≡ Ok m → printed ≡ signed_decimal (to_z w32 (of_z w32 m)) → bytes_eq printed text ≡ false → ⊥
reprinted_signed z m text digits printed r h e f parses is same unlike =
    let p = parses_signed z text digits r h e f parses in
    let number : z ≡ m = cc in
    let kept : to_z w32 (of_z w32 z) ≡ z = to_z-of_z w32 z h in
    let texts : printed ≡ text = rw (same, ← number, kept) e in
    let like = (bytes_eq-Decides printed text).1 texts in
    cc
