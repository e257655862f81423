-- Bytes that do not stand in lines of headers: line ends anywhere, spaces in scalars' names; and where numbers end.
use Rattle.std.proofs.Common.{take, get_or, add-one, ◌∙◌, ◌≡◌, ℕ, ◌+◌, ◌<◌, ◌≤◌, ◌%◌, ◌*◌, ◌-◌, List, [], ◌∷◌, ◌++◌, Bool, true, false, ◌&&◌, nat_lt, if◌then◌else◌, refl, sym, subst, inl, inr, arith, codes, decimal, All, length}
use Rattle.std.proofs.Math.Seq.{take-suc}
use Rattle.std.proofs.lemmas.Bool.{ltb-true, and_parts}
use Rattle.std.proofs.lemmas.Bool.Decides.{nat_tests}
use Rattle.std.proofs.lemmas.Fmt.{decimal_by_steps, decimal_injective}
use Rattle.std.proofs.lemmas.List.Elements.{All-head, All-tail}
use Rattle.rt_lines.specs.Names.{IsNameByte, IsName}
use Rattle.rt_lines.specs.declared.label.Loc.{Loc}
use Rattle.rt_lines.specs.declared.label.Loc.TheVariants.{Arg, Stack}
use Rattle.rt_texts.specs.Goods.{IsNumber}
use Rattle.rt_texts.specs.Readings.{HasNo}
use Rattle.rt_cdecl.specs.declared.declarations.CType.{CType}
use Rattle.rt_cdecl.specs.declared.declarations.CType.TheVariants.{Unused, Scalar, Pointer}
use Rattle.rt_cdecl.specs.Types.{IsType, IsWidth, IsTypedef}
use Rattle.rt_cdecl.specs.Rows.{Row, Typedef, Named, Opened, Gap, Member, Closed, Pair, Half, Stated, Returns, Nothing, Value, Both, carrier_text, scalar_text, typedef_text, type_text, loc_text, arg_text, more_args_text, args_text, returns_text, row_text}
use Rattle.rt_cdecl.specs.GoodDecls.{IsArgument, ArePlaced, place_of}
use Rattle.rt_cdecl.specs.Inside.GoodRows.{IsReturned, IsRow}
use Rattle.rt_texts.proofs.Clear.{AreAbove, AreAbove-append, AreAbove-less, HasNo-above}
use Rattle.rt_cdecl.specs.Inside.Guesses.{AreDigits, is_other, StopsDigits, AreFirstDigits}

-- digits
AreDigits-append : (a b : List ℕ) → AreDigits a → AreDigits b → AreDigits (a ++ b)
AreDigits-append [] b h k = k
AreDigits-append (x ∷ a) b (h, l, hs) k = (h, l, AreDigits-append a b hs k)

pub AreDigits-decimal : (n : ℕ) → IsNumber n → AreDigits (decimal n)
AreDigits-decimal n h =
    decimal_by_steps (λ n ds. AreDigits ds)
    (λ n small. (omega arith, omega arith, tt))
    (λ n ds big are. AreDigits-append ds ((48 + n % 10) ∷ []) are (omega arith, omega arith, tt))
    n (omega arith)

AreAbove-digits : (ds : List ℕ) → AreDigits ds → AreAbove 47 ds
AreAbove-digits [] h = tt
AreAbove-digits (x ∷ ds) (h, l, hs) = (h, AreAbove-digits ds hs)

no_digit : (b c : ℕ) → is_other b ≡ true → b ≡ c → 47 < c → c < 58 → ⊥
no_digit b c other same low high = grind (arith, nat_tests)

one_digits : (ds es a b : List ℕ) → AreDigits ds → AreDigits es → StopsDigits a → StopsDigits b → ds ++ a ≡ es ++ b → (ds ≡ es) × (a ≡ b)
one_digits [] [] a b g h s t same = (refl, same)
one_digits [] (e ∷ es) [] b g h s t same = cc
one_digits [] (e ∷ es) (x ∷ a) b g (low, high, h) s t same = let here : x ≡ e = cc in absurd (no_digit x e s here low high)
one_digits (d ∷ ds) [] a [] g h s t same = cc
one_digits (d ∷ ds) [] a (x ∷ b) (low, high, g) h s t same = let here : x ≡ d = cc in absurd (no_digit x d t here low high)
one_digits (d ∷ ds) (e ∷ es) a b (dl, dh, g) (el, eh, h) s t same =
    let heads : d ≡ e = cc in
    let tails : ds ++ a ≡ es ++ b = cc in
    let rest = one_digits ds es a b g h s t tails in
    (cc (heads, rest.0), rest.1)

-- a number and what follows it are read in one way
pub one_number : (n m : ℕ) (a b : List ℕ) → IsNumber n → IsNumber m → StopsDigits a → StopsDigits b → decimal n ++ a ≡ decimal m ++ b → (n ≡ m) × (a ≡ b)
one_number n m a b g h s t same =
    let parts = one_digits (decimal n) (decimal m) a b (AreDigits-decimal n g) (AreDigits-decimal m h) s t same in
    (decimal_injective n m (omega arith) (omega arith) parts.0, parts.1)

-- such a number is that of the first digits
pub first_number : (n : ℕ) (rest text digits more : List ℕ) → IsNumber n → StopsDigits rest → decimal n ++ rest ≡ text → AreFirstDigits text digits more → (decimal n ≡ digits) × (rest ≡ more)
first_number n rest text digits more small stops same first = one_digits (decimal n) digits rest more (AreDigits-decimal n small) first.are stops first.stops (same ∙ first.joined)

pub number_is : (n m : ℕ) (rest text digits more : List ℕ) → IsNumber n → StopsDigits rest → decimal n ++ rest ≡ text → AreFirstDigits text digits more → IsNumber m × (decimal m ≡ digits) → (m ≡ n) × (more ≡ rest)
number_is n m rest text digits more small stops same first (less, is) =
    let parts = first_number n rest text digits more small stops same first in
    (decimal_injective m n (omega arith) (omega arith) (is ∙ sym parts.0), sym parts.1)

-- what follows the first digits
pub after_is : (ds rest text digits more : List ℕ) → AreDigits ds → StopsDigits rest → ds ++ rest ≡ text → AreFirstDigits text digits more → more ≡ rest
after_is ds rest text digits more are stops same first = sym (one_digits ds digits rest more are first.are stops first.stops (same ∙ first.joined)).1

-- the first digits, and one more
pub AreDigits-take_more : (text : List ℕ) (k d : ℕ) → k < length text → 48 ≤ get_or text k d → get_or text k d ≤ 57 → AreDigits (take k text) → AreDigits (take (k + 1) text)
AreDigits-take_more text k d h low high are = rw (add-one k, take-suc text k d h) (AreDigits-append (take k text) (get_or text k d ∷ []) are (omega arith, omega arith, tt))

-- numbers and fixed texts have no line end
AreAbove-decimal : (n : ℕ) → IsNumber n → AreAbove 47 (decimal n)
AreAbove-decimal n h = AreAbove-digits (decimal n) (AreDigits-decimal n h)

AreAbove-number : (n : ℕ) → IsNumber n → AreAbove 31 (decimal n)
AreAbove-number n h = AreAbove-less 47 31 (decimal n) (omega arith) (AreAbove-decimal n h)

abbrev pub are_above : ℕ → List ℕ → Bool
are_above low [] = true
are_above low (x ∷ xs) = nat_lt low x && are_above low xs

pub AreAbove-fixed : (low : ℕ) (front : List ℕ) → are_above low front ≡ true → AreAbove low front
AreAbove-fixed low [] h = tt
AreAbove-fixed low (x ∷ xs) h =
    let parts = and_parts (nat_lt low x) (are_above low xs) h in
    (ltb-true low x parts.0, AreAbove-fixed low xs parts.1)

-- a fixed text, and what follows it
begun : (front rest : List ℕ) → are_above 31 front ≡ true → AreAbove 31 rest → AreAbove 31 (front ++ rest)
begun front rest h good = AreAbove-append 31 front rest (AreAbove-fixed 31 front h) good

-- a fixed text, a number, and what follows it
numbered : (front : List ℕ) (n : ℕ) (rest : List ℕ) → are_above 31 front ≡ true → IsNumber n → AreAbove 31 rest → AreAbove 31 (front ++ (decimal n ++ rest))
numbered front n rest h small good = begun front (decimal n ++ rest) h (AreAbove-append 31 (decimal n) rest (AreAbove-number n small) good)

-- scalars have no space
AreAbove-name : (name : List ℕ) → All IsNameByte name → AreAbove 47 name
AreAbove-name [] good = tt
AreAbove-name (b ∷ bs) good =
    let here : IsNameByte b = All-head IsNameByte b bs good in
    (elim here [ inl h ↦ omega arith | inr r ↦ elim r [ inl h ↦ omega arith | inr h ↦ omega arith ] ], AreAbove-name bs (All-tail IsNameByte b bs good))

width_small : (bits : ℕ) → IsWidth bits → IsNumber bits
width_small bits (inl e) = omega arith
width_small bits (inr (inl e)) = omega arith
width_small bits (inr (inr e)) = omega arith

pub AreAbove-scalar : (name : List ℕ) (bits : ℕ) → IsName name → IsWidth bits → AreAbove 47 (scalar_text name bits)
AreAbove-scalar name bits named wide =
    AreAbove-append 47 (codes "rt_") (name ++ (codes "_" ++ decimal bits)) (AreAbove-fixed 47 (codes "rt_") refl)
    (AreAbove-append 47 name (codes "_" ++ decimal bits) (AreAbove-name name named.rest)
    (AreAbove-append 47 (codes "_") (decimal bits) (AreAbove-fixed 47 (codes "_") refl) (AreAbove-decimal bits (width_small bits wide))))

scalar_visible : (name : List ℕ) (bits : ℕ) → IsName name → IsWidth bits → AreAbove 31 (scalar_text name bits)
scalar_visible name bits named wide = AreAbove-less 47 31 (scalar_text name bits) (omega arith) (AreAbove-scalar name bits named wide)

AreAbove-carrier : (bits : ℕ) → IsWidth bits → AreAbove 31 (carrier_text bits)
AreAbove-carrier bits (inl e) = subst (λ b. AreAbove 31 (carrier_text b)) (sym e) (AreAbove-fixed 31 (codes "char") refl)
AreAbove-carrier bits (inr (inl e)) = subst (λ b. AreAbove 31 (carrier_text b)) (sym e) (AreAbove-fixed 31 (codes "short") refl)
AreAbove-carrier bits (inr (inr e)) = subst (λ b. AreAbove 31 (carrier_text b)) (sym e) (AreAbove-fixed 31 (codes "int") refl)

AreAbove-type : (t : CType) → IsType t → AreAbove 31 (type_text t)
AreAbove-type Unused good = AreAbove-fixed 31 (codes "rt_unused ") refl
AreAbove-type (Scalar name bits) good = AreAbove-append 31 (scalar_text name bits) (codes " ") (scalar_visible name bits good.0 good.1) (AreAbove-fixed 31 (codes " ") refl)
AreAbove-type (Pointer n) good = numbered (codes "struct s") n (codes " *") refl good (AreAbove-fixed 31 (codes " *") refl)

AreAbove-typedef : (t : CType) → IsTypedef t → AreAbove 31 (typedef_text t)
AreAbove-typedef Unused good = AreAbove-fixed 31 (codes "typedef unsigned int rt_unused;") refl
AreAbove-typedef (Scalar name bits) good =
    begun (codes "typedef unsigned ") (carrier_text bits ++ (codes " " ++ (scalar_text name bits ++ codes ";"))) refl
    (AreAbove-append 31 (carrier_text bits) (codes " " ++ (scalar_text name bits ++ codes ";")) (AreAbove-carrier bits good.1)
    (begun (codes " ") (scalar_text name bits ++ codes ";") refl
    (AreAbove-append 31 (scalar_text name bits) (codes ";") (scalar_visible name bits good.0 good.1) (AreAbove-fixed 31 (codes ";") refl))))
AreAbove-typedef (Pointer n) good = tt

-- arguments have no line end
AreAbove-place : (i : ℕ) → i ≤ 16392 → AreAbove 31 (loc_text (place_of i))
AreAbove-place i few = by (nat_lt i 8)
  where
    by : (t : Bool) → AreAbove 31 (loc_text (if t then Arg i else Stack (4 * (i - 8))))
    by true = begun (codes "a") (decimal i) refl (AreAbove-number i (omega arith))
    by false = begun (codes "k") (decimal (4 * (i - 8))) refl (AreAbove-number (4 * (i - 8)) (omega arith))

AreAbove-arg : (i : ℕ) (loc : Loc) (t : CType) → i ≤ 16392 → loc ≡ place_of i → IsType t → AreAbove 31 (arg_text (loc, t))
AreAbove-arg i loc t few placed good =
    AreAbove-append 31 (type_text t) (loc_text loc) (AreAbove-type t good) (subst (λ l. AreAbove 31 (loc_text l)) (sym placed) (AreAbove-place i few))

AreAbove-more : (i : ℕ) (args : List (Loc × CType)) → i + length args ≤ 16392 → ArePlaced i args → All IsArgument args → AreAbove 31 (more_args_text args)
AreAbove-more i [] few placed good = tt
AreAbove-more i ((loc, t) ∷ args) few placed good =
    AreAbove-append 31 (codes ", " ++ arg_text (loc, t)) (more_args_text args)
    (begun (codes ", ") (arg_text (loc, t)) refl (AreAbove-arg i loc t (omega arith) placed.0 (All-head IsArgument (loc, t) args good).0))
    (AreAbove-more (i + 1) args (omega arith) placed.1 (All-tail IsArgument (loc, t) args good))

AreAbove-args : (args : List (Loc × CType)) → length args ≤ 16392 → ArePlaced 0 args → All IsArgument args → AreAbove 31 (args_text args)
AreAbove-args [] few placed good = AreAbove-fixed 31 (codes "void") refl
AreAbove-args ((loc, t) ∷ args) few placed good =
    AreAbove-append 31 (arg_text (loc, t)) (more_args_text args)
    (AreAbove-arg 0 loc t (omega arith) placed.0 (All-head IsArgument (loc, t) args good).0)
    (AreAbove-more 1 args (omega arith) placed.1 (All-tail IsArgument (loc, t) args good))

AreAbove-returns : (n : ℕ) (returns : Returns) → IsNumber n → IsReturned returns → AreAbove 31 (returns_text n returns)
AreAbove-returns n Nothing small good = AreAbove-fixed 31 (codes "void ") refl
AreAbove-returns n (Value t) small good = AreAbove-type t good.0.0
AreAbove-returns n Both small good = numbered (codes "struct r") n (codes " ") refl small (AreAbove-fixed 31 (codes " ") refl)

-- no line end stands in a line
row_above : (row : Row) → IsRow row → AreAbove 31 (row_text row)
row_above (Typedef t) good = AreAbove-typedef t good
row_above (Named n) good = numbered (codes "struct s") n (codes ";") refl good (AreAbove-fixed 31 (codes ";") refl)
row_above (Opened n) good = numbered (codes "struct s") n (codes " {") refl good (AreAbove-fixed 31 (codes " {") refl)
row_above (Gap k n) good =
    numbered (codes "  unsigned char p") k (codes "[" ++ (decimal n ++ codes "];")) refl good.0
    (numbered (codes "[") n (codes "];") refl good.1 (AreAbove-fixed 31 (codes "];") refl))
row_above (Member field) good =
    begun (codes "  ") (type_text field.kind ++ (codes "m" ++ (decimal field.offset ++ codes ";"))) refl
    (AreAbove-append 31 (type_text field.kind) (codes "m" ++ (decimal field.offset ++ codes ";")) (AreAbove-type field.kind good.0)
    (numbered (codes "m") field.offset (codes ";") refl (omega arith) (AreAbove-fixed 31 (codes ";") refl)))
row_above Closed good = AreAbove-fixed 31 (codes "};") refl
row_above (Pair n) good = numbered (codes "struct r") n (codes " {") refl good (AreAbove-fixed 31 (codes " {") refl)
row_above (Half r t) good =
    begun (codes "  ") (type_text t ++ (codes "a" ++ (decimal r ++ codes ";"))) refl
    (AreAbove-append 31 (type_text t) (codes "a" ++ (decimal r ++ codes ";")) (AreAbove-type t good.1.0)
    (numbered (codes "a") r (codes ";") refl (omega arith) (AreAbove-fixed 31 (codes ";") refl)))
row_above (Stated returns n args) (returned, small, are) =
    AreAbove-append 31 (returns_text n returns) (codes "f" ++ (decimal n ++ (codes "(" ++ (args_text args ++ codes ");")))) (AreAbove-returns n returns small returned)
    (numbered (codes "f") n (codes "(" ++ (args_text args ++ codes ");")) refl small
    (begun (codes "(") (args_text args ++ codes ");") refl
    (AreAbove-append 31 (args_text args) (codes ");") (AreAbove-args args are.few (are.places) are.types) (AreAbove-fixed 31 (codes ");") refl))))

pub row_clear : (row : Row) → IsRow row → HasNo 10 (row_text row)
row_clear row good = HasNo-above 10 31 (row_text row) (omega arith) (row_above row good)
