-- How labels compare: by their kinds, and then by the texts of their numbers.
use Rattle.std.proofs.Common.{◌≡◌, ℕ, ◌<◌, ◌^◌, Bool, true, false, cond, List, [], ◌∷◌, ◌++◌, inl, inr, refl, sym, ap, subst, ◌∙◌, arith, nat_eq, ℤ, pos, negsuc, FitsSigned, w32}
use Rattle.std.specs.Fmt.{signed_decimal}
use Rattle.std.specs.Ordering.{nat_cmp, ordering_then}
use Rattle.std.specs.Cmp.Lexicographic.{slice_cmp}
use Rattle.std.specs.declared.cmp.Ordering.{Ordering}
use Rattle.std.specs.declared.cmp.Ordering.TheVariants.{Less, Equal, Greater}
use Rattle.std.proofs.lemmas.Cmp.{nat_list_cmp_total, tied_itself}
use Rattle.std.proofs.lemmas.Fmt.{signed_decimal_injective}
use Rattle.rt_lines.specs.Words.{IsLabel}
use Rattle.rt_lines.specs.declared.label.Loc.TheVariants.{Arg, Stack}
use Rattle.rt_lines.specs.declared.label.Label.{Label}
use Rattle.rt_lines.specs.declared.label.Label.TheVariants.{In, Out, Load, Store, Field}
use Rattle.rt_texts.specs.Texts.{label_text}
use Rattle.rt_texts.proofs.LabelTexts.{field_front-8, field_front-16, field_front-32}
use Rattle.rt_tree.specs.Labels.{label_cmp}
use Rattle.rt_tree.specs.Kinds.{Kind, OfArgument, OfStack, OfLoad, OfResult, OfHalf, OfWord, OfByte, OfStore, rank_of_kind, front_of, has_number, kind_of, rank_of, number_of}
use lib.Signed.{mag}
use Rattle.rt_base.proofs.Numbers.{nat_cmp-equal, then-equal}

-- the text of the number, where there is one
abbrev pub digits_of : Label → List ℕ
digits_of l = cond (has_number (kind_of l)) (signed_decimal (number_of l)) []

-- fronts tell the kinds apart
fronts : (j k : Kind) (xs ys : List ℕ) → slice_cmp nat_cmp (front_of j ++ xs) (front_of k ++ ys) ≡ ordering_then (nat_cmp (rank_of_kind j) (rank_of_kind k)) (slice_cmp nat_cmp xs ys)
fronts OfArgument OfArgument xs ys = refl
fronts OfArgument OfStack xs ys = refl
fronts OfArgument OfLoad xs ys = refl
fronts OfArgument OfResult xs ys = refl
fronts OfArgument OfHalf xs ys = refl
fronts OfArgument OfWord xs ys = refl
fronts OfArgument OfByte xs ys = refl
fronts OfArgument OfStore xs ys = refl
fronts OfStack OfArgument xs ys = refl
fronts OfStack OfStack xs ys = refl
fronts OfStack OfLoad xs ys = refl
fronts OfStack OfResult xs ys = refl
fronts OfStack OfHalf xs ys = refl
fronts OfStack OfWord xs ys = refl
fronts OfStack OfByte xs ys = refl
fronts OfStack OfStore xs ys = refl
fronts OfLoad OfArgument xs ys = refl
fronts OfLoad OfStack xs ys = refl
fronts OfLoad OfLoad xs ys = refl
fronts OfLoad OfResult xs ys = refl
fronts OfLoad OfHalf xs ys = refl
fronts OfLoad OfWord xs ys = refl
fronts OfLoad OfByte xs ys = refl
fronts OfLoad OfStore xs ys = refl
fronts OfResult OfArgument xs ys = refl
fronts OfResult OfStack xs ys = refl
fronts OfResult OfLoad xs ys = refl
fronts OfResult OfResult xs ys = refl
fronts OfResult OfHalf xs ys = refl
fronts OfResult OfWord xs ys = refl
fronts OfResult OfByte xs ys = refl
fronts OfResult OfStore xs ys = refl
fronts OfHalf OfArgument xs ys = refl
fronts OfHalf OfStack xs ys = refl
fronts OfHalf OfLoad xs ys = refl
fronts OfHalf OfResult xs ys = refl
fronts OfHalf OfHalf xs ys = refl
fronts OfHalf OfWord xs ys = refl
fronts OfHalf OfByte xs ys = refl
fronts OfHalf OfStore xs ys = refl
fronts OfWord OfArgument xs ys = refl
fronts OfWord OfStack xs ys = refl
fronts OfWord OfLoad xs ys = refl
fronts OfWord OfResult xs ys = refl
fronts OfWord OfHalf xs ys = refl
fronts OfWord OfWord xs ys = refl
fronts OfWord OfByte xs ys = refl
fronts OfWord OfStore xs ys = refl
fronts OfByte OfArgument xs ys = refl
fronts OfByte OfStack xs ys = refl
fronts OfByte OfLoad xs ys = refl
fronts OfByte OfResult xs ys = refl
fronts OfByte OfHalf xs ys = refl
fronts OfByte OfWord xs ys = refl
fronts OfByte OfByte xs ys = refl
fronts OfByte OfStore xs ys = refl
fronts OfStore OfArgument xs ys = refl
fronts OfStore OfStack xs ys = refl
fronts OfStore OfLoad xs ys = refl
fronts OfStore OfResult xs ys = refl
fronts OfStore OfHalf xs ys = refl
fronts OfStore OfWord xs ys = refl
fronts OfStore OfByte xs ys = refl
fronts OfStore OfStore xs ys = refl

-- its text is its front and its number
abbrev HasText : Label → Type 0
HasText l = label_text l ≡ front_of (kind_of l) ++ digits_of l

has_text : (l : Label) → IsLabel l → label_text l ≡ front_of (kind_of l) ++ digits_of l
has_text (In (Arg n)) h = refl
has_text (In (Stack k)) h = refl
has_text (Out n) h = refl
has_text Load h = refl
has_text Store h = refl
has_text (Field w k) (inl e, h) = subst (λ v. HasText (Field v k)) (sym e) (ap (λ f. f ++ signed_decimal k) field_front-8)
has_text (Field w k) (inr (inl e), h) = subst (λ v. HasText (Field v k)) (sym e) (ap (λ f. f ++ signed_decimal k) field_front-16)
has_text (Field w k) (inr (inr e), h) = subst (λ v. HasText (Field v k)) (sym e) (ap (λ f. f ++ signed_decimal k) field_front-32)

kind_at : ℕ → Kind
kind_at n = cond (nat_eq n 0) OfArgument (cond (nat_eq n 1) OfStack (cond (nat_eq n 2) OfLoad (cond (nat_eq n 3) OfResult (cond (nat_eq n 4) OfHalf (cond (nat_eq n 5) OfWord (cond (nat_eq n 6) OfByte OfStore))))))

kind_by_rank : (k : Kind) → kind_at (rank_of_kind k) ≡ k
unfolding kind_at
kind_by_rank OfArgument = refl
kind_by_rank OfStack = refl
kind_by_rank OfLoad = refl
kind_by_rank OfResult = refl
kind_by_rank OfHalf = refl
kind_by_rank OfWord = refl
kind_by_rank OfByte = refl
kind_by_rank OfStore = refl

one_kind : (j k : Kind) → nat_cmp (rank_of_kind j) (rank_of_kind k) ≡ Equal → j ≡ k
one_kind j k e = sym (kind_by_rank j) ∙ (ap kind_at (nat_cmp-equal (rank_of_kind j) (rank_of_kind k) e) ∙ kind_by_rank k)

a_field_has : (a b : Bool) → has_number (cond a OfHalf (cond b OfWord OfByte)) ≡ false → ⊥
a_field_has true b e = cc
a_field_has false true e = cc
a_field_has false false e = cc

no_number : (l : Label) → has_number (kind_of l) ≡ false → number_of l ≡ pos 0
no_number (In (Arg n)) h = cc
no_number (In (Stack k)) h = cc
no_number (Out n) h = cc
no_number Load h = refl
no_number Store h = refl
no_number (Field w k) h = absurd (a_field_has (nat_eq w 16) (nat_eq w 32) h)

then_same : (o p q : Ordering) → (o ≡ Equal → p ≡ q) → ordering_then o p ≡ ordering_then o q
then_same Less p q f = refl
then_same Equal p q f = f refl
then_same Greater p q f = refl

numbers_alike : (b c : Bool) (y z : ℤ) → b ≡ c → (b ≡ false → y ≡ pos 0) → (c ≡ false → z ≡ pos 0) → slice_cmp nat_cmp (cond b (signed_decimal y) []) (cond c (signed_decimal z) []) ≡ slice_cmp nat_cmp (signed_decimal y) (signed_decimal z)
numbers_alike true true y z e f g = refl
numbers_alike true false y z e f g = cc
numbers_alike false true y z e f g = cc
numbers_alike false false y z e f g =
    sym (ap (λ x. slice_cmp nat_cmp (signed_decimal x) (signed_decimal z)) (f refl)
    ∙ (ap (λ x. slice_cmp nat_cmp (signed_decimal (pos 0)) (signed_decimal x)) (g refl) ∙ tied_itself nat_list_cmp_total (signed_decimal (pos 0))))

-- two labels compare as their kinds do, and then as the texts of their numbers
pub compared : (k l : Label) → IsLabel k → IsLabel l → label_cmp k l ≡ ordering_then (nat_cmp (rank_of k) (rank_of l)) (slice_cmp nat_cmp (signed_decimal (number_of k)) (signed_decimal (number_of l)))
compared k l good good' =
    ap (λ t. slice_cmp nat_cmp t (label_text l)) (has_text k good)
    ∙ (ap (λ t. slice_cmp nat_cmp (front_of (kind_of k) ++ digits_of k) t) (has_text l good')
    ∙ (fronts (kind_of k) (kind_of l) (digits_of k) (digits_of l)
    ∙ then_same (nat_cmp (rank_of k) (rank_of l)) (slice_cmp nat_cmp (digits_of k) (digits_of l)) (slice_cmp nat_cmp (signed_decimal (number_of k)) (signed_decimal (number_of l)))
    (λ e. numbers_alike (has_number (kind_of k)) (has_number (kind_of l)) (number_of k) (number_of l) (ap has_number (one_kind (kind_of k) (kind_of l) e)) (no_number k) (no_number l))))

label_from : Kind → ℤ → Label
label_from OfArgument z = In (Arg (mag z))
label_from OfStack z = In (Stack (mag z))
label_from OfLoad z = Load
label_from OfResult z = Out (mag z)
label_from OfHalf z = Field 16 z
label_from OfWord z = Field 32 z
label_from OfByte z = Field 8 z
label_from OfStore z = Store

label_by : (l : Label) → IsLabel l → label_from (kind_of l) (number_of l) ≡ l
unfolding label_from
label_by (In (Arg n)) h = refl
label_by (In (Stack k)) h = refl
label_by (Out n) h = refl
label_by Load h = refl
label_by Store h = refl
label_by (Field w k) (inl e, h) = subst (λ v. label_from (kind_of (Field v k)) k ≡ Field v k) (sym e) refl
label_by (Field w k) (inr (inl e), h) = subst (λ v. label_from (kind_of (Field v k)) k ≡ Field v k) (sym e) refl
label_by (Field w k) (inr (inr e), h) = subst (λ v. label_from (kind_of (Field v k)) k ≡ Field v k) (sym e) refl

small_offset : (z : ℤ) → FitsSigned w32 z → mag z < 2 ^ 63
small_offset (pos n) h = omega arith
small_offset (negsuc n) h = omega arith

small_number : (l : Label) → IsLabel l → mag (number_of l) < 2 ^ 63
small_number (In (Arg n)) h = omega arith
small_number (In (Stack k)) h = let le = h.1 in omega arith
small_number (Out n) h = omega arith
small_number Load h = omega arith
small_number Store h = omega arith
small_number (Field w k) h = small_offset k h.1

pub number_fits : (l : Label) → IsLabel l → FitsSigned w32 (number_of l)
number_fits (In (Arg n)) h = omega arith
number_fits (In (Stack k)) h = let le = h.1 in omega arith
number_fits (Out n) h = omega arith
number_fits Load h = omega arith
number_fits Store h = omega arith
number_fits (Field w k) h = h.1

-- labels of one kind with one number are equal
pub label_by_parts : (k l : Label) → IsLabel k → IsLabel l → rank_of k ≡ rank_of l → number_of k ≡ number_of l → k ≡ l
label_by_parts k l good good' ranks numbers =
    let kinds : kind_of k ≡ kind_of l = sym (kind_by_rank (kind_of k)) ∙ (ap kind_at ranks ∙ kind_by_rank (kind_of l)) in
    sym (label_by k good) ∙ (ap (λ kind. label_from kind (number_of k)) kinds ∙ (ap (label_from (kind_of l)) numbers ∙ label_by l good'))

-- lists that compare as equal are equal
one_list : (xs ys : List ℕ) → slice_cmp nat_cmp xs ys ≡ Equal → xs ≡ ys
one_list [] [] e = refl
one_list [] (y ∷ ys) e = cc
one_list (x ∷ xs) [] e = cc
one_list (x ∷ xs) (y ∷ ys) e =
    let parts = then-equal (nat_cmp x y) (slice_cmp nat_cmp xs ys) e in
    let heads : x ≡ y = nat_cmp-equal x y parts.0 in
    let tails : xs ≡ ys = one_list xs ys parts.1 in
    rw (heads, tails) refl

-- labels that compare as equal are equal
pub one_label : (k l : Label) → IsLabel k → IsLabel l → label_cmp k l ≡ Equal → k ≡ l
one_label k l good good' e =
    let parts = then-equal (nat_cmp (rank_of k) (rank_of l)) (slice_cmp nat_cmp (signed_decimal (number_of k)) (signed_decimal (number_of l))) (sym (compared k l good good') ∙ e) in
    let kinds : kind_of k ≡ kind_of l = one_kind (kind_of k) (kind_of l) parts.0 in
    let texts : signed_decimal (number_of k) ≡ signed_decimal (number_of l) = one_list (signed_decimal (number_of k)) (signed_decimal (number_of l)) parts.1 in
    let numbers : number_of k ≡ number_of l = signed_decimal_injective (number_of k) (number_of l) (small_number k good) (small_number l good') texts in
    sym (label_by k good) ∙ (ap (λ kind. label_from kind (number_of k)) kinds ∙ (ap (label_from (kind_of l)) numbers ∙ label_by l good'))

differ : Less ≡ Equal → ⊥
differ e = cc

-- no label is less than itself
pub not_less_itself : (l : Label) → label_cmp l l ≡ Less → ⊥
not_less_itself l e = differ (sym e ∙ tied_itself nat_list_cmp_total (label_text l))
