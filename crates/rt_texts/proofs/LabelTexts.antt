-- Texts of labels, read.
use Rattle.std.proofs.Common.{◌≡◌, ℕ, ◌<◌, ◌≤◌, ◌^◌, ◌%◌, List, [], ◌∷◌, ◌++◌, ◌⊎◌, inl, inr, ap, sym, ◌∙◌, arith, codes, decimal, ℤ, FitsSigned, w32, to_z, of_z, lit<, lit≤}
use Rattle.std.specs.Fmt.{signed_decimal}
use Rattle.std.proofs.lemmas.Fmt.{decimal_digit, decimal_step, decimal_injective}
use Rattle.std.proofs.lemmas.Int.{to_z-of_z}
use Rattle.std.proofs.lemmas.List.{append_cancel_left}
use Rattle.rt_lines.specs.declared.label.Loc.TheVariants.{Arg, Stack}
use Rattle.rt_lines.specs.declared.label.Label.{Label}
use Rattle.rt_lines.specs.declared.label.Label.TheVariants.{In, Out, Load, Store, Field}
use Rattle.rt_texts.specs.Goods.{IsNumber, IsArg, IsStack, IsOut, IsField}
use Rattle.rt_texts.specs.Texts.{field_front, label_text}
use Rattle.rt_texts.specs.Readings.{IsNoText}

-- one front, one text: one number
pub same_number : (front : List ℕ) (n m : ℕ) → n < 2 ^ 64 → m < 2 ^ 64 → front ++ decimal n ≡ front ++ decimal m → n ≡ m
same_number front n m hn hm e = decimal_injective n m hn hm (append_cancel_left front (decimal n) (decimal m) e)

pub arg_unlike : (m : ℕ) (text : List ℕ) → IsNumber m → codes "in_a" ++ decimal m ≡ text → 7 < m → (l : Label) → IsArg l → label_text l ≡ text → ⊥
arg_unlike m text h e big (In (Arg n)) good same =
    let number : n ≡ m = same_number (codes "in_a") n m (omega arith) (omega arith) (cc) in omega arith
arg_unlike m text h e big (In (Stack k)) good same = absurd good
arg_unlike m text h e big (Out n) good same = absurd good
arg_unlike m text h e big Load good same = absurd good
arg_unlike m text h e big Store good same = absurd good
arg_unlike m text h e big (Field w k) good same = absurd good

pub stack_unlike : (m : ℕ) (text : List ℕ) → IsNumber m → codes "in_stack" ++ decimal m ≡ text → ((m % 4 ≡ 0) × (m ≤ 65532) → ⊥) → (l : Label) → IsStack l → label_text l ≡ text → ⊥
stack_unlike m text h e bad (In (Stack k)) good same =
    let number : k ≡ m = same_number (codes "in_stack") k m (omega arith) (omega arith) (cc) in
    bad (omega arith, omega arith)
stack_unlike m text h e bad (In (Arg n)) good same = absurd good
stack_unlike m text h e bad (Out n) good same = absurd good
stack_unlike m text h e bad Load good same = absurd good
stack_unlike m text h e bad Store good same = absurd good
stack_unlike m text h e bad (Field w k) good same = absurd good

pub out_unlike : (m : ℕ) (text : List ℕ) → IsNumber m → codes "out_a" ++ decimal m ≡ text → 1 < m → (l : Label) → IsOut l → label_text l ≡ text → ⊥
out_unlike m text h e big (Out n) good same =
    let number : n ≡ m = same_number (codes "out_a") n m (omega arith) (omega arith) (cc) in omega arith
out_unlike m text h e big (In (Arg n)) good same = absurd good
out_unlike m text h e big (In (Stack k)) good same = absurd good
out_unlike m text h e big Load good same = absurd good
out_unlike m text h e big Store good same = absurd good
out_unlike m text h e big (Field w k) good same = absurd good

pub field_front-8 : field_front 8 ≡ codes "s8@"
field_front-8 = ap (λ ds. codes "s" ++ ds ++ codes "@") (decimal_digit 8 (lit< tt))

pub field_front-16 : field_front 16 ≡ codes "s16@"
field_front-16 = ap (λ ds. codes "s" ++ ds ++ codes "@") (decimal_step 16 (lit≤ tt) (lit< tt) ∙ ap (λ ds. ds ++ 54 ∷ []) (decimal_digit 1 (lit< tt)))

pub field_front-32 : field_front 32 ≡ codes "s32@"
field_front-32 = ap (λ ds. codes "s" ++ ds ++ codes "@") (decimal_step 32 (lit≤ tt) (lit< tt) ∙ ap (λ ds. ds ++ 50 ∷ []) (decimal_digit 3 (lit< tt)))

pub field_unlike : (text : List ℕ) → IsNoText (FitsSigned w32) (λ k. codes "s8@" ++ signed_decimal k) text → IsNoText (FitsSigned w32) (λ k. codes "s16@" ++ signed_decimal k) text → IsNoText (FitsSigned w32) (λ k. codes "s32@" ++ signed_decimal k) text → (l : Label) → IsField l → label_text l ≡ text → ⊥
field_unlike text a b c (Field w k) (inl e, fits) same = a k fits (ap (λ f. f ++ signed_decimal k) (sym (ap field_front e ∙ field_front-8)) ∙ same)
field_unlike text a b c (Field w k) (inr (inl e), fits) same = b k fits (ap (λ f. f ++ signed_decimal k) (sym (ap field_front e ∙ field_front-16)) ∙ same)
field_unlike text a b c (Field w k) (inr (inr e), fits) same = c k fits (ap (λ f. f ++ signed_decimal k) (sym (ap field_front e ∙ field_front-32)) ∙ same)
field_unlike text a b c (In l) good same = absurd good
field_unlike text a b c (Out n) good same = absurd good
field_unlike text a b c Load good same = absurd good
field_unlike text a b c Store good same = absurd good

-- a field's label whose offset was passed through its machine word
pub field_like : (w : ℕ) (front text : List ℕ) (k : ℤ) → (w ≡ 8) ⊎ ((w ≡ 16) ⊎ (w ≡ 32)) → field_front w ≡ front → FitsSigned w32 k → front ++ signed_decimal k ≡ text → IsField (Field w (to_z w32 (of_z w32 k))) × (label_text (Field w (to_z w32 (of_z w32 k))) ≡ text)
field_like w front text k width e fits same = rw (to_z-of_z w32 k fits) ((width, fits), ap (λ f. f ++ signed_decimal k) e ∙ same)
