-- Labels of the arguments in registers that callees take.
use Rattle.std.proofs.Common.{◌≡◌, ◌+◌, ◌-◌, ◌<◌, ◌≤◌, ℕ, zero, suc, Bool, true, false, cond, ◌||◌, Option, List, [], ◌∷◌, ◌++◌, length, get_or, take, map, filter, refl, sym, ap, subst, ◌∙◌, add-one, arith}
use Rattle.std.specs.Prelude.{All, if◌then◌else◌}
use Rattle.std.proofs.lemmas.List.{map-append, take_more}
use Rattle.std.proofs.lemmas.List.Elements.{All-append, All-cons, All-nil, All-filter, All-map, filter-append}
use Rattle.rt_lines.specs.declared.label.Loc.TheVariants.{Arg, Stack}
use Rattle.rt_lines.specs.declared.label.Label.{Label}
use Rattle.rt_lines.specs.declared.label.Label.TheVariants as label
use Rattle.rt_lines.specs.Words.{IsLabel}
use Rattle.rt_scheme.specs.Ports.{has_port}
use Rattle.rt_liveness.specs.declared.call.Call.{Call}
use Rattle.rt_liveness.specs.Calls.{takes_register}
use Rattle.rt_table.specs.Inside.Parts.{IsPassed, port_register_labels}
use Rattle.rt_table.specs.Inside.Words.{AreStackWords}
use Rattle.rt_table.specs.Table.{is_covered, port_registers, stack_arguments}

labels-one : (p : ℕ → Bool) (f : ℕ → Label) (x : ℕ) → map f (filter p (x ∷ [])) ≡ (if p x then f x ∷ [] else [])
labels-one p f x = elim (p x) as (λ b. map f (cond b (x ∷ []) []) ≡ cond b (f x ∷ []) []) [ true ↦ refl | false ↦ refl ]

labels-more : (p : ℕ → Bool) (f : ℕ → Label) (xs : List ℕ) (n x : ℕ) → n < length xs → get_or xs n 0 ≡ x
    → map f (filter p (take (n + 1) xs)) ≡ map f (filter p (take n xs)) ++ (if p x then f x ∷ [] else [])
labels-more p f xs n x less e =
    ap (λ ys. map f (filter p ys)) (take_more xs n 0 less)
    ∙ ap (map f) (filter-append p (take n xs) (get_or xs n 0 ∷ []))
    ∙ map-append f (filter p (take n xs)) (filter p (get_or xs n 0 ∷ []))
    ∙ ap (λ y. map f (filter p (take n xs)) ++ map f (filter p (y ∷ []))) e
    ∙ ap (λ ys. map f (filter p (take n xs)) ++ ys) (labels-one p f x)

abbrev registers : List ℕ
registers = 10 ∷ 11 ∷ 12 ∷ 13 ∷ 14 ∷ 15 ∷ 16 ∷ 17 ∷ []

abbrev numbers : List ℕ
numbers = 0 ∷ 1 ∷ 2 ∷ 3 ∷ 4 ∷ 5 ∷ 6 ∷ 7 ∷ []

register-at : (n : ℕ) → n < 8 → get_or registers n 0 ≡ 10 + n
register-at zero less = refl
register-at (suc zero) less = refl
register-at (suc (suc zero)) less = refl
register-at (suc (suc (suc zero))) less = refl
register-at (suc (suc (suc (suc zero)))) less = refl
register-at (suc (suc (suc (suc (suc zero))))) less = refl
register-at (suc (suc (suc (suc (suc (suc zero)))))) less = refl
register-at (suc (suc (suc (suc (suc (suc (suc zero))))))) less = refl
register-at (suc (suc (suc (suc (suc (suc (suc (suc n)))))))) less = absurd (omega arith)

number-at : (n : ℕ) → n < 8 → get_or numbers n 0 ≡ n
number-at zero less = refl
number-at (suc zero) less = refl
number-at (suc (suc zero)) less = refl
number-at (suc (suc (suc zero))) less = refl
number-at (suc (suc (suc (suc zero)))) less = refl
number-at (suc (suc (suc (suc (suc zero))))) less = refl
number-at (suc (suc (suc (suc (suc (suc zero)))))) less = refl
number-at (suc (suc (suc (suc (suc (suc (suc zero))))))) less = refl
number-at (suc (suc (suc (suc (suc (suc (suc (suc n)))))))) less = absurd (omega arith)

abbrev argument_label : ℕ → Label
argument_label register = label.In (Arg (register - 10))

abbrev number_label : ℕ → Label
number_label n = label.In (Arg n)

-- the labels of the first of a0 to a7 that a callee takes
abbrev pub first_arguments : Call → ℕ → List Label
first_arguments call n = map argument_label (filter (takes_register call) (take n registers))

pub first_arguments-more : (call : Call) (n : ℕ) → n < 8
    → first_arguments call (n + 1) ≡ first_arguments call n ++ (if takes_register call (10 + n) then label.In (Arg n) ∷ [] else [])
first_arguments-more call n less =
    labels-more (takes_register call) argument_label registers n (10 + n) less (register-at n less)
    ∙ ap (λ m. first_arguments call n ++ (if takes_register call (10 + n) then label.In (Arg m) ∷ [] else [])) (omega arith)

-- the argument register of a number has a port, or is covered
abbrev pub is_taken : List (Label × ℕ) → Option ℕ → ℕ → Bool
is_taken ports covered n = has_port ports (label.In (Arg n)) || is_covered covered n

-- the labels of the first of a0 to a7 of which this holds
abbrev pub first_registers : List (Label × ℕ) → Option ℕ → ℕ → List Label
first_registers ports covered n = map number_label (filter (is_taken ports covered) (take n numbers))

pub first_registers-more : (ports : List (Label × ℕ)) (covered : Option ℕ) (n : ℕ) → n < 8
    → first_registers ports covered (n + 1) ≡ first_registers ports covered n ++ (if is_taken ports covered n then label.In (Arg n) ∷ [] else [])
first_registers-more ports covered n less = labels-more (is_taken ports covered) number_label numbers n n less (number-at n less)

pub label-if : (n : ℕ) (b : Bool) (labels : List Label) → n < 8 → All IsLabel labels → All IsLabel (labels ++ (if b then label.In (Arg n) ∷ [] else []))
label-if n true labels less h = All-append IsLabel labels (label.In (Arg n) ∷ []) h (All-cons IsLabel (label.In (Arg n)) [] (omega arith) (All-nil IsLabel))
label-if n false labels less h = All-append IsLabel labels [] h (All-nil IsLabel)

-- the arguments among ports are a0 to a7 and words of the stack
abbrev IsNumber : ℕ → Type 0
IsNumber n = n ≤ 7

small_numbers : All IsNumber numbers
small_numbers =
    All-cons IsNumber 0 (1 ∷ 2 ∷ 3 ∷ 4 ∷ 5 ∷ 6 ∷ 7 ∷ []) (omega arith) (All-cons IsNumber 1 (2 ∷ 3 ∷ 4 ∷ 5 ∷ 6 ∷ 7 ∷ []) (omega arith) (All-cons IsNumber 2 (3 ∷ 4 ∷ 5 ∷ 6 ∷ 7 ∷ []) (omega arith) (All-cons IsNumber 3 (4 ∷ 5 ∷ 6 ∷ 7 ∷ []) (omega arith) (All-cons IsNumber 4 (5 ∷ 6 ∷ 7 ∷ []) (omega arith) (All-cons IsNumber 5 (6 ∷ 7 ∷ []) (omega arith) (All-cons IsNumber 6 (7 ∷ []) (omega arith) (All-cons IsNumber 7 ([]) (omega arith) (All-nil IsNumber))))))))

-- a register of an argument is one of a0 to a7
pub registers-passed : (ports : List (Label × ℕ)) (covered : Option ℕ) → All IsPassed (port_register_labels ports covered)
registers-passed ports covered =
    All-map IsPassed number_label (port_registers ports covered)
    (λ k d less. All-filter (is_taken ports covered) IsNumber numbers small_numbers k d less)

pub words-passed : (words : List ℕ) → All IsPassed (stack_arguments words)
words-passed words = All-map IsPassed (λ (k : ℕ). label.In (Stack k)) words (λ k d less. tt)

pub words-labels : (words : List ℕ) → AreStackWords words → All IsLabel (stack_arguments words)
words-labels words h = All-map IsLabel (λ (k : ℕ). label.In (Stack k)) words (λ k d less. h k d less)
