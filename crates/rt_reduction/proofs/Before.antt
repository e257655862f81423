-- The order of variables: strict, transitive, and of two variables one comes first.
use Rattle.std.proofs.Common.{◌≡◌, ℕ, ◌+◌, List, [], ◌∷◌, ◌++◌, map, length, true, false, refl, sym, ap, ◌∙◌, arith, ℤ, pos, negsuc}
use Rattle.std.specs.declared.cmp.Ordering.{Ordering}
use Rattle.std.specs.declared.cmp.Ordering.TheVariants.{Less, Equal, Greater}
use Rattle.std.specs.Ordering.{ordering_then, ordering_reverse, nat_cmp, is_lt}
use Rattle.std.specs.Cmp.{IsTotalOrder}
use Rattle.std.specs.Cmp.Lexicographic.{slice_cmp}
use Rattle.std.proofs.lemmas.Cmp.{lists_total, nat_list_cmp_total, tied_itself}
use Rattle.std.proofs.lemmas.Map.Lookups.{exact_bytes}
use Rattle.std.proofs.lemmas.List.{length-append, length-map}
use Rattle.rt_lines.specs.declared.label.Loc.{Loc}
use Rattle.rt_lines.specs.declared.label.Loc.TheVariants.{Arg, Stack}
use Rattle.rt_lines.specs.declared.label.Label.{Label}
use Rattle.rt_lines.specs.declared.label.Label.TheVariants.{In, Out, Load, Store, Field}
use Rattle.rt_lines.specs.declared.variable.Base.{Base}
use Rattle.rt_lines.specs.declared.variable.Base.TheVariants.{Proc, Global, Exist, Outer}
use Rattle.rt_lines.specs.declared.variable.Dtv.{Dtv}
use Rattle.rt_texts.specs.Texts.{label_text}
use Rattle.rt_reduction.specs.Before.{base_key, location_numbers, offset_numbers, label_numbers, variable_key, comes_before}
use Rattle.rt_base.proofs.Numbers.{less_lt}

-- lists compare as equal only if they are, where their elements do
exact_list : {X : Type 0} (R : X → X → Ordering) → ((x y : X) → R x y ≡ Equal → x ≡ y) → (xs ys : List X) → slice_cmp R xs ys ≡ Equal →
    xs ≡ ys
exact_list R exact [] [] e = refl
exact_list R exact [] (y ∷ ys) e = absurd (cc)
exact_list R exact (x ∷ xs) [] e = absurd (cc)
exact_list R exact (x ∷ xs) (y ∷ ys) e = by (R x y) refl e (exact_list R exact xs ys)
  where
    by : (o : Ordering) → R x y ≡ o → ordering_then o (slice_cmp R xs ys) ≡ Equal → (slice_cmp R xs ys ≡ Equal → xs ≡ ys) → x ∷ xs ≡ y ∷ ys
    by Less f g rest = absurd (cc)
    by Greater f g rest = absurd (cc)
    by Equal f g rest = λ i. exact x y f i ∷ rest g i

abbrev key_cmp : List (List ℕ) → List (List ℕ) → Ordering
key_cmp = slice_cmp (slice_cmp nat_cmp)

key_total : IsTotalOrder key_cmp
key_total = lists_total nat_list_cmp_total

key_exact : (a b : List (List ℕ)) → key_cmp a b ≡ Equal → a ≡ b
key_exact a b e = exact_list (slice_cmp nat_cmp) exact_bytes a b e

one_key : (a b : List (List ℕ)) → is_lt (key_cmp a b) ≡ false → is_lt (key_cmp b a) ≡ false → a ≡ b
one_key a b e f = by (key_cmp a b) refl
  where
    by : (o : Ordering) → key_cmp a b ≡ o → a ≡ b
    by Less g = let h : is_lt (key_cmp a b) ≡ true = ap is_lt g in absurd (cc)
    by Equal g = key_exact a b g
    by Greater g =
        let h : key_cmp b a ≡ Less = key_total.antisymm b a ∙ ap ordering_reverse g in
        let k : is_lt (key_cmp b a) ≡ true = ap is_lt h in
        absurd (cc)

-- the key of a variable is that of no other
pub one_base_key : (a b : Base) → base_key a ≡ base_key b → a ≡ b
one_base_key (Exist m) (Exist n) e = let f : m ≡ n = cc in ap Exist f
one_base_key (Global m) (Global n) e = let f : m ≡ n = cc in ap Global f
one_base_key (Proc m) (Proc n) e = let f : m ≡ n = cc in ap Proc f
one_base_key (Outer m) (Outer n) e = let f : m ≡ n = cc in ap Outer f
one_base_key (Exist m) (Global n) e = absurd (cc)
one_base_key (Exist m) (Proc n) e = absurd (cc)
one_base_key (Exist m) (Outer n) e = absurd (cc)
one_base_key (Global m) (Exist n) e = absurd (cc)
one_base_key (Global m) (Proc n) e = absurd (cc)
one_base_key (Global m) (Outer n) e = absurd (cc)
one_base_key (Proc m) (Exist n) e = absurd (cc)
one_base_key (Proc m) (Global n) e = absurd (cc)
one_base_key (Proc m) (Outer n) e = absurd (cc)
one_base_key (Outer m) (Exist n) e = absurd (cc)
one_base_key (Outer m) (Global n) e = absurd (cc)
one_base_key (Outer m) (Proc n) e = absurd (cc)

one_location : (a b : Loc) → location_numbers a ≡ location_numbers b → a ≡ b
one_location (Arg m) (Arg n) e = let f : m ≡ n = cc in ap Arg f
one_location (Stack m) (Stack n) e = let f : m ≡ n = cc in ap Stack f
one_location (Arg m) (Stack n) e = absurd (cc)
one_location (Stack m) (Arg n) e = absurd (cc)

one_offset : (j k : ℤ) → offset_numbers j ≡ offset_numbers k → j ≡ k
one_offset (pos j) (pos k) e = let f : j ≡ k = cc in ap pos f
one_offset (negsuc j) (negsuc k) e = let f : j ≡ k = cc in ap negsuc f
one_offset (pos j) (negsuc k) e = absurd (cc)
one_offset (negsuc j) (pos k) e = absurd (cc)

-- what a label's numbers begin with
abbrev kind : Label → ℕ
kind (In l) = 0
kind (Out n) = 1
kind Load = 2
kind Store = 3
kind (Field w k) = 4

abbrev first_number : List ℕ → ℕ
first_number [] = 0
first_number (n ∷ ns) = n

kind_first : (l : Label) → first_number (label_numbers l) ≡ kind l
kind_first (In l) = refl
kind_first (Out n) = refl
kind_first Load = refl
kind_first Store = refl
kind_first (Field w k) = refl

one_kind : (a b : Label) → label_numbers a ≡ label_numbers b → kind a ≡ kind b
one_kind a b e = sym (kind_first a) ∙ ap first_number e ∙ kind_first b

one_label_numbers : (a b : Label) → label_numbers a ≡ label_numbers b → a ≡ b
one_label_numbers (In a) (In b) e = let f : location_numbers a ≡ location_numbers b = cc in ap In (one_location a b f)
one_label_numbers (Out m) (Out n) e = let f : m ≡ n = cc in ap Out f
one_label_numbers Load Load e = refl
one_label_numbers Store Store e = refl
one_label_numbers (Field v j) (Field w k) e =
    let f : v ≡ w = cc in
    let g : offset_numbers j ≡ offset_numbers k = cc in
    λ i. Field (f i) (one_offset j k g i)
one_label_numbers a b e = absurd (omega (arith, one_kind a b e))

one_word_numbers : (u v : List Label) → map label_numbers u ≡ map label_numbers v → u ≡ v
one_word_numbers [] [] e = refl
one_word_numbers [] (m ∷ v) e = absurd (cc)
one_word_numbers (l ∷ u) [] e = absurd (cc)
one_word_numbers (l ∷ u) (m ∷ v) e =
    let f : label_numbers l ≡ label_numbers m = cc in
    let g : map label_numbers u ≡ map label_numbers v = cc in
    λ i. one_label_numbers l m f i ∷ one_word_numbers u v g i

same_tails : {X : Type 0} (a b c d : List X) → length a ≡ length c → a ++ b ≡ c ++ d → b ≡ d
same_tails [] b [] d e f = f
same_tails [] b (y ∷ c) d e f = absurd (omega (arith, e))
same_tails (x ∷ a) b [] d e f = absurd (omega (arith, e))
same_tails (x ∷ a) b (y ∷ c) d e f =
    let g : a ++ b ≡ c ++ d = cc in
    let h : length a ≡ length c = omega (arith, e) in
    same_tails a b c d h g

one_word : (u v : List Label) → map label_text u ++ map label_numbers u ≡ map label_text v ++ map label_numbers v → u ≡ v
one_word u v e =
    let f : length (map label_text u ++ map label_numbers u) ≡ length (map label_text v ++ map label_numbers v) = ap length e in
    let g : length u + length u ≡ length v + length v =
    sym (length-append (map label_text u) (map label_numbers u) ∙ (λ i. length-map u label_text i + length-map u label_numbers i)) ∙ f ∙
    length-append (map label_text v) (map label_numbers v) ∙ (λ i. length-map v label_text i + length-map v label_numbers i) in
    let h : length u ≡ length v = omega (arith, g) in
    one_word_numbers u v (same_tails (map label_text u) (map label_numbers u) (map label_text v) (map label_numbers v)
    (length-map u label_text ∙ h ∙ sym (length-map v label_text)) e)

pub one_variable_key : (x y : Dtv) → variable_key x ≡ variable_key y → x ≡ y
one_variable_key x y e =
    let f : base_key x.base ≡ base_key y.base = cc in
    let g : map label_text x.word ++ map label_numbers x.word ≡ map label_text y.word ++ map label_numbers y.word = cc in
    λ i. record { base = one_base_key x.base y.base f i; word = one_word x.word y.word g i }

-- of two variables, one comes before the other
pub one_first : (x y : Dtv) → comes_before x y ≡ false → comes_before y x ≡ false → x ≡ y
one_first x y e f = one_variable_key x y (one_key (variable_key x) (variable_key y) e f)

pub not_before_self : (x : Dtv) → comes_before x x ≡ true → ⊥
not_before_self x e =
    let f : key_cmp (variable_key x) (variable_key x) ≡ Equal = tied_itself key_total (variable_key x) in
    let g : comes_before x x ≡ false = ap is_lt f in
    cc

pub before_chain : (x y z : Dtv) → comes_before x y ≡ true → comes_before y z ≡ true → comes_before x z ≡ true
before_chain x y z e f =
    ap is_lt (key_total.trans (variable_key x) (variable_key y) (variable_key z) (less_lt (key_cmp (variable_key x) (variable_key y)) e)
    (less_lt (key_cmp (variable_key y) (variable_key z)) f))
