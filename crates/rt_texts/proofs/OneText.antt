-- No text is that of two values.
use Rattle.std.proofs.Common.{◌≡◌, ℕ, ◌<◌, ◌⊎◌, inl, inr, List, [], ◌∷◌, ◌++◌, length, get_or, slice_index_or, if◌then◌else◌, ◌==◌, refl, ap, sym, ◌∙◌, arith, codes, append_assoc, ℤ}
use Rattle.std.specs.Fmt.{signed_decimal}
use Rattle.std.proofs.lemmas.Bool.{cases_order}
use Rattle.std.proofs.lemmas.Fmt.{signed_decimal_injective}
use Rattle.std.proofs.lemmas.List.{append_cancel_left}
use Rattle.std.proofs.lemmas.List.Elements.{All-head, All-tail}
use Rattle.rt_lines.specs.Names.{AreNames}
use Rattle.rt_lines.specs.Words.{IsLabel}
use Rattle.rt_lines.specs.declared.label.Loc.TheVariants.{Arg, Stack}
use Rattle.rt_lines.specs.declared.label.Label.{Label}
use Rattle.rt_lines.specs.declared.label.Label.TheVariants.{In, Out, Load, Store, Field}
use Rattle.rt_lines.specs.declared.variable.Base.{Base}
use Rattle.rt_lines.specs.declared.variable.Base.TheVariants.{Proc, Global, Exist, Outer}
use Rattle.rt_lines.specs.declared.variable.Dtv.{Dtv}
use Rattle.rt_lines.specs.declared.line.Line.{Line}
use Rattle.rt_lines.specs.declared.line.Line.TheVariants.{Var, Same, Sub, Low, Up}
use Rattle.rt_texts.specs.Goods.{IsBase, IsWord, IsDtv}
use Rattle.rt_texts.specs.Laws.{OneLine}
use Rattle.rt_texts.specs.Readings.{HasNo, IsCut}
use Rattle.rt_texts.specs.Texts.{field_front, label_text, base_text, word_text, dtv_text, constant_text, line_text}
use Rattle.rt_texts.proofs.Clear.{HasNo-label, HasNo-base, HasNo-dtv, HasNo-constant, StopsAt-word}
use Rattle.rt_texts.proofs.Cuts.{one_cut}
use Rattle.rt_texts.proofs.LabelTexts.{same_number, field_front-8, field_front-16, field_front-32}
use Rattle.rt_texts.proofs.LineTexts.{dtv_hash, two_parts}
use Rattle.rt_texts.proofs.Numbers.{signed_small}

-- the width of a field tells its label's second byte
width_byte : (w : ℕ) (s : List ℕ) → (w ≡ 8) ⊎ ((w ≡ 16) ⊎ (w ≡ 32)) → ((w ≡ 8) × (get_or (field_front w ++ s) 1 0 ≡ 56)) ⊎ (((w ≡ 16) × (get_or (field_front w ++ s) 1 0 ≡ 49)) ⊎ ((w ≡ 32) × (get_or (field_front w ++ s) 1 0 ≡ 51)))
width_byte w s (inl e) = inl (e, ap (λ f. get_or (f ++ s) 1 0) (ap field_front e ∙ field_front-8))
width_byte w s (inr (inl e)) = inr (inl (e, ap (λ f. get_or (f ++ s) 1 0) (ap field_front e ∙ field_front-16)))
width_byte w s (inr (inr e)) = inr (inr (e, ap (λ f. get_or (f ++ s) 1 0) (ap field_front e ∙ field_front-32)))

same_width : (w v a b : ℕ) → a ≡ b → ((w ≡ 8) × (a ≡ 56)) ⊎ (((w ≡ 16) × (a ≡ 49)) ⊎ ((w ≡ 32) × (a ≡ 51))) → ((v ≡ 8) × (b ≡ 56)) ⊎ (((v ≡ 16) × (b ≡ 49)) ⊎ ((v ≡ 32) × (b ≡ 51))) → w ≡ v
same_width w v a b e (inl (p, q)) (inl (r, s)) = omega arith
same_width w v a b e (inl (p, q)) (inr (inl (r, s))) = omega arith
same_width w v a b e (inl (p, q)) (inr (inr (r, s))) = omega arith
same_width w v a b e (inr (inl (p, q))) (inl (r, s)) = omega arith
same_width w v a b e (inr (inl (p, q))) (inr (inl (r, s))) = omega arith
same_width w v a b e (inr (inl (p, q))) (inr (inr (r, s))) = omega arith
same_width w v a b e (inr (inr (p, q))) (inl (r, s)) = omega arith
same_width w v a b e (inr (inr (p, q))) (inr (inl (r, s))) = omega arith
same_width w v a b e (inr (inr (p, q))) (inr (inr (r, s))) = omega arith

one_width : (w v : ℕ) (s t : List ℕ) → (w ≡ 8) ⊎ ((w ≡ 16) ⊎ (w ≡ 32)) → (v ≡ 8) ⊎ ((v ≡ 16) ⊎ (v ≡ 32)) → field_front w ++ s ≡ field_front v ++ t → w ≡ v
one_width w v s t hw hv same = same_width w v _ _ (ap (λ text. get_or text 1 0) same) (width_byte w s hw) (width_byte v t hv)

one_field : (w v : ℕ) (j k : ℤ) → IsLabel (Field w j) → IsLabel (Field v k) → label_text (Field w j) ≡ label_text (Field v k) → Field w j ≡ Field v k
one_field w v j k (hw, hj) (hv, hk) same =
    let width : w ≡ v = one_width w v (signed_decimal j) (signed_decimal k) hw hv same in
    let fronts : field_front w ≡ field_front v = ap field_front width in
    let offsets : field_front v ++ signed_decimal j ≡ field_front v ++ signed_decimal k = ap (λ f. f ++ signed_decimal j) (sym fronts) ∙ same in
    let offset : j ≡ k = signed_decimal_injective j k (signed_small j hj) (signed_small k hk) (append_cancel_left (field_front v) (signed_decimal j) (signed_decimal k) offsets) in
    λ i. Field (width i) (offset i)

-- a field's second byte is a digit, and not the `t` of `store`
no_store : (w : ℕ) (k : ℤ) → IsLabel (Field w k) → label_text Store ≡ label_text (Field w k) → ⊥
no_store w k (hw, hk) same =
    let byte : 116 ≡ get_or (field_front w ++ signed_decimal k) 1 0 = ap (λ text. get_or text 1 0) same in
    elim (width_byte w (signed_decimal k) hw) [ inl (p, q) ↦ absurd (omega arith) | inr r ↦ elim r [ inl (p, q) ↦ absurd (omega arith) | inr (p, q) ↦ absurd (omega arith) ] ]

-- the first byte of a label's text
abbrev label_byte : Label → ℕ
label_byte (In l) = 105
label_byte (Out n) = 111
label_byte Load = 108
label_byte Store = 115
label_byte (Field w k) = 115

label_byte-is : (l : Label) → get_or (label_text l) 0 0 ≡ label_byte l
label_byte-is (In (Arg n)) = refl
label_byte-is (In (Stack k)) = refl
label_byte-is (Out n) = refl
label_byte-is Load = refl
label_byte-is Store = refl
label_byte-is (Field w k) = refl

same_label_byte : (a b : Label) → label_text a ≡ label_text b → label_byte a ≡ label_byte b
same_label_byte a b same = sym (label_byte-is a) ∙ (ap (λ text. get_or text 0 0) same ∙ label_byte-is b)

one_label : (a b : Label) → IsLabel a → IsLabel b → label_text a ≡ label_text b → a ≡ b
one_label (In (Arg n)) (In (Arg m)) g h same = let e : n ≡ m = same_number (codes "in_a") n m (omega arith) (omega arith) same in λ i. In (Arg (e i))
one_label (In (Arg n)) (In (Stack m)) g h same = let e : ◌≡◌ {A = ℕ} 97 115 = ap (λ text. get_or text 3 0) same in absurd (omega arith)
one_label (In (Stack n)) (In (Arg m)) g h same = let e : ◌≡◌ {A = ℕ} 115 97 = ap (λ text. get_or text 3 0) same in absurd (omega arith)
one_label (In (Stack n)) (In (Stack m)) g h same = let e : n ≡ m = same_number (codes "in_stack") n m (omega arith) (omega arith) same in λ i. In (Stack (e i))
one_label (Out n) (Out m) g h same = let e : n ≡ m = same_number (codes "out_a") n m (omega arith) (omega arith) same in λ i. Out (e i)
one_label Load Load g h same = refl
one_label Store Store g h same = refl
one_label (Field w j) (Field v k) g h same = one_field w v j k g h same
one_label Store (Field w k) g h same = absurd (no_store w k h same)
one_label (Field w k) Store g h same = absurd (no_store w k g (sym same))
one_label a b g h same = let e : label_byte a ≡ label_byte b = same_label_byte a b same in absurd (omega arith)

one_word : (u v : List Label) → IsWord u → IsWord v → word_text u ≡ word_text v → u ≡ v
one_word [] [] g h same = refl
one_word [] (m ∷ v) g h same = cc
one_word (l ∷ u) [] g h same = cc
one_word (l ∷ u) (m ∷ v) g h same =
    let good : IsLabel l = All-head IsLabel l u g in
    let good' : IsLabel m = All-head IsLabel m v h in
    let tails : label_text l ++ word_text u ≡ label_text m ++ word_text v = cc in
    let cut = one_cut 46 (label_text l) (word_text u) (label_text m) (word_text v) tails (HasNo-label 46 l (inl refl) good) (StopsAt-word u) (HasNo-label 46 m (inl refl) good') (StopsAt-word v) in
    let here : l ≡ m = one_label l m good good' cut.0 in
    let rest : u ≡ v = one_word u v (All-tail IsLabel l u g) (All-tail IsLabel m v h) cut.1 in
    λ i. here i ∷ rest i

-- the first byte of a base's text
abbrev base_byte : Base → ℕ
base_byte (Proc n) = 102
base_byte (Global n) = 103
base_byte (Exist n) = 116
base_byte (Outer n) = 120

base_byte-is : (b : Base) → get_or (base_text b) 0 0 ≡ base_byte b
base_byte-is (Proc n) = refl
base_byte-is (Global n) = refl
base_byte-is (Exist n) = refl
base_byte-is (Outer n) = refl

one_base : (a b : Base) → IsBase a → IsBase b → base_text a ≡ base_text b → a ≡ b
one_base (Proc n) (Proc m) g h same = let e : n ≡ m = same_number (codes "f") n m (omega arith) (omega arith) same in λ i. Proc (e i)
one_base (Global n) (Global m) g h same = let e : n ≡ m = same_number (codes "g") n m (omega arith) (omega arith) same in λ i. Global (e i)
one_base (Exist n) (Exist m) g h same = let e : n ≡ m = same_number (codes "t") n m (omega arith) (omega arith) same in λ i. Exist (e i)
one_base (Outer n) (Outer m) g h same = let e : n ≡ m = same_number (codes "x") n m (omega arith) (omega arith) same in λ i. Outer (e i)
one_base a b g h same =
    let e : base_byte a ≡ base_byte b = sym (base_byte-is a) ∙ (ap (λ text. get_or text 0 0) same ∙ base_byte-is b) in absurd (omega arith)

pub one_dtv : (x y : Dtv) → IsDtv x → IsDtv y → dtv_text x ≡ dtv_text y → x ≡ y
one_dtv x y g h same =
    let cut = one_cut 46 (base_text x.base) (word_text x.word) (base_text y.base) (word_text y.word) same (HasNo-base 46 x.base (inl refl) g.0) (StopsAt-word x.word) (HasNo-base 46 y.base (inl refl) h.0) (StopsAt-word y.word) in
    let base : x.base ≡ y.base = one_base x.base y.base g.0 h.0 cut.0 in
    let word : x.word ≡ y.word = one_word x.word y.word g.1 h.1 cut.1 in
    λ i. record { base = base i; word = word i }

one_constant : (names : List (List ℕ)) (j k : ℕ) → AreNames names → j < length names → k < length names → constant_text names j ≡ constant_text names k → j ≡ k
one_constant names j k fine hj hk same =
    let name : slice_index_or names j [] ≡ slice_index_or names k [] = cc in
    elim (cases_order j k) [
      | inl e ↦ e
      | inr r ↦ elim r [ inl less ↦ absurd (fine.distinct j k [] less hk name) | inr more ↦ absurd (fine.distinct k j [] more hj (sym name)) ]
    ]

-- one text of two sides: one left side, one right side
one_sides : (a s b c d : List ℕ) → HasNo 32 a → HasNo 32 c → (a ++ 32 ∷ s) ++ b ≡ (c ++ 32 ∷ s) ++ d → (a ≡ c) × (b ≡ d)
one_sides a s b c d ha hc same =
    let cut : IsCut 32 ((c ++ 32 ∷ s) ++ d) c (32 ∷ (s ++ d)) = record { joined = append_assoc c (32 ∷ s) d; clear = hc; stops = refl } in
    let parts = two_parts a s b ((c ++ 32 ∷ s) ++ d) c (32 ∷ (s ++ d)) ha cut same in
    (parts.0, append_cancel_left (32 ∷ s) b d parts.1)

-- a line's kind: its text's first byte, but one kind for the variables' letters
abbrev kind_of_byte : ℕ → ℕ
kind_of_byte b = if b == 118 then 1 else if b == 115 then 2 else if b == 35 then 3 else 4

abbrev line_kind : Line → ℕ
line_kind (Var x) = 1
line_kind (Same x y) = 2
line_kind (Low k x) = 3
line_kind (Sub x y) = 4
line_kind (Up x k) = 4

base_kind : (b : Base) (w s r : List ℕ) → kind_of_byte (get_or (((base_text b ++ w) ++ s) ++ r) 0 0) ≡ 4
base_kind (Proc n) w s r = refl
base_kind (Global n) w s r = refl
base_kind (Exist n) w s r = refl
base_kind (Outer n) w s r = refl

line_kind-is : (names : List (List ℕ)) (l : Line) → kind_of_byte (get_or (line_text names l) 0 0) ≡ line_kind l
line_kind-is names (Var x) = refl
line_kind-is names (Same x y) = refl
line_kind-is names (Low k x) = refl
line_kind-is names (Sub x y) = base_kind x.base (word_text x.word) (codes " <= ") (dtv_text y)
line_kind-is names (Up x k) = base_kind x.base (word_text x.word) (codes " <= ") (constant_text names k)

pub one_line : OneLine
one_line names (Var x) (Var y) fine g h same =
    let e : x ≡ y = one_dtv x y g h (append_cancel_left (codes "var ") (dtv_text x) (dtv_text y) same) in λ i. Var (e i)
one_line names (Same x y) (Same u v) fine g h same =
    let sides = one_sides (dtv_text x) [] (dtv_text y) (dtv_text u) (dtv_text v) (HasNo-dtv x g.0) (HasNo-dtv u h.0) (append_cancel_left (codes "same ") _ _ same) in
    let left : x ≡ u = one_dtv x u g.0 h.0 sides.0 in
    let right : y ≡ v = one_dtv y v g.1 h.1 sides.1 in
    λ i. Same (left i) (right i)
one_line names (Sub x y) (Sub u v) fine g h same =
    let sides = one_sides (dtv_text x) (codes "<= ") (dtv_text y) (dtv_text u) (dtv_text v) (HasNo-dtv x g.0) (HasNo-dtv u h.0) same in
    let left : x ≡ u = one_dtv x u g.0 h.0 sides.0 in
    let right : y ≡ v = one_dtv y v g.1 h.1 sides.1 in
    λ i. Sub (left i) (right i)
one_line names (Low j x) (Low k y) fine g h same =
    let sides = one_sides (constant_text names j) (codes "<= ") (dtv_text x) (constant_text names k) (dtv_text y) (HasNo-constant names j fine g.0) (HasNo-constant names k fine h.0) same in
    let left : j ≡ k = one_constant names j k fine g.0 h.0 sides.0 in
    let right : x ≡ y = one_dtv x y g.1 h.1 sides.1 in
    λ i. Low (left i) (right i)
one_line names (Up x j) (Up y k) fine g h same =
    let sides = one_sides (dtv_text x) (codes "<= ") (constant_text names j) (dtv_text y) (constant_text names k) (HasNo-dtv x g.0) (HasNo-dtv y h.0) same in
    let left : x ≡ y = one_dtv x y g.0 h.0 sides.0 in
    let right : j ≡ k = one_constant names j k fine g.1 h.1 sides.1 in
    λ i. Up (left i) (right i)
one_line names (Sub x y) (Up u k) fine g h same =
    let sides = one_sides (dtv_text x) (codes "<= ") (dtv_text y) (dtv_text u) (constant_text names k) (HasNo-dtv x g.0) (HasNo-dtv u h.0) same in
    absurd (dtv_hash y _ _ sides.1 refl)
one_line names (Up u k) (Sub x y) fine g h same =
    let sides = one_sides (dtv_text u) (codes "<= ") (constant_text names k) (dtv_text x) (dtv_text y) (HasNo-dtv u g.0) (HasNo-dtv x h.0) same in
    absurd (dtv_hash y _ _ (sym sides.1) refl)
one_line names a b fine g h same =
    let e : line_kind a ≡ line_kind b = sym (line_kind-is names a) ∙ (ap (λ text. kind_of_byte (get_or text 0 0)) same ∙ line_kind-is names b) in absurd (omega arith)
