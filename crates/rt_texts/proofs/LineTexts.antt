-- Texts of lines, read.
use Rattle.std.proofs.Common.{◌≡◌, ◌≢◌, ℕ, ◌⊎◌, inl, inr, List, [], ◌∷◌, ◌++◌, length, refl, ap, sym, ◌∙◌, arith, codes, append_assoc, append-nil}
use Rattle.std.proofs.lemmas.List.{append_cancel_left}
use Rattle.rt_lines.specs.Names.{AreNames}
use Rattle.rt_lines.specs.declared.variable.Base.{Base}
use Rattle.rt_lines.specs.declared.variable.Base.TheVariants.{Proc, Global, Exist, Outer}
use Rattle.rt_lines.specs.declared.variable.Dtv.{Dtv}
use Rattle.rt_lines.specs.declared.line.Line.{Line}
use Rattle.rt_lines.specs.declared.line.Line.TheVariants.{Var, Same, Sub, Low, Up}
use Rattle.rt_lines.specs.declared.line.Judge.TheVariants.{Var as JudgeVar, Sub as JudgeSub, Low as JudgeLow, Up as JudgeUp}
use Rattle.rt_texts.specs.declared.fault.TextFault.{TextFault}
use Rattle.rt_texts.specs.declared.fault.TextFault.TheVariants.{BadText, Memory}
use Rattle.rt_texts.specs.Goods.{IsLine, IsJudge}
use Rattle.rt_texts.specs.Texts.{base_text, word_text, dtv_text, constant_text, line_text, judge_text}
use Rattle.rt_texts.specs.Readings.{HasNo, IsCut, IsNoText}
use Rattle.rt_texts.specs.Inside.Sides.{IsPair, IsBound, IsRelation, pair_texts, bound_texts, side_texts}
use Rattle.rt_texts.proofs.Clear.{HasNo-dtv, HasNo-constant}
use Rattle.rt_texts.proofs.Cuts.{one_cut}

-- a fault that says the same of another kind of value
pub fault_along : {X Y S T : Type 0} (IsX : X → Type 0) (text_x : X → S) (s : S) (IsY : Y → Type 0) (text_y : Y → T) (t : T) (fault : TextFault) → (IsNoText IsX text_x s → IsNoText IsY text_y t) → (fault ≡ Memory) ⊎ ((fault ≡ BadText 0) × IsNoText IsX text_x s) → (fault ≡ Memory) ⊎ ((fault ≡ BadText 0) × IsNoText IsY text_y t)
fault_along IsX text_x s IsY text_y t fault along (inl e) = inl e
fault_along IsX text_x s IsY text_y t fault along (inr (e, none)) = inr (e, along none)

pub first_byte : (a b : ℕ) (s t : List ℕ) → a ∷ s ≡ b ∷ t → a ≡ b
first_byte a b s t e = cc

-- the first byte of a variable's text
abbrev pub IsBaseByte : ℕ → Type 0
IsBaseByte c = (c ≡ 102) ⊎ ((c ≡ 103) ⊎ ((c ≡ 116) ⊎ (c ≡ 120)))

base_byte : (b : Base) (c : ℕ) (w rest : List ℕ) → base_text b ++ w ≡ c ∷ rest → IsBaseByte c
base_byte (Proc n) c w rest e = inl (sym (first_byte _ _ _ _ e))
base_byte (Global n) c w rest e = inr (inl (sym (first_byte _ _ _ _ e)))
base_byte (Exist n) c w rest e = inr (inr (inl (sym (first_byte _ _ _ _ e))))
base_byte (Outer n) c w rest e = inr (inr (inr (sym (first_byte _ _ _ _ e))))

pub dtv_byte : (x : Dtv) (c : ℕ) (more rest : List ℕ) → dtv_text x ++ more ≡ c ∷ rest → IsBaseByte c
dtv_byte x c more rest e = base_byte x.base c (word_text x.word ++ more) rest (sym (append_assoc (base_text x.base) (word_text x.word) more) ∙ e)

no_base_byte : (c : ℕ) → (c ≡ 35) ⊎ ((c ≡ 115) ⊎ (c ≡ 118)) → IsBaseByte c → ⊥
no_base_byte c other letter =
    let low : c ≢ 35 = λ e. elim letter [ inl h ↦ absurd (omega arith) | inr r ↦ elim r [ inl h ↦ absurd (omega arith) | inr q ↦ elim q [ inl h ↦ absurd (omega arith) | inr h ↦ absurd (omega arith) ] ] ] in
    let s : c ≢ 115 = λ e. elim letter [ inl h ↦ absurd (omega arith) | inr r ↦ elim r [ inl h ↦ absurd (omega arith) | inr q ↦ elim q [ inl h ↦ absurd (omega arith) | inr h ↦ absurd (omega arith) ] ] ] in
    let v : c ≢ 118 = λ e. elim letter [ inl h ↦ absurd (omega arith) | inr r ↦ elim r [ inl h ↦ absurd (omega arith) | inr q ↦ elim q [ inl h ↦ absurd (omega arith) | inr h ↦ absurd (omega arith) ] ] ] in
    elim other [ inl h ↦ low h | inr r ↦ elim r [ inl h ↦ s h | inr h ↦ v h ] ]

-- a variable's text does not begin with a hash sign
pub dtv_hash : (x : Dtv) (text rest : List ℕ) → dtv_text x ≡ text → text ≡ 35 ∷ rest → ⊥
dtv_hash x text rest e f = no_base_byte 35 (inl refl) (dtv_byte x 35 [] rest (append-nil (dtv_text x) ∙ (e ∙ f)))

left_of : (a b c d : List ℕ) → ◌≡◌ {A = List ℕ × List ℕ} (a, b) (c, d) → a ≡ c
left_of a b c d e = ap (λ (p : List ℕ × List ℕ). p.0) e

right_of : (a b c d : List ℕ) → ◌≡◌ {A = List ℕ × List ℕ} (a, b) (c, d) → b ≡ d
right_of a b c d e = ap (λ (p : List ℕ × List ℕ). p.1) e

pair_of : (a b c d : List ℕ) → a ≡ c → b ≡ d → ◌≡◌ {A = List ℕ × List ℕ} (a, b) (c, d)
pair_of a b c d e f = λ i. (e i, f i)

-- a left side that begins with a hash sign
pub no_low : (names : List (List ℕ)) (left right rest : List ℕ) → left ≡ 35 ∷ rest → IsNoText (IsBound (length names)) (bound_texts names) (left, right) → IsNoText (IsRelation (length names)) (side_texts names) (left, right)
no_low names left right rest hash none (Low k x) good same = none (record { constant = k; variable = x }) good same
no_low names left right rest hash none (Sub x y) good same = dtv_hash x left rest (left_of _ _ _ _ same) hash
no_low names left right rest hash none (Up x k) good same = dtv_hash x left rest (left_of _ _ _ _ same) hash
no_low names left right rest hash none (Var x) good same = good
no_low names left right rest hash none (Same x y) good same = good

-- a right side that does
pub no_up : (names : List (List ℕ)) (left right rest : List ℕ) → ((r : List ℕ) → left ≢ 35 ∷ r) → right ≡ 35 ∷ rest → IsNoText (IsBound (length names)) (bound_texts names) (right, left) → IsNoText (IsRelation (length names)) (side_texts names) (left, right)
no_up names left right rest plain hash none (Low k x) good same = plain _ (sym (left_of _ _ _ _ same))
no_up names left right rest plain hash none (Sub x y) good same = dtv_hash y right rest (right_of _ _ _ _ same) hash
no_up names left right rest plain hash none (Up x k) good same = none (record { constant = k; variable = x }) (good.1, good.0) (pair_of _ _ _ _ (right_of _ _ _ _ same) (left_of _ _ _ _ same))
no_up names left right rest plain hash none (Var x) good same = good
no_up names left right rest plain hash none (Same x y) good same = good

-- neither side does
pub no_sub : (names : List (List ℕ)) (left right : List ℕ) → ((r : List ℕ) → left ≢ 35 ∷ r) → ((r : List ℕ) → right ≢ 35 ∷ r) → IsNoText IsPair pair_texts (left, right) → IsNoText (IsRelation (length names)) (side_texts names) (left, right)
no_sub names left right plain plain' none (Low k x) good same = plain _ (sym (left_of _ _ _ _ same))
no_sub names left right plain plain' none (Sub x y) good same = none (record { left = x; right = y }) good same
no_sub names left right plain plain' none (Up x k) good same = plain' _ (sym (right_of _ _ _ _ same))
no_sub names left right plain plain' none (Var x) good same = good
no_sub names left right plain plain' none (Same x y) good same = good

-- the parts of a text, where its first side has no space and a space comes next
pub two_parts : (a s b text front back : List ℕ) → HasNo 32 a → IsCut 32 text front back → (a ++ 32 ∷ s) ++ b ≡ text → (a ≡ front) × (32 ∷ (s ++ b) ≡ back)
two_parts a s b text front back clear cut same =
    let whole : a ++ 32 ∷ (s ++ b) ≡ front ++ back = sym (append_assoc a (32 ∷ s) b) ∙ (same ∙ cut.joined) in
    one_cut 32 a (32 ∷ (s ++ b)) front back whole clear refl cut.clear cut.stops

pub no_space : (text front back : List ℕ) → IsCut 32 text front back → ((r : List ℕ) → back ≢ 32 ∷ r) → IsNoText IsPair (λ p. dtv_text p.left ++ codes " " ++ dtv_text p.right) text
no_space text front back cut none p good same =
    let parts = two_parts (dtv_text p.left) [] (dtv_text p.right) text front back (HasNo-dtv p.left good.0) cut same in
    none _ (sym parts.1)

pub no_spaced : (text front back right : List ℕ) → IsCut 32 text front back → back ≡ 32 ∷ right → IsNoText IsPair pair_texts (front, right) → IsNoText IsPair (λ p. dtv_text p.left ++ codes " " ++ dtv_text p.right) text
no_spaced text front back right cut is none p good same =
    let parts = two_parts (dtv_text p.left) [] (dtv_text p.right) text front back (HasNo-dtv p.left good.0) cut same in
    none p good (pair_of _ _ _ _ parts.0 (cc (parts.1, is)))

-- a text that begins as that of a `same` does
pub no_same : (names : List (List ℕ)) (text rest : List ℕ) → text ≡ codes "same " ++ rest → IsNoText IsPair (λ p. dtv_text p.left ++ codes " " ++ dtv_text p.right) rest → IsNoText (IsLine (length names)) (line_text names) text
no_same names text rest is none (Same x y) good same = none (record { left = x; right = y }) good (cc (same, is))
no_same names text rest is none (Var x) good same = let h = first_byte _ _ _ _ (same ∙ is) in absurd (omega arith)
no_same names text rest is none (Low k x) good same = let h = first_byte _ _ _ _ (same ∙ is) in absurd (omega arith)
no_same names text rest is none (Sub x y) good same = no_base_byte 115 (inr (inl refl)) (dtv_byte x 115 (codes " <= " ++ dtv_text y) _ (sym (append_assoc (dtv_text x) (codes " <= ") (dtv_text y)) ∙ (same ∙ is)))
no_same names text rest is none (Up x k) good same = no_base_byte 115 (inr (inl refl)) (dtv_byte x 115 (codes " <= " ++ constant_text names k) _ (sym (append_assoc (dtv_text x) (codes " <= ") (constant_text names k)) ∙ (same ∙ is)))

-- what a line is that is no `var` and no `same`: a relation, whose text is cut at the first space
relation_of : (names : List (List ℕ)) (text front back : List ℕ) (l : Line) → AreNames names → IsCut 32 text front back → ((r : List ℕ) → text ≢ codes "var " ++ r) → ((r : List ℕ) → text ≢ codes "same " ++ r) → IsLine (length names) l → line_text names l ≡ text → IsRelation (length names) l × (r : List ℕ) × (side_texts names l ≡ (front, r)) × (codes " <= " ++ r ≡ back)
relation_of names text front back (Var x) fine cut no_var no_same good same = absurd (no_var _ (sym same))
relation_of names text front back (Same x y) fine cut no_var no_same good same = absurd (no_same _ (sym same))
relation_of names text front back (Sub x y) fine cut no_var no_same good same =
    let parts = two_parts (dtv_text x) (codes "<= ") (dtv_text y) text front back (HasNo-dtv x good.0) cut same in
    (good, dtv_text y, pair_of _ _ _ _ parts.0 refl, parts.1)
relation_of names text front back (Low k x) fine cut no_var no_same good same =
    let parts = two_parts (constant_text names k) (codes "<= ") (dtv_text x) text front back (HasNo-constant names k fine good.0) cut same in
    (good, dtv_text x, pair_of _ _ _ _ parts.0 refl, parts.1)
relation_of names text front back (Up x k) fine cut no_var no_same good same =
    let parts = two_parts (dtv_text x) (codes "<= ") (constant_text names k) text front back (HasNo-dtv x good.0) cut same in
    (good, constant_text names k, pair_of _ _ _ _ parts.0 refl, parts.1)

pub no_sign : (names : List (List ℕ)) (text front back : List ℕ) → AreNames names → IsCut 32 text front back → ((r : List ℕ) → text ≢ codes "var " ++ r) → ((r : List ℕ) → text ≢ codes "same " ++ r) → ((r : List ℕ) → back ≢ codes " <= " ++ r) → IsNoText (IsLine (length names)) (line_text names) text
no_sign names text front back fine cut no_var no_same none l good same =
    let parts = relation_of names text front back l fine cut no_var no_same good same in none parts.1 (sym parts.3)

pub no_relation : (names : List (List ℕ)) (text front back right : List ℕ) → AreNames names → IsCut 32 text front back → ((r : List ℕ) → text ≢ codes "var " ++ r) → ((r : List ℕ) → text ≢ codes "same " ++ r) → back ≡ codes " <= " ++ right → IsNoText (IsRelation (length names)) (side_texts names) (front, right) → IsNoText (IsLine (length names)) (line_text names) text
no_relation names text front back right fine cut no_var no_same is none l good same =
    let parts = relation_of names text front back l fine cut no_var no_same good same in
    let rest : parts.1 ≡ right = append_cancel_left (codes " <= ") parts.1 right (parts.3 ∙ is) in
    none l parts.0 (parts.2 ∙ pair_of front parts.1 front right refl rest)

-- a text of no line is that of no judgement
pub no_line : (names : List (List ℕ)) (text : List ℕ) → IsNoText (IsLine (length names)) (line_text names) text → IsNoText (IsJudge (length names)) (judge_text names) text
no_line names text none (JudgeVar x) good same = none (Var x) good same
no_line names text none (JudgeSub x y) good same = none (Sub x y) good same
no_line names text none (JudgeLow k x) good same = none (Low k x) good same
no_line names text none (JudgeUp x k) good same = none (Up x k) good same
