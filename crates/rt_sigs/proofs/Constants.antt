-- Lines with a constant.
use Rattle.std.proofs.Common.{◌≡◌, ◌≢◌, ℕ, zero, suc, ◌↔◌, ◌⊎◌, inl, inr, Bool, false, ◌&&◌, IsTrue, Option, Some, None, MatchOption, Bor, List, [], ◌∷◌, ◌++◌, Contains, length, codes, sym, ap, subst, ◌∙◌, arith}
use Rattle.std.proofs.lemmas.List.Elements.{All-cons}
use Rattle.std.proofs.lemmas.Bool.{and_parts, and_from}
use Rattle.rt_lines.specs.declared.line.Line.{Line}
use Rattle.rt_lines.specs.declared.line.Line.TheVariants.{Var, Same, Sub, Low, Up}
use Rattle.rt_lines.specs.Names.{IsName, AreNames}
use Rattle.rt_texts.specs.Goods.{IsLine}
use Rattle.rt_texts.specs.Readings.{IsCut, IsNoText}
use Rattle.rt_texts.specs.Texts.{dtv_text, line_text}
use Rattle.rt_texts.proofs.Clear.{HasNo-dtv, HasNo-constant}
use Rattle.rt_texts.proofs.LineTexts.{dtv_hash, two_parts}
use Rattle.rt_texts.proofs.OneText.{one_line}
use Rattle.rt_sigs.specs.Signatures.{is_signature_line, IsSignatureLine}
use Rattle.rt_sigs.specs.Faults.{has_constant, IsLineWith, IsUnknown}

one_name : (name : List ℕ) → IsName name → AreNames (name ∷ [])
one_name name spelled =
    record { spelled = All-cons IsName name [] spelled (λ k d h. absurd (omega arith)); distinct = λ i j d less within. absurd (omega arith); few = omega arith }

-- the text is cut at its first space before the name or after the sign
abbrev pub IsNamedBy : List ℕ → List ℕ → List ℕ → Type 0
IsNamedBy name front back = (front ≡ 35 ∷ name) ⊎ (((r : List ℕ) → front ≢ 35 ∷ r) × (back ≡ codes " <= #" ++ name))

pub named_by : (name text front back : List ℕ) (line : Line) → IsCut 32 text front back → IsLineWith name text line → IsNamedBy name front back
named_by name text front back (Var x) cut h = let no = h.constant in cc
named_by name text front back (Same x y) cut h = let no = h.constant in cc
named_by name text front back (Sub x y) cut h = let no = h.constant in cc
named_by name text front back (Low zero x) cut h =
    let parts = two_parts (35 ∷ name) (codes "<= ") (dtv_text x) text front back (HasNo-constant (name ∷ []) 0 (one_name name h.spelled) (omega arith)) cut h.is in
    inl (sym parts.0)
named_by name text front back (Low (suc k) x) cut h = let good = h.good in absurd (omega (arith, good.0))
named_by name text front back (Up x zero) cut h =
    let good = h.good in
    let parts = two_parts (dtv_text x) (codes "<= ") (35 ∷ name) text front back (HasNo-dtv x good.0) cut h.is in
    inr (λ r e. dtv_hash x front r parts.0 e, sym parts.1)
named_by name text front back (Up x (suc k)) cut h = let good = h.good in absurd (omega (arith, good.1))

-- the left side's name is the constant's
pub named_left : (text front back found : List ℕ) → IsCut 32 text front back → front ≡ codes "#" ++ found → (name : List ℕ) (line : Line) → IsLineWith name text line → name ≡ found
named_left text front back found cut is name line h = by (named_by name text front back line cut h)
  where
    by : IsNamedBy name front back → name ≡ found
    by (inl e) = cc
    by (inr (none, e)) = absurd (none found is)

-- else the right side's is
pub named_right : (text front back found : List ℕ) → IsCut 32 text front back → ((r : List ℕ) → front ≢ codes "#" ++ r) → back ≡ codes " <= #" ++ found → (name : List ℕ) (line : Line) → IsLineWith name text line → name ≡ found
named_right text front back found cut none is name line h = by (named_by name text front back line cut h)
  where
    by : IsNamedBy name front back → name ≡ found
    by (inl e) = absurd (none name e)
    by (inr (other, e)) = cc

-- else there is none
pub named_none : (text front back : List ℕ) → IsCut 32 text front back → ((r : List ℕ) → front ≢ codes "#" ++ r) → ((r : List ℕ) → back ≢ codes " <= #" ++ r) → (name : List ℕ) (line : Line) → IsLineWith name text line → ⊥
named_none text front back cut none nothing name line h = by (named_by name text front back line cut h)
  where
    by : IsNamedBy name front back → ⊥
    by (inl e) = none name e
    by (inr (other, e)) = nothing name e

-- what is read where the name is the only one that is known
unknown_if_only : (names : List (List ℕ)) (text name : List ℕ) (line : Line) (r : Bool) → ((n : List ℕ) (l : Line) → IsLineWith n text l → n ≡ name) → IsName name → (Contains names name → ⊥) → IsLine 1 line → line_text (name ∷ []) line ≡ text → r ≡ (has_constant line && is_signature_line line) → IsTrue r ↔ IsUnknown names text
unknown_if_only names text name line r only spelled absent good is test = (forth, back)
  where
    forth : IsTrue r → IsUnknown names text
    forth h =
        let parts = and_parts (has_constant line) (is_signature_line line) (sym test ∙ h) in
        record { name = name; absent = absent; line = line; with_name = record { spelled = spelled; constant = parts.0; good = good; is = is }; allowed = parts.1 }

    back : IsUnknown names text → IsTrue r
    back u =
        let named : u.name ≡ name = only u.name u.line u.with_name in
        let theirs : line_text (name ∷ []) u.line ≡ line_text (name ∷ []) line = ap (λ n. line_text (n ∷ []) u.line) (sym named) ∙ (u.with_name.is ∙ sym is) in
        let same : u.line ≡ line = one_line (name ∷ []) u.line line (one_name name spelled) u.with_name.good good theirs in
        let constant : IsTrue (has_constant line) = sym (ap has_constant same) ∙ u.with_name.constant in
        let allowed : IsTrue (is_signature_line line) = sym (ap is_signature_line same) ∙ u.allowed in
        test ∙ and_from (has_constant line) (is_signature_line line) constant allowed

pub unknown_if : (names one none : List (List ℕ)) (text name : List ℕ) (line : Line) (r : Bool) → one ≡ none ++ name ∷ [] → none ≡ [] → ((n : List ℕ) (l : Line) → IsLineWith n text l → n ≡ name) → IsName name → (Contains names name → ⊥) → IsLine (length one) line × (line_text one line ≡ text) → r ≡ (has_constant line && is_signature_line line) → IsTrue r ↔ IsUnknown names text
unknown_if names one none text name line r pushed empty only spelled absent read test =
    let known : one ≡ name ∷ [] = pushed ∙ ap (λ n. n ++ name ∷ []) empty in
    let there : IsLine 1 line × (line_text (name ∷ []) line ≡ text) = subst (λ n. IsLine (length n) line × (line_text n line ≡ text)) known read in
    unknown_if_only names text name line r only spelled absent there.0 there.1 test

-- what is read of the right side
pub named_of : (text front back : List ℕ) (r : Option (Bor (List ℕ))) → IsCut 32 text front back → ((r : List ℕ) → front ≢ codes "#" ++ r) → MatchOption r ((rest : List ℕ) → back ≢ codes " <= #" ++ rest) (λ rest. back ≡ codes " <= #" ++ rest.now) → MatchOption r ((name : List ℕ) (line : Line) → IsLineWith name text line → ⊥) (λ found. (name : List ℕ) (line : Line) → IsLineWith name text line → name ≡ found.now)
named_of text front back None cut none nothing = named_none text front back cut none nothing
named_of text front back (Some found) cut none is = named_right text front back found.now cut none is

-- a line that is none of a signature
pub no_signature_line : (names : List (List ℕ)) (text : List ℕ) (line : Line) (r : Bool) → AreNames names → IsLine (length names) line → line_text names line ≡ text → r ≡ is_signature_line line → r ≡ false → IsNoText (IsSignatureLine (length names)) (line_text names) text
no_signature_line names text line r fine good is test none other (good', allowed) same =
    let one : other ≡ line = one_line names other line fine good' good (same ∙ sym is) in
    let both : is_signature_line other ≡ is_signature_line line = ap is_signature_line one in
    cc

-- what is no line's text is none of a signature's line
pub no_line : (names : List (List ℕ)) (text : List ℕ) → IsNoText (IsLine (length names)) (line_text names) text → IsNoText (IsSignatureLine (length names)) (line_text names) text
no_line names text none line (good, allowed) same = none line good same
