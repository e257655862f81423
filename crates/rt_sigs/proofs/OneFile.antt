-- A text is that of one list of signatures alone.
use Rattle.std.proofs.Common.{◌≡◌, ◌≢◌, ℕ, ◌+◌, ◌⊎◌, inl, inr, Bool, true, false, Option, Some, None, List, [], ◌∷◌, ◌++◌, All, codes, length, refl, sym, ap, ◌∙◌, arith, append_assoc}
use Rattle.std.specs.List.{flat_map}
use Rattle.std.proofs.lemmas.List.{append_cancel_left}
use Rattle.std.proofs.lemmas.List.Elements.{All-head, All-tail}
use Rattle.std.proofs.Props.{props}
use mathlib.Core.HLevel.{is_prop→PathP}
use Rattle.rt_lines.specs.declared.line.Line.{Line}
use Rattle.rt_lines.specs.declared.line.Line.TheVariants.{Var, Same, Sub, Low, Up}
use Rattle.rt_lines.specs.Names.{AreNames}
use Rattle.rt_texts.specs.Readings.{HasNo}
use Rattle.rt_texts.specs.Texts.{dtv_text, constant_text, line_text, lines_text}
use Rattle.rt_texts.proofs.Cuts.{HasNo-append, one_cut}
use Rattle.rt_texts.proofs.LineTexts.{dtv_byte, first_byte}
use Rattle.rt_texts.proofs.OneText.{one_line}
use Rattle.rt_scheme.specs.declared.scheme.Scheme.{Scheme}
use Rattle.rt_scheme.specs.Schemes.{AreSchemeLines}
use Rattle.rt_scheme.specs.NameTexts.{name_text}
use Rattle.rt_scheme.proofs.NamesRead.{one_name}
use Rattle.rt_sigs.specs.declared.version.Version.TheVariants.{First, Second}
use Rattle.rt_sigs.specs.declared.prototype.Prototype.{Prototype}
use Rattle.rt_sigs.specs.Signatures.{Signature, IsSignature, IsSignatureLine}
use Rattle.rt_sigs.specs.SignatureTexts.{heading_text, args_text, remarks_text, signature_text}
use Rattle.rt_sigs.specs.Laws.{OneFileLaw}
use Rattle.rt_texts.proofs.Clear.{HasNo-above}
use Rattle.rt_scheme.proofs.Clear.{AreAbove-line, AreAbove-name}

-- a byte that a line may begin with is neither that of `args`, nor that of `noreturn`, nor that of `end`
abbrev IsOther : ℕ → Type 0
IsOther c = (c ≢ 97) × (c ≢ 110) × (c ≢ 101)

letter : (c : ℕ) → (c ≡ 102) ⊎ ((c ≡ 103) ⊎ ((c ≡ 116) ⊎ (c ≡ 120))) → IsOther c
letter c (inl e) = (λ same. absurd (omega (arith, e, same)), λ same. absurd (omega (arith, e, same)), λ same. absurd (omega (arith, e, same)))
letter c (inr (inl e)) = (λ same. absurd (omega (arith, e, same)), λ same. absurd (omega (arith, e, same)), λ same. absurd (omega (arith, e, same)))
letter c (inr (inr (inl e))) = (λ same. absurd (omega (arith, e, same)), λ same. absurd (omega (arith, e, same)), λ same. absurd (omega (arith, e, same)))
letter c (inr (inr (inr e))) = (λ same. absurd (omega (arith, e, same)), λ same. absurd (omega (arith, e, same)), λ same. absurd (omega (arith, e, same)))

pub line_byte : (names : List (List ℕ)) (l : Line) (c : ℕ) (more rest : List ℕ) → line_text names l ++ more ≡ c ∷ rest → IsOther c
line_byte names (Var x) c more rest e =
    let is : 118 ≡ c = first_byte 118 c _ rest e in (λ same. absurd (omega (arith, is, same)), λ same. absurd (omega (arith, is, same)), λ same. absurd (omega (arith, is, same)))
line_byte names (Same x y) c more rest e =
    let is : 115 ≡ c = first_byte 115 c _ rest e in (λ same. absurd (omega (arith, is, same)), λ same. absurd (omega (arith, is, same)), λ same. absurd (omega (arith, is, same)))
line_byte names (Low k x) c more rest e =
    let is : 35 ≡ c = first_byte 35 c _ rest e in (λ same. absurd (omega (arith, is, same)), λ same. absurd (omega (arith, is, same)), λ same. absurd (omega (arith, is, same)))
line_byte names (Sub x y) c more rest e =
    letter c (dtv_byte x c (codes " <= " ++ (dtv_text y ++ more)) rest
    (sym (append_assoc (dtv_text x ++ codes " <= ") (dtv_text y) more ∙ append_assoc (dtv_text x) (codes " <= ") (dtv_text y ++ more)) ∙ e))
line_byte names (Up x k) c more rest e =
    letter c (dtv_byte x c (codes " <= " ++ (constant_text names k ++ more)) rest
    (sym (append_assoc (dtv_text x ++ codes " <= ") (constant_text names k) more ∙ append_assoc (dtv_text x) (codes " <= ") (constant_text names k ++ more)) ∙ e))

-- a text of lines and more, of which the first line is taken
pub lines_first : (names : List (List ℕ)) (l : Line) (ls : List Line) (more : List ℕ) → lines_text names (l ∷ ls) ++ more ≡ line_text names l ++ 10 ∷ (lines_text names ls ++ more)
lines_first names l ls more = append_assoc (line_text names l ++ 10 ∷ []) (lines_text names ls) more ∙ append_assoc (line_text names l) (10 ∷ []) (lines_text names ls ++ more)

-- the lines of a signature, its end and more begin with no remark
abbrev pub IsNoRemark : List ℕ → Type 0
IsNoRemark text = ((rest : List ℕ) → text ≢ 97 ∷ rest) × ((rest : List ℕ) → text ≢ 110 ∷ rest)

pub no_remark : (names : List (List ℕ)) (ls : List Line) (more : List ℕ) → IsNoRemark (lines_text names ls ++ (codes "end\n" ++ more))
no_remark names [] more =
    ((λ rest e. let is : 101 ≡ 97 = first_byte 101 97 _ rest e in absurd (omega (arith, is))), λ rest e. let is : 101 ≡ 110 = first_byte 101 110 _ rest e in absurd (omega (arith, is)))
no_remark names (l ∷ ls) more =
    let first = lines_first names l ls (codes "end\n" ++ more) in
    let inner : List ℕ = 10 ∷ (lines_text names ls ++ (codes "end\n" ++ more)) in
    ((λ rest e. (line_byte names l 97 inner rest (sym first ∙ e)).0 refl), λ rest e. (line_byte names l 110 inner rest (sym first ∙ e)).1 refl)

-- remarks before a text that begins with none
same_args : (a b : Option ℕ) (low high : List ℕ) → IsNoRemark low → IsNoRemark high → args_text a ++ low ≡ args_text b ++ high → (a ≡ b) × (low ≡ high)
same_args None None low high k h e = (refl, e)
same_args None (Some m) low high k h e = absurd (k.0 _ e)
same_args (Some n) None low high k h e = absurd (h.0 _ (sym e))
same_args (Some n) (Some m) low high k h e =
    let rest : (48 + n) ∷ 10 ∷ low ≡ (48 + m) ∷ 10 ∷ high = append_cancel_left (codes "args ") _ _ e in
    let digit : 48 + n ≡ 48 + m = cc in
    let left : low ≡ high = cc in
    let same : n ≡ m = omega (arith, digit) in
    (ap Some same, left)

same_remarks : (r t : Bool) (a b : Option ℕ) (low high : List ℕ) → IsNoRemark low → IsNoRemark high → remarks_text r a ++ low ≡ remarks_text t b ++ high → (r ≡ t) × (a ≡ b) × (low ≡ high)
same_remarks true true a b low high k h e = let parts = same_args a b low high k h e in (refl, parts.0, parts.1)
same_remarks false false a b low high k h e =
    let parts = same_args a b low high k h (append_cancel_left (codes "noreturn\n") (args_text a ++ low) (args_text b ++ high) e) in (refl, parts.0, parts.1)
same_remarks true false None b low high k h e = absurd (k.1 _ e)
same_remarks true false (Some n) b low high k h e = let is : 97 ≡ 110 = first_byte 97 110 _ _ e in absurd (omega (arith, is))
same_remarks false true a None low high k h e = absurd (h.1 _ (sym e))
same_remarks false true a (Some m) low high k h e = let is : 110 ≡ 97 = first_byte 110 97 _ _ e in absurd (omega (arith, is))

-- a scheme is its procedure's number and its lines
pub one_scheme : (s t : Scheme) → s.base ≡ t.base → s.lines ≡ t.lines → s ≡ t
one_scheme s t base lines = λ i. record {
  base = base i;
  lines = lines i;
  bases = is_prop→PathP (λ j. AreSchemeLines (base j) (lines j)) (λ j. hlevel props) s.bases t.bases i;
}

module _ (names : List (List ℕ)) (fine : AreNames names) where
  pub clear_line : (l : Line) → IsSignatureLine (length names) l → HasNo 10 (line_text names l)
  clear_line l good = HasNo-above 10 31 (line_text names l) (omega arith) (AreAbove-line names l fine good.0)

  -- lines up to an end
  same_lines : (ls ks : List Line) (more rest : List ℕ) → All (IsSignatureLine (length names)) ls → All (IsSignatureLine (length names)) ks
      → lines_text names ls ++ (codes "end\n" ++ more) ≡ lines_text names ks ++ (codes "end\n" ++ rest) → (ls ≡ ks) × (more ≡ rest)
  same_lines [] [] more rest g h e = (refl, append_cancel_left (codes "end\n") more rest e)
  same_lines [] (k ∷ ks) more rest g h e = absurd ((line_byte names k 101 _ _ (sym (e ∙ lines_first names k ks (codes "end\n" ++ rest)))).2 refl)
  same_lines (l ∷ ls) [] more rest g h e = absurd ((line_byte names l 101 _ _ (sym (lines_first names l ls (codes "end\n" ++ more)) ∙ e)).2 refl)
  same_lines (l ∷ ls) (k ∷ ks) more rest g h e =
      let good = All-head (IsSignatureLine (length names)) l ls g in
      let right = All-head (IsSignatureLine (length names)) k ks h in
      let parts = one_cut 10 (line_text names l) (10 ∷ (lines_text names ls ++ (codes "end\n" ++ more))) (line_text names k) (10 ∷ (lines_text names ks ++ (codes "end\n" ++ rest)))
      (sym (lines_first names l ls (codes "end\n" ++ more)) ∙ (e ∙ lines_first names k ks (codes "end\n" ++ rest))) (clear_line l good) refl (clear_line k right) refl in
      let first : l ≡ k = one_line names l k fine good.0 right.0 parts.0 in
      let others = same_lines ls ks more rest (All-tail (IsSignatureLine (length names)) l ls g) (All-tail (IsSignatureLine (length names)) k ks h) (cc parts.1) in
      (cc (first, others.0), others.1)

  -- a signature and more
  pub signature_first : (n : List ℕ) (p : Prototype) (more : List ℕ)
      → signature_text names (n, p) ++ more ≡ heading_text n ++ 10 ∷ (remarks_text p.returns p.args ++ (lines_text names p.scheme.lines ++ (codes "end\n" ++ more)))
  signature_first n p more =
      let remarks : List ℕ = remarks_text p.returns p.args in
      let lines : List ℕ = lines_text names p.scheme.lines in
      append_assoc (heading_text n) (10 ∷ (remarks ++ (lines ++ codes "end\n"))) more
      ∙ ap (λ s. heading_text n ++ 10 ∷ s) (append_assoc remarks (lines ++ codes "end\n") more ∙ ap (λ s. remarks ++ s) (append_assoc lines (codes "end\n") more))

  pub clear_heading : (n : List ℕ) → HasNo 10 (heading_text n)
  clear_heading n = HasNo-append 10 (codes "sig ") (name_text n) ((λ e. absurd (omega (arith, e))), ((λ e. absurd (omega (arith, e))), ((λ e. absurd (omega (arith, e))), ((λ e. absurd (omega (arith, e))), tt)))) (HasNo-above 10 31 (name_text n) (omega arith) (AreAbove-name n))

  pub same_signature : (n m : List ℕ) (p q : Prototype) (more rest : List ℕ) → IsSignature (length names) (n, p) → IsSignature (length names) (m, q)
      → signature_text names (n, p) ++ more ≡ signature_text names (m, q) ++ rest → (n ≡ m) × (p ≡ q) × (more ≡ rest)
  same_signature n m p q more rest g h e =
      let parts = one_cut 10 (heading_text n) _ (heading_text m) _ (sym (signature_first n p more) ∙ (e ∙ signature_first m q rest)) (clear_heading n) refl (clear_heading m) refl in
      let name : n ≡ m = one_name n m g.bytes h.bytes (append_cancel_left (codes "sig ") (name_text n) (name_text m) parts.0) in
      let said = same_remarks p.returns q.returns p.args q.args _ _ (no_remark names p.scheme.lines more) (no_remark names q.scheme.lines rest) (cc parts.1) in
      let body = same_lines p.scheme.lines q.scheme.lines more rest g.good h.good said.2 in
      let scheme : p.scheme ≡ q.scheme = one_scheme p.scheme q.scheme (g.own ∙ sym h.own) body.0 in
      (name, (λ i. record { scheme = scheme i; returns = said.0 i; args = said.1 i }), body.1)

  same_files : (first second : List Signature) → All (IsSignature (length names)) first → All (IsSignature (length names)) second
      → flat_map (signature_text names) first ≡ flat_map (signature_text names) second → first ≡ second
  same_files [] [] g h e = refl
  same_files [] (t ∷ second) g h e = cc
  same_files (s ∷ first) [] g h e = cc
  same_files (s ∷ first) (t ∷ second) g h e =
      let here = same_signature s.0 t.0 s.1 t.1 (flat_map (signature_text names) first) (flat_map (signature_text names) second) (All-head (IsSignature (length names)) s first g)
      (All-head (IsSignature (length names)) t second h) e in
      let others = same_files first second (All-tail (IsSignature (length names)) s first g) (All-tail (IsSignature (length names)) t second h) here.2 in
      λ i. (here.0 i, here.1 i) ∷ others i

  -- a text of signatures doesn't begin with the second version's line
  pub no_version : (signatures : List Signature) (rest : List ℕ) → flat_map (signature_text names) signatures ≢ 118 ∷ rest
  no_version [] rest e = cc
  no_version (s ∷ signatures) rest e = let is : 115 ≡ 118 = first_byte 115 118 _ rest e in absurd (omega (arith, is))

pub one_file_lem : OneFileLaw
one_file_lem names text first second fine (First, g) (First, h) = same_files names fine first second g.good.each h.good.each (g.is ∙ sym h.is)
one_file_lem names text first second fine (Second, g) (Second, h) = same_files names fine first second g.good.each h.good.each (append_cancel_left (codes "version 2\n") _ _ (g.is ∙ sym h.is))
one_file_lem names text first second fine (First, g) (Second, h) = absurd (no_version names fine first _ (g.is ∙ sym h.is))
one_file_lem names text first second fine (Second, g) (First, h) = absurd (no_version names fine second _ (h.is ∙ sym g.is))
