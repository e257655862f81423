-- A text of signatures has no fault.
use Rattle.std.proofs.Common.{◌≡◌, ◌≢◌, ℕ, ◌+◌, ◌<◌, ◌≤◌, ◌⊎◌, inl, inr, Bool, true, false, IsTrue, Option, Some, None, IfSome, List, [], ◌∷◌, ◌++◌, All, AllPairs, Contains, codes, length, get_or, slice_index_or, refl, sym, ap, ◌∙◌, subst, arith, append_assoc, append-nil, length-append}
use Rattle.std.specs.List.{flat_map}
use Rattle.std.proofs.lemmas.Bool.{cases_eq}
use Rattle.std.proofs.lemmas.List.{append_cancel_left, get_or_append_left}
use Rattle.std.proofs.Math.Seq.{get_or-append_seam}
use Rattle.std.proofs.lemmas.List.Elements.{All-head, All-tail, All-contains, Contains-append_right, Contains-get_or}
use Rattle.rt_base.proofs.Lists.{Contains-here}
use Rattle.rt_lines.specs.declared.line.Line.{Line}
use Rattle.rt_lines.specs.declared.line.Line.TheVariants.{Var, Same, Sub, Low, Up}
use Rattle.rt_lines.specs.Names.{AreNames}
use Rattle.rt_texts.specs.Goods.{IsLine}
use Rattle.rt_texts.specs.Readings.{HasNo, IsCut, IsNoText}
use Rattle.rt_texts.specs.Texts.{dtv_text, line_text, lines_text}
use Rattle.rt_texts.proofs.Clear.{HasNo-dtv, HasNo-constant}
use Rattle.rt_texts.proofs.Cuts.{one_cut}
use Rattle.rt_texts.proofs.LineTexts.{IsBaseByte, dtv_byte, dtv_hash, first_byte, two_parts}
use Rattle.rt_texts.proofs.OneText.{one_line}
use Rattle.rt_scheme.specs.NameTexts.{name_text}
use Rattle.rt_scheme.specs.NameReadings.{AreBytes}
use Rattle.rt_scheme.proofs.NamesRead.{one_name}
use Rattle.rt_sigs.specs.declared.fault.SigFault.{SigFault}
use Rattle.rt_sigs.specs.declared.fault.SigFault.TheVariants.{BadLine, UnknownConst, Args, Twice, TooLarge, Memory}
use Rattle.rt_sigs.specs.declared.version.Version.{Version}
use Rattle.rt_sigs.specs.declared.version.Version.TheVariants.{First, Second}
use Rattle.rt_sigs.specs.Signatures.{Signature, IsSignature, IsSignatureLine, AreSignatures, HasNamed, is_within, most_args}
use Rattle.rt_sigs.specs.SignatureTexts.{heading_text, args_text, remarks_text, signature_text, version_text, file_text, IsSayable, IsOfVersion, IsFileIn}
use Rattle.rt_sigs.specs.Faults.{has_constant, HasCount, HasRemark, IsUnknown, IsFirstLine, IsBadInside, IsPastArgs, IsInside, IsBadBetween, IsTwice, IsFault, most_bytes}
use Rattle.rt_sigs.specs.Laws.{NoFaultLaw}
use Rattle.rt_sigs.proofs.Constants.{IsNamedBy, named_by}
use Rattle.rt_sigs.proofs.OneFile.{IsNoRemark, line_byte, lines_first, no_remark, clear_line, signature_first, clear_heading, same_signature, no_version}

-- a line end is in a text with one
pub has_end : (a b : List ℕ) → HasNo 10 (a ++ 10 ∷ b) → ⊥
has_end [] b h = h.0 refl
has_end (x ∷ a) b h = has_end a b h.1

pub some_text : (a b : List ℕ) (c : ℕ) → [] ≢ a ++ c ∷ b
some_text [] b c e = cc
some_text (x ∷ a) b c e = cc

-- Constants: a line with a name that is unknown is no line whose constant is known.

cut_of : (text : List ℕ) → (front : List ℕ) × (back : List ℕ) × IsCut 32 text front back
cut_of [] = ([], [], record { joined = refl; clear = tt; stops = tt })
cut_of (b ∷ text) = by (cases_eq b 32) (cut_of text)
  where
    by : (b ≡ 32) ⊎ (b ≢ 32) → (front : List ℕ) × (back : List ℕ) × IsCut 32 text front back → (front : List ℕ) × (back : List ℕ) × IsCut 32 (b ∷ text) front back
    by (inl e) (front, back, cut) = ([], b ∷ text, record { joined = refl; clear = tt; stops = e })
    by (inr other) (front, back, cut) = (b ∷ front, back, record { joined = ap (λ s. b ∷ s) cut.joined; clear = (other, cut.clear); stops = cut.stops })

same_named : (front back a b : List ℕ) → IsNamedBy a front back → IsNamedBy b front back → a ≡ b
same_named front back a b (inl e) (inl f) = let whole : 35 ∷ a ≡ 35 ∷ b = sym e ∙ f in cc
same_named front back a b (inl e) (inr (other, f)) = absurd (other a e)
same_named front back a b (inr (other, e)) (inl f) = absurd (other b f)
same_named front back a b (inr (other, e)) (inr (another, f)) = append_cancel_left (codes " <= #") a b (sym e ∙ f)

no_base_byte : IsBaseByte 60 → ⊥
no_base_byte (inl e) = absurd (omega (arith, e))
no_base_byte (inr (inl e)) = absurd (omega (arith, e))
no_base_byte (inr (inr (inl e))) = absurd (omega (arith, e))
no_base_byte (inr (inr (inr e))) = absurd (omega (arith, e))

-- after a word and a space stands a variable, so no constant is named
no_named : (c : ℕ) (word right front back name : List ℕ) → c ≢ 35 → c ∷ word ≡ front → 32 ∷ right ≡ back → ((rest : List ℕ) → right ≢ 60 ∷ rest) → IsNamedBy name front back → ⊥
no_named c word right front back name other e f none (inl g) = other (first_byte c 35 word name (e ∙ g))
no_named c word right front back name other e f none (inr (another, g)) = none (codes "= #" ++ name) (append_cancel_left (32 ∷ []) right (60 ∷ (codes "= #" ++ name)) (f ∙ g))

clear_var : HasNo 32 (codes "var")
clear_var = ((λ e. absurd (omega (arith, e))), ((λ e. absurd (omega (arith, e))), ((λ e. absurd (omega (arith, e))), tt)))

clear_same : HasNo 32 (codes "same")
clear_same = ((λ e. absurd (omega (arith, e))), ((λ e. absurd (omega (arith, e))), ((λ e. absurd (omega (arith, e))), ((λ e. absurd (omega (arith, e))), tt))))

-- Remarks: no more of them stands there.

remark_byte : (v : Version) (r : Bool) (a : Option ℕ) (text : List ℕ) → HasRemark v r a text → ((rest : List ℕ) × (text ≡ 110 ∷ rest)) ⊎ ((rest : List ℕ) × (text ≡ 97 ∷ rest))
remark_byte First r a text h = absurd h
remark_byte Second true (Some n) text h = absurd h
remark_byte Second false (Some n) text h = absurd h
remark_byte Second true None text (inl (rest, e)) = inl (_, e)
remark_byte Second true None text (inr (n, rest, few, e)) = inr (_, e)
remark_byte Second false None text (n, rest, few, e) = inr (_, e)

pub quiet : (names : List (List ℕ)) (v : Version) (r : Bool) (a : Option ℕ) (ls : List Line) (rest : List ℕ) → (ls ≡ [] → HasRemark v r a rest → ⊥) → HasRemark v r a (lines_text names ls ++ rest) → ⊥
quiet names v r a [] rest h remark = h refl remark
quiet names v r a (l ∷ ls) rest h remark = by (remark_byte v r a (lines_text names (l ∷ ls) ++ rest) remark)
  where
    by : ((t : List ℕ) × (lines_text names (l ∷ ls) ++ rest ≡ 110 ∷ t)) ⊎ ((t : List ℕ) × (lines_text names (l ∷ ls) ++ rest ≡ 97 ∷ t)) → ⊥
    by (inl (t, e)) = (line_byte names l 110 _ t (sym (lines_first names l ls rest) ∙ e)).1 refl
    by (inr (t, e)) = (line_byte names l 97 _ t (sym (lines_first names l ls rest) ∙ e)).0 refl

pub args_alike : (a b : Option ℕ) (low high : List ℕ) → IfSome b (λ (n : ℕ). n ≤ most_args) → (a ≡ None → HasCount low → ⊥) → IsNoRemark high → args_text a ++ low ≡ args_text b ++ high → (a ≡ b) × (low ≡ high)
args_alike None None low high few k h e = (refl, e)
args_alike None (Some m) low high few k h e = absurd (k refl (m, high, few, e))
args_alike (Some n) None low high few k h e = absurd (h.0 _ (sym e))
args_alike (Some n) (Some m) low high few k h e =
    let rest : (48 + n) ∷ 10 ∷ low ≡ (48 + m) ∷ 10 ∷ high = append_cancel_left (codes "args ") _ _ e in
    let digit : 48 + n ≡ 48 + m = cc in
    let left : low ≡ high = cc in
    let same : n ≡ m = omega (arith, digit) in
    (ap Some same, left)

pub count_none : (r : Bool) (a : Option ℕ) (low : List ℕ) → (HasRemark Second r a low → ⊥) → a ≡ None → HasCount low → ⊥
count_none true None low h is count = h (inr count)
count_none false None low h is count = h count
count_none r (Some n) low h is count = no is
  where
    no : Some n ≡ None → ⊥
    no same = cc

remarks_alike : (r t : Bool) (a b : Option ℕ) (low high : List ℕ) → IfSome b (λ (n : ℕ). n ≤ most_args) → (HasRemark Second r a low → ⊥) → IsNoRemark high → remarks_text r a ++ low ≡ remarks_text t b ++ high
    → (r ≡ t) × (a ≡ b) × (low ≡ high)
remarks_alike true true a b low high few k h e = let parts = args_alike a b low high few (count_none true a low k) h e in (refl, parts.0, parts.1)
remarks_alike false false a b low high few k h e =
    let parts = args_alike a b low high few (count_none false a low k) h (append_cancel_left (codes "noreturn\n") (args_text a ++ low) (args_text b ++ high) e) in (refl, parts.0, parts.1)
remarks_alike true false None b low high few k h e = absurd (k (inl (args_text b ++ high, e)))
remarks_alike true false (Some n) b low high few k h e = let is : 97 ≡ 110 = first_byte 97 110 _ _ e in absurd (omega (arith, is))
remarks_alike false true a None low high few k h e = absurd (h.1 _ (sym e))
remarks_alike false true a (Some m) low high few k h e = let is : 110 ≡ 97 = first_byte 110 97 _ _ e in absurd (omega (arith, is))

pub plain_alike : (r t : Bool) (a b : Option ℕ) (low high : List ℕ) → IsSayable First r a → IsSayable First t b → remarks_text r a ++ low ≡ remarks_text t b ++ high → (r ≡ t) × (a ≡ b) × (low ≡ high)
plain_alike r t a b low high k h e =
    let left : remarks_text r a ≡ [] = ap (λ x. remarks_text x a) k.0 ∙ ap (remarks_text true) k.1 in
    let right : remarks_text t b ≡ [] = ap (λ x. remarks_text x b) h.0 ∙ ap (remarks_text true) h.1 in
    (k.0 ∙ sym h.0, k.1 ∙ sym h.1, sym (ap (λ s. s ++ low) left) ∙ (e ∙ ap (λ s. s ++ high) right))

pub said_alike : (v : Version) (r t : Bool) (a b : Option ℕ) (low high : List ℕ) → IsSayable v r a → IsSayable v t b → IfSome b (λ (n : ℕ). n ≤ most_args) → (HasRemark v r a low → ⊥) → IsNoRemark high
    → remarks_text r a ++ low ≡ remarks_text t b ++ high → (r ≡ t) × (a ≡ b) × (low ≡ high)
said_alike First r t a b low high k h few none clear e = plain_alike r t a b low high k h e
said_alike Second r t a b low high k h few none clear e = remarks_alike r t a b low high few none clear e

-- The rest of a text of signatures after some of it.

-- the rest is of lines of a signature, its end and more
pub record IsRest (names : List (List ℕ)) (args : Option ℕ) (rest : List ℕ) : Type 0 where
  pub lines : List Line
  pub more : List ℕ
  pub good : All (IsSignatureLine (length names)) lines
  pub within : All (λ line. IsTrue (is_within args line)) lines
  pub joined : lines_text names lines ++ (codes "end\n" ++ more) ≡ rest

-- its first line is `end`, or one of these lines
abbrev pub IsNext : List (List ℕ) → Option ℕ → List ℕ → Type 0
IsNext names args line = (codes "end" ≡ line) ⊎ ((l : Line) × IsSignatureLine (length names) l × IsTrue (is_within args l) × (line_text names l ≡ line))

module _ (names : List (List ℕ)) (fine : AreNames names) where
  all_good : List Signature → Type 0
  all_good signatures = All (IsSignature (length names)) signatures

  -- a text without a constant names none
  not_named : (text front back name : List ℕ) (l : Line) → IsCut 32 text front back → line_text names l ≡ text → IsLine (length names) l → has_constant l ≡ false → IsNamedBy name front back → ⊥
  not_named text front back name (Var x) cut is good none h =
      let parts = two_parts (codes "var") [] (dtv_text x) text front back clear_var cut is in
      no_named 118 (codes "ar") (dtv_text x) front back name (λ e. absurd (omega (arith, e))) parts.0 parts.1 (λ rest e. no_base_byte (dtv_byte x 60 [] rest (append-nil (dtv_text x) ∙ e))) h
  not_named text front back name (Same x y) cut is good none h =
      let right : List ℕ = (dtv_text x ++ codes " ") ++ dtv_text y in
      let parts = two_parts (codes "same") [] right text front back clear_same cut is in
      no_named 115 (codes "ame") right front back name (λ e. absurd (omega (arith, e))) parts.0 parts.1
      (λ rest e. no_base_byte (dtv_byte x 60 (codes " " ++ dtv_text y) rest (sym (append_assoc (dtv_text x) (codes " ") (dtv_text y)) ∙ e))) h
  not_named text front back name (Sub x y) cut is good none h = by (two_parts (dtv_text x) (codes "<= ") (dtv_text y) text front back (HasNo-dtv x good.0) cut is) h
    where
      by : (dtv_text x ≡ front) × (32 ∷ (codes "<= " ++ dtv_text y) ≡ back) → IsNamedBy name front back → ⊥
      by parts (inl e) = dtv_hash x front name parts.0 e
      by parts (inr (other, e)) = dtv_hash y (35 ∷ name) name (append_cancel_left (codes " <= ") (dtv_text y) (35 ∷ name) (parts.1 ∙ e)) refl
  not_named text front back name (Low k x) cut is good none h = cc
  not_named text front back name (Up x k) cut is good none h = cc

  -- one with a constant names a known one
  known_named : (text front back : List ℕ) (l : Line) → IsCut 32 text front back → line_text names l ≡ text → IsLine (length names) l → has_constant l ≡ true
      → (name : List ℕ) × Contains names name × IsNamedBy name front back
  known_named text front back (Low k x) cut is good has =
      let parts = two_parts (35 ∷ slice_index_or names k []) (codes "<= ") (dtv_text x) text front back (HasNo-constant names k fine good.0) cut is in
      (slice_index_or names k [], Contains-get_or names k [] good.0, inl (sym parts.0))
  known_named text front back (Up x k) cut is good has =
      let parts = two_parts (dtv_text x) (codes "<= ") (35 ∷ slice_index_or names k []) text front back (HasNo-dtv x good.0) cut is in
      (slice_index_or names k [], Contains-get_or names k [] good.1, inr (λ r e. dtv_hash x front r parts.0 e, sym parts.1))
  known_named text front back (Var x) cut is good has = cc
  known_named text front back (Same x y) cut is good has = cc
  known_named text front back (Sub x y) cut is good has = cc

  pub unknown_none : (text : List ℕ) (l : Line) → IsSignatureLine (length names) l → line_text names l ≡ text → IsUnknown names text → ⊥
  unknown_none text l good is u = by (cut_of text)
    where
      by : (front : List ℕ) × (back : List ℕ) × IsCut 32 text front back → ⊥
      by (front, back, cut) = on (has_constant l) refl (named_by u.name text front back u.line cut u.with_name)
        where
          on : (b : Bool) → has_constant l ≡ b → IsNamedBy u.name front back → ⊥
          on true e h =
              let (name, there, named) = known_named text front back l cut is good.0 e in
              u.absent (subst (Contains names) (same_named front back name u.name named h) there)
          on false e h = not_named text front back u.name l cut is good.0 e h

  -- the first line of such a rest
  pub next : (args : Option ℕ) (rest line : List ℕ) → IsRest names args rest → IsFirstLine rest line → IsNext names args line
  next args rest line r first = by r.lines r.good r.within r.joined
    where
      by : (ls : List Line) → All (IsSignatureLine (length names)) ls → All (λ l. IsTrue (is_within args l)) ls → lines_text names ls ++ (codes "end\n" ++ r.more) ≡ rest → IsNext names args line
      by [] good within e =
          inl (one_cut 10 (codes "end") (10 ∷ r.more) line (10 ∷ first.more) (e ∙ first.cut.joined) ((λ f. absurd (omega (arith, f))), ((λ f. absurd (omega (arith, f))), ((λ f. absurd (omega (arith, f))), tt))) refl first.cut.clear refl).0
      by (l ∷ ls) good within e =
          let here = All-head (IsSignatureLine (length names)) l ls good in
          let parts = one_cut 10 (line_text names l) (10 ∷ (lines_text names ls ++ (codes "end\n" ++ r.more))) line (10 ∷ first.more) (sym (lines_first names l ls (codes "end\n" ++ r.more)) ∙ (e ∙ first.cut.joined)) (clear_line names fine l here) refl first.cut.clear refl in
          inr (l, here, All-head (λ k. IsTrue (is_within args k)) l ls within, parts.0)

  pub ended : (args : Option ℕ) (rest : List ℕ) → IsRest names args rest → HasNo 10 rest → ⊥
  ended args rest r none = by r.lines r.joined
    where
      by : (ls : List Line) → lines_text names ls ++ (codes "end\n" ++ r.more) ≡ rest → ⊥
      by [] e = has_end (codes "end") r.more (subst (HasNo 10) (sym e) none)
      by (l ∷ ls) e = has_end (line_text names l) (lines_text names ls ++ (codes "end\n" ++ r.more)) (subst (HasNo 10) (sym (sym (lines_first names l ls (codes "end\n" ++ r.more)) ∙ e)) none)

  -- no line of a signature has the text `end`
  no_line_end : (ns : List (List ℕ)) (l : Line) → line_text ns l ≡ codes "end" → ⊥
  no_line_end ns l e = (line_byte ns l 101 [] (codes "nd") (append-nil (line_text ns l) ∙ e)).2 refl

  pub good_next : (args : Option ℕ) (line : List ℕ) → IsNext names args line → IsBadInside names line → ⊥
  good_next args line (inl e) bad = bad.no_end e
  good_next args line (inr (l, good, within, e)) bad = bad.no_line l good e

  pub known_next : (args : Option ℕ) (line : List ℕ) → IsNext names args line → IsUnknown names line → ⊥
  known_next args line (inl e) u = no_line_end (u.name ∷ []) u.line (u.with_name.is ∙ sym e)
  known_next args line (inr (l, good, within, e)) u = unknown_none line l good e u

  pub within_next : (args : Option ℕ) (line : List ℕ) → IsNext names args line → IsPastArgs names args line → ⊥
  within_next args line (inl e) p = no_line_end names p.line (p.is ∙ sym e)
  within_next args line (inr (l, good, within, e)) p =
      let same : l ≡ p.line = one_line names l p.line fine good.0 p.good.0 (e ∙ sym p.is) in
      let past : is_within args l ≡ false = ap (is_within args) same ∙ p.past in
      no (sym within ∙ past)
    where
      no : true ≡ false → ⊥
      no e = cc

  -- lines that stand before the rest
  pub rest_of_lines : (args : Option ℕ) (ls ks : List Line) (rest more : List ℕ) → All (IsSignatureLine (length names)) ls → All (IsSignatureLine (length names)) ks → All (λ l. IsTrue (is_within args l)) ks
      → lines_text names ls ++ rest ≡ lines_text names ks ++ (codes "end\n" ++ more) → IsRest names args rest
  rest_of_lines args [] ks rest more g h within e = record { lines = ks; more = more; good = h; within = within; joined = sym e }
  rest_of_lines args (l ∷ ls) [] rest more g h within e = absurd ((line_byte names l 101 _ _ (sym (lines_first names l ls rest) ∙ e)).2 refl)
  rest_of_lines args (l ∷ ls) (k ∷ ks) rest more g h within e =
      let good = All-head (IsSignatureLine (length names)) l ls g in
      let right = All-head (IsSignatureLine (length names)) k ks h in
      let parts = one_cut 10 (line_text names l) (10 ∷ (lines_text names ls ++ rest)) (line_text names k) (10 ∷ (lines_text names ks ++ (codes "end\n" ++ more)))
      (sym (lines_first names l ls rest) ∙ (e ∙ lines_first names k ks (codes "end\n" ++ more))) (clear_line names fine l good) refl (clear_line names fine k right) refl in
      rest_of_lines args ls ks rest more (All-tail (IsSignatureLine (length names)) l ls g) (All-tail (IsSignatureLine (length names)) k ks h) (All-tail (λ x. IsTrue (is_within args x)) k ks within) (cc parts.1)

  -- within a signature that goes on to its end
  pub inside_begun : (text rest : List ℕ) (number : ℕ) (at : IsInside names text rest number) (t : Signature) (tail : List ℕ) → IsSignature (length names) t → IsSayable at.version t.1.returns t.1.args
      → signature_text names t ++ tail ≡ heading_text at.name ++ 10 ∷ (remarks_text at.returns at.args ++ (lines_text names at.lines ++ rest)) → IsRest names at.args rest
  inside_begun text rest number at t tail right sayable is =
      let inner : List ℕ = remarks_text at.returns at.args ++ (lines_text names at.lines ++ rest) in
      let parts = one_cut 10 (heading_text t.0) _ (heading_text at.name) (10 ∷ inner) (sym (signature_first names fine t.0 t.1 tail) ∙ is) (clear_heading names fine t.0) refl (clear_heading names fine at.name) refl in
      let said = said_alike at.version at.returns t.1.returns at.args t.1.args (lines_text names at.lines ++ rest) (lines_text names t.1.scheme.lines ++ (codes "end\n" ++ tail)) at.said sayable right.few
      (quiet names at.version at.returns at.args at.lines rest at.no_more) (no_remark names t.1.scheme.lines tail) (sym (cc parts.1)) in
      rest_of_lines at.args at.lines t.1.scheme.lines rest tail at.each right.good
      (subst (λ a. All (λ l. IsTrue (is_within a l)) t.1.scheme.lines) (sym said.1) right.within) said.2

  -- the name of a signature after others is new
  pub new_after : (before after signatures : List Signature) (t : Signature) → before ++ t ∷ after ≡ signatures → AreSignatures (length names) signatures → HasNamed before t.0 → ⊥
  new_after before after signatures t joined good (p, (k, less, here)) =
      let d : Signature = (t.0, p) in
      let all : List Signature = before ++ t ∷ after in
      let first : get_or all k d ≡ d = get_or_append_left before (t ∷ after) d k less ∙ here in
      let second : get_or all (length before) d ≡ t = get_or-append_seam before t after d in
      let apart = subst (λ s. AllPairs (λ (a b : Signature). a.0 ≢ b.0) s) (sym joined) good.distinct in
      let long : length before < length all = omega (arith, length-append before (t ∷ after)) in
      apart k (length before) d less long (ap (λ (s : Signature). s.0) first ∙ ap (λ (s : Signature). s.0) (sym second))

  -- signatures that stand before the rest
  abbrev pub signatures_text : List Signature → List ℕ
  signatures_text signatures = flat_map (signature_text names) signatures

  rest_of : (before signatures : List Signature) (rest : List ℕ) → All (IsSignature (length names)) before → All (IsSignature (length names)) signatures → signatures_text before ++ rest ≡ signatures_text signatures
      → (after : List Signature) × (before ++ after ≡ signatures) × (signatures_text after ≡ rest)
  rest_of [] signatures rest g h e = (signatures, refl, sym e)
  rest_of (s ∷ before) [] rest g h e = absurd (some_text [] _ 115 (sym e))
  rest_of (s ∷ before) (t ∷ signatures) rest g h e =
      let here = same_signature names fine s.0 t.0 s.1 t.1 (signatures_text before ++ rest) (signatures_text signatures) (All-head (IsSignature (length names)) s before g) (All-head (IsSignature (length names)) t signatures h)
      (sym (append_assoc (signature_text names s) (signatures_text before) rest) ∙ e) in
      let later = rest_of before signatures rest (All-tail (IsSignature (length names)) s before g) (All-tail (IsSignature (length names)) t signatures h) here.2 in
      (later.0, (λ i. (here.0 i, here.1 i) ∷ later.1 i), later.2)

  module _ (text : List ℕ) (signatures : List Signature) where
    same_version : (v w : Version) → IsFileIn v names text signatures → IsOfVersion w text → v ≡ w
    same_version First First g h = refl
    same_version Second Second g h = refl
    same_version First Second g h = absurd (no_version names fine signatures _ (g.is ∙ h.1))
    same_version Second First g h = absurd (h _ (sym g.is))

    -- what is left after whole signatures
    left : (v w : Version) (before : List Signature) (rest : List ℕ) → IsFileIn v names text signatures → IsOfVersion w text → AreSignatures (length names) before → file_text w names before ++ rest ≡ text
        → IsFileIn w names text signatures × ((after : List Signature) × (before ++ after ≡ signatures) × (signatures_text after ≡ rest))
    left v w before rest g chosen good joined =
        let file : IsFileIn w names text signatures = subst (λ x. IsFileIn x names text signatures) (same_version v w g chosen) g in
        let whole : signatures_text before ++ rest ≡ signatures_text signatures =
        append_cancel_left (version_text w) _ _ (sym (append_assoc (version_text w) (signatures_text before) rest) ∙ (joined ∙ sym file.is))
        in
        let after = rest_of before signatures rest good.each file.good.each whole in
        (file, (after.0, after.1, after.2))

    -- after the first line of a signature, what it says and lines of it
    inside_rest : (v : Version) (rest : List ℕ) (number : ℕ) → IsFileIn v names text signatures → (at : IsInside names text rest number) → IsRest names at.args rest
    inside_rest v rest number g at =
        let (file, (after, joined, is)) = left v at.version at.signatures (heading_text at.name ++ 10 ∷ (remarks_text at.returns at.args ++ (lines_text names at.lines ++ rest))) g at.chosen at.good at.joined in
        by file after joined is
      where
        by : IsFileIn at.version names text signatures → (after : List Signature) → at.signatures ++ after ≡ signatures
            → signatures_text after ≡ heading_text at.name ++ 10 ∷ (remarks_text at.returns at.args ++ (lines_text names at.lines ++ rest)) → IsRest names at.args rest
        by file [] joined is = absurd (some_text (heading_text at.name) (remarks_text at.returns at.args ++ (lines_text names at.lines ++ rest)) 10 is)
        by file (t ∷ after) joined is =
            let there : Contains signatures t = subst (λ s. Contains s t) joined (Contains-append_right at.signatures (t ∷ after) t (Contains-here t after)) in
            inside_begun text rest number at t (signatures_text after) (All-contains (IsSignature (length names)) signatures t file.good.each there)
            (All-contains (λ (s : Signature). IsSayable at.version s.1.returns s.1.args) signatures t file.sayable there) is

    no_bad_between : (v : Version) (number : ℕ) → IsFileIn v names text signatures → IsBadBetween names text number → ⊥
    no_bad_between v number g bad =
        let (file, (after, joined, is)) = left v bad.version bad.signatures bad.rest g bad.at.chosen bad.at.good bad.at.joined in
        by file after joined is bad.bad
      where
        by : IsFileIn bad.version names text signatures → (after : List Signature) → bad.signatures ++ after ≡ signatures → signatures_text after ≡ bad.rest
            → ((bad.rest ≢ []) × HasNo 10 bad.rest) ⊎ ((line : List ℕ) × IsFirstLine bad.rest line × IsNoText AreBytes heading_text line) → ⊥
        by file [] joined is (inl (some, none)) = some (sym is)
        by file [] joined is (inr (line, first, none)) = some_text line first.more 10 (is ∙ first.cut.joined)
        by file (t ∷ after) joined is (inl (some, none)) = has_end (heading_text t.0) _ (subst (HasNo 10) (sym is ∙ signature_first names fine t.0 t.1 (signatures_text after)) none)
        by file (t ∷ after) joined is (inr (line, first, none)) =
            let there : Contains signatures t = subst (λ s. Contains s t) joined (Contains-append_right bad.signatures (t ∷ after) t (Contains-here t after)) in
            let right : IsSignature (length names) t = All-contains (IsSignature (length names)) signatures t file.good.each there in
            none t.0 right.bytes
            (one_cut 10 (heading_text t.0) _ line (10 ∷ first.more) (sym (signature_first names fine t.0 t.1 (signatures_text after)) ∙ (is ∙ first.cut.joined)) (clear_heading names fine t.0) refl first.cut.clear refl).0

    no_twice : (v : Version) (number : ℕ) → IsFileIn v names text signatures → IsTwice names text number → ⊥
    no_twice v number g bad =
        let (file, (after, joined, is)) = left v bad.version bad.signatures bad.rest g bad.at.chosen bad.at.good bad.at.joined in
        by file after joined is
      where
        by : IsFileIn bad.version names text signatures → (after : List Signature) → bad.signatures ++ after ≡ signatures → signatures_text after ≡ bad.rest → ⊥
        by file [] joined is = some_text (heading_text bad.name) bad.first.more 10 (is ∙ bad.first.cut.joined)
        by file (t ∷ after) joined is =
            let there : Contains signatures t = subst (λ s. Contains s t) joined (Contains-append_right bad.signatures (t ∷ after) t (Contains-here t after)) in
            let right : IsSignature (length names) t = All-contains (IsSignature (length names)) signatures t file.good.each there in
            let heading = (one_cut 10 (heading_text t.0) _ (heading_text bad.name) (10 ∷ bad.first.more) (sym (signature_first names fine t.0 t.1 (signatures_text after)) ∙ (is ∙ bad.first.cut.joined)) (clear_heading names fine t.0) refl
            bad.first.cut.clear refl).0 in
            let name : t.0 ≡ bad.name = one_name t.0 bad.name right.bytes bad.bytes (append_cancel_left (codes "sig ") (name_text t.0) (name_text bad.name) heading) in
            new_after bad.signatures after signatures t joined file.good (subst (HasNamed bad.signatures) (sym name) bad.named)

    fault_none : (v : Version) (fault : SigFault) → length text ≤ most_bytes → IsFileIn v names text signatures → IsFault names text fault → fault ≡ Memory
    fault_none v (BadLine n) small g (short, inl bad) = absurd (no_bad_between v n g bad)
    fault_none v (BadLine n) small g (short, inr bad) = by (inside_rest v bad.rest n g bad.at) bad.bad
      where
        by : IsRest names bad.at.args bad.rest → HasNo 10 bad.rest ⊎ ((line : List ℕ) × IsFirstLine bad.rest line × IsBadInside names line) → BadLine n ≡ Memory
        by r (inl none) = absurd (ended bad.at.args bad.rest r none)
        by r (inr (line, first, inside)) = absurd (good_next bad.at.args line (next bad.at.args bad.rest line r first) inside)
    fault_none v (UnknownConst n) small g (short, bad) = absurd (known_next bad.at.args bad.line (next bad.at.args bad.rest bad.line (inside_rest v bad.rest n g bad.at) bad.first) bad.unknown)
    fault_none v (Args n) small g (short, bad) = absurd (within_next bad.at.args bad.line (next bad.at.args bad.rest bad.line (inside_rest v bad.rest n g bad.at) bad.first) bad.past)
    fault_none v (Twice n) small g (short, bad) = absurd (no_twice v n g bad)
    fault_none v TooLarge small g long = absurd (omega (arith, small, long))
    fault_none v Memory small g h = refl

pub no_fault_lem : NoFaultLaw
no_fault_lem names text signatures fault fine small (v, g) h = fault_none names fine text signatures v fault small g h
