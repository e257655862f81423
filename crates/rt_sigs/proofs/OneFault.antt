-- A text that is that of no signatures has one fault.
use Rattle.std.proofs.Common.{◌≡◌, ◌≢◌, ℕ, ◌+◌, ◌≤◌, ◌⊎◌, inl, inr, Bool, true, false, IsTrue, Option, Some, None, IfSome, List, [], ◌∷◌, ◌++◌, All, Contains, codes, length, refl, sym, ap, ◌∙◌, subst, arith, append_assoc}
use Rattle.std.proofs.lemmas.List.{append_cancel_left}
use Rattle.std.proofs.lemmas.List.Elements.{All-head, All-tail, All-contains, Contains-append_right}
use Rattle.rt_base.proofs.Lists.{Contains-here}
use Rattle.rt_lines.specs.declared.line.Line.{Line}
use Rattle.rt_lines.specs.Names.{AreNames}
use Rattle.rt_texts.specs.Readings.{HasNo, IsNoText}
use Rattle.rt_texts.specs.Texts.{line_text, lines_text}
use Rattle.rt_texts.proofs.Cuts.{one_cut}
use Rattle.rt_texts.proofs.LineTexts.{first_byte}
use Rattle.rt_texts.proofs.OneText.{one_line}
use Rattle.rt_scheme.specs.NameTexts.{name_text}
use Rattle.rt_scheme.specs.NameReadings.{AreBytes}
use Rattle.rt_scheme.proofs.NamesRead.{one_name}
use Rattle.rt_sigs.specs.declared.fault.SigFault.{SigFault}
use Rattle.rt_sigs.specs.declared.fault.SigFault.TheVariants.{BadLine, UnknownConst, Args, Twice, TooLarge, Memory}
use Rattle.rt_sigs.specs.declared.version.Version.{Version}
use Rattle.rt_sigs.specs.declared.version.Version.TheVariants.{First, Second}
use Rattle.rt_sigs.specs.Signatures.{Signature, IsSignature, IsSignatureLine, AreSignatures, HasNamed, is_within, most_args}
use Rattle.rt_sigs.specs.SignatureTexts.{heading_text, args_text, remarks_text, remark_count, signature_text, version_text, file_text, line_count, first_number, IsSayable, AreSayable, IsOfVersion}
use Rattle.rt_sigs.specs.Faults.{HasCount, HasRemark, IsUnknown, IsFirstLine, IsBadInside, IsPastArgs, IsBetween, IsInside, IsFault}
use Rattle.rt_sigs.specs.Laws.{OneFaultLaw}
use Rattle.rt_sigs.proofs.OneFile.{lines_first, clear_line, signature_first, clear_heading, same_signature}
use Rattle.rt_sigs.proofs.NoFault.{IsNext, IsRest, count_none, ended, good_next, has_end, inside_begun, known_next, new_after, next, plain_alike, quiet, signatures_text, unknown_none, within_next}

-- Remarks of two readings, after each of which no more of them stands.

args_both : (a b : Option ℕ) (low high : List ℕ) → IfSome a (λ (n : ℕ). n ≤ most_args) → IfSome b (λ (n : ℕ). n ≤ most_args) → (a ≡ None → HasCount low → ⊥) → (b ≡ None → HasCount high → ⊥)
    → args_text a ++ low ≡ args_text b ++ high → (a ≡ b) × (low ≡ high)
args_both None None low high few less k h e = (refl, e)
args_both None (Some m) low high few less k h e = absurd (k refl (m, high, less, e))
args_both (Some n) None low high few less k h e = absurd (h refl (n, low, few, sym e))
args_both (Some n) (Some m) low high few less k h e =
    let rest : (48 + n) ∷ 10 ∷ low ≡ (48 + m) ∷ 10 ∷ high = append_cancel_left (codes "args ") _ _ e in
    let digit : 48 + n ≡ 48 + m = cc in
    let left : low ≡ high = cc in
    let same : n ≡ m = omega (arith, digit) in
    (ap Some same, left)

remarks_both : (r t : Bool) (a b : Option ℕ) (low high : List ℕ) → IfSome a (λ (n : ℕ). n ≤ most_args) → IfSome b (λ (n : ℕ). n ≤ most_args) → (HasRemark Second r a low → ⊥) → (HasRemark Second t b high → ⊥)
    → remarks_text r a ++ low ≡ remarks_text t b ++ high → (r ≡ t) × (a ≡ b) × (low ≡ high)
remarks_both true true a b low high few less k h e = let parts = args_both a b low high few less (count_none true a low k) (count_none true b high h) e in (refl, parts.0, parts.1)
remarks_both false false a b low high few less k h e =
    let parts = args_both a b low high few less (count_none false a low k) (count_none false b high h) (append_cancel_left (codes "noreturn\n") (args_text a ++ low) (args_text b ++ high) e) in (refl, parts.0, parts.1)
remarks_both true false None b low high few less k h e = absurd (k (inl (args_text b ++ high, e)))
remarks_both true false (Some n) b low high few less k h e = let is : 97 ≡ 110 = first_byte 97 110 _ _ e in absurd (omega (arith, is))
remarks_both false true a None low high few less k h e = absurd (h (inl (args_text a ++ low, sym e)))
remarks_both false true a (Some m) low high few less k h e = let is : 110 ≡ 97 = first_byte 110 97 _ _ e in absurd (omega (arith, is))

said_both : (v : Version) (r t : Bool) (a b : Option ℕ) (low high : List ℕ) → IsSayable v r a → IsSayable v t b → IfSome a (λ (n : ℕ). n ≤ most_args) → IfSome b (λ (n : ℕ). n ≤ most_args)
    → (HasRemark v r a low → ⊥) → (HasRemark v t b high → ⊥) → remarks_text r a ++ low ≡ remarks_text t b ++ high → (r ≡ t) × (a ≡ b) × (low ≡ high)
said_both First r t a b low high k h few less none nothing e = plain_alike r t a b low high k h e
said_both Second r t a b low high k h few less none nothing e = remarks_both r t a b low high few less none nothing e

-- Why a text is refused between signatures, and why within one.

abbrev WhyBetween : List Signature → List ℕ → ℕ → SigFault → Type 0
WhyBetween signatures rest number fault =
    ((fault ≡ BadLine number) × (HasNo 10 rest ⊎ ((line : List ℕ) × IsFirstLine rest line × IsNoText AreBytes heading_text line)))
    ⊎ ((fault ≡ Twice number) × ((name : List ℕ) × AreBytes name × IsFirstLine rest (heading_text name) × HasNamed signatures name))

abbrev WhyInside : List (List ℕ) → Option ℕ → List ℕ → ℕ → SigFault → Type 0
WhyInside names args rest number fault =
    ((fault ≡ BadLine number) × (HasNo 10 rest ⊎ ((line : List ℕ) × IsFirstLine rest line × IsBadInside names line)))
    ⊎ (((fault ≡ UnknownConst number) × ((line : List ℕ) × IsFirstLine rest line × IsUnknown names line))
    ⊎ ((fault ≡ Args number) × ((line : List ℕ) × IsFirstLine rest line × IsPastArgs names args line)))

record IsRefusedBetween (names : List (List ℕ)) (text : List ℕ) (fault : SigFault) : Type 0 where
  version : Version
  signatures : List Signature
  rest : List ℕ
  number : ℕ
  at : IsBetween version names text signatures rest number
  why : WhyBetween signatures rest number fault

record IsRefusedInside (names : List (List ℕ)) (text : List ℕ) (fault : SigFault) : Type 0 where
  rest : List ℕ
  number : ℕ
  at : IsInside names text rest number
  why : WhyInside names at.args rest number fault

refused : (names : List (List ℕ)) (text : List ℕ) (fault : SigFault) → IsFault names text fault → fault ≢ Memory → fault ≢ TooLarge → IsRefusedBetween names text fault ⊎ IsRefusedInside names text fault
refused names text (BadLine n) (small, inl bad) some fits =
    by bad.bad
  where
    by : ((bad.rest ≢ []) × HasNo 10 bad.rest) ⊎ ((line : List ℕ) × IsFirstLine bad.rest line × IsNoText AreBytes heading_text line) → IsRefusedBetween names text (BadLine n) ⊎ IsRefusedInside names text (BadLine n)
    by (inl (rest, none)) = inl (record { version = bad.version; signatures = bad.signatures; rest = bad.rest; number = n; at = bad.at; why = inl (refl, inl none) })
    by (inr line) = inl (record { version = bad.version; signatures = bad.signatures; rest = bad.rest; number = n; at = bad.at; why = inl (refl, inr line) })
refused names text (BadLine n) (small, inr bad) some fits = inr (record { rest = bad.rest; number = n; at = bad.at; why = inl (refl, bad.bad) })
refused names text (UnknownConst n) (small, bad) some fits = inr (record { rest = bad.rest; number = n; at = bad.at; why = inr (inl (refl, (bad.line, bad.first, bad.unknown))) })
refused names text (Args n) (small, bad) some fits = inr (record { rest = bad.rest; number = n; at = bad.at; why = inr (inr (refl, (bad.line, bad.first, bad.past))) })
refused names text (Twice n) (small, bad) some fits =
    inl (record { version = bad.version; signatures = bad.signatures; rest = bad.rest; number = n; at = bad.at; why = inr (refl, (bad.name, bad.bytes, bad.first, bad.named)) })
refused names text TooLarge h some fits = absurd (fits refl)
refused names text Memory h some fits = absurd (some refl)

same_version : (v w : Version) (text : List ℕ) → IsOfVersion v text → IsOfVersion w text → v ≡ w
same_version First First text g h = refl
same_version Second Second text g h = refl
same_version First Second text g h = absurd (g h.0 h.1)
same_version Second First text g h = absurd (h g.0 g.1)

-- a text has one first line
one_first : (rest line other : List ℕ) → IsFirstLine rest line → IsFirstLine rest other → line ≡ other
one_first rest line other a b = (one_cut 10 line (10 ∷ a.more) other (10 ∷ b.more) (sym a.cut.joined ∙ b.cut.joined) a.cut.clear refl b.cut.clear refl).0

no_end_first : (rest line : List ℕ) → IsFirstLine rest line → HasNo 10 rest → ⊥
no_end_first rest line a none = has_end line a.more (subst (HasNo 10) a.cut.joined none)

module _ (names : List (List ℕ)) (fine : AreNames names) where
  -- one place has one fault

  one_between : (signatures : List Signature) (rest : List ℕ) (number : ℕ) (f g : SigFault) → WhyBetween signatures rest number f → WhyBetween signatures rest number g → f ≡ g
  one_between signatures rest number f g (inl (e, why)) (inl (h, other)) = e ∙ sym h
  one_between signatures rest number f g (inr (e, why)) (inr (h, other)) = e ∙ sym h
  one_between signatures rest number f g (inl (e, inl none)) (inr (h, (name, bytes, first, named))) = absurd (no_end_first rest (heading_text name) first none)
  one_between signatures rest number f g (inl (e, inr (line, begins, none))) (inr (h, (name, bytes, first, named))) = absurd (none name bytes (one_first rest (heading_text name) line first begins))
  one_between signatures rest number f g (inr (e, (name, bytes, first, named))) (inl (h, inl none)) = absurd (no_end_first rest (heading_text name) first none)
  one_between signatures rest number f g (inr (e, (name, bytes, first, named))) (inl (h, inr (line, begins, none))) = absurd (none name bytes (one_first rest (heading_text name) line first begins))

  bad_or_unknown : (rest line : List ℕ) → HasNo 10 rest ⊎ ((other : List ℕ) × IsFirstLine rest other × IsBadInside names other) → IsFirstLine rest line → IsUnknown names line → ⊥
  bad_or_unknown rest line (inl none) first unknown = no_end_first rest line first none
  bad_or_unknown rest line (inr (other, begins, bad)) first unknown = bad.known (subst (IsUnknown names) (one_first rest line other first begins) unknown)

  bad_or_past : (args : Option ℕ) (rest line : List ℕ) → HasNo 10 rest ⊎ ((other : List ℕ) × IsFirstLine rest other × IsBadInside names other) → IsFirstLine rest line → IsPastArgs names args line → ⊥
  bad_or_past args rest line (inl none) first past = no_end_first rest line first none
  bad_or_past args rest line (inr (other, begins, bad)) first past = bad.no_line past.line past.good (past.is ∙ one_first rest line other first begins)

  unknown_or_past : (args : Option ℕ) (rest line other : List ℕ) → IsFirstLine rest line → IsUnknown names line → IsFirstLine rest other → IsPastArgs names args other → ⊥
  unknown_or_past args rest line other first unknown begins past = unknown_none names fine line past.line past.good (past.is ∙ one_first rest other line begins first) unknown

  one_inside : (args : Option ℕ) (rest : List ℕ) (number : ℕ) (f g : SigFault) → WhyInside names args rest number f → WhyInside names args rest number g → f ≡ g
  one_inside args rest number f g (inl (e, why)) (inl (h, other)) = e ∙ sym h
  one_inside args rest number f g (inr (inl (e, why))) (inr (inl (h, other))) = e ∙ sym h
  one_inside args rest number f g (inr (inr (e, why))) (inr (inr (h, other))) = e ∙ sym h
  one_inside args rest number f g (inl (e, why)) (inr (inl (h, (line, first, unknown)))) = absurd (bad_or_unknown rest line why first unknown)
  one_inside args rest number f g (inr (inl (e, (line, first, unknown)))) (inl (h, why)) = absurd (bad_or_unknown rest line why first unknown)
  one_inside args rest number f g (inl (e, why)) (inr (inr (h, (line, first, past)))) = absurd (bad_or_past args rest line why first past)
  one_inside args rest number f g (inr (inr (e, (line, first, past)))) (inl (h, why)) = absurd (bad_or_past args rest line why first past)
  one_inside args rest number f g (inr (inl (e, (line, first, unknown)))) (inr (inr (h, (other, begins, past)))) = absurd (unknown_or_past args rest line other first unknown begins past)
  one_inside args rest number f g (inr (inr (e, (other, begins, past)))) (inr (inl (h, (line, first, unknown)))) = absurd (unknown_or_past args rest line other first unknown begins past)

  -- where a good line goes on there is none

  goes_on : (args : Option ℕ) (rest : List ℕ) (number : ℕ) (f : SigFault) (l : Line) (tail : List ℕ) → IsSignatureLine (length names) l → IsTrue (is_within args l) → line_text names l ++ 10 ∷ tail ≡ rest → WhyInside names args rest number f → ⊥
  goes_on args rest number f l tail good within is why = by why
    where
      first : IsFirstLine rest (line_text names l)
      first = record { more = tail; cut = record { joined = sym is; clear = clear_line names fine l good; stops = refl } }

      one : (line : List ℕ) → IsFirstLine rest line → IsNext names args line
      one line begins = inr (l, good, within, one_first rest (line_text names l) line first begins)

      by : WhyInside names args rest number f → ⊥
      by (inl (e, inl none)) = no_end_first rest (line_text names l) first none
      by (inl (e, inr (line, begins, bad))) = good_next names fine args line (one line begins) bad
      by (inr (inl (e, (line, begins, unknown)))) = known_next names fine args line (one line begins) unknown
      by (inr (inr (e, (line, begins, past)))) = within_next names fine args line (one line begins) past

  -- nor where lines up to an end do
  whole_on : (args : Option ℕ) (rest : List ℕ) (number : ℕ) (f : SigFault) → IsRest names args rest → WhyInside names args rest number f → ⊥
  whole_on args rest number f r (inl (e, inl none)) = ended names fine args rest r none
  whole_on args rest number f r (inl (e, inr (line, begins, bad))) = good_next names fine args line (next names fine args rest line r begins) bad
  whole_on args rest number f r (inr (inl (e, (line, begins, unknown)))) = known_next names fine args line (next names fine args rest line r begins) unknown
  whole_on args rest number f r (inr (inr (e, (line, begins, past)))) = within_next names fine args line (next names fine args rest line r begins) past

  -- nor where a new signature begins
  heads_on : (signatures : List Signature) (rest : List ℕ) (number : ℕ) (f : SigFault) (name inner : List ℕ) → AreBytes name → (HasNamed signatures name → ⊥) → heading_text name ++ 10 ∷ inner ≡ rest → WhyBetween signatures rest number f → ⊥
  heads_on signatures rest number f name inner bytes new is why = by why
    where
      first : IsFirstLine rest (heading_text name)
      first = record { more = inner; cut = record { joined = sym is; clear = clear_heading names fine name; stops = refl } }

      by : WhyBetween signatures rest number f → ⊥
      by (inl (e, inl none)) = no_end_first rest (heading_text name) first none
      by (inl (e, inr (line, begins, none))) = none name bytes (one_first rest (heading_text name) line first begins)
      by (inr (e, (other, bytes', begins, named))) =
          let same : other ≡ name = one_name other name bytes' bytes (append_cancel_left (codes "sig ") (name_text other) (name_text name) (one_first rest (heading_text other) (heading_text name) begins first)) in
          new (subst (HasNamed signatures) same named)

  -- Two readings of lines end at one place, or one goes on.

  abbrev GoesOn : Option ℕ → List ℕ → Type 0
  GoesOn args rest = (l : Line) × (tail : List ℕ) × IsSignatureLine (length names) l × IsTrue (is_within args l) × (line_text names l ++ 10 ∷ tail ≡ rest)

  lines_both : (args : Option ℕ) (ls ks : List Line) (rest more : List ℕ) → All (IsSignatureLine (length names)) ls → All (IsSignatureLine (length names)) ks
      → All (λ l. IsTrue (is_within args l)) ls → All (λ l. IsTrue (is_within args l)) ks → lines_text names ls ++ rest ≡ lines_text names ks ++ more
      → ((ls ≡ ks) × (rest ≡ more)) ⊎ (GoesOn args rest ⊎ GoesOn args more)
  lines_both args [] [] rest more g h wg wh e = inl (refl, e)
  lines_both args [] (k ∷ ks) rest more g h wg wh e =
      inr (inl (k, lines_text names ks ++ more, All-head (IsSignatureLine (length names)) k ks h, All-head (λ l. IsTrue (is_within args l)) k ks wh, sym (e ∙ lines_first names k ks more)))
  lines_both args (l ∷ ls) [] rest more g h wg wh e =
      inr (inr (l, lines_text names ls ++ rest, All-head (IsSignatureLine (length names)) l ls g, All-head (λ x. IsTrue (is_within args x)) l ls wg, sym (lines_first names l ls rest) ∙ e))
  lines_both args (l ∷ ls) (k ∷ ks) rest more g h wg wh e =
      let good = All-head (IsSignatureLine (length names)) l ls g in
      let right = All-head (IsSignatureLine (length names)) k ks h in
      let parts = one_cut 10 (line_text names l) (10 ∷ (lines_text names ls ++ rest)) (line_text names k) (10 ∷ (lines_text names ks ++ more))
      (sym (lines_first names l ls rest) ∙ (e ∙ lines_first names k ks more)) (clear_line names fine l good) refl (clear_line names fine k right) refl in
      let same : l ≡ k = one_line names l k fine good.0 right.0 parts.0 in
      by same (lines_both args ls ks rest more (All-tail (IsSignatureLine (length names)) l ls g) (All-tail (IsSignatureLine (length names)) k ks h) (All-tail (λ x. IsTrue (is_within args x)) l ls wg)
      (All-tail (λ x. IsTrue (is_within args x)) k ks wh) (cc parts.1))
    where
      by : l ≡ k → ((ls ≡ ks) × (rest ≡ more)) ⊎ (GoesOn args rest ⊎ GoesOn args more) → ((l ∷ ls ≡ k ∷ ks) × (rest ≡ more)) ⊎ (GoesOn args rest ⊎ GoesOn args more)
      by same (inl (lines, end)) = inl ((λ i. same i ∷ lines i), end)
      by same (inr on) = inr on

  -- Two readings of whole signatures end at one place, or a signature of one begins where the other ends.

  abbrev BeginsOn : List Signature → List Signature → List ℕ → Type 0
  BeginsOn before signatures rest = (t : Signature) × (after : List Signature) × (tail : List ℕ) × (before ++ t ∷ after ≡ signatures) × (signature_text names t ++ tail ≡ rest)

  signatures_both : (first second : List Signature) (rest more : List ℕ) → All (IsSignature (length names)) first → All (IsSignature (length names)) second
      → signatures_text names fine first ++ rest ≡ signatures_text names fine second ++ more → ((first ≡ second) × (rest ≡ more)) ⊎ (BeginsOn first second rest ⊎ BeginsOn second first more)
  signatures_both [] [] rest more g h e = inl (refl, e)
  signatures_both [] (t ∷ second) rest more g h e =
      inr (inl (t, second, signatures_text names fine second ++ more, refl, sym (append_assoc (signature_text names t) (signatures_text names fine second) more) ∙ sym e))
  signatures_both (s ∷ first) [] rest more g h e =
      inr (inr (s, first, signatures_text names fine first ++ rest, refl, sym (append_assoc (signature_text names s) (signatures_text names fine first) rest) ∙ e))
  signatures_both (s ∷ first) (t ∷ second) rest more g h e =
      let here = same_signature names fine s.0 t.0 s.1 t.1 (signatures_text names fine first ++ rest) (signatures_text names fine second ++ more) (All-head (IsSignature (length names)) s first g)
      (All-head (IsSignature (length names)) t second h)
      (sym (append_assoc (signature_text names s) (signatures_text names fine first) rest) ∙ (e ∙ append_assoc (signature_text names t) (signatures_text names fine second) more)) in
      by (λ i. (here.0 i, here.1 i)) (signatures_both first second rest more (All-tail (IsSignature (length names)) s first g) (All-tail (IsSignature (length names)) t second h) here.2)
    where
      by : s ≡ t → ((first ≡ second) × (rest ≡ more)) ⊎ (BeginsOn first second rest ⊎ BeginsOn second first more)
          → ((s ∷ first ≡ t ∷ second) × (rest ≡ more)) ⊎ (BeginsOn (s ∷ first) (t ∷ second) rest ⊎ BeginsOn (t ∷ second) (s ∷ first) more)
      by same (inl (all, end)) = inl ((λ i. same i ∷ all i), end)
      by same (inr (inl (u, after, tail, joined, is))) = inr (inl (u, after, tail, (λ i. same i ∷ joined i), is))
      by same (inr (inr (u, after, tail, joined, is))) = inr (inr (u, after, tail, (λ i. sym same i ∷ joined i), is))

  module _ (text : List ℕ) where
    -- the two readings are of one version
    both : (v w : Version) (first second : List Signature) (rest more : List ℕ) → IsOfVersion v text → IsOfVersion w text → AreSignatures (length names) first → AreSignatures (length names) second
        → file_text v names first ++ rest ≡ text → file_text w names second ++ more ≡ text
        → ((first ≡ second) × (rest ≡ more)) ⊎ (BeginsOn first second rest ⊎ BeginsOn second first more)
    both v w first second rest more chosen other good right joined is =
        let same = same_version v w text chosen other in
        let all : version_text w ++ (signatures_text names fine first ++ rest) ≡ version_text w ++ (signatures_text names fine second ++ more) =
        sym (append_assoc (version_text w) (signatures_text names fine first) rest) ∙ (subst (λ x. file_text x names first ++ rest ≡ text) same joined ∙ (sym is ∙ append_assoc (version_text w) (signatures_text names fine second) more))
        in
        signatures_both first second rest more good.each right.each (append_cancel_left (version_text w) _ _ all)

    begins_none : (before signatures : List Signature) (rest : List ℕ) (number : ℕ) (f : SigFault) → AreSignatures (length names) signatures → BeginsOn before signatures rest → WhyBetween before rest number f → ⊥
    begins_none before signatures rest number f good (t, after, tail, joined, is) why =
        let there : Contains signatures t = subst (λ s. Contains s t) joined (Contains-append_right before (t ∷ after) t (Contains-here t after)) in
        let right : IsSignature (length names) t = All-contains (IsSignature (length names)) signatures t good.each there in
        heads_on before rest number f t.0 _ right.bytes (new_after names fine before after signatures t joined good) (sym (signature_first names fine t.0 t.1 tail) ∙ is) why

    inside_none : (rest : List ℕ) (number : ℕ) (f : SigFault) (at : IsInside names text rest number) (w : Version) (signatures : List Signature) → IsOfVersion w text → AreSignatures (length names) signatures → AreSayable w signatures
        → BeginsOn at.signatures signatures (heading_text at.name ++ 10 ∷ (remarks_text at.returns at.args ++ (lines_text names at.lines ++ rest))) → WhyInside names at.args rest number f → ⊥
    inside_none rest number f at w signatures chosen good sayable (t, after, tail, joined, is) why =
        let there : Contains signatures t = subst (λ s. Contains s t) joined (Contains-append_right at.signatures (t ∷ after) t (Contains-here t after)) in
        let right : IsSignature (length names) t = All-contains (IsSignature (length names)) signatures t good.each there in
        let says : IsSayable w t.1.returns t.1.args = All-contains (λ (s : Signature). IsSayable w s.1.returns s.1.args) signatures t sayable there in
        whole_on at.args rest number f
        (inside_begun names fine text rest number at t tail right (subst (λ x. IsSayable x t.1.returns t.1.args) (sym (same_version at.version w text at.chosen chosen)) says) is) why

    between_between : (f g : SigFault) → IsRefusedBetween names text f → IsRefusedBetween names text g → f ≡ g
    between_between f g a b = by (both a.version b.version a.signatures b.signatures a.rest b.rest a.at.chosen b.at.chosen a.at.good b.at.good a.at.joined b.at.joined)
      where
        by : ((a.signatures ≡ b.signatures) × (a.rest ≡ b.rest)) ⊎ (BeginsOn a.signatures b.signatures a.rest ⊎ BeginsOn b.signatures a.signatures b.rest) → f ≡ g
        by (inl (signatures, rest)) =
            let number : a.number ≡ b.number = omega (arith, a.at.counted, b.at.counted, ap line_count signatures, ap first_number (same_version a.version b.version text a.at.chosen b.at.chosen)) in
            one_between b.signatures b.rest b.number f g
            (subst (λ n. WhyBetween b.signatures b.rest n f) number (subst (λ r. WhyBetween b.signatures r a.number f) rest (subst (λ s. WhyBetween s a.rest a.number f) signatures a.why))) b.why
        by (inr (inl on)) = absurd (begins_none a.signatures b.signatures a.rest a.number f b.at.good on a.why)
        by (inr (inr on)) = absurd (begins_none b.signatures a.signatures b.rest b.number g a.at.good on b.why)

    between_inside : (f g : SigFault) → IsRefusedBetween names text f → IsRefusedInside names text g → ⊥
    between_inside f g a b =
        by (both a.version b.at.version a.signatures b.at.signatures a.rest (heading_text b.at.name ++ 10 ∷ (remarks_text b.at.returns b.at.args ++ (lines_text names b.at.lines ++ b.rest)))
        a.at.chosen b.at.chosen a.at.good b.at.good a.at.joined b.at.joined)
      where
        by : ((a.signatures ≡ b.at.signatures) × (a.rest ≡ heading_text b.at.name ++ 10 ∷ (remarks_text b.at.returns b.at.args ++ (lines_text names b.at.lines ++ b.rest))))
            ⊎ (BeginsOn a.signatures b.at.signatures a.rest ⊎ BeginsOn b.at.signatures a.signatures (heading_text b.at.name ++ 10 ∷ (remarks_text b.at.returns b.at.args ++ (lines_text names b.at.lines ++ b.rest)))) → ⊥
        by (inl (signatures, rest)) =
            heads_on a.signatures a.rest a.number f b.at.name _ b.at.bytes (subst (λ s. HasNamed s b.at.name → ⊥) (sym signatures) b.at.new) (sym rest) a.why
        by (inr (inl on)) = begins_none a.signatures b.at.signatures a.rest a.number f b.at.good on a.why
        by (inr (inr on)) = inside_none b.rest b.number g b.at a.version a.signatures a.at.chosen a.at.good a.at.sayable on b.why

    -- two readings within a signature
    in_one : (f g : SigFault) (rest more : List ℕ) (number other : ℕ) (a : IsInside names text rest number) (b : IsInside names text more other) → WhyInside names a.args rest number f → WhyInside names b.args more other g
        → a.signatures ≡ b.signatures
        → heading_text a.name ++ 10 ∷ (remarks_text a.returns a.args ++ (lines_text names a.lines ++ rest)) ≡ heading_text b.name ++ 10 ∷ (remarks_text b.returns b.args ++ (lines_text names b.lines ++ more)) → f ≡ g
    in_one f g rest more number other a b why because signatures is =
        let version = same_version a.version b.version text a.chosen b.chosen in
        let inner = (one_cut 10 (heading_text a.name) _ (heading_text b.name) _ is (clear_heading names fine a.name) refl (clear_heading names fine b.name) refl).1 in
        let said = said_both b.version a.returns b.returns a.args b.args (lines_text names a.lines ++ rest) (lines_text names b.lines ++ more) (subst (λ v. IsSayable v a.returns a.args) version a.said) b.said a.few b.few
        (subst (λ v. HasRemark v a.returns a.args (lines_text names a.lines ++ rest) → ⊥) version (quiet names a.version a.returns a.args a.lines rest a.no_more))
        (quiet names b.version b.returns b.args b.lines more b.no_more) (cc inner) in
        let here : WhyInside names b.args rest number f = subst (λ x. WhyInside names x rest number f) said.1 why in
        by said.0 said.1 here (lines_both b.args a.lines b.lines rest more a.each b.each (subst (λ x. All (λ l. IsTrue (is_within x l)) a.lines) said.1 a.within) b.within said.2)
      where
        by : a.returns ≡ b.returns → a.args ≡ b.args → WhyInside names b.args rest number f → ((a.lines ≡ b.lines) × (rest ≡ more)) ⊎ (GoesOn b.args rest ⊎ GoesOn b.args more) → f ≡ g
        by returns args here (inl (lines, end)) =
            let count : remark_count a.returns a.args ≡ remark_count b.returns b.args = ap (λ r. remark_count r a.args) returns ∙ ap (remark_count b.returns) args in
            let same : number ≡ other =
            omega (arith, a.counted, b.counted, ap line_count signatures, count, ap length lines, ap first_number (same_version a.version b.version text a.chosen b.chosen))
            in
            one_inside b.args more other f g (subst (λ n. WhyInside names b.args more n f) same (subst (λ r. WhyInside names b.args r number f) end here)) because
        by returns args here (inr (inl (l, tail, good, within, on))) = absurd (goes_on b.args rest number f l tail good within on here)
        by returns args here (inr (inr (l, tail, good, within, on))) = absurd (goes_on b.args more other g l tail good within on because)

    inside_inside : (f g : SigFault) → IsRefusedInside names text f → IsRefusedInside names text g → f ≡ g
    inside_inside f g a b =
        by (both a.at.version b.at.version a.at.signatures b.at.signatures (heading_text a.at.name ++ 10 ∷ (remarks_text a.at.returns a.at.args ++ (lines_text names a.at.lines ++ a.rest)))
        (heading_text b.at.name ++ 10 ∷ (remarks_text b.at.returns b.at.args ++ (lines_text names b.at.lines ++ b.rest))) a.at.chosen b.at.chosen a.at.good b.at.good a.at.joined b.at.joined)
      where
        by : ((a.at.signatures ≡ b.at.signatures)
            × (heading_text a.at.name ++ 10 ∷ (remarks_text a.at.returns a.at.args ++ (lines_text names a.at.lines ++ a.rest)) ≡ heading_text b.at.name ++ 10 ∷ (remarks_text b.at.returns b.at.args ++ (lines_text names b.at.lines ++ b.rest))))
            ⊎ (BeginsOn a.at.signatures b.at.signatures (heading_text a.at.name ++ 10 ∷ (remarks_text a.at.returns a.at.args ++ (lines_text names a.at.lines ++ a.rest)))
            ⊎ BeginsOn b.at.signatures a.at.signatures (heading_text b.at.name ++ 10 ∷ (remarks_text b.at.returns b.at.args ++ (lines_text names b.at.lines ++ b.rest)))) → f ≡ g
        by (inl (signatures, is)) = in_one f g a.rest b.rest a.number b.number a.at b.at a.why b.why signatures is
        by (inr (inl on)) = absurd (inside_none a.rest a.number f a.at b.at.version b.at.signatures b.at.chosen b.at.good b.at.sayable on a.why)
        by (inr (inr on)) = absurd (inside_none b.rest b.number g b.at a.at.version a.at.signatures a.at.chosen a.at.good a.at.sayable on b.why)

    one_refusal : (f g : SigFault) → IsRefusedBetween names text f ⊎ IsRefusedInside names text f → IsRefusedBetween names text g ⊎ IsRefusedInside names text g → f ≡ g
    one_refusal f g (inl a) (inl b) = between_between f g a b
    one_refusal f g (inr a) (inr b) = inside_inside f g a b
    one_refusal f g (inl a) (inr b) = absurd (between_inside f g a b)
    one_refusal f g (inr a) (inl b) = absurd (between_inside g f b a)

-- a text is too large, or its lines are faulty
too_large : (names : List (List ℕ)) (text : List ℕ) (fault : SigFault) → IsFault names text TooLarge → IsFault names text fault → fault ≢ Memory → fault ≡ TooLarge
too_large names text (BadLine n) long (small, h) some = absurd (omega (arith, long, small))
too_large names text (UnknownConst n) long (small, h) some = absurd (omega (arith, long, small))
too_large names text (Args n) long (small, h) some = absurd (omega (arith, long, small))
too_large names text (Twice n) long (small, h) some = absurd (omega (arith, long, small))
too_large names text TooLarge long h some = refl
too_large names text Memory long h some = absurd (some refl)

is_large : (fault : SigFault) → (fault ≡ TooLarge) ⊎ (fault ≢ TooLarge)
is_large (BadLine n) = inr (λ e. cc)
is_large (UnknownConst n) = inr (λ e. cc)
is_large (Args n) = inr (λ e. cc)
is_large (Twice n) = inr (λ e. cc)
is_large TooLarge = inl refl
is_large Memory = inr (λ e. cc)

pub one_fault_lem : OneFaultLaw
one_fault_lem names text first second fine some other g h = by (is_large first) (is_large second)
  where
    by : (first ≡ TooLarge) ⊎ (first ≢ TooLarge) → (second ≡ TooLarge) ⊎ (second ≢ TooLarge) → first ≡ second
    by (inl e) on = e ∙ sym (too_large names text second (subst (IsFault names text) e g) h other)
    by (inr fits) (inl e) = too_large names text first (subst (IsFault names text) e h) g some ∙ sym e
    by (inr fits) (inr small) = one_refusal names fine text first second (refused names text first g some fits) (refused names text second h other small)
