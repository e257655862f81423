-- Files of signatures.
use Rattle.std.proofs.Common.{◌≡◌, ◌≢◌, ℕ, ◌+◌, ◌<◌, ◌≤◌, inl, inr, IsTrue, IfSome, List, [], ◌∷◌, ◌++◌, All, Contains, length, get_or, codes, sym, ap, ◌∙◌, subst, arith, append_assoc, append-nil, length-append}
use Rattle.std.specs.List.{flat_map}
use Rattle.std.proofs.lemmas.List.Elements.{All-push, Contains-get_or}
use Rattle.std.proofs.lemmas.List.Quantifiers.{all_pairs_push}
use Rattle.std.proofs.lemmas.Grind.{flat_map-append}
use Rattle.rt_lines.specs.declared.line.Line.{Line}
use Rattle.rt_texts.specs.Texts.{lines_text}
use Rattle.rt_sigs.specs.declared.version.Version.{Version}
use Rattle.rt_sigs.specs.declared.prototype.Prototype.{Prototype}
use Rattle.rt_sigs.specs.declared.fault.SigFault.{SigFault}
use Rattle.rt_sigs.specs.declared.fault.SigFault.TheVariants.{BadLine, UnknownConst, Args, Twice, TooLarge, Memory}
use Rattle.rt_sigs.specs.declared.remarks.Remarks.{Remarks}
use Rattle.rt_sigs.specs.declared.body.Body.{Body}
use Rattle.rt_sigs.specs.Signatures.{Signature, IsSignature, IsSignatureLine, is_within, AreSignatures, HasNamed}
use Rattle.rt_sigs.specs.SignatureTexts.{heading_text, remarks_text, remark_count, signature_text, version_text, file_text, IsSayable, line_count}
use Rattle.rt_sigs.specs.Faults.{HasRemark, IsBetween, IsInside, IsFault, most_bytes}
use Rattle.rt_sigs.specs.Inside.Readings.{IsBegun, IsHeading, IsHeadingFault, AreRemarks, IsReadTo, IsBody, IsBodyFault}

line_count-push : (signatures : List Signature) (name : List ℕ) (p : Prototype) → line_count (signatures ++ (name, p) ∷ []) ≡ line_count signatures + (2 + remark_count p.returns p.args + length p.scheme.lines)
line_count-push [] name p = omega arith
line_count-push ((n, q) ∷ signatures) name p = omega (arith, line_count-push signatures name p)

-- no signature before has the name of one with a new name
others : (signatures : List Signature) (name : List ℕ) → (HasNamed signatures name → ⊥) → (k : ℕ) (d : Signature) → k < length signatures → (get_or signatures k d).0 ≢ name
others signatures name new k d within same =
    let there : Contains signatures (get_or signatures k d) = Contains-get_or signatures k d within in
    let whole : ◌≡◌ {A = Signature} (get_or signatures k d) (name, (get_or signatures k d).1) = λ i. (same i, (get_or signatures k d).1) in
    new ((get_or signatures k d).1, subst (Contains signatures) whole there)

-- one signature more
signatures-more : (count : ℕ) (signatures : List Signature) (signature : Signature) → AreSignatures count signatures → (HasNamed signatures signature.0 → ⊥) → IsSignature count signature → AreSignatures count (signatures ++ signature ∷ [])
signatures-more count signatures signature good new right =
    record {
      each = All-push (IsSignature count) signatures signature good.each right;
      distinct = all_pairs_push (λ (a b : Signature). a.0 ≢ b.0) signatures signature good.distinct (others signatures signature.0 new);
    }

file_text-push : (version : Version) (names : List (List ℕ)) (signatures : List Signature) (signature : Signature) (rest : List ℕ) → file_text version names (signatures ++ signature ∷ []) ++ rest ≡ file_text version names signatures ++ (signature_text names signature ++ rest)
file_text-push version names signatures signature rest =
    let one : flat_map (signature_text names) (signature ∷ []) ≡ signature_text names signature = append-nil _ in
    let all : List ℕ = flat_map (signature_text names) signatures in
    let both : flat_map (signature_text names) (signatures ++ signature ∷ []) ≡ all ++ signature_text names signature =
    flat_map-append (signature_text names) signatures (signature ∷ []) ∙ ap (λ s. all ++ s) one
    in
    ap (λ s. (version_text version ++ s) ++ rest) both
    ∙ (ap (λ s. s ++ rest) (sym (append_assoc (version_text version) all (signature_text names signature))) ∙ append_assoc (version_text version ++ all) (signature_text names signature) rest)

signature_text-joined : (names : List (List ℕ)) (name : List ℕ) (p : Prototype) (text inner lower rest : List ℕ) → heading_text name ++ 10 ∷ inner ≡ text → remarks_text p.returns p.args ++ lower ≡ inner → lines_text names p.scheme.lines ++ (codes "end\n" ++ rest) ≡ lower → signature_text names (name, p) ++ rest ≡ text
signature_text-joined names name p text inner lower rest outer said body =
    let remarks : List ℕ = remarks_text p.returns p.args in
    let lines : List ℕ = lines_text names p.scheme.lines in
    append_assoc (heading_text name) (10 ∷ (remarks ++ (lines ++ codes "end\n"))) rest
    ∙ (ap (λ s. heading_text name ++ 10 ∷ s) (append_assoc remarks (lines ++ codes "end\n") rest ∙ (ap (λ s. remarks ++ s) (append_assoc lines (codes "end\n") rest ∙ body) ∙ said)) ∙ outer)

-- a text that is begun
pub between_begun : (text : List ℕ) (version : Version) (rest : List ℕ) (number : ℕ) (names : List (List ℕ)) (signatures : List Signature) → signatures ≡ [] → IsBegun text version rest number → IsBetween version names text signatures rest number
between_begun text version rest number names signatures none begun =
    subst (λ s. IsBetween version names text s rest number) (sym none)
    (record {
      chosen = begun.chosen;
      good = record { each = λ k d h. absurd (omega (arith, h)); distinct = λ i j d less h. absurd (omega (arith, less, h)) };
      sayable = λ k d h. absurd (omega (arith, h));
      joined = ap (λ s. s ++ rest) (append-nil (version_text version)) ∙ begun.joined;
      counted = omega (arith, begun.counted);
    })

module _ (version : Version) (names : List (List ℕ)) (text : List ℕ) (signatures : List Signature) (rest : List ℕ) (number : ℕ) (name inner : List ℕ) (remarks : Remarks)
    (at : IsBetween version names text signatures rest number) (heading : IsHeading signatures rest name inner) (said : AreRemarks version inner (number + 1) remarks) where
  -- one signature more
  between-more : (p : Prototype) (more : List ℕ) (next : ℕ) → p.returns ≡ remarks.returns → p.args ≡ remarks.args → IsSignature (length names) (name, p) → lines_text names p.scheme.lines ++ (codes "end\n" ++ more) ≡ remarks.rest.now → remarks.number + length p.scheme.lines + 1 ≡ next → IsBetween version names text (signatures ++ (name, p) ∷ []) more next
  between-more p more next returns args right body counted =
      let saying : IsSayable version p.returns p.args = subst (λ b. IsSayable version b p.args) (sym returns) (subst (IsSayable version remarks.returns) (sym args) said.said) in
      let joined : remarks_text p.returns p.args ++ remarks.rest.now ≡ inner =
      ap (λ b. remarks_text b p.args ++ remarks.rest.now) returns ∙ (ap (λ a. remarks_text remarks.returns a ++ remarks.rest.now) args ∙ said.joined)
      in
      let count : remark_count p.returns p.args ≡ remark_count remarks.returns remarks.args = ap (λ b. remark_count b p.args) returns ∙ ap (remark_count remarks.returns) args in
      let here : signature_text names (name, p) ++ more ≡ rest = signature_text-joined names name p rest inner remarks.rest.now more heading.joined joined body in
      record {
        chosen = at.chosen;
        good = signatures-more (length names) signatures (name, p) at.good heading.new right;
        sayable = All-push (λ (s : Signature). IsSayable version s.1.returns s.1.args) signatures (name, p) at.sayable saying;
        joined = file_text-push version names signatures (name, p) more ∙ (ap (λ s. file_text version names signatures ++ s) here ∙ at.joined);
        counted = omega (arith, line_count-push signatures name p, at.counted, said.counted, count, counted);
      }

  -- within a signature
  abbrev inside : (lines : List Line) (more : List ℕ) (next : ℕ) → IsReadTo names remarks.args remarks.rest.now remarks.number lines more next → IsInside names text more next
  inside lines more next read =
      let none : lines ≡ [] → more ≡ remarks.rest.now = λ e. ap (λ ls. lines_text names ls ++ more) (sym e) ∙ read.joined in
      record {
        version = version;
        signatures = signatures;
        name = name;
        returns = remarks.returns;
        args = remarks.args;
        lines = lines;
        chosen = at.chosen;
        good = at.good;
        sayable = at.sayable;
        bytes = heading.bytes;
        new = heading.new;
        said = said.said;
        few = said.few;
        each = read.each;
        within = read.within;
        no_more = λ e remark. said.no_more (subst (HasRemark version remarks.returns remarks.args) (none e) remark);
        joined =
            ap (λ s. file_text version names signatures ++ s)
            (ap (λ s. heading_text name ++ 10 ∷ s) (ap (λ s. remarks_text remarks.returns remarks.args ++ s) read.joined ∙ said.joined) ∙ heading.joined)
            ∙ at.joined;
        counted = omega (arith, at.counted, said.counted, read.counted);
      }

  pub inside_fault : (fault : SigFault) → length text ≤ most_bytes → IsBodyFault names remarks.args remarks.rest.now remarks.number fault → IsFault names text fault
  inside_fault (BadLine n) small fault = (small, inr (record { rest = fault.rest; at = inside fault.lines fault.rest n fault.read; bad = fault.bad }))
  inside_fault (UnknownConst n) small fault =
      (small, record { rest = fault.rest; at = inside fault.lines fault.rest n fault.read; line = fault.line; first = fault.first_line; unknown = fault.unknown })
  inside_fault (Args n) small fault =
      (small, record { rest = fault.rest; at = inside fault.lines fault.rest n fault.read; line = fault.line; first = fault.first_line; past = fault.past })
  inside_fault (Twice n) small none = absurd none
  inside_fault TooLarge small none = absurd none
  inside_fault Memory small none = tt

  -- one signature more, as it is pushed
  pub between-step : (items : List ℕ) (body : Body) (p : Prototype) (new : List Signature) → items ≡ name → p.scheme ≡ body.scheme → p.returns ≡ remarks.returns → p.args ≡ remarks.args → new ≡ signatures ++ (items, p) ∷ [] → IsBody names remarks.args remarks.rest.now remarks.number body → IsBetween version names text new body.rest.now body.number
  between-step items body p new same scheme returns args pushed read =
      let grown : new ≡ signatures ++ (name, p) ∷ [] = pushed ∙ ap (λ (n : List ℕ). signatures ++ (n, p) ∷ []) same in
      let right : IsSignature (length names) (name, p) =
      record {
        bytes = heading.bytes;
        own = ap (λ s. s.base) scheme ∙ read.own;
        good = subst (λ s. All (IsSignatureLine (length names)) s.lines) (sym scheme) read.each;
        few = subst (λ a. IfSome a (λ n. n ≤ 8)) (sym args) said.few;
        within = subst (λ a. All (λ l. IsTrue (is_within a l)) p.scheme.lines) (sym args) (subst (λ s. All (λ l. IsTrue (is_within remarks.args l)) s.lines) (sym scheme) read.within);
      }
      in
      subst (λ s. IsBetween version names text s body.rest.now body.number) (sym grown)
      (between-more p body.rest.now body.number returns args right
      (ap (λ s. lines_text names s.lines ++ (codes "end\n" ++ body.rest.now)) scheme ∙ read.joined)
      (ap (λ s. remarks.number + length s.lines + 1) scheme ∙ read.counted))

pub heading_fault : (version : Version) (names : List (List ℕ)) (text : List ℕ) (signatures : List Signature) (rest : List ℕ) (number : ℕ) (fault : SigFault) → length text ≤ most_bytes → rest ≢ [] → IsBetween version names text signatures rest number → IsHeadingFault signatures rest number fault → IsFault names text fault
heading_fault version names text signatures rest number (BadLine n) small some at (same, inl none) =
    (small, inl (record { version = version; signatures = signatures; rest = rest; at = subst (IsBetween version names text signatures rest) (sym same) at; bad = inl (some, none) }))
heading_fault version names text signatures rest number (BadLine n) small some at (same, inr bad) =
    (small, inl (record { version = version; signatures = signatures; rest = rest; at = subst (IsBetween version names text signatures rest) (sym same) at; bad = inr bad }))
heading_fault version names text signatures rest number (Twice n) small some at (same, (name, bytes, first, named)) =
    (small, record { version = version; signatures = signatures; rest = rest; at = subst (IsBetween version names text signatures rest) (sym same) at; name = name; bytes = bytes; first = first; named = named })
heading_fault version names text signatures rest number (UnknownConst n) small some at none = absurd none
heading_fault version names text signatures rest number (Args n) small some at none = absurd none
heading_fault version names text signatures rest number TooLarge small some at none = absurd none
heading_fault version names text signatures rest number Memory small some at none = tt

-- a signature's first line is one of the bytes at least
pub heading-long : (signatures : List Signature) (text name rest : List ℕ) → IsHeading signatures text name rest → length rest + 1 ≤ length text
heading-long signatures text name rest heading =
    let long : length (heading_text name ++ 10 ∷ rest) ≡ length text = ap length heading.joined in
    omega (arith, long, length-append (heading_text name) (10 ∷ rest))
