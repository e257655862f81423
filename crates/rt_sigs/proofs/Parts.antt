-- Parts of signatures.
use Rattle.std.proofs.Common.{◌≡◌, ◌≢◌, ℕ, ◌+◌, inr, Bool, false, IsTrue, Option, List, [], ◌∷◌, ◌++◌, Contains, length, codes, refl, sym, ap, ◌∙◌, subst, arith, append_assoc, append-nil, length-append}
use Rattle.std.specs.Str.{bytes_eq}
use Rattle.std.proofs.lemmas.Slice.Eq.{bytes_eq-Decides}
use Rattle.std.proofs.lemmas.List.Elements.{All-push}
use Rattle.std.proofs.lemmas.Grind.{flat_map-append}
use Rattle.rt_lines.specs.declared.line.Line.{Line}
use Rattle.rt_texts.specs.Readings.{IsCut}
use Rattle.rt_texts.specs.Texts.{line_text, lines_text}
use Rattle.rt_scheme.specs.NameTexts.{name_text}
use Rattle.rt_scheme.specs.NameReadings.{AreBytes}
use Rattle.rt_scheme.specs.declared.scheme.Scheme.{Scheme}
use Rattle.rt_sigs.specs.declared.fault.SigFault.{SigFault}
use Rattle.rt_sigs.specs.declared.fault.SigFault.TheVariants.{BadLine, UnknownConst, Args, Twice, TooLarge, Memory}
use Rattle.rt_sigs.specs.Signatures.{Signature, IsSignatureLine, is_within, HasNamed, HasScheme}
use Rattle.rt_sigs.specs.SignatureTexts.{heading_text}
use Rattle.rt_sigs.specs.Faults.{IsFirstLine}
use Rattle.rt_sigs.specs.Inside.Readings.{IsHeading, IsHeadingFault, IsLineFault, IsRightLine, IsReadTo, IsBodyFault}

-- one line more
pub read-more : (names : List (List ℕ)) (args : Option ℕ) (text : List ℕ) (first : ℕ) (lines : List Line) (rest : List ℕ) (number : ℕ) (line : Line) (front more : List ℕ) → IsReadTo names args text first lines rest number → IsCut 10 rest front (10 ∷ more) → IsRightLine names args front line → IsReadTo names args text first (lines ++ line ∷ []) more (number + 1)
read-more names args text first lines rest number line front more read cut right =
    let one : lines_text names (line ∷ []) ≡ line_text names line ++ 10 ∷ [] = append-nil _ in
    let both : lines_text names (lines ++ line ∷ []) ≡ lines_text names lines ++ (front ++ 10 ∷ []) =
    flat_map-append (λ l. line_text names l ++ 10 ∷ []) lines (line ∷ []) ∙ ap (λ s. lines_text names lines ++ s) (one ∙ ap (λ s. s ++ 10 ∷ []) right.is) in
    let parts : (front ++ 10 ∷ []) ++ more ≡ rest = append_assoc front (10 ∷ []) more ∙ sym cut.joined in
    let all : lines_text names (lines ++ line ∷ []) ++ more ≡ text =
    ap (λ s. s ++ more) both ∙ (append_assoc (lines_text names lines) (front ++ 10 ∷ []) more ∙ (ap (λ s. lines_text names lines ++ s) parts ∙ read.joined)) in
    let long : length rest ≡ length front + length (10 ∷ more) = ap length cut.joined ∙ length-append front (10 ∷ more) in
    record {
      each = All-push (IsSignatureLine (length names)) lines line read.each right.good;
      within = All-push (λ l. IsTrue (is_within args l)) lines line read.within right.within;
      joined = all;
      counted = omega (arith, read.counted, length-append lines (line ∷ []));
      bounded = omega (arith, read.bounded, long);
    }

-- why such a line is none
pub body_fault : (names : List (List ℕ)) (args : Option ℕ) (text : List ℕ) (first : ℕ) (lines : List Line) (rest : List ℕ) (number : ℕ) (line more : List ℕ) (fault : SigFault) → IsReadTo names args text first lines rest number → IsCut 10 rest line (10 ∷ more) → codes "end" ≢ line → IsLineFault names args line number fault → IsBodyFault names args text first fault
body_fault names args text first lines rest number line more (BadLine n) read cut no_end (same, none, known) =
    record {
      lines = lines;
      rest = rest;
      read = subst (IsReadTo names args text first lines rest) (sym same) read;
      bad = inr (line, record { more = more; cut = cut }, record { no_end = no_end; no_line = none; known = known });
    }
body_fault names args text first lines rest number line more (UnknownConst n) read cut no_end (same, unknown) =
    record {
      lines = lines;
      rest = rest;
      read = subst (IsReadTo names args text first lines rest) (sym same) read;
      line = line;
      first_line = record { more = more; cut = cut };
      unknown = unknown;
    }
body_fault names args text first lines rest number line more (Args n) read cut no_end (same, past) =
    record {
      lines = lines;
      rest = rest;
      read = subst (IsReadTo names args text first lines rest) (sym same) read;
      line = line;
      first_line = record { more = more; cut = cut };
      past = past;
    }
body_fault names args text first lines rest number line more (Twice n) read cut no_end none = none
body_fault names args text first lines rest number line more TooLarge read cut no_end none = none
body_fault names args text first lines rest number line more Memory read cut no_end none = tt

-- the first line of a signature
pub first_heading : (text line more escaped name : List ℕ) → IsCut 10 text line (10 ∷ more) → line ≡ codes "sig " ++ escaped → name_text name ≡ escaped → IsFirstLine text (heading_text name)
first_heading text line more escaped name cut is named =
    let whole : line ≡ heading_text name = is ∙ ap (λ s. codes "sig " ++ s) (sym named) in
    record { more = more; cut = subst (λ l. IsCut 10 text l (10 ∷ more)) whole cut }

-- a signature whose name is one before
pub heading_twice : (signatures : List Signature) (text line more escaped name items : List ℕ) (scheme : Scheme) (number : ℕ) → items ≡ name → IsCut 10 text line (10 ∷ more) → line ≡ codes "sig " ++ escaped → AreBytes name × (name_text name ≡ escaped) → HasScheme signatures items scheme → IsHeadingFault signatures text number (Twice number)
heading_twice signatures text line more escaped name items scheme number same cut is read there =
    (refl, (name, read.0, first_heading text line more escaped name cut is read.1, named there))
  where
    named : HasScheme signatures items scheme → HasNamed signatures name
    named (p, contained, is) = (p, subst (λ n. Contains {X = Signature} signatures (n, p)) same contained)

-- a signature with a new name
pub heading_new : (signatures : List Signature) (text line more escaped name items : List ℕ) → items ≡ name → IsCut 10 text line (10 ∷ more) → line ≡ codes "sig " ++ escaped → AreBytes name × (name_text name ≡ escaped) → (HasNamed signatures items → ⊥) → IsHeading signatures text name more
heading_new signatures text line more escaped name items same cut is read new =
    let whole : heading_text name ≡ line = ap (λ s. codes "sig " ++ s) read.1 ∙ sym is in
    record { bytes = read.0; new = subst (λ n. HasNamed signatures n → ⊥) same new; joined = ap (λ s. s ++ 10 ∷ more) whole ∙ sym cut.joined }

-- a line other than `end`
pub no_end : (line word : List ℕ) (eq : Bool) → eq ≡ bytes_eq line word → eq ≡ false → word ≡ codes "end" → codes "end" ≢ line
no_end line word eq test unlike is same =
    let like = (bytes_eq-Decides line word).1 (sym same ∙ sym is) in
    cc
