-- Texts of lines that are read from the front.
use Rattle.std.proofs.Common.{◌≡◌, ℕ, ◌==◌, false, List, [], ◌∷◌, ◌++◌, All, length, take, drop, ◌-◌, refl, sym, ◌∙◌, ap, arith, append_assoc, append-nil}
use Rattle.std.specs.List.{flat_map}
use Rattle.std.proofs.lemmas.List.Elements.{All-push}
use Rattle.std.proofs.lemmas.Grind.{flat_map-append}
use Rattle.std.proofs.lemmas.Bool.Decides.{nat_tests}
use Rattle.std.proofs.lemmas.List.{take_all}
use Rattle.rt_lines.specs.declared.line.Line.{Line}
use Rattle.rt_texts.specs.Goods.{IsLine}
use Rattle.rt_texts.specs.Readings.{IsCut}
use Rattle.rt_texts.specs.Texts.{line_text, lines_text}

-- good lines stand before the rest of the text
pub record IsReadTo (names : List (List ℕ)) (text : List ℕ) (lines : List Line) (rest : List ℕ) : Type 0 where
  pub good : All (IsLine (length names)) lines
  pub joined : lines_text names lines ++ rest ≡ text

-- one line more, up to its line end
pub reads_line : (names : List (List ℕ)) (text : List ℕ) (lines : List Line) (rest front back : List ℕ) (line : Line) → IsReadTo names text lines rest → IsCut 10 rest front back → (length back ≡ 0 → ⊥) → IsLine (length names) line → line_text names line ≡ front → IsReadTo names text (lines ++ line ∷ []) (take (length back - 1) (drop 1 back))
reads_line names text lines rest front [] line read cut there good is = absurd (there refl)
reads_line names text lines rest front (b ∷ back) line read cut there good is =
    let short : length (b ∷ back) - 1 ≡ length back = omega arith in
    let whole : take (length (b ∷ back) - 1) back ≡ back = rw short (take_all (length back) back (omega arith)) in
    let one : flat_map (λ l. line_text names l ++ 10 ∷ []) (line ∷ []) ≡ line_text names line ++ 10 ∷ [] = append-nil _ in
    let both : lines_text names (lines ++ line ∷ []) ≡ lines_text names lines ++ (line_text names line ++ 10 ∷ []) = flat_map-append (λ l. line_text names l ++ 10 ∷ []) lines (line ∷ []) ∙ ap (λ s. lines_text names lines ++ s) one in
    let parts : (front ++ 10 ∷ []) ++ back ≡ rest = append_assoc front (10 ∷ []) back ∙ (ap (λ c. front ++ c ∷ back) (sym cut.stops) ∙ sym cut.joined) in
    record {
      good = All-push (IsLine (length names)) lines line read.good good;
      joined = rw (whole, both, is, append_assoc (lines_text names lines) (front ++ 10 ∷ []) back, parts) read.joined;
    }

-- a list of a length other than 0
pub some_left : (n : ℕ) → n ≡ 0 → false ≡ (n == 0) → ⊥
some_left n e f = grind (arith, nat_tests)
