-- Judgements, their texts and their constants.
use Rattle.std.proofs.Common.{◌≡◌, ℕ, List, ◌∷◌, ◌⊎◌, inl, inr, All, length, sym, subst, ◌∙◌}
use Rattle.std.proofs.lemmas.List.Elements.{All-cons}
use Rattle.rt_lines.specs.declared.line.Judge.{Judge}
use Rattle.rt_lines.specs.declared.line.Judge.TheVariants.{Var as JudgeVar, Sub as JudgeSub, Low as JudgeLow, Up as JudgeUp}
use Rattle.rt_lines.specs.declared.line.Line.{Line}
use Rattle.rt_lines.specs.declared.line.Line.TheVariants.{Var, Same, Sub, Low, Up}
use Rattle.rt_lines.specs.Lines.{HasConstantsBelow}
use Rattle.rt_texts.specs.declared.fault.TextFault.{TextFault}
use Rattle.rt_texts.specs.declared.fault.TextFault.TheVariants.{BadText, Memory}
use Rattle.rt_texts.specs.Goods.{IsJudge, IsLine}
use Rattle.rt_texts.specs.Readings.{IsNoText}
use Rattle.rt_texts.specs.Texts.{judge_text}
use Rattle.rt_rules.specs.Rules.{line_of}

pub no_judge : (names : List (List ℕ)) (text : List ℕ) (fault : TextFault) (place : ℕ) → fault ≡ BadText place →
    (fault ≡ Memory) ⊎ ((fault ≡ BadText 0) × IsNoText (IsJudge (length names)) (judge_text names) text) →
    IsNoText (IsJudge (length names)) (judge_text names) text
no_judge names text fault place is (inl memory) = let h : Memory ≡ BadText place = sym memory ∙ is in cc
no_judge names text fault place is (inr (bad, none)) = none

line_constants : (count : ℕ) (l : Line) → IsLine count l → HasConstantsBelow count l
line_constants count (Var x) h = tt
line_constants count (Same x y) h = tt
line_constants count (Sub x y) h = tt
line_constants count (Low k x) h = h.0
line_constants count (Up x k) h = h.1

judge_constants : (count : ℕ) (j : Judge) → IsJudge count j → HasConstantsBelow count (line_of j)
judge_constants count (JudgeVar x) h = tt
judge_constants count (JudgeSub x y) h = tt
judge_constants count (JudgeLow k x) h = h.0
judge_constants count (JudgeUp x k) h = h.1

-- constants of a judgement and of lines are below the count of the names
pub constants : (names : List (List ℕ)) (count : ℕ) (j : Judge) (lines : List Line) → count ≡ length names →
    IsJudge (length names) j → All (IsLine (length names)) lines → All (HasConstantsBelow count) (line_of j ∷ lines)
constants names count j lines e h are =
    subst (λ n. All (HasConstantsBelow n) (line_of j ∷ lines)) (sym e)
    (All-cons (HasConstantsBelow (length names)) (line_of j) lines (judge_constants (length names) j h)
    (λ k d less. line_constants (length names) _ (are k d less)))
