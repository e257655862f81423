-- Whether a judgement is derivable from the lines of a text.
use Rattle.std.specs.Prelude.{◌≡◌, ℕ, ◌↔◌, List, Bool, IsTrue, length}
use Rattle.rt_lines.specs.declared.line.Judge.{Judge}
use Rattle.rt_lines.specs.declared.line.Line.{Line}
use Rattle.rt_lines.specs.Orders.{Below}
use Rattle.rt_texts.specs.Goods.{IsJudge}
use Rattle.rt_texts.specs.Readings.{IsNoText}
use Rattle.rt_texts.specs.Texts.{judge_text}
use Rattle.rt_rules.specs.Rules.{Derivable, line_of}
use Rattle.rt_entail.specs.declared.fault.EntailFault.{EntailFault}
use Rattle.rt_entail.specs.declared.fault.EntailFault.TheVariants.{BadLine, BadJudgement, Memory}
use Rattle.rt_entail.specs.Files.{IsFileOf, IsBadAt}

-- Why the text and the judgement are refused: for the text's first bad line, else for the judgement. `names` are those of
-- the constants.
abbrev pub IsRefusal : List (List ℕ) → List ℕ → List ℕ → EntailFault → Type 0
IsRefusal names text judgement (BadLine place) = IsBadAt names text place
IsRefusal names text judgement BadJudgement = ((lines : List Line) × IsFileOf names text lines) ×
    IsNoText (IsJudge (length names)) (judge_text names) judgement
IsRefusal names text judgement Memory = Unit {0}

-- the answer to a judgement: whether it is derivable from the lines of the text with the order of the names. Each `Order` is an order
pub record IsAnswer (order : Below) (names : List (List ℕ)) (text judgement : List ℕ) (yes : Bool) : Type 0 where
  pub lines : List Line
  pub file : IsFileOf names text lines
  pub judge : Judge
  pub good : IsJudge (length names) judge
  pub is_judgement : judge_text names judge ≡ judgement
  pub exact : IsTrue yes ↔ Derivable order lines (line_of judge)
