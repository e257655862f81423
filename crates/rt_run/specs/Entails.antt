-- What `entail` writes for a text and a judgement, and when it refuses them.
use Rattle.std.specs.Prelude.{◌≡◌, ℕ, ◌<◌, ◌≤◌, Bool, List, codes, length, if◌then◌else◌}
use Rattle.rt_lattice.specs.Lattices.{NamedOrder}
use Rattle.rt_entail.specs.declared.fault.EntailFault.TheVariants.{BadLine as HasBadLine, BadJudgement as IsBadJudgement}
use Rattle.rt_entail.specs.Entailment.{IsRefusal, IsAnswer}
use Rattle.rt_run.specs.declared.refusal.Refusal.{Refusal}
use Rattle.rt_run.specs.declared.refusal.Refusal.TheVariants.{TextTooLarge, BadLine, BadJudgement}

-- Why a text and a judgement are refused: the text is too long, else for its first bad line, else for the judgement.
-- Constants are those of the names.
abbrev pub IsEntailRefused : List (List ℕ) → List ℕ → List ℕ → Refusal → Type 0
IsEntailRefused names judgement text TextTooLarge = 1048576 < length text
IsEntailRefused names judgement text (BadLine place) = (length text ≤ 1048576) × IsRefusal names text judgement (HasBadLine place)
IsEntailRefused names judgement text BadJudgement = (length text ≤ 1048576) × IsRefusal names text judgement IsBadJudgement
IsEntailRefused names judgement text other = ⊥

-- whether the judgement is derivable from the lines of the text, which is no longer than a text may be, with the order of a lattice
pub record IsEntailText (lattice : NamedOrder) (judgement text written : List ℕ) : Type 0 where
  pub yes : Bool
  pub small : length text ≤ 1048576
  pub is_answer : IsAnswer lattice.order lattice.names text judgement yes
  pub is_text : written ≡ (if yes then codes "yes\n" else codes "no\n")
