use Rattle.std.proofs.Common.{◌≡◌, ℕ, ◌↔◌, Option, Some, None, IfSome, IsNone, refl}
use Rattle.rt_insn.specs.Table.{IsCode}
use Rattle.rt_insn.specs.Range.{HasRange}
use Rattle.rt_insn.specs.declared.insn.Insn.{Insn}
use Rattle.rt_insn.proofs.Ranges.{code-range}

-- an answer that is the table's, and that is given wherever the table has one, is None just where the table has none
pub none-no_code : (w : ℕ) (answer : Option Insn) → IfSome answer (IsCode w) → ((i : Insn) → IsCode w i → answer ≡ Some i) → IsNone answer ↔ ((i : Insn) → ¬ IsCode w i)
none-no_code w None found only =
    let never : (i : Insn) → ¬ IsCode w i = λ i h. let e : None ≡ Some i = only i h in cc in
    (λ n. never, λ n. refl)
none-no_code w (Some i) found only = (λ n. cc, λ never. absurd (never i found))

-- an answer that is the table's is in range
pub found-in_range : (w : ℕ) (answer : Option Insn) → IfSome answer (IsCode w) → IfSome answer HasRange
found-in_range w None found = tt
found-in_range w (Some i) found = code-range w i found
