-- The lines, each once.
use Rattle.std.proofs.Common.{◌≢◌, ◌⊎◌, inl, inr, List, [], AllPairs, All, Contains, arith}
use Rattle.std.proofs.lemmas.List.Elements.{All-contains}
use Rattle.rt_base.proofs.Lists.{Contains-none, All-from_contains}
use Rattle.rt_lines.specs.declared.line.Line.{Line}
use Rattle.rt_lines.specs.Equality.{line_eq}
use Rattle.rt_lines.proofs.Equal.{line_equal}
use Rattle.rt_lines.specs.Numbering.{deduplicated}
use Rattle.rt_lines.proofs.Distinct.{inserted-has, inserted-source, inserted-distinct}
use Rattle.rt_lines.proofs.Same.{line_self}

-- each line stands there
pub deduplicated-has : (lines : List Line) (l : Line) → Contains lines l → Contains (deduplicated lines) l
deduplicated-has lines l h = inserted-has line_eq line_equal lines [] l h

-- and no other
pub deduplicated-source : (lines : List Line) (l : Line) → Contains (deduplicated lines) l → Contains lines l
deduplicated-source lines l h = by (inserted-source line_eq lines [] l h)
  where
    by : Contains [] l ⊎ Contains lines l → Contains lines l
    by (inl c) = absurd (Contains-none l c)
    by (inr c) = c

-- once
pub deduplicated-distinct : (lines : List Line) → AllPairs (λ a b. a ≢ b) (deduplicated lines)
deduplicated-distinct lines = inserted-distinct line_eq line_self lines [] (λ i j d less within. absurd (omega arith))

-- what holds of each line holds of each line that is left
pub deduplicated-all : (P : Line → Type 0) (lines : List Line) → All P lines → All P (deduplicated lines)
deduplicated-all P lines h = All-from_contains P (deduplicated lines) (λ l c. All-contains P lines l h (deduplicated-source lines l c))
