-- What is kept of lines to tell the least counts between their variables.
use Rattle.std.specs.Prelude.{◌≡◌, ℕ, ◌<◌, List, [], Contains, Bool, true, false, Option, Some, None, MatchOption, length, min}
use Rattle.std.specs.Prelude.{slice_get, slice_index_or}
use Rattle.rt_lines.specs.declared.label.Variance.{Variance}
use Rattle.rt_lines.specs.declared.variable.Dtv.{Dtv}
use Rattle.rt_lines.specs.declared.line.Line.{Line}
use Rattle.rt_lines.specs.Orders.{Below}
use Rattle.rt_named.specs.Naming.{named}
use Rattle.rt_sat.specs.declared.state.State.{State}
use Rattle.rt_sat.specs.declared.state.Edge.{Edge}
use Rattle.rt_sat.specs.Numbered.{at_number}
use Rattle.rt_sat.specs.Probe.{IsWeight}
use Rattle.rt_sat.specs.Searches.{IsKnown, IsSearch}
use Rattle.rt_sat.specs.Tables.{IsWholeTableOf}

-- lines, and more variables
pub record Listed : Type 0 where
  pub lines : List Line
  pub extra : List Dtv

-- all variables that they name
abbrev pub variables : Listed → List Dtv
variables listed = named listed.lines listed.extra

-- the count that is known of a state, or the greatest number of 32 bits where that is no more
abbrev pub IsCapped : List (State × ℕ) → State → Option ℕ → Type 0
IsCapped row s said = MatchOption said ((k : ℕ) → IsKnown row s k → ⊥)
    (λ w. (k : ℕ) × IsKnown row s k × (w ≡ min k 4294967295))

-- the weight from one number's variable to another's, which no order of constants changes
abbrev pub IsWeightAt : Listed → ℕ → Variance → ℕ → Variance → Option ℕ → Type 0
IsWeightAt listed p a q b said =
    (order : Below) → IsWeight order listed.lines listed.extra (at_number (variables listed) p) a (at_number (variables listed) q) b said

-- the number of a variable among them
abbrev pub IsIndex : Listed → Dtv → Option ℕ → Type 0
IsIndex listed x said = MatchOption said (Contains (variables listed) x → ⊥) (λ i. slice_get (variables listed) i ≡ Some x)

-- for each number what a search finds from its state that turns the order round, or that does not
pub record AreSearches (edges : List Edge) (contra : Bool) (count : ℕ) (rows : List (List (State × ℕ))) : Type 0 where
  pub size : length rows ≡ count
  pub each : (n : ℕ) → n < count → IsSearch None edges (record { variable = n; contra = contra }) (slice_index_or rows n [])

-- the counts of a table, from all of its states
pub record AreWeighed (lines : List Line) (extra known : List Dtv) (co contra : List (List (State × ℕ))) : Type 0 where
  pub edges : List Edge
  pub table : IsWholeTableOf lines extra known edges
  pub first : AreSearches edges false (length known) co
  pub second : AreSearches edges true (length known) contra
