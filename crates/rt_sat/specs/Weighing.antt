-- The least counts of ways in a table are those of probes.
use Rattle.std.specs.Prelude.{ℕ, ℤ, ◌<◌, ◌≤◌, List, Contains, length}
use Rattle.rt_lines.specs.declared.label.Label.{Label}
use Rattle.rt_lines.specs.declared.label.Label.TheVariants.{Field}
use Rattle.rt_lines.specs.declared.label.Variance.{Variance}
use Rattle.rt_lines.specs.declared.variable.Dtv.{Dtv}
use Rattle.rt_lines.specs.declared.line.Line.{Line}
use Rattle.rt_lines.specs.declared.line.Line.TheVariants.{Sub}
use Rattle.rt_lines.specs.Orders.{Below}
use Rattle.rt_rules.specs.Rules.{longer, extended, Derivable}
use Rattle.rt_chain.specs.Numbers.{number_of}
use Rattle.rt_sat.specs.declared.state.State.{State}
use Rattle.rt_sat.specs.declared.state.Edge.{Edge}
use Rattle.rt_sat.specs.Numbered.{is_contra, at_number}
use Rattle.rt_sat.specs.Probe.{IsNew, pointer_words, probed, all_flip, IsCount}
use Rattle.rt_sat.specs.Pushes.{HasWalk}
use Rattle.rt_sat.specs.Searches.{Walk}
use Rattle.rt_sat.specs.Tables.{IsWholeTableOf}

-- the state of a number that a rest of the variance follows
abbrev pub signed : ℕ → Variance → State
signed n a = record { variable = n; contra = is_contra a }

-- in a table each way has the count of a probe, and each count of a probe has a way that is no longer
abbrev pub CountLaw : Type 0
CountLaw =
    (order : Below) (lines : List Line) (extra known : List Dtv) (edges : List Edge) → IsWholeTableOf lines extra known edges →
    (i j : ℕ) (a b : Variance) (n : ℕ) → i < length known → j < length known →
    (Walk edges (signed i a) (signed j b) n → IsCount order lines extra (at_number known i) a (at_number known j) b n)
    × (IsCount order lines extra (at_number known i) a (at_number known j) b n → HasWalk edges (signed i a) (signed j b) n)

-- a probe's numbers don't fall where the first variable lies below the second
abbrev pub RisingLaw : Type 0
RisingLaw =
    (order : Below) (lines : List Line) (extra known : List Dtv) (edges : List Edge) → IsWholeTableOf lines extra known edges →
    (i j : ℕ) → i < length known → j < length known →
    (k : ℤ) (m : ℕ) (v w : List Label) → IsNew lines extra k → Contains (pointer_words m) v → Contains (pointer_words m) w →
    Derivable order (probed lines (at_number known i) k m)
    (Sub (extended (longer (at_number known i) (Field 8 k)) v) (extended (longer (at_number known j) (Field 8 k)) w)) →
    number_of v (all_flip v) ≤ number_of w (all_flip w)
