-- Lines whose sides have numbers by which equals of existentials are found.
use Rattle.std.specs.Prelude.{◌≡◌, ℕ, ◌↔◌, List, Contains, length}
use Rattle.rt_lines.specs.declared.variable.Base.TheVariants.{Exist}
use Rattle.rt_lines.specs.declared.variable.Dtv.{Dtv}
use Rattle.rt_lines.specs.declared.line.Line.{Line}
use Rattle.rt_lines.specs.Orders.{Below}
use Rattle.rt_rules.specs.Laws.{NamesBase}
use Rattle.rt_rules.specs.Put.{exist}
use Rattle.rt_reduce.specs.Inside.Alike.{AreAlikeAt, HasNumber}
use Rattle.rt_reduce.specs.Inside.Merging.{IsSide}

-- the list has the sides of the lines, each with a number: those have the number of an existential that lie below it and above it. The
-- numbers of existentials are those of a list of variables
pub record IsCompared (lines : List Line) (known : List Dtv) (equals : List ℕ) (sides : List Dtv) (numbers : List ℕ) : Type 0 where
  pub each : length numbers ≡ length sides
  pub sides_are : (x : Dtv) → Contains sides x ↔ IsSide lines x
  pub is_known : (n : ℕ) → NamesBase lines (Exist n) → Contains known (exist n)
  pub alike : (order : Below) (n own : ℕ) → NamesBase lines (Exist n) → HasNumber known equals (exist n) own →
      AreAlikeAt order lines n sides numbers own
