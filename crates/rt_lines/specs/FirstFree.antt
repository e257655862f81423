-- The first number that no existential of lines has, as it is above all that they have.
use Rattle.std.specs.Prelude.{ℕ, ◌+◌, max, List, fold, map, flat_map}
use Rattle.rt_lines.specs.declared.variable.Base.{Base}
use Rattle.rt_lines.specs.declared.variable.Base.TheVariants.{Proc, Global, Exist, Outer}
use Rattle.rt_lines.specs.declared.line.Line.{Line}
use Rattle.rt_lines.specs.Sides.{sides}

-- one above an existential, and 0 of another base
abbrev pub above : Base → ℕ
above (Proc n) = 0
above (Global n) = 0
above (Exist n) = n + 1
above (Outer n) = 0

-- one above the greatest existential of lines, or 0
abbrev pub first_free : List Line → ℕ
first_free lines = fold max 0 (flat_map (λ line. map (λ x. above x.base) (sides line)) lines)
