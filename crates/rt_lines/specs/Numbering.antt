-- Each line once, and existentials numbered as they are first named.
use Rattle.std.specs.Prelude.{ℕ, List, [], ◌∷◌, map, fold, flat_map, nat_eq}
use Rattle.std.specs.List.{position_or_len}
use Rattle.indexmap.specs.IndexSet.{insert_key}
use Rattle.rt_lines.specs.declared.variable.Base.{Base}
use Rattle.rt_lines.specs.declared.variable.Base.TheVariants.{Proc, Global, Exist, Outer}
use Rattle.rt_lines.specs.declared.line.Line.{Line}
use Rattle.rt_lines.specs.Equality.{line_eq}
use Rattle.rt_lines.specs.Sides.{sides, map_line, renamed}

-- each line once, where it is first
abbrev pub deduplicated : List Line → List Line
deduplicated lines = fold (insert_key line_eq) [] lines

-- the existential of a variable, if its base is one
abbrev pub existential_of : Base → List ℕ
existential_of (Proc n) = []
existential_of (Global n) = []
existential_of (Exist n) = n ∷ []
existential_of (Outer n) = []

-- the existentials of a line, its left side before its right
abbrev pub existentials_of : Line → List ℕ
existentials_of line = flat_map (λ x. existential_of x.base) (sides line)

-- the existentials of lines, each once, in the order in which they are first named
abbrev pub existentials : List Line → List ℕ
existentials lines = fold (insert_key nat_eq) [] (flat_map existentials_of lines)

-- an existential renamed to its place in a list, counted from 0
abbrev pub placed : List ℕ → Base → Base
placed order (Proc n) = Proc n
placed order (Global n) = Global n
placed order (Exist n) = Exist (position_or_len (nat_eq n) order)
placed order (Outer n) = Outer n

-- the lines with their existentials numbered from 0 in the order in which they are first named
abbrev pub numbered : List Line → List Line
numbered lines = map (map_line (renamed (placed (existentials lines)))) lines
