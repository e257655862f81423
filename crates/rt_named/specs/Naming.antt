-- The variables that lines name, in order.
use Rattle.std.specs.Prelude.{List, [], ◌∷◌, ◌++◌, map, fold, flat_map}
use Rattle.indexmap.specs.IndexSet.{insert_key}
use Rattle.rt_lines.specs.declared.label.Label.{Label}
use Rattle.rt_lines.specs.declared.variable.Dtv.{Dtv}
use Rattle.rt_lines.specs.declared.line.Line.{Line}
use Rattle.rt_lines.specs.declared.line.Line.TheVariants.{Var, Same, Sub, Low, Up}
use Rattle.rt_lines.specs.Equality.{variable_eq}

-- the variables of a line, the left side first
abbrev pub sides_of : Line → List Dtv
sides_of (Var x) = x ∷ []
sides_of (Same x y) = x ∷ y ∷ []
sides_of (Sub x y) = x ∷ y ∷ []
sides_of (Low k x) = x ∷ []
sides_of (Up x k) = x ∷ []

-- the prefixes of a word, shortest first
abbrev pub word_prefixes : List Label → List (List Label)
word_prefixes [] = [] ∷ []
word_prefixes (l ∷ w) = [] ∷ map (λ (v : List Label). l ∷ v) (word_prefixes w)

-- the prefixes of a variable, shortest first
abbrev pub prefixes : Dtv → List Dtv
prefixes x = map (λ (w : List Label). record { base = x.base; word = w }) (word_prefixes x.word)

-- the list with the prefixes of variables added, each once
abbrev pub with_prefixes : List Dtv → List Dtv → List Dtv
with_prefixes known variables = fold (insert_key variable_eq) known (flat_map prefixes variables)

-- all prefixes of the variables of lines in order and then of more variables, shortest first, each once
abbrev pub named : List Line → List Dtv → List Dtv
named lines extra = with_prefixes [] (flat_map sides_of lines ++ extra)
