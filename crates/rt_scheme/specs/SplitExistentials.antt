-- Which existential is for which argument or result of other procedures.
use Rattle.std.specs.Prelude.{ℕ, ◌+◌, nat_eq, Bool, not, List, [], fold, map}
use Rattle.std.specs.List.{position_or_len}
use Rattle.indexmap.specs.IndexSet.{insert_key}
use Rattle.rt_lines.specs.declared.line.Line.{Line}
use Rattle.rt_lines.specs.FirstFree.{first_free}
use Rattle.rt_scheme.specs.declared.interface.Interface.{Interface}
use Rattle.rt_scheme.specs.contracts.interface.InterfacePartialEq.TheImpl as the_interface
use Rattle.rt_scheme.specs.Splitting.{interfaces, split_line}

-- equality as `==` computes it
abbrev pub interface_eq : Interface → Interface → Bool
interface_eq = (the_interface.ghosts).eq

-- each procedure but the own one
abbrev pub is_other : ℕ → ℕ → Bool
is_other own q = not (nat_eq q own)

-- the arguments and results of other procedures in the lines, each once, in the order in which they are first named
abbrev pub other_interfaces : ℕ → List Line → List Interface
other_interfaces own lines = fold (insert_key interface_eq) [] (interfaces (is_other own) lines)

-- their existentials are numbered in order from the first number on
abbrev pub existential_for : ℕ → List Interface → Interface → ℕ
existential_for first order a = first + position_or_len (interface_eq a) order

-- the lines with an existential for each argument and result of another procedure, numbered in the order in which they are
-- first named, from the first number on that no line names
abbrev pub split_for : ℕ → List Line → List Line
split_for own lines = map (split_line (is_other own) (existential_for (first_free lines) (other_interfaces own lines))) lines
