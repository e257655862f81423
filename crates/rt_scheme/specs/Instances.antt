-- Instances of schemes: what is instantiated, and how.
use Rattle.std.specs.Prelude.{◌≡◌, ℕ, ◌+◌, nat_eq, Bool, if◌then◌else◌, List, [], ◌∷◌, ◌++◌, map, fold, flat_map, length}
use Rattle.std.specs.List.{position_or_len}
use Rattle.indexmap.specs.IndexSet.{insert_key}
use Rattle.rt_lines.specs.declared.label.Label.{Label}
use Rattle.rt_lines.specs.declared.variable.Base.{Base}
use Rattle.rt_lines.specs.declared.variable.Base.TheVariants.{Proc, Global, Exist, Outer}
use Rattle.rt_lines.specs.declared.variable.Dtv.{Dtv}
use Rattle.rt_lines.specs.declared.line.Line.{Line}
use Rattle.rt_lines.specs.Sides.{map_line, sides}
use Rattle.rt_scheme.specs.declared.origin.Origin.{Origin}
use Rattle.rt_scheme.specs.declared.origin.Origin.TheVariants.{Port, Bound}
use Rattle.rt_scheme.specs.contracts.origin.OriginPartialEq.TheImpl as the_origin
use Rattle.rt_scheme.specs.declared.instance.Instance.{Instance}

-- equality as `==` computes it
abbrev pub origin_eq : Origin → Origin → Bool
origin_eq = (the_origin.ghosts).eq

-- what of a variable is instantiated: the label directly after the scheme's own base, or the existential
abbrev pub origin_of : ℕ → Base → List Label → List Origin
origin_of own (Proc n) [] = []
origin_of own (Proc n) (l ∷ w) = if nat_eq n own then Port l ∷ [] else []
origin_of own (Global n) w = []
origin_of own (Exist n) w = Bound n ∷ []
origin_of own (Outer n) w = []

-- what of a line is instantiated, its left side before its right
abbrev pub origins_of : ℕ → Line → List Origin
origins_of own line = flat_map (λ x. origin_of own x.base x.word) (sides line)

-- what of lines is instantiated, each once, in the order in which it is first named
abbrev pub origins : ℕ → List Line → List Origin
origins own lines = fold (insert_key origin_eq) [] (flat_map (origins_of own) lines)

-- how many existentials an instance makes
abbrev pub new_count : ℕ → List Line → ℕ
new_count own lines = length (origins own lines)

-- the new existentials are numbered in order from the first free number on
abbrev pub number_of : ℕ → List Origin → Origin → ℕ
number_of first order origin = first + position_or_len (origin_eq origin) order

-- a variable in an instance: a label directly after the own base has become an existential, an existential another one
abbrev pub instanced_side : ℕ → ℕ → List Origin → Base → List Label → Dtv
instanced_side own first order (Proc n) [] = record { base = Proc n; word = [] }
instanced_side own first order (Proc n) (l ∷ w) =
    if nat_eq n own then record { base = Exist (number_of first order (Port l)); word = w } else record { base = Proc n; word = l ∷ w }
instanced_side own first order (Global n) w = record { base = Global n; word = w }
instanced_side own first order (Exist n) w = record { base = Exist (number_of first order (Bound n)); word = w }
instanced_side own first order (Outer n) w = record { base = Outer n; word = w }

abbrev pub instanced : ℕ → ℕ → List Origin → Dtv → Dtv
instanced own first order x = instanced_side own first order x.base x.word

-- the labels among what is instantiated, each with its existential, numbered from the first number on
abbrev pub ports_from : ℕ → List Origin → List (Label × ℕ)
ports_from first [] = []
ports_from first (Port l ∷ order) = (l, first) ∷ ports_from (first + 1) order
ports_from first (Bound n ∷ order) = ports_from (first + 1) order

-- the lines of an instance
abbrev pub instance_lines : ℕ → List Line → ℕ → List Line
instance_lines own lines first = map (map_line (instanced own first (origins own lines))) lines

-- the ports of an instance
abbrev pub instance_ports : ℕ → List Line → ℕ → List (Label × ℕ)
instance_ports own lines first = ports_from first (origins own lines)

-- the instance of a scheme's lines whose new existentials are the numbers from the first one up to but not `next_free`
pub record IsInstance (own : ℕ) (lines : List Line) (first : ℕ) (instance : Instance) : Type 0 where
  pub lines_are : instance.lines ≡ instance_lines own lines first
  pub ports_are : instance.ports ≡ instance_ports own lines first
  pub counted : instance.next_free ≡ first + new_count own lines
