-- The bases that are kept, and their first variables.
use Rattle.std.specs.Prelude.{◌≡◌, ◌≢◌, ◌↔◌, ℕ, List, [], ◌∷◌, flat_map, Contains}
use Rattle.rt_lines.specs.declared.variable.Base.{Base}
use Rattle.rt_lines.specs.declared.variable.Base.TheVariants.{Proc, Global, Exist, Outer}
use Rattle.rt_lines.specs.declared.variable.Dtv.{Dtv}
use Rattle.rt_lines.specs.declared.line.Line.{Line}
use Rattle.rt_lines.specs.Orders.{Below}
use Rattle.rt_lines.specs.Sides.{sides}
use Rattle.rt_shape.specs.Graphs.{Graph, Has}
use Rattle.rt_reduction.specs.Before.{level}
use Rattle.rt_reduction.specs.Emits.{IsKept, IsOfKept}

-- the base, if it is an existential
abbrev pub existential_base : Base → List Base
existential_base (Proc n) = []
existential_base (Global n) = []
existential_base (Exist n) = Exist n ∷ []
existential_base (Outer n) = []

-- the base, if it is a global or a procedure
abbrev pub fixed_base : Base → List Base
fixed_base (Proc n) = Proc n ∷ []
fixed_base (Global n) = Global n ∷ []
fixed_base (Exist n) = []
fixed_base (Outer n) = []

-- the existentials that a line names
abbrev pub existential_bases : Line → List Base
existential_bases l = flat_map (λ x. existential_base x.base) (sides l)

-- the globals and procedures that a line names
abbrev pub fixed_bases : Line → List Base
fixed_bases l = flat_map (λ x. fixed_base x.base) (sides l)

-- these are the bases that are kept
abbrev pub AreKeptBases : List Line → List Base → Type 0
AreKeptBases lines bases = (order : Below) (b : Base) → Contains bases b ↔ IsKept order lines b

-- a variable of the base with no letter after it, where an argument or a result of a procedure counts as the base
pub record IsFirstOf (graph : Graph) (base : Base) (x : Dtv) : Type 0 where
  pub of_base : x.base ≡ base
  pub has : Has graph x
  pub no_letter : level x.base x.word ≡ 0
  pub no_procedure : (n : ℕ) → x.base ≡ Proc n → x.word ≢ []

-- the queue has the variables of kept bases with no letter after them, in that sense
abbrev pub AreFirst : List Line → List Dtv → Type 0
AreFirst lines queue = (order : Below) (x : Dtv) → Contains queue x ↔ (IsOfKept order lines x × (level x.base x.word ≡ 0))
