-- The named variables from which, or to which, ways lead: what decides the marks of a variable and of all behind it.
use Rattle.std.specs.Prelude.{◌≡◌, ◌↔◌, ◌⊎◌, List, Contains, Bool, true, false}
use Rattle.rt_lines.specs.declared.label.Label.{Label}
use Rattle.rt_lines.specs.declared.label.Label.TheVariants.{Load, Store}
use Rattle.rt_lines.specs.declared.label.Variance.TheVariants.{Co, Contra}
use Rattle.rt_lines.specs.declared.variable.Dtv.{Dtv}
use Rattle.rt_lines.specs.declared.line.Line.{Line}
use Rattle.rt_lines.specs.Orders.{Below}
use Rattle.rt_rules.specs.Rules.{longer}
use Rattle.rt_loose.specs.Kinds.{Kind, flexible, signed, before}
use Rattle.rt_loose.specs.Ways.{Way, Every}

-- variables of one class with another one, those below it, and those above it
pub record Sets : Type 0 where
  pub class : List Dtv
  pub below : List Dtv
  pub above : List Dtv

-- from which variables ways of a kind lead
abbrev pub set_for : Kind → Sets → List Dtv
set_for flexible sets = sets.class
set_for (signed Co) sets = sets.below
set_for (signed Contra) sets = sets.above

-- the list has the named variables of this property, and no others
abbrev pub AreThose : List Dtv → (Dtv → Type 0) → List Dtv → Type 0
AreThose named Has list = (n : Dtv) → Contains list n ↔ (Contains named n × Has n)

-- the sets of a variable: what ways over all variables lead to it from, and from it to
pub record AreSets (order : Below) (lines : List Line) (named : List Dtv) (x : Dtv) (sets : Sets) : Type 0 where
  pub class : AreThose named (λ n. Way order lines Every n x flexible) sets.class
  pub below : AreThose named (λ n. Way order lines Every n x (signed Co)) sets.below
  pub above : AreThose named (λ n. Way order lines Every x n (signed Co)) sets.above

-- some variable of the list is this one without its last letter, and this one is named
abbrev pub IsBehind : List Dtv → List Dtv → Label → Dtv → Type 0
IsBehind named list l n = Contains named n × (q : Dtv) × Contains list q × (longer q l ≡ n)

-- where the ways to what is behind a letter begin, by their kind: behind that letter, with below and above exchanged if it is
-- contravariant; but where load and store can be exchanged, behind both of these letters of what is of one class
abbrev pub IsNext : List Dtv → Bool → Label → Sets → Kind → Dtv → Type 0
IsNext named true l sets k n = IsBehind named sets.class Load n ⊎ IsBehind named sets.class Store n
IsNext named false l sets k n = IsBehind named (set_for (before l k) sets) l n

-- the sets of what ways over named variables lead to the beginnings from, and from these to
pub record AreLed (order : Below) (lines : List Line) (named : List Dtv) (Begins : Kind → Dtv → Type 0) (sets : Sets) : Type 0 where
  pub class : AreThose named (λ n. (q : Dtv) × Begins flexible q × Way order lines (Contains named) n q flexible) sets.class
  pub below : AreThose named (λ n. (q : Dtv) × Begins (signed Co) q × Way order lines (Contains named) n q (signed Co)) sets.below
  pub above : AreThose named (λ n. (q : Dtv) × Begins (signed Contra) q × Way order lines (Contains named) q n (signed Co)) sets.above
