-- What follows from rules.
use Rattle.std.specs.Prelude.{◌≡◌, ℕ, Bool, true, false, List, [], get_or, Contains}
use Rattle.std.specs.List.{list_any}
use Rattle.rt_liveness.specs.contracts.rule.PortPartialEq.TheImpl as the_port
use Rattle.rt_liveness.specs.declared.rule.Port.{Port}
use Rattle.rt_liveness.specs.declared.rule.Rule.{Rule}
use Rattle.rt_liveness.specs.declared.rule.When.{When}
use Rattle.rt_liveness.specs.declared.rule.When.TheVariants.{Never, Always, If}

-- equality as `==` computes it
abbrev pub port_eq : Port → Port → Bool
port_eq = (the_port.ghosts).eq

-- a rule says that the port holds then
abbrev pub Says : When → Rule → Port → Type 0
Says when rule port = rule ≡ record { when = when; port = port }

-- one of some rules does
abbrev pub IsSaid : List Rule → When → Port → Type 0
IsSaid rules when port = Contains rules (record { when = when; port = port })

-- what rules derive: the least set that they hold of
pub data Follows (rules : List Rule) : Port → Type 0 where
  fact : {port : Port} → IsSaid rules Always port → Follows rules port
  step : {premise port : Port} → Follows rules premise → IsSaid rules (If premise) port → Follows rules port

-- whether something holds, by what was found
abbrev pub is_met : List Port → When → Bool
is_met found Never = false
is_met found Always = true
is_met found (If port) = list_any (port_eq port) found

-- the rules of a number in a table
abbrev pub rules_at : List (List Rule) → ℕ → List Rule
rules_at table p = get_or table p []

-- the procedure of a number is the premise of a rule
abbrev pub IsPremise : ℕ → Rule → Type 0
IsPremise p rule = (premise : Port) × (rule.when ≡ If premise) × (premise.procedure ≡ p)
