-- What one step of a state takes.
use Rattle.std.specs.Prelude.{◌≡◌, ◌↔◌, ℕ, Option, Some, None, List, Contains}
use Rattle.std.specs.Option.{option_map, option_and_then}
use Rattle.rt_lines.specs.declared.label.Label.{Label}
use Rattle.rt_ways.specs.Arcs.{IsInRow}
use Rattle.rt_ways.specs.Inside.Frames.{hub_of}
use Rattle.rt_ways.specs.Nets.{Net, class_at}
use Rattle.rt_ways.specs.Pushes.{step_of}
use Rattle.rt_sketch.specs.declared.state.State.{State}
use Rattle.rt_sketch.specs.declared.stepping.Side.{Side}
use Rattle.rt_sketch.specs.declared.stepping.Side.TheVariants.{Below, Above}

-- the rows of a side
abbrev pub rows_of : Net → Side → List (List ℕ)
rows_of net Below = net.below
rows_of net Above = net.above

-- a number behind a load or a store of the class
abbrev pub hub_in : Net → Option ℕ → Option ℕ
hub_in net class = option_and_then (hub_of net.behind) class

-- the class of what is behind a letter of the class
abbrev pub next_class : Net → Option ℕ → Label → Option ℕ
next_class net class l = option_map (class_at net) (option_and_then (λ c. step_of net.behind c l) class)

-- the number is in the row of one behind the letter of one of the numbers
abbrev pub IsLed : Net → List (List ℕ) → List ℕ → Label → ℕ → Type 0
IsLed net rows numbers l w = (q : ℕ) × (m : ℕ) × Contains numbers q × (step_of net.steps q l ≡ Some m) × IsInRow rows m w

-- the list has just the numbers of which something holds
abbrev pub AreAll : (ℕ → Type 0) → List ℕ → Type 0
AreAll P list = (w : ℕ) → Contains list w ↔ P w

-- the state has the class of a number, and its rows
pub record IsAt (net : Net) (place number : ℕ) (state : State) : Type 0 where
  pub node : state.node ≡ place
  pub class : state.class ≡ Some (class_at net number)
  pub below : AreAll (IsInRow net.below number) state.below.items
  pub above : AreAll (IsInRow net.above number) state.above.items

-- the state has no class, and nothing below and above
pub record IsNowhere (place : ℕ) (state : State) : Type 0 where
  pub node : state.node ≡ place
  pub class : state.class ≡ None
  pub below : AreAll (λ w. ⊥) state.below.items
  pub above : AreAll (λ w. ⊥) state.above.items

-- the state is that of a number, if there is one
abbrev pub IsFor : Net → ℕ → Option ℕ → State → Type 0
IsFor net node None state = IsNowhere node state
IsFor net node (Some number) state = IsAt net node number state

-- the state has a class, and what is led to from two lists behind a letter
pub record IsBehindOf (net : Net) (place : ℕ) (group : Option ℕ) (l : Label) (lower upper : List ℕ) (state : State) : Type 0 where
  pub node : state.node ≡ place
  pub class : state.class ≡ group
  pub below : AreAll (IsLed net net.below lower l) state.below.items
  pub above : AreAll (IsLed net net.above upper l) state.above.items
