-- Walks.

-- what any number of steps lead to from where walks start
pub data Walk {X : Type 0} (Starts : X → Type 0) (Leads : X → X → Type 0) : X → Type 0 where
  start : {x : X} → Starts x → Walk Starts Leads x
  step : {x y : X} → Walk Starts Leads x → Leads x y → Walk Starts Leads y
