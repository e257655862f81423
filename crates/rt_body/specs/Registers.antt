-- The registers that actions name are x0 to x31.
use Rattle.std.specs.Prelude.{ℕ, ◌<◌, List, Option, Some, None, All}
use Rattle.std.specs.Coded.{×_prop, Π_prop, Unit-prop, le_prop}
use Rattle.rt_body.specs.declared.action.Action.{Action}
use Rattle.rt_body.specs.declared.action.Action.TheVariants as action
use Rattle.rt_body.specs.declared.action.Address.{Address}
use Rattle.rt_body.specs.declared.action.Address.TheVariants as address

-- the register of an address
abbrev pub HasAddressRegister : Address → Type 0
HasAddressRegister (address.Symbol symbol addend) = Unit {0}
HasAddressRegister (address.Register register immediate) = register < 32

-- the second operand of a computation
abbrev pub HasOperandRegister : Option ℕ → Type 0
HasOperandRegister None = Unit {0}
HasOperandRegister (Some register) = register < 32

-- the registers of an action, but for those of its callee
abbrev pub HasRegisters : Action → Type 0
HasRegisters (action.Constant to value) = to < 32
HasRegisters (action.Symbol to symbol addend) = to < 32
HasRegisters (action.AddImmediate to from immediate) = (to < 32) × (from < 32)
HasRegisters (action.Add to left right) = (to < 32) × ((left < 32) × (right < 32))
HasRegisters (action.Load loaded to address) = (to < 32) × HasAddressRegister address
HasRegisters (action.Store width register address) = (register < 32) × HasAddressRegister address
HasRegisters (action.Compute operation to left right) = (to < 32) × ((left < 32) × HasOperandRegister right)
HasRegisters (action.Compare left right) = (left < 32) × (right < 32)
HasRegisters (action.Write to) = to < 32
HasRegisters (action.Call callee link) = link < 32
HasRegisters other = Unit {0}

-- such facts have one proof

HasAddressRegister-prop : (a : Address) → IsProp (HasAddressRegister a)
HasAddressRegister-prop (address.Symbol symbol addend) = Unit-prop
HasAddressRegister-prop (address.Register register immediate) = le_prop

HasOperandRegister-prop : (operand : Option ℕ) → IsProp (HasOperandRegister operand)
HasOperandRegister-prop None = Unit-prop
HasOperandRegister-prop (Some register) = le_prop

pub HasRegisters-prop : (act : Action) → IsProp (HasRegisters act)
HasRegisters-prop (action.Constant to value) = le_prop
HasRegisters-prop (action.Symbol to symbol addend) = le_prop
HasRegisters-prop (action.AddImmediate to from immediate) = ×_prop le_prop le_prop
HasRegisters-prop (action.Add to left right) = ×_prop le_prop (×_prop le_prop le_prop)
HasRegisters-prop (action.Load loaded to a) = ×_prop le_prop (HasAddressRegister-prop a)
HasRegisters-prop (action.Store width register a) = ×_prop le_prop (HasAddressRegister-prop a)
HasRegisters-prop (action.Compute operation to left right) = ×_prop le_prop (×_prop le_prop (HasOperandRegister-prop right))
HasRegisters-prop (action.Compare left right) = ×_prop le_prop le_prop
HasRegisters-prop (action.Write to) = le_prop
HasRegisters-prop (action.Call callee link) = le_prop
HasRegisters-prop action.Pass = Unit-prop
HasRegisters-prop action.Return = Unit-prop
HasRegisters-prop action.Stop = Unit-prop

pub HaveRegisters-prop : (actions : List Action) → IsProp (All HasRegisters actions)
HaveRegisters-prop actions = Π_prop (λ k. Π_prop (λ d. Π_prop (λ less. HasRegisters-prop _)))
