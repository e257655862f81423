-- The registers that hold whom procedures call are x0 to x31.
use Rattle.std.specs.Prelude.{All, List}
use Rattle.std.specs.Coded.{Π_prop}
use Rattle.rt_liveness.specs.declared.call.Call.{Call}
use Rattle.rt_liveness.specs.Calls.{HasCallRegister, HaveCallRegisters-prop}

-- those of the calls of procedures
abbrev pub HaveRegisters : List (List (List Call)) → Type 0
HaveRegisters calls = All (All (All HasCallRegister)) calls

-- such facts have one proof
pub HaveRegisters-prop : (calls : List (List (List Call))) → IsProp (HaveRegisters calls)
HaveRegisters-prop calls = Π_prop (λ q. Π_prop (λ d. Π_prop (λ less. HaveCallRegisters-prop _)))
