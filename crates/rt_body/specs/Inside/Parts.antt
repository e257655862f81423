-- What is read of a procedure before its flow.
use Rattle.std.specs.Prelude.{◌≡◌, ℕ, ◌<◌, All, List, length}
use Rattle.rt_elf.specs.Parts.{Parts as Object}
use Rattle.rt_proc.specs.declared.proc.Proc.{Proc}
use Rattle.rt_body.specs.declared.action.Action.{Action}
use Rattle.rt_body.specs.Actions.{actions_of}
use Rattle.rt_body.specs.Registers.{HasRegisters}
use Rattle.rt_body.specs.Readings.{flow_body, register_body}

-- what the sites of a procedure of an object do, the number of its entry, and its edges
pub record AreParts (object : Object) (proc : Proc) (actions : List Action) (entry : ℕ) (edges : List (ℕ × ℕ)) : Type 0 where
  pub acting : actions ≡ actions_of object proc
  pub flowing : flow_body actions entry edges ≡ register_body proc actions
  pub entered : entry < length actions
  pub joined : All (λ e. (e.0 < length actions) × (e.1 < length actions)) edges
  pub ranged : All HasRegisters actions
