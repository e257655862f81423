-- What was found of what procedures give and take.
use Rattle.std.specs.Prelude.{◌↔◌, List, Contains}
use Rattle.rt_elf.specs.Parts.{Parts as Object}
use Rattle.rt_proc.specs.declared.proc.Proc.{Proc}
use Rattle.rt_body.specs.declared.body.Body.{Body}
use Rattle.rt_sigs.specs.Signatures.{Signature}
use Rattle.rt_liveness.specs.declared.interface.Interface.{Interface}
use Rattle.rt_liveness.specs.declared.rule.Port.{Port}
use Rattle.rt_liveness.specs.declared.rule.Rule.{Rule}
use Rattle.rt_liveness.specs.Inside.Closures.{Follows}
use Rattle.rt_liveness.specs.Inside.GivesRules.{AreAllRules as AreGivesRules}
use Rattle.rt_liveness.specs.Inside.TakesRules.{AreAllRules as AreTakesRules}
use Rattle.rt_liveness.specs.Inside.Signed.{AreNamed}

-- what follows from the rules with a property
pub record IsClosure (IsRule : Rule → Type 0) (found : List Port) : Type 0 where
  pub by_rules : List Rule
  pub are_rules : (rule : Rule) → Contains by_rules rule ↔ IsRule rule
  pub follows : (port : Port) → Contains found port ↔ Follows by_rules port

-- what follows from the rules of procedures, and what signatures name
pub record IsInterface (object : Object) (procs : List Proc) (bodies : List Body) (signatures : List Signature) (interface : Interface)
    : Type 0 where
  pub are_named : AreNamed object signatures interface.named.items
  pub are_given : IsClosure (AreGivesRules interface.named.items procs bodies) interface.given.keys
  pub are_taken : IsClosure (AreTakesRules interface.given.keys interface.named.items procs bodies) interface.taken.keys
