use Rattle.rt_cdecl.proofs.Left.{value_drops, no_value_drops}
use Rattle.rt_cdecl.proofs.draft.use_function.Goals as goal

pub returns-in-Value : goal.returns-in-Value
returns-in-Value c = value_drops c.args.left.now c.remove_args.new.self c.remove.new.self c.args.returns.now c.args.args.now c.in-Value.kind c.in-Value.is c.remove_args.ensures c.remove.ensures

pub returns-in_default : goal.returns-in_default
returns-in_default c = no_value_drops c.args.left.now c.remove_args.new.self c.args.returns.now c.args.args.now c.in_default.not-Value c.remove_args.ensures
