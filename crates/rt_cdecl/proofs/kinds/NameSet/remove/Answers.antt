use Rattle.std.proofs.Common.{ℕ, Vec, Global}
use Rattle.rt_cdecl.proofs.Left.{names_removed, sorted_apart}
use Rattle.rt_cdecl.proofs.kinds.NameSet.remove.Goals as goal

pub returns : goal.returns
returns c = names_removed (λ (k : Vec ℕ Global). k.items) c.self.inside.set.keys c.remove.new.self.keys c.args.name.now _ c.self.view_is c.self.invariant c.remove.ensures.keys

pub invariant_of-self : goal.invariant_of-self
invariant_of-self c = sorted_apart (λ (k : Vec ℕ Global). k.items) c.remove.new.self.keys c.remove.ensures.ordered
