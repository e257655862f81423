use Rattle.std.proofs.Common.{ℕ, Vec, Global}
use Rattle.rt_cdecl.proofs.KindSets.{names_has}
use Rattle.rt_cdecl.proofs.kinds.NameSet.has.Goals as goal

pub returns : goal.returns
returns c = names_has {K = Vec ℕ Global} (λ k. k.items) c.self.inside.set.keys c.args.name.now _ _ c.self.view_is c.contains.ensures
