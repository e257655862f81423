use Rattle.std.proofs.Common.{ℕ, Vec, Global}
use Rattle.rt_cdecl.proofs.KindSets.{names_added}
use Rattle.rt_cdecl.proofs.Left.{sorted_apart}
use Rattle.rt_cdecl.proofs.kinds.NameSet.add.Goals as goal

pub returns : goal.returns
returns c =
    names_added (λ (k : Vec ℕ Global). k.items) c.self.inside.set.keys c.insert.new.self.keys _ c.args.name.now _ c.self.view_is (c.in_ok-name.ensures.items_if_clones_equal (λ x y e. e)) c.in_ok-insert.ensures.keys

pub invariant_of-self : goal.invariant_of-self
invariant_of-self c = sorted_apart (λ (k : Vec ℕ Global). k.items) c.insert.new.self.keys c.insert.ensures.ordered

pub invariant_of-self-2 : goal.invariant_of-self-2
invariant_of-self-2 c = sorted_apart (λ (k : Vec ℕ Global). k.items) c.insert.new.self.keys c.insert.ensures.ordered
