use Rattle.std.proofs.Common.{rules, Bool, false, Option, List, ℕ, replicate, sym, subst}
use Rattle.rt_plan.specs.Inside.Leasts.{IsTree}
use Rattle.rt_plan.proofs.Trees.{none_tree}
use Rattle.rt_plan.proofs.leasts.Leasts.none.Goals as goal

pub invariant_of-result : goal.invariant_of-result
invariant_of-result c =
    subst (λ (members : List Bool). IsTree members c.in_ok-tree.tree.items) (sym (c.in_ok-members.ensures.items_if_clones_equal (λ b e. e)))
    (subst (λ (tree : List (Option ℕ)). IsTree (replicate c.args.count false) tree) (sym (c.in_ok-tree.ensures.items_if_clones_equal (search rules))) (none_tree c.args.count))
