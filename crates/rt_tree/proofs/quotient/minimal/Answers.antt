use Rattle.std.proofs.Common.{◌≡◌, List, ℕ, sym, subst}
use Rattle.rt_tree.specs.Trees.{Nodes, AreSame, IsMinimal, IsBreadthFirst, IsTree}
use Rattle.rt_tree.specs.Partitions.{AreClassesOf}
use Rattle.rt_tree.specs.Inside.Quotients.{IsQuotient}
use Rattle.rt_tree.proofs.Quotients.{IsLeastOf, quotient_least}
use Rattle.rt_tree.proofs.quotient.minimal.Goals as goal

-- the nodes that are read twice are the tree's
least_of : (tree first second least : Nodes) (class lent : List ℕ) → first ≡ tree → second ≡ tree → lent ≡ class → IsTree first → AreClassesOf first class → IsQuotient second lent least → IsLeastOf tree least
least_of tree first second least class lent e f g good are q =
    quotient_least tree (subst IsTree e good) class (subst (λ t. AreClassesOf t class) e are) least
    (subst (λ t. IsQuotient t class least) f (subst (λ c. IsQuotient second c least) g q))

pub of-requires : goal.of-requires
of-requires c = (least_of c.args.tree.now c.nodes.result.now c.nodes-2.result.now c.in_ok-nodes.nodes.items c.in_ok-class.class.items c.deref.result.now c.nodes.ensures.nodes c.nodes-2.ensures.nodes c.deref.ensures.value c.nodes.ensures.tree c.in_ok-class.ensures c.in_ok-nodes.ensures).whole

pub returns-clause-same : goal.returns-clause-same
returns-clause-same c =
    subst (AreSame c.args.tree.now) (sym c.of.ensures)
    (least_of c.args.tree.now c.nodes.result.now c.nodes-2.result.now c.in_ok-nodes.nodes.items c.in_ok-class.class.items c.deref.result.now c.nodes.ensures.nodes c.nodes-2.ensures.nodes c.deref.ensures.value c.nodes.ensures.tree c.in_ok-class.ensures c.in_ok-nodes.ensures).same

pub returns-clause-least : goal.returns-clause-least
returns-clause-least c =
    subst IsMinimal (sym c.of.ensures)
    (least_of c.args.tree.now c.nodes.result.now c.nodes-2.result.now c.in_ok-nodes.nodes.items c.in_ok-class.class.items c.deref.result.now c.nodes.ensures.nodes c.nodes-2.ensures.nodes c.deref.ensures.value c.nodes.ensures.tree c.in_ok-class.ensures c.in_ok-nodes.ensures).one

pub returns-clause-numbered : goal.returns-clause-numbered
returns-clause-numbered c =
    subst IsBreadthFirst (sym c.of.ensures)
    (least_of c.args.tree.now c.nodes.result.now c.nodes-2.result.now c.in_ok-nodes.nodes.items c.in_ok-class.class.items c.deref.result.now c.nodes.ensures.nodes c.nodes-2.ensures.nodes c.deref.ensures.value c.nodes.ensures.tree c.in_ok-class.ensures c.in_ok-nodes.ensures).numbered
