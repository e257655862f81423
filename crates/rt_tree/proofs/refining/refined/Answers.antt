use Rattle.std.proofs.Common.{◌≡◌, ℕ, List, true, false, subst, sym, ◌∙◌}
use Rattle.std.proofs.lemmas.Slice.Eq.{bytes_eq-Decides}
use Rattle.rt_tree.specs.Partitions.{AreFinerClasses}
use Rattle.rt_tree.proofs.Coarse.{slack_falls, finer_coarse, all_told}
use Rattle.rt_tree.proofs.refining.refined.Goals as goal

pub loop-class-init : goal.loop-class-init
loop-class-init c = finer_coarse c.args.nodes.now c.requires.nodes c.args.told.now c.in_ok-class.class.items c.requires.told c.in_ok-class.ensures

pub returns-then-eq : goal.returns-then-eq
returns-then-eq c =
    let nodes = c.args.nodes.now in
    let finer : AreFinerClasses nodes c.loop-class.class.items c.in_ok-next.next.items = subst (λ (class : List ℕ). AreFinerClasses nodes class c.in_ok-next.next.items) c.deref.ensures.value c.in_ok-next.ensures in
    let same : c.in_ok-next.next.items ≡ c.loop-class.class.items = (bytes_eq-Decides c.in_ok-next.next.items c.loop-class.class.items).0 (sym c.if-eq.ensures) in
    all_told nodes c.requires.nodes c.loop-class.class.items c.in_ok-next.next.items c.loop-class.invariant finer same

pub loop-class-smaller : goal.loop-class-smaller
loop-class-smaller c =
    let nodes = c.args.nodes.now in
    let finer : AreFinerClasses nodes c.loop-class.class.items c.in_ok-next.next.items = subst (λ (class : List ℕ). AreFinerClasses nodes class c.in_ok-next.next.items) c.deref.ensures.value c.in_ok-next.ensures in
    slack_falls nodes c.loop-class.class.items c.in_ok-next.next.items c.loop-class.invariant finer
    (λ same. let clash : false ≡ true = c.if-eq.ensures ∙ (bytes_eq-Decides c.in_ok-next.next.items c.loop-class.class.items).1 same in cc)

pub loop-class-preserved : goal.loop-class-preserved
loop-class-preserved c =
    let nodes = c.args.nodes.now in
    let finer : AreFinerClasses nodes c.loop-class.class.items c.in_ok-next.next.items = subst (λ (class : List ℕ). AreFinerClasses nodes class c.in_ok-next.next.items) c.deref.ensures.value c.in_ok-next.ensures in
    finer_coarse nodes c.requires.nodes c.loop-class.class.items c.in_ok-next.next.items c.loop-class.invariant.told finer
