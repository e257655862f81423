use Rattle.std.proofs.Common.{◌≡◌, ℕ, List, Contains, true, Some, inl, inr, sym, ap, subst, ◌∙◌}
use Rattle.rt_lines.specs.declared.label.Label.{Label as Letter}
use Rattle.rt_outline.specs.Arcs.{Leads}
use Rattle.rt_outline.specs.Frames.{IsMade}
use Rattle.rt_outline.specs.Turning.{class_at, AreTold}
use Rattle.rt_outline.specs.Inside.Beside.{list_at}
use Rattle.rt_outline.proofs.Listing.{each_next, each_whole, of_kinds}
use Rattle.rt_outline.proofs.Told.{told_apart}
use Rattle.rt_outline.proofs.turning.is_told_with_all.Goals as goal

pub loop-other-preserved : goal.loop-other-preserved
loop-other-preserved c =
    let origins = c.args.frame.now.origins.items in
    let Edge = Leads c.args.frame.now.arcs.items c.args.stands.now true in
    let flips = c.args.sorts.now.flips.items in
    each_next
    (λ w. (q : ℕ) (m : Letter) → IsMade origins w q m → class_at c.args.sorts.now.classes.items q ≡ Some c.args.class →
    AreTold origins Edge flips c.args.parent q c.args.label m c.args.node w)
    c.nodes-other-items.result.now c.loop-other.other-index c.loop-other-test.true c.loop-other.invariant
    (c.is_told_with.ensures c.if-not-is_told_with.false)

pub returns : goal.returns
returns c = λ e w q m less made class.
    let origins = c.args.frame.now.origins.items in
    let Edge = Leads c.args.frame.now.arcs.items c.args.stands.now true in
    let flips = c.args.sorts.now.flips.items in
    let lists = c.args.beside.now in
    elim (of_kinds c.args.label m) [
      | inl same ↦ each_whole
          (λ w. (q : ℕ) (m : Letter) → IsMade origins w q m → class_at c.args.sorts.now.classes.items q ≡ Some c.args.class →
          AreTold origins Edge flips c.args.parent q c.args.label m c.args.node w)
          c.nodes-other-items.result.now c.loop-other.other-index c.loop-other-test.false c.loop-other.invariant w
          (subst (λ (xs : List ℕ). Contains xs w) (ap (λ (k : Letter). list_at lists (c.args.class, k)) (sym same) ∙ sym c.nodes-other-items.ensures)
          (c.requires.beside w less q c.args.class m made class)) q m made class
      | inr apart ↦ told_apart origins Edge flips c.args.parent q c.args.label m c.args.node w apart.0 (λ a b f. apart.1 a b)
    ]
