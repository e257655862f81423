use Rattle.std.proofs.Common.{◌≡◌, ℕ, true, subst}
use Rattle.rt_outline.specs.Hubs.{HasAccess}
use Rattle.rt_outline.proofs.Sided.{AreThose, those_next, those_past, those_whole}
use Rattle.rt_outline.proofs.turning.accessed.Goals.{then-not-access+in_ok-insert, then-not-access-via-then-not-access, then-not-access-via-else-not-access+then-has_access, else-not-access+else-has_access}
use Rattle.rt_outline.proofs.turning.accessed.Goals as goal

pub loop-node-preserved : goal.loop-node-preserved
loop-node-preserved c =
    let items = c.numbers-node-items.result.now in
    let P : ℕ → Type 0 = λ (w : ℕ). c.args.access ≡ true → HasAccess c.args.frame.now.origins.items w in
    elim c.if-not-access.branch [
      | then-not-access+in_ok-insert w ↦ rw w.found-is (
          those_next P items c.loop-node.node-index c.loop-node.found w.insert.new.self c.loop-node-test.true
          (elim w.then-not-access.branch [
            | then-not-access-via-then-not-access t ↦ (λ e. absurd (let f = t.if-not-access.true in cc))
            | then-not-access-via-else-not-access+then-has_access t ↦ (λ e. t.has_access.ensures.0 t.if-has_access.true)
          ])
          w.in_ok-insert.ensures c.loop-node.invariant)
      | else-not-access+else-has_access w ↦ rw w.found-is (
          those_past P items c.loop-node.node-index c.loop-node.found c.loop-node-test.true
          (λ p. (let t = w.has_access.ensures.1 (p w.if-not-access.false) in let f = w.if-has_access.false in cc))
          c.loop-node.invariant)
    ]

pub returns : goal.returns
returns c =
    let P : ℕ → Type 0 = λ (w : ℕ). c.args.access ≡ true → HasAccess c.args.frame.now.origins.items w in
    subst (λ xs. AreThose P xs c.loop-node.found) c.numbers-node-items.ensures
    (those_whole P c.numbers-node-items.result.now c.loop-node.node-index c.loop-node.found c.loop-node-test.false c.loop-node.invariant)
