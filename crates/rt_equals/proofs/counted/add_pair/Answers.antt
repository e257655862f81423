use Rattle.std.proofs.Common.{[], ◌∷◌, ◌++◌, sym, subst}
use Rattle.rt_equals.specs.Plain.{ArePlainPairs}
use Rattle.rt_equals.proofs.Pairing.{pairs_more, pairs_same}
use Rattle.rt_equals.proofs.counted.add_pair.Goals as goal

pub returns-in_ok-push : goal.returns-in_ok-push
returns-in_ok-push c = λ seen are.
    subst (ArePlainPairs (seen ++ c.args.edge.now ∷ [])) (sym c.in_ok-push.ensures.items)
    (pairs_more seen c.args.edge.now c.args.pairs.now.items (c.is_plain.ensures.0 c.if-is_plain.true) are)

pub returns-else-is_plain : goal.returns-else-is_plain
returns-else-is_plain c = λ seen are.
    pairs_same seen c.args.edge.now c.args.pairs.now.items
    (λ p. (let t = c.is_plain.ensures.1 p in absurd (cc))) are
