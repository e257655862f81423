use Rattle.std.proofs.Common.{◌≡◌, true, arith}
use Rattle.rt_reduce.proofs.Firsts.{first_like, first_other}
use Rattle.rt_reduce.proofs.merging.first_with.Goals as goal

pub returns-then-eq : goal.returns-then-eq
returns-then-eq c = λ order lines seen iff first.
    first_other order lines c.args.existential seen c.args.side.now c.args.first (λ like. like.other_base (grind arith)) first

pub returns-then-not-equal : goal.returns-then-not-equal
returns-then-not-equal c = λ order lines seen iff first.
    first_other order lines c.args.existential seen c.args.side.now c.args.first
    (λ like. (let t : c.args.equal ≡ true = iff.1 (like.above, like.below) in absurd (cc))) first

pub returns : goal.returns
returns c = λ order lines seen iff first. (let b = iff.0 c.if-not-equal.false in
    first_like order lines c.args.existential seen c.args.side.now c.args.first c.in_ok-now.now
    (record { other_base = grind arith; above = b.0; below = b.1 }) c.in_ok-now.ensures first)
