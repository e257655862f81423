use Rattle.std.proofs.Common.{ℕ, List, Option, length, subst}
use Rattle.rt_equals.specs.Joined.{AreJoined}
use Rattle.rt_equals.proofs.Joining.{joined_equals}
use Rattle.rt_equals.proofs.growing.told.Goals as goal

pub returns-clause-exact : goal.returns-clause-exact
returns-clause-exact c = λ yes.
    let numbers : List ℕ = c.args.outer.now.numbers.items in
    let marks : List (Option ℕ) = c.in_ok-marks.marks.items in
    let growing = c.in_ok-growing.growing in
    let made = c.in_ok-growing.ensures.named in
    joined_equals c.args.lines.now c.args.named.now made.0 c.args.outer.now.count numbers marks growing c.requires.named made.1 c.in_ok-growing.ensures.tells c.requires.outer c.in_ok-marks.ensures.marked
    (subst (λ (xs : List ℕ). AreJoined growing xs (length xs) marks) c.deref-2.ensures.value
    (subst (λ (ms : List (Option ℕ)). AreJoined growing c.deref-2.result.now (length c.deref-2.result.now) ms) c.deref-3.ensures.value (c.are_joined-exact.ensures yes)))
