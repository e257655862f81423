use Rattle.std.proofs.Common.{◌≡◌, ℕ, Contains, refl, subst}
use Rattle.rt_named.specs.Numbers.{IsLeft}
use Rattle.rt_outline.proofs.Flagged.{flagged_more}
use Rattle.rt_named.proofs.Noting.{left_none, left_push}
use Rattle.rt_outline.proofs.found.Found.insert.Goals as goal

pub returns-then-contains : goal.returns-then-contains
returns-then-contains c = left_none (λ (w : ℕ). c.args.number ≡ w) c.args.self.now c.args.self.now refl (λ w e. subst (Contains c.args.self.now) e (c.contains.ensures.0 c.if-contains.true))

pub invariant_of-self-2 : goal.invariant_of-self-2
invariant_of-self-2 c = flagged_more c.self.inside.flags.items c.widen.new.flags.items c.self.inside.numbers.items c.push.new.self.items c.args.number c.self.invariant c.widen.ensures.same c.in_ok-widen.ensures.room c.in_ok-push.ensures.items

pub returns : goal.returns
returns c = subst (λ xs. IsLeft (λ (w : ℕ). c.args.number ≡ w) xs c.push.new.self.items) c.self.view_is (left_push c.self.inside.numbers.items c.push.new.self.items c.args.number c.in_ok-push.ensures.items)
