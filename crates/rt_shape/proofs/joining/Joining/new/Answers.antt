use Rattle.std.proofs.Common.{rules, ◌≡◌, ℕ, ◌<◌, slice_index, Contains, sym, subst, ◌∙◌}
use Rattle.rt_shape.specs.Inside.Joins.{AreAlone, AreEmpty}
use Rattle.rt_shape.proofs.Begun.{begun}
use Rattle.rt_shape.proofs.joining.Joining.new.Goals as goal

pub returns : goal.returns
returns c = λ graph count.
    let same : c.in_ok-todo.todo.items ≡ c.args.pairs.now = search rules in
    let back = sym count in
    begun graph c.args.pairs.now c.in_ok-class.class.items c.in_ok-members.members.items c.in_ok-letters.letters.items c.new.result.entries c.in_ok-todo.todo.items
    (c.in_ok-class.ensures.each ∙ back) (subst (λ n. (i : ℕ) → i < n → slice_index c.in_ok-class.class.items i ≡ i) back c.in_ok-class.ensures.own)
    (subst (λ n. AreAlone n c.in_ok-members.members.items) back c.in_ok-members.ensures) (subst (λ n. AreEmpty n c.in_ok-letters.letters.items) back c.in_ok-letters.ensures) c.new.ensures.empty same
    (subst (λ n. (i j : ℕ) → Contains c.args.pairs.now (i, j) → (i < n) × (j < n)) back c.requires)
