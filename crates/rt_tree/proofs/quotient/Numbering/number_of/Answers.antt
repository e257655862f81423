use Rattle.std.proofs.Common.{◌≡◌, ◌++◌, ◌∷◌, [], ℕ, List, Some, None, length, set, get_or, sym, subst, ◌∙◌, rules}
use Rattle.std.proofs.lemmas.List.{get_or_read}
use Rattle.rt_tree.specs.Inside.Quotients.{AreNumbers}
use Rattle.rt_tree.proofs.Numbers.{known_number, more_numbers}
use Rattle.rt_tree.proofs.quotient.Numbering.number_of.Goals as goal

pub returns-in-Some-clause-number : goal.returns-in-Some-clause-number
returns-in-Some-clause-number c =
    let number = c.args.self.now.number.items in
    let read : get_or number c.args.class None ≡ Some c.in-Some.number = sym (get_or_read number c.args.class c.index.result.now c.requires.class c.index.ensures None) ∙ c.in-Some.is in
    known_number number c.args.self.now.order.items c.args.class c.in-Some.number c.requires.numbers read

pub returns-clause-numbers : goal.returns-clause-numbers
returns-clause-numbers c =
    let number = c.args.self.now.number.items in
    let order = c.args.self.now.order.items in
    let free : get_or number c.args.class None ≡ None = sym (get_or_read number c.args.class c.index.result.now c.requires.class c.index.ensures None) ∙ c.in_default.is in
    let count : c.len-number.result ≡ length order = search rules in
    subst (λ (o : List ℕ). AreNumbers (set number c.args.class (Some c.len-number.result)) o) (sym c.in_ok-push.ensures.items)
    (subst (λ n. AreNumbers (set number c.args.class (Some n)) (order ++ c.args.class ∷ [])) (sym count)
    (more_numbers number order c.args.class c.requires.numbers c.requires.class free))
