use Rattle.std.proofs.Common.{rules, ◌≡◌, ℕ, Some, None, nat_eq, cond, refl, subst}
use Rattle.std.specs.Ordering.{nat_cmp}
use Rattle.std.specs.BTreeMap.{get}
use Rattle.rt_shape.specs.Graphs.{node_of}
use Rattle.rt_emit.specs.Inside.Writing.IsTurn.{repeats, begins}
use Rattle.rt_emit.proofs.Turns.{word_put}
use Rattle.rt_emit.proofs.writing.turn.Goals as goal

pub returns-in-Some-get-clause-turn : goal.returns-in-Some-get-clause-turn
returns-in-Some-get-clause-turn c =
    let here : node_of c.args.shape.now c.args.x ≡ Some c.in-Some.node = search rules in
    let word : get nat_cmp c.args.words.now c.in-Some.node ≡ Some c.in-Some-get.word.now = search rules in
    λ has. repeats c.in-Some.node c.in-Some-get.word.now here word refl refl refl (search rules)

pub returns-clause-turn : goal.returns-clause-turn
returns-clause-turn c =
    let here : node_of c.args.shape.now c.args.x ≡ Some c.in-Some.node = search rules in
    let none : get nat_cmp c.args.words.now c.in-Some.node ≡ None = search rules in
    let word : (m : ℕ) → get nat_cmp c.insert.new.self m ≡ cond (nat_eq c.in-Some.node m) (Some c.args.x) (get nat_cmp c.args.words.now m) =
    subst (λ z. (m : ℕ) → get nat_cmp c.insert.new.self m ≡ cond (nat_eq c.in-Some.node m) (Some z) (get nat_cmp c.args.words.now m))
    c.in_ok-copy.ensures
    (word_put c.in-Some.node c.in_ok-copy.field-0 c.args.words.now c.insert.new.self (c.in_ok-insert.ensures.updates).0) in
    λ has. begins c.in-Some.node here none word c.in_ok-push_letters.ensures.letters c.in_ok-push_letters.ensures.holds (search rules)
