use Rattle.std.proofs.Common.{◌≡◌, ℕ, Bool, true, List, subst}
use Rattle.std.proofs.lemmas.Result.{IfOk-weaker}
use Rattle.rt_equals.specs.Comparing.{Agree, AreEquals}
use Rattle.rt_equals.proofs.Outlining.{exact, inner_of}
use Rattle.rt_equals.proofs.comparison.are_inside.Goals as goal

pub returns : goal.returns
returns c =
    let known = c.args.named.now in
    let outer = c.args.outer.now.numbers.items in
    let P : Bool → Type 0 = λ yes. yes ≡ true → Agree known outer c.deref.result.now in
    let Q : Bool → Type 0 = λ yes. yes ≡ true → AreEquals c.args.lines.now known outer in
    IfOk-weaker c.agree.result P Q
    (λ told agreed yes.
    exact c.args.lines.now known c.args.outer.now.count outer c.in_ok-inner.inner.numbers.items c.requires.outer
    (inner_of c.args.lines.now known c.in_ok-lower.lower c.in_ok-inner.inner.numbers.items c.in_ok-lower.ensures c.requires.named c.in_ok-inner.ensures)
    (subst (λ (xs : List ℕ). Agree known outer xs) c.deref.ensures.value (agreed yes)))
    c.agree.ensures
