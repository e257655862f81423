use Rattle.std.proofs.Common.{ℕ, ◌<◌, ◌∙◌, List, [], length, refl, sym, ap, subst}
use Rattle.rt_lines.specs.declared.variable.Dtv.{Dtv}
use Rattle.rt_named.specs.Naming.{named as named_by}
use Rattle.rt_equals.specs.Comparing.{Agree}
use Rattle.rt_equals.proofs.Outlining.{apart_inner, exact, inner_of}
use Rattle.rt_equals.proofs.comparison.are_apart.Goals as goal

pub returns : goal.returns
returns c = λ yes lines is outer.
    let size = c.len.ensures.count ∙ ap (λ (xs : List Dtv). length xs) is in
    exact lines c.args.named.now c.args.outer.now.count c.args.outer.now.numbers.items c.in_ok-apart.apart.items outer
    (inner_of lines c.args.named.now (record { lines = lines; named = named_by lines [] }) c.in_ok-apart.apart.items refl is
    (apart_inner lines c.in_ok-apart.apart.items (c.in_ok-apart.ensures.each ∙ size)
    (λ i h. c.in_ok-apart.ensures.own i (subst (λ n. i < n) (sym size) h))))
    (subst (λ (xs : List ℕ). Agree c.args.named.now c.args.outer.now.numbers.items xs) c.deref.ensures.value (c.in_ok-exact.ensures yes))
