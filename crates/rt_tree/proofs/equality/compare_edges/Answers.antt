use Rattle.std.proofs.Common.{◌≡◌, ℕ, ◌<◌, Bool, true, false, not, List, map, length, get_or, refl, sym, ap, ◌∙◌, arith}
use Rattle.std.proofs.Math.ListN.{get_or-map}
use Rattle.std.proofs.lemmas.Option.{slice_get-get_or}
use Rattle.rt_lines.specs.declared.label.Loc.TheVariants.{Arg}
use Rattle.rt_lines.specs.declared.label.Label.{Label}
use Rattle.rt_lines.specs.declared.label.Label.TheVariants.{In}
use Rattle.rt_lines.specs.Equality.{label_eq}
use Rattle.rt_tree.proofs.equality.compare_edges.Goals as goal
use Rattle.rt_lines.proofs.Same.{label_self}

none : Label × ℕ
none = (In (Arg 0), 0)

absurd_test : (b r : Bool) → b ≡ true → r ≡ true → r ≡ not b → ⊥
absurd_test true r p q e = cc
absurd_test false r p q e = cc

labels_differ : (xs ys : List (Label × ℕ)) (k : ℕ) (r : Bool) → r ≡ true → r ≡ not (label_eq (get_or xs k (In (Arg 0), 0)).0 (get_or ys k (In (Arg 0), 0)).0) → map (λ (e : Label × ℕ). e.0) xs ≡ map (λ (e : Label × ℕ). e.0) ys → ⊥
labels_differ xs ys k r is test same =
    let f : Label × ℕ → Label = λ e. e.0 in
    let labels : (get_or xs k (In (Arg 0), 0)).0 ≡ (get_or ys k (In (Arg 0), 0)).0 =
    sym (get_or-map f xs k (In (Arg 0), 0)) ∙ (ap (λ ls. get_or ls k (In (Arg 0))) same ∙ get_or-map f ys k (In (Arg 0), 0)) in
    absurd_test (label_eq (get_or xs k (In (Arg 0), 0)).0 (get_or ys k (In (Arg 0), 0)).0) r
    (ap (label_eq (get_or xs k (In (Arg 0), 0)).0) (sym labels) ∙ label_self (get_or xs k (In (Arg 0), 0)).0) is test

pub returns-then-ne : goal.returns-then-ne
returns-then-ne c = labels_differ c.args.xs.now c.args.ys.now c.loop-k.k c.ne.result c.if-ne.true c.ne.ensures

pub returns-then-class-m : goal.returns-then-class-m
returns-then-class-m c =
    let xs = c.args.xs.now in
    let ys = c.args.ys.now in
    let k = c.loop-k.k in
    let less : k < length xs = c.loop-k-test.true in
    let less' : k < length ys = let e = c.loop-k.invariant.lengths in omega arith in
    (k, get_or xs k (In (Arg 0), 0), get_or ys k (In (Arg 0), 0), slice_get-get_or xs k (In (Arg 0), 0) less, slice_get-get_or ys k (In (Arg 0), 0) less', refl, refl, λ e. c.if-class-m.true e)
