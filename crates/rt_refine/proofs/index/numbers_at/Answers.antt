use Rattle.std.proofs.Common.{ℕ, ◌<◌, List, [], ◌∷◌, ◌++◌, sym, ap, ◌∙◌, arith}
use Rattle.rt_polar.specs.Index.{has}
use Rattle.rt_refine.proofs.Below.{none_between, next_number}
use Rattle.rt_refine.proofs.index.numbers_at.Goals as goal

pub returns-in_default : goal.returns-in_default
returns-in_default c =
    c.loop-from.invariant.so_far
    ∙ sym (none_between (has c.args.index.now c.args.existential) c.loop-from.from c.args.bound c.loop-from.invariant.within
    (λ i h lt t. c.in_default.ensures i h t))

pub loop-from-preserved : goal.loop-from-preserved
loop-from-preserved c =
    let lt : c.in-Some.number < c.args.bound = c.requires c.in-Some.number c.in-Some.ensures.1 in
    record {
      within = omega (arith, lt);
      so_far =
          c.in_ok-push.ensures.items
          ∙ ap (λ (ks : List ℕ). ks ++ c.in-Some.number ∷ []) c.loop-from.invariant.so_far
          ∙ sym (next_number (has c.args.index.now c.args.existential) c.loop-from.from c.in-Some.number c.in-Some.ensures.0
          c.in-Some.ensures.1
          c.in-Some.ensures.2);
    }
