use Rattle.std.proofs.Common.{◌≡◌, ◌↔◌, ◌⊎◌, ◌+◌, ℕ, List, [], ◌∷◌, ◌++◌, Contains, get_or, take, sym, subst, ◌∙◌, arith}
use Rattle.std.proofs.lemmas.List.{take_all, take_more}
use Rattle.rt_lines.specs.declared.label.Label.{Label}
use Rattle.rt_lines.specs.declared.label.Label.TheVariants.{In}
use Rattle.rt_lines.specs.declared.label.Loc.TheVariants.{Arg}
use Rattle.rt_lines.specs.declared.variable.Dtv.{Dtv}
use Rattle.rt_rules.specs.Rules.{longer}
use Rattle.rt_emit.specs.Inside.Writing.{IsNext}
use Rattle.rt_emit.proofs.Turns.{next_pushed}
use Rattle.rt_emit.proofs.writing.push_next.Goals as goal

pub loop-label-preserved : goal.loop-label-preserved
loop-label-preserved c =
    let items : List Label = c.items-label-items.result.now in
    let i : ℕ = c.loop-label.label-index in
    let letter : Label = get_or items i (In (Arg 0)) in
    let more : take (i + 1) items ≡ take i items ++ letter ∷ [] = take_more items i (In (Arg 0)) (omega arith) in
    let is : c.in_ok-longer.field-0 ≡ longer c.args.x.now letter = c.in_ok-longer.ensures in
    record {
      holds = subst (λ ls. (y : Dtv) → Contains c.push.new.self y ↔ (Contains c.args.queue.now y ⊎ IsNext c.args.x.now ls y)) (sym more)
          (next_pushed c.args.queue.now c.loop-label.queue c.push.new.self c.args.x.now c.in_ok-longer.field-0 (take i items) letter
          c.loop-label.invariant.holds
          c.in_ok-push.ensures.holds is);
      length = omega (arith, c.in_ok-push.ensures.length, c.loop-label.invariant.length);
    }

pub returns-clause-holds : goal.returns-clause-holds
returns-clause-holds c =
    let whole : take c.loop-label.label-index c.items-label-items.result.now ≡ c.args.letters.now =
    take_all c.loop-label.label-index c.items-label-items.result.now (omega arith) ∙ c.items-label-items.ensures.letters in
    subst (λ ls. (y : Dtv) → Contains c.loop-label.queue y ↔ (Contains c.args.queue.now y ⊎ IsNext c.args.x.now ls y)) whole
    c.loop-label.invariant.holds
