use Rattle.std.proofs.Common.{◌≡◌, ◌+◌, Some, Contains, get_or, drop, sym, subst, ap, ◌∙◌}
use Rattle.std.proofs.lemmas.Option.{slice_get_within}
use Rattle.rt_lines.specs.declared.label.Label.TheVariants.{In}
use Rattle.rt_lines.specs.declared.label.Loc.TheVariants.{Arg}
use Rattle.rt_lines.specs.declared.variable.Dtv.{Dtv}
use Rattle.rt_rules.specs.Rules.{longer, extended}
use Rattle.rt_named.specs.Origins.{no_variable}
use Rattle.rt_named.proofs.Prefixes.{prefix_of, prefix_rest, next_prefix}
use Rattle.rt_named.proofs.named.Named.index.Goals as goal

pub returns-in_default : goal.returns-in_default
returns-in_default c = λ h. c.in_default.ensures c.args.x.now.word (subst (Contains c.args.self.now) (sym (prefix_rest c.args.x.now 0)) h)

pub find-requires-in-loop-label : goal.find-requires-in-loop-label
find-requires-in-loop-label c = slice_get_within c.args.self.now c.loop-label.number (prefix_of c.args.x.now c.loop-label.label-index) c.loop-label.invariant.number

pub returns-in_default-find : goal.returns-in_default-find
returns-in_default-find c =
    let x = c.args.x.now in
    let i = c.loop-label.label-index in
    let items = c.items-label-items.result.now in
    let next : longer (get_or c.args.self.now c.loop-label.number no_variable) (get_or items i (In (Arg 0))) ≡ prefix_of x (i + 1) =
    next_prefix c.args.self.now x items c.loop-label.number i (In (Arg 0)) c.items-label-items.ensures.letters c.loop-label-test.true c.loop-label.invariant.number in
    λ h. c.in_default-find.ensures (drop (i + 1) x.word)
    (subst (Contains c.args.self.now) (sym (ap (λ (z : Dtv). extended z (drop (i + 1) x.word)) next ∙ prefix_rest x (i + 1))) h)

pub loop-label-preserved : goal.loop-label-preserved
loop-label-preserved c =
    let x = c.args.x.now in
    let i = c.loop-label.label-index in
    let items = c.items-label-items.result.now in
    let next : longer (get_or c.args.self.now c.loop-label.number no_variable) (get_or items i (In (Arg 0))) ≡ prefix_of x (i + 1) =
    next_prefix c.args.self.now x items c.loop-label.number i (In (Arg 0)) c.items-label-items.ensures.letters c.loop-label-test.true c.loop-label.invariant.number in
    record { items = c.items-label-items.ensures.letters; number = c.in-Some-find.ensures ∙ ap Some next }
