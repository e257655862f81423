use Rattle.std.proofs.Common.{◌≡◌, ◌+◌, ◌<◌, ◌≤◌, Some, length, get_or, sym, ap, ◌∙◌, arith}
use Rattle.std.specs.List.{fold}
use Rattle.std.proofs.lemmas.List.{take_all}
use Rattle.indexmap.specs.IndexSet.{insert_key}
use Rattle.rt_lines.specs.declared.label.Label.TheVariants.{In}
use Rattle.rt_lines.specs.declared.label.Loc.TheVariants.{Arg}
use Rattle.rt_lines.specs.Equality.{variable_eq}
use Rattle.rt_rules.specs.Rules.{longer}
use Rattle.rt_named.specs.Naming.{prefixes}
use Rattle.rt_named.specs.Origins.{no_variable}
use Rattle.rt_named.proofs.Prefixes.{prefix_of, entered-more, next_prefix, with_prefixes-one, length-prefixes}
use Rattle.rt_named.proofs.named.Named.enter.Goals as goal

pub loop-label-preserved : goal.loop-label-preserved
loop-label-preserved c =
    let x = c.args.x.now in
    let i = c.loop-label.label-index in
    let items = c.items-label-items.result.now in
    let inside : i < length items = c.loop-label-test.true in
    let within : i + 1 ≤ length x.word = omega (arith, inside, ap length c.items-label-items.ensures.letters) in
    let next : longer (get_or c.loop-label.self c.loop-label.number no_variable) (get_or items i (In (Arg 0))) ≡ prefix_of x (i + 1) =
    next_prefix c.loop-label.self x items c.loop-label.number i (In (Arg 0)) c.items-label-items.ensures.letters inside c.loop-label.invariant.number in
    record {
      items = c.items-label-items.ensures.letters;
      entered =
          c.in_ok-number-2.ensures.entered
          ∙ ap (insert_key variable_eq c.loop-label.self) next
          ∙ ap (λ known. insert_key variable_eq known (prefix_of x (i + 1))) c.loop-label.invariant.entered
          ∙ sym (entered-more c.args.self.now x (i + 1) within);
      number = c.in_ok-number-2.ensures.number ∙ ap Some next;
    }

pub returns-clause-entered : goal.returns-clause-entered
returns-clause-entered c =
    let x = c.args.x.now in
    let past : length (prefixes x) ≤ c.loop-label.label-index + 1 = omega (arith, c.loop-label-test.false, length-prefixes x, ap length c.items-label-items.ensures.letters) in
    c.loop-label.invariant.entered
    ∙ ap (fold (insert_key variable_eq) c.args.self.now) (take_all (c.loop-label.label-index + 1) (prefixes x) past)
    ∙ sym (with_prefixes-one c.args.self.now x)
