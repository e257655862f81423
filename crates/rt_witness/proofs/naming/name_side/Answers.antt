use Rattle.std.proofs.Common.{◌≡◌, ◌<◌, get_or, refl, arith}
use Rattle.std.proofs.lemmas.Option.{get_or_from_slice_get, slice_get_within}
use Rattle.rt_lines.specs.declared.variable.Dtv.{Dtv}
use Rattle.rt_rules.specs.Rules.{longer}
use Rattle.rt_named.specs.Origins.{no_variable}
use Rattle.rt_shape.specs.Shapes.{IsFront}
use Rattle.rt_shape.proofs.Fronts.{IsFront-self}
use Rattle.rt_witness.proofs.Names.{front_before, HasNaming-chain, HasNaming-more, HasNaming-self}
use Rattle.rt_witness.proofs.naming.name_side.Goals as goal

pub loop-earlier-init : goal.loop-earlier-init
loop-earlier-init c =
    let named = c.args.named.now in
    let x = c.args.x.now in
    record {
      within = slice_get_within named c.in-Some.number x c.in-Some.ensures;
      front = IsFront-self (get_or named c.in-Some.number no_variable) x
          (get_or_from_slice_get named c.in-Some.number x no_variable c.in-Some.ensures);
      more = HasNaming-self named (λ (y : Dtv). IsFront y x) c.args.rows.now.items c.args.rows.now.items c.args.i refl;
    }

pub loop-earlier-preserved : goal.loop-earlier-preserved
loop-earlier-preserved c =
    let named = c.args.named.now in
    let x = c.args.x.now in
    let number = c.loop-earlier.number in
    let invariant = c.loop-earlier.invariant in
    let below : c.in-Longer.earlier < number = c.in-Longer.ensures.below in
    let made : get_or named number no_variable ≡ longer (get_or named c.in-Longer.earlier no_variable) c.in-Longer.field-1 =
    c.in-Longer.ensures.made in
    record {
      within = omega (arith, below, invariant.within);
      front = front_before (get_or named c.in-Longer.earlier no_variable) (get_or named number no_variable) x c.in-Longer.field-1 made
          invariant.front;
      more = HasNaming-chain named (λ (y : Dtv). IsFront y x) c.args.rows.now.items c.loop-earlier.rows.items c.put.new.rows.items c.args.i
          invariant.more
          (HasNaming-more named (λ (y : Dtv). IsFront y x) c.loop-earlier.rows.items c.put.new.rows.items c.args.i number invariant.within
          invariant.front c.in_ok-put.ensures.more);
    }

pub returns : goal.returns
returns c =
    let named = c.args.named.now in
    let invariant = c.loop-earlier.invariant in
    HasNaming-chain named (λ (y : Dtv). IsFront y c.args.x.now) c.args.rows.now.items c.loop-earlier.rows.items c.put-2.new.rows.items c.args.i
    invariant.more
    (HasNaming-more named (λ (y : Dtv). IsFront y c.args.x.now) c.loop-earlier.rows.items c.put-2.new.rows.items c.args.i
    c.loop-earlier.number invariant.within invariant.front c.in_ok-put-2.ensures.more)
