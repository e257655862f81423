use Rattle.std.proofs.Common.{rules, All, List, subst, sym}
use Rattle.rt_lines.specs.declared.line.Line.{Line}
use Rattle.rt_lines.specs.Lines.{HasConstantsBelow}
use Rattle.rt_reduce.specs.Inside.Deciding.{IsOuterFor, Tells}
use Rattle.rt_reduce.proofs.Anew.{all_stand}
use Rattle.rt_reduce.proofs.deciding.told_of_all.Goals as goal

pub told_by-requires-clause-sides : goal.told_by-requires-clause-sides
told_by-requires-clause-sides c =
    (all_stand c.args.left.now c.args.line.now c.in_ok-stands.stands.items c.deref.result.now c.args.outer.now
    (c.in_ok-stands.ensures.items_if_clones_equal (search rules)) c.deref.ensures.value c.requires.outer).line_sides

pub told_by-requires-clause-constants : goal.told_by-requires-clause-constants
told_by-requires-clause-constants c =
    let is : IsOuterFor c.args.left.now c.deref.result.now c.args.line.now c.args.outer.now =
    all_stand c.args.left.now c.args.line.now c.in_ok-stands.stands.items c.deref.result.now c.args.outer.now
    (c.in_ok-stands.ensures.items_if_clones_equal (search rules)) c.deref.ensures.value c.requires.outer
    in
    subst (λ (ls : List Line). All (HasConstantsBelow c.args.order.now.count) ls) is.left_are c.requires.constants

pub returns : goal.returns
returns c =
    let is : IsOuterFor c.args.left.now c.deref.result.now c.args.line.now c.args.outer.now =
    all_stand c.args.left.now c.args.line.now c.in_ok-stands.stands.items c.deref.result.now c.args.outer.now
    (c.in_ok-stands.ensures.items_if_clones_equal (search rules)) c.deref.ensures.value c.requires.outer
    in
    subst (λ (ls : List Line). Tells c.args.order.now ls c.args.line.now c.in_ok-led.led) (sym is.left_are) c.in_ok-led.ensures
