use Rattle.std.proofs.Common.{◌≡◌, ◌<◌, Contains, length, sym, subst, ◌∙◌, arith}
use Rattle.std.proofs.lemmas.List.{get_or_default}
use Rattle.rt_sure.specs.Inside.Shapes.{IsSubtype}
use Rattle.rt_sure.proofs.Shaping.{shaped_more}
use Rattle.rt_sure.proofs.shapes.shaped.Goals as goal
use Rattle.rt_sure.proofs.shapes.shaped.Goals.{then-not-stays-i+then-is_below+in_ok-shape_of+in_ok-push, else-not-stays-i}

pub loop-i-preserved : goal.loop-i-preserved
loop-i-preserved c = elim c.if-not-stays-i.branch [
  | then-not-stays-i+then-is_below+in_ok-shape_of+in_ok-push w ↦ rw w.shaped-is
      (let lines = c.args.lines.now in
      let i = c.loop-i.i in
      let asked = w.index-lines-i.result in
      let line = w.index-lines-i-then-is_below.result in
      let within : i < length lines = omega arith in
      let same : asked ≡ line =
      w.index-lines-i.is ∙ get_or_default lines i asked line within ∙ sym w.index-lines-i-then-is_below.is in
      let there : Contains lines line = (i, within, sym w.index-lines-i-then-is_below.is) in
      shaped_more lines c.args.stays.now c.loop-i.shaped.items w.push.new.self.items line w.in_ok-shape_of.field-0 there
      (subst IsSubtype same (w.is_below.ensures.0 w.if-is_below.true)) w.in_ok-shape_of.ensures w.in_ok-push.ensures.items
      c.loop-i.invariant)
  | else-not-stays-i w ↦ rw w.shaped-is c.loop-i.invariant
]
