use Rattle.std.proofs.Common.{List, All, ◌∙◌, sym, subst, arith}
use Rattle.std.proofs.lemmas.List.{take_all}
use Rattle.std.proofs.lemmas.List.Elements.{All-get_or}
use Rattle.rt_lines.specs.declared.label.Label.{Label}
use Rattle.rt_lines.specs.Words.{IsLabel}
use Rattle.rt_sketch.specs.Growths.{HasTaken, IsOnWay}
use Rattle.rt_sketch.proofs.Taking.{expanding_next, free_next, next_later, way_all, way_expanded}
use Rattle.rt_sketch.proofs.growth.Growth.expand.Goals as goal

pub follow-requires-clause-free : goal.follow-requires-clause-free
follow-requires-clause-free c =
    free_next c.args.number c.args.letters.now.keys c.as_slice-label-items.result.now c.loop-label.label-index _ c.loop-label.self.states.keys c.loop-label.self.tree c.as_slice-label-items.ensures.keys c.loop-label-test.true
    c.as_slice-label-items.ensures.unique c.loop-label.invariant.expanding.taken

pub follow-requires-clause-label : goal.follow-requires-clause-label
follow-requires-clause-label c =
    All-get_or IsLabel c.as_slice-label-items.result.now c.loop-label.label-index _ c.loop-label-test.true (subst (λ (xs : List Label). All IsLabel xs) (sym c.as_slice-label-items.ensures.keys) c.requires.labels)

pub loop-label-preserved : goal.loop-label-preserved
loop-label-preserved c = record {
  expanding = expanding_next c.args.number c.as_slice-label-items.result.now c.loop-label.label-index _ c.args.self.now.states.keys c.loop-label.self.states.keys c.loop-label.self.tree c.follow.new.self.states.keys c.follow.new.self.tree
      c.loop-label-test.true c.loop-label.invariant.expanding c.in_ok-follow.ensures.more;
  way = λ lines is constants was.
      let now = c.loop-label.invariant.way lines is constants was in
      way_expanded c.args.lattice.now.order lines c.args.machine.now c.args.number c.args.letters.now.keys c.as_slice-label-items.result.now c.loop-label.label-index _ c.loop-label.self.states.keys c.loop-label.self.tree
      c.follow.new.self.states.keys c.follow.new.self.tree c.as_slice-label-items.ensures.keys c.loop-label-test.true c.as_slice-label-items.ensures.unique c.loop-label.invariant.expanding.taken
      c.loop-label.invariant.expanding.inside c.in_ok-follow.ensures.more now (c.in_ok-follow.ensures.marks lines is constants now.marks) (c.in_ok-follow.ensures.step lines is);
}

pub returns-clause-way : goal.returns-clause-way
returns-clause-way c = λ lines is constants next was.
    let items = c.as_slice-label-items.result.now in
    let keys = c.loop-label.self.states.keys in
    let tree = c.loop-label.self.tree in
    let whole = take_all c.loop-label.label-index items c.loop-label-test.false ∙ c.as_slice-label-items.ensures.keys in
    way_all c.args.lattice.now.order lines c.args.machine.now c.args.number c.args.letters.now.keys keys tree
    (subst (λ (gone : List Label). HasTaken c.args.number gone keys tree) whole c.loop-label.invariant.expanding.taken)
    (next_later lines c.args.machine.now c.args.self.now.states.keys keys c.args.number c.args.letters.now.keys
    (let each = c.requires.taken.each in let from = c.requires.from in omega arith) c.loop-label.invariant.expanding.kept next)
    (subst (λ (gone : List Label). IsOnWay c.args.lattice.now.order lines c.args.machine.now c.args.number gone keys tree) whole (c.loop-label.invariant.way lines is constants was))
