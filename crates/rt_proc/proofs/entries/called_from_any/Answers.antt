use Rattle.std.proofs.Common.{List, ◌++◌, ap, ◌∙◌, arith}
use Rattle.rt_link.specs.declared.place.Place.{Place}
use Rattle.rt_proc.specs.Inside.Looks.{called_by}
use Rattle.rt_proc.proofs.Called.{calls_of-more, calls_of-all}
use Rattle.rt_proc.proofs.Forms.{calls}
use Rattle.rt_proc.proofs.entries.called_from_any.Goals as goal

pub loop-place-preserved : goal.loop-place-preserved
loop-place-preserved c =
    calls_of-more c.args.code.now.source.object.now c.args.code.now.source.ends.now c.args.places.now c.loop-place.called.items (called_by c.look-look.result.now) c.extend_from_slice.new.self.items c.loop-place.place-index _ (omega arith)
    (c.in_ok-extend_from_slice.ensures.items ∙ ap (λ (more : List Place). c.loop-place.called.items ++ more) (c.deref.ensures.value ∙ c.in_ok-called_by.ensures)) c.loop-place.invariant
    (calls c.args.code.now.source.object.now c.args.code.now.source.ends.now _ c.look-look.result.now c.look-look.ensures)

pub returns : goal.returns
returns c = calls_of-all c.args.code.now.source.object.now c.args.code.now.source.ends.now c.args.places.now c.loop-place.called.items c.loop-place.place-index (omega arith) c.loop-place.invariant
