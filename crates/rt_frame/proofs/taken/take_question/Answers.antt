use Rattle.std.proofs.Common.{◌≡◌, rules}
use Rattle.rt_track.specs.declared.value.Value.TheVariants as value
use Rattle.rt_body.specs.Told.{reading_of}
use Rattle.rt_frame.proofs.Takings.{take_several, take_one, take_defined}
use Rattle.rt_frame.proofs.taken.take_question.Goals as goal

pub returns-in_ok-take_reaching-in-Multi : goal.returns-in_ok-take_reaching-in-Multi
returns-in_ok-take_reaching-in-Multi c =
    let reading = reading_of c.args.body.now in
    let multi : reading.value_at c.in-OfUse.site c.in-OfUse.register ≡ value.Multi = search rules in
    take_several reading c.in-OfUse.site c.in-OfUse.register c.args.question c.in-OfUse.is multi c.in_ok-take_reaching-in-Multi.ensures

pub returns-in_ok-take_value-in-OfDefinition : goal.returns-in_ok-take_value-in-OfDefinition
returns-in_ok-take_value-in-OfDefinition c =
    take_defined (reading_of c.args.body.now) c.in-OfDefinition.register c.in-OfDefinition.def c.args.question _ c.in-OfDefinition.is c.def_value.ensures c.in_ok-take_value-in-OfDefinition.ensures

pub returns-in_ok-take_value-in_default : goal.returns-in_ok-take_value-in_default
returns-in_ok-take_value-in_default c =
    take_one (reading_of c.args.body.now) c.in-OfUse.site c.in-OfUse.register c.args.question c.value_at.result c.in-OfUse.is c.value_at.ensures c.in_default.not-Multi c.in_ok-take_value-in_default.ensures
