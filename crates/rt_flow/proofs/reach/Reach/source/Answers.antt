use Rattle.std.proofs.Common.{ap, ◌∙◌, w64}
use Rattle.std.proofs.lemmas.Int.{to_z-of_z}
use Rattle.rt_flow.specs.Locations.{class_at}
use Rattle.rt_flow.proofs.Marking.{row_read}
use Rattle.rt_flow.proofs.Sourcing.{own_source, shared_source, class_within, number_within}
use Rattle.rt_flow.proofs.reach.Reach.source.Goals as goal

pub returns-in-Some-clause-value : goal.returns-in-Some-clause-value
returns-in-Some-clause-value c =
    own_source c.args.self.now c.args.site c.args.loc c.block-block.result c.class-class.result c.first.result c.list.result.now c.block-block.ensures.value (c.class-class.ensures ∙ ap (class_at c.args.self.now.locations.known.entries c.args.self.now.locations.none) (to_z-of_z w64 c.args.loc c.ranges.loc)) c.list.ensures c.first.ensures
    c.in-Some.def c.in-Some.ensures

pub returns-in-None-clause-value : goal.returns-in-None-clause-value
returns-in-None-clause-value c =
    let within = class_within c.args.self.now c.args.site c.args.loc c.block-block.result c.class-class.result c.first.result c.list.result.now c.block-block.ensures.value (c.class-class.ensures ∙ ap (class_at c.args.self.now.locations.known.entries c.args.self.now.locations.none) (to_z-of_z w64 c.args.loc c.ranges.loc)) c.list.ensures c.first.ensures in
    shared_source c.args.self.now c.args.site c.args.loc c.block-block.result c.class-class.result c.first.result c.list.result.now c.block-block.ensures.value (c.class-class.ensures ∙ ap (class_at c.args.self.now.locations.known.entries c.args.self.now.locations.none) (to_z-of_z w64 c.args.loc c.ranges.loc)) c.list.ensures c.first.ensures
    c.items.result.now c.in-None.ensures (row_read c.args.self.now.tables.items c.class-class.result c.index.result.now c.items.result.now within c.index.ensures c.items.ensures)

pub returns-in-None-clause-within : goal.returns-in-None-clause-within
returns-in-None-clause-within c =
    let within = class_within c.args.self.now c.args.site c.args.loc c.block-block.result c.class-class.result c.first.result c.list.result.now c.block-block.ensures.value (c.class-class.ensures ∙ ap (class_at c.args.self.now.locations.known.entries c.args.self.now.locations.none) (to_z-of_z w64 c.args.loc c.ranges.loc)) c.list.ensures c.first.ensures in
    number_within c.args.self.now c.args.site c.args.loc c.block-block.result c.class-class.result c.first.result c.list.result.now c.block-block.ensures.value (c.class-class.ensures ∙ ap (class_at c.args.self.now.locations.known.entries c.args.self.now.locations.none) (to_z-of_z w64 c.args.loc c.ranges.loc)) c.list.ensures c.first.ensures
    c.items.result.now (row_read c.args.self.now.tables.items c.class-class.result c.index.result.now c.items.result.now within c.index.ensures c.items.ensures) c.block-block.ensures.within
