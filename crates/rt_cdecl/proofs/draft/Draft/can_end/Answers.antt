use Rattle.rt_cdecl.specs.Inside.Steps.{parts_of}
use Rattle.rt_cdecl.proofs.Left.{can_tells, few_tells, structs_few}
use Rattle.rt_cdecl.proofs.draft.Draft.can_end.Goals as goal

pub has_room-requires-clause-few : goal.has_room-requires-clause-few
has_room-requires-clause-few c = few_tells (parts_of c.args.self.now) c.args.self.now.left c.counts.result c.requires.reached c.requires.few c.requires.sound c.counts.ensures

pub has_room-requires-clause-structs : goal.has_room-requires-clause-structs
has_room-requires-clause-structs c = structs_few (parts_of c.args.self.now) c.requires.reached

pub returns : goal.returns
returns c = can_tells (parts_of c.args.self.now) c.args.self.now.left c.counts.result c.has_room.result c.requires.reached c.requires.few c.requires.sound c.counts.ensures c.has_room.ensures
