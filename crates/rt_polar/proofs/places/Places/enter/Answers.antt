use Rattle.std.proofs.Common.{subst}
use Rattle.rt_polar.specs.Index.{has, IsBareNoted}
use Rattle.rt_polar.proofs.Holding.{held_filled}
use Rattle.rt_polar.proofs.Pairs.{bare_noted}
use Rattle.rt_polar.proofs.places.Places.enter.Goals as goal

pub returns-clause-held : goal.returns-clause-held
returns-clause-held c =
    let old = c.args.self.now in
    held_filled old.slots.items c.args.slot c.args.row.now (has old.at) (has c.insert.new.self) (has old.naming) (has old.defining) (has old.consuming) (has c.note.new.index) (has c.note-2.new.index) (has c.note-3.new.index)
    c.requires.within c.requires.empty c.requires.absent c.requires.plain c.requires.places
    (subst (λ d. IsBareNoted d c.args.slot (has old.at) (has c.insert.new.self)) c.digest.ensures (bare_noted c.digest.result c.args.slot (has old.at) (has c.insert.new.self) (λ n i. c.in_ok-insert.ensures.updates.0 (n, i))))
    c.in_ok-note.ensures c.in_ok-note-2.ensures c.in_ok-note-3.ensures
