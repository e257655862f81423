use Rattle.std.proofs.Common.{◌≡◌, rules, sym, subst}
use Rattle.rt_frame.specs.Frames.{AreAscending}
use Rattle.rt_frame.proofs.Inserted.{ascending_from_sorted}
use Rattle.rt_frame.proofs.offsets.Offsets.ascending.Goals as goal

pub returns-clause-ascending : goal.returns-clause-ascending
returns-clause-ascending c =
    let same : c.from_vec.result ≡ c.self.inside.set.keys = search rules in
    subst AreAscending (sym same) (ascending_from_sorted c.self.inside.set.keys c.iter.ensures.ordered)
