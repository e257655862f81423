use Rattle.std.proofs.Common.{◌≡◌, ℤ, List, true, rules, subst}
use Rattle.std.specs.Int.{w32}
use Rattle.std.specs.Ordering.{int_cmp}
use Rattle.std.specs.BTreeSet.{Updates}
use Rattle.std.proofs.lemmas.Int.{to_z-of_z}
use Rattle.rt_frame.specs.Inside.Gathering.{Gains}
use Rattle.rt_frame.proofs.Inserted.{inserted}
use Rattle.rt_frame.proofs.offsets.Offsets.insert.Goals as goal

pub returns : goal.returns
returns c =
    let old = c.self.inside.set in
    let new = c.insert.new.self in
    let updates = subst (λ (a : ℤ). Updates int_cmp old new a true) (to_z-of_z w32 c.args.offset c.ranges.offset) c.in_ok-insert.ensures.updates in
    let same : old.keys ≡ c.args.self.now = search rules in
    subst (λ (xs : List ℤ). Gains xs new.keys (λ k. k ≡ c.args.offset)) same (record { each = inserted old new c.args.offset updates })
