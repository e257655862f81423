use Rattle.std.proofs.Common.{◌≡◌}
use Rattle.rt_lines.specs.Names.{AreNames}
use Rattle.rt_lines.proofs.NameLists.{AreNames-push}
use Rattle.rt_lines.proofs.names.Names.push.Goals as goal

pub invariant_of-self-2 : goal.invariant_of-self-2
invariant_of-self-2 c =
    let same : c.in_ok-copy.copy.items ≡ c.args.name.now = c.in_ok-copy.ensures.items_if_clones_equal (λ x y h. h) in
    let good : AreNames c.args.self.now = rw (← c.self.view_is) c.self.invariant in
    rw (c.in_ok-push.ensures.ok, c.from_vec.ensures, same, c.self.view_is)
    (AreNames-push _ _ good c.requires.spelled c.requires.absent c.requires.room)
