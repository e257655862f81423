use Rattle.std.proofs.Common.{◌≡◌, subst}
use Rattle.rt_lines.specs.declared.variable.Dtv.{Dtv}
use Rattle.rt_trim.specs.Trimming.{AreEntered}
use Rattle.rt_trim.proofs.Entering.{entered_one}
use Rattle.rt_trim.proofs.users.enter.Goals as goal

pub returns : goal.returns
returns c =
    subst (λ (key : Dtv). AreEntered (λ (z : Dtv). key ≡ z) c.args.i c.args.users.now.entries c.insert.new.self.entries) c.in_ok-loaded.ensures
    (entered_one c.in_ok-loaded.loaded c.args.i c.args.users.now.entries c.insert.new.self.entries c.in_ok-insert.ensures.updates.0)
