use Rattle.std.proofs.Common.{ap, sym, ◌∙◌}
use Rattle.std.specs.Prelude.{slice_get}
use Rattle.rt_track.specs.Operations.{number_in, ops_sites}
use Rattle.rt_track.specs.Placed.{IsWithin}
use Rattle.rt_track.proofs.Operating.{numbered}
use Rattle.rt_track.proofs.ops.Ops.given.Goals as goal
use Rattle.rt_base.proofs.Lists.{All-at}

pub returns-clause-number : goal.returns-clause-number
unfolding number_in
returns-clause-number c =
    numbered c.args.self.now.given.entries c.args.number c.in-Some.key.now c.in-Some.op.now c.as_slice.ensures.unique (ap (λ es. slice_get es c.args.number) (sym c.as_slice.ensures.entries) ∙ sym c.in-Some.ensures.entry)

pub returns-clause-within : goal.returns-clause-within
unfolding ops_sites
returns-clause-within c =
    All-at (IsWithin c.args.self.now.sites) c.args.self.now.given.entries c.args.number (c.in-Some.key.now, c.in-Some.op.now) c.args.self.now.within (ap (λ es. slice_get es c.args.number) (sym c.as_slice.ensures.entries) ∙ sym c.in-Some.ensures.entry)
