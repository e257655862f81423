use Rattle.std.proofs.Common.{ap}
use Rattle.std.specs.Prelude.{unwrap_or}
use Rattle.rt_track.specs.declared.op.Op.TheVariants.{Own}
use Rattle.rt_track.specs.Operations.{op_in, ops_sites}
use Rattle.rt_track.proofs.Operating.{within, apart}
use Rattle.rt_track.proofs.ops.Ops.set.Goals as goal

pub invariant_of-self : goal.invariant_of-self
unfolding ops_sites
invariant_of-self c = record {
  within = within c.args.self.now.sites c.args.site c.args.reg c.args.op c.requires.site c.requires.reg c.requires.named c.insert.result c.args.self.now.given.entries c.insert.new.self.entries c.insert.ensures.entries c.insert.ensures.err c.args.self.now.within;
}

pub returns-clause-others : goal.returns-clause-others
unfolding op_in
returns-clause-others c = λ s r other. ap (λ o. unwrap_or o Own) (c.in_ok-insert.ensures.updates.2 (s, r) (apart c.args.site c.args.reg s r other))
