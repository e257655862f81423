use Rattle.std.proofs.Common.{◌<◌, length, arith, ◌∙◌}
use Rattle.rt_track.specs.Operations.{op_in}
use Rattle.rt_body.proofs.Operating.{defining_within, done_more, own_more}
use Rattle.rt_body.proofs.operations.operations.Goals as goal

pub set_defined-requires-clause-registers : goal.set_defined-requires-clause-registers
set_defined-requires-clause-registers c = c.requires.registers c.loop-site.site _ c.loop-site-test.true

pub loop-site-preserved : goal.loop-site-preserved
loop-site-preserved c = record {
  sites = c.in_ok-set_defined.ensures.sites ∙ c.loop-site.invariant.sites;
  done = done_more (op_in c.loop-site.ops) (op_in c.set_defined.new.ops) c.args.actions.now c.loop-site.site _ c.loop-site-test.true c.loop-site.invariant.done c.in_ok-set_defined.ensures.given c.in_ok-set_defined.ensures.others;
  own = own_more (op_in c.loop-site.ops) (op_in c.set_defined.new.ops) c.args.actions.now c.loop-site.site _ c.loop-site-test.true c.loop-site.invariant.own c.in_ok-set_defined.ensures.rest c.in_ok-set_defined.ensures.others;
}

pub returns-clause-same : goal.returns-clause-same
returns-clause-same c = λ s r defines.
    let within : s < length c.args.actions.now = defining_within c.args.actions.now s r defines in
    c.loop-site.invariant.done s r (omega arith) defines

pub set_defined-requires-clause-own : goal.set_defined-requires-clause-own
set_defined-requires-clause-own c = λ r. c.loop-site.invariant.own c.loop-site.site r (λ less none. omega arith)

pub returns-clause-rest : goal.returns-clause-rest
returns-clause-rest c = λ s r none. c.loop-site.invariant.own s r (λ less defines. none defines)
