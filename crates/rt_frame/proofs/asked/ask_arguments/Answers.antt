use Rattle.rt_liveness.specs.Calls.{takes_register}
use Rattle.rt_frame.proofs.Arguments.{argument_more}
use Rattle.rt_frame.proofs.asked.ask_arguments.Goals as goal

pub loop-register-preserved : goal.loop-register-preserved
loop-register-preserved c = record {
  items = c.loop-register.invariant.items;
  asked = argument_more c.args.site (takes_register c.args.call.now) _ c.loop-register.register-index 0 c.args.asked.now c.loop-register.asked _ c.loop-register-test.true c.loop-register.invariant.asked c.in_ok-ask_argument.ensures;
}
