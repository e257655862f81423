use Rattle.std.proofs.Common.{◌≡◌, ℤ}
use Rattle.rt_flow.specs.declared.def.Def.{Def}
use Rattle.rt_flow.specs.declared.def.Def.TheVariants.{Entry}
use Rattle.rt_track.specs.declared.value.Value.TheVariants.{Frame}
use Rattle.rt_body.specs.Told.{reading_of}
use Rattle.rt_frame.specs.Questions.{def_value}
use Rattle.rt_frame.proofs.Gathered.{among_step, among_done, same_offset}
use Rattle.rt_frame.proofs.taken.take_reaching.Goals as goal

pub loop-def-preserved : goal.loop-def-preserved
loop-def-preserved c =
    let P = λ (def : Def) (k : ℤ). def_value (reading_of c.args.body.now) c.args.register def ≡ Frame k in
    record {
      items = c.loop-def.invariant.items;
      gains = among_step P c.reaching-def-items.result.now c.loop-def.def-index Entry c.loop-def-test.true c.loop-def.invariant.gains c.in_ok-take_value.ensures (same_offset _ _ c.def_value.ensures);
    }

pub returns : goal.returns
returns c =
    let P = λ (def : Def) (k : ℤ). def_value (reading_of c.args.body.now) c.args.register def ≡ Frame k in
    rw (← c.loop-def.invariant.items) (among_done P c.reaching-def-items.result.now c.loop-def.def-index c.loop-def-test.false c.loop-def.invariant.gains)
