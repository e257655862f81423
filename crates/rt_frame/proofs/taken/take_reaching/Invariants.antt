use Rattle.std.proofs.Common.{◌≡◌, take}
use Rattle.rt_track.specs.declared.value.Value.TheVariants.{Frame}
use Rattle.rt_body.specs.Told.{reading_of}
use Rattle.rt_frame.specs.Inside.Gathering.{Among, Gains}
use Rattle.rt_frame.specs.Questions.{def_value}
use Rattle.rt_frame.proofs.taken.take_reaching.Given as goal

abbrev pub invariant-loop-def : goal.invariant-loop-def
invariant-loop-def l = record {
  items : l.def-items ≡ (reading_of l.body).reaching l.site l.register;
  gains : Gains l.initial.taken l.taken (Among (take l.def-index l.def-items) (λ def k. def_value (reading_of l.body) l.register def ≡ Frame k));
}
