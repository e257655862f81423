use Rattle.std.proofs.Common.{◌≡◌, [], ◌∷◌, ◌++◌, map, filter, take}
use Rattle.rt_liveness.specs.Calls.{takes_register}
use Rattle.rt_frame.specs.declared.question.Question.TheVariants.{OfUse}
use Rattle.rt_frame.proofs.asked.ask_arguments.Given as goal

abbrev pub invariant-loop-register : goal.invariant-loop-register
invariant-loop-register l = record {
  items : l.register-items ≡ 10 ∷ 11 ∷ 12 ∷ 13 ∷ 14 ∷ 15 ∷ 16 ∷ 17 ∷ [];
  asked : l.asked ≡ l.initial.asked ++ map (λ register. OfUse l.site register) (filter (takes_register l.call) (take l.register-index l.register-items));
}
