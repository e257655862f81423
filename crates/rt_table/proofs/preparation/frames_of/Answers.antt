use Rattle.std.proofs.Common.{◌≡◌, ◌∙◌, ◌+◌, All, ap, get_or, length, sym, subst, arith}
use Rattle.std.proofs.lemmas.List.{length_push}
use Rattle.rt_liveness.specs.Calls.{HasCallRegister}
use Rattle.rt_table.specs.Inside.Framing.{IsFramed}
use Rattle.rt_table.proofs.Framings.{framed-more}
use Rattle.rt_table.proofs.preparation.frames_of.Goals as goal

pub framed-requires : goal.framed-requires
framed-requires c =
    subst (All (All HasCallRegister)) (sym (c.items.ensures ∙ c.index-calls-place.is)) (c.requires.registers c.loop-place.place c.index-calls-place.result (omega arith))

pub loop-place-preserved : goal.loop-place-preserved
loop-place-preserved c = record {
  one_each = ap length c.in_ok-push.ensures.items ∙ length_push c.loop-place.frames.items c.in_ok-framed.field-0 ∙ ap (λ n. n + 1) c.loop-place.invariant.one_each;
  each = framed-more c.args.bodies.now c.args.calls.now c.loop-place.frames.items c.push.new.self.items c.loop-place.place c.index-bodies-place.result c.index-calls-place.result
      c.in_ok-framed.field-0 c.loop-place-test.true (omega arith) c.index-bodies-place.is c.index-calls-place.is c.loop-place.invariant.one_each c.loop-place.invariant.each
      (subst (λ calls. IsFramed c.index-bodies-place.result calls c.in_ok-framed.field-0) c.items.ensures c.in_ok-framed.ensures) c.in_ok-push.ensures.items;
}
