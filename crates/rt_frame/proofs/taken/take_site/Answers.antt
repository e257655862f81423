use Rattle.std.proofs.Common.{ℕ, ℤ, Contains, subst}
use Rattle.std.proofs.lemmas.List.Elements.{All-get_or}
use Rattle.rt_body.specs.declared.action.Action.TheVariants as action
use Rattle.rt_body.specs.Readings.{action_at}
use Rattle.rt_body.specs.Told.{reaching_use, reading_of, sites_in}
use Rattle.rt_body.proofs.Asked.{reaching_within_body}
use Rattle.rt_flow.specs.declared.def.Def.TheVariants.{At}
use Rattle.rt_frame.specs.declared.question.Question.{Question}
use Rattle.rt_frame.specs.declared.question.Question.TheVariants.{OfUse}
use Rattle.rt_frame.specs.Frames.{IsOfFrame}
use Rattle.rt_frame.specs.Questions.{IsQuestionWithin}
use Rattle.rt_frame.proofs.Asking.{questions_within}
use Rattle.rt_frame.proofs.Gathered.{among_step, among_done}
use Rattle.rt_frame.proofs.taken.take_site.Goals as goal
use Rattle.rt_body.proofs.Within.{within_each}

pub take_question-requires : goal.take_question-requires
take_question-requires c =
    let body = c.args.body.now in
    let site = c.args.site in
    let reading = reading_of body in
    let reached = λ (register : ℕ). within_each (sites_in body) (reaching_use body site register) (λ d in_list. body.within site register d c.requires.site (subst (λ defs. Contains defs (At d)) (reaching_within_body body site register c.requires.site) in_list)) in
    let within = questions_within reading (sites_in body) site c.requires.site reached c.args.calls.now (action_at body.actions site) (body.named site action.Pass c.requires.site) c.requires.registers in
    All-get_or (IsQuestionWithin (sites_in body)) c.items-question-items.result.now c.loop-question.question-index (OfUse 0 0) c.loop-question-test.true
    (rw c.loop-question.invariant.items within)

pub loop-question-preserved : goal.loop-question-preserved
loop-question-preserved c =
    let P = λ (question : Question) (k : ℤ). IsOfFrame (reading_of c.args.body.now) k question in
    record {
      items = c.loop-question.invariant.items;
      gains = among_step P c.items-question-items.result.now c.loop-question.question-index (OfUse 0 0) c.loop-question-test.true c.loop-question.invariant.gains c.in_ok-take_question.ensures (λ k. (λ p. p, λ p. p));
    }

pub returns : goal.returns
returns c =
    let P = λ (question : Question) (k : ℤ). IsOfFrame (reading_of c.args.body.now) k question in
    rw (← c.loop-question.invariant.items) (among_done P c.items-question-items.result.now c.loop-question.question-index c.loop-question-test.false c.loop-question.invariant.gains)
