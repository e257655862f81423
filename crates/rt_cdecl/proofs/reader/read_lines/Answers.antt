use Rattle.std.proofs.Common.{refl}
use Rattle.std.proofs.lemmas.Bool.{false≢true}
use Rattle.std.proofs.lemmas.Result.{err_from_is_err_and}
use Rattle.rt_cdecl.specs.Inside.Steps.{parts_of}
use Rattle.rt_cdecl.proofs.Headers.{read_on, fault_of, cut_line, unfinished_text, whole_text, some_rest, no_rest}
use Rattle.rt_cdecl.proofs.reader.read_lines.Goals as goal

pub returns-in_err-place-clause-place : goal.returns-in_err-place-clause-place
returns-in_err-place-clause-place c =
    let p = err_from_is_err_and c.from_residual.result c.from_residual.ensures.1 in
    rw (p.1, p.2)
    (fault_of c.args.text.now (parts_of c.loop-line.draft) c.loop-line.rest.now c.loop-line.place c.in-Some.line.now c.in-Some.more.now _ c.loop-line.invariant.0 c.in-Some.ensures c.in_err-place.ensures.refused)

pub loop-line-preserved : goal.loop-line-preserved
loop-line-preserved c = (
  read_on c.args.text.now (parts_of c.loop-line.draft) c.loop-line.rest.now c.loop-line.place c.in-Some.line.now c.in-Some.more.now (parts_of c.step.new.draft) c.in_ok-place.place c.loop-line.invariant.0 c.in-Some.ensures
      c.in_ok-place.ensures.taken.allowed c.in_ok-place.ensures.taken.parts c.in_ok-place.ensures.next,
  c.in_ok-place.ensures.taken.sound,
)

pub returns-then-not-is_empty-clause-place : goal.returns-then-not-is_empty-clause-place
returns-then-not-is_empty-clause-place c =
    cut_line c.args.text.now (parts_of c.loop-line.draft) c.loop-line.rest.now c.loop-line.place c.loop-line.invariant.0 c.in_default.ensures (some_rest c.loop-line.rest.now c.if-not-is_empty.ensures)

pub returns-then-not-is_whole-clause-place : goal.returns-then-not-is_whole-clause-place
returns-then-not-is_whole-clause-place c =
    unfinished_text c.args.text.now (parts_of c.loop-line.draft) c.loop-line.rest.now c.loop-line.place c.loop-line.invariant.0 c.in_default.ensures (λ whole. false≢true (c.if-not-is_whole.ensures.1 whole))

pub returns-clause-good : goal.returns-clause-good
returns-clause-good c =
    (whole_text c.args.text.now (parts_of c.loop-line.draft) c.loop-line.rest.now c.loop-line.place c.loop-line.invariant.0 (no_rest c.loop-line.rest.now c.if-not-is_empty.ensures) (c.if-not-is_whole.ensures.0 refl)).0

pub returns-clause-text : goal.returns-clause-text
returns-clause-text c =
    (whole_text c.args.text.now (parts_of c.loop-line.draft) c.loop-line.rest.now c.loop-line.place c.loop-line.invariant.0 (no_rest c.loop-line.rest.now c.if-not-is_empty.ensures) (c.if-not-is_whole.ensures.0 refl)).1
