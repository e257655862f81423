use Rattle.std.proofs.Common.{subst, sym}
use Rattle.rt_reports.specs.Inside.Drafts.{parts_of}
use Rattle.rt_reports.specs.Inside.Reads.{IsRead}
use Rattle.rt_reports.proofs.Reading.{read_start, read_taken, fault_of_line, cut_line, some_rest, no_rest}
use Rattle.rt_reports.proofs.reader.read_lines.Goals as goal

pub loop-line-init : goal.loop-line-init
loop-line-init c =
    (c.requires.kept, subst (λ parts. IsRead c.args.names.now c.args.text.now parts c.args.text.now 1) (sym c.requires.none) (read_start c.args.names.now c.args.text.now))

pub returns-in-Err-clause-place : goal.returns-in-Err-clause-place
returns-in-Err-clause-place c =
    fault_of_line _ _ _ _ _ _ _ _ _ c.items-names.ensures.good c.loop-line.invariant.1 c.in-Some.ensures c.in-Err.ensures c.at_line.ensures

pub loop-line-preserved : goal.loop-line-preserved
loop-line-preserved c =
    (c.in-Ok.ensures.0, read_taken _ _ _ _ _ _ _ _ _ c.loop-line.invariant.1 c.in-Some.ensures c.in-Ok.ensures.1 c.in-Some-checked_add.ensures.1)

pub returns-then-not-is_empty-clause-place : goal.returns-then-not-is_empty-clause-place
returns-then-not-is_empty-clause-place c =
    cut_line _ _ _ _ _ c.items-names.ensures.good c.loop-line.invariant.1 c.in_default.ensures (some_rest _ c.if-not-is_empty.ensures)

pub returns-clause-read : goal.returns-clause-read
returns-clause-read c = (
  c.loop-line.invariant.0,
  subst (λ rest. IsRead c.args.names.now c.args.text.now (parts_of c.loop-line.draft) rest c.loop-line.number) (no_rest _ c.if-not-is_empty.ensures) c.loop-line.invariant.1,
)
