use Rattle.std.proofs.Common.{◌≡◌, Some, map, subst}
use Rattle.std.specs.String.{string_bytes}
use Rattle.rt_io.specs.Puts.{PutsLine}
use Rattle.rt_run.specs.Words.{command_of}
use Rattle.rt_run.specs.Inside.Meant.{meaning}
use Rattle.rt_run.proofs.Stopping.{refused_told, unread_told}
use Rattle.rt_run.proofs.top.run.Goals as goal

pub returns-in-Stopped-Refused-clause-refused : goal.returns-in-Stopped-Refused-clause-refused
returns-in-Stopped-Refused-clause-refused g c is =
    refused_told _ (meaning c.in-Some.request) (g.F.Files.content c.args.files.now) (g.F.Files.faults c.args.files.now) (g.F.Files.faults c.work.new.files)
    c.in-Stopped-Refused.field-0 c.in-Stopped-Refused.refusal
    (PutsLine g.E.Sink.written g.E.Sink.faults g.E.Sink.takes g.E.Sink.refuses c.args.err.now c.tell_refusal.new.err)
    (subst (λ words. command_of (map string_bytes words) ≡ Some (meaning c.in-Some.request)) c.as_slice.ensures.value c.in-Some.ensures)
    c.in-Stopped-Refused.field-0-is c.in-Stopped-Refused.ensures.0 (c.tell_refusal.ensures.told is)

pub returns-in-Stopped-NoRead-clause-unread : goal.returns-in-Stopped-NoRead-clause-unread
returns-in-Stopped-NoRead-clause-unread g c is =
    unread_told _ (meaning c.in-Some.request) (g.F.Files.content c.args.files.now) (g.F.Files.faults c.args.files.now) (g.F.Files.faults c.work.new.files)
    c.in-Stopped-NoRead.field-0 c.in-Stopped-NoRead.name
    (PutsLine g.E.Sink.written g.E.Sink.faults g.E.Sink.takes g.E.Sink.refuses c.args.err.now c.tell_unread.new.err)
    (subst (λ words. command_of (map string_bytes words) ≡ Some (meaning c.in-Some.request)) c.as_slice.ensures.value c.in-Some.ensures)
    c.in-Stopped-NoRead.field-0-is c.in-Stopped-NoRead.ensures.0 (c.tell_unread.ensures.told is)
