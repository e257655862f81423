use Rattle.std.proofs.Common.{sym, subst}
use Rattle.rt_lines.specs.Lines.{HasConstantsBelow}
use Rattle.rt_sure.proofs.Grown.{below_push}
use Rattle.rt_sure.proofs.shortening.add.Goals as goal

pub returns-in_ok-push-clause-unbounded : goal.returns-in_ok-push-clause-unbounded
returns-in_ok-push-clause-unbounded c = λ count all.
    below_push count c.args.short.now.items c.push.new.self.items c.in_ok-copy.field-0 c.in_ok-push.ensures.items
    (subst (HasConstantsBelow count) (sym c.in_ok-copy.ensures) (c.has.ensures.unbounded c.if-has.true count)) all
