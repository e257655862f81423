use Rattle.std.proofs.Common.{◌≡◌, List, Contains, subst}
use Rattle.std.proofs.lemmas.Result.{IfOk-weaker}
use Rattle.rt_lines.specs.declared.variable.Dtv.{Dtv}
use Rattle.rt_named.specs.Naming.{named as named_by}
use Rattle.rt_sat.specs.Increments.{named_of}
use Rattle.rt_equals.proofs.Outlining.{there}
use Rattle.rt_equals.proofs.growing.grown.Goals as goal

pub of-requires-2-clause-there : goal.of-requires-2-clause-there
of-requires-2-clause-there c = λ order x h.
    there order c.args.lines.now x
    (subst (λ (xs : List Dtv). Contains xs x) c.requires (c.in_ok-sides.ensures x (subst (λ (xs : List Dtv). Contains xs x) c.deref.ensures.value h)))

pub returns-clause-named : goal.returns-clause-named
returns-clause-named c =
    let lines = c.args.lines.now in
    let sides = c.deref.result.now in
    IfOk-weaker c.of-2.result (λ growing. named_of growing ≡ named_by lines sides) (λ growing. (extra : List Dtv) × (named_of growing ≡ named_by lines extra))
    (λ growing e. (sides, e)) c.of-2.ensures.named
