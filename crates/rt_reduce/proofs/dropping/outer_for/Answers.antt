use Rattle.std.proofs.Common.{IfSome, List, Contains, sym, ap, subst}
use Rattle.rt_lines.specs.declared.line.Line.{Line}
use Rattle.rt_lines.specs.declared.variable.Dtv.{Dtv}
use Rattle.rt_outline.specs.Lines.{HaveSameFlow, Lined}
use Rattle.rt_reduce.specs.Inside.Deciding.{IsOuterOf}
use Rattle.rt_reduce.proofs.dropping.outer_for.Goals as goal

pub for_lines-requires : goal.for_lines-requires
for_lines-requires c =
    let own : IsOuterOf c.args.lines.now c.in-Some.outer =
    subst (λ o. IfSome o (IsOuterOf c.args.lines.now)) c.in-Some.is c.requires.outer in
    subst (λ (ls : List Line). HaveSameFlow ls c.args.left.now) (sym own.0) c.requires.same

pub returns-in_ok-outer-in-Some : goal.returns-in_ok-outer-in-Some
returns-in_ok-outer-in-Some c =
    let own : IsOuterOf c.args.lines.now c.in-Some.outer =
    subst (λ o. IfSome o (IsOuterOf c.args.lines.now)) c.in-Some.is c.requires.outer in
    let made = c.in_ok-outer-in-Some.ensures in (
      ap (λ (t : Lined). t.lines) made,
      λ l x d h. subst (λ (xs : List Dtv). Contains xs x) (sym (ap (λ (t : Lined). t.named) made))
          (own.1 l x (c.requires.same.rest l d) h),
    )
