use Rattle.std.proofs.Common.{IfSome, List, [], Contains, sym, ap, subst}
use Rattle.rt_lines.specs.declared.line.Line.{Line}
use Rattle.rt_outline.specs.Lines.{Lined}
use Rattle.rt_reduction.specs.Drops.{Drops}
use Rattle.rt_reduce.specs.Inside.Deciding.{IsTableAbout}
use Rattle.rt_reduce.proofs.rounds.left_of.Goals as goal

pub merge_equal-requires-clause-outer : goal.merge_equal-requires-clause-outer
merge_equal-requires-clause-outer c =
    (ap (λ (t : Lined). t.lines) c.in_ok-outer.ensures, ap (λ (t : Lined). t.named) c.in_ok-outer.ensures)

pub if_same-outer-requires : goal.if_same-outer-requires
if_same-outer-requires c =
    (ap (λ (t : Lined). t.lines) c.in_ok-outer.ensures, ap (λ (t : Lined). t.named) c.in_ok-outer.ensures)

pub drop_known-requires-clause-table : goal.drop_known-requires-clause-table
drop_known-requires-clause-table c =
    subst (λ (ls : List Line). IfSome c.in_ok-equal.equal.table (IsTableAbout ls)) (sym c.items-left.ensures) c.in_ok-equal.ensures.table

pub returns : goal.returns
returns c =
    let merged = c.in_ok-equal.equal.lines in
    record {
      merged = merged;
      is_merged = c.in_ok-equal.ensures.merges;
      is_dropped = subst (λ (ls : List Line). Drops c.args.order.now [] ls c.in_ok-after.after) c.items-left.ensures c.in_ok-after.ensures.drops;
      stood = λ l h. subst (λ (ls : List Line). Contains ls l) c.items-left.ensures (c.in_ok-after.ensures.stood l h);
      named = c.in_ok-equal.ensures.named;
      scheme = c.in_ok-equal.ensures.scheme;
      constants = c.in_ok-equal.ensures.constants;
    }
