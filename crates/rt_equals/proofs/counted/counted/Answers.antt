use Rattle.std.proofs.Common.{ℕ, List, [], subst}
use Rattle.std.proofs.lemmas.Result.{IfOk-weaker}
use Rattle.rt_lines.specs.declared.line.Line.{Line}
use Rattle.rt_lines.specs.declared.variable.Dtv.{Dtv}
use Rattle.rt_named.specs.Naming.{named}
use Rattle.rt_sat.specs.Tables.{IsTableOf}
use Rattle.rt_sat.proofs.Below.{table_within}
use Rattle.rt_equals.specs.Comparing.{AreEquals}
use Rattle.rt_equals.proofs.counted.counted.Goals as goal

pub numbers_of-requires : goal.numbers_of-requires
numbers_of-requires c =
    let t = c.in_ok-table.table in
    table_within c.args.lines.now [] t.named t.edges.items c.in_ok-table.ensures.table

pub returns : goal.returns
returns c =
    let t = c.in_ok-table.table in
    let lines = c.args.lines.now in
    IfOk-weaker c.numbers_of.result (λ numbers. (ls : List Line) → IsTableOf ls [] t.named t.edges.items → AreEquals ls t.named numbers.items) (λ numbers. AreEquals lines (named lines []) numbers.items)
    (λ numbers are. subst (λ (xs : List Dtv). AreEquals lines xs numbers.items) c.in_ok-table.ensures.table.is_named (are lines c.in_ok-table.ensures.table))
    c.numbers_of.ensures
