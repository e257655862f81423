use Rattle.std.proofs.Common.{List, subst}
use Rattle.std.proofs.lemmas.Result.{IfOk-weaker}
use Rattle.rt_lines.specs.declared.line.Line.{Line}
use Rattle.rt_sat.specs.Increments.{Tells}
use Rattle.rt_sure.specs.Grounds.{IsTableOf}
use Rattle.rt_sure.proofs.tables.table_of.Goals as goal

pub returns : goal.returns
returns c =
    IfOk-weaker c.grown.result (Tells c.deref.result.now) (IsTableOf c.args.lines.now)
    (λ growing tells. record {
      told = c.in_ok-short.short.items;
      derived = c.in_ok-short.ensures.derived;
      tells = subst (λ (ls : List Line). Tells ls growing) c.deref.ensures.value tells;
    })
    c.grown.ensures
