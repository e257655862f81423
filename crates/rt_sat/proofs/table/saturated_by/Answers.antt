use Rattle.std.proofs.Common.{rules}
use Rattle.rt_sat.specs.Tables.{IsTableOf}
use Rattle.rt_sat.proofs.Frames.{begun_table}
use Rattle.rt_sat.proofs.table.saturated_by.Goals as goal

pub returns : goal.returns
returns c =
    let table : IsTableOf c.args.lines.now c.args.extra.now c.in_ok-begun.begun.frame.named c.in_ok-edges.edges.items =
    begun_table c.args.lines.now c.args.extra.now c.args.marks.now c.in_ok-begun.begun c.in_ok-begun.ensures c.in_ok-edges.edges.items c.in_ok-edges.ensures in
    record {
      layered = record { table = table; counted = search rules };
      whole = λ h. record { table = table; whole = h };
    }
