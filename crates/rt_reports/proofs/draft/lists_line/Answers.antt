use Rattle.std.proofs.Common.{Contains}
use Rattle.rt_reports.specs.GoodReports.{numbers_of}
use Rattle.rt_reports.proofs.Listings.{one_side, two_sides, not_first}
use Rattle.rt_reports.proofs.draft.lists_line.Goals as goal

pub returns-in-Var : goal.returns-in-Var
returns-in-Var c = one_side (Contains (numbers_of c.args.listed.now.globals)) _ _ _ c.in-Var.is c.lists_base-in-Var.ensures

pub returns-then-lists_base : goal.returns-then-lists_base
returns-then-lists_base c =
    two_sides (Contains (numbers_of c.args.listed.now.globals)) _ _ _ _ _ c.in-Same.is c.if-lists_base.true c.lists_base.ensures c.lists_base-then-lists_base.ensures

pub returns-else-lists_base : goal.returns-else-lists_base
returns-else-lists_base c = not_first (Contains (numbers_of c.args.listed.now.globals)) _ _ _ _ c.in-Same.is c.if-lists_base.false c.lists_base.ensures
