use Rattle.std.proofs.Common.{All, arith, subst}
use Rattle.std.proofs.lemmas.List.{take_all}
use Rattle.std.proofs.lemmas.List.Elements.{All-more}
use Rattle.rt_scheme.specs.NameReadings.{AreBytes}
use Rattle.rt_reports.specs.GoodReports.{IsGlobal}
use Rattle.rt_run.proofs.globals.read_globals.Goals as goal

pub loop-number-preserved : goal.loop-number-preserved
loop-number-preserved c =
    All-more IsGlobal c.args.globals.now c.loop-number.number-index c.loop-number-item.result c.loop-number-test.true c.loop-number.invariant
    (subst IsGlobal c.loop-number-item.is (c.read_number.ensures, subst AreBytes c.items.ensures c.read_name.ensures))

pub returns : goal.returns
returns c = subst (All IsGlobal) (take_all c.loop-number.number-index c.args.globals.now (omega (arith, c.loop-number-test.false))) c.loop-number.invariant
