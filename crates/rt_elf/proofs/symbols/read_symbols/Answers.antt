use Rattle.std.proofs.Common.{length, ap, arith}
use Rattle.rt_base.proofs.Entries.{goes_on, ends}
use Rattle.rt_elf.proofs.Booleans.{checked-ok}
use Rattle.rt_elf.proofs.Reading.{length-symbol_list}
use Rattle.rt_elf.proofs.symbols.read_symbols.Goals as goal

pub loop-index-preserved : goal.loop-index-preserved
loop-index-preserved c =
    rw (c.in_ok-push-2.ensures.ok, c.in_ok-symbol_at.ensures, c.in_ok-names.ensures)
    (goes_on _ _ _ c.loop-index.index c.loop-index.symbols _ _ c.loop-index.invariant c.loop-index-test.true (checked-ok _ _ c.in_ok-check_symbol.ensures.exact))

pub returns-clause-few : goal.returns-clause-few
returns-clause-few c =
    let all = ends _ _ _ _ _ _ _ c.loop-index.invariant c.loop-index-test.false in
    omega (arith, ap length all.1, length-symbol_list c.args.bytes.now c.args.strings.now c.args.place c.args.count)
