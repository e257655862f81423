use Rattle.std.proofs.Common.{rules}
use Rattle.rt_cdecl.specs.GoodDecls.{function_types}
use Rattle.rt_cdecl.proofs.Noting.{gains_all, gains_more, gains_none}
use Rattle.rt_cdecl.proofs.lines.note_functions.Goals as goal

pub loop-function-init : goal.loop-function-init
loop-function-init c = gains_none c.args.lines.now

pub loop-function-preserved : goal.loop-function-preserved
loop-function-preserved c =
    gains_more function_types c.args.functions.now c.loop-function.function-index c.function-item.result c.args.lines.now c.loop-function.lines c.note_function.new.lines
    (search rules) c.function-item.is c.loop-function.invariant c.in_ok-note_function.ensures

pub returns : goal.returns
returns c = gains_all function_types c.args.functions.now c.loop-function.function-index c.args.lines.now c.loop-function.lines (search rules) c.loop-function.invariant
