use Rattle.std.proofs.Common.{◌≡◌, ◌++◌, take}
use Rattle.rt_cdecl.specs.Rows.{more_args_text}
use Rattle.rt_cdecl.proofs.printing.push_more_args.Given as goal

abbrev pub invariant-loop-loc : goal.invariant-loop-loc
invariant-loop-loc l = l.out.items ≡ l.fn.out.items ++ more_args_text (take l.loc-index l.args)
