use Rattle.std.proofs.Common.{Ok, ℕ}
use Rattle.rt_run.proofs.Naming.{are_globals, set_symbols}
use Rattle.rt_run.proofs.globals.globals_of.Goals as goal

pub named-requires : goal.named-requires
named-requires c = set_symbols c.args.object.now c.args.entries.now _ c.in_ok-numbers.ensures.found c.requires

pub returns-clause-globals : goal.returns-clause-globals
returns-clause-globals c =
    are_globals c.args.object.now c.args.entries.now c.in_ok-numbers.numbers.keys {E = ℕ} (Ok c.in_ok-globals.globals) c.in_ok-numbers.ensures.found c.requires c.in_ok-globals.ensures.named
    c.in_ok-globals.ensures.ascending
