use Rattle.std.proofs.Common.{rules}
use Rattle.rt_cdecl.proofs.Noting.{all_listed, gains_both}
use Rattle.rt_cdecl.proofs.lines.typedefs.Goals as goal

pub returns-clause-each : goal.returns-clause-each
returns-clause-each c =
    (all_listed _ _ _ _ (gains_both _ _ _ _ _ c.in_ok-note_structs.ensures c.in_ok-note_functions.ensures) (search rules) c.requires
    c.in_ok-types.ensures.ordered c.in_ok-types.ensures.types).each

pub returns-clause-rise : goal.returns-clause-rise
returns-clause-rise c =
    (all_listed _ _ _ _ (gains_both _ _ _ _ _ c.in_ok-note_structs.ensures c.in_ok-note_functions.ensures) (search rules) c.requires
    c.in_ok-types.ensures.ordered c.in_ok-types.ensures.types).rise

pub returns-clause-exact : goal.returns-clause-exact
returns-clause-exact c =
    (all_listed _ _ _ _ (gains_both _ _ _ _ _ c.in_ok-note_structs.ensures c.in_ok-note_functions.ensures) (search rules) c.requires
    c.in_ok-types.ensures.ordered c.in_ok-types.ensures.types).exact
