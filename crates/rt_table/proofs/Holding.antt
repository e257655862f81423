-- What a context's ghost fields tell of its targets.
use Rattle.std.proofs.Common.{ℕ}
use Rattle.rt_table.specs.declared.context.Context.{Context as Given}
use Rattle.rt_table.specs.Table.{linked_at, target_at}
use Rattle.rt_table.specs.Inside.Told.{context_of, known_in, program_in}
use Rattle.rt_table.proofs.Known.{targets-held}
use Rattle.rt_table.proofs.Sound.{HasHeldRegister}

-- the registers that hold whom its sites call are x0 to x31
pub given-held : (given : Given) (site i : ℕ) → HasHeldRegister (target_at (linked_at (context_of given) site) i)
given-held given =
    targets-held (program_in given.outside.facts.now) (known_in given.outside.facts.now) given.outside.schemes.now given.outside.members.now.keys given.calls.now given.registers
