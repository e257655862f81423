use Rattle.std.proofs.Common.{sym, ◌∙◌}
use Rattle.rt_lattice.specs.Faults.{is_too_long, is_not_toml}
use Rattle.rt_lattice.proofs.reader.table_of.Goals as goal

pub returns-then-text-gt65536-clause-fault : goal.returns-then-text-gt65536-clause-fault
returns-then-text-gt65536-clause-fault c = λ _. is_too_long c.if-text-gt65536.true

pub returns-else-is_memory-clause-fault : goal.returns-else-is_memory-clause-fault
returns-else-is_memory-clause-fault c =
    λ _. is_not_toml c.if-text-gt65536.false
    (λ _ table.
    let none = c.in-Err.ensures.refused (λ m. let t = c.is_memory.ensures.1 m in cc) table.utf8 in
    let both = sym none ∙ table.parsed in
    cc)
