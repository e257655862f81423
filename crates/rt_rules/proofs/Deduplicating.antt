-- Lines that are there twice.
use Rattle.rt_lines.specs.Numbering.{deduplicated}
use Rattle.rt_lines.proofs.Deduplicating.{deduplicated-has, deduplicated-source}
use Rattle.rt_rules.specs.Laws.{DeduplicationLaw}
use Rattle.rt_rules.proofs.Carry.{given}
use Rattle.rt_rules.proofs.Covering.{exchange}

pub deduplication_lem : DeduplicationLaw
deduplication_lem order inside lines =
    exchange order inside lines (deduplicated lines)
    (λ l c. given order (deduplicated lines) l (deduplicated-has lines l c))
    (λ l c. given order lines l (deduplicated-source lines l c))
