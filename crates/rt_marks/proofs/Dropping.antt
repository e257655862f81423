-- Dropping from the end: the outside derives the same loosely.
use Rattle.rt_rules.proofs.Carry.{given}
use Rattle.rt_reduction.proofs.Dropping.{kept_lem, kept_derive_lem}
use Rattle.rt_marks.specs.Laws.{DropsAlikeLaw}
use Rattle.rt_marks.proofs.Covering.{exchange_exact}

pub drops_alike_lem : DropsAlikeLaw
drops_alike_lem order inside lines kept d =
    exchange_exact order inside lines kept (λ l c. kept_derive_lem order lines kept d l c) (λ l c. given order lines l (kept_lem order lines kept d l c))
