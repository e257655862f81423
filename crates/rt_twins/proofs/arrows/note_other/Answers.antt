use Rattle.std.specs.BTreeSet.{contains}
use Rattle.std.specs.Ordering.{nat_cmp}
use Rattle.rt_refine.proofs.Noting.{noted_none}
use Rattle.rt_twins.specs.Inside.Leading.{IsBareBut}
use Rattle.rt_twins.proofs.arrows.note_other.Goals as goal

pub returns-in_default : goal.returns-in_default
returns-in_default c =
    noted_none (λ n. IsBareBut c.args.sign (contains nat_cmp c.args.known.now) n c.args.line.now) (contains nat_cmp c.args.found.now)
    (λ n p. c.in_default.ensures n p.0 p.1)
