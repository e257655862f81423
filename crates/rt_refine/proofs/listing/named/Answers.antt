use Rattle.std.proofs.Common.{ℕ, List, sym, subst}
use Rattle.rt_refine.specs.Groups.{AreListed}
use Rattle.rt_refine.proofs.Noting.{listed_are}
use Rattle.rt_refine.proofs.listing.named.Goals as goal

pub returns : goal.returns
returns c =
    subst (λ (keys : List ℕ). AreListed c.args.lines.now keys) (sym c.in_ok-named.ensures)
    (listed_are c.args.lines.now c.in_ok-found.found.keys c.in_ok-found.ensures)
