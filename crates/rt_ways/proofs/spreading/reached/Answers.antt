use Rattle.std.proofs.Common.{◌≡◌, ℕ, subst}
use Rattle.rt_named.specs.Numbers.{IsLeft}
use Rattle.rt_ways.specs.Arcs.{IsInRow}
use Rattle.rt_ways.proofs.Following.{reached_from}
use Rattle.rt_ways.proofs.spreading.reached.Goals as goal

pub returns : goal.returns
returns c =
    reached_from (IsInRow c.args.arcs.now) c.args.source c.note.new.self c.spread.new.found
    (subst (λ keys. IsLeft (λ (w : ℕ). c.args.source ≡ w) keys c.note.new.self) c.new-found.ensures c.in_ok-note.ensures) c.in_ok-spread.ensures
