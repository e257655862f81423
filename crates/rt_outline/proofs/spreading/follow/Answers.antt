use Rattle.std.proofs.Common.{◌≡◌, ℕ, true, sym, ◌∙◌}
use Rattle.rt_outline.specs.Arcs.{allows}
use Rattle.rt_named.proofs.Noting.{left_as}
use Rattle.rt_outline.proofs.spreading.follow.Goals as goal

pub returns-in_ok-insert : goal.returns-in_ok-insert
returns-in_ok-insert c =
    left_as (λ (w : ℕ). c.args.arc.to ≡ w) (λ (w : ℕ). (c.args.arc.to ≡ w) × (allows c.args.stands.now c.args.pushed c.args.arc.line ≡ true)) c.args.found.now c.insert.new.self
    (λ w e. (e, sym c.is_open.ensures ∙ c.if-is_open.true)) (λ w p. p.0) c.in_ok-insert.ensures
