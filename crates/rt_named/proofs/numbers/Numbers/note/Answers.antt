use Rattle.std.proofs.Common.{◌≡◌, ℕ, subst}
use Rattle.rt_named.specs.Numbers.{IsLeft}
use Rattle.rt_named.proofs.Noting.{left_note}
use Rattle.rt_named.proofs.numbers.Numbers.note.Goals as goal

pub returns : goal.returns
returns c =
    subst (λ keys. IsLeft (λ (w : ℕ). c.args.number ≡ w) keys c.insert.new.self.keys) c.self.view_is
    (left_note c.self.inside.keys.keys c.insert.new.self.keys c.args.number c.in_ok-insert.ensures.keys)
