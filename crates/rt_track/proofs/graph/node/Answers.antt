use Rattle.std.proofs.Common.{◌<◌, inl, inr, refl, subst, sym}
use Rattle.rt_track.specs.Placed.{NamesRegisters}
use Rattle.rt_track.proofs.graph.node.Goals as goal

pub use_at-requires-clause-reg : goal.use_at-requires-clause-reg
use_at-requires-clause-reg c = subst (λ n. c.in-AddI.source < n) (sym c.requires.each) (let named = subst NamesRegisters c.in-AddI.is c.requires.named in named c.in-AddI.source refl)

pub use_at-left-requires-clause-reg : goal.use_at-left-requires-clause-reg
use_at-left-requires-clause-reg c = subst (λ n. c.in-Add.left < n) (sym c.requires.each) (let named = subst NamesRegisters c.in-Add.is c.requires.named in named c.in-Add.left (inl refl))

pub use_at-right-requires-clause-reg : goal.use_at-right-requires-clause-reg
use_at-right-requires-clause-reg c = subst (λ n. c.in-Add.right < n) (sym c.requires.each) (let named = subst NamesRegisters c.in-Add.is c.requires.named in named c.in-Add.right (inr refl))
