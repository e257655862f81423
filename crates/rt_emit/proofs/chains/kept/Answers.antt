use Rattle.std.proofs.Common.{◌≡◌, ◌+◌, ◌∷◌, [], ◌++◌, Contains, take, sym, subst, arith}
use Rattle.std.proofs.lemmas.List.{take_all}
use Rattle.std.proofs.lemmas.List.Elements.{Contains-get_or}
use Rattle.rt_reduction.specs.Emits.{first_side, IsAnchored, Keeps}
use Rattle.rt_reduction.specs.Emits.Keeps.{ends}
use Rattle.rt_shape.proofs.Named.{turn}
use Rattle.rt_emit.proofs.Joining.{one_kept}
use Rattle.rt_emit.proofs.chains.kept.Goals as goal

pub loop-line-init : goal.loop-line-init
loop-line-init c = subst (λ out. Keeps (λ k. IsAnchored c.args.lines.now (first_side k).base) [] out) (sym c.new-out.ensures.items) ends

pub loop-line-preserved : goal.loop-line-preserved
loop-line-preserved c =
    let more : take (c.loop-line.line-index + 1) c.args.lines.now ≡ take c.loop-line.line-index c.args.lines.now ++ c.line-item.result ∷
    [] =
    turn c.args.lines.now c.loop-line.line-index c.line-item.result (omega arith) c.line-item.is in
    let stands : Contains c.args.lines.now c.line-item.result =
    subst (Contains c.args.lines.now) (sym c.line-item.is) (Contains-get_or c.args.lines.now c.loop-line.line-index c.line-item.result
    (omega arith)) in
    subst (λ done. Keeps (λ k. IsAnchored c.args.lines.now (first_side k).base) done c.push_joined.new.out.items) (sym more)
    (one_kept c.args.lines.now c.requires.inner c.args.shape.now c.requires.shape (take c.loop-line.line-index c.args.lines.now)
    c.line-item.result
    c.loop-line.out.items c.push_joined.new.out.items stands c.loop-line.invariant c.in_ok-push_joined.ensures)

pub returns : goal.returns
returns c =
    let whole : take c.loop-line.line-index c.args.lines.now ≡ c.args.lines.now =
    take_all c.loop-line.line-index c.args.lines.now (omega arith) in
    subst (λ done. Keeps (λ k. IsAnchored c.args.lines.now (first_side k).base) done c.loop-line.out.items) whole c.loop-line.invariant
