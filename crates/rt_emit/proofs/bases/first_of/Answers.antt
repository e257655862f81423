use Rattle.std.proofs.Common.{◌≡◌, ◌+◌, ℕ, List, [], ◌∷◌, ◌++◌, get_or, take, sym, subst, arith}
use Rattle.std.proofs.lemmas.List.{take_all, take_more}
use Rattle.rt_lines.specs.declared.variable.Base.{Base}
use Rattle.rt_lines.specs.declared.variable.Base.TheVariants.{Proc}
use Rattle.rt_emit.proofs.FirstOnes.{HaveFirst, first_none, first_more, are_first}
use Rattle.rt_emit.proofs.bases.first_of.Goals as goal

pub loop-base-init : goal.loop-base-init
loop-base-init c = subst (HaveFirst c.args.shape.now []) (sym c.new-queue.ensures) (first_none c.args.shape.now)

pub loop-base-preserved : goal.loop-base-preserved
loop-base-preserved c =
    let bases : List Base = c.args.bases.now in
    let i : ℕ = c.loop-base.base-index in
    let more : take (i + 1) bases ≡ take i bases ++ get_or bases i (Proc 0) ∷ [] = take_more bases i (Proc 0) (omega arith) in
    subst (λ bs. HaveFirst c.args.shape.now bs c.push_first.new.queue) (sym more)
    (first_more c.args.shape.now (take i bases) (get_or bases i (Proc 0)) c.loop-base.queue c.push_first.new.queue c.loop-base.invariant
    c.in_ok-push_first.ensures)

pub returns : goal.returns
returns c =
    let whole : take c.loop-base.base-index c.args.bases.now ≡ c.args.bases.now =
    take_all c.loop-base.base-index c.args.bases.now (omega arith) in
    are_first c.args.shape.now c.args.lines.now c.requires.shape c.args.bases.now c.loop-base.queue c.requires.kept
    (subst (λ bs. HaveFirst c.args.shape.now bs c.loop-base.queue) whole c.loop-base.invariant)
