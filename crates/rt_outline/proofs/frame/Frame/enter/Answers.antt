use Rattle.std.proofs.Common.{◌≡◌, ◌<◌, ◌++◌, ◌∷◌, [], List, length, ap, subst, ◌∙◌, arith}
use Rattle.rt_outline.specs.declared.arc.Arc.{Arc}
use Rattle.rt_outline.specs.Frames.{IsSetAt}
use Rattle.rt_outline.proofs.Framed.{entered_frame, frame_as}
use Rattle.rt_outline.proofs.frame.Frame.enter.Goals as goal

pub returns-clause-frame : goal.returns-clause-frame
returns-clause-frame c =
    let same : c.len-node.result ≡ length c.args.self.now.origins.items = omega arith in
    let few : length c.args.self.now.origins.items < 4294967295 = omega arith in
    frame_as (c.args.self.now.origins.items ++ c.args.origin ∷ []) c.push.new.self.items c.set.new.steps (c.args.self.now.arcs.items ++ [] ∷ []) c.push-2.new.self.items (c.args.self.now.back.items ++ [] ∷ []) c.push-3.new.self.items
    c.in_ok-push.ensures.items (c.in_ok-push-2.ensures.items ∙ ap (λ (xs : List Arc). c.args.self.now.arcs.items ++ xs ∷ []) c.new.ensures) (c.in_ok-push-3.ensures.items ∙ ap (λ (xs : List Arc). c.args.self.now.back.items ++ xs ∷ []) c.new-2.ensures)
    (entered_frame c.args.self.now.origins.items c.args.self.now.steps c.set.new.steps c.args.self.now.arcs.items c.args.self.now.back.items c.args.origin few c.requires.frame c.requires.fresh c.requires.below
    (λ p l. subst (λ n. IsSetAt c.args.origin n p l c.args.self.now.steps c.set.new.steps) same (c.in_ok-set.ensures p l)))
