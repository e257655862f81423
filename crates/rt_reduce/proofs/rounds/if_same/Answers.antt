use Rattle.std.proofs.Common.{◌≡◌, [], List, Contains, sym, subst, ◌∙◌}
use Rattle.std.proofs.lemmas.Slice.Eq.{slice_eq-Decides}
use Rattle.rt_reduce.proofs.Leftover.{lines_decide}
use Rattle.rt_lines.specs.declared.line.Line.{Line}
use Rattle.rt_sat.proofs.Frames.{side_named}
use Rattle.rt_reduce.proofs.rounds.if_same.Goals as goal

pub returns-then-eq : goal.returns-then-eq
returns-then-eq c =
    let lines = c.args.lines.now in
    let others = c.args.others.now in
    let same : lines ≡ others = (slice_eq-Decides lines_decide lines others c.eq.result c.eq.ensures).0 c.if-eq.true in (
      c.requires.0 ∙ same,
      λ l x d h. side_named lines [] c.args.outer.named c.requires.1 l x (subst (λ (ls : List Line). Contains ls l) (sym same) d) h,
    )
