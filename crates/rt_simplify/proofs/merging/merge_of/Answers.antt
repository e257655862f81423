use Rattle.std.proofs.Common.{◌≡◌, Bool, List, MatchBool, subst}
use Rattle.rt_lines.specs.declared.line.Line.{Line}
use Rattle.rt_simplify.proofs.Joining.{no_twins, become_one}
use Rattle.rt_simplify.proofs.merging.merge_of.Goals as goal

pub returns-then-not-differs : goal.returns-then-not-differs
returns-then-not-differs c =
    let merged : List Line = c.in_ok-merged.merged in
    let lines : List Line = c.args.lines.now in
    no_twins c.args.sign lines merged c.in_ok-merged.ensures.twinned
    (subst (λ (b : Bool). MatchBool b (merged ≡ lines → ⊥) (merged ≡ lines)) c.if-not-differs.true c.in_ok-merged.ensures.changed)

pub returns : goal.returns
returns c =
    let merged : List Line = c.in_ok-merged.merged in
    let lines : List Line = c.args.lines.now in
    become_one c.args.sign lines merged c.in_ok-merged.ensures.twinned c.requires
    (subst (λ (b : Bool). MatchBool b (merged ≡ lines → ⊥) (merged ≡ lines)) c.if-not-differs.false c.in_ok-merged.ensures.changed)
