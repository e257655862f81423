use Rattle.std.proofs.Common.{◌++◌, List, ℕ, ap, sym, ◌∙◌}
use Rattle.rt_make.specs.Made.{made_procedure}
use Rattle.rt_make.proofs.Procedures.{made_code-more}
use Rattle.rt_make.proofs.made.code_of.Goals as goal

pub loop-procedure-preserved : goal.loop-procedure-preserved
loop-procedure-preserved c =
    let i = c.loop-procedure.procedure in
    c.in_ok-push_procedure.ensures ∙ (ap (λ (code : List ℕ). code ++ made_procedure i) c.loop-procedure.invariant ∙ sym (made_code-more i))
