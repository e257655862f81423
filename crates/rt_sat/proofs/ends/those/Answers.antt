use Rattle.std.proofs.Common.{Contains, get_or, inl, inr, subst}
use Rattle.std.proofs.lemmas.List.Elements.{Contains-get_or, Contains-push_cases}
use Rattle.rt_sat.specs.declared.gathering.End.{End}
use Rattle.rt_sat.proofs.ToldPushes.{no_end}
use Rattle.rt_sat.proofs.ends.those.Goals as goal
use Rattle.rt_sat.proofs.ends.those.Goals.{then-end-lead_on+in_ok-push, else-end-lead_on}

pub loop-end-preserved : goal.loop-end-preserved
loop-end-preserved c =
    let ends = c.args.ends.now in
    let this : End = get_or ends c.loop-end.end-index no_end in
    elim c.if-end-lead_on.branch [
      | then-end-lead_on+in_ok-push w ↦ record {
        are = λ end h. elim (Contains-push_cases c.loop-end.those.items this end (subst (λ xs. Contains xs end) w.in_ok-push.ensures.items (subst (λ those. Contains those.items end) w.those-is h))) [
          | inl old ↦ c.loop-end.invariant.are end old
          | inr same ↦ subst (Contains ends) same (Contains-get_or ends c.loop-end.end-index no_end c.loop-end-test.true)
        ];
      }
      | else-end-lead_on w ↦ record { are = λ end h. c.loop-end.invariant.are end (subst (λ those. Contains those.items end) w.those-is h) }
    ]
