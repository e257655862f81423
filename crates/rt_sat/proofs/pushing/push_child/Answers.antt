use Rattle.std.proofs.Common.{◌≡◌, arith}
use Rattle.rt_lines.specs.Words.{label_variance, times}
use Rattle.rt_sat.specs.declared.state.State.{State}
use Rattle.rt_sat.specs.Numbered.{is_contra, sign_of}
use Rattle.rt_sat.specs.Pushes.{IsChildOf}
use Rattle.rt_sat.proofs.Pushed.{child_of, child_noted, child_done}
use Rattle.rt_sat.proofs.pushing.push_child.Goals as goal

pub returns-in_ok-push_between-in-Longer-clause-noted : goal.returns-in_ok-push_between-in-Longer-clause-noted
returns-in_ok-push_between-in-Longer-clause-noted c =
    let target : State = record { variable = c.args.child; contra = c.turns-contra.result } in
    let sign : c.turns-contra.result ≡ is_contra (times (label_variance c.in-Longer.second) (sign_of c.args.other.contra)) = cc in
    let same : c.in-Longer.parent ≡ c.args.other.variable = omega arith in
    let child : IsChildOf c.args.frame.now.named target c.args.other c.in-Longer.second =
    child_of c.args.frame.now.named target c.args.other c.in-Longer.parent c.in-Longer.second c.requires.child c.in-Longer.ensures.below c.in-Longer.ensures.made same sign in
    child_noted c.args.frame.now.named c.args.flip c.args.first c.args.source c.args.other c.args.count.now c.args.most c.args.known.now target c.in-Longer.second c.args.layers.now c.push_between.new.layers c.push_between.new.known child c.in_ok-push_between-in-Longer.ensures.noted

pub returns-in_ok-push_between-in-Longer-clause-done : goal.returns-in_ok-push_between-in-Longer-clause-done
returns-in_ok-push_between-in-Longer-clause-done c =
    let target : State = record { variable = c.args.child; contra = c.turns-contra.result } in
    let sign : c.turns-contra.result ≡ is_contra (times (label_variance c.in-Longer.second) (sign_of c.args.other.contra)) = cc in
    let same : c.in-Longer.parent ≡ c.args.other.variable = omega arith in
    let child : IsChildOf c.args.frame.now.named target c.args.other c.in-Longer.second =
    child_of c.args.frame.now.named target c.args.other c.in-Longer.parent c.in-Longer.second c.requires.child c.in-Longer.ensures.below c.in-Longer.ensures.made same sign in
    λ h. child_done c.args.frame.now.named c.args.flip c.args.first c.args.source c.args.other c.args.count.now c.args.most c.args.known.now c.requires.distinct target c.in-Longer.second child (c.in_ok-push_between-in-Longer.ensures.done h)
