use Rattle.std.proofs.Common.{◌≡◌, ◌⊎◌, Contains, get_or, sym, subst, ap, ◌∙◌, arith}
use Rattle.std.specs.Prelude.{false}
use Rattle.std.proofs.lemmas.List.Elements.{Contains-get_or}
use Rattle.rt_sat.specs.declared.gathering.End.{End}
use Rattle.rt_sat.specs.declared.state.State.{State}
use Rattle.rt_sat.specs.Hints.{state_at, AreEnds, IsEnd}
use Rattle.rt_sat.specs.Inside.Links.{noted_at, AreSources, AreTargets}
use Rattle.rt_sat.proofs.Standing.{sources_more, targets_more}
use Rattle.rt_sat.proofs.ToldPushes.{digit_small, ends_more, state_placed}
use Rattle.rt_sat.proofs.ends.add_kid.Goals as goal
use Rattle.rt_sat.proofs.ends.add_kid.Goals.{in-Some-home+in_ok-push, in_default-home}

pub loop-stand-preserved : goal.loop-stand-preserved
loop-stand-preserved c =
    let known = c.args.frame.now.named in
    let flips = c.args.frame.now.flips.items in
    let members = c.args.members.now in
    let into = c.args.into.now in
    let near = c.args.near.now in
    elim c.match-home.branch [
      | in-Some-home+in_ok-push w ↦
          let stand : State = get_or c.stands-stand-items.result.now c.loop-stand.stand-index (record { variable = 0; contra = false }) in
          let end : End = record {
            place = w.place.result;
            root = record { variable = get_or members c.args.kid.parent 0; contra = c.args.contra };
            pointed = c.in-Some.pointed;
            root_flip = w.flag.result;
            parent = c.in-Some.parent;
            child = c.in-Some-child_of.child;
            letter = c.in-Some-child_of.letter;
            stand = stand;
            home = w.in-Some-home.home;
            flip = w.flag-in-Some-home.result;
            matters = w.flag-in-Some-home-2.result;
            pointer = w.is_pointer.result;
            turned = w.turns.result;
            leads_on = w.leads_on.result;
          } in
          let is : IsEnd known flips members into end = record {
            inside = omega (arith, digit_small c.args.contra, w.place.ensures, c.requires.kid);
            root = sym (ap (state_at members) w.place.ensures ∙ state_placed members c.args.kid.parent c.args.contra);
            root_flip = w.flag.ensures ∙ ap (λ xs. get_or xs (get_or members c.args.kid.parent 0) false) w.deref.ensures.value;
            parent = c.in-Some.ensures;
            child = c.in-Some-child_of.ensures.child;
            home = w.in-Some-home.ensures.home;
            flip = w.flag-in-Some-home.ensures ∙ ap (λ xs. get_or xs c.in-Some.parent.variable false) w.deref-in-Some-home.ensures.value;
          } in
          let at : (stand ≡ c.in-Some-child_of.child) ⊎ Contains (noted_at near c.in-Some-child_of.child) stand =
          c.stands-stand-items.ensures stand (Contains-get_or c.stands-stand-items.result.now c.loop-stand.stand-index (record { variable = 0; contra = false }) c.loop-stand-test.true) in
          record {
            ends = λ are. subst (λ ends. AreEnds known flips members into ends.items) (sym w.ends-is)
                (ends_more known flips members into c.loop-stand.ends.items w.push.new.self.items end (c.loop-stand.invariant.ends are) is w.in_ok-push.ensures.items);
            before = λ lines told are. subst (λ ends. AreSources known flips lines ends.items) (sym w.ends-is)
                (sources_more known flips lines near c.loop-stand.ends.items w.push.new.self.items end c.in-Some-child_of.ensures.child at w.in_ok-push.ensures.items told (c.loop-stand.invariant.before lines told are));
            behind = λ lines told are. subst (λ ends. AreTargets known flips lines ends.items) (sym w.ends-is)
                (targets_more known flips lines near c.loop-stand.ends.items w.push.new.self.items end c.in-Some-child_of.ensures.child at w.in_ok-push.ensures.items told (c.loop-stand.invariant.behind lines told are));
          }
      | in_default-home w ↦ record {
        ends = λ are. subst (λ ends. AreEnds known flips members into ends.items) (sym w.ends-is) (c.loop-stand.invariant.ends are);
        before = λ lines told are. subst (λ ends. AreSources known flips lines ends.items) (sym w.ends-is) (c.loop-stand.invariant.before lines told are);
        behind = λ lines told are. subst (λ ends. AreTargets known flips lines ends.items) (sym w.ends-is) (c.loop-stand.invariant.behind lines told are);
      }
    ]
