use Rattle.std.proofs.Common.{inr, ◌∙◌}
use Rattle.rt_components.proofs.Entering.{entered, entered_met, entered_whole}
use Rattle.rt_components.proofs.walk.Walk.enter.Goals as goal

pub returns-clause-walk : goal.returns-clause-walk
returns-clause-walk g c =
    let w = c.args.self.now in
    let r = c.requires in
    record {
      on_path =
          entered g.graph w.state.items w.followed.items w.path.items w.starts.items w.pending.items r.is_walk.on_path c.args.node r.within r.unseen r.all_reach c.len-place.result (c.len-place.ensures ∙ w.path.ok.0)
          c.push.new.self.items c.push-2.new.self.items c.push-3.new.self.items c.in_ok-push.ensures.items c.in_ok-push-2.ensures.items c.in_ok-push-3.ensures.items;
      whole = entered_whole g.graph w.state.items w.followed.items w.path.items w.starts.items w.pending.items r.is_walk.on_path c.args.node r.within r.unseen c.len-place.result (c.len-place.ensures ∙ w.path.ok.0) w.heads.items r.is_walk.whole;
    }

pub returns-clause-met : goal.returns-clause-met
returns-clause-met g c =
    let w = c.args.self.now in
    let r = c.requires in
    let met = entered_met g.graph w.state.items w.followed.items w.path.items w.starts.items w.pending.items r.is_walk.on_path c.args.node r.within c.len-place.result (c.len-place.ensures ∙ w.path.ok.0) c.push-2.new.self.items c.in_ok-push-2.ensures.items in
    inr (c.len-place.result, met.0, met.1)
