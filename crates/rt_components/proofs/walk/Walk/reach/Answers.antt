use Rattle.std.proofs.Common.{◌≡◌, ◌<◌, inr, length, slice_index, sym, subst, ◌∙◌}
use Rattle.std.proofs.lemmas.List.{get_or_read}
use Rattle.rt_components.specs.declared.walk.State.TheVariants.{Unseen, OnPath}
use Rattle.rt_components.specs.Graphs.{HasEdge}
use Rattle.rt_components.specs.Groups.{Reaches}
use Rattle.rt_components.specs.Inside.Walks.{state_of}
use Rattle.rt_components.proofs.Merging.{merged}
use Rattle.rt_components.proofs.walk.Walk.reach.Goals as goal

pub returns-in-OnPath-clause-walk : goal.returns-in-OnPath-clause-walk
returns-in-OnPath-clause-walk g c =
    let w = c.args.self.now in
    let walk = c.requires.is_walk in
    let less : c.args.node < length w.state.items = subst (λ n. c.args.node < n) (sym walk.on_path.state_each) c.requires.within in
    let placed : state_of w.state.items c.args.node ≡ OnPath c.in-OnPath.place = sym (get_or_read w.state.items c.args.node c.index.result.now less c.index.ensures Unseen) ∙ c.in-OnPath.is in
    let there = walk.on_path.place_of c.args.node c.in-OnPath.place placed in
    record {
      on_path =
          merged g.graph w.state.items w.followed.items w.path.items w.starts.items w.pending.items walk.on_path c.in-OnPath.place there.0
          (λ i h. subst (Reaches (HasEdge g.graph) (slice_index w.path.items i)) (sym there.1) (c.requires.all_reach i h)) c.merge.new.starts.items c.merge.ensures;
      whole = walk.whole;
    }

pub returns-in-OnPath-clause-met : goal.returns-in-OnPath-clause-met
returns-in-OnPath-clause-met g c =
    let w = c.args.self.now in
    let less : c.args.node < length w.state.items = subst (λ n. c.args.node < n) (sym c.requires.is_walk.on_path.state_each) c.requires.within in
    let placed : state_of w.state.items c.args.node ≡ OnPath c.in-OnPath.place = sym (get_or_read w.state.items c.args.node c.index.result.now less c.index.ensures Unseen) ∙ c.in-OnPath.is in
    inr (c.in-OnPath.place, placed, λ s d. (c.merge.ensures.only s d).1)
