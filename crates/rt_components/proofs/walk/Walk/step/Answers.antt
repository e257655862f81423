use Rattle.std.proofs.Common.{◌≡◌, ℕ, ◌+◌, ◌*◌, ◌<◌, ◌≤◌, List, length, slice_index, get_or, set, sym, ap, subst, ◌∙◌, arith}
use Rattle.std.proofs.lemmas.List.{get_or_read}
use Rattle.rt_components.specs.Graphs.{successors}
use Rattle.rt_components.specs.declared.walk.Walk.{Walk}
use Rattle.rt_components.specs.Inside.Walks.{state_of, left, AreWhole, IsPath, MayStep}
use Rattle.rt_components.proofs.Advancing.{advanced, left-set}
use Rattle.rt_components.proofs.Stepping.{on_path, is_node, is_seen, may_reach, edge_read}
use Rattle.rt_components.proofs.walk.Walk.step.Goals as goal

pub index-node-requires : goal.index-node-requires
index-node-requires g c =
    let w = c.args.self.now in
    subst (λ n. c.args.place < n) (sym w.path.ok.0) (on_path g.edges w c.args.place c.requires.1)

-- the node of the place, and how many of its edges were followed
module _ (graph : List (List ℕ)) (w : Walk) (place : ℕ) (may : MayStep graph w place) (node : ℕ) (read : node ≡ get_or w.path.items place node) where
  node_is : node ≡ slice_index w.path.items place
  node_is = get_or_read w.path.items place node (on_path graph w place may) read 0

  node_less : node < length w.followed.items
  node_less =
      let less : slice_index w.path.items place < length graph = is_node graph w place may in
      let each : length w.followed.items ≡ length graph = may.is_walk.on_path.followed_each in
      let is = node_is in
      omega arith

  edge_is : (edge : ℕ) → edge ≡ get_or w.followed.items node edge → edge ≡ slice_index w.followed.items node
  edge_is edge at = get_or_read w.followed.items node edge node_less at 0

pub index-edge-requires : goal.index-edge-requires
index-edge-requires g c =
    let w = c.args.self.now in
    subst (λ n. c.index-node.result.now < n) (sym w.followed.ok.0) (node_less g.edges w c.args.place c.requires.1 c.index-node.result.now c.index-node.ensures)

pub successors-requires : goal.successors-requires
successors-requires g c =
    let w = c.args.self.now in
    let less = node_less g.edges w c.args.place c.requires.1 c.index-node.result.now c.index-node.ensures in
    subst (λ n. c.index-node.result.now < n) (c.requires.1.is_walk.on_path.followed_each ∙ ap length c.requires.0) less

pub reach-requires : goal.reach-requires
reach-requires g c =
    let w = c.args.self.now in
    let may = c.requires.1 in
    let place = c.args.place in
    let node = node_is g.edges w place may c.index-node.result.now c.index-node.ensures in
    let all : c.successors.result.now ≡ successors g.edges c.index-node.result.now = c.successors.ensures.value ∙ ap (λ xs. successors xs c.index-node.result.now) (sym c.requires.0) in
    let found = c.in-Some.ensures.lookup.3 in
    let read = edge_read g.edges w place may c.successors.result.now c.index-node.result.now c.index-edge.result.now c.in-Some.to.now node all found.0 (found.1 0) in
    may_reach g.edges w place may c.index-edge.result.now c.in-Some.to.now read.0 read.1
    (subst (λ n. n < length g.edges) (sym (found.1 0)) (subst (λ xs. slice_index c.successors.result.now c.index-edge.result.now < length xs) (sym c.requires.0) (c.successors.ensures.nodes c.index-edge.result.now 0 found.0)))

pub leave-requires : goal.leave-requires
leave-requires g c =
    let w = c.args.self.now in
    let may = c.requires.1 in
    let place = c.args.place in
    let node = node_is g.edges w place may c.index-node.result.now c.index-node.ensures in
    let all : c.successors.result.now ≡ successors g.edges c.index-node.result.now = c.successors.ensures.value ∙ ap (λ xs. successors xs c.index-node.result.now) (sym c.requires.0) in
    let same : length c.successors.result.now ≡ length (successors g.edges (slice_index w.path.items place)) = ap length all ∙ ap (λ a. length (successors g.edges a)) node in
    let edge : c.index-edge.result.now ≡ slice_index w.followed.items (slice_index w.path.items place) = edge_is g.edges w place may c.index-node.result.now c.index-node.ensures c.index-edge.result.now c.index-edge.ensures ∙ ap (slice_index w.followed.items) node in
    let none : length c.successors.result.now ≤ c.index-edge.result.now = c.in-None.ensures.lookup.3 in
    record { may_step = may; spent = omega arith }

pub returns-in_ok-reach-in-Some-clause-walk : goal.returns-in_ok-reach-in-Some-clause-walk
returns-in_ok-reach-in-Some-clause-walk g c =
    let w = c.args.self.now in
    let v = c.reach.new.self in
    let may = c.requires.1 in
    let place = c.args.place in
    let a = c.index-node.result.now in
    let e = c.index-edge.result.now in
    let node = node_is g.edges w place may a c.index-node.ensures in
    let all : c.successors.result.now ≡ successors g.edges a = c.successors.ensures.value ∙ ap (λ xs. successors xs a) (sym c.requires.0) in
    let found = c.in-Some.ensures.lookup.3 in
    let done = c.in_ok-reach-in-Some.ensures in
    record {
      on_path =
          subst (λ graph. IsPath graph v.state.items (set v.followed.items a (e + 1)) v.path.items v.starts.items v.pending.items) c.requires.0
          (advanced g.edges v.state.items v.followed.items v.path.items v.starts.items v.pending.items done.walk.on_path a e c.in-Some.to.now
          (subst (λ n. n < length g.edges) (sym node) (is_node g.edges w place may))
          (λ u. is_seen g.edges w place may (sym (ap (state_of w.state.items) node) ∙ done.seen a u))
          (ap (λ xs. slice_index xs a) done.followed ∙ sym (edge_is g.edges w place may a c.index-node.ensures e c.index-edge.ensures))
          (ap (λ xs. slice_index xs e) (sym all) ∙ sym (found.1 0)) done.met);
      whole = subst (λ graph. AreWhole graph v.state.items v.heads.items) c.requires.0 done.walk.whole;
    }

pub returns-in_ok-reach-in-Some-clause-work : goal.returns-in_ok-reach-in-Some-clause-work
returns-in_ok-reach-in-Some-clause-work g c =
    let w = c.args.self.now in
    let v = c.reach.new.self in
    let may = c.requires.1 in
    let place = c.args.place in
    let a = c.index-node.result.now in
    let e = c.index-edge.result.now in
    let all : c.successors.result.now ≡ successors g.edges a = c.successors.ensures.value ∙ ap (λ xs. successors xs a) (sym c.requires.0) in
    let found = c.in-Some.ensures.lookup.3 in
    let done = c.in_ok-reach-in-Some.ensures in
    let next : slice_index v.followed.items a ≡ e = ap (λ xs. slice_index xs a) done.followed ∙ sym (edge_is g.edges w place may a c.index-node.ensures e c.index-edge.ensures) in
    let less = node_less g.edges w place may a c.index-node.ensures in
    let within : a < length v.followed.items = subst (λ xs. a < length xs) (sym done.followed) less in
    let one : left g.edges (set v.followed.items a (e + 1)) + 1 ≡ left g.edges v.followed.items = left-set g.edges v.followed.items a e next (subst (λ xs. e < length xs) all found.0) within in
    let before : left g.edges v.followed.items ≡ left g.edges w.followed.items = ap (left g.edges) done.followed in
    let pending : length v.pending.items ≤ length w.pending.items + 1 = done.pending in
    subst (λ graph. 2 * left graph (set v.followed.items a (e + 1)) + length v.pending.items < 2 * left graph w.followed.items + length w.pending.items) c.requires.0 (omega arith)
