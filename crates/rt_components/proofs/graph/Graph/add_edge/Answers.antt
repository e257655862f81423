use Rattle.std.proofs.Common.{◌≡◌, ℕ, ◌^◌, ◌<◌, ◌⊎◌, inl, inr, Result, Ok, Err, OnOk, OnErr, Contains, List, [], ◌∷◌, ◌++◌, length, set, sym, ap, subst}
use Rattle.std.proofs.lemmas.List.{get_or_read, length-set}
use Rattle.std.proofs.lemmas.List.Elements.{Contains-push_cases}
use Rattle.rt_components.specs.Graphs.{successors, HasEdge, IsGraph}
use Rattle.rt_components.specs.Groups.{group_at}
use Rattle.rt_components.proofs.Members.{set_cases}
use Rattle.rt_components.proofs.graph.Graph.add_edge.Goals as goal

ok_or_err : {X E : Type 0} (r : Result X E) (P Q : Type 0) → OnOk r P → OnErr r Q → P ⊎ Q
ok_or_err (Ok x) P Q p q = inl p
ok_or_err (Err e) P Q p q = inr q

is_graph : (graph : List (List ℕ)) → IsGraph graph → (from to : ℕ) → from < length graph → to < length graph → (ys : List ℕ) → (ys ≡ successors graph from ++ to ∷ []) ⊎ (ys ≡ successors graph from) → IsGraph (set graph from ys)
is_graph graph was from to less less' ys is = record {
  edges = λ a b edge. subst (λ n. b < n) (sym (length-set graph from ys)) (edges a b edge (set_cases graph from ys less a));
  numbered = subst (λ n. n < 2 ^ 32) (sym (length-set graph from ys)) was.numbered;
}
  where
    edges : (a b : ℕ) → HasEdge (set graph from ys) a b → ((a ≡ from) × (group_at (set graph from ys) a ≡ ys)) ⊎ ((a ≡ from → ⊥) × (group_at (set graph from ys) a ≡ group_at graph a)) → b < length graph
    edges a b edge (inr (ne, e)) = was.edges a b (subst (λ xs. Contains xs b) e edge)
    edges a b edge (inl (e, f)) = by is
      where
        here : Contains ys b
        here = subst (λ xs. Contains xs b) f edge

        added : Contains (successors graph from) b ⊎ (to ≡ b) → b < length graph
        added (inl c) = was.edges from b c
        added (inr g) = subst (λ x. x < length graph) g less'

        by : (ys ≡ successors graph from ++ to ∷ []) ⊎ (ys ≡ successors graph from) → b < length graph
        by (inl g) = added (Contains-push_cases (successors graph from) to b (subst (λ xs. Contains xs b) g here))
        by (inr g) = was.edges from b (subst (λ xs. Contains xs b) g here)

pub invariant_of-self : goal.invariant_of-self
invariant_of-self c =
    let graph = c.self.inside.successors.items in
    let ys = c.push.new.self in
    let from : c.args.from < length graph = subst (λ n. c.args.from < n) (sym (ap length c.self.view_is)) c.requires.from in
    let to : c.args.to < length graph = subst (λ n. c.args.to < n) (sym (ap length c.self.view_is)) c.requires.to in
    let was : c.index_mut.result.now ≡ successors graph c.args.from = get_or_read graph c.args.from c.index_mut.result.now from c.index_mut.ensures.value [] in
    is_graph graph c.self.invariant c.args.from c.args.to from to ys
    (ok_or_err c.push.result (ys ≡ successors graph c.args.from ++ c.args.to ∷ []) (ys ≡ successors graph c.args.from)
    (subst (λ xs. OnOk c.push.result (ys ≡ xs ++ c.args.to ∷ [])) was c.push.ensures.ok) (subst (λ xs. OnErr c.push.result (ys ≡ xs)) was c.push.ensures.err))
