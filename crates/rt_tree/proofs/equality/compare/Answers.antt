use Rattle.std.proofs.Common.{◌≡◌, ℕ, ◌+◌, ◌<◌, Bool, true, false, not, nat_eq, ◌&&◌, List, length, refl, sym, ap, subst, ◌∙◌}
use Rattle.std.specs.List.{AllByRecursion}
use Rattle.std.proofs.lemmas.Bool.{eqb-true, and_parts}
use Rattle.std.proofs.lemmas.Cmp.{nat_eq_equiv}
use Rattle.rt_lines.specs.declared.label.Label.{Label}
use Rattle.rt_tree.specs.Trees.{Nodes, node_at, marks_of, IsEdge}
use Rattle.rt_tree.specs.Pairs.{both, shifted_edges, root_of}
use Rattle.rt_tree.proofs.Words.{AreNodes}
use Rattle.rt_tree.proofs.Both.{length-both, both_nodes}
use Rattle.rt_tree.proofs.Alike.{edges_of, in_range, found_of, like_marks}
use Rattle.rt_tree.proofs.equality.compare.Goals as goal

range_of : (t : Nodes) → AreNodes t → (x : ℕ) → x < length t → (i k count : ℕ) (edges : List (Label × ℕ)) → i ≡ k → shifted_edges k edges ≡ (node_at t x).edges → count ≡ length t → AllByRecursion (λ (edge : Label × ℕ). i + edge.1 < count) edges
range_of t good x less i k count edges e f len =
    in_range i count edges
    (subst (AllByRecursion (IsEdge count)) (sym (ap (λ n. shifted_edges n edges) e ∙ f)) (subst (λ n. AllByRecursion (IsEdge n) (node_at t x).edges) (sym len) (edges_of t good x less).each))

within : (a b : Nodes) (x : ℕ) → x < length a + length b → x < length (both a b)
within a b x less = subst (λ n. x < n) (sym (length-both a b)) less

not_false : (b r : Bool) → r ≡ false → r ≡ not b → b ≡ true
not_false true r p e = refl
not_false false r p e = cc

not_true : (b r : Bool) → b ≡ true → r ≡ true → r ≡ not b → ⊥
not_true true r p q e = cc
not_true false r p q e = cc

marks_equal : (p q : ℕ × ℕ) (r : Bool) → r ≡ false → r ≡ not (nat_eq p.0 q.0 && nat_eq p.1 q.1) → p ≡ q
marks_equal (m, n) (k, l) r is test =
    let parts = and_parts (nat_eq m k) (nat_eq n l) (not_false (nat_eq m k && nat_eq n l) r is test) in
    rw (eqb-true m k parts.0, eqb-true n l parts.1) refl

marks_differ : (p q : ℕ × ℕ) (r : Bool) → r ≡ true → r ≡ not (nat_eq p.0 q.0 && nat_eq p.1 q.1) → p ≡ q → ⊥
marks_differ p q r is test e =
    let itself : nat_eq p.0 p.0 && nat_eq p.1 p.1 ≡ true = rw (nat_eq_equiv.refl p.0, nat_eq_equiv.refl p.1) refl in
    not_true (nat_eq p.0 q.0 && nat_eq p.1 q.1) r (subst (λ (z : ℕ × ℕ). nat_eq p.0 z.0 && nat_eq p.1 z.1 ≡ true) e itself) is test

pub returns-then-ne : goal.returns-then-ne
returns-then-ne c =
    let a = c.args.a.now in
    let b = c.args.b.now in
    λ like. marks_differ c.mark_in.result c.mark_in-2.result c.ne.result c.if-ne.true c.ne.ensures
    (c.mark_in.ensures ∙ (like_marks (both a b) c.args.x c.args.y (within a b c.args.x c.requires.x) (within a b c.args.y c.requires.y) like ∙ sym c.mark_in-2.ensures))

pub compare_edges-requires-clause-first : goal.compare_edges-requires-clause-first
compare_edges-requires-clause-first c =
    let a = c.args.a.now in
    let b = c.args.b.now in
    range_of (both a b) (both_nodes a b c.requires.first c.requires.second) c.args.x (within a b c.args.x c.requires.x) c.root_in-i.result (root_of (length a) c.args.x) (length c.args.class.now) c.edges_in.result.now c.root_in-i.ensures c.edges_in.ensures (c.requires.class ∙ sym (length-both a b))

pub compare_edges-requires-clause-second : goal.compare_edges-requires-clause-second
compare_edges-requires-clause-second c =
    let a = c.args.a.now in
    let b = c.args.b.now in
    range_of (both a b) (both_nodes a b c.requires.first c.requires.second) c.args.y (within a b c.args.y c.requires.y) c.root_in-j.result (root_of (length a) c.args.y) (length c.args.class.now) c.edges_in-2.result.now c.root_in-j.ensures c.edges_in-2.ensures (c.requires.class ∙ sym (length-both a b))

pub returns : goal.returns
returns c =
    let a = c.args.a.now in
    let b = c.args.b.now in
    let marks : marks_of (node_at (both a b) c.args.x) ≡ marks_of (node_at (both a b) c.args.y) =
    sym c.mark_in.ensures ∙ (marks_equal c.mark_in.result c.mark_in-2.result c.ne.result c.if-ne.false c.ne.ensures ∙ c.mark_in-2.ensures) in
    found_of c.args.class.now (both a b) (both_nodes a b c.requires.first c.requires.second) c.args.x c.args.y c.root_in-i.result c.root_in-j.result c.edges_in.result.now c.edges_in-2.result.now c.compare_edges.result (within a b c.args.x c.requires.x) (within a b c.args.y c.requires.y) (ap (λ n. shifted_edges n c.edges_in.result.now) c.root_in-i.ensures ∙ c.edges_in.ensures) (ap (λ n. shifted_edges n c.edges_in-2.result.now) c.root_in-j.ensures ∙ c.edges_in-2.ensures) marks c.compare_edges.ensures
