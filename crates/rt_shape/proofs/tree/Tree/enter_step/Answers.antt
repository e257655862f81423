use Rattle.std.proofs.Common.{◌≡◌, ℕ, ◌+◌, ◌<◌, ◌⊎◌, inl, inr, None, Some, List, cond, refl, sym, ap, subst, ◌∙◌, arith}
use Rattle.std.specs.Map.{lookup}
use Rattle.rt_lines.specs.declared.label.Label.{Label}
use Rattle.rt_lines.specs.declared.variable.Base.{Base}
use Rattle.rt_lines.specs.declared.variable.Dtv.{Dtv}
use Rattle.rt_rules.specs.Rules.{longer}
use Rattle.rt_shape.specs.Graphs.{Graph, letter_eq, node_of, step_of, Has, IsKept, IsTree}
use Rattle.rt_shape.proofs.Walks.{node_of-longer}
use Rattle.rt_shape.proofs.Growth.{GrowsBy, node_kept, has_cases}
use Rattle.rt_shape.proofs.GrowthByStep.{grown_by_step, here_by_step}
use Rattle.rt_shape.proofs.tree.Tree.enter_step.Goals as goal

module _ (count : ℕ) (bases : List (Base × ℕ)) (edges after : List ((ℕ × Label) × ℕ)) (node : ℕ) (label : Label) (old : Graph) where
  abbrev before_graph : Graph
  before_graph = record { count = count; bases = bases; edges = edges }

  abbrev after_graph : Graph
  after_graph = record { count = count + 1; bases = bases; edges = after }

  module _ (tree : IsTree before_graph) (same : before_graph ≡ old) (within : node < old.count)
      (absent : None ≡ lookup (letter_eq (node, label)) edges)
      (updates : (q : ℕ × Label) → lookup (letter_eq q) after ≡ cond (letter_eq (node, label) q) (Some count) (lookup (letter_eq q) edges)) where
    inside : node < count
    inside = subst (λ g. node < g.count) (sym same) within

    grown : IsTree after_graph × GrowsBy before_graph after_graph (λ x. (y : Dtv) × (node_of before_graph y ≡ Some node) × (x ≡ longer y label))
    grown = grown_by_step before_graph after_graph tree node label inside (sym absent) refl (λ b. refl) (λ m l. updates (m, l))

    here : (x : Dtv) → node_of old x ≡ Some node → node_of after_graph (longer x label) ≡ Some count
    here x e = here_by_step before_graph after_graph tree node label inside (sym absent) refl (λ b. refl) (λ m l. updates (m, l)) x (subst (λ g. node_of g x ≡ Some node) (sym same) e)

    kept : IsKept old after_graph
    kept = node_kept before_graph old after_graph _ same grown.1

    only : (x y : Dtv) → node_of old x ≡ Some node → Has after_graph y → Has old y ⊎ (y ≡ longer x label)
    only x y e h = by (has_cases before_graph old after_graph _ same grown.1 y h)
      where
        by : Has old y ⊎ ((z : Dtv) × (node_of before_graph z ≡ Some node) × (y ≡ longer z label)) → Has old y ⊎ (y ≡ longer x label)
        by (inl k) = inl k
        by (inr (z, f, g)) = inr (g ∙ ap (λ v. longer v label) (tree.single z x node f (subst (λ g. node_of g x ≡ Some node) (sym same) e)))

pub invariant_of-self-2 : goal.invariant_of-self-2
invariant_of-self-2 c =
    let count : c.self.inside.count + 1 ≡ c.in-Some-checked_add.count = omega arith in
    subst (λ n. IsTree (record { count = n; bases = c.self.inside.bases.entries; edges = c.insert.new.self.entries })) count
    (grown c.self.inside.count c.self.inside.bases.entries c.self.inside.edges.entries c.insert.new.self.entries c.args.node c.args.label c.args.self.now
    c.self.invariant c.self.view_is c.requires c.in_default.ensures.value c.in_ok-insert.ensures.updates.0).0

pub returns-in-Some-clause-within : goal.returns-in-Some-clause-within
returns-in-Some-clause-within c =
    subst (λ g. c.in-Some.next.now < g.count) c.self.view_is (c.self.invariant.whole.edges_in c.args.node c.args.label c.in-Some.next.now (sym c.in-Some.ensures.value)).1

pub returns-in-Some-clause-here : goal.returns-in-Some-clause-here
returns-in-Some-clause-here c = λ x e.
    let step : step_of c.args.self.now c.args.node c.args.label ≡ Some c.in-Some.next.now = subst (λ g. step_of g c.args.node c.args.label ≡ Some c.in-Some.next.now) c.self.view_is (sym c.in-Some.ensures.value) in
    node_of-longer c.args.self.now x c.args.label c.args.node e ∙ step

pub returns-clause-here : goal.returns-clause-here
returns-clause-here c =
    here c.self.inside.count c.self.inside.bases.entries c.self.inside.edges.entries c.insert.new.self.entries c.args.node c.args.label c.args.self.now
    c.self.invariant c.self.view_is c.requires c.in_default.ensures.value c.in_ok-insert.ensures.updates.0

pub returns-clause-kept : goal.returns-clause-kept
returns-clause-kept c =
    kept c.self.inside.count c.self.inside.bases.entries c.self.inside.edges.entries c.insert.new.self.entries c.args.node c.args.label c.args.self.now
    c.self.invariant c.self.view_is c.requires c.in_default.ensures.value c.in_ok-insert.ensures.updates.0

pub returns-clause-only : goal.returns-clause-only
returns-clause-only c =
    only c.self.inside.count c.self.inside.bases.entries c.self.inside.edges.entries c.insert.new.self.entries c.args.node c.args.label c.args.self.now
    c.self.invariant c.self.view_is c.requires c.in_default.ensures.value c.in_ok-insert.ensures.updates.0
