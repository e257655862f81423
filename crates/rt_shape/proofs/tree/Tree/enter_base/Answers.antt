use Rattle.std.proofs.Common.{◌≡◌, ℕ, ◌+◌, ◌⊎◌, None, Some, List, cond, refl, sym, subst, arith}
use Rattle.std.specs.Map.{lookup}
use Rattle.rt_lines.specs.declared.label.Label.{Label}
use Rattle.rt_lines.specs.declared.variable.Base.{Base}
use Rattle.rt_lines.specs.declared.variable.Dtv.{Dtv}
use Rattle.rt_lines.specs.Equality.{base_eq}
use Rattle.rt_shape.specs.Graphs.{Graph, bare, Has, IsKept, IsTree}
use Rattle.rt_shape.proofs.Growth.{GrowsBy, node_kept, has_cases}
use Rattle.rt_shape.proofs.GrowthByBase.{grown_by_base}
use Rattle.rt_shape.proofs.tree.Tree.enter_base.Goals as goal

module _ (count : ℕ) (bases after : List (Base × ℕ)) (edges : List ((ℕ × Label) × ℕ)) (base : Base) (old : Graph) where
  abbrev before_graph : Graph
  before_graph = record { count = count; bases = bases; edges = edges }

  abbrev after_graph : Graph
  after_graph = record { count = count + 1; bases = after; edges = edges }

  module _ (tree : IsTree before_graph) (same : before_graph ≡ old)
      (absent : None ≡ lookup (base_eq base) bases)
      (updates : (b : Base) → lookup (base_eq b) after ≡ cond (base_eq base b) (Some count) (lookup (base_eq b) bases)) where
    grown : IsTree after_graph × GrowsBy before_graph after_graph (λ x. x ≡ bare base)
    grown = grown_by_base before_graph after_graph tree base (sym absent) refl updates (λ m l. refl)

    kept : IsKept old after_graph
    kept = node_kept before_graph old after_graph _ same grown.1

    only : (x : Dtv) → Has after_graph x → Has old x ⊎ (x ≡ bare base)
    only x h = has_cases before_graph old after_graph _ same grown.1 x h

pub invariant_of-self-2 : goal.invariant_of-self-2
invariant_of-self-2 c =
    let count : c.self.inside.count + 1 ≡ c.in-Some-checked_add.count = omega arith in
    subst (λ n. IsTree (record { count = n; bases = c.insert.new.self.entries; edges = c.self.inside.edges.entries })) count
    (grown c.self.inside.count c.self.inside.bases.entries c.insert.new.self.entries c.self.inside.edges.entries c.args.base c.args.self.now
    c.self.invariant c.self.view_is c.in_default.ensures.value c.in_ok-insert.ensures.updates.0).0

pub returns-clause-kept : goal.returns-clause-kept
returns-clause-kept c =
    kept c.self.inside.count c.self.inside.bases.entries c.insert.new.self.entries c.self.inside.edges.entries c.args.base c.args.self.now
    c.self.invariant c.self.view_is c.in_default.ensures.value c.in_ok-insert.ensures.updates.0

pub returns-clause-only : goal.returns-clause-only
returns-clause-only c =
    only c.self.inside.count c.self.inside.bases.entries c.insert.new.self.entries c.self.inside.edges.entries c.args.base c.args.self.now
    c.self.invariant c.self.view_is c.in_default.ensures.value c.in_ok-insert.ensures.updates.0
