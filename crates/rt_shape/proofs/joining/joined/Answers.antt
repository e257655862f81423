use Rattle.std.proofs.Common.{ℕ, ◌<◌, List, Contains, sym, subst}
use Rattle.rt_shape.specs.Graphs.{Graph}
use Rattle.rt_shape.specs.Inside.Classes.{AreClasses}
use Rattle.rt_shape.specs.Inside.Joins.{IsSound}
use Rattle.rt_shape.specs.declared.joining.Joining.{Joining}
use Rattle.rt_shape.proofs.joining.joined.Goals as goal

classes : (graph : Graph) (pairs : List (ℕ × ℕ)) (s : Joining) → IsSound graph pairs s → AreClasses graph pairs s.class.items
classes graph pairs s sound = record {
  each = sound.each;
  within = λ i less. (sound.class_joined i less).0;
  sound = λ i less. (sound.class_joined i less).1;
}

pub new-requires : goal.new-requires
new-requires c = subst (λ n. (i j : ℕ) → Contains c.args.pairs.now (i, j) → (i < n) × (j < n)) (sym c.count.ensures.count) c.requires

pub enter_edges-requires : goal.enter_edges-requires
enter_edges-requires c = (c.args.pairs.now, c.in_ok-joining.ensures c.args.tree.now (sym c.count.ensures.count))

pub finish-requires : goal.finish-requires
finish-requires c = (c.args.tree.now, c.args.pairs.now, c.in_ok-enter_edges.ensures c.args.pairs.now (c.in_ok-joining.ensures c.args.tree.now (sym c.count.ensures.count)))

pub returns : goal.returns
returns c =
    classes c.args.tree.now c.args.pairs.now c.finish.new.self
    (c.in_ok-finish.ensures c.args.tree.now c.args.pairs.now (c.in_ok-enter_edges.ensures c.args.pairs.now (c.in_ok-joining.ensures c.args.tree.now (sym c.count.ensures.count))))
