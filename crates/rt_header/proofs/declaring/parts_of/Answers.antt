use Rattle.std.proofs.Common.{ℕ, ◌<◌, List, length, get_or, ◌≡◌, ap, subst}
use Rattle.rt_tree.specs.Trees.{Nodes}
use Rattle.rt_cdecl.specs.GoodDecls.{function_numbers}
use Rattle.rt_header.proofs.Joined.{begins, ends, numbers_all, numbers_taken, tree_each, tree_left}
use Rattle.rt_header.proofs.declaring.parts_of.Goals as goal

pub loop-sketch-init : goal.loop-sketch-init
loop-sketch-init c = record {
  declared = begins c.args.forest.now c.in_ok-making.making.structs.items c.in_ok-making.making.numbers.items c.new-structs.result c.new-functions.result
      c.in_ok-making.ensures.making c.in_ok-making.ensures.none c.new-structs.ensures c.new-functions.ensures;
  numbers = ap function_numbers c.new-functions.ensures;
}

pub declare-requires-clause-tree : goal.declare-requires-clause-tree
declare-requires-clause-tree c =
    tree_left c.args.forest.now c.loop-sketch.functions c.args.sketches.now c.items-sketch-items.result.now c.loop-sketch.sketch-index
    c.items-sketch-items.ensures c.loop-sketch-test.true c.loop-sketch.invariant.numbers c.requires

pub loop-sketch-preserved : goal.loop-sketch-preserved
loop-sketch-preserved c =
    let i = c.loop-sketch.sketch-index in
    let all = c.args.sketches.now in
    record {
      declared = c.in_ok-declare.ensures.declared;
      numbers = numbers_taken all i c.sketch-item.result (function_numbers c.loop-sketch.functions) (function_numbers c.declare.new.functions)
          (subst (λ (xs : List (ℕ × Nodes)). i < length xs) c.items-sketch-items.ensures c.loop-sketch-test.true)
          (subst (λ (xs : List (ℕ × Nodes)). c.sketch-item.result ≡ get_or xs i c.sketch-item.result) c.items-sketch-items.ensures c.sketch-item.is)
          c.loop-sketch.invariant.numbers c.in_ok-declare.ensures.number;
    }

pub returns-clause-numbers : goal.returns-clause-numbers
returns-clause-numbers c =
    numbers_all c.loop-sketch.functions c.args.sketches.now c.items-sketch-items.result.now c.loop-sketch.sketch-index
    c.items-sketch-items.ensures c.loop-sketch-test.false c.loop-sketch.invariant.numbers

pub returns-clause-whole : goal.returns-clause-whole
returns-clause-whole c =
    let numbers = numbers_all c.loop-sketch.functions c.args.sketches.now c.items-sketch-items.result.now c.loop-sketch.sketch-index
    c.items-sketch-items.ensures c.loop-sketch-test.false c.loop-sketch.invariant.numbers in
    ends c.args.forest.now c.loop-sketch.making.structs.items c.loop-sketch.making.numbers.items c.loop-sketch.structs c.loop-sketch.functions
    c.loop-sketch.invariant.declared (tree_each c.args.forest.now c.loop-sketch.functions c.args.sketches.now numbers c.requires)
