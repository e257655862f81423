use Rattle.std.proofs.Common.{◌≡◌, ℕ, map, take}
use Rattle.rt_tree.specs.Trees.{Nodes}
use Rattle.rt_cdecl.specs.GoodDecls.{function_numbers}
use Rattle.rt_header.specs.Inside.Whole.{AreDeclared}
use Rattle.rt_header.proofs.declaring.parts_of.Given as goal

abbrev pub invariant-loop-sketch : goal.invariant-loop-sketch
invariant-loop-sketch l = record {
  declared : AreDeclared l.forest l.making.structs.items l.making.numbers.items l.structs l.functions;
  numbers : function_numbers l.functions ≡ map (λ (s : ℕ × Nodes). s.0) (take l.sketch-index l.fn.sketches);
}
