use Rattle.std.proofs.Common.{length}
use Rattle.rt_tree.specs.Trees.{Stand}
use Rattle.rt_header.specs.Inside.Built.{HasMore, IsMaking}
use Rattle.rt_header.specs.Inside.Ports.{AreTyped, structs_of_arguments}
use Rattle.rt_header.proofs.function.typed.Given as goal

abbrev pub invariant-loop-index : goal.invariant-loop-index
invariant-loop-index l = record {
  making : IsMaking l.forest l.making.structs.items l.making.numbers.items;
  more : HasMore l.fn.making.structs.items l.making.structs.items;
  typed : AreTyped l.forest l.making.structs.items l.i l.nodes l.index l.args.items;
  stands : Stand (length l.fn.making.structs.items) (structs_of_arguments l.args.items) (length l.making.structs.items);
}
