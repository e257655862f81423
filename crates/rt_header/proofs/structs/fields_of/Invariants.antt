use Rattle.std.proofs.Common.{All, length, take}
use Rattle.rt_tree.specs.Trees.{Stand}
use Rattle.rt_cdecl.specs.Types.{IsField}
use Rattle.rt_header.specs.Inside.Built.{AreFieldsOf, HasMore, IsMaking}
use Rattle.rt_header.specs.Met.{structs_of_fields}
use Rattle.rt_header.proofs.structs.fields_of.Given as goal

abbrev pub invariant-loop-row : goal.invariant-loop-row
invariant-loop-row l = record {
  making : IsMaking l.forest l.making.structs.items l.making.numbers.items;
  more : HasMore l.fn.making.structs.items l.making.structs.items;
  built : AreFieldsOf l.forest l.making.structs.items l.i (take l.row-index l.rows) l.fields.items;
  good : All IsField l.fields.items;
  stands : Stand (length l.fn.making.structs.items) (structs_of_fields l.fields.items) (length l.making.structs.items);
}
