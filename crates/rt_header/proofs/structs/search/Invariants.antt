use Rattle.std.proofs.Common.{◌-◌, length}
use Rattle.rt_header.specs.Inside.Built.{HasMore, IsMaking}
use Rattle.rt_header.specs.Inside.Made.{AreMade, HasSearched}
use Rattle.rt_header.proofs.structs.search.Given as goal

abbrev pub invariant-loop-alloc : goal.invariant-loop-alloc
invariant-loop-alloc l = record {
  making : IsMaking l.forest l.making.structs.items l.making.numbers.items;
  more : HasMore l.fn.making.structs.items l.making.structs.items;
  made : AreMade l.forest l.making.structs.items l.made;
  searched : HasSearched l.fn.made l.made (length l.fn.making.structs.items) (length l.making.structs.items);
}

-- numbers of 32 bits that no struct has yet
abbrev pub decreases-loop-alloc : goal.decreases-loop-alloc
decreases-loop-alloc l = 4294967296 - length l.made
