use Rattle.std.proofs.Common.{◌≡◌, ◌++◌, map, take, drop, slice_index}
use Rattle.rt_shape.specs.Inside.Classes.{renamed_class}
use Rattle.rt_shape.proofs.closing.rename.Given as goal

abbrev pub invariant-loop-c : goal.invariant-loop-c
invariant-loop-c l =
    l.class ≡ map (renamed_class (slice_index l.fn.class l.i) (slice_index l.fn.class l.j)) (take l.c-index l.fn.class) ++ drop l.c-index l.fn.class
