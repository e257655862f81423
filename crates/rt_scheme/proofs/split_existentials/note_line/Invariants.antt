use Rattle.std.proofs.Common.{◌≡◌, fold}
use Rattle.std.specs.List.{flat_map}
use Rattle.indexmap.specs.IndexSet.{insert_key}
use Rattle.rt_lines.specs.Sides.{sides}
use Rattle.rt_lines.specs.SidesLeft.{sides_left}
use Rattle.rt_scheme.specs.SplitExistentials.{interface_eq, is_other}
use Rattle.rt_scheme.specs.Splitting.{interface_of}
use Rattle.rt_scheme.proofs.split_existentials.note_line.Given as goal

abbrev pub invariant-loop-x : goal.invariant-loop-x
invariant-loop-x l =
    fold (insert_key interface_eq) l.found.keys (flat_map (λ x. interface_of (is_other l.own) x.base x.word) (sides_left l.x-iterator))
    ≡ fold (insert_key interface_eq) l.fn.found.keys (flat_map (λ x. interface_of (is_other l.own) x.base x.word) (sides l.line))
