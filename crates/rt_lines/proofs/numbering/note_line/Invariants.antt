use Rattle.std.proofs.Common.{◌≡◌, fold, nat_eq}
use Rattle.std.specs.List.{flat_map}
use Rattle.indexmap.specs.IndexSet.{insert_key}
use Rattle.rt_lines.specs.Numbering.{existential_of}
use Rattle.rt_lines.specs.Sides.{sides}
use Rattle.rt_lines.specs.SidesLeft.{sides_left}
use Rattle.rt_lines.proofs.numbering.note_line.Given as goal

abbrev pub invariant-loop-x : goal.invariant-loop-x
invariant-loop-x l =
    fold (insert_key nat_eq) l.found.keys (flat_map (λ x. existential_of x.base) (sides_left l.x-iterator))
    ≡ fold (insert_key nat_eq) l.fn.found.keys (flat_map (λ x. existential_of x.base) (sides l.line))
