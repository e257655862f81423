use Rattle.std.proofs.Common.{◌≡◌, fold}
use Rattle.std.specs.List.{flat_map}
use Rattle.indexmap.specs.IndexSet.{insert_key}
use Rattle.rt_lines.specs.Equality.{base_eq}
use Rattle.rt_lines.specs.Sides.{sides}
use Rattle.rt_lines.specs.SidesLeft.{sides_left}
use Rattle.rt_emit.specs.Inside.Bases.{fixed_base}
use Rattle.rt_emit.proofs.bases.note_all_fixed.Given as goal

abbrev pub invariant-loop-x : goal.invariant-loop-x
invariant-loop-x l =
    fold (insert_key base_eq) l.bases.keys (flat_map (λ x. fixed_base x.base) (sides_left l.x-iterator))
    ≡ fold (insert_key base_eq) l.fn.bases.keys (flat_map (λ x. fixed_base x.base) (sides l.line))
