use Rattle.std.proofs.Common.{◌≡◌, [], fold, take}
use Rattle.std.specs.List.{flat_map}
use Rattle.indexmap.specs.IndexSet.{insert_key}
use Rattle.rt_lines.specs.Equality.{base_eq}
use Rattle.rt_emit.specs.Inside.Bases.{existential_bases, fixed_bases}
use Rattle.rt_emit.proofs.bases.kept_bases.Given as goal

abbrev pub invariant-loop-line : goal.invariant-loop-line
invariant-loop-line l = l.bases.keys ≡ fold (insert_key base_eq) [] (flat_map existential_bases (take l.line-index l.flow))

abbrev pub invariant-loop-line-2 : goal.invariant-loop-line-2
invariant-loop-line-2 l = l.bases.keys ≡ fold (insert_key base_eq) (fold (insert_key base_eq) [] (flat_map existential_bases l.flow))
    (flat_map fixed_bases (take l.line-index l.lines))
