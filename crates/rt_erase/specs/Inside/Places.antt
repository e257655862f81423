-- Where the edges of loads and stores stand among the edges of a node: parts of the way to what a pointer leads to.
use Rattle.std.specs.Prelude.{ℕ, Bool, true, false, Option, Some, None, if◌then◌else◌}
use Rattle.rt_lines.specs.declared.label.Label.{Label}
use Rattle.rt_lines.specs.declared.label.Label.TheVariants.{In}
use Rattle.rt_lines.specs.Equality.{label_eq}

-- whether a label is that of an argument
abbrev pub is_argument : Label → Bool
is_argument (In l) = true
is_argument other = false

-- the end of an edge, where it has the label
abbrev pub end_of : Label → Option (Label × ℕ) → Option ℕ
end_of label None = None
end_of label (Some edge) = if label_eq label edge.0 then Some edge.1 else None
