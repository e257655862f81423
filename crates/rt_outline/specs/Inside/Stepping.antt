-- Steps with hints.
use Rattle.std.specs.Prelude.{◌≡◌, ℕ, ◌+◌, ◌*◌, ◌/◌, ◌%◌, ◌<◌, unsigned_abs, List, Some, slice_index_or}
use Rattle.rt_lines.specs.declared.label.Label.{Label}
use Rattle.rt_lines.specs.declared.label.Label.TheVariants.{In, Out, Load, Store, Field}
use Rattle.rt_outline.specs.Frames.{step_of}

-- which group of letters a letter is of
abbrev pub group_of : Label → ℕ
group_of Load = 0
group_of Store = 1
group_of (Out n) = 2 + n % 2
group_of (In loc) = 4
group_of (Field bits at) = 5 + unsigned_abs at % 59

-- where the hint of a node and a group is
abbrev pub place_of : ℕ → ℕ → ℕ
place_of p group = (p / 256 * 65 + group) * 256 + p % 256

-- the hint is not zero wherever a letter leads on
abbrev pub AreHinted : List ℕ → List ((ℕ × Label) × ℕ) → Type 0
AreHinted hints steps = (p : ℕ) (l : Label) (n : ℕ) → step_of steps p l ≡ Some n → 0 < slice_index_or hints (place_of p (group_of l)) 0
