-- Nodes by the classes of what they are made of, and by their letters.
use Rattle.std.specs.Prelude.{◌≡◌, ℕ, ◌<◌, List, [], Contains, Option, Some, unwrap_or}
use Rattle.std.specs.Map.{lookup}
use Rattle.rt_lines.specs.declared.label.Label.{Label}
use Rattle.rt_lines.specs.declared.label.Label.TheVariants.{In, Out, Load, Store, Field}
use Rattle.rt_shape.specs.Graphs.{letter_eq}
use Rattle.rt_outline.specs.Frames.{Origins, IsMade}
use Rattle.rt_outline.specs.Turning.{class_at}

-- the letter whose list has what is behind a letter: one for both letters of a pointer
abbrev pub kind_of : Label → Label
kind_of (In a) = In a
kind_of (Out n) = Out n
kind_of Load = Load
kind_of Store = Load
kind_of (Field w k) = Field w k

-- what is listed under a class and a letter
abbrev pub list_at : List ((ℕ × Label) × List ℕ) → ℕ × Label → List ℕ
list_at lists key = unwrap_or (lookup (letter_eq key) lists) []

-- what is listed behind a letter of nodes of a class
abbrev pub listed : List ((ℕ × Label) × List ℕ) → ℕ → Label → List ℕ
listed lists d l = list_at lists (d, kind_of l)

-- what was listed still is
abbrev pub AreKeptIn : List ((ℕ × Label) × List ℕ) → List ((ℕ × Label) × List ℕ) → Type 0
AreKeptIn old new = (key : ℕ × Label) (w : ℕ) → Contains (list_at old key) w → Contains (list_at new key) w

-- a node is listed, if it is made of one with a class
abbrev pub IsListed : Origins → List (Option ℕ) → List ((ℕ × Label) × List ℕ) → ℕ → Type 0
IsListed origins classes lists w = (q d : ℕ) (m : Label) → IsMade origins w q m → class_at classes q ≡ Some d → Contains (listed lists d m) w

-- each node before a count is
abbrev pub AreListed : Origins → List (Option ℕ) → ℕ → List ((ℕ × Label) × List ℕ) → Type 0
AreListed origins classes count lists = (w : ℕ) → w < count → IsListed origins classes lists w
