-- There are unfolded lists, and only one of each procedure.
use Rattle.std.specs.Prelude.{◌≡◌, ℕ, ◌<◌, List, [], get_or, length, Contains}
use Rattle.rt_lines.specs.declared.line.Line.{Line}
use Rattle.rt_unfold.specs.Unfolded.{Template, AreTemplates, AreUnfolded}

-- no procedure stands in two groups
abbrev pub AreApart : List (List ℕ) → Type 0
AreApart groups =
    (j k p : ℕ) → j < length groups → k < length groups → Contains (get_or groups j []) p →
    Contains (get_or groups k []) p → j ≡ k

-- there are unfolded lists
abbrev pub ThereLaw : Type 0
ThereLaw =
    (groups : List (List ℕ)) (templates : ℕ → Template) → AreTemplates groups templates → AreApart groups →
    (unfolded : ℕ → List Line) × AreUnfolded groups templates unfolded

-- a procedure of the groups has only one
abbrev pub OneLaw : Type 0
OneLaw =
    (groups : List (List ℕ)) (templates : ℕ → Template) (first second : ℕ → List Line) → AreTemplates groups templates →
    AreUnfolded groups templates first → AreUnfolded groups templates second →
    (group : List ℕ) (p : ℕ) → Contains groups group → Contains group p → first p ≡ second p
