-- Lists alike name the same labels.
use Rattle.std.specs.Prelude.{◌≡◌, ℕ, List, Contains}
use Rattle.rt_lines.specs.declared.label.Label.{Label}
use Rattle.rt_lines.specs.declared.line.Line.{Line}
use Rattle.rt_lines.specs.Orders.{Below}
use Rattle.rt_rules.specs.Alike.{Alike, is_inside_for}
use Rattle.rt_scheme.specs.Ports.{names_label}
use Rattle.rt_scheme.specs.Splitting.{AreInterfaceLines}
use Rattle.rt_scheme.specs.SplitExistentials.{split_for}
use Rattle.rt_unfold.specs.Unfolded.{Template, AreTemplates, AreSolvedBy, AreUnfolded}

-- two lists alike for a procedure name the same of its arguments and results
abbrev pub LabelsLaw : Type 0
LabelsLaw =
    (order : Below) (q : ℕ) (first second : List Line) → AreInterfaceLines first → AreInterfaceLines second
    → Alike order (is_inside_for q) first second →
    (l : Label) → names_label q first l ≡ names_label q second l

-- so do the unfolded list of a procedure, with an existential for each argument and result of other procedures, and its scheme: an instance
-- of the one has the ports of an instance of the other
abbrev pub UnfoldedLabelsLaw : Type 0
UnfoldedLabelsLaw =
    (order : Below) (groups : List (List ℕ)) (templates : ℕ → Template) (schemes unfolded : ℕ → List Line) →
    AreTemplates groups templates → AreSolvedBy order groups templates schemes → AreUnfolded groups templates unfolded →
    (group : List ℕ) (p : ℕ) → Contains groups group → Contains group p → (l : Label)
    → names_label p (split_for p (unfolded p)) l ≡ names_label p (schemes p) l
