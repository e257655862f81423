-- The labels that lines name, and the ports of an instance: which existentials are for which arguments and results.
use Rattle.std.specs.Prelude.{◌≡◌, ℕ, ◌==◌, ◌&&◌, nat_eq, Bool, false, Option, Some, None, List, [], ◌∷◌, Contains, if◌then◌else◌}
use Rattle.std.specs.List.{list_any}
use Rattle.rt_lines.specs.declared.label.Label.{Label}
use Rattle.rt_lines.specs.declared.variable.Base.{Base}
use Rattle.rt_lines.specs.declared.variable.Base.TheVariants.{Proc, Global, Exist, Outer}
use Rattle.rt_lines.specs.declared.variable.Dtv.{Dtv}
use Rattle.rt_lines.specs.declared.line.Line.{Line}
use Rattle.rt_lines.specs.Equality.{label_eq}
use Rattle.rt_lines.specs.Sides.{sides}
use Rattle.rt_rules.specs.Rules.{HasSide}
use Rattle.rt_scheme.specs.Instances.{instance_ports}

-- a label has a port
abbrev pub has_port : List (Label × ℕ) → Label → Bool
has_port ports label = list_any (λ (port : Label × ℕ). label_eq port.0 label) ports

-- the label whose port is the existential of a number, if there is one
abbrev pub label_at : List (Label × ℕ) → ℕ → Option Label
label_at [] n = None
label_at ((label, m) ∷ ports) n = if m == n then Some label else label_at ports n

-- the lines name the label: an instance of them has a port for it
abbrev pub names_label : ℕ → List Line → Label → Bool
names_label own lines label = has_port (instance_ports own lines 0) label

-- the lines name the label: some variable of theirs is the own base, that label, and perhaps more
abbrev pub NamesLabel : ℕ → List Line → Label → Type 0
NamesLabel own lines label =
    (l : Line) × (x : Dtv) × (w : List Label) × Contains lines l × HasSide l x × (x.base ≡ Proc own) × (x.word ≡ label ∷ w)

-- the base is the own one, and the word begins with the label
abbrev pub begins_side : ℕ → Label → Base → List Label → Bool
begins_side own label (Proc n) [] = false
begins_side own label (Proc n) (l ∷ w) = nat_eq n own && label_eq l label
begins_side own label (Global n) w = false
begins_side own label (Exist n) w = false
begins_side own label (Outer n) w = false

abbrev pub begins_with : ℕ → Label → Dtv → Bool
begins_with own label x = begins_side own label x.base x.word

-- some side of the line does
abbrev pub line_names : ℕ → Label → Line → Bool
line_names own label line = list_any (begins_with own label) (sides line)
