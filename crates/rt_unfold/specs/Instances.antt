-- Instances of lines by a port for each label and a new existential for each of theirs.
use Rattle.std.specs.Prelude.{◌≡◌, ℕ, nat_eq, Bool, true, if◌then◌else◌, List, [], ◌∷◌, ◌++◌, map}
use Rattle.rt_lines.specs.declared.label.Label.{Label}
use Rattle.rt_lines.specs.declared.variable.Base.{Base}
use Rattle.rt_lines.specs.declared.variable.Base.TheVariants.{Proc, Global, Exist, Outer}
use Rattle.rt_lines.specs.declared.variable.Dtv.{Dtv}
use Rattle.rt_lines.specs.declared.line.Line.{Line}
use Rattle.rt_lines.specs.Sides.{map_line}
use Rattle.rt_lines.specs.Orders.{Below}
use Rattle.rt_rules.specs.Alike.{Alike, is_inside_for}
use Rattle.rt_rules.specs.Laws.{NamesBase}
use Rattle.rt_scheme.specs.Schemes.{AreSchemeLines}

-- a variable in an instance: the own argument or result of a label has become the label's port, an existential its new one
abbrev pub instance_side : ℕ → (Label → ℕ) → (ℕ → ℕ) → Base → List Label → Dtv
instance_side own port new (Proc n) [] = record { base = Proc n; word = [] }
instance_side own port new (Proc n) (l ∷ w) =
    if nat_eq n own then record { base = Exist (port l); word = w } else record { base = Proc n; word = l ∷ w }
instance_side own port new (Global n) w = record { base = Global n; word = w }
instance_side own port new (Exist n) w = record { base = Exist (new n); word = w }
instance_side own port new (Outer n) w = record { base = Outer n; word = w }

abbrev pub instance_variable : ℕ → (Label → ℕ) → (ℕ → ℕ) → Dtv → Dtv
instance_variable own port new x = instance_side own port new x.base x.word

-- the lines of the instance
abbrev pub instance_by : ℕ → (Label → ℕ) → (ℕ → ℕ) → List Line → List Line
instance_by own port new lines = map (map_line (instance_variable own port new)) lines

-- The lines of a procedure have an instance beside other lines: each label has a port of its own, each existential that the
-- lines name a new one of its own, which is no port and which the other lines do not name.
pub record IsInstancing (port : Label → ℕ) (lines rest : List Line) (new : ℕ → ℕ) : Type 0 where
  pub one_port : (l m : Label) → port l ≡ port m → l ≡ m
  pub one_new : (m n : ℕ) → NamesBase lines (Exist m) → NamesBase lines (Exist n) → new m ≡ new n → m ≡ n
  pub no_port : (n : ℕ) (l : Label) → NamesBase lines (Exist n) → new n ≡ port l → ⊥
  pub unnamed : (n : ℕ) → NamesBase lines (Exist n) → NamesBase rest (Exist (new n)) → ⊥

-- Whoever has an instance of a procedure's lines beside lines that do not name the procedure, may have one of lines alike
-- to them in its place, by the same ports.
abbrev pub InstanceLaw : Type 0
InstanceLaw =
    (order : Below) (inside : Base → Bool) (own : ℕ) (port : Label →
    ℕ) (first second rest : List Line) (forth onward : ℕ → ℕ) →
    AreSchemeLines own first → AreSchemeLines own second → Alike order (is_inside_for own) first second →
    IsInstancing port first rest forth → IsInstancing port second rest onward →
    inside (Proc own) ≡ true → ((n : ℕ) → inside (Exist n) ≡ true) → (NamesBase rest (Proc own) → ⊥) →
    Alike order inside (rest ++ instance_by own port forth first) (rest ++ instance_by own port onward second)
