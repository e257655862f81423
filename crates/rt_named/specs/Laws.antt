-- Laws of named variables.
use Rattle.std.specs.Prelude.{◌≡◌, ◌≢◌, ◌⊎◌, ◌↔◌, List, Contains, AllPairs}
use Rattle.rt_lines.specs.declared.label.Label.{Label}
use Rattle.rt_lines.specs.declared.variable.Dtv.{Dtv}
use Rattle.rt_lines.specs.declared.line.Line.{Line}
use Rattle.rt_rules.specs.Rules.{extended, HasSide}
use Rattle.rt_named.specs.Naming.{named}

-- the second variable is the first, or it with more letters
abbrev pub IsPrefix : Dtv → Dtv → Type 0
IsPrefix x y = (w : List Label) × (extended x w ≡ y)

-- a side of a line, or one of the other variables
abbrev pub IsGiven : List Line → List Dtv → Dtv → Type 0
IsGiven lines extra y = ((l : Line) × Contains lines l × HasSide l y) ⊎ Contains extra y

-- named are the prefixes of what is given, and nothing else
abbrev pub ContentsLaw : Type 0
ContentsLaw = (lines : List Line) (extra : List Dtv) (x : Dtv) → Contains (named lines extra) x ↔
    ((y : Dtv) × IsGiven lines extra y × IsPrefix x y)

-- each once
abbrev pub OnceLaw : Type 0
OnceLaw = (lines : List Line) (extra : List Dtv) → AllPairs (λ x y. x ≢ y) (named lines extra)
