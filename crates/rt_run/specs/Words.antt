-- The words after the program's name.
use Rattle.std.specs.Prelude.{◌==◌, ◌&&◌, not, ℕ, nat_eq, Bool, false, Option, Some, None, is_none, List, [], ◌∷◌, if◌then◌else◌, codes}
use lib.Pointwise.{pointwise}
use Rattle.rt_run.specs.declared.content.Content.{Content}
use Rattle.rt_run.specs.declared.content.Content.TheVariants.{Header, Lines, Sketches}
use Rattle.rt_run.specs.declared.content.Told.TheVariants.{Constraints, Schemes}

-- the files that options name: a lattice, and the signatures of functions outside
pub record Options : Type 0 where
  pub lattice : Option (List ℕ)
  pub signatures : Option (List ℕ)

-- what the words ask for
pub data Command : Type 0 where
  -- what is written of the object of a name
  Report : Content → Options → List ℕ → Command
  -- whether the judgement, the last text, is derivable from the lines of the file of a name, with the constants of a lattice
  Entail : Option (List ℕ) → List ℕ → List ℕ → Command

-- the word is this text
abbrev pub is_text : List ℕ → List ℕ → Bool
is_text word text = pointwise nat_eq word text

-- a word that may be an argument: not empty, and not begun by a dash
abbrev pub is_argument : List ℕ → Bool
is_argument [] = false
is_argument (first ∷ rest) = not (first == 45)

-- the words after such a command: options, each at most once, and then the object
abbrev pub report_of : Content → Options → List (List ℕ) → Option Command
report_of content options [] = None
report_of content options (object ∷ []) = if is_argument object then Some (Report content options object) else None
report_of content options (word ∷ file ∷ rest) =
    if is_text word (codes "--lattice") && (is_none options.lattice && is_argument file)
    then report_of content (record options { lattice = Some file }) rest else
    if is_text word (codes "--signatures") && (is_none options.signatures && is_argument file)
    then report_of content (record options { signatures = Some file }) rest else None

-- the last two words of `entail`
abbrev pub entail_by : Option (List ℕ) → List ℕ → List ℕ → Option Command
entail_by lattice file judgement = if is_argument file && is_argument judgement then Some (Entail lattice file judgement) else None

-- the words of `entail`: a lattice, if one is named, the file and the judgement
abbrev pub entail_of : List (List ℕ) → Option Command
entail_of (file ∷ judgement ∷ []) = entail_by None file judgement
entail_of (word ∷ lattice ∷ file ∷ judgement ∷ []) =
    if is_text word (codes "--lattice") && is_argument lattice then entail_by (Some lattice) file judgement else None
entail_of words = None

-- no options
abbrev pub no_options : Options
no_options = record { lattice = None; signatures = None }

-- the command of the words: `constraints OPTIONS OBJECT`, `schemes OPTIONS OBJECT`, `sketches OPTIONS OBJECT`,
-- `header OPTIONS OBJECT` or `entail [--lattice FILE] FILE JUDGEMENT`, where OPTIONS are `--lattice FILE` and `--signatures FILE`
abbrev pub command_of : List (List ℕ) → Option Command
command_of [] = None
command_of (word ∷ words) =
    if is_text word (codes "constraints") then report_of (Lines Constraints) no_options words else
    if is_text word (codes "schemes") then report_of (Lines Schemes) no_options words else
    if is_text word (codes "sketches") then report_of Sketches no_options words else
    if is_text word (codes "header") then report_of Header no_options words else
    if is_text word (codes "entail") then entail_of words else None

-- the files that a command reads, in this order: the lattice and the signatures, where they are named, and then its own files, from 0
pub data Step : Type 0 where
  OfLattice : Step
  OfSignatures : Step
  OfInput : ℕ → Step

abbrev pub lattice_of : Command → Option (List ℕ)
lattice_of (Report content options object) = options.lattice
lattice_of (Entail lattice file judgement) = lattice

abbrev pub signatures_of : Command → Option (List ℕ)
signatures_of (Report content options object) = options.signatures
signatures_of (Entail lattice file judgement) = None

-- the names of a command's own files, in the order in which it reads them
abbrev pub inputs_of : Command → List (List ℕ)
inputs_of (Report content options object) = object ∷ []
inputs_of (Entail lattice file judgement) = file ∷ []
