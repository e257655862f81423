-- An object's procedures, what is known of their registers, and the signatures of functions outside.
use Rattle.std.specs.Prelude.{◌≡◌, ℕ, Some, List, [], ◌∷◌, ◌++◌, Option, Bool, true, false, slice_get, length, get_or, ◌<◌}
use Rattle.rt_lines.specs.declared.label.Label.{Label}
use Rattle.rt_elf.specs.Parts.{Parts as Object}
use Rattle.rt_proc.specs.declared.proc.Proc.{Proc}
use Rattle.rt_proc.specs.declared.site.Callee.{Callee}
use Rattle.rt_proc.specs.declared.site.Kind.{Kind}
use Rattle.rt_proc.specs.declared.site.Kind.TheVariants as kind
use Rattle.rt_proc.specs.declared.site.Site.{Site}
use Rattle.rt_body.specs.Readings.{Reading}
use Rattle.rt_body.specs.Right.{IsReading}
use Rattle.rt_body.specs.Symbols.{symbol_of}
use Rattle.rt_scheme.specs.declared.scheme.Scheme.{Scheme}
use Rattle.rt_scheme.specs.Ports.{names_label}
use Rattle.rt_sigs.specs.Signatures.{Signature, signature_of, args_of}

-- an object with its procedures, what is known of the registers of each, and signatures
pub record Program : Type 0 where
  pub object : Object
  pub procs : List Proc
  pub readings : List Reading
  pub signatures : List Signature

-- what is known of the registers of each procedure is true
pub record IsProgram (program : Program) : Type 0 where
  pub one_each : length program.readings ≡ length program.procs
  pub readings : (q : ℕ) (proc : Proc) (reading : Reading) → q < length program.procs
      → IsReading program.object (get_or program.procs q proc) (get_or program.readings q reading)

-- a site of the procedure of a number, by its number, with what is known of the procedure's registers
pub record IsSiteOf (program : Program) (q s : ℕ) (reading : Reading) (site : Site) : Type 0 where
  pub proc : Proc
  pub is_proc : slice_get program.procs q ≡ Some proc
  pub is_reading : slice_get program.readings q ≡ Some reading
  pub is_site : slice_get proc.sites s ≡ Some site

-- whom a site calls, and in whom it goes on for good
abbrev pub called_by : Kind → List Callee
called_by (kind.Call callee link) = callee ∷ []
called_by other = []

abbrev pub callees_of : Site → List Callee
callees_of site = called_by site.kind ++ site.tails

-- the site is a call
abbrev pub is_call : Kind → Bool
is_call (kind.Call callee link) = true
is_call other = false

-- the signature of the function outside that a symbol names, if there is one
abbrev pub signature_at : Program → ℕ → Option Scheme
signature_at program symbol = signature_of program.signatures (symbol_of program.object symbol).name

-- how many argument registers it takes, where its signature says so
abbrev pub args_at : Program → ℕ → Option ℕ
args_at program symbol = args_of program.signatures (symbol_of program.object symbol).name

-- there is one, and it names an argument or a result
abbrev pub IsSigned : Program → ℕ → Label → Type 0
IsSigned program symbol label =
    (scheme : Scheme) × (signature_at program symbol ≡ Some scheme) × (names_label scheme.base scheme.lines label ≡ true)

-- there is one, and it says of how many argument registers from a0 on the function takes each, of which one has the number n
abbrev pub IsCounted : Program → ℕ → ℕ → Type 0
IsCounted program symbol n = (count : ℕ) × (args_at program symbol ≡ Some count) × (n < count)
