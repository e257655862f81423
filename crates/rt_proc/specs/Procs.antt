-- The procedures of an object.
use Rattle.std.specs.Prelude.{◌≡◌, ◌↔◌, ℕ, ◌&&◌, Bool, Ok, All, Contains, List, [], map, find, Option, Some, None, unwrap_or, if◌then◌else◌}
use Rattle.std.specs.Option.{option_map}
use Rattle.rt_elf.specs.Parts.{Parts as Object}
use Rattle.rt_elf.specs.declared.symbol.Symbol.{Symbol}
use Rattle.rt_link.specs.Effects.{is_place}
use Rattle.rt_link.specs.declared.place.Place.{Place}
use Rattle.rt_control.specs.declared.form.Form.{Form}
use Rattle.rt_proc.specs.Ends.{IsLookAt}
use Rattle.rt_proc.specs.declared.proc.Proc.{Proc}
use Rattle.rt_proc.specs.declared.site.Site.{Site}
use Rattle.rt_proc.specs.Bodies.{IsInBody}
use Rattle.rt_proc.specs.Entries.{is_function, place_of, IsEntry}
use Rattle.rt_proc.specs.Order.{AreAscending}
use Rattle.rt_proc.specs.Sites.{site_of}

-- a function at a place
abbrev pub is_function_at : Object → Place → Symbol → Bool
is_function_at object place symbol = is_function object symbol && is_place (place_of symbol) place

-- the name of a symbol, if it is a function at a place
abbrev pub name_there : Object → Symbol → Place → Option (List ℕ)
name_there object symbol place = if is_function_at object place symbol then Some symbol.name else None

-- the name of the first function at a place among some symbols of an object, if there is one
abbrev pub name_of_first : Object → List Symbol → Place → Option (List ℕ)
name_of_first object symbols place = option_map (λ symbol. symbol.name) (find (is_function_at object place) symbols)

-- the name of the first function at a place in the symbol table, and the empty name where there is none
abbrev pub name_at : Object → Place → List ℕ
name_at object place = unwrap_or (name_of_first object object.symbols place) []

-- the places of sites, and the entries of procedures
abbrev pub places_of : List Site → List Place
places_of sites = map (λ site. site.place) sites

abbrev pub entries_of : List Proc → List Place
entries_of procs = map (λ proc. proc.entry) procs

-- a site of the procedure that is entered at `own`, as the object has it
pub record IsSite (object : Object) (ends : List ℕ) (entries : List Place) (own : Place) (site : Site) : Type 0 where
  pub form : Form
  pub is_at : IsLookAt object ends site.place (Ok form)
  pub is_site : site ≡ site_of entries own site.place form

-- a procedure of an object: its sites are those of its body
pub record IsProc (object : Object) (ends : List ℕ) (entries : List Place) (proc : Proc) : Type 0 where
  pub name : proc.name ≡ name_at object proc.entry
  pub ascending : AreAscending (places_of proc.sites)
  pub body : (place : Place) → Contains (places_of proc.sites) place ↔ IsInBody object ends proc.entry place
  pub sites : All (IsSite object ends entries proc.entry) proc.sites

-- the procedures of an object: one for each entry
pub record AreProcs (object : Object) (ends : List ℕ) (procs : List Proc) : Type 0 where
  pub ascending : AreAscending (entries_of procs)
  pub entries : (place : Place) → Contains (entries_of procs) place ↔ IsEntry object ends place
  pub each : All (IsProc object ends (entries_of procs)) procs
