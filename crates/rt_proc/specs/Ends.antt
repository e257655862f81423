-- What a look at a place finds, where some functions outside don't return.
use Rattle.std.specs.Prelude.{◌≡◌, ◌==◌, ℕ, Bool, false, Option, None, Result, Ok, Err, List, if◌then◌else◌}
use Rattle.std.specs.List.{list_any}
use Rattle.rt_elf.specs.Parts.{Parts as Object}
use Rattle.rt_link.specs.declared.place.Place.{Place}
use Rattle.rt_control.specs.declared.fault.SiteFault.{SiteFault}
use Rattle.rt_control.specs.declared.form.Called.{Called}
use Rattle.rt_control.specs.declared.form.Called.TheVariants as called
use Rattle.rt_control.specs.declared.form.Form.{Form}
use Rattle.rt_control.specs.declared.form.Form.TheVariants.{Plain, Call, Tail, Return, Stop}
use Rattle.rt_control.specs.Sites.{IsAt}

-- Everywhere `ends` lists the undefined symbols whose functions don't return.

-- what is called is such a function
abbrev pub is_end : List ℕ → Called → Bool
is_end ends (called.Code place) = false
is_end ends (called.Outside symbol) = list_any (λ end. end == symbol) ends
is_end ends (called.Register register) = false

-- the continuation of a call: that of such a function has none
abbrev pub after_call : List ℕ → Called → Option Place → Option Place
after_call ends callee after = if is_end ends callee then None else after

-- what a site does, where the path of a call of such a function ends there
abbrev pub ended : List ℕ → Form → Form
ended ends (Plain insn way) = Plain insn way
ended ends (Call callee link after) = Call callee link (after_call ends callee after)
ended ends (Tail leads) = Tail leads
ended ends Return = Return
ended ends Stop = Stop

-- what the site at a place does, or its fault
abbrev pub Look : Type 0
Look = Result Form SiteFault

abbrev pub ended_look : List ℕ → Look → Look
ended_look ends (Ok form) = Ok (ended ends form)
ended_look ends (Err fault) = Err fault

-- the site at a good place of an object does this, with the paths that end, or has this fault
pub record IsLookAt (object : Object) (ends : List ℕ) (place : Place) (look : Look) : Type 0 where
  pub found : Look
  pub is_at : IsAt object place found
  pub is_ended : look ≡ ended_look ends found
