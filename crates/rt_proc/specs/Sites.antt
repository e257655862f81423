-- The sites of a procedure, where entries are the places of all procedures in the order of their numbers, and `own` is
-- the entry of this one.
use Rattle.std.specs.Prelude.{◌≡◌, ℕ, ◌+◌, ◌&&◌, not, Bool, Option, is_some, unwrap_or, List, [], ◌∷◌, length, map, filter, if◌then◌else◌}
use Rattle.std.specs.List.{list_any}
use Rattle.rt_link.specs.Effects.{is_place}
use Rattle.rt_link.specs.declared.place.Place.{Place}
use Rattle.rt_control.specs.declared.form.Called.{Called}
use Rattle.rt_control.specs.declared.form.Called.TheVariants as called
use Rattle.rt_control.specs.declared.form.Form.{Form}
use Rattle.rt_control.specs.declared.form.Form.TheVariants as form
use Rattle.rt_control.specs.declared.form.Target.{Target}
use Rattle.rt_control.specs.declared.form.Target.TheVariants as target
use Rattle.rt_control.specs.declared.form.Way.{Way}
use Rattle.rt_control.specs.declared.form.Way.TheVariants.{Leave}
use Rattle.rt_proc.specs.declared.site.Callee.{Callee}
use Rattle.rt_proc.specs.declared.site.Callee.TheVariants.{Proc, Extern, Unknown}
use Rattle.rt_proc.specs.declared.site.Kind.{Kind}
use Rattle.rt_proc.specs.declared.site.Kind.TheVariants.{Plain, Call, Return, Stop}
use Rattle.rt_proc.specs.declared.site.Site.{Site}
use Rattle.rt_proc.specs.Steps.{way_steps, steps}

-- the number of the procedure that is entered at a place
abbrev pub number_of : List Place → Place → ℕ
number_of [] place = 0
number_of (entry ∷ entries) place = if is_place entry place then 0 else number_of entries place + 1

-- the place is an entry
abbrev pub is_entry : List Place → Place → Bool
is_entry entries place = list_any (λ entry. is_place entry place) entries

-- the place is the entry of another procedure
abbrev pub is_other : List Place → Place → Place → Bool
is_other entries own place = is_entry entries place && not (is_place place own)

-- what a look-up of a place among entries answers: its number, or none where it is no entry
pub record IsIndex (entries : List Place) (place : Place) (index : Option ℕ) : Type 0 where
  pub found : is_some index ≡ is_entry entries place
  pub number : unwrap_or index (length entries) ≡ number_of entries place

-- whom a call calls
abbrev pub callee_of : List Place → Called → Callee
callee_of entries (called.Code place) = Proc (number_of entries place)
callee_of entries (called.Outside symbol) = Extern symbol
callee_of entries (called.Register register) = Unknown register

-- where a far call goes on that keeps no return address
abbrev pub target_of : List Place → Target → Callee
target_of entries (target.Code place) = Proc (number_of entries place)
target_of entries (target.Outside symbol) = Extern symbol

abbrev pub kind_of : List Place → Form → Kind
kind_of entries (form.Plain insn way) = Plain insn
kind_of entries (form.Call callee link after) = Call (callee_of entries callee) link
kind_of entries (form.Tail leads) = Stop
kind_of entries form.Return = Return
kind_of entries form.Stop = Stop

-- the steps that stay in the body: to no entry of another procedure
abbrev pub next_of : List Place → Place → Form → List Place
next_of entries own form = filter (λ place. not (is_other entries own place)) (steps form)

-- the steps that leave the body: to the entries of other procedures, which are tail calls of these
abbrev pub step_tails : List Place → Place → List Place → List Callee
step_tails entries own places = map (λ place. Proc (number_of entries place)) (filter (is_other entries own) places)

-- where an instruction leaves the body
abbrev pub way_tails : List Place → Place → Way → List Callee
way_tails entries own (Leave symbol) = Extern symbol ∷ []
way_tails entries own way = step_tails entries own (way_steps way)

-- the tail calls of a site. A call whose continuation is the entry of another procedure has none: its path ends there
abbrev pub tails_of : List Place → Place → Form → List Callee
tails_of entries own (form.Plain insn way) = way_tails entries own way
tails_of entries own (form.Call callee link after) = []
tails_of entries own (form.Tail leads) = target_of entries leads ∷ []
tails_of entries own form.Return = []
tails_of entries own form.Stop = []

abbrev pub site_of : List Place → Place → Place → Form → Site
site_of entries own place form = record {
  place = place;
  kind = kind_of entries form;
  next = next_of entries own form;
  tails = tails_of entries own form;
}
