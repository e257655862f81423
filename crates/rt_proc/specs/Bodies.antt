-- The bodies of procedures.
use Rattle.std.specs.Prelude.{◌≡◌, ◌↔◌, ℕ, Ok, All, Contains, List}
use Rattle.rt_elf.specs.Parts.{Parts as Object}
use Rattle.rt_link.specs.declared.place.Place.{Place}
use Rattle.rt_control.specs.declared.form.Form.{Form}
use Rattle.rt_control.specs.Laws.{IsGood}
use Rattle.rt_proc.specs.Ends.{IsLookAt}
use Rattle.rt_proc.specs.Entries.{IsEntry}
use Rattle.rt_proc.specs.Order.{AreAscending}
use Rattle.rt_proc.specs.Steps.{steps}
use Rattle.rt_proc.specs.Walks.{Walk}

-- the site at a place has no fault, and it steps to the other place, which isn't the entry of another procedure than
-- the one that is entered at `own`
pub record StepsTo (object : Object) (ends : List ℕ) (own from to : Place) : Type 0 where
  pub form : Form
  pub is_at : IsLookAt object ends from (Ok form)
  pub steps : Contains (steps form) to
  pub stays : IsEntry object ends to → to ≡ own

-- what such steps lead to from an entry
abbrev pub IsInBody : Object → List ℕ → Place → Place → Type 0
IsInBody object ends own place = Walk (λ p. p ≡ own) (StepsTo object ends own) place

-- the entries of all procedures, in order
pub record AreEntries (object : Object) (ends : List ℕ) (entries : List Place) : Type 0 where
  pub ascending : AreAscending entries
  pub same : (place : Place) → Contains entries place ↔ IsEntry object ends place
  pub good : All (IsGood object) entries
