-- The faults of code, in order: those of symbols, then those of sites, by procedure and in it by place.
use Rattle.std.specs.Prelude.{◌≡◌, ℕ, ◌&&◌, not, Option, Some, None, Result, Ok, Err, List, length, get_or}
use Rattle.rt_base.specs.First.{fault_if, first_each}
use Rattle.rt_elf.specs.Parts.{Parts as Object}
use Rattle.rt_elf.specs.declared.symbol.Symbol.{Symbol}
use Rattle.rt_elf.specs.Symbols.{zero_symbol}
use Rattle.rt_link.specs.declared.place.Place.{Place}
use Rattle.rt_control.specs.declared.fault.SiteFault.{SiteFault}
use Rattle.rt_control.specs.Control.{number_of}
use Rattle.rt_control.specs.Places.{is_good}
use Rattle.rt_proc.specs.Ends.{IsLookAt}
use Rattle.rt_proc.specs.declared.fault.CodeFault.{CodeFault}
use Rattle.rt_proc.specs.declared.fault.CodeFault.TheVariants.{Bad, Memory}
use Rattle.rt_proc.specs.Bodies.{IsInBody}
use Rattle.rt_proc.specs.Entries.{is_function, place_of, IsEntry}
use Rattle.rt_proc.specs.Order.{IsBelow}

-- a function whose place isn't good is 31 at its place
abbrev pub symbol_fault : Object → Symbol → Option CodeFault
symbol_fault object symbol = fault_if (is_function object symbol && not (is_good object (place_of symbol))) (Bad 31 (place_of symbol))

-- the first fault of the symbols, in their order
abbrev pub symbols_fault : Object → Option CodeFault
symbols_fault object = first_each (λ i. symbol_fault object (get_or object.symbols i zero_symbol)) 0 (length object.symbols)

-- a site of the body that is entered at `own` has a fault of a number
pub record HasFault (object : Object) (ends : List ℕ) (own : Place) (number : ℕ) (place : Place) : Type 0 where
  pub in_body : IsInBody object ends own place
  pub fault : SiteFault
  pub is_at : IsLookAt object ends place (Err fault)
  pub is_number : number ≡ number_of fault

-- no site of the body has a fault
abbrev pub IsSound : Object → List ℕ → Place → Type 0
IsSound object ends own = (number : ℕ) (place : Place) → ¬ HasFault object ends own number place

-- the fault of the body that comes first: no site before it has one
pub record IsFirstIn (object : Object) (ends : List ℕ) (own : Place) (number : ℕ) (place : Place) : Type 0 where
  pub has_fault : HasFault object ends own number place
  pub is_first : (other : Place) (n : ℕ) → IsBelow other place → ¬ HasFault object ends own n other

-- the first fault of an object's code: of its symbols, or else of the first body that has one
pub data IsFirstFault (object : Object) (ends : List ℕ) (number : ℕ) (place : Place) : Type 0 where
  of_symbol : symbols_fault object ≡ Some (Bad number place) → IsFirstFault object ends number place
  of_site : (own : Place) → symbols_fault object ≡ None → IsEntry object ends own → IsFirstIn object ends own number place
      → ((other : Place) → IsEntry object ends other → IsBelow other own → IsSound object ends other)
      → IsFirstFault object ends number place

-- no symbol and no site of a procedure has a fault
pub record HasNoFault (object : Object) (ends : List ℕ) : Type 0 where
  pub symbols : symbols_fault object ≡ None
  pub sites : (own : Place) → IsEntry object ends own → IsSound object ends own

-- an error is the first fault; memory may always run out
abbrev pub IsFaultOf : Object → List ℕ → CodeFault → Type 0
IsFaultOf object ends (Bad number place) = IsFirstFault object ends number place
IsFaultOf object ends Memory = Unit {0}

-- a check answers Ok where there is no fault, else the fault
abbrev pub checked : Option CodeFault → Result (Unit {0}) CodeFault
checked None = Ok tt
checked (Some fault) = Err fault

-- an error is the first fault of the symbols
abbrev pub IsSymbolFault : Option CodeFault → CodeFault → Type 0
IsSymbolFault fault (Bad number place) = fault ≡ Some (Bad number place)
IsSymbolFault fault Memory = Unit {0}

-- an error is the first fault of a body
abbrev pub IsBodyFault : Object → List ℕ → Place → CodeFault → Type 0
IsBodyFault object ends own (Bad number place) = IsFirstIn object ends own number place
IsBodyFault object ends own Memory = Unit {0}
