-- What the forms of sites have in common.
use Rattle.std.specs.Prelude.{◌≡◌, ℕ, ◌<◌, IsTrue, All, Option, Some, None, Result, Ok, get_or, length}
use Rattle.rt_elf.specs.Parts.{Parts as Object}
use Rattle.rt_elf.specs.Object.{IsLinkable}
use Rattle.rt_elf.specs.Symbols.{zero_symbol}
use Rattle.rt_insn.specs.Range.{HasRange}
use Rattle.rt_link.specs.declared.place.Place.{Place}
use Rattle.rt_control.specs.declared.fault.SiteFault.{SiteFault}
use Rattle.rt_control.specs.declared.form.Called.{Called}
use Rattle.rt_control.specs.declared.form.Called.TheVariants as called
use Rattle.rt_control.specs.declared.form.Form.{Form}
use Rattle.rt_control.specs.declared.form.Form.TheVariants.{Plain, Call, Tail, Return, Stop}
use Rattle.rt_control.specs.declared.form.Target.{Target}
use Rattle.rt_control.specs.declared.form.Target.TheVariants as target
use Rattle.rt_control.specs.declared.form.Way.{Way}
use Rattle.rt_control.specs.declared.form.Way.TheVariants.{On, Jump, Branch, Leave, Table}
use Rattle.rt_control.specs.Places.{is_good}
use Rattle.rt_control.specs.Sites.{IsAt}

-- a site does one thing, or has one fault
abbrev pub IsLawOfOneForm : Type 0
IsLawOfOneForm = (object : Object) (place : Place) (first second : Result Form SiteFault) → IsAt object place first →
    IsAt object place second → first ≡ second

-- a good place
abbrev pub IsGood : Object → Place → Type 0
IsGood object place = IsTrue (is_good object place)

-- the place of a target is good
abbrev pub IsGoodTarget : Object → Target → Type 0
IsGoodTarget object (target.Code place) = IsGood object place
IsGoodTarget object (target.Outside symbol) = Unit {0}

-- the place of what is called is good
abbrev pub IsGoodCalled : Object → Called → Type 0
IsGoodCalled object (called.Code place) = IsGood object place
IsGoodCalled object (called.Outside symbol) = Unit {0}
IsGoodCalled object (called.Register register) = Unit {0}

-- the places where an instruction goes on are good
abbrev pub IsGoodWay : Object → Way → Type 0
IsGoodWay object (On after) = IsGood object after
IsGoodWay object (Jump place) = IsGood object place
IsGoodWay object (Branch place after) = IsGood object place × IsGood object after
IsGoodWay object (Leave symbol) = Unit {0}
IsGoodWay object (Table places) = All (IsGood object) places

-- the place after a call is good, where it has one
abbrev pub IsGoodAfter : Object → Option Place → Type 0
IsGoodAfter object None = Unit {0}
IsGoodAfter object (Some after) = IsGood object after

-- each place of a form is good
abbrev pub IsGoodForm : Object → Form → Type 0
IsGoodForm object (Plain insn way) = IsGoodWay object way
IsGoodForm object (Call callee link after) = IsGoodCalled object callee × IsGoodAfter object after
IsGoodForm object (Tail leads) = IsGoodTarget object leads
IsGoodForm object Return = Unit {0}
IsGoodForm object Stop = Unit {0}

-- the places of what a site does are good
abbrev pub IsLawOfPlaces : Type 0
IsLawOfPlaces = (object : Object) (place : Place) (form : Form) → IsAt object place (Ok form) → IsGoodForm object form

-- an undefined symbol of the object, SHN_UNDEF
pub record IsUndefined (object : Object) (index : ℕ) : Type 0 where
  pub is_symbol : index < length object.symbols
  pub is_undefined : (get_or object.symbols index zero_symbol).section ≡ 0

-- what a target names is the object's
abbrev pub IsKnownTarget : Object → Target → Type 0
IsKnownTarget object (target.Code place) = Unit {0}
IsKnownTarget object (target.Outside symbol) = IsUndefined object symbol

-- what is called is the object's, or one of the 32 registers
abbrev pub IsKnownCalled : Object → Called → Type 0
IsKnownCalled object (called.Code place) = Unit {0}
IsKnownCalled object (called.Outside symbol) = IsUndefined object symbol
IsKnownCalled object (called.Register register) = register < 32

-- what an instruction leaves to is the object's
abbrev pub IsKnownWay : Object → Way → Type 0
IsKnownWay object (On after) = Unit {0}
IsKnownWay object (Jump place) = Unit {0}
IsKnownWay object (Branch place after) = Unit {0}
IsKnownWay object (Leave symbol) = IsUndefined object symbol
IsKnownWay object (Table places) = Unit {0}

-- each symbol of a form is an undefined one of the object, and each register is x0 to x31
abbrev pub IsKnownForm : Object → Form → Type 0
IsKnownForm object (Plain insn way) = HasRange insn × IsKnownWay object way
IsKnownForm object (Call callee link after) = IsKnownCalled object callee × (link < 32)
IsKnownForm object (Tail leads) = IsKnownTarget object leads
IsKnownForm object Return = Unit {0}
IsKnownForm object Stop = Unit {0}

-- what a site names is the object's
abbrev pub IsLawOfNames : Type 0
IsLawOfNames = (object : Object) (place : Place) (form : Form) → IsLinkable object → IsAt object place (Ok form) →
    IsKnownForm object form
