-- Lines in slots, some of which are empty.
use Rattle.std.specs.Prelude.{◌≡◌, ◌≢◌, ℕ, ◌<◌, List, [], ◌∷◌, Bool, true, false, Option, Some, None, slice_index_or, slice_set}
use Rattle.rt_lines.specs.declared.label.Variance.{Variance}
use Rattle.rt_lines.specs.declared.label.Variance.TheVariants.{Co, Contra}
use Rattle.rt_lines.specs.declared.variable.Base.TheVariants.{Exist}
use Rattle.rt_lines.specs.declared.variable.Dtv.{Dtv}
use Rattle.rt_lines.specs.declared.line.Line.{Line}
use Rattle.rt_rules.specs.Alike.{map_line}
use Rattle.rt_rules.specs.Put.{put, HasUse, use_of}
use Rattle.rt_polar.specs.declared.index.Kind.{Kind}
use Rattle.rt_polar.specs.declared.index.Kind.TheVariants.{Naming, Defining, Consuming}
use Rattle.rt_polar.specs.declared.places.Places.{Places}
use Rattle.rt_polar.specs.Inside.Digests.{digest_of}
use Rattle.rt_polar.specs.Index.{has, IsOfKind, Names}
use Rattle.rt_polar.specs.Tidied.{without_self}

-- the slot holds the line
abbrev pub Holds : List (Option Line) → ℕ → Line → Type 0
Holds slots i l = slice_index_or slots i None ≡ Some l

-- some slot holds the line
abbrev pub Stands : List (Option Line) → Line → Type 0
Stands slots l = (i : ℕ) × Holds slots i l

-- the lines, in the order of their slots
abbrev pub lines_of : List (Option Line) → List Line
lines_of [] = []
lines_of (None ∷ slots) = lines_of slots
lines_of (Some l ∷ slots) = l ∷ lines_of slots

-- each line stands once, and its slot is found by its digest
pub record IsFound (slots : List (Option Line)) (at : ℕ → ℕ → Bool) : Type 0 where
  pub once : (i j : ℕ) (l : Line) → Holds slots i l → Holds slots j l → i ≡ j
  pub digested : (i : ℕ) (l : Line) → Holds slots i l → at (digest_of l) i ≡ true
  pub source : (d i : ℕ) → at d i ≡ true → (l : Line) × Holds slots i l × (digest_of l ≡ d)

-- for each existential the slots are known that hold lines of the kind
pub record IsIndexed (kind : Kind) (slots : List (Option Line)) (index : ℕ → ℕ → Bool) : Type 0 where
  pub here : (n i : ℕ) (l : Line) → Holds slots i l → IsOfKind kind n l → index n i ≡ true
  pub source : (n i : ℕ) → index n i ≡ true → (l : Line) × Holds slots i l × IsOfKind kind n l

-- for each existential the slots are known that hold lines with a use of it of the sign
pub record AreUses (sign : Variance) (slots : List (Option Line)) (index : ℕ → ℕ → Bool) : Type 0 where
  pub here : (n i : ℕ) (l : Line) → Holds slots i l → HasUse sign n l → index n i ≡ true
  pub source : (n i : ℕ) → index n i ≡ true → (l : Line) × Holds slots i l × HasUse sign n l

-- what is kept beside the slots fits them, and no line puts a variable beside itself
pub record AreHeld (slots : List (Option Line)) (at : ℕ → ℕ → Bool) (naming defining consuming : ℕ → ℕ → Bool)
    : Type 0 where
  pub found : IsFound slots at
  pub named : IsIndexed Naming slots naming
  pub defined : IsIndexed Defining slots defining
  pub consumed : IsIndexed Consuming slots consuming
  pub plain : (i : ℕ) (l : Line) → Holds slots i l → without_self l ≡ l

abbrev pub ArePlaces : Places → Type 0
ArePlaces places = AreHeld places.slots.items (has places.at) (has places.naming) (has places.defining) (has places.consuming)

-- a line was put into an empty slot, but that of two equal lines the first alone stays
pub data Settles (old : List (Option Line)) (slot : ℕ) (l : Line) (new : List (Option Line)) : Type 0 where
  stands_before : (i : ℕ) → i < slot → Holds old i l → new ≡ old → Settles old slot l new
  moves : (i : ℕ) → slot < i → Holds old i l → new ≡ slice_set (slice_set old i None) slot (Some l) → Settles old slot l new
  fills : ((i : ℕ) → Holds old i l → ⊥) → new ≡ slice_set old slot (Some l) → Settles old slot l new

-- the slot holds z <= n or n <= z, z has another base, and no other slot holds a line with a use of n of that sign
pub record IsSoleAt (sign : Variance) (n : ℕ) (z : Dtv) (slots : List (Option Line)) (slot : ℕ) : Type 0 where
  pub other_base : z.base ≢ Exist n
  pub holds : Holds slots slot (use_of sign n z)
  pub only : (i : ℕ) (l : Line) → Holds slots i l → HasUse sign n l → i ≡ slot

-- the sole use that an existential may be exchanged for: a defining one, or a consuming one where none defines
pub record IsTurn (sign : Variance) (n : ℕ) (z : Dtv) (slots : List (Option Line)) (slot : ℕ) : Type 0 where
  pub sole : IsSoleAt sign n z slots slot
  pub first : sign ≡ Contra → (y : Dtv) (i : ℕ) → IsSoleAt Co n y slots i → ⊥

-- each existential with a sole use is pending
abbrev pub ArePending : (ℕ → Bool) → List (Option Line) → Type 0
ArePending pending slots = (sign : Variance) (n : ℕ) (z : Dtv) (slot : ℕ) → IsSoleAt sign n z slots slot → pending n ≡ true

-- slots that hold the same lines, but for those that name pending existentials
abbrev pub Agrees : (ℕ → Bool) → List (Option Line) → List (Option Line) → Type 0
Agrees pending first second = (n : ℕ) (l : Line) → pending n ≡ false → Names n l → (Stands first l → Stands second l) ×
    (Stands second l → Stands first l)

-- the line with z in the place of the existential n, but that `var X` stands for a variable beside itself
abbrev pub moved : ℕ → Dtv → Line → Line
moved n z l = without_self (map_line (put n z) l)
