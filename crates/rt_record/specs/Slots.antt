-- The one list that splitting leaves: which existentials hold fields, the numbers of these, and what is counted of lines.
use Rattle.std.specs.Prelude.{◌≡◌, ◌≢◌, ◌↔◌, ℕ, ◌+◌, nat_lt, Bool, true, false, cond, Option, Some, None}
use Rattle.std.specs.Prelude.{List, [], ◌∷◌, fold, map, flat_map, length, take}
use Rattle.std.specs.List.{position}
use Rattle.indexmap.specs.IndexSet.{insert_key}
use Rattle.rt_lines.specs.declared.label.Label.{Label}
use Rattle.rt_lines.specs.declared.label.Variance.{Variance}
use Rattle.rt_lines.specs.declared.variable.Base.{Base}
use Rattle.rt_lines.specs.declared.variable.Base.TheVariants.{Proc, Global, Exist, Outer}
use Rattle.rt_lines.specs.declared.variable.Dtv.{Dtv}
use Rattle.rt_lines.specs.declared.line.Line.{Line}
use Rattle.rt_lines.specs.declared.line.Line.TheVariants.{Var, Same, Sub, Low, Up}
use Rattle.rt_lines.specs.FirstFree.{first_free}
use Rattle.rt_lines.specs.Words.{variance_of_word}
use Rattle.rt_record.specs.declared.slots.Slot.{Slot}
use Rattle.rt_record.specs.contracts.slots.SlotPartialEq.TheImpl as the_slot
use Rattle.rt_record.specs.Records.{is_access, IsField, IsRecord, number_of, flow_sides, moves, split}

-- the flags say which existentials do nothing but hold fields
abbrev pub AreRecords : List Line → (ℕ → Bool) → Type 0
AreRecords lines holds = (n : ℕ) → (holds n ≡ true) ↔ IsRecord lines n

-- equality as `==` computes it
abbrev pub slot_eq : Slot → Slot → Bool
slot_eq = (the_slot.ghosts).eq

abbrev pub slot : ℕ → Label → Slot
slot n f = record { holder = n; field = f }

-- the field that the word begins with behind a load or store
abbrev pub word_slots : ℕ → List Label → List Slot
word_slots n [] = []
word_slots n (a ∷ []) = []
word_slots n (a ∷ f ∷ u) = slot n f ∷ []

abbrev pub base_slots : (ℕ → Bool) → Base → List Label → List Slot
base_slots holds (Proc n) w = []
base_slots holds (Global n) w = []
base_slots holds (Exist n) w = cond (holds n) (word_slots n w) []
base_slots holds (Outer n) w = []

-- of a variable of an existential that the flags name, the field
abbrev pub side_slots : (ℕ → Bool) → Dtv → List Slot
side_slots holds x = base_slots holds x.base x.word

-- the fields of these existentials in the `<=` lines and bounds, each once, in the order in which they come first
abbrev pub slots : (ℕ → Bool) → List Line → List Slot
slots holds lines = fold (insert_key slot_eq) [] (flat_map (side_slots holds) (flat_map flow_sides lines))

-- the number, if an existential can have it
abbrev pub fitting : ℕ → Option ℕ
fitting m = cond (nat_lt m 4294967296) (Some m) None

abbrev pub number_at : ℕ → Option ℕ → Option ℕ
number_at first (Some i) = fitting (first + i)
number_at first None = None

-- the fields of a list numbered in its order from the first number on
abbrev pub numbers_from : ℕ → List Slot → ℕ → Label → Option ℕ
numbers_from first order n f = number_at first (position (slot_eq (slot n f)) order)

-- the numbers of the fields of lines, from the first number on that no existential of the lines has
abbrev pub numbers : (ℕ → Bool) → List Line → ℕ → Label → Option ℕ
numbers holds lines = numbers_from (first_free lines) (slots holds lines)

-- no field of an existential that holds nothing else gets a number
abbrev pub HasNoneSplit : List Line → Type 0
HasNoneSplit lines = (holds : ℕ → Bool) × AreRecords lines holds × (moves (numbers holds lines) lines ≡ [])

-- some get one, and the list is what splitting leaves
abbrev pub IsSplit : List Line → List Line → Type 0
IsSplit lines left =
    (holds : ℕ → Bool) × AreRecords lines holds × (moves (numbers holds lines) lines ≢ []) × (left ≡ split (numbers holds lines) lines)

-- the letters of the sides of `<=` lines and bounds
abbrev pub line_letters : Line → ℕ
line_letters (Var x) = 0
line_letters (Same x y) = 0
line_letters (Sub x y) = length x.word + length y.word
line_letters (Low k x) = length x.word
line_letters (Up x k) = length x.word

abbrev pub letters : List Line → ℕ
letters [] = 0
letters (l ∷ ls) = line_letters l + letters ls

-- the second set leaves out those numbers that the first leaves out and that have the property
abbrev pub LeavesOut : (ℕ → Type 0) → (ℕ → Bool) → (ℕ → Bool) → Type 0
LeavesOut P old new = (n : ℕ) → (new n ≡ false) ↔ ((old n ≡ false) × P n)

-- the word begins with an access and a field
abbrev pub IsPartWord : List Label → Type 0
IsPartWord [] = ⊥
IsPartWord (a ∷ []) = ⊥
IsPartWord (a ∷ f ∷ u) = (is_access a ≡ true) × IsField f

-- and it has the sign
abbrev pub IsHeldWord : Variance → List Label → Type 0
IsHeldWord sign w = IsPartWord w × (variance_of_word w ≡ sign)

-- the number of the existential that the variable's field becomes
abbrev pub word_number : (ℕ → Label → Option ℕ) → ℕ → List Label → Option ℕ
word_number parts n [] = None
word_number parts n (a ∷ []) = None
word_number parts n (a ∷ f ∷ u) = number_of parts n a f

abbrev pub base_number : (ℕ → Label → Option ℕ) → Base → List Label → Option ℕ
base_number parts (Proc n) w = None
base_number parts (Global n) w = None
base_number parts (Exist n) w = word_number parts n w
base_number parts (Outer n) w = None

abbrev pub side_number : (ℕ → Label → Option ℕ) → Dtv → Option ℕ
side_number parts x = base_number parts x.base x.word

-- the variable up to its field
abbrev pub front : Dtv → Dtv
front x = record { base = x.base; word = take 2 x.word }
