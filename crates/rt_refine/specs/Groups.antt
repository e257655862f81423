-- Existentials in classes, each with the name of its least member.
use Rattle.std.specs.Prelude.{◌≡◌, ◌≢◌, ◌↔◌, ℕ, ◌≤◌, ◌⊎◌, List, [], ◌∷◌, Contains, Bool, true, cond, Option, Some, None, unwrap_or}
use Rattle.std.specs.Ordering.{is_eq, nat_cmp}
use Rattle.rt_lines.specs.declared.line.Line.{Line}
use Rattle.rt_polar.specs.Index.{Names}

-- the name of an existential's class, which is its own if it has none
abbrev pub class_of : (ℕ → Option ℕ) → ℕ → ℕ
class_of place n = unwrap_or (place n) n

-- the existential has the name, and nothing else changed
abbrev pub IsPut : ℕ → ℕ → (ℕ → Option ℕ) → (ℕ → Option ℕ) → Type 0
IsPut w v old new = (n : ℕ) → new n ≡ cond (is_eq (nat_cmp w n)) (Some v) (old n)

-- the lines name the existential
abbrev pub IsNamed : List Line → ℕ → Type 0
IsNamed lines n = (l : Line) × Contains lines l × Names n l

-- the set holds the existentials that the lines name
abbrev pub AreNamed : List Line → (ℕ → Bool) → Type 0
AreNamed lines has = (n : ℕ) → (has n ≡ true) ↔ IsNamed lines n

-- the numbers for which something holds were added, and nothing else
pub record AreNoted (P : ℕ → Type 0) (old new : ℕ → Bool) : Type 0 where
  pub added : (n : ℕ) → P n → new n ≡ true
  pub kept : (n : ℕ) → old n ≡ true → new n ≡ true
  pub source : (n : ℕ) → new n ≡ true → (old n ≡ true) ⊎ P n

-- what the existential has in common with those of its shape: the node, if it has one
abbrev pub node_key : Option ℕ → ℕ → List ℕ
node_key (Some node) n = node ∷ []
node_key None n = 0 ∷ n ∷ []

-- the named existentials of one key are in one class, and no others
pub record IsGrouped (key : ℕ → List ℕ) (named : ℕ → Type 0) (class : ℕ → ℕ) : Type 0 where
  pub least : (v : ℕ) → class v ≤ v
  pub own : (v : ℕ) → class (class v) ≡ class v
  pub alone : (v : ℕ) → (named v → ⊥) → class v ≡ v
  pub one : (v w : ℕ) → named v → named w → key v ≡ key w → class v ≡ class w
  pub same : (v : ℕ) → (class v ≡ v) ⊎ (named v × (key (class v) ≡ key v))
  pub within : (v : ℕ) → named v → named (class v)

-- each of those that were met has a first one of its class; the two are one, or both are noted
pub record AreMet (class : ℕ → ℕ) (met : List ℕ) (firsts : ℕ → Option ℕ) (shared : ℕ → Bool) : Type 0 where
  pub each : (n : ℕ) → Contains met n →
      (first : ℕ) × (firsts (class n) ≡ Some first) × ((first ≡ n) ⊎ ((shared first ≡ true) × (shared n ≡ true)))
  pub first : (c n : ℕ) → firsts c ≡ Some n → Contains met n
  pub noted : (n : ℕ) → shared n ≡ true → Contains met n

-- the set has each of some existentials that shares its class with another one of them, and of the others none that isn't among them
pub record AreShared (named : ℕ → Type 0) (class : ℕ → ℕ) (shared : ℕ → Bool) : Type 0 where
  pub all : (v w : ℕ) → named v → named w → class v ≡ class w → v ≢ w → shared v ≡ true
  pub among : (v : ℕ) → shared v ≡ true → named v

-- the list has the existentials that the lines name
abbrev pub AreListed : List Line → List ℕ → Type 0
AreListed lines named = (n : ℕ) → Contains named n ↔ IsNamed lines n
