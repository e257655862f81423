-- Tops, bottoms and bounds in a relation on the numbers below a count.
use Rattle.std.specs.Prelude.{◌≡◌, ◌≢◌, ℕ, ◌<◌, ◌⊎◌}

-- the number is above all
pub record IsTop (R : ℕ → ℕ → Type 0) (n top : ℕ) : Type 0 where
  pub within : top < n
  pub above : (a : ℕ) → a < n → R a top

-- the number is below all
pub record IsBottom (R : ℕ → ℕ → Type 0) (n bottom : ℕ) : Type 0 where
  pub within : bottom < n
  pub below : (a : ℕ) → a < n → R bottom a

-- c is above a and b, and below all that is above both
pub record IsLeastUpper (R : ℕ → ℕ → Type 0) (n a b c : ℕ) : Type 0 where
  pub within : c < n
  pub first : R a c
  pub second : R b c
  pub least : (d : ℕ) → d < n → R a d → R b d → R c d

-- c is below a and b, and above all that is below both
pub record IsGreatestLower (R : ℕ → ℕ → Type 0) (n a b c : ℕ) : Type 0 where
  pub within : c < n
  pub first : R c a
  pub second : R c b
  pub greatest : (d : ℕ) → d < n → R d a → R d b → R d c

-- the two numbers have a least upper bound
abbrev pub HaveJoin : (ℕ → ℕ → Type 0) → ℕ → ℕ → ℕ → Type 0
HaveJoin R n a b = (c : ℕ) × IsLeastUpper R n a b c

-- the two numbers have a greatest lower bound
abbrev pub HaveMeet : (ℕ → ℕ → Type 0) → ℕ → ℕ → ℕ → Type 0
HaveMeet R n a b = (c : ℕ) × IsGreatestLower R n a b c

-- another number is above and below this one
pub record HasPartner (R : ℕ → ℕ → Type 0) (n a : ℕ) : Type 0 where
  pub partner : ℕ
  pub within : partner < n
  pub other : a ≢ partner
  pub above : R a partner
  pub below : R partner a

-- no two different numbers are below each other
abbrev pub IsAntisymmetric : (ℕ → ℕ → Type 0) → ℕ → Type 0
IsAntisymmetric R n = (a b : ℕ) → a < n → b < n → R a b → R b a → a ≡ b

-- no number has a partner
abbrev pub HasNoCycle : (ℕ → ℕ → Type 0) → ℕ → Type 0
HasNoCycle R n = (a : ℕ) → a < n → HasPartner R n a → ⊥

abbrev pub HasTop : (ℕ → ℕ → Type 0) → ℕ → Type 0
HasTop R n = (t : ℕ) × IsTop R n t

abbrev pub HasBottom : (ℕ → ℕ → Type 0) → ℕ → Type 0
HasBottom R n = (b : ℕ) × IsBottom R n b

-- each two numbers have a least upper bound
abbrev pub HasJoins : (ℕ → ℕ → Type 0) → ℕ → Type 0
HasJoins R n = (a b : ℕ) → a < n → b < n → HaveJoin R n a b

-- each two numbers have a greatest lower bound
abbrev pub HasMeets : (ℕ → ℕ → Type 0) → ℕ → Type 0
HasMeets R n = (a b : ℕ) → a < n → b < n → HaveMeet R n a b

-- the first number with a partner
pub record IsFirstOnCycle (R : ℕ → ℕ → Type 0) (n a : ℕ) : Type 0 where
  pub within : a < n
  pub partner : HasPartner R n a
  pub first : (b : ℕ) → b < a → HasPartner R n b → ⊥

-- the pair p, q comes before the pair a, b
abbrev pub Precedes : ℕ → ℕ → ℕ → ℕ → Type 0
Precedes p q a b = (p < a) ⊎ ((p ≡ a) × (q < b))

-- the first pair without a least upper bound, of those whose first number is less than the second
pub record IsFirstWithoutJoin (R : ℕ → ℕ → Type 0) (n a b : ℕ) : Type 0 where
  pub earlier : a < b
  pub within : b < n
  pub none : HaveJoin R n a b → ⊥
  pub first : (p q : ℕ) → p < q → q < n → Precedes p q a b → HaveJoin R n p q
