-- Which slots hold lines of a kind, for each existential.
use Rattle.std.specs.Prelude.{◌≡◌, ◌⊎◌, ℕ, Bool, true}
use Rattle.std.specs.BTreeSet.{BTreeSet, contains}
use Rattle.std.specs.Ordering.{nat_cmp, ordering_then}
use Rattle.rt_lines.specs.declared.label.Variance.TheVariants.{Co, Contra}
use Rattle.rt_lines.specs.declared.variable.Base.{Base}
use Rattle.rt_lines.specs.declared.variable.Base.TheVariants.{Exist}
use Rattle.rt_lines.specs.declared.variable.Dtv.{Dtv}
use Rattle.rt_lines.specs.declared.line.Line.{Line}
use Rattle.rt_rules.specs.Rules.{HasSide}
use Rattle.rt_rules.specs.Put.{HasUse}
use Rattle.rt_polar.specs.declared.index.Kind.{Kind}
use Rattle.rt_polar.specs.declared.index.Kind.TheVariants.{Naming, Defining, Consuming}

-- a side of the line has the existential n as its base
abbrev pub Names : ℕ → Line → Type 0
Names n l = (x : Dtv) × HasSide l x × (x.base ≡ Exist n)

-- the line names the existential n, defines it or consumes it
abbrev pub IsOfKind : Kind → ℕ → Line → Type 0
IsOfKind Naming n l = Names n l
IsOfKind Defining n l = HasUse Co n l
IsOfKind Consuming n l = HasUse Contra n l

-- whether the index has the slot i for the existential n
abbrev pub has : BTreeSet (ℕ × ℕ) → ℕ → ℕ → Bool
has index n i = contains (λ x y. ordering_then (nat_cmp x.0 y.0) (nat_cmp x.1 y.1)) index (n, i)

-- the slot is added for the number, and nothing else
pub record IsBareNoted (d slot : ℕ) (old new : ℕ → ℕ → Bool) : Type 0 where
  pub added : new d slot ≡ true
  pub kept : (n i : ℕ) → old n i ≡ true → new n i ≡ true
  pub source : (n i : ℕ) → new n i ≡ true → (old n i ≡ true) ⊎ ((n ≡ d) × (i ≡ slot))

-- the slot is taken away from the number, and nothing else
pub record IsBareForgotten (d slot : ℕ) (old new : ℕ → ℕ → Bool) : Type 0 where
  pub gone : new d slot ≡ true → ⊥
  pub kept : (n i : ℕ) → old n i ≡ true → (i ≡ slot → n ≡ d → ⊥) → new n i ≡ true
  pub source : (n i : ℕ) → new n i ≡ true → old n i ≡ true

-- the slot is added for the existential, where the base is one for which the line is of the kind
pub record IsBaseNoted (kind : Kind) (l : Line) (base : Base) (slot : ℕ) (old new : ℕ → ℕ → Bool) : Type 0 where
  pub added : (n : ℕ) → base ≡ Exist n → IsOfKind kind n l → new n slot ≡ true
  pub kept : (n i : ℕ) → old n i ≡ true → new n i ≡ true
  pub source : (n i : ℕ) → new n i ≡ true → (old n i ≡ true) ⊎ ((i ≡ slot) × IsOfKind kind n l)

-- the slot is added for each existential for which the line is of the kind
pub record IsNoted (kind : Kind) (l : Line) (slot : ℕ) (old new : ℕ → ℕ → Bool) : Type 0 where
  pub added : (n : ℕ) → IsOfKind kind n l → new n slot ≡ true
  pub kept : (n i : ℕ) → old n i ≡ true → new n i ≡ true
  pub source : (n i : ℕ) → new n i ≡ true → (old n i ≡ true) ⊎ ((i ≡ slot) × IsOfKind kind n l)

-- the slot is taken away from the existential, where the base is one
pub record IsBaseForgotten (base : Base) (slot : ℕ) (old new : ℕ → ℕ → Bool) : Type 0 where
  pub gone : (n : ℕ) → base ≡ Exist n → new n slot ≡ true → ⊥
  pub kept : (n i : ℕ) → old n i ≡ true → (i ≡ slot → base ≡ Exist n → ⊥) → new n i ≡ true
  pub source : (n i : ℕ) → new n i ≡ true → old n i ≡ true

-- the slot is taken away from each existential that the line names
pub record IsForgotten (l : Line) (slot : ℕ) (old new : ℕ → ℕ → Bool) : Type 0 where
  pub gone : (n : ℕ) → Names n l → new n slot ≡ true → ⊥
  pub kept : (n i : ℕ) → old n i ≡ true → (i ≡ slot → Names n l → ⊥) → new n i ≡ true
  pub source : (n i : ℕ) → new n i ≡ true → old n i ≡ true
