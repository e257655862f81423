-- Variables that become one where existentials go to their classes.
use Rattle.std.proofs.Common.{◌≡◌, ℕ, ◌⊎◌, inl, inr, List, refl, ap}
use Rattle.rt_lines.specs.declared.label.Label.{Label}
use Rattle.rt_lines.specs.declared.variable.Base.{Base}
use Rattle.rt_lines.specs.declared.variable.Base.TheVariants.{Proc, Global, Exist, Outer}
use Rattle.rt_lines.specs.declared.variable.Dtv.{Dtv}
use Rattle.rt_rules.specs.Rules.{longer}
use Rattle.rt_refine.specs.Refinements.{of_exist, moved, move}

module _ (class : ℕ → ℕ) where
  -- two existentials of one class
  pub record AreOfClass (a b : Base) : Type 0 where
    pub v : ℕ
    pub w : ℕ
    pub first : a ≡ Exist v
    pub second : b ≡ Exist w
    pub one : class v ≡ class w

  -- bases that become one are one, or existentials of one class
  pub base_cases : (a b : Base) → moved class a ≡ moved class b → (a ≡ b) ⊎ AreOfClass a b
  base_cases (Proc m) (Proc n) e = inl e
  base_cases (Global m) (Global n) e = inl e
  base_cases (Outer m) (Outer n) e = inl e
  base_cases (Exist m) (Exist n) e = let f : class m ≡ class n = cc in
      inr (record { v = m; w = n; first = refl; second = refl; one = f })
  base_cases (Proc m) (Global n) e = absurd (cc)
  base_cases (Proc m) (Exist n) e = absurd (cc)
  base_cases (Proc m) (Outer n) e = absurd (cc)
  base_cases (Global m) (Proc n) e = absurd (cc)
  base_cases (Global m) (Exist n) e = absurd (cc)
  base_cases (Global m) (Outer n) e = absurd (cc)
  base_cases (Outer m) (Proc n) e = absurd (cc)
  base_cases (Outer m) (Global n) e = absurd (cc)
  base_cases (Outer m) (Exist n) e = absurd (cc)
  base_cases (Exist m) (Proc n) e = absurd (cc)
  base_cases (Exist m) (Global n) e = absurd (cc)
  base_cases (Exist m) (Outer n) e = absurd (cc)

  -- the variable of the existential with a word
  pub record AreTwo (a b : Dtv) : Type 0 where
    pub v : ℕ
    pub w : ℕ
    pub word : List Label
    pub first : a ≡ of_exist v word
    pub second : b ≡ of_exist w word
    pub one : class v ≡ class w

  -- variables that become one are one, or of existentials of one class with one word
  pub variable_cases : (a b : Dtv) → move class a ≡ move class b → (a ≡ b) ⊎ AreTwo a b
  variable_cases a b e = by (base_cases a.base b.base (ap (λ z. z.base) e))
    where
      words : a.word ≡ b.word
      words = ap (λ z. z.word) e

      by : (a.base ≡ b.base) ⊎ AreOfClass a.base b.base → (a ≡ b) ⊎ AreTwo a b
      by (inl f) = inl (λ i. record { base = f i; word = words i })
      by (inr t) = inr (record {
        v = t.v;
        w = t.w;
        word = b.word;
        first = λ i. record { base = t.first i; word = words i };
        second = λ i. record { base = t.second i; word = b.word };
        one = t.one;
      })

  -- what becomes a variable with a letter more has that letter
  pub shorter : (b y : Dtv) (l : Label) → move class b ≡ longer y l → (z : Dtv) × (b ≡ longer z l) × (move class z ≡ y)
  shorter b y l e = (
    record { base = b.base; word = y.word },
    λ i. record { base = b.base; word = (e i).word },
    λ i. record { base = (e i).base; word = y.word },
  )

  pub move_longer : (a x : Dtv) (l : Label) → move class a ≡ x → move class (longer a l) ≡ longer x l
  move_longer a x l e = ap (λ z. longer z l) e

  pub moved_twice : ((v : ℕ) → class (class v) ≡ class v) → (b : Base) → moved class (moved class b) ≡ moved class b
  moved_twice own (Proc n) = refl
  moved_twice own (Global n) = refl
  moved_twice own (Exist n) = ap Exist (own n)
  moved_twice own (Outer n) = refl
