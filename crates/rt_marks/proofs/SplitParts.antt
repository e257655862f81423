-- Split variables: a split procedure without a label is no variable of the split lines.
use Rattle.std.proofs.Common.{◌≡◌, ℕ, Bool, true, false, cond, List, [], ◌∷◌, ◌++◌, refl, sym, subst}
use Rattle.rt_lines.specs.declared.label.Label.{Label}
use Rattle.rt_lines.specs.declared.label.Label.TheVariants.{Load, Store}
use Rattle.rt_lines.specs.declared.label.Variance.TheVariants.{Co, Contra}
use Rattle.rt_lines.specs.declared.variable.Base.{Base}
use Rattle.rt_lines.specs.declared.variable.Base.TheVariants.{Proc, Global, Exist, Outer}
use Rattle.rt_lines.specs.declared.variable.Dtv.{Dtv}
use Rattle.rt_lines.specs.declared.line.Line.{Line}
use Rattle.rt_lines.specs.declared.line.Line.TheVariants.{Var, Same, Sub, Low, Up}
use Rattle.rt_lines.specs.Words.{label_variance}
use Rattle.rt_lines.specs.Orders.{Below, IsAtOrBelow}
use Rattle.rt_rules.specs.Rules.{longer}
use Rattle.rt_loose.specs.Loose.{Loosely}
use Rattle.rt_loose.specs.Loose.Loosely.{prefix, same_sub, same_self, same_back, same_chain, same_longer, sub_self, sub_chain, sub_co, sub_contra, sub_pointer, low_sub, up_sub, loose_pointer}
use Rattle.rt_marks.proofs.Carrying.{are_there}
use Rattle.rt_scheme.specs.Schemes.{is_interface}
use Rattle.rt_scheme.specs.declared.interface.Interface.{Interface}

-- what becomes of a variable: a split procedure without a label, nothing, as no line leads there, or a variable
pub data Parts : Type 0 where
  bare : ℕ → Parts
  lost : Parts
  moved : Dtv → Parts

module _ (is_split : ℕ → Bool) (place : Interface → ℕ) where
  -- a split procedure and a label, which must be that of an argument or a result
  abbrev pub begun : Bool → ℕ → Label → List Label → Parts
  begun fits q l w = cond fits (moved (record { base = Exist (place (record { procedure = q; label = l })); word = w })) lost

  abbrev pub parts_at : Base → List Label → Parts
  parts_at (Proc q) [] = cond (is_split q) (bare q) (moved (record { base = Proc q; word = [] }))
  parts_at (Proc q) (l ∷ w) = cond (is_split q) (begun (is_interface (l ∷ [])) q l w) (moved (record { base = Proc q; word = l ∷ w }))
  parts_at (Global n) w = moved (record { base = Global n; word = w })
  parts_at (Exist n) w = moved (record { base = Exist n; word = w })
  parts_at (Outer n) w = moved (record { base = Outer n; word = w })

  abbrev pub parts : Dtv → Parts
  parts x = parts_at x.base x.word

  -- with a letter more
  abbrev pub grow : Parts → Label → Parts
  grow (bare q) l = begun (is_interface (l ∷ [])) q l []
  grow lost l = lost
  grow (moved y) l = moved (longer y l)

  grow-cond : (s : Bool) (i j : Parts) (l : Label) → cond s (grow i l) (grow j l) ≡ grow (cond s i j) l
  grow-cond true i j l = refl
  grow-cond false i j l = refl

  grow-begun : (fits : Bool) (q : ℕ) (m l : Label) (w : List Label) → begun fits q m (w ++ l ∷ []) ≡ grow (begun fits q m w) l
  grow-begun true q m l w = refl
  grow-begun false q m l w = refl

  longer_at : (b : Base) (w : List Label) (l : Label) → parts_at b (w ++ l ∷ []) ≡ grow (parts_at b w) l
  longer_at (Proc q) [] l = grow-cond (is_split q) (bare q) (moved (record { base = Proc q; word = [] })) l
  longer_at (Proc q) (m ∷ w) l =
      rw (grow-begun (is_interface (m ∷ [])) q m l w) (grow-cond (is_split q) (begun (is_interface (m ∷ [])) q m w) (moved (record { base = Proc q; word = m ∷ w })) l)
  longer_at (Global n) w l = refl
  longer_at (Exist n) w l = refl
  longer_at (Outer n) w l = refl

  pub parts-longer : (x : Dtv) (l : Label) → parts (longer x l) ≡ grow (parts x) l
  parts-longer x l = longer_at x.base x.word l

  module _ (order : Below) (lines : List Line) where
    -- there is such a variable
    abbrev pub Has : Parts → Type 0
    Has (bare q) = Unit {0}
    Has lost = ⊥
    Has (moved y) = Loosely order lines (Var y)

    -- the two have one shape: a split procedure without a label has that of itself alone
    abbrev pub Joined : Parts → Parts → Type 0
    Joined (bare q) (bare r) = q ≡ r
    Joined (bare q) lost = ⊥
    Joined (bare q) (moved y) = ⊥
    Joined lost j = ⊥
    Joined (moved x) (bare r) = ⊥
    Joined (moved x) lost = ⊥
    Joined (moved x) (moved y) = Loosely order lines (Same x y)

    -- the first is below the second
    abbrev pub Lower : Parts → Parts → Type 0
    Lower (bare q) (bare r) = q ≡ r
    Lower (bare q) lost = ⊥
    Lower (bare q) (moved y) = ⊥
    Lower lost j = ⊥
    Lower (moved x) (bare r) = ⊥
    Lower (moved x) lost = ⊥
    Lower (moved x) (moved y) = Loosely order lines (Sub x y)

    -- the constant is a lower bound
    abbrev pub IsLow : ℕ → Parts → Type 0
    IsLow k (bare q) = ⊥
    IsLow k lost = ⊥
    IsLow k (moved y) = Loosely order lines (Low k y)

    -- the constant is an upper bound
    abbrev pub IsUp : Parts → ℕ → Type 0
    IsUp (bare q) k = ⊥
    IsUp lost k = ⊥
    IsUp (moved y) k = Loosely order lines (Up y k)

    pub joined_of : (i j : Parts) → Lower i j → Joined i j
    joined_of (bare q) (bare r) d = d
    joined_of (bare q) lost d = absurd d
    joined_of (bare q) (moved y) d = absurd d
    joined_of lost j d = absurd d
    joined_of (moved x) (bare r) d = absurd d
    joined_of (moved x) lost d = absurd d
    joined_of (moved x) (moved y) d = same_sub d

    pub back : (i j : Parts) → Joined i j → Joined j i
    back (bare q) (bare r) d = sym d
    back (bare q) lost d = absurd d
    back (bare q) (moved y) d = absurd d
    back lost j d = absurd d
    back (moved x) (bare r) d = absurd d
    back (moved x) lost d = absurd d
    back (moved x) (moved y) d = same_back d

    pub has_left : (i j : Parts) → Joined i j → Has i
    has_left (bare q) j d = tt
    has_left lost j d = absurd d
    has_left (moved x) (bare r) d = absurd d
    has_left (moved x) lost d = absurd d
    has_left (moved x) (moved y) d = (are_there order lines d).0

    pub has_right : (i j : Parts) → Joined i j → Has j
    has_right i j d = has_left j i (back i j d)

    pub chain : (i j k : Parts) → Joined i j → Joined j k → Joined i k
    chain (bare q) (bare r) k d e = subst (λ p. Joined (bare p) k) (sym d) e
    chain (bare q) lost k d e = absurd d
    chain (bare q) (moved y) k d e = absurd d
    chain lost j k d e = absurd d
    chain (moved x) (bare r) k d e = absurd d
    chain (moved x) lost k d e = absurd d
    chain (moved x) (moved y) (bare s) d e = absurd e
    chain (moved x) (moved y) lost d e = absurd e
    chain (moved x) (moved y) (moved z) d e = same_chain d e

    pub lower_chain : (i j k : Parts) → Lower i j → Lower j k → Lower i k
    lower_chain (bare q) (bare r) k d e = subst (λ p. Lower (bare p) k) (sym d) e
    lower_chain (bare q) lost k d e = absurd d
    lower_chain (bare q) (moved y) k d e = absurd d
    lower_chain lost j k d e = absurd d
    lower_chain (moved x) (bare r) k d e = absurd d
    lower_chain (moved x) lost k d e = absurd d
    lower_chain (moved x) (moved y) (bare s) d e = absurd e
    lower_chain (moved x) (moved y) lost d e = absurd e
    lower_chain (moved x) (moved y) (moved z) d e = sub_chain d e

    pub itself : (i : Parts) → Has i → Joined i i
    itself (bare q) d = refl
    itself lost d = absurd d
    itself (moved y) d = same_self d

    pub lower_itself : (i : Parts) → Has i → Lower i i
    lower_itself (bare q) d = refl
    lower_itself lost d = absurd d
    lower_itself (moved y) d = sub_self d

    pub shorter : (i : Parts) (l : Label) → Has (grow i l) → Has i
    shorter (bare q) l d = tt
    shorter lost l d = absurd d
    shorter (moved y) l d = prefix l d

    pub joined_longer : (i j : Parts) (l : Label) → Joined i j → Has (grow i l) → Joined (grow i l) (grow j l)
    joined_longer (bare q) (bare r) l d h = subst (λ p. Joined (grow (bare q) l) (grow (bare p) l)) d (itself (grow (bare q) l) h)
    joined_longer (bare q) lost l d h = absurd d
    joined_longer (bare q) (moved y) l d h = absurd d
    joined_longer lost j l d h = absurd d
    joined_longer (moved x) (bare r) l d h = absurd d
    joined_longer (moved x) lost l d h = absurd d
    joined_longer (moved x) (moved y) l d h = same_longer l d h

    pub lower_co : (i j : Parts) (l : Label) → Lower i j → Has (grow j l) → label_variance l ≡ Co → Lower (grow i l) (grow j l)
    lower_co (bare q) (bare r) l d h s = subst (λ p. Lower (grow (bare p) l) (grow (bare r) l)) (sym d) (lower_itself (grow (bare r) l) h)
    lower_co (bare q) lost l d h s = absurd d
    lower_co (bare q) (moved y) l d h s = absurd d
    lower_co lost j l d h s = absurd d
    lower_co (moved x) (bare r) l d h s = absurd d
    lower_co (moved x) lost l d h s = absurd d
    lower_co (moved x) (moved y) l d h s = sub_co l d h s

    pub lower_contra : (i j : Parts) (l : Label) → Lower i j → Has (grow j l) → label_variance l ≡ Contra → Lower (grow j l) (grow i l)
    lower_contra (bare q) (bare r) l d h s = subst (λ p. Lower (grow (bare r) l) (grow (bare p) l)) (sym d) (lower_itself (grow (bare r) l) h)
    lower_contra (bare q) lost l d h s = absurd d
    lower_contra (bare q) (moved y) l d h s = absurd d
    lower_contra lost j l d h s = absurd d
    lower_contra (moved x) (bare r) l d h s = absurd d
    lower_contra (moved x) lost l d h s = absurd d
    lower_contra (moved x) (moved y) l d h s = sub_contra l d h s

    -- a split procedure has no letters of pointers
    pub pointer : (i : Parts) → Has (grow i Load) → Has (grow i Store) → Lower (grow i Store) (grow i Load)
    pointer (bare q) h k = absurd h
    pointer lost h k = absurd h
    pointer (moved y) h k = sub_pointer y h k

    pub pointer_back : (i : Parts) → Has (grow i Load) → Has (grow i Store) → Lower (grow i Load) (grow i Store)
    pointer_back (bare q) h k = absurd h
    pointer_back lost h k = absurd h
    pointer_back (moved y) h k = loose_pointer y h k

    pub low_lower : (j k : ℕ) (x y : Parts) → IsLow k x → Lower x y → IsAtOrBelow order j k → IsLow j y
    low_lower j k (bare q) y d e a = absurd d
    low_lower j k lost y d e a = absurd d
    low_lower j k (moved x) (bare r) d e a = absurd e
    low_lower j k (moved x) lost d e a = absurd e
    low_lower j k (moved x) (moved y) d e a = low_sub d e a

    pub up_lower : (j k : ℕ) (x y : Parts) → Lower x y → IsUp y k → IsAtOrBelow order k j → IsUp x j
    up_lower j k x (bare r) d e a = absurd e
    up_lower j k x lost d e a = absurd e
    up_lower j k (bare q) (moved y) d e a = absurd d
    up_lower j k lost (moved y) d e a = absurd d
    up_lower j k (moved x) (moved y) d e a = up_sub d e a
