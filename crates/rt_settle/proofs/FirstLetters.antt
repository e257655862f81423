-- What lines of arguments and results derive is of arguments and results again, or of a procedure itself.
use Rattle.std.proofs.Common.{◌≡◌, ℕ, ◌⊎◌, inl, inr, List, [], ◌∷◌, ◌++◌, Contains, true, false, IsTrue, refl, sym, ap, subst, ◌∙◌}
use Rattle.std.proofs.lemmas.Bool.{both_ways}
use Rattle.std.proofs.lemmas.List.Elements.{All-contains}
use Rattle.rt_base.proofs.Lists.{list_all-at}
use Rattle.rt_lines.specs.declared.label.Label.{Label}
use Rattle.rt_lines.specs.declared.label.Label.TheVariants.{In, Out, Load, Store, Field}
use Rattle.rt_lines.specs.declared.variable.Base.{Base}
use Rattle.rt_lines.specs.declared.variable.Base.TheVariants.{Proc, Global, Exist, Outer}
use Rattle.rt_lines.specs.declared.variable.Dtv.{Dtv}
use Rattle.rt_lines.specs.declared.line.Line.{Line}
use Rattle.rt_lines.specs.declared.line.Line.TheVariants.{Var, Same, Sub, Low, Up}
use Rattle.rt_lines.specs.Orders.{Below}
use Rattle.rt_lines.specs.Sides.{sides}
use Rattle.rt_rules.specs.Rules.{longer, HasSide, Derivable}
use Rattle.rt_rules.specs.Rules.Derivable.{
  named,
  prefix,
  left_side,
  right_side,
  same_letter,
  same_line,
  same_sub,
  same_self,
  same_back,
  same_chain,
  same_longer,
  sub_line,
  sub_self,
  sub_chain,
  sub_co,
  sub_contra,
  sub_pointer,
  low_line,
  up_line,
  low_sub,
  up_sub,
}
use Rattle.rt_rules.proofs.LineSides.{Contains-sides}
use Rattle.rt_scheme.specs.Schemes.{is_interface}
use Rattle.rt_scheme.specs.Splitting.{is_interface_side, is_interface_variable, is_interface_line, AreInterfaceLines}

-- an argument or a result, or what is taken from one, where the base is a procedure
abbrev pub IsOfInterface : Dtv → Type 0
IsOfInterface x = (n : ℕ) → x.base ≡ Proc n → is_interface x.word ≡ true

-- or a base itself
abbrev pub IsFitting : Dtv → Type 0
IsFitting x = (x.word ≡ []) ⊎ IsOfInterface x

-- one variable, or two of which none is a procedure itself
abbrev AreFitting : Dtv → Dtv → Type 0
AreFitting x y = ((x ≡ y) × IsFitting x) ⊎ (IsOfInterface x × IsOfInterface y)

abbrev Fits : Line → Type 0
Fits (Var x) = IsFitting x
Fits (Same x y) = AreFitting x y
Fits (Sub x y) = AreFitting x y
Fits (Low k x) = IsFitting x
Fits (Up x k) = IsFitting x

interface-longer : (w v : List Label) → is_interface w ≡ true → is_interface (w ++ v) ≡ true
interface-longer [] v t = absurd (both_ways false refl t)
interface-longer (In l ∷ w) v t = refl
interface-longer (Out n ∷ w) v t = refl
interface-longer (Load ∷ w) v t = absurd (both_ways false refl t)
interface-longer (Store ∷ w) v t = absurd (both_ways false refl t)
interface-longer (Field b k ∷ w) v t = absurd (both_ways false refl t)

interface-first : (l : Label) (w v : List Label) → is_interface (l ∷ w) ≡ true → is_interface (l ∷ v) ≡ true
interface-first (In k) w v t = refl
interface-first (Out n) w v t = refl
interface-first Load w v t = absurd (both_ways false refl t)
interface-first Store w v t = absurd (both_ways false refl t)
interface-first (Field b k) w v t = absurd (both_ways false refl t)

-- with a letter more
more_of : (x : Dtv) (l : Label) → IsOfInterface x → IsOfInterface (longer x l)
more_of x l h n e = interface-longer x.word (l ∷ []) (h n e)

-- with a letter fewer
fewer_at : (b : Base) (w : List Label) (l : Label) → ((n : ℕ) → b ≡ Proc n → is_interface (w ++ l ∷ []) ≡ true) →
    (w ≡ []) ⊎ ((n : ℕ) → b ≡ Proc n → is_interface w ≡ true)
fewer_at b [] l h = inl refl
fewer_at b (k ∷ w) l h = inr (λ n e. interface-first k (w ++ l ∷ []) w (h n e))

not_empty : (w : List Label) (l : Label) → w ++ l ∷ [] ≡ [] → ⊥
not_empty [] l e = cc
not_empty (k ∷ w) l e = cc

fewer : (x : Dtv) (l : Label) → IsFitting (longer x l) → IsFitting x
fewer x l (inl e) = absurd (not_empty x.word l e)
fewer x l (inr h) = fewer_at x.base x.word l h

-- of two
left_of : (x y : Dtv) → AreFitting x y → IsFitting x
left_of x y (inl (e, h)) = h
left_of x y (inr (h, g)) = inr h

right_of : (x y : Dtv) → AreFitting x y → IsFitting y
right_of x y (inl (e, h)) = subst IsFitting e h
right_of x y (inr (h, g)) = inr g

back_of : (x y : Dtv) → AreFitting x y → AreFitting y x
back_of x y (inl (e, h)) = inl (sym e, subst IsFitting e h)
back_of x y (inr (h, g)) = inr (g, h)

chain_of : (x y z : Dtv) → AreFitting x y → AreFitting y z → AreFitting x z
chain_of x y z (inl (e, h)) (inl (f, g)) = inl (e ∙ f, h)
chain_of x y z (inl (e, h)) (inr (g, k)) = inr (subst IsOfInterface (sym e) g, k)
chain_of x y z (inr (h, g)) (inl (f, k)) = inr (h, subst IsOfInterface f g)
chain_of x y z (inr (h, g)) (inr (k, m)) = inr (h, m)

more_two : (x y : Dtv) (l : Label) → AreFitting x y → IsFitting (longer x l) → AreFitting (longer x l) (longer y l)
more_two x y l (inl (e, h)) fits = inl (ap (λ z. longer z l) e, fits)
more_two x y l (inr (h, g)) fits = inr (more_of x l h, more_of y l g)

-- two letters after one variable
two_letters : (x : Dtv) (l m : Label) → IsFitting (longer x l) → IsFitting (longer x m) → AreFitting (longer x l) (longer x m)
two_letters x l m (inl e) g = absurd (not_empty x.word l e)
two_letters x l m (inr h) (inl e) = absurd (not_empty x.word m e)
two_letters x l m (inr h) (inr g) = inr (h, g)

module _ (order : Below) (lines : List Line) (fit : AreInterfaceLines lines) where
  side_at : (b : Base) (w : List Label) (n : ℕ) → is_interface_side b w ≡ true → b ≡ Proc n → is_interface w ≡ true
  side_at (Proc m) w n t e = t
  side_at (Global m) w n t e = cc
  side_at (Exist m) w n t e = cc
  side_at (Outer m) w n t e = cc

  side_fits : (l : Line) (x : Dtv) → Contains lines l → HasSide l x → IsOfInterface x
  side_fits l x c h n e =
      side_at x.base x.word n (list_all-at is_interface_variable (sides l) x
      (All-contains (λ k. IsTrue (is_interface_line k)) lines l fit c) (Contains-sides l x h)) e

  pub derived_fits : {j : Line} → Derivable order lines j → Fits j
  derived_fits (named l {x = x} c h) = inr (side_fits l x c h)
  derived_fits (prefix {x = x} l d) = fewer x l (derived_fits d)
  derived_fits (left_side {x = x} {y = y} d) = left_of x y (derived_fits d)
  derived_fits (right_side {x = x} {y = y} d) = right_of x y (derived_fits d)
  derived_fits (same_letter {x = x} {y = y} l d e) =
      right_of (longer x l) (longer y l) (more_two x y l (derived_fits d) (derived_fits e))
  derived_fits (same_line {x = x} {y = y} c) = inr (side_fits (Same x y) x c (inl refl), side_fits (Same x y) y c (inr refl))
  derived_fits (same_sub d) = derived_fits d
  derived_fits (same_self d) = inl (refl, derived_fits d)
  derived_fits (same_back {x = x} {y = y} d) = back_of x y (derived_fits d)
  derived_fits (same_chain {x = x} {y = y} {z = z} d e) = chain_of x y z (derived_fits d) (derived_fits e)
  derived_fits (same_longer {x = x} {y = y} l d e) = more_two x y l (derived_fits d) (derived_fits e)
  derived_fits (sub_line {x = x} {y = y} c) = inr (side_fits (Sub x y) x c (inl refl), side_fits (Sub x y) y c (inr refl))
  derived_fits (sub_self d) = inl (refl, derived_fits d)
  derived_fits (sub_chain {x = x} {y = y} {z = z} d e) = chain_of x y z (derived_fits d) (derived_fits e)
  derived_fits (sub_co {x = x} {y = y} l d e s) =
      back_of (longer y l) (longer x l) (more_two y x l (back_of x y (derived_fits d)) (derived_fits e))
  derived_fits (sub_contra {x = x} {y = y} l d e s) = more_two y x l (back_of x y (derived_fits d)) (derived_fits e)
  derived_fits (sub_pointer x d e) = two_letters x Store Load (derived_fits e) (derived_fits d)
  derived_fits (low_line {k = k} {x = x} c) = inr (side_fits (Low k x) x c refl)
  derived_fits (up_line {k = k} {x = x} c) = inr (side_fits (Up x k) x c refl)
  derived_fits (low_sub {x = x} {y = y} d e a) = right_of x y (derived_fits e)
  derived_fits (up_sub {x = x} {y = y} d e a) = left_of x y (derived_fits d)
