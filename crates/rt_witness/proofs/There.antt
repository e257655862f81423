-- Where a variable is there, lines name one of its shape.
use Rattle.std.proofs.Common.{◌≡◌, ◌⊎◌, inl, inr, List, Contains, refl, sym, subst}
use Rattle.rt_lines.specs.declared.label.Label.{Label}
use Rattle.rt_lines.specs.declared.variable.Dtv.{Dtv}
use Rattle.rt_lines.specs.declared.line.Line.{Line}
use Rattle.rt_lines.specs.declared.line.Line.TheVariants.{Var, Same, Sub, Low, Up}
use Rattle.rt_lines.specs.Orders.{Below}
use Rattle.rt_rules.specs.Rules.{longer, HasSide, Derivable}
use Rattle.rt_rules.specs.Rules.Derivable.{named, prefix, left_side, right_side, same_letter, same_line, same_sub, same_self, same_back, same_chain, same_longer, sub_line, sub_self, sub_chain, sub_co, sub_contra, sub_pointer, low_line, up_line, low_sub, up_sub}
use Rattle.rt_rules.proofs.Covering.{front}
use Rattle.rt_shape.specs.Shapes.{IsFront, IsNamed}
use Rattle.rt_shape.proofs.Fronts.{IsFront-longer, IsFront-self}
use Rattle.rt_witness.proofs.Fronts.{front_of_longer}

module _ (order : Below) (lines : List Line) where
  -- the lines name a variable of one shape with it
  abbrev pub HasWitness : Dtv → Type 0
  HasWitness x = (y : Dtv) × IsNamed lines y × Derivable order lines (Same y x)

  -- and with each front of it
  abbrev AreFronts : Dtv → Type 0
  AreFronts x = (z : Dtv) → IsFront z x → HasWitness z

  abbrev AreSides : Line → Type 0
  AreSides (Var x) = AreFronts x
  AreSides (Same x y) = AreFronts x × AreFronts y
  AreSides (Sub x y) = AreFronts x × AreFronts y
  AreSides (Low k x) = AreFronts x
  AreSides (Up x k) = AreFronts x

  of_side : (l : Line) (x : Dtv) → Contains lines l → HasSide l x → AreFronts x
  of_side l x c h z (w, e) = (z, (l, x, c, h, (w, e)), same_self (front order lines z w (subst (λ v. Derivable order lines (Var v)) (sym e) (named l c h))))

  fewer : (x : Dtv) (l : Label) → AreFronts (longer x l) → AreFronts x
  fewer x l are z f = are z (IsFront-longer z x l f)

  whole : (x : Dtv) → AreFronts x → HasWitness x
  whole x are = are x (IsFront-self x x refl)

  passed : (x y : Dtv) → HasWitness x → Derivable order lines (Same x y) → HasWitness y
  passed x y (z, n, s) d = (z, n, same_chain s d)

  -- a letter behind a variable of one shape
  onward : (x y : Dtv) (l : Label) → AreFronts y → AreFronts (longer x l) → Derivable order lines (Same (longer x l) (longer y l)) →
      AreFronts (longer y l)
  onward x y l fronts are d z f = by (front_of_longer z y l f)
    where
      by : (z ≡ longer y l) ⊎ IsFront z y → HasWitness z
      by (inl e) = subst HasWitness (sym e) (passed (longer x l) (longer y l) (whole (longer x l) are) d)
      by (inr g) = fronts z g

  sides : {j : Line} → Derivable order lines j → AreSides j
  sides (named l {x = x} c h) = of_side l x c h
  sides (prefix {x = x} l d) = fewer x l (sides d)
  sides (left_side d) = (sides d).0
  sides (right_side d) = (sides d).1
  sides (same_letter {x = x} {y = y} l d e) = onward x y l (sides d).1 (sides e) (same_longer l d e)
  sides (same_line {x = x} {y = y} c) = (of_side (Same x y) x c (inl refl), of_side (Same x y) y c (inr refl))
  sides (same_sub d) = sides d
  sides (same_self d) = (sides d, sides d)
  sides (same_back d) = let both = sides d in (both.1, both.0)
  sides (same_chain d e) = ((sides d).0, (sides e).1)
  sides (same_longer {x = x} {y = y} l d e) = (sides e, onward x y l (sides d).1 (sides e) (same_longer l d e))
  sides (sub_line {x = x} {y = y} c) = (of_side (Sub x y) x c (inl refl), of_side (Sub x y) y c (inr refl))
  sides (sub_self d) = (sides d, sides d)
  sides (sub_chain d e) = ((sides d).0, (sides e).1)
  sides (sub_co {x = x} {y = y} l d e s) = (onward y x l (sides d).0 (sides e) (same_longer l (same_back (same_sub d)) e), sides e)
  sides (sub_contra {x = x} {y = y} l d e s) = (sides e, onward y x l (sides d).0 (sides e) (same_longer l (same_back (same_sub d)) e))
  sides (sub_pointer x d e) = (sides e, sides d)
  sides (low_line {k = k} {x = x} c) = of_side (Low k x) x c refl
  sides (up_line {k = k} {x = x} c) = of_side (Up x k) x c refl
  sides (low_sub d e a) = (sides e).1
  sides (up_sub d e a) = (sides d).0

  pub has_witness : (x : Dtv) → Derivable order lines (Var x) → HasWitness x
  has_witness x d = whole x (sides d)
