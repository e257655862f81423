-- Loose derivations carried from one list of lines to another.
use Rattle.std.proofs.Common.{◌≡◌, ◌⊎◌, inl, inr, List, Contains, refl, subst}
use Rattle.rt_lines.specs.declared.label.Label.{Label}
use Rattle.rt_lines.specs.declared.label.Label.TheVariants.{Load, Store}
use Rattle.rt_lines.specs.declared.variable.Dtv.{Dtv}
use Rattle.rt_lines.specs.declared.line.Line.{Line}
use Rattle.rt_lines.specs.declared.line.Line.TheVariants.{Var, Same, Sub, Low, Up}
use Rattle.rt_lines.specs.Orders.{Below}
use Rattle.rt_rules.specs.Rules.{longer, HasSide}
use Rattle.rt_loose.specs.Loose.{Loosely}
use Rattle.rt_loose.specs.Loose.Loosely.{named, prefix, left_side, right_side, same_letter, same_line, same_sub, same_self, same_back, same_chain, same_longer, sub_line, sub_self, sub_chain, sub_co, sub_contra, sub_pointer, low_line, up_line, low_sub, up_sub, loose_pointer}
use Rattle.rt_rules.specs.Alike.{map_line}
use Rattle.rt_rules.proofs.Carry.{HasSide-map}

-- a line is derivable from the lines that it stands in
pub given : (order : Below) (lines : List Line) (l : Line) → Contains lines l → Loosely order lines l
given order lines (Var x) h = named (Var x) h refl
given order lines (Same x y) h = same_line h
given order lines (Sub x y) h = sub_line h
given order lines (Low k x) h = low_line h
given order lines (Up x k) h = up_line h

-- the sides of a judgement are variables that there are
abbrev pub AreThere : Below → List Line → Line → Type 0
AreThere order lines (Var x) = Loosely order lines (Var x)
AreThere order lines (Same x y) = Loosely order lines (Var x) × Loosely order lines (Var y)
AreThere order lines (Sub x y) = Loosely order lines (Var x) × Loosely order lines (Var y)
AreThere order lines (Low k x) = Loosely order lines (Var x)
AreThere order lines (Up x k) = Loosely order lines (Var x)

pub are_there : (order : Below) (lines : List Line) {j : Line} → Loosely order lines j → AreThere order lines j
are_there order lines (named l c h) = named l c h
are_there order lines (prefix l d) = prefix l d
are_there order lines (left_side d) = left_side d
are_there order lines (right_side d) = right_side d
are_there order lines (same_letter l d e) = same_letter l d e
are_there order lines (same_line {x = x} {y = y} c) = (named (Same x y) c (inl refl), named (Same x y) c (inr refl))
are_there order lines (same_sub d) = are_there order lines d
are_there order lines (same_self d) = (d, d)
are_there order lines (same_back d) = let both = are_there order lines d in (both.1, both.0)
are_there order lines (same_chain d e) = ((are_there order lines d).0, (are_there order lines e).1)
are_there order lines (same_longer l d e) = (e, same_letter l d e)
are_there order lines (sub_line {x = x} {y = y} c) = (named (Sub x y) c (inl refl), named (Sub x y) c (inr refl))
are_there order lines (sub_self d) = (d, d)
are_there order lines (sub_chain d e) = ((are_there order lines d).0, (are_there order lines e).1)
are_there order lines (sub_co l d e s) = (same_letter l (same_back (same_sub d)) e, e)
are_there order lines (sub_contra l d e s) = (e, same_letter l (same_back (same_sub d)) e)
are_there order lines (sub_pointer x d e) = (e, d)
are_there order lines (loose_pointer x d e) = (d, e)
are_there order lines (low_line {k = k} {x = x} c) = named (Low k x) c refl
are_there order lines (up_line {k = k} {x = x} c) = named (Up x k) c refl
are_there order lines (low_sub d e a) = right_side e
are_there order lines (up_sub d e a) = left_side d

side_cases : (order : Below) (lines : List Line) (x y z : Dtv) → Loosely order lines (Var x) × Loosely order lines (Var y) → (x ≡ z) ⊎ (y ≡ z) → Loosely order lines (Var z)
side_cases order lines x y z both (inl e) = subst (λ v. Loosely order lines (Var v)) e both.0
side_cases order lines x y z both (inr e) = subst (λ v. Loosely order lines (Var v)) e both.1

-- a side of a derivable judgement is a variable that there is
pub side : (order : Below) (lines : List Line) (j : Line) (x : Dtv) → Loosely order lines j → HasSide j x → Loosely order lines (Var x)
side order lines (Var x) z d e = subst (λ v. Loosely order lines (Var v)) e d
side order lines (Same x y) z d h = side_cases order lines x y z (are_there order lines d) h
side order lines (Sub x y) z d h = side_cases order lines x y z (are_there order lines d) h
side order lines (Low k x) z d e = subst (λ v. Loosely order lines (Var v)) e (are_there order lines d)
side order lines (Up x k) z d e = subst (λ v. Loosely order lines (Var v)) e (are_there order lines d)

-- a map of variables that keeps letters carries each derivation along, where the second list derives the image of each line of the first
module _ (order : Below) (lines others : List Line) (f : Dtv → Dtv) (keeps : (x : Dtv) (l : Label) → f (longer x l) ≡ longer (f x) l) (gives : (l : Line) → Contains lines l → Loosely order others (map_line f l)) where
  there : (x : Dtv) (l : Label) → Loosely order others (Var (f (longer x l))) → Loosely order others (Var (longer (f x) l))
  there x l d = subst (λ v. Loosely order others (Var v)) (keeps x l) d

  pub carry : {j : Line} → Loosely order lines j → Loosely order others (map_line f j)
  carry (named l {x = x} c h) = side order others (map_line f l) (f x) (gives l c) (HasSide-map f l x h)
  carry (prefix {x = x} l d) = prefix l (there x l (carry d))
  carry (left_side d) = left_side (carry d)
  carry (right_side d) = right_side (carry d)
  carry (same_letter {x = x} {y = y} l d e) = rw (keeps y l) (same_letter l (carry d) (there x l (carry e)))
  carry (same_line {x = x} {y = y} c) = gives (Same x y) c
  carry (same_sub d) = same_sub (carry d)
  carry (same_self d) = same_self (carry d)
  carry (same_back d) = same_back (carry d)
  carry (same_chain d e) = same_chain (carry d) (carry e)
  carry (same_longer {x = x} {y = y} l d e) = rw (keeps x l, keeps y l) (same_longer l (carry d) (there x l (carry e)))
  carry (sub_line {x = x} {y = y} c) = gives (Sub x y) c
  carry (sub_self d) = sub_self (carry d)
  carry (sub_chain d e) = sub_chain (carry d) (carry e)
  carry (sub_co {x = x} {y = y} l d e s) = rw (keeps x l, keeps y l) (sub_co l (carry d) (there y l (carry e)) s)
  carry (sub_contra {x = x} {y = y} l d e s) = rw (keeps x l, keeps y l) (sub_contra l (carry d) (there y l (carry e)) s)
  carry (sub_pointer x d e) = rw (keeps x Load, keeps x Store) (sub_pointer (f x) (there x Load (carry d)) (there x Store (carry e)))
  carry (loose_pointer x d e) = rw (keeps x Load, keeps x Store) (loose_pointer (f x) (there x Load (carry d)) (there x Store (carry e)))
  carry (low_line {k = k} {x = x} c) = gives (Low k x) c
  carry (up_line {k = k} {x = x} c) = gives (Up x k) c
  carry (low_sub d e a) = low_sub (carry d) (carry e) a
  carry (up_sub d e a) = up_sub (carry d) (carry e) a
