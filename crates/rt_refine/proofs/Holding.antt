-- What holds of the bases of lines holds of the bases of what they derive.
use Rattle.std.proofs.Common.{inl, inr, List, Contains, refl}
use Rattle.rt_lines.specs.declared.variable.Base.{Base}
use Rattle.rt_lines.specs.declared.variable.Dtv.{Dtv}
use Rattle.rt_lines.specs.declared.line.Line.{Line}
use Rattle.rt_lines.specs.declared.line.Line.TheVariants.{Var, Same, Sub, Low, Up}
use Rattle.rt_lines.specs.Orders.{Below}
use Rattle.rt_rules.specs.Rules.{HasSide, Derivable}
use Rattle.rt_rules.specs.Rules.Derivable.{named, prefix, left_side, right_side, same_letter, same_line, same_sub, same_self, same_back}
use Rattle.rt_rules.specs.Rules.Derivable.{same_chain, same_longer, sub_line, sub_self, sub_chain, sub_co, sub_contra, sub_pointer}
use Rattle.rt_rules.specs.Rules.Derivable.{low_line, up_line, low_sub, up_sub}

module _ (order : Below) (lines : List Line) (P : Base → Type 0)
    (of_lines : (l : Line) (x : Dtv) → Contains lines l → HasSide l x → P x.base) where
  abbrev pub Hold : Line → Type 0
  Hold (Var x) = P x.base
  Hold (Same x y) = P x.base × P y.base
  Hold (Sub x y) = P x.base × P y.base
  Hold (Low k x) = P x.base
  Hold (Up x k) = P x.base

  pub hold : {j : Line} → Derivable order lines j → Hold j
  hold (named l {x = x} c h) = of_lines l x c h
  hold (prefix l d) = hold d
  hold (left_side d) = (hold d).0
  hold (right_side d) = (hold d).1
  hold (same_letter l d e) = (hold d).1
  hold (same_line {x = x} {y = y} c) = (of_lines (Same x y) x c (inl refl), of_lines (Same x y) y c (inr refl))
  hold (same_sub d) = hold d
  hold (same_self d) = (hold d, hold d)
  hold (same_back d) = ((hold d).1, (hold d).0)
  hold (same_chain d e) = ((hold d).0, (hold e).1)
  hold (same_longer l d e) = hold d
  hold (sub_line {x = x} {y = y} c) = (of_lines (Sub x y) x c (inl refl), of_lines (Sub x y) y c (inr refl))
  hold (sub_self d) = (hold d, hold d)
  hold (sub_chain d e) = ((hold d).0, (hold e).1)
  hold (sub_co l d e s) = hold d
  hold (sub_contra l d e s) = ((hold d).1, (hold d).0)
  hold (sub_pointer x d e) = (hold d, hold d)
  hold (low_line {k = k} {x = x} c) = of_lines (Low k x) x c refl
  hold (up_line {k = k} {x = x} c) = of_lines (Up x k) x c refl
  hold (low_sub d e a) = (hold e).1
  hold (up_sub d e a) = (hold d).0
