-- What lies below what has one shape with it by `<=` lines alone, where a store counts as a load.
use Rattle.std.proofs.Common.{◌≡◌, List, [], ◌∷◌, Contains, inl, inr, refl, sym, ap, subst, ◌∙◌}
use Rattle.std.proofs.lemmas.List.{map-append}
use Rattle.rt_lines.specs.declared.label.Label.{Label}
use Rattle.rt_lines.specs.declared.label.Label.TheVariants.{Load, Store}
use Rattle.rt_lines.specs.declared.variable.Dtv.{Dtv}
use Rattle.rt_lines.specs.declared.line.Line.{Line}
use Rattle.rt_lines.specs.declared.line.Line.TheVariants.{Var, Same, Sub}
use Rattle.rt_lines.specs.Orders.{Below}
use Rattle.rt_rules.specs.Rules.{longer, Derivable}
use Rattle.rt_rules.specs.Rules.Derivable.{named, prefix, left_side, right_side, same_letter, same_line, same_sub, same_self, same_back, same_chain, same_longer, sub_line, sub_self, sub_chain, sub_co, sub_contra, sub_pointer}
use Rattle.rt_reduce.specs.Inside.Parting.{pointed, pointed_letter}

-- a letter more, but that a store counts as a load
pub pointed_longer : (x : Dtv) (l : Label) → pointed (longer x l) ≡ longer (pointed x) (pointed_letter l)
pointed_longer x l = ap (λ w. record { base = x.base; word = w }) (map-append pointed_letter x.word (l ∷ []))

module _ (order : Below) (joins : List Line) where
  -- what has one shape with another is there, and so is the other
  both : {x y : Dtv} → Derivable order joins (Same x y) → Derivable order joins (Var x) × Derivable order joins (Var y)
  both (same_line c) = (named _ c (inl refl), named _ c (inr refl))
  both (same_sub d) = (left_side d, right_side d)
  both (same_self d) = (d, d)
  both (same_back d) = let (a, b) = both d in (b, a)
  both (same_chain d e) = ((both d).0, (both e).1)
  both (same_longer l d v) = (v, same_letter l d v)

  -- if one of the two is there, they have one shape
  pub record IsOne (x y : Dtv) : Type 0 where
    pub of_left : Derivable order joins (Var (pointed x)) → Derivable order joins (Same (pointed x) (pointed y))
    pub of_right : Derivable order joins (Var (pointed y)) → Derivable order joins (Same (pointed x) (pointed y))

  there : (x : Dtv) (l : Label) → Derivable order joins (Var (pointed (longer x l))) → Derivable order joins (Var (longer (pointed x) (pointed_letter l)))
  there x l d = subst (λ v. Derivable order joins (Var v)) (pointed_longer x l) d

  one : (x y : Dtv) (l : Label) → Derivable order joins (Same (longer (pointed x) (pointed_letter l)) (longer (pointed y) (pointed_letter l))) →
      Derivable order joins (Same (pointed (longer x l)) (pointed (longer y l)))
  one x y l d = subst (λ v. Derivable order joins (Same v (pointed (longer y l)))) (sym (pointed_longer x l))
      (subst (λ v. Derivable order joins (Same (longer (pointed x) (pointed_letter l)) v)) (sym (pointed_longer y l)) d)

  one_letter : (x y : Dtv) (l : Label) → IsOne x y → IsOne (longer x l) (longer y l)
  one_letter x y l is = record {
    of_left = λ d. let v = there x l d in one x y l (same_longer (pointed_letter l) (is.of_left (prefix (pointed_letter l) v)) v);
    of_right = λ d.
        let v = there y l d in
        one x y l (same_back (same_longer (pointed_letter l) (same_back (is.of_right (prefix (pointed_letter l) v))) v));
  }

  one_back : (x y : Dtv) → IsOne x y → IsOne y x
  one_back x y is = record { of_left = λ d. same_back (is.of_right d); of_right = λ d. same_back (is.of_left d) }

  one_pointer : (x : Dtv) → IsOne (longer x Store) (longer x Load)
  one_pointer x =
      let same : pointed (longer x Store) ≡ pointed (longer x Load) = pointed_longer x Store ∙ sym (pointed_longer x Load) in
      record {
        of_left = λ d. subst (λ v. Derivable order joins (Same (pointed (longer x Store)) v)) same (same_self d);
        of_right = λ d. subst (λ v. Derivable order joins (Same v (pointed (longer x Load)))) (sym same) (same_self d);
      }

  module _ (lines : List Line) (all : (x y : Dtv) → Contains lines (Sub x y) → Contains joins (Same (pointed x) (pointed y))) where
    pub below_one : {x y : Dtv} → Derivable order lines (Sub x y) → IsOne x y
    below_one {x = x} {y = y} (sub_line c) = record { of_left = λ d. same_line (all x y c); of_right = λ d. same_line (all x y c) }
    below_one (sub_self d) = record { of_left = λ e. same_self e; of_right = λ e. same_self e }
    below_one (sub_chain d e) = let first = below_one d in let second = below_one e in record {
      of_left = λ v. let s = first.of_left v in same_chain s (second.of_left (both s).1);
      of_right = λ v. let s = second.of_right v in same_chain (first.of_right (both s).0) s;
    }
    below_one (sub_co {x = x} {y = y} l d v e) = one_letter x y l (below_one d)
    below_one (sub_contra {x = x} {y = y} l d v e) = one_back (longer x l) (longer y l) (one_letter x y l (below_one d))
    below_one (sub_pointer x d e) = one_pointer x
