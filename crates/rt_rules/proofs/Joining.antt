-- Lists with more lines of the outside, and lists with a line less.
use Rattle.std.proofs.Common.{◌≡◌, ◌⊎◌, inl, inr, List, ◌∷◌, ◌++◌, All, Contains, Bool, sym, subst, append_assoc}
use Rattle.std.proofs.lemmas.List.Elements.{All-append}
use Rattle.rt_base.proofs.Lists.{Contains-cons_cases, Contains-there}
use Rattle.rt_lines.specs.declared.variable.Base.{Base}
use Rattle.rt_lines.specs.declared.line.Line.{Line}
use Rattle.rt_lines.specs.Orders.{Below}
use Rattle.rt_rules.specs.Rules.{Derivable, line_of}
use Rattle.rt_rules.specs.Alike.{IsOutside, Covers}
use Rattle.rt_rules.specs.Laws.{UnionLaw, DropLaw}
use Rattle.rt_rules.proofs.Carry.{given}
use Rattle.rt_rules.proofs.Covering.{exchange}

-- a list that covers another covers it under more lines of the outside
pub Covers-append : (order : Below) (inside : Base → Bool) (first second more : List Line) → All (IsOutside inside) more → Covers order inside first second → Covers order inside (first ++ more) (second ++ more)
Covers-append order inside first second more out covers = λ added j out_added out_j d.
    subst (λ lines. Derivable order lines (line_of j)) (sym (append_assoc second more added))
    (covers (more ++ added) j (All-append (IsOutside inside) more added out out_added) out_j
    (subst (λ lines. Derivable order lines (line_of j)) (append_assoc first more added) d))

pub union_lem : UnionLaw
union_lem order inside first second more out alike = (Covers-append order inside first second more out alike.0, Covers-append order inside second first more out alike.1)

dropped : (order : Below) (lines : List Line) (l k : Line) → Derivable order lines l → (l ≡ k) ⊎ Contains lines k → Derivable order lines k
dropped order lines l k d (inl e) = subst (Derivable order lines) e d
dropped order lines l k d (inr c) = given order lines k c

pub dropping_lem : DropLaw
dropping_lem order inside lines l d =
    exchange order inside (l ∷ lines) lines (λ k c. dropped order lines l k d (Contains-cons_cases l lines k c))
    (λ k c. given order (l ∷ lines) k (Contains-there l lines k c))
