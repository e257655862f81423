-- Bounds say nothing of `<=` lines, but that their variables exist.
use Rattle.std.proofs.Common.{◌≡◌, ℕ, inl, inr, List, [], ◌∷◌, Contains, refl, sym, subst}
use Rattle.rt_base.proofs.Lists.{Contains-none, Contains-cons_cases}
use Rattle.rt_lines.specs.declared.variable.Dtv.{Dtv}
use Rattle.rt_lines.specs.declared.line.Line.{Line}
use Rattle.rt_lines.specs.declared.line.Line.TheVariants.{Var, Same, Sub, Low, Up}
use Rattle.rt_lines.specs.Orders.{Below}
use Rattle.rt_rules.specs.Rules.{HasSide, Derivable}
use Rattle.rt_rules.specs.Rules.Derivable.{
  named,
  prefix,
  left_side,
  right_side,
  same_letter,
  same_line,
  same_sub,
  same_self,
  same_back,
  same_chain,
  same_longer,
  sub_line,
  sub_self,
  sub_chain,
  sub_co,
  sub_contra,
  sub_pointer,
  low_line,
  up_line,
  low_sub,
  up_sub,
}
use Rattle.rt_rules.proofs.Carry.{given}
use Rattle.rt_rules.proofs.Covering.{derives_more}
use Rattle.rt_outline.specs.Lines.{HasBelow, Lined}
use Rattle.rt_reduce.specs.Inside.Deciding.{IsInnerFor}

-- a second list has the variables of the first one, and derives the lines of it that are no bounds
module _ (order other : Below) (lines others : List Line)
    (sides : (l : Line) (x : Dtv) → Contains lines l → HasSide l x → Derivable other others (Var x))
    (sames : (x y : Dtv) → Contains lines (Same x y) → Derivable other others (Same x y))
    (subs : (x y : Dtv) → Contains lines (Sub x y) → Derivable other others (Sub x y)) where
  Holds : Line → Type 0
  Holds (Var x) = Derivable other others (Var x)
  Holds (Same x y) = Derivable other others (Same x y)
  Holds (Sub x y) = Derivable other others (Sub x y)
  Holds (Low k x) = Derivable other others (Var x)
  Holds (Up x k) = Derivable other others (Var x)

  holds : {j : Line} → Derivable order lines j → Holds j
  unfolding Holds
  holds (named l {x = x} c h) = sides l x c h
  holds (prefix l d) = prefix l (holds d)
  holds (left_side d) = left_side (holds d)
  holds (right_side d) = right_side (holds d)
  holds (same_letter l d e) = same_letter l (holds d) (holds e)
  holds (same_line {x = x} {y = y} c) = sames x y c
  holds (same_sub d) = same_sub (holds d)
  holds (same_self d) = same_self (holds d)
  holds (same_back d) = same_back (holds d)
  holds (same_chain d e) = same_chain (holds d) (holds e)
  holds (same_longer l d e) = same_longer l (holds d) (holds e)
  holds (sub_line {x = x} {y = y} c) = subs x y c
  holds (sub_self d) = sub_self (holds d)
  holds (sub_chain d e) = sub_chain (holds d) (holds e)
  holds (sub_co l d e s) = sub_co l (holds d) (holds e) s
  holds (sub_contra l d e s) = sub_contra l (holds d) (holds e) s
  holds (sub_pointer x d e) = sub_pointer x (holds d) (holds e)
  holds (low_line {k = k} {x = x} c) = sides (Low k x) x c refl
  holds (up_line {k = k} {x = x} c) = sides (Up x k) x c refl
  holds (low_sub d e a) = right_side (holds e)
  holds (up_sub d e a) = left_side (holds d)

  pub unbounded : (x y : Dtv) → Derivable order lines (Sub x y) → Derivable other others (Sub x y)
  unfolding Holds
  unbounded x y d = holds d

-- where arcs from inside lead, with a bound among the lines of which there is one more variable at most
module _ (order : Below) (left : List Line) (bound : Line)
    (no_same : (x y : Dtv) → bound ≡ Same x y → ⊥) (no_sub : (x y : Dtv) → bound ≡ Sub x y → ⊥)
    (there : (other : Below) (x : Dtv) → HasSide bound x → Derivable other left (Var x)) where
  behind : (l : Line) → (bound ≡ l → ⊥) → Contains (bound ∷ left) l → Contains left l
  behind l apart c = elim (Contains-cons_cases bound left l c) [ inl e ↦ absurd (apart e) | inr d ↦ d ]

  side_there : (other : Below) (l : Line) (x : Dtv) → Contains (bound ∷ left) l → HasSide l x → Derivable other left (Var x)
  side_there other l x c h = elim (Contains-cons_cases bound left l c) [
    | inl e ↦ there other x (subst (λ k. HasSide k x) (sym e) h)
    | inr d ↦ named l d h
  ]

  pub inner_below : (inner : Lined) → IsInnerFor order (bound ∷ left) inner → (from to : List Dtv) → HasBelow order inner.lines from to →
      (other : Below) → HasBelow other left from to
  inner_below inner is from to (x, y, c, d, e) other = (
    x,
    y,
    c,
    d,
    unbounded order other (bound ∷ left) left (side_there other)
        (λ a b h. given other left (Same a b) (behind (Same a b) (no_same a b) h))
        (λ a b h. given other left (Sub a b) (behind (Sub a b) (no_sub a b) h))
        x y (derives_more order inner.lines (bound ∷ left) is.derived e),
  )

pub low_below : (order : Below) (left : List Line) (k : ℕ) (x : Dtv) → ((other : Below) → Derivable other left (Var x)) → (inner : Lined) →
    IsInnerFor order (Low k x ∷ left) inner → (from to : List Dtv) → HasBelow order inner.lines from to → (other : Below) →
    HasBelow other left from to
low_below order left k x there =
    inner_below order left (Low k x) (λ a b e. absurd (cc)) (λ a b e. absurd (cc))
    (λ other z h. subst (λ v. Derivable other left (Var v)) h (there other))

pub up_below : (order : Below) (left : List Line) (k : ℕ) (x : Dtv) → ((other : Below) → Derivable other left (Var x)) → (inner : Lined) →
    IsInnerFor order (Up x k ∷ left) inner → (from to : List Dtv) → HasBelow order inner.lines from to → (other : Below) →
    HasBelow other left from to
up_below order left k x there =
    inner_below order left (Up x k) (λ a b e. absurd (cc)) (λ a b e. absurd (cc))
    (λ other z h. subst (λ v. Derivable other left (Var v)) h (there other))

-- all variables of a list of one are named where it is
pub one_named : (known sides : List Dtv) (x : Dtv) → Contains known x → sides ≡ x ∷ [] → (z : Dtv) → Contains sides z → Contains known z
one_named known sides x h e z c = elim (Contains-cons_cases x [] z (subst (λ xs. Contains xs z) e c)) [
  | inl f ↦ subst (Contains known) f h
  | inr d ↦ absurd (Contains-none z d)
]

-- where one variable lies below another one, each of a list of its own
pub one_below : (order : Below) (lines : List Line) (x y : Dtv) → HasBelow order lines (x ∷ []) (y ∷ []) → Derivable order lines (Sub x y)
one_below order lines x y (u, v, at, to, derived) =
    subst (λ (z : Dtv). Derivable order lines (Sub z y)) (sym (the_one x u at))
    (subst (λ (z : Dtv). Derivable order lines (Sub u z)) (sym (the_one y v to)) derived)
  where
    the_one : (z w : Dtv) → Contains (z ∷ []) w → z ≡ w
    the_one z w c = elim (Contains-cons_cases z [] w c) [
      | inl f ↦ f
      | inr d ↦ absurd (Contains-none w d)
    ]
