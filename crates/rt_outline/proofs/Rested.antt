-- Ways of arcs of lines that stand, and of pushed arcs that rest on such ways.
use Rattle.std.proofs.Common.{◌≡◌, ℕ, ◌⊎◌, inl, inr, Bool, false, List, [], ◌∷◌, ◌++◌, Contains, Option, Some, None, sym, subst, ap, ◌∙◌}
use Rattle.std.specs.Prelude.{IfSome}
use Rattle.std.proofs.lemmas.List.Elements.{Contains-push_cases}
use Rattle.rt_base.proofs.Lists.{Contains-none}
use Rattle.rt_named.specs.Numbers.{IsLeft}
use Rattle.rt_lines.specs.declared.label.Label.{Label}
use Rattle.rt_lines.specs.declared.label.Label.TheVariants.{Store}
use Rattle.rt_lines.specs.declared.label.Variance.TheVariants.{Co, Contra}
use Rattle.rt_lines.specs.declared.variable.Dtv.{Dtv}
use Rattle.rt_lines.specs.declared.line.Line.{Line}
use Rattle.rt_lines.specs.declared.line.Line.TheVariants.{Sub, Var}
use Rattle.rt_lines.specs.Orders.{Below}
use Rattle.rt_lines.specs.Words.{label_variance}
use Rattle.rt_rules.specs.Rules.{Derivable, longer}
use Rattle.rt_rules.specs.Rules.Derivable.{left_side, prefix, right_side, same_letter, same_sub, sub_chain, sub_co, sub_contra, sub_pointer, sub_self}
use Rattle.rt_outline.specs.declared.arc.Arc.{Arc}
use Rattle.rt_outline.specs.Arcs.{AreLed, AreTurned, Leads}
use Rattle.rt_outline.specs.Frames.{variable_at}
use Rattle.rt_outline.specs.Lines.{AreLineArcs, standing}
use Rattle.rt_outline.specs.declared.resting.Kept.{Kept}
use Rattle.rt_outline.specs.Inside.Resting.{AreBelowSome, AreKnown, AreMoreRested, AreRested, IsBehind, IsBelowSome, IsOrdered, IsPointer, IsSide, Rests}
use Rattle.rt_outline.proofs.Leading.{chained, line_derived}

-- by the rules, where a variable lies below another if one of the two exists
module _ (order : Below) (lines : List Line) where
  abbrev IsSure : Dtv → Dtv → Type 0
  IsSure x y = Derivable order lines (Var x) ⊎ Derivable order lines (Var y) → Derivable order lines (Sub x y)

  self_sure : (x : Dtv) → IsSure x x
  self_sure x (inl d) = sub_self d
  self_sure x (inr d) = sub_self d

  chain_sure : (x y z : Dtv) → IsSure x y → IsSure y z → IsSure x z
  chain_sure x y z f g (inl d) = let h : Derivable order lines (Sub x y) = f (inl d) in sub_chain h (g (inl (right_side h)))
  chain_sure x y z f g (inr d) = let h : Derivable order lines (Sub y z) = g (inr d) in sub_chain (f (inr (left_side h))) h

  co_sure : (x y : Dtv) (l : Label) → label_variance l ≡ Co → IsSure x y → IsSure (longer x l) (longer y l)
  co_sure x y l e f (inl d) = let h : Derivable order lines (Sub x y) = f (inl (prefix l d)) in sub_co l h (same_letter l (same_sub h) d) e
  co_sure x y l e f (inr d) = let h : Derivable order lines (Sub x y) = f (inr (prefix l d)) in sub_co l h d e

  contra_sure : (x y : Dtv) (l : Label) → label_variance l ≡ Contra → IsSure y x → IsSure (longer x l) (longer y l)
  contra_sure x y l e f (inl d) = let h : Derivable order lines (Sub y x) = f (inr (prefix l d)) in sub_contra l h d e
  contra_sure x y l e f (inr d) = let h : Derivable order lines (Sub y x) = f (inl (prefix l d)) in sub_contra l h (same_letter l (same_sub h) d) e

module _ (named : List Dtv) where
  -- behind one letter
  pub is_behind : (v w p q : ℕ) (l m : Label) (pair : ℕ × ℕ) → variable_at named v ≡ longer (variable_at named p) l → variable_at named w ≡ longer (variable_at named q) m →
      (l ≡ m) × IsOrdered l p q pair → IsBehind named v w pair
  is_behind v w p q l m pair e f (same, ordered) arcs stands rests lines count order are =
      subst (λ x. IsSure order (standing lines stands) x (variable_at named w)) (sym e)
      (subst (λ y. IsSure order (standing lines stands) (longer (variable_at named p) l) y) (sym (f ∙ ap (longer (variable_at named q)) (sym same))) (by ordered))
    where
      now : IsSure order (standing lines stands) (variable_at named (pair.0)) (variable_at named (pair.1))
      now = rests lines count order are

      by : IsOrdered l p q pair → IsSure order (standing lines stands) (longer (variable_at named p) l) (longer (variable_at named q) l)
      by (inl (co, left, right)) =
          co_sure order (standing lines stands) (variable_at named p) (variable_at named q) l co
          (subst (λ n. IsSure order (standing lines stands) (variable_at named n) (variable_at named q)) left
          (subst (λ n. IsSure order (standing lines stands) (variable_at named (pair.0)) (variable_at named n)) right now))
      by (inr (contra, left, right)) =
          contra_sure order (standing lines stands) (variable_at named p) (variable_at named q) l contra
          (subst (λ n. IsSure order (standing lines stands) (variable_at named n) (variable_at named p)) left
          (subst (λ n. IsSure order (standing lines stands) (variable_at named (pair.0)) (variable_at named n)) right now))

  module _ (arcs : List (List Arc)) (stands : List Bool) where
    pub rests_self : (v : ℕ) → Rests named arcs stands v v
    rests_self v lines count order are = self_sure order (standing lines stands) (variable_at named v)

    pub rests_chain : (u v w : ℕ) → Rests named arcs stands u v → Rests named arcs stands v w → Rests named arcs stands u w
    rests_chain u v w r s lines count order are =
        chain_sure order (standing lines stands) (variable_at named u) (variable_at named v) (variable_at named w) (r lines count order are) (s lines count order are)

    pub rests_line : (v w : ℕ) → Leads arcs stands false v w → Rests named arcs stands v w
    rests_line v w e lines count order are there = line_derived lines named arcs stands count are order v w e

    -- what is found from what is found
    pub rested_more : (source next : ℕ) (old new : List ℕ) → Contains old next → AreRested named arcs stands source old → AreMoreRested named arcs stands next old new → AreRested named arcs stands source new
    rested_more source next old new c are more w d = elim (more w d) [ inl e ↦ are w e | inr r ↦ rests_chain source next w (are next c) r ]

    pub more_chain : (from : ℕ) (old mid new : List ℕ) → AreMoreRested named arcs stands from old mid → AreMoreRested named arcs stands from mid new → AreMoreRested named arcs stands from old new
    more_chain from old mid new f g w d = elim (g w d) [ inl e ↦ f w e | inr r ↦ inr r ]

    -- a side of a line that stands exists
    side_there : (v : ℕ) → IsSide arcs stands v → (lines : List Line) (count : ℕ) (order : Below) → AreLineArcs lines count named arcs → Derivable order (standing lines stands) (Var (variable_at named v))
    side_there v (w, inl e) lines count order are = left_side (line_derived lines named arcs stands count are order v w e)
    side_there v (w, inr e) lines count order are = right_side (line_derived lines named arcs stands count are order w v e)

    pub side_back : (back : List (List Arc)) → AreTurned arcs back → (v w : ℕ) → Leads back stands false v w → IsSide arcs stands v
    side_back back turned v w (line, c, e) = (w, inr (line, (turned w v line).1 c, e))

    pub rests_pointer : (v w : ℕ) → IsPointer named v w → IsSide arcs stands v → IsSide arcs stands w → Rests named arcs stands v w
    rests_pointer v w (p, e, f) left right lines count order are there =
        subst (λ x. Derivable order (standing lines stands) (Sub x (variable_at named w))) (sym e)
        (subst (λ y. Derivable order (standing lines stands) (Sub (longer (variable_at named p) Store) y)) (sym f)
        (sub_pointer (variable_at named p) (subst (λ x. Derivable order (standing lines stands) (Var x)) f (side_there w right lines count order are))
        (subst (λ x. Derivable order (standing lines stands) (Var x)) e (side_there v left lines count order are))))

    -- where one of those that were found is such a side
    pub below_some : (source : ℕ) (found targets : List ℕ) (v t : ℕ) → AreRested named arcs stands source found → Contains found v → IsSide arcs stands v → Contains targets t → Contains found t →
        IsBelowSome named arcs stands source targets
    below_some source found targets v t are c side d f lines count order line_arcs =
        let h : Derivable order (standing lines stands) (Sub (variable_at named source) (variable_at named v)) =
        are v c lines count order line_arcs (inr (side_there v side lines count order line_arcs)) in
        (t, d, are t f lines count order line_arcs (inl (left_side h)))

    -- arcs of lines alone
    pub led_below : (sources targets : List ℕ) → AreLed (Leads arcs stands false) sources targets → AreBelowSome named arcs stands sources targets
    led_below sources targets (s, v, t, c, e, r, d) =
        (s, c, λ lines count order are. (t, d, chained lines named arcs stands count are order s v t (line_derived lines named arcs stands count are order s v e) r))

    -- the source alone
    pub rested_first : (source : ℕ) (none first : List ℕ) → none ≡ [] → IsLeft (λ (w : ℕ). source ≡ w) none first → AreRested named arcs stands source first
    rested_first source none first e left w c = elim (left.only w c) [
      | inl d ↦ absurd (Contains-none w (subst (λ xs. Contains xs w) e d))
      | inr f ↦ subst (Rests named arcs stands source) f (rests_self source)
    ]

    pub more_one : (from to : ℕ) (old new : List ℕ) → Rests named arcs stands from to → IsLeft (λ (w : ℕ). to ≡ w) old new → AreMoreRested named arcs stands from old new
    more_one from to old new r left w c = elim (left.only w c) [ inl d ↦ inl d | inr e ↦ inr (subst (Rests named arcs stands from) e r) ]

    pub known_more : (source : ℕ) (found : List ℕ) (old new : List Kept) → new ≡ old ++ record { source = source; found = found } ∷ [] → AreKnown named arcs stands old → AreRested named arcs stands source found → AreKnown named arcs stands new
    known_more source found old new e are rested k c w d = elim (Contains-push_cases old (record { source = source; found = found }) k (subst (λ (xs : List Kept). Contains xs k) e c)) [
      | inl b ↦ are k b w d
      | inr f ↦ subst (λ (m : Kept). Rests named arcs stands m.source w) f (rested w (subst (λ (m : Kept). Contains m.found w) (sym f) d))
    ]

-- of what two variables are made
pub behind_some : (named : List Dtv) (v w p q : ℕ) (l m : Label) (pair : Option (ℕ × ℕ)) → variable_at named v ≡ longer (variable_at named p) l → variable_at named w ≡ longer (variable_at named q) m →
    IfSome pair (λ (o : ℕ × ℕ). (l ≡ m) × IsOrdered l p q o) → IfSome pair (λ (o : ℕ × ℕ). IsBehind named v w o)
behind_some named v w p q l m None e f is = is
behind_some named v w p q l m (Some pair) e f is = is_behind named v w p q l m pair e f is
