-- Lines that no chain joins to a procedure or a global may be left out: the outside derives the same loosely.
use Rattle.std.proofs.Common.{◌≡◌, ℕ, ◌⊎◌, inl, inr, List, ◌++◌, All, Contains, Bool, false, refl, sym, subst}
use Rattle.std.proofs.lemmas.List.Elements.{Contains-append_cases, Contains-append_left, Contains-append_right, All-contains}
use Rattle.rt_lines.specs.declared.label.Label.{Label}
use Rattle.rt_lines.specs.declared.label.Label.TheVariants.{Load, Store}
use Rattle.rt_lines.specs.declared.variable.Base.{Base}
use Rattle.rt_lines.specs.declared.variable.Dtv.{Dtv}
use Rattle.rt_lines.specs.declared.line.Line.{Line}
use Rattle.rt_lines.specs.declared.line.Line.TheVariants.{Var, Same, Sub, Low, Up}
use Rattle.rt_lines.specs.declared.line.Judge.{Judge}
use Rattle.rt_lines.specs.Orders.{Below}
use Rattle.rt_rules.specs.Rules.{longer, HasSide, line_of}
use Rattle.rt_loose.specs.Loose.{Loosely}
use Rattle.rt_loose.specs.Loose.Loosely.{named, prefix, left_side, right_side, same_letter, same_line, same_sub, same_self, same_back}
use Rattle.rt_loose.specs.Loose.Loosely.{same_chain, same_longer, sub_line, sub_self, sub_chain, sub_co, sub_contra, sub_pointer, loose_pointer}
use Rattle.rt_loose.specs.Loose.Loosely.{low_line, up_line, low_sub, up_sub}
use Rattle.rt_rules.specs.Alike.{IsOutside}
use Rattle.rt_marks.specs.Outsides.{LooselyAlike}
use Rattle.rt_rules.specs.Reduced.IsJoined.{joined_self}
use Rattle.rt_marks.proofs.Carrying.{given, side}
use Rattle.rt_marks.proofs.Covering.{covers_lines}
use Rattle.rt_reduction.specs.Emits.{first_side, IsFixed, IsAnchored, AreJoined}
use Rattle.rt_reduction.proofs.Anchoring.{keep_cases, keep_source, first_is_side, first_reached, side_reached}

module _ (lines : List Line) where
  abbrev Reached : Dtv → Type 0
  Reached x = IsAnchored lines x.base

  module _ (kept : List Line) (joined : AreJoined lines kept) where
    abbrev IsReached : Line → Type 0
    IsReached l = IsAnchored lines (first_side l).base

    module _ (order : Below) (inside : Base → Bool) (fixed : (l : Line) (x : Dtv) → Contains lines l → HasSide l x →
        inside x.base ≡ false → IsFixed x.base)
        (added : List Line) (outer : All (IsOutside inside) added) where
      abbrev Shows : Dtv → Type 0
      Shows x = (inside x.base ≡ false) ⊎ Reached x

      abbrev AllShow : Line → Type 0
      AllShow j = (x : Dtv) → HasSide j x → Shows x

      abbrev NoneShows : Line → Type 0
      NoneShows j = (x : Dtv) → HasSide j x → Shows x → ⊥

      abbrev D : Line → Type 0
      D j = Loosely order (kept ++ added) j

      abbrev Holds : Line → Type 0
      Holds j = (D j × AllShow j) ⊎ NoneShows j

      shows_reached : (l : Line) (x : Dtv) → Contains lines l → HasSide l x → Shows x → Reached x
      shows_reached l x c h (inl e) = (x.base, fixed l x c h e, joined_self)
      shows_reached l x c h (inr r) = r

      line_holds : (l : Line) → Contains lines l ⊎ Contains added l → Holds l
      line_holds l (inr c) = inl (
        given order (kept ++ added) l (Contains-append_right kept added l c),
        λ x h. inl (All-contains (IsOutside inside) added l outer c x h),
      )
      line_holds l (inl c) = by (keep_cases IsReached joined l c)
        where
          by : (Contains kept l × IsReached l) ⊎ (IsReached l → ⊥) → Holds l
          by (inl (d, p)) = inl (given order (kept ++ added) l (Contains-append_left kept added l d), λ x h. inr (side_reached lines l x c h p))
          by (inr none) = inr (λ x h s. none (first_reached lines l x c h (shows_reached l x c h s)))

      one : (x : Dtv) → Shows x → AllShow (Var x)
      one x s y e = subst (λ z. Shows z) e s

      two : (x y : Dtv) → Shows x → Shows y → (z : Dtv) → (x ≡ z) ⊎ (y ≡ z) → Shows z
      two x y s t z (inl e) = subst (λ z. Shows z) e s
      two x y s t z (inr e) = subst (λ z. Shows z) e t

      no_one : (x : Dtv) → (Shows x → ⊥) → NoneShows (Var x)
      no_one x n y e s = n (subst (λ z. Shows z) (sym e) s)

      no_two : (x y : Dtv) → (Shows x → ⊥) → (Shows y → ⊥) → (z : Dtv) → (x ≡ z) ⊎ (y ≡ z) → Shows z → ⊥
      no_two x y n m z (inl e) s = n (subst (λ z. Shows z) (sym e) s)
      no_two x y n m z (inr e) s = m (subst (λ z. Shows z) (sym e) s)

      side_holds : (l : Line) (x : Dtv) → HasSide l x → Holds l → Holds (Var x)
      side_holds l x h (inl (d, a)) = inl (side order (kept ++ added) l x d h, one x (a x h))
      side_holds l x h (inr n) = inr (no_one x (n x h))

      prefix_holds : (x : Dtv) (l : Label) → Holds (Var (longer x l)) → Holds (Var x)
      prefix_holds x l (inl (d, a)) = inl (prefix l d, one x (a (longer x l) refl))
      prefix_holds x l (inr n) = inr (no_one x (n (longer x l) refl))

      letter_holds : (x y : Dtv) (l : Label) → Holds (Same x y) → Holds (Var (longer x l)) → Holds (Same (longer x l) (longer y l))
      letter_holds x y l (inl (d, a)) (inl (e, b)) = inl (
        same_longer l d e,
        two (longer x l) (longer y l) (a x (inl refl)) (a y (inr refl)),
      )
      letter_holds x y l (inl (d, a)) (inr n) = absurd (n (longer x l) refl (a x (inl refl)))
      letter_holds x y l (inr n) h = inr (no_two (longer x l) (longer y l) (n x (inl refl)) (n y (inr refl)))

      back_holds : (x y : Dtv) → Holds (Same x y) → Holds (Same y x)
      back_holds x y (inl (d, a)) = inl (same_back d, two y x (a y (inr refl)) (a x (inl refl)))
      back_holds x y (inr n) = inr (no_two y x (n y (inr refl)) (n x (inl refl)))

      same_holds : (x y : Dtv) → Holds (Sub x y) → Holds (Same x y)
      same_holds x y (inl (d, a)) = inl (same_sub d, a)
      same_holds x y (inr n) = inr n

      self_holds : (x : Dtv) → Holds (Var x) → Holds (Sub x x)
      self_holds x (inl (d, a)) = inl (sub_self d, two x x (a x refl) (a x refl))
      self_holds x (inr n) = inr (no_two x x (n x refl) (n x refl))

      same_chain_holds : (x y z : Dtv) → Holds (Same x y) → Holds (Same y z) → Holds (Same x z)
      same_chain_holds x y z (inl (d, a)) (inl (e, b)) = inl (same_chain d e, two x z (a x (inl refl)) (b z (inr refl)))
      same_chain_holds x y z (inl (d, a)) (inr n) = absurd (n y (inl refl) (a y (inr refl)))
      same_chain_holds x y z (inr n) (inl (e, b)) = absurd (n y (inr refl) (b y (inl refl)))
      same_chain_holds x y z (inr n) (inr m) = inr (no_two x z (n x (inl refl)) (m z (inr refl)))

      sub_chain_holds : (x y z : Dtv) → Holds (Sub x y) → Holds (Sub y z) → Holds (Sub x z)
      sub_chain_holds x y z (inl (d, a)) (inl (e, b)) = inl (sub_chain d e, two x z (a x (inl refl)) (b z (inr refl)))
      sub_chain_holds x y z (inl (d, a)) (inr n) = absurd (n y (inl refl) (a y (inr refl)))
      sub_chain_holds x y z (inr n) (inl (e, b)) = absurd (n y (inr refl) (b y (inl refl)))
      sub_chain_holds x y z (inr n) (inr m) = inr (no_two x z (n x (inl refl)) (m z (inr refl)))

      -- a step that keeps the bases
      step_holds : (x y u w : Dtv) (l : Label) → (u.base ≡ x.base) → (w.base ≡ y.base) →
          (D (Sub x y) → D (Var (longer y l)) → D (Sub u w)) → Holds (Sub x y) → Holds (Var (longer y l)) → Holds (Sub u w)
      step_holds x y u w l e f step (inl (d, a)) (inl (g, b)) =
          inl (step d g, two u w (shows_at x u (sym e) (a x (inl refl))) (shows_at y w (sym f) (a y (inr refl))))
        where
          shows_at : (p q : Dtv) → p.base ≡ q.base → Shows p → Shows q
          shows_at p q e s = subst (λ b. (inside b ≡ false) ⊎ IsAnchored lines b) e s
      step_holds x y u w l e f step (inl (d, a)) (inr n) = absurd (n (longer y l) refl (a y (inr refl)))
      step_holds x y u w l e f step (inr n) h =
          inr (no_two u w (λ s. n x (inl refl) (subst (λ b. (inside b ≡ false) ⊎ IsAnchored lines b) e s))
          (λ s. n y (inr refl) (subst (λ b. (inside b ≡ false) ⊎ IsAnchored lines b) f s)))

      turned_holds : (x y : Dtv) (l : Label) → (D (Sub x y) → D (Var (longer y l)) → D (Sub (longer y l) (longer x l))) → Holds (Sub x y) →
          Holds (Var (longer y l)) → Holds (Sub (longer y l) (longer x l))
      turned_holds x y l step (inl (d, a)) (inl (g, b)) = inl (step d g, two (longer y l) (longer x l) (a y (inr refl)) (a x (inl refl)))
      turned_holds x y l step (inl (d, a)) (inr n) = absurd (n (longer y l) refl (a y (inr refl)))
      turned_holds x y l step (inr n) h = inr (no_two (longer y l) (longer x l) (n y (inr refl)) (n x (inl refl)))

      pointer_holds : (x : Dtv) → Holds (Var (longer x Load)) → Holds (Var (longer x Store)) → Holds (Sub (longer x Store) (longer x Load))
      pointer_holds x (inl (d, a)) (inl (e, b)) = inl (
        sub_pointer x d e,
        two (longer x Store) (longer x Load) (a (longer x Load) refl) (a (longer x Load) refl),
      )
      pointer_holds x (inl (d, a)) (inr n) = absurd (n (longer x Store) refl (a (longer x Load) refl))
      pointer_holds x (inr n) h = inr (no_two (longer x Store) (longer x Load) (n (longer x Load) refl) (n (longer x Load) refl))

      loose_holds : (x : Dtv) → Holds (Var (longer x Load)) → Holds (Var (longer x Store)) → Holds (Sub (longer x Load) (longer x Store))
      loose_holds x (inl (d, a)) (inl (e, b)) = inl (
        loose_pointer x d e,
        two (longer x Load) (longer x Store) (a (longer x Load) refl) (a (longer x Load) refl),
      )
      loose_holds x (inl (d, a)) (inr n) = absurd (n (longer x Store) refl (a (longer x Load) refl))
      loose_holds x (inr n) h = inr (no_two (longer x Load) (longer x Store) (n (longer x Load) refl) (n (longer x Load) refl))

      low_holds : (j : ℕ) (x y : Dtv) (k : ℕ) → (D (Low k x) → D (Sub x y) → D (Low j y)) → Holds (Low k x) → Holds (Sub x y) →
          Holds (Low j y)
      low_holds j x y k step (inl (d, a)) (inl (e, b)) = inl (step d e, one y (b y (inr refl)))
      low_holds j x y k step (inl (d, a)) (inr n) = absurd (n x (inl refl) (a x refl))
      low_holds j x y k step (inr n) (inl (e, b)) = absurd (n x refl (b x (inl refl)))
      low_holds j x y k step (inr n) (inr m) = inr (no_one y (m y (inr refl)))

      up_holds : (j : ℕ) (x y : Dtv) (k : ℕ) → (D (Sub x y) → D (Up y k) → D (Up x j)) → Holds (Sub x y) → Holds (Up y k) → Holds (Up x j)
      up_holds j x y k step (inl (d, a)) (inl (e, b)) = inl (step d e, one x (a x (inl refl)))
      up_holds j x y k step (inl (d, a)) (inr n) = absurd (n y refl (a y (inr refl)))
      up_holds j x y k step (inr n) (inl (e, b)) = absurd (n y (inr refl) (b y refl))
      up_holds j x y k step (inr n) (inr m) = inr (no_one x (n x (inl refl)))

      holds : {j : Line} → Loosely order (lines ++ added) j → Holds j
      holds (named l {x = x} c h) = side_holds l x h (line_holds l (Contains-append_cases lines added l c))
      holds (prefix {x = x} l d) = prefix_holds x l (holds d)
      holds (left_side {x = x} {y = y} d) = side_holds (Sub x y) x (inl refl) (holds d)
      holds (right_side {x = x} {y = y} d) = side_holds (Sub x y) y (inr refl) (holds d)
      holds (same_letter {x = x} {y = y} l d e) = side_holds (Same (longer x l) (longer y l)) (longer y l) (inr refl)
          (letter_holds x y l (holds d) (holds e))
      holds (same_line {x = x} {y = y} c) = line_holds (Same x y) (Contains-append_cases lines added (Same x y) c)
      holds (same_sub {x = x} {y = y} d) = same_holds x y (holds d)
      holds (same_self {x = x} d) = same_holds x x (self_holds x (holds d))
      holds (same_back {x = x} {y = y} d) = back_holds x y (holds d)
      holds (same_chain {x = x} {y = y} {z = z} d e) = same_chain_holds x y z (holds d) (holds e)
      holds (same_longer {x = x} {y = y} l d e) = letter_holds x y l (holds d) (holds e)
      holds (sub_line {x = x} {y = y} c) = line_holds (Sub x y) (Contains-append_cases lines added (Sub x y) c)
      holds (sub_self {x = x} d) = self_holds x (holds d)
      holds (sub_chain {x = x} {y = y} {z = z} d e) = sub_chain_holds x y z (holds d) (holds e)
      holds (sub_co {x = x} {y = y} l d e h) = step_holds x y (longer x l) (longer y l) l refl refl (λ p q. sub_co l p q h) (holds d)
          (holds e)
      holds (sub_contra {x = x} {y = y} l d e h) = turned_holds x y l (λ p q. sub_contra l p q h) (holds d) (holds e)
      holds (sub_pointer x d e) = pointer_holds x (holds d) (holds e)
      holds (loose_pointer x d e) = loose_holds x (holds d) (holds e)
      holds (low_line {k = k} {x = x} c) = line_holds (Low k x) (Contains-append_cases lines added (Low k x) c)
      holds (up_line {k = k} {x = x} c) = line_holds (Up x k) (Contains-append_cases lines added (Up x k) c)
      holds (low_sub {j = j} {k = k} {x = x} {y = y} d e a) = low_holds j x y k (λ p q. low_sub p q a) (holds d) (holds e)
      holds (up_sub {j = j} {k = k} {x = x} {y = y} d e a) = up_holds j x y k (λ p q. up_sub p q a) (holds d) (holds e)

      shown : (j : Line) → IsOutside inside j → Holds j → D j
      shown j out (inl (d, a)) = d
      shown j out (inr n) = absurd (n (first_side j) (first_is_side j) (inl (out (first_side j) (first_is_side j))))

      pub derives_kept : (j : Judge) → IsOutside inside (line_of j) → Loosely order (lines ++ added) (line_of j) → D (line_of j)
      derives_kept j out d = shown (line_of j) out (holds d)

    pub alike_joined : (order : Below) (inside : Base → Bool) →
        ((l : Line) (x : Dtv) → Contains lines l → HasSide l x → inside x.base ≡ false → IsFixed x.base) → LooselyAlike order inside lines kept
    alike_joined order inside fixed = (
      λ added j outer out d. derives_kept order inside fixed added outer j out d,
      covers_lines order inside kept lines (λ l c. given order lines l (keep_source IsReached joined l c).0),
    )
