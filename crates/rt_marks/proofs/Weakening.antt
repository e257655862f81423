-- The lines of idle existentials may become their shapes, of one existential after another, and the outside derives the same loosely.
use Rattle.std.proofs.Common.{◌≡◌, ◌≢◌, ℕ, zero, suc, ◌+◌, ◌<◌, ◌≤◌, ◌⊎◌, inl, inr, List, [], ◌∷◌, ◌++◌, Contains}
use Rattle.std.proofs.Common.{Bool, true, false, cond, ◌||◌, ◌&&◌, refl, ap, sym, ◌∙◌, subst, arith}
use Rattle.std.specs.Prelude.{nat_lt}
use Rattle.std.proofs.lemmas.Bool.{cases_Bool, cases_eq, lt-ltb, le-ltb, ltb-true, ltb-false}
use Rattle.std.proofs.lemmas.List.Elements.{Contains-append_cases, Contains-append_left, Contains-append_right, All-contains}
use Rattle.rt_base.proofs.Lists.{Contains-map, Contains-map_source}
use Rattle.rt_lines.specs.declared.variable.Base.{Base}
use Rattle.rt_lines.specs.declared.variable.Base.TheVariants.{Proc, Global, Exist, Outer}
use Rattle.rt_lines.specs.declared.label.Label.{Label}
use Rattle.rt_lines.specs.declared.line.Line.{Line}
use Rattle.rt_lines.specs.declared.line.Line.TheVariants.{Var, Same, Sub, Low, Up}
use Rattle.rt_lines.specs.Orders.{Below}
use Rattle.rt_rules.specs.Rules.{line_of}
use Rattle.rt_loose.specs.Loose.{Loosely}
use Rattle.rt_loose.specs.Loose.Loosely.{named, same_line, same_sub, sub_line}
use Rattle.rt_rules.specs.Alike.{IsOutside}
use Rattle.rt_marks.specs.Outsides.{LooselyCovers, LooselyAlike}
use Rattle.rt_marks.proofs.Carrying.{given}
use Rattle.rt_marks.proofs.Covering.{covers_lines, loosely-refl, loosely-trans}
use Rattle.rt_rules.proofs.Renaming.{one_base}
use Rattle.rt_trim.specs.Idle.{HasFlow, IsIdle, AreIdle, is_idle, trimmed_line, trimmed}
use Rattle.rt_marks.specs.Laws.{TrimsAlikeLaw}
use Rattle.rt_trim.proofs.Ends.{IsFlowOf, shape_of}
use Rattle.rt_marks.proofs.Ends.{IsKept, derived_without}

not_outside : (inside : Base → Bool) (b c : Base) → inside b ≡ false → inside c ≡ true → b ≢ c
not_outside inside b c e f g = let h : inside c ≡ false = subst (λ a. inside a ≡ false) g e in cc

-- a line of the outside isn't of an inside existential
outside_apart : (inside : Base → Bool) (n : ℕ) → inside (Exist n) ≡ true → (l : Line) → IsOutside inside l → IsFlowOf n l → ⊥
outside_apart inside n inner (Var x) out h = h
outside_apart inside n inner (Same x y) out h = h
outside_apart inside n inner (Sub x y) out (inl e) = not_outside inside x.base (Exist n) (out x (inl refl)) inner e
outside_apart inside n inner (Sub x y) out (inr e) = not_outside inside y.base (Exist n) (out y (inr refl)) inner e
outside_apart inside n inner (Low k x) out e = not_outside inside x.base (Exist n) (out x refl) inner e
outside_apart inside n inner (Up x k) out e = not_outside inside x.base (Exist n) (out x refl) inner e

-- the shape of a line is derivable where the line stands
shape_derives : (order : Below) (lines : List Line) (l : Line) → Contains lines l → Loosely order lines (shape_of l)
shape_derives order lines (Var x) c = named (Var x) c refl
shape_derives order lines (Same x y) c = same_line c
shape_derives order lines (Sub x y) c = same_sub (sub_line c)
shape_derives order lines (Low k x) c = named (Low k x) c refl
shape_derives order lines (Up x k) c = named (Up x k) c refl

abbrev IsOrdered : Line → Type 0
IsOrdered (Var x) = ⊥
IsOrdered (Same x y) = ⊥
IsOrdered (Sub x y) = Unit {0}
IsOrdered (Low k x) = Unit {0}
IsOrdered (Up x k) = Unit {0}

flow_ordered : (n : ℕ) (w : List Label) (l : Line) → HasFlow n w l → IsOrdered l
flow_ordered n w (Var x) h = absurd h
flow_ordered n w (Same x y) h = absurd h
flow_ordered n w (Sub x y) h = tt
flow_ordered n w (Low k x) h = tt
flow_ordered n w (Up x k) h = tt

ordered_cond : (b : Bool) (s l : Line) → (IsOrdered s → ⊥) → IsOrdered (cond b s l) → cond b s l ≡ l
ordered_cond true s l none h = absurd (none h)
ordered_cond false s l none h = refl

-- a `<=` line or bound that is left is the line itself
ordered_stays : (f : ℕ → Bool) (l : Line) → IsOrdered (trimmed_line f l) → trimmed_line f l ≡ l
ordered_stays f (Var x) h = refl
ordered_stays f (Same x y) h = refl
ordered_stays f (Sub x y) h = ordered_cond (is_idle f x.base || is_idle f y.base) (Same x y) (Sub x y) (λ h. h) h
ordered_stays f (Low k x) h = ordered_cond (is_idle f x.base) (Var x) (Low k x) (λ h. h) h
ordered_stays f (Up x k) h = ordered_cond (is_idle f x.base) (Var x) (Up x k) (λ h. h) h

ordered_source : (f : ℕ → Bool) (lines : List Line) (l : Line) → IsOrdered l → Contains (trimmed f lines) l → Contains lines l
ordered_source f lines l h c =
    let s : (k : Line) × Contains lines k × (trimmed_line f k ≡ l) = Contains-map_source (trimmed_line f) lines l c in
    let e : trimmed_line f s.0 ≡ s.0 = ordered_stays f s.0 (subst IsOrdered (sym s.2) h) in
    subst (Contains lines) (sym e ∙ s.2) s.1

-- an idle existential stays idle
still_idle : (f : ℕ → Bool) (lines : List Line) (n : ℕ) → IsIdle lines n → IsIdle (trimmed f lines) n
still_idle f lines n idle = record {
  apart = λ k l u w c d h g b. idle.apart k l u w (ordered_source f lines k (flow_ordered n u k h) c)
      (ordered_source f lines l (flow_ordered n w l g) d) h g b;
  one_side = λ x y c e g. idle.one_side x y (ordered_source f lines (Sub x y) tt c) e g;
}

-- a flag before and after: it becomes true where P holds, and stays else
data Turns (P : Type 0) : Bool → Bool → Type 0 where
  was_true : Turns P true true
  becomes_true : P → Turns P false true
  stays_false : (P → ⊥) → Turns P false false

stays : {P : Type 0} (b : Bool) → (P → ⊥) → Turns P b b
stays true none = was_true
stays false none = stays_false none

neither : {P Q : Type 0} → (P → ⊥) → (Q → ⊥) → P ⊎ Q → ⊥
neither h g (inl p) = h p
neither h g (inr q) = g q

either_turns : {P Q : Type 0} {a b c d : Bool} → Turns P a b → Turns Q c d → Turns (P ⊎ Q) (a || c) (b || d)
either_turns was_true q = was_true
either_turns (becomes_true p) was_true = was_true
either_turns (becomes_true p) (becomes_true q) = becomes_true (inl p)
either_turns (becomes_true p) (stays_false g) = becomes_true (inl p)
either_turns (stays_false h) was_true = was_true
either_turns (stays_false h) (becomes_true q) = becomes_true (inr q)
either_turns (stays_false h) (stays_false g) = stays_false (neither h g)

-- flags of which the second have one existential more
module _ (f g : ℕ → Bool) (n : ℕ) (before : f n ≡ false) (after : g n ≡ true) (others : (m : ℕ) → m ≢ n → g m ≡ f m) where
  base_turns : (b : Base) → Turns (b ≡ Exist n) (is_idle f b) (is_idle g b)
  base_turns (Proc m) = stays_false (λ e. cc)
  base_turns (Global m) = stays_false (λ e. cc)
  base_turns (Outer m) = stays_false (λ e. cc)
  base_turns (Exist m) = by (one_base (Exist m) (Exist n))
    where
      by : (Exist m ≡ Exist n) ⊎ (Exist m ≡ Exist n → ⊥) → Turns (Exist m ≡ Exist n) (f m) (g m)
      by (inl e) = let h : m ≡ n = cc in rw (ap f h ∙ before, ap g h ∙ after) (becomes_true e)
      by (inr apart) = rw (others m (λ e. apart (ap Exist e))) (stays (f m) apart)

  -- of what is left of a line by the first flags, and by the second
  abbrev Becomes : Line → Line → Type 0
  Becomes first second = ((IsFlowOf n first → ⊥) × (second ≡ first)) ⊎ (IsFlowOf n first × (second ≡ shape_of first))

  turn : {a b : Bool} (l : Line) → (IsFlowOf n (shape_of l) → ⊥) → Turns (IsFlowOf n l) a b →
      Becomes (cond a (shape_of l) l) (cond b (shape_of l) l)
  turn l none was_true = inl (none, refl)
  turn l none (becomes_true h) = inr (h, refl)
  turn l none (stays_false h) = inl (h, refl)

  becomes : (l : Line) → Becomes (trimmed_line f l) (trimmed_line g l)
  becomes (Var x) = inl (λ h. h, refl)
  becomes (Same x y) = inl (λ h. h, refl)
  becomes (Sub x y) = turn (Sub x y) (λ h. h) (either_turns (base_turns x.base) (base_turns y.base))
  becomes (Low k x) = turn (Low k x) (λ h. h) (base_turns x.base)
  becomes (Up x k) = turn (Up x k) (λ h. h) (base_turns x.base)

  module _ (order : Below) (inside : Base → Bool) (lines : List Line) (inner : inside (Exist n) ≡ true) (idle : IsIdle lines n) where
    forth : LooselyCovers order inside (trimmed f lines) (trimmed g lines)
    forth added j out out_j d =
        derived_without order (trimmed g lines ++ added) n (trimmed f lines) (still_idle f lines n idle) (trimmed f lines ++ added)
        (λ k c. by k (Contains-append_cases (trimmed f lines) added k c)) (line_of j) (outside_apart inside n inner (line_of j) out_j) d
      where
        Kept : Line → Type 0
        Kept k = IsKept order (trimmed g lines ++ added) n (trimmed f lines) (still_idle f lines n idle) k

        left : (l : Line) → Contains (trimmed g lines) l → Loosely order (trimmed g lines ++ added) l
        left l c = given order (trimmed g lines ++ added) l (Contains-append_left (trimmed g lines) added l c)

        line : (l : Line) → Contains lines l → Becomes (trimmed_line f l) (trimmed_line g l) → Kept (trimmed_line f l)
        line l c (inl p) =
            inl (p.0, left (trimmed_line f l) (subst (Contains (trimmed g lines)) p.1 (Contains-map (trimmed_line g) lines l c)))
        line l c (inr p) = inr (
          Contains-map (trimmed_line f) lines l c,
          p.0,
          left (shape_of (trimmed_line f l)) (subst (Contains (trimmed g lines)) p.1 (Contains-map (trimmed_line g) lines l c)),
        )

        by : (k : Line) → Contains (trimmed f lines) k ⊎ Contains added k → Kept k
        by k (inl c) =
            let s : (l : Line) × Contains lines l × (trimmed_line f l ≡ k) = Contains-map_source (trimmed_line f) lines k c in
            subst Kept s.2 (line s.0 s.1 (becomes s.0))
        by k (inr c) = inl (
          outside_apart inside n inner k (All-contains (IsOutside inside) added k out c),
          given order (trimmed g lines ++ added) k (Contains-append_right (trimmed g lines) added k c),
        )

    back : LooselyCovers order inside (trimmed g lines) (trimmed f lines)
    back = covers_lines order inside (trimmed g lines) (trimmed f lines) by
      where
        line : (l : Line) → Contains lines l → Becomes (trimmed_line f l) (trimmed_line g l) →
            Loosely order (trimmed f lines) (trimmed_line g l)
        line l c (inl p) = subst (Loosely order (trimmed f lines)) (sym p.1)
            (given order (trimmed f lines) (trimmed_line f l) (Contains-map (trimmed_line f) lines l c))
        line l c (inr p) = subst (Loosely order (trimmed f lines)) (sym p.1)
            (shape_derives order (trimmed f lines) (trimmed_line f l) (Contains-map (trimmed_line f) lines l c))

        by : (k : Line) → Contains (trimmed g lines) k → Loosely order (trimmed f lines) k
        by k c =
            let s : (l : Line) × Contains lines l × (trimmed_line g l ≡ k) = Contains-map_source (trimmed_line g) lines k c in
            subst (Loosely order (trimmed f lines)) s.2 (line s.0 s.1 (becomes s.0))

    one_more : LooselyAlike order inside (trimmed f lines) (trimmed g lines)
    one_more = (forth, back)

-- flags that agree make one list
trimmed_same : (lines : List Line) (f g : ℕ → Bool) → ((n : ℕ) → f n ≡ g n) → trimmed f lines ≡ trimmed g lines
trimmed_same lines f g h = λ i. trimmed (λ n. h n i) lines

-- the idle ones below a number
abbrev below : (ℕ → Bool) → ℕ → ℕ → Bool
below idle k m = nat_lt m k && idle m

below_none : (idle : ℕ → Bool) (k m : ℕ) → k ≤ m → below idle k m ≡ false
below_none idle k m h = ap (λ b. b && idle m) (le-ltb m k h)

below_some : (idle : ℕ → Bool) (k m : ℕ) → m < k → below idle k m ≡ idle m
below_some idle k m h = ap (λ b. b && idle m) (lt-ltb m k h)

below_step : (idle : ℕ → Bool) (k m : ℕ) → m ≢ k → below idle (suc k) m ≡ below idle k m
below_step idle k m h = ap (λ b. b && idle m) (by (nat_lt m k) refl)
  where
    by : (b : Bool) → nat_lt m k ≡ b → nat_lt m (suc k) ≡ nat_lt m k
    by true e = let less : m < k = ltb-true m k e in lt-ltb m (suc k) (omega (arith, less)) ∙ sym e
    by false e = let less : k ≤ m = ltb-false m k e in le-ltb m (suc k) (above less) ∙ sym e
      where
        above : k ≤ m → suc k ≤ m
        above less = omega (arith, less, h)

-- above the number of the base, if it is an existential
abbrev top : Base → ℕ
top (Proc n) = 0
top (Global n) = 0
top (Exist n) = suc n
top (Outer n) = 0

abbrev line_top : Line → ℕ
line_top (Var x) = 0
line_top (Same x y) = 0
line_top (Sub x y) = top x.base + top y.base
line_top (Low k x) = top x.base
line_top (Up x k) = top x.base

abbrev lines_top : List Line → ℕ
lines_top [] = 0
lines_top (l ∷ ls) = line_top l + lines_top ls

base_below : (idle : ℕ → Bool) (k : ℕ) (b : Base) → top b ≤ k → is_idle (below idle k) b ≡ is_idle idle b
base_below idle k (Proc n) h = refl
base_below idle k (Global n) h = refl
base_below idle k (Exist n) h = below_some idle k n h
base_below idle k (Outer n) h = refl

left_at_most : (a b k : ℕ) → a + b ≤ k → a ≤ k
left_at_most a b k h = omega (arith, h)

right_at_most : (a b k : ℕ) → a + b ≤ k → b ≤ k
right_at_most a b k h = omega (arith, h)

line_below : (idle : ℕ → Bool) (k : ℕ) (l : Line) → line_top l ≤ k → trimmed_line (below idle k) l ≡ trimmed_line idle l
line_below idle k (Var x) h = refl
line_below idle k (Same x y) h = refl
line_below idle k (Sub x y) h =
    let e : is_idle (below idle k) x.base ≡ is_idle idle x.base = base_below idle k x.base (left_at_most (top x.base) (top y.base) k h) in
    let f : is_idle (below idle k) y.base ≡ is_idle idle y.base = base_below idle k y.base (right_at_most (top x.base) (top y.base) k h) in
    λ i. cond (e i || f i) (Same x y) (Sub x y)
line_below idle k (Low j x) h = ap (λ b. cond b (Var x) (Low j x)) (base_below idle k x.base h)
line_below idle k (Up x j) h = ap (λ b. cond b (Var x) (Up x j)) (base_below idle k x.base h)

lines_below : (idle : ℕ → Bool) (k : ℕ) (lines : List Line) → lines_top lines ≤ k → trimmed (below idle k) lines ≡ trimmed idle lines
lines_below idle k [] h = refl
lines_below idle k (l ∷ ls) h =
    let e : trimmed_line (below idle k) l ≡ trimmed_line idle l = line_below idle k l (left_at_most (line_top l) (lines_top ls) k h) in
    let f : trimmed (below idle k) ls ≡ trimmed idle ls = lines_below idle k ls (right_at_most (line_top l) (lines_top ls) k h) in
    λ i. e i ∷ f i

none_base : (f : ℕ → Bool) → ((n : ℕ) → f n ≡ false) → (b : Base) → is_idle f b ≡ false
none_base f none (Proc n) = refl
none_base f none (Global n) = refl
none_base f none (Exist n) = none n
none_base f none (Outer n) = refl

none_line : (f : ℕ → Bool) → ((n : ℕ) → f n ≡ false) → (l : Line) → trimmed_line f l ≡ l
none_line f none (Var x) = refl
none_line f none (Same x y) = refl
none_line f none (Sub x y) = λ i. cond (none_base f none x.base i || none_base f none y.base i) (Same x y) (Sub x y)
none_line f none (Low k x) = ap (λ b. cond b (Var x) (Low k x)) (none_base f none x.base)
none_line f none (Up x k) = ap (λ b. cond b (Var x) (Up x k)) (none_base f none x.base)

none_lines : (f : ℕ → Bool) → ((n : ℕ) → f n ≡ false) → (lines : List Line) → trimmed f lines ≡ lines
none_lines f none [] = refl
none_lines f none (l ∷ ls) = λ i. none_line f none l i ∷ none_lines f none ls i

module _ (order : Below) (inside : Base → Bool) (lines : List Line) (idle : ℕ → Bool) (inner : (n : ℕ) → inside (Exist n) ≡ true)
    (are : AreIdle lines idle) where
  abbrev left_below : ℕ → List Line
  left_below k = trimmed (below idle k) lines

  alike_below : (k : ℕ) → LooselyAlike order inside lines (left_below k)
  alike_below zero = subst (LooselyAlike order inside lines) (sym (none_lines (below idle zero) (λ m. below_none idle zero m (omega arith)) lines))
      (loosely-refl order inside lines)
  alike_below (suc k) = loosely-trans order inside lines (left_below k) (left_below (suc k)) (alike_below k) (by (cases_Bool (idle k)))
    where
      here : below idle (suc k) k ≡ idle k
      here = below_some idle (suc k) k (omega arith)

      not_here : below idle k k ≡ false
      not_here = below_none idle k k (omega arith)

      same_flag : idle k ≡ false → (m : ℕ) → (m ≡ k) ⊎ (m ≡ k → ⊥) → below idle k m ≡ below idle (suc k) m
      same_flag none m (inl e) = subst (λ i. below idle k i ≡ below idle (suc k) i) (sym e) (not_here ∙ sym (here ∙ none))
      same_flag none m (inr apart) = sym (below_step idle k m apart)

      by : (idle k ≡ true) ⊎ (idle k ≡ false) → LooselyAlike order inside (left_below k) (left_below (suc k))
      by (inl one) = one_more (below idle k) (below idle (suc k)) k not_here (here ∙ one) (below_step idle k) order inside lines (inner k)
          ((are k).0 one)
      by (inr none) = subst (LooselyAlike order inside (left_below k))
          (trimmed_same lines (below idle k) (below idle (suc k)) (λ m. same_flag none m (cases_eq m k)))
          (loosely-refl order inside (left_below k))

pub trims_alike_lem : TrimsAlikeLaw
trims_alike_lem order inside lines idle inner are =
    subst (LooselyAlike order inside lines) (lines_below idle (lines_top lines) lines (omega arith))
    (alike_below order inside lines idle inner are (lines_top lines))
