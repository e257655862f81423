-- Bounds of lines, by the numbers of their variables.
use Rattle.std.proofs.Common.{◌≡◌, ℕ, ◌+◌, ◌<◌, ◌⊎◌, inl, inr, List, [], ◌∷◌, ◌++◌, All, Contains, Bool, true, false, Some, length, map, get_or, refl, sym, ap, subst, ◌∙◌, arith}
use Rattle.std.proofs.Common.{below_more}
use Rattle.std.specs.Prelude.{nat_eq, slice_get}
use Rattle.std.specs.List.{list_any}
use Rattle.std.proofs.lemmas.Option.{get_or_from_slice_get, slice_get_within}
use Rattle.std.proofs.lemmas.List.Elements.{All-contains, Contains-append_left, Contains-push, Contains-push_cases}
use Rattle.rt_base.proofs.Numbers.{nat_same}
use Rattle.rt_base.proofs.Lists.{Contains-none, Contains-here, Contains-cons_cases, Contains-map, Contains-map_source, list_any-at}
use Rattle.rt_lines.specs.declared.variable.Dtv.{Dtv}
use Rattle.rt_lines.specs.declared.line.Line.{Line}
use Rattle.rt_lines.specs.declared.line.Line.TheVariants.{Sub, Low, Up}
use Rattle.rt_lines.specs.Lines.{HasConstantsBelow}
use Rattle.rt_lines.specs.Orders.{Below, IsAtOrBelow}
use Rattle.rt_rules.specs.Rules.{Derivable}
use Rattle.rt_rules.specs.Rules.Derivable.{named as is_named, sub_self}
use Rattle.rt_bridge.specs.Bounds.{HasLow, HasUp}
use Rattle.rt_named.specs.Origins.{no_variable}
use Rattle.rt_outline.specs.declared.bounds.Bound.{Bound}
use Rattle.rt_outline.specs.Inside.Bounds.{AreBounds, AreBoundsAt, IsAtOrAbove, IsBoundEntered, upper_bound}
use Rattle.rt_outline.specs.Frames.{variable_at}
use Rattle.rt_outline.specs.Lines.{AreNumbers, HasBelow, IsNumber, Lined, standing}
use Rattle.rt_outline.proofs.Leading.{standing_in}
use Rattle.rt_outline.proofs.Standing.{Stands, standing_line}

-- bounds, entered one by one
module _ (make : ℕ → Dtv → Line) (lines : List Line) (named : List Dtv) where
  pub bounds_none : AreBounds make lines 0 named []
  bounds_none = record { all = λ i k z h e. absurd (omega (arith, h)); only = λ b c. absurd (Contains-none b c) }

  pub bounds_more : (i : ℕ) (l : Line) (old new : List Bound) → slice_get lines i ≡ Some l → IsBoundEntered make l i named old new →
      AreBounds make lines i named old → AreBounds make lines (i + 1) named new
  bounds_more i l old new here entered are = record {
    all = λ j k z h. below_more
        (λ m. (y : ℕ) (x : Dtv) → slice_get lines m ≡ Some (make y x) →
        (n : ℕ) × Contains new (record { line = m; constant = y; number = n }) × IsNumber named n x) i
        (λ m less y x e. (let r : (n : ℕ) × Contains old (record { line = m; constant = y; number = n }) × IsNumber named n x = are.all m y x less e in
        (r.0, entered.kept (record { line = m; constant = y; number = r.0 }) r.1, r.2)))
        (λ y x e. (let f : l ≡ make y x = cc in entered.added y x f)) j h k z;
    only = λ b c. (elim (entered.only b c) [
      | inl d ↦ are.only b d
      | inr r ↦ (r.0, ap (slice_get lines) r.1 ∙ here ∙ ap Some r.2, r.3)
    ]);
  }

-- the numbers of those that stand and are so, entered one by one
module _ (P : ℕ → Type 0) (stands : List Bool) where
  pub at_none : AreBoundsAt P stands [] []
  at_none = record { only = λ n c. absurd (Contains-none n c); all = λ b c f p. absurd (Contains-none b c) }

  pub at_more : (before : List Bound) (b : Bound) (old new : List ℕ) → new ≡ old ++ b.number ∷ [] → get_or stands b.line false ≡ true →
      P b.constant → AreBoundsAt P stands before old → AreBoundsAt P stands (before ++ b ∷ []) new
  at_more before b old new grown flag so are = record {
    only = λ n c. (elim (Contains-push_cases old b.number n (subst (λ ns. Contains ns n) grown c)) [
      | inl d ↦ (let r : (a : Bound) × Contains before a × (get_or stands a.line false ≡ true) × P a.constant × (a.number ≡ n) = are.only n d in
          (r.0, Contains-append_left before (b ∷ []) r.0 r.1, r.2, r.3, r.4))
      | inr e ↦ (b, Contains-push before b, flag, so, e)
    ]);
    all = λ a c f p. (elim (Contains-push_cases before b a c) [
      | inl d ↦ subst (λ ns. Contains ns a.number) (sym grown) (Contains-append_left old (b.number ∷ []) a.number (are.all a d f p))
      | inr e ↦ subst (λ ns. Contains ns a.number) (sym grown)
          (subst (Contains (old ++ b.number ∷ [])) (ap (λ (d : Bound). d.number) e) (Contains-push old b.number))
    ]);
  }

  pub at_other : (before : List Bound) (b : Bound) (numbers : List ℕ) → (get_or stands b.line false ≡ true → P b.constant → ⊥) →
      AreBoundsAt P stands before numbers → AreBoundsAt P stands (before ++ b ∷ []) numbers
  at_other before b numbers none are = record {
    only = λ n c. (let r : (a : Bound) × Contains before a × (get_or stands a.line false ≡ true) × P a.constant × (a.number ≡ n) = are.only n c in
        (r.0, Contains-append_left before (b ∷ []) r.0 r.1, r.2, r.3, r.4));
    all = λ a c f p. (elim (Contains-push_cases before b a c) [
      | inl d ↦ are.all a d f p
      | inr e ↦ absurd (none (subst (λ (d : Bound). get_or stands d.line false ≡ true) (sym e) f) (subst (λ (d : Bound). P d.constant) (sym e) p))
    ]);
  }

-- the numbers of bounds of lines
module _ (make : ℕ → Dtv → Line) (lines : List Line) (named : List Dtv) (stands : List Bool) (bounds : List Bound)
    (are : AreBounds make lines (length lines) named bounds) where
  -- a bound that stands
  pub bound_stands : (b : Bound) → Contains bounds b → get_or stands b.line false ≡ true →
      (z : Dtv) × Contains (standing lines stands) (make b.constant z) × IsNumber named b.number z
  bound_stands b c f =
      let r : (z : Dtv) × (slice_get lines b.line ≡ Some (make b.constant z)) × IsNumber named b.number z = are.only b c in
      (r.0, standing_in lines stands b.line (make b.constant r.0) r.1 f, r.2)

  pub bound_below : (count : ℕ) → ((k : ℕ) (z : Dtv) → HasConstantsBelow count (make k z) → k < count) →
      All (HasConstantsBelow count) (standing lines stands) →
      (b : Bound) → Contains bounds b → get_or stands b.line false ≡ true → b.constant < count
  bound_below count reads few b c f =
      let r : (z : Dtv) × Contains (standing lines stands) (make b.constant z) × IsNumber named b.number z = bound_stands b c f in
      reads b.constant r.0 (All-contains (HasConstantsBelow count) (standing lines stands) (make b.constant r.0) few r.1)

  module _ (P : ℕ → Type 0) (numbers : List ℕ) (at : AreBoundsAt P stands bounds numbers) where
    -- the variable of a bound that stands and is so has its number among them
    pub bound_number : (k : ℕ) (z : Dtv) → Contains (standing lines stands) (make k z) → P k → (n : ℕ) × Contains numbers n × IsNumber named n z
    bound_number k z c p =
        let s : (i : ℕ) × Stands lines stands i (make k z) = standing_line lines stands (make k z) c in
        let r : (n : ℕ) × Contains bounds (record { line = s.0; constant = k; number = n }) × IsNumber named n z =
        are.all s.0 k z (slice_get_within lines s.0 (make k z) s.1.0) s.1.0
        in
        (r.0, at.all (record { line = s.0; constant = k; number = r.0 }) r.1 s.1.1 p, r.2)

    -- a number among them is that of the variable of such a bound
    pub number_bound : (n : ℕ) → Contains numbers n → (k : ℕ) × (z : Dtv) × Contains (standing lines stands) (make k z) × P k × IsNumber named n z
    number_bound n c =
        let r : (b : Bound) × Contains bounds b × (get_or stands b.line false ≡ true) × P b.constant × (b.number ≡ n) = at.only n c in
        let s : (z : Dtv) × Contains (standing lines stands) (make r.0.constant z) × IsNumber named r.0.number z = bound_stands r.0 r.1 r.2 in
        (r.0.constant, s.0, s.1, r.3, subst (λ m. IsNumber named m s.0) r.4 s.2)

    -- their variables
    abbrev pub variables : List Dtv
    variables = map (variable_at named) numbers

    pub variables_are : AreNumbers named variables numbers
    variables_are = record {
      only = λ n c. (let r : (k : ℕ) × (z : Dtv) × Contains (standing lines stands) (make k z) × P k × IsNumber named n z = number_bound n c in
          (r.1, subst (Contains variables) (get_or_from_slice_get named n r.1 no_variable r.4) (Contains-map (variable_at named) numbers n c), r.4));
      all = λ x c. (let s : (n : ℕ) × Contains numbers n × (variable_at named n ≡ x) = Contains-map_source (variable_at named) numbers x c in
          let r : (k : ℕ) × (z : Dtv) × Contains (standing lines stands) (make k z) × P k × IsNumber named s.0 z = number_bound s.0 s.1 in
          (s.0, s.1, subst (IsNumber named s.0) (sym (get_or_from_slice_get named s.0 r.1 no_variable r.4) ∙ s.2) r.4));
    }

    -- one of them is that of a bound, and each variable of a bound is one of them
    pub variable_bound : (x : Dtv) → Contains variables x → (k : ℕ) × Contains (standing lines stands) (make k x) × P k
    variable_bound x c =
        let s : (n : ℕ) × Contains numbers n × IsNumber named n x = variables_are.all x c in
        let r : (k : ℕ) × (z : Dtv) × Contains (standing lines stands) (make k z) × P k × IsNumber named s.0 z = number_bound s.0 s.1 in
        let e : Some r.1 ≡ Some x = sym r.4 ∙ s.2 in
        let f : r.1 ≡ x = cc in
        (r.0, subst (λ z. Contains (standing lines stands) (make r.0 z)) f r.2, r.3)

    pub bound_variable : (k : ℕ) (z : Dtv) → Contains (standing lines stands) (make k z) → P k → Contains variables z
    bound_variable k z c p =
        let r : (n : ℕ) × Contains numbers n × IsNumber named n z = bound_number k z c p in
        subst (Contains variables) (get_or_from_slice_get named r.0 z no_variable r.2) (Contains-map (variable_at named) numbers r.0 r.1)

    pub number_variable : (n : ℕ) (x : Dtv) → Contains numbers n → IsNumber named n x → Contains variables x
    number_variable n x c is = subst (Contains variables) (get_or_from_slice_get named n x no_variable is) (Contains-map (variable_at named) numbers n c)

    pub none_bound : (k : ℕ) (z : Dtv) → numbers ≡ [] → Contains (standing lines stands) (make k z) → P k → ⊥
    none_bound k z e c p =
        let r : (n : ℕ) × Contains numbers n × IsNumber named n z = bound_number k z c p in
        Contains-none r.0 (subst (λ ns. Contains ns r.0) e r.1)

-- a number that is found in an equal list
pub found_number : (xs ys : List ℕ) (n : ℕ) → ys ≡ xs → list_any (λ y. nat_eq y n) ys ≡ true → Contains xs n
found_number xs ys n same e =
    let r : (y : ℕ) × Contains ys y × (nat_eq y n ≡ true) = list_any-at (λ y. nat_eq y n) ys e in
    subst (λ zs. Contains zs n) same (subst (Contains ys) (nat_same r.0 n r.2) r.1)

only_one : (x y : Dtv) → Contains (x ∷ []) y → x ≡ y
only_one x y c = by (Contains-cons_cases x [] y c)
  where
    by : (x ≡ y) ⊎ Contains [] y → x ≡ y
    by (inl f) = f
    by (inr d) = absurd (Contains-none y d)

-- lower bounds
module _ (lines : List Line) (named : List Dtv) (stands : List Bool) (bounds : List Bound)
    (are : AreBounds Low lines (length lines) named bounds) (order : Below) (k : ℕ) (numbers : List ℕ)
    (at : AreBoundsAt (IsAtOrBelow order k) stands bounds numbers) (x : Dtv) where
  abbrev pub lower_variables : List Dtv
  lower_variables = variables Low lines named stands bounds are (IsAtOrBelow order k) numbers at

  pub lower_variables_are : AreNumbers named lower_variables numbers
  lower_variables_are = variables_are Low lines named stands bounds are (IsAtOrBelow order k) numbers at

  module _ (view : Lined) (seen : record { lines = lines; named = named } ≡ view) where
    pub low_none : numbers ≡ [] → HasLow order (standing view.lines stands) k x → ⊥
    low_none e h = by (subst (λ (v : Lined). HasLow order (standing v.lines stands) k x) (sym seen) h)
      where
        by : HasLow order (standing lines stands) k x → ⊥
        by g = none_bound Low lines named stands bounds are (IsAtOrBelow order k) numbers at g.bound g.variable e g.stands g.at

    pub low_self : (n : ℕ) → Contains numbers n → IsNumber named n x → HasLow order (standing view.lines stands) k x
    low_self n c is =
        let r : (b : ℕ) × Contains (standing lines stands) (Low b x) × IsAtOrBelow order k b =
        variable_bound Low lines named stands bounds are (IsAtOrBelow order k) numbers at x
        (number_variable Low lines named stands bounds are (IsAtOrBelow order k) numbers at n x c is)
        in
        subst (λ (v : Lined). HasLow order (standing v.lines stands) k x) seen
        (record { bound = r.0; variable = x; stands = r.1; at = r.2; below = sub_self (is_named (Low r.0 x) r.1 refl) })

    pub low_has : HasLow order (standing view.lines stands) k x → HasBelow order (standing view.lines stands) lower_variables (x ∷ [])
    low_has h = subst (λ (v : Lined). HasLow order (standing v.lines stands) k x → HasBelow order (standing v.lines stands) lower_variables (x ∷ []))
        seen by h
      where
        by : HasLow order (standing lines stands) k x → HasBelow order (standing lines stands) lower_variables (x ∷ [])
        by g = (
          g.variable,
          x,
          bound_variable Low lines named stands bounds are (IsAtOrBelow order k) numbers at g.bound g.variable g.stands g.at,
          Contains-here x [],
          g.below,
        )

    pub low_from : HasBelow order (standing view.lines stands) lower_variables (x ∷ []) → HasLow order (standing view.lines stands) k x
    low_from h = subst (λ (v : Lined). HasBelow order (standing v.lines stands) lower_variables (x ∷ []) → HasLow order (standing v.lines stands) k x)
        seen by h
      where
        by : HasBelow order (standing lines stands) lower_variables (x ∷ []) → HasLow order (standing lines stands) k x
        by (z, y, c, d, g) =
            let r : (b : ℕ) × Contains (standing lines stands) (Low b z) × IsAtOrBelow order k b =
            variable_bound Low lines named stands bounds are (IsAtOrBelow order k) numbers at z c
            in
            record {
              bound = r.0;
              variable = z;
              stands = r.1;
              at = r.2;
              below = subst (λ v. Derivable order (standing lines stands) (Sub z v)) (sym (only_one x y d)) g;
            }

-- upper bounds
module _ (lines : List Line) (named : List Dtv) (stands : List Bool) (bounds : List Bound)
    (are : AreBounds upper_bound lines (length lines) named bounds) (order : Below) (k : ℕ) (numbers : List ℕ)
    (at : AreBoundsAt (IsAtOrAbove order k) stands bounds numbers) (x : Dtv) where
  abbrev pub upper_variables : List Dtv
  upper_variables = variables upper_bound lines named stands bounds are (IsAtOrAbove order k) numbers at

  pub upper_variables_are : AreNumbers named upper_variables numbers
  upper_variables_are = variables_are upper_bound lines named stands bounds are (IsAtOrAbove order k) numbers at

  module _ (view : Lined) (seen : record { lines = lines; named = named } ≡ view) where
    pub up_none : numbers ≡ [] → HasUp order (standing view.lines stands) x k → ⊥
    up_none e h = by (subst (λ (v : Lined). HasUp order (standing v.lines stands) x k) (sym seen) h)
      where
        by : HasUp order (standing lines stands) x k → ⊥
        by g = none_bound upper_bound lines named stands bounds are (IsAtOrAbove order k) numbers at g.bound g.variable e g.stands g.at

    pub up_self : (n : ℕ) → Contains numbers n → IsNumber named n x → HasUp order (standing view.lines stands) x k
    up_self n c is =
        let r : (b : ℕ) × Contains (standing lines stands) (Up x b) × IsAtOrBelow order b k =
        variable_bound upper_bound lines named stands bounds are (IsAtOrAbove order k) numbers at x
        (number_variable upper_bound lines named stands bounds are (IsAtOrAbove order k) numbers at n x c is)
        in
        subst (λ (v : Lined). HasUp order (standing v.lines stands) x k) seen
        (record { bound = r.0; variable = x; stands = r.1; at = r.2; above = sub_self (is_named (Up x r.0) r.1 refl) })

    pub up_has : HasUp order (standing view.lines stands) x k → HasBelow order (standing view.lines stands) (x ∷ []) upper_variables
    up_has h = subst (λ (v : Lined). HasUp order (standing v.lines stands) x k → HasBelow order (standing v.lines stands) (x ∷ []) upper_variables)
        seen by h
      where
        by : HasUp order (standing lines stands) x k → HasBelow order (standing lines stands) (x ∷ []) upper_variables
        by g = (
          x,
          g.variable,
          Contains-here x [],
          bound_variable upper_bound lines named stands bounds are (IsAtOrAbove order k) numbers at g.bound g.variable g.stands g.at,
          g.above,
        )

    pub up_from : HasBelow order (standing view.lines stands) (x ∷ []) upper_variables → HasUp order (standing view.lines stands) x k
    up_from h = subst (λ (v : Lined). HasBelow order (standing v.lines stands) (x ∷ []) upper_variables → HasUp order (standing v.lines stands) x k)
        seen by h
      where
        by : HasBelow order (standing lines stands) (x ∷ []) upper_variables → HasUp order (standing lines stands) x k
        by (y, z, d, c, g) =
            let r : (b : ℕ) × Contains (standing lines stands) (Up z b) × IsAtOrBelow order b k =
            variable_bound upper_bound lines named stands bounds are (IsAtOrAbove order k) numbers at z c
            in
            record {
              bound = r.0;
              variable = z;
              stands = r.1;
              at = r.2;
              above = subst (λ v. Derivable order (standing lines stands) (Sub v z)) (sym (only_one x y d)) g;
            }
