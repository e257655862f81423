-- Which variables move, and to which existentials.
use Rattle.std.proofs.Common.{◌≡◌, ℕ, ◌⊎◌, inl, inr, List, [], ◌∷◌, flat_map, Contains, Bool, true, false, cond, nat_eq, Option, Some, None}
use Rattle.std.proofs.Common.{refl, ap, sym, ◌∙◌, subst, true≢false}
use Rattle.std.specs.Map.{lookup}
use Rattle.std.proofs.lemmas.Bool.{eqb-true}
use Rattle.rt_base.proofs.Numbers.{nat_itself}
use Rattle.rt_base.proofs.Lists.{Contains-none, Contains-here, Contains-there, Contains-cons_cases}
use Rattle.rt_base.proofs.Lists.{Contains-flat_map, Contains-flat_map_source}
use Rattle.rt_lines.specs.declared.label.Label.{Label}
use Rattle.rt_lines.specs.declared.label.Label.TheVariants.{In, Out, Load, Store, Field}
use Rattle.rt_lines.specs.declared.variable.Base.{Base}
use Rattle.rt_lines.specs.declared.variable.Base.TheVariants.{Proc, Global, Exist, Outer}
use Rattle.rt_lines.specs.declared.variable.Dtv.{Dtv}
use Rattle.rt_lines.specs.declared.line.Line.{Line}
use Rattle.rt_lines.specs.declared.line.Line.TheVariants.{Var, Same, Sub, Low, Up}
use Rattle.rt_rules.specs.Rules.{HasSide}
use Rattle.rt_record.specs.Records.{is_access, part, number_of, moved_to, moved, move_to, move, flow_sides, moves}

pub access_cases : (a : Label) → is_access a ≡ true → (a ≡ Load) ⊎ (a ≡ Store)
access_cases Load e = inl refl
access_cases Store e = inr refl
access_cases (In l) e = cc
access_cases (Out n) e = cc
access_cases (Field w k) e = cc

-- a variable of a `<=` line or bound is a side of it
pub flow_side : (l : Line) (x : Dtv) → Contains (flow_sides l) x → HasSide l x
flow_side (Var y) x c = absurd (Contains-none x c)
flow_side (Same y z) x c = absurd (Contains-none x c)
flow_side (Sub y z) x c = by (Contains-cons_cases y (z ∷ []) x c)
  where
    last : (z ≡ x) ⊎ Contains [] x → z ≡ x
    last (inl e) = e
    last (inr d) = absurd (Contains-none x d)

    by : (y ≡ x) ⊎ Contains (z ∷ []) x → (y ≡ x) ⊎ (z ≡ x)
    by (inl e) = inl e
    by (inr d) = inr (last (Contains-cons_cases z [] x d))
flow_side (Low k y) x c = by (Contains-cons_cases y [] x c)
  where
    by : (y ≡ x) ⊎ Contains [] x → y ≡ x
    by (inl e) = e
    by (inr d) = absurd (Contains-none x d)
flow_side (Up y k) x c = by (Contains-cons_cases y [] x c)
  where
    by : (y ≡ x) ⊎ Contains [] x → y ≡ x
    by (inl e) = e
    by (inr d) = absurd (Contains-none x d)

abbrev pub pair : ℕ → Dtv → ℕ × Dtv
pair m z = (m, z)

-- what a list of pairs has for a number stands in it with the number
found_first : (m k : ℕ) (y z : Dtv) (es : List (ℕ × Dtv)) (b : Bool) → nat_eq m k ≡ b →
    (lookup (nat_eq m) es ≡ Some z → Contains es (m, z)) →
    cond b (Some y) (lookup (nat_eq m) es) ≡ Some z → Contains ((k, y) ∷ es) (m, z)
found_first m k y z es true f later g =
    let h : m ≡ k = eqb-true m k f in
    let i : y ≡ z = cc in
    subst (Contains ((k, y) ∷ es)) (λ j. (sym h j, i j)) (Contains-here (k, y) es)
found_first m k y z es false f later g = Contains-there (k, y) es (m, z) (later g)

pub lookup_source : (m : ℕ) (es : List (ℕ × Dtv)) (z : Dtv) → lookup (nat_eq m) es ≡ Some z → Contains es (m, z)
lookup_source m [] z e = cc
lookup_source m ((k, y) ∷ es) z e = found_first m k y z es (nat_eq m k) refl (lookup_source m es z) e

abbrev Found : ℕ → List (ℕ × Dtv) → Type 0
Found m es = (y : Dtv) × (lookup (nat_eq m) es ≡ Some y)

has_first : (m k : ℕ) (y z : Dtv) (es : List (ℕ × Dtv)) (b : Bool) → nat_eq m k ≡ b → (Contains es (m, z) → Found m es) →
    (pair k y ≡ pair m z) ⊎ Contains es (m, z) → (v : Dtv) × (cond b (Some y) (lookup (nat_eq m) es) ≡ Some v)
has_first m k y z es true f later h = (y, refl)
has_first m k y z es false f later (inr d) = later d
has_first m k y z es false f later (inl e) =
    let g : k ≡ m = ap (λ p. p.0) e in
    let h : nat_eq m m ≡ false = subst (λ i. nat_eq m i ≡ false) g f in
    absurd (true≢false (sym (nat_itself m) ∙ h))

pub lookup_has : (m : ℕ) (es : List (ℕ × Dtv)) (z : Dtv) → Contains es (m, z) → Found m es
lookup_has m [] z c = absurd (Contains-none (pair m z) c)
lookup_has m ((k, y) ∷ es) z c = has_first m k y z es (nat_eq m k) refl (lookup_has m es z) (Contains-cons_cases (pair k y) es (pair m z) c)

-- a variable of a `<=` line or bound
abbrev pub IsFlowSide : List Line → Dtv → Type 0
IsFlowSide lines x = (l : Line) × Contains lines l × Contains (flow_sides l) x

module _ (parts : ℕ → Label → Option ℕ) where
  -- the variable is a part, and goes to the existential
  pub record Moves (x : Dtv) (m : ℕ) : Type 0 where
    pub holder : ℕ
    pub access : Label
    pub field : Label
    pub more : List Label
    pub is_access : is_access access ≡ true
    pub number : parts holder field ≡ Some m
    pub same : x ≡ part holder access field more
    pub goes : moved parts x ≡ record { base = Exist m; word = more }
    pub listed : move parts x ≡ (m, part holder access field []) ∷ []

  abbrev pub Stays : Dtv → Type 0
  Stays x = (moved parts x ≡ x) × (move parts x ≡ [])

  abbrev Case : Dtv → Type 0
  Case x = Stays x ⊎ ((m : ℕ) × Moves x m)

  number_some : (b : Bool) (o : Option ℕ) (m : ℕ) → cond b o None ≡ Some m → (b ≡ true) × (o ≡ Some m)
  number_some true o m e = (refl, e)
  number_some false o m e = cc

  pub number_is : (b : Bool) (o : Option ℕ) (m : ℕ) → b ≡ true → o ≡ Some m → cond b o None ≡ Some m
  number_is true o m e f = f
  number_is false o m e f = cc

  abbrev pub part_moves : (n : ℕ) (a f : Label) (u : List Label) (m : ℕ) → is_access a ≡ true → parts n f ≡ Some m → Moves (part n a f u) m
  part_moves n a f u m h g =
      let e : number_of parts n a f ≡ Some m = number_is (is_access a) (parts n f) m h g in
      record {
        holder = n;
        access = a;
        field = f;
        more = u;
        is_access = h;
        number = g;
        same = refl;
        goes = ap (λ o. moved_to o u (part n a f u)) e;
        listed = ap (λ o. move_to o (part n a f [])) e;
      }

  moving_at : (b : Base) (w : List Label) → Case (record { base = b; word = w })
  moving_at (Proc n) w = inl (refl, refl)
  moving_at (Global n) w = inl (refl, refl)
  moving_at (Outer n) w = inl (refl, refl)
  moving_at (Exist n) [] = inl (refl, refl)
  moving_at (Exist n) (a ∷ []) = inl (refl, refl)
  moving_at (Exist n) (a ∷ f ∷ u) = by (number_of parts n a f) refl
    where
      by : (o : Option ℕ) → number_of parts n a f ≡ o → Case (part n a f u)
      by None e = inl (ap (λ o. moved_to o u (part n a f u)) e, ap (λ o. move_to o (part n a f [])) e)
      by (Some m) e =
          let both : (is_access a ≡ true) × (parts n f ≡ Some m) = number_some (is_access a) (parts n f) m e in
          inr (m, part_moves n a f u m both.0 both.1)

  pub moving : (x : Dtv) → Stays x ⊎ ((m : ℕ) × Moves x m)
  moving x = moving_at x.base x.word

  -- what moves is a variable of a `<=` line or bound
  pub moves_source : (lines : List Line) (m : ℕ) (z : Dtv) → Contains (moves parts lines) (pair m z) →
      (x : Dtv) × (s : Moves x m) × IsFlowSide lines x × (z ≡ part s.holder s.access s.field [])
  moves_source lines m z c =
      let s : (x : Dtv) × Contains (flat_map flow_sides lines) x × Contains (move parts x) (pair m z) =
      Contains-flat_map_source (move parts) (flat_map flow_sides lines) (pair m z) c in
      let t : (l : Line) × Contains lines l × Contains (flow_sides l) s.0 = Contains-flat_map_source flow_sides lines s.0 s.1 in
      by s.0 t s.2 (moving s.0)
    where
      by : (x : Dtv) → IsFlowSide lines x → Contains (move parts x) (pair m z) → Stays x ⊎ ((k : ℕ) × Moves x k) →
          (y : Dtv) × (s : Moves y m) × IsFlowSide lines y × (z ≡ part s.holder s.access s.field [])
      by x t d (inl p) = absurd (Contains-none (pair m z) (subst (λ es. Contains es (pair m z)) p.1 d))
      by x t d (inr (k, s)) = one (Contains-cons_cases (pair k (part s.holder s.access s.field [])) [] (pair m z)
          (subst (λ es. Contains es (pair m z)) s.listed d))
        where
          one : (pair k (part s.holder s.access s.field []) ≡ pair m z) ⊎ Contains [] (pair m z) →
              (y : Dtv) × (r : Moves y m) × IsFlowSide lines y × (z ≡ part r.holder r.access r.field [])
          one (inr e) = absurd (Contains-none (pair m z) e)
          one (inl e) =
              let g : k ≡ m = ap (λ p. p.0) e in
              let h : part s.holder s.access s.field [] ≡ z = ap (λ p. p.1) e in (
                x,
                record {
                  holder = s.holder;
                  access = s.access;
                  field = s.field;
                  more = s.more;
                  is_access = s.is_access;
                  number = s.number ∙ ap Some g;
                  same = s.same;
                  goes = s.goes ∙ ap (λ i. record { base = Exist i; word = s.more }) g;
                  listed = s.listed ∙ ap (λ i. (i, part s.holder s.access s.field []) ∷ []) g;
                },
                t,
                sym h,
              )

  pub moves_has : (lines : List Line) (x : Dtv) (m : ℕ) → IsFlowSide lines x → (s : Moves x m) →
      Contains (moves parts lines) (pair m (part s.holder s.access s.field []))
  moves_has lines x m (l, c, d) s =
      Contains-flat_map (move parts) (flat_map flow_sides lines) x (pair m (part s.holder s.access s.field []))
      (Contains-flat_map flow_sides lines l x c d)
      (subst (λ es. Contains es (pair m (part s.holder s.access s.field []))) (sym s.listed)
      (Contains-here (pair m (part s.holder s.access s.field [])) []))
