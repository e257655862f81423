-- What sides of lines, and arcs from outside, tell of a line.
use Rattle.std.proofs.Common.{◌≡◌, ℕ, ◌+◌, ◌<◌, ◌≤◌, ◌⊎◌, inl, inr, List, [], ◌∷◌, All, Contains, length, take}
use Rattle.std.proofs.Common.{get_or, refl, sym, subst}
use Rattle.std.proofs.lemmas.List.{take_all}
use Rattle.rt_base.proofs.Lists.{Contains-none, Contains-here, Contains-cons_cases}
use Rattle.rt_lines.specs.declared.variable.Dtv.{Dtv}
use Rattle.rt_lines.specs.declared.line.Line.{Line}
use Rattle.rt_lines.specs.declared.line.Line.TheVariants.{Var, Sub, Low, Up}
use Rattle.rt_lines.specs.Lines.{HasConstantsBelow}
use Rattle.rt_lines.specs.Orders.{Below, IsAtOrBelow}
use Rattle.rt_lines.specs.OrderFacts.{IsOrder}
use Rattle.rt_rules.specs.Rules.{HasSide, Derivable}
use Rattle.rt_rules.specs.Rules.Derivable.{named}
use Rattle.rt_rules.proofs.Covering.{front}
use Rattle.rt_shape.specs.Shapes.{IsNamed}
use Rattle.rt_bridge.specs.Bounds.{HasLow, HasUp}
use Rattle.rt_bridge.proofs.Bounds.{low_from, up_from}
use Rattle.rt_bridge.proofs.Lawful.{low_law, up_law}
use Rattle.rt_outline.specs.declared.led.Led.{Led}
use Rattle.rt_outline.specs.declared.led.Led.TheVariants.{No, Yes, Open}
use Rattle.rt_outline.specs.Lines.{HasBelow}
use Rattle.rt_reduce.specs.Inside.Deciding.{AreAbove, AreBelow, Tells}
use Rattle.rt_reduce.proofs.Firsts.{more_cases}

-- none of the elements that are gone through
abbrev pub IsNone : {X : Type 0} → (X → Type 0) → List X → ℕ → Type 0
IsNone {X} P xs i = (y : X) → Contains (take i xs) y → P y → ⊥

pub none_begun : {X : Type 0} (P : X → Type 0) (xs : List X) → IsNone P xs 0
none_begun P xs y c p = Contains-none y c

pub none_more : {X : Type 0} (P : X → Type 0) (xs : List X) (i : ℕ) (x : X) → i < length xs → x ≡ get_or xs i x → (P x → ⊥) →
    IsNone P xs i → IsNone P xs (i + 1)
none_more P xs i x h e fails none y c p = by (more_cases xs i x y h e c)
  where
    by : Contains (take i xs) y ⊎ (x ≡ y) → ⊥
    by (inl d) = none y d p
    by (inr f) = fails (subst P (sym f) p)

pub none_whole : {X : Type 0} (P : X → Type 0) (xs : List X) (i : ℕ) → length xs ≤ i → IsNone P xs i → (y : X) → Contains xs y → P y → ⊥
none_whole P xs i h none y c p = none y (subst (λ ys. Contains ys y) (sym (take_all i xs h)) c) p

-- a variable that a side begins with exists
pub named_there : (order : Below) (lines : List Line) (x : Dtv) → IsNamed lines x → Derivable order lines (Var x)
named_there order lines x (l, y, c, h, f) = front order lines x f.0 (subst (λ z. Derivable order lines (Var z)) (sym f.1) (named l c h))

pub tells_open : (order : Below) (lines : List Line) (line : Line) → Tells order lines line Open
tells_open order lines line = record { no = λ e. absurd (cc); yes = λ e. absurd (cc) }

pub tells_yes : (order : Below) (lines : List Line) (line : Line) → Derivable order lines line → Tells order lines line Yes
tells_yes order lines line d = record { no = λ e. absurd (cc); yes = λ e. d }

pub tells_no : (order : Below) (lines : List Line) (line : Line) → (Derivable order lines line → ⊥) → Tells order lines line No
tells_no order lines line none = record { no = λ e. none; yes = λ e. absurd (cc) }

only_one : (x y : Dtv) (xs : List Dtv) → xs ≡ x ∷ [] → Contains xs y → x ≡ y
only_one x y xs e c = by (Contains-cons_cases x [] y (subst (λ zs. Contains zs y) e c))
  where
    by : (x ≡ y) ⊎ Contains [] y → x ≡ y
    by (inl f) = f
    by (inr d) = absurd (Contains-none y d)

-- an answer of arcs
abbrev pub Denies : List Line → List Dtv → List Dtv → Led → Type 0
Denies lines from to led = led ≡ No → (order : Below) → HasBelow order lines from to → ⊥

abbrev pub Affirms : List Line → List Dtv → List Dtv → Led → Type 0
Affirms lines from to led = led ≡ Yes → (order : Below) → HasBelow order lines from to

pub tells_below : (order : Below) (lines : List Line) (x y : Dtv) (from : List Dtv) (led : Led) → from ≡ x ∷ [] →
    Denies lines from (y ∷ []) led →
    Affirms lines from (y ∷ []) led → Tells order lines (Sub x y) led
tells_below order lines x y from led e denies affirms = record {
  no = λ f d. denies f order (x, y, subst (λ xs. Contains xs x) (sym e) (Contains-here x []), Contains-here y [], d);
  yes = λ f. by (affirms f order);
}
  where
    by : HasBelow order lines from (y ∷ []) → Derivable order lines (Sub x y)
    by (u, v, c, d, h) =
        subst (λ z. Derivable order lines (Sub z y)) (sym (only_one x u from e c))
        (subst (λ z. Derivable order lines (Sub u z)) (sym (only_one y v (y ∷ []) refl d)) h)

module _ (order : Below) (lines : List Line) (is : IsOrder order) (few : All (HasConstantsBelow order.count) lines) (k : ℕ) (x : Dtv) where
  pub tells_low : (led : Led) → (led ≡ No → HasLow order lines k x → ⊥) → (led ≡ Yes → HasLow order lines k x) → Tells order lines (Low k x) led
  tells_low led denies affirms = record {
    no = λ e d. denies e ((low_law order lines k x is few).0 d);
    yes = λ e. low_from order lines k x (affirms e);
  }

  pub tells_up : (led : Led) → k < order.count → (led ≡ No → HasUp order lines x k → ⊥) → (led ≡ Yes → HasUp order lines x k) →
      Tells order lines (Up x k) led
  tells_up led less denies affirms = record {
    no = λ e d. denies e ((up_law order lines x k is few less).0 d);
    yes = λ e. up_from order lines x k (affirms e);
  }

  module _ (from : List Dtv) (are : AreAbove order lines k from) where
    pub low_tells : (some : List Line) (led : Led) → lines ≡ some → Denies some from (x ∷ []) led → Affirms some from (x ∷ []) led →
        Tells order lines (Low k x) led
    low_tells some led e denies affirms = record {
      no = λ f d. denies f order (subst (λ ls. HasBelow order ls from (x ∷ [])) e (has ((low_law order lines k x is few).0 d)));
      yes = λ f. by (subst (λ ls. HasBelow order ls from (x ∷ [])) (sym e) (affirms f order));
    }
      where
        has : HasLow order lines k x → HasBelow order lines from (x ∷ [])
        has h = (h.variable, x, are.all h.bound h.variable h.stands h.at, Contains-here x [], h.below)

        by : HasBelow order lines from (x ∷ []) → Derivable order lines (Low k x)
        by (z, y, c, d, h) =
            let r : (bound : ℕ) × Contains lines (Low bound z) × IsAtOrBelow order k bound = are.only z c in
            low_from order lines k x (record {
              bound = r.0;
              variable = z;
              stands = r.1;
              at = r.2;
              below = subst (λ v. Derivable order lines (Sub z v)) (sym (only_one x y (x ∷ []) refl d)) h;
            })

  module _ (less : k < order.count) (to : List Dtv) (are : AreBelow order lines k to) where
    pub up_tells : (some : List Line) (led : Led) → lines ≡ some → Denies some (x ∷ []) to led → Affirms some (x ∷ []) to led →
        Tells order lines (Up x k) led
    up_tells some led e denies affirms = record {
      no = λ f d. denies f order (subst (λ ls. HasBelow order ls (x ∷ []) to) e (has ((up_law order lines x k is few less).0 d)));
      yes = λ f. by (subst (λ ls. HasBelow order ls (x ∷ []) to) (sym e) (affirms f order));
    }
      where
        has : HasUp order lines x k → HasBelow order lines (x ∷ []) to
        has h = (x, h.variable, Contains-here x [], are.all h.bound h.variable h.stands h.at, h.above)

        by : HasBelow order lines (x ∷ []) to → Derivable order lines (Up x k)
        by (y, z, d, c, h) =
            let r : (bound : ℕ) × Contains lines (Up z bound) × IsAtOrBelow order bound k = are.only z c in
            up_from order lines x k (record {
              bound = r.0;
              variable = z;
              stands = r.1;
              at = r.2;
              above = subst (λ v. Derivable order lines (Sub v z)) (sym (only_one x y (x ∷ []) refl d)) h;
            })

-- the variables of bounds are sides
pub above_named : (order : Below) (lines : List Line) (k : ℕ) (names from : List Dtv) →
    ((l : Line) (y : Dtv) → Contains lines l → HasSide l y → Contains names y) → AreAbove order lines k from →
    (z : Dtv) → Contains from z → Contains names z
above_named order lines k names from sides are z c =
    let r : (bound : ℕ) × Contains lines (Low bound z) × IsAtOrBelow order k bound = are.only z c in sides (Low r.0 z) z r.1 refl

pub below_named : (order : Below) (lines : List Line) (k : ℕ) (names to : List Dtv) →
    ((l : Line) (y : Dtv) → Contains lines l → HasSide l y → Contains names y) → AreBelow order lines k to →
    (z : Dtv) → Contains to z → Contains names z
below_named order lines k names to sides are z c =
    let r : (bound : ℕ) × Contains lines (Up z bound) × IsAtOrBelow order bound k = are.only z c in sides (Up z r.0) z r.1 refl
