-- The `<=` lines and bounds of lines, and the bases that they keep.
use Rattle.std.proofs.Common.{◌≡◌, ℕ, ◌⊎◌, inl, inr, List, [], ◌∷◌, map, filter, Contains, Bool, true, false, cond, refl, sym, ap}
use Rattle.std.proofs.Common.{subst, ◌∙◌}
use Rattle.rt_base.proofs.Lists.{Contains-none, Contains-here, Contains-there, Contains-cons_cases, Contains-map, Contains-map_source}
use Rattle.rt_lines.specs.declared.label.Variance.{Variance}
use Rattle.rt_lines.specs.declared.label.Variance.TheVariants.{Co, Contra}
use Rattle.rt_lines.specs.declared.variable.Base.{Base}
use Rattle.rt_lines.specs.declared.variable.Base.TheVariants.{Proc, Global, Exist, Outer}
use Rattle.rt_lines.specs.declared.variable.Dtv.{Dtv}
use Rattle.rt_lines.specs.declared.line.Line.{Line}
use Rattle.rt_lines.specs.declared.line.Line.TheVariants.{Var, Same, Sub, Low, Up}
use Rattle.rt_lines.specs.Equality.{variable_eq}
use Rattle.rt_lines.specs.Words.{variance_of_word}
use Rattle.rt_lines.specs.Orders.{Below}
use Rattle.rt_lines.proofs.Equal.{variable_equal}
use Rattle.rt_lines.proofs.Deduplicating.{deduplicated-has, deduplicated-source}
use Rattle.rt_rules.specs.Rules.{HasSide}
use Rattle.rt_rules.specs.Put.{HasUse}
use Rattle.rt_polar.specs.Tidied.{without_self, tidied}
use Rattle.rt_reduction.specs.Emits.{IsOfScheme, AreOfScheme, is_flow, flow_lines, IsKept}

module _ {X : Type 0} (p : X → Bool) where
  filter_cons : (y : X) (xs : List X) (x : X) (t : Bool) → p y ≡ t → (y ≡ x) ⊎ Contains (filter p xs) x → p x ≡ true →
      Contains (cond t (y ∷ filter p xs) (filter p xs)) x
  filter_cons y xs x true e (inl f) h = subst (Contains (y ∷ filter p xs)) f (Contains-here y (filter p xs))
  filter_cons y xs x true e (inr c) h = Contains-there y (filter p xs) x c
  filter_cons y xs x false e (inl f) h = let g : p x ≡ false = subst (λ z. p z ≡ false) f e in absurd (cc)
  filter_cons y xs x false e (inr c) h = c

  -- what passes a test is among what is kept
  pub filter_has : (xs : List X) (x : X) → Contains xs x → p x ≡ true → Contains (filter p xs) x
  filter_has [] x c h = absurd (Contains-none x c)
  filter_has (y ∷ xs) x c h = filter_cons y xs x (p y) refl (by (Contains-cons_cases y xs x c) (λ d. filter_has xs x d h)) h
    where
      by : (y ≡ x) ⊎ Contains xs x → (Contains xs x → Contains (filter p xs) x) → (y ≡ x) ⊎ Contains (filter p xs) x
      by (inl e) rest = inl e
      by (inr d) rest = inr (rest d)

  filter_cons_source : (y : X) (xs : List X) (x : X) (t : Bool) → p y ≡ t → Contains (cond t (y ∷ filter p xs) (filter p xs)) x →
      ((y ≡ x) × (p x ≡ true)) ⊎ Contains (filter p xs) x
  filter_cons_source y xs x true e c = by (Contains-cons_cases y (filter p xs) x c)
    where
      by : (y ≡ x) ⊎ Contains (filter p xs) x → ((y ≡ x) × (p x ≡ true)) ⊎ Contains (filter p xs) x
      by (inl f) = inl (f, subst (λ z. p z ≡ true) f e)
      by (inr d) = inr d
  filter_cons_source y xs x false e c = inr c

  pub filter_source : (xs : List X) (x : X) → Contains (filter p xs) x → Contains xs x × (p x ≡ true)
  filter_source [] x c = absurd (Contains-none x c)
  filter_source (y ∷ xs) x c = by (filter_cons_source y xs x (p y) refl c) (λ d. filter_source xs x d)
    where
      by : ((y ≡ x) × (p x ≡ true)) ⊎ Contains (filter p xs) x → (Contains (filter p xs) x → Contains xs x × (p x ≡ true)) →
          Contains (y ∷ xs) x × (p x ≡ true)
      by (inl (e, h)) rest = (subst (Contains (y ∷ xs)) e (Contains-here y xs), h)
      by (inr d) rest = let r : Contains xs x × (p x ≡ true) = rest d in (Contains-there y xs x r.0, r.1)

-- a flow line comes from itself
plain : (k : Line) → is_flow (without_self k) ≡ true → without_self k ≡ k
plain (Var x) e = refl
plain (Same x y) e = by (variable_eq x y) e
  where
    by : (t : Bool) → is_flow (cond t (Var x) (Same x y)) ≡ true → cond t (Var x) (Same x y) ≡ Same x y
    by true f = absurd (cc)
    by false f = refl
plain (Sub x y) e = by (variable_eq x y) e
  where
    by : (t : Bool) → is_flow (cond t (Var x) (Sub x y)) ≡ true → cond t (Var x) (Sub x y) ≡ Sub x y
    by true f = absurd (cc)
    by false f = refl
plain (Low k x) e = refl
plain (Up x k) e = refl

-- a flow line is a line of the list
pub flow_source : (lines : List Line) (l : Line) → Contains (flow_lines lines) l → Contains lines l × (is_flow l ≡ true)
flow_source lines l c =
    let f : Contains (tidied lines) l × (is_flow l ≡ true) = filter_source is_flow (tidied lines) l c in
    by f.1 (Contains-map_source without_self lines l (deduplicated-source (map without_self lines) l f.0))
  where
    by : is_flow l ≡ true → (k : Line) × Contains lines k × (without_self k ≡ l) → Contains lines l × (is_flow l ≡ true)
    by h (k, d, e) = (subst (Contains lines) (sym (plain k (subst (λ m. is_flow m ≡ true) (sym e) h)) ∙ e) d, h)

pub flow_has : (lines : List Line) (l : Line) → Contains lines l → is_flow l ≡ true → without_self l ≡ l → Contains (flow_lines lines) l
flow_has lines l c h e =
    filter_has is_flow (tidied lines) l (deduplicated-has (map without_self lines) l
    (subst (Contains (map without_self lines)) e (Contains-map without_self lines l c))) h

-- a `<=` line puts a variable beside itself, or is a flow line
pub sub_flow : (lines : List Line) (x y : Dtv) → Contains lines (Sub x y) → (x ≡ y) ⊎ Contains (flow_lines lines) (Sub x y)
sub_flow lines x y c = by (variable_eq x y) refl
  where
    by : (t : Bool) → variable_eq x y ≡ t → (x ≡ y) ⊎ Contains (flow_lines lines) (Sub x y)
    by true e = inl (variable_equal x y e)
    by false e = inr (flow_has lines (Sub x y) c refl (ap (λ t. cond t (Var x) (Sub x y)) e))

-- a side of a flow line that is an existential's is a use
use_left : (n : ℕ) (x y : Dtv) (v : Variance) → variance_of_word x.word ≡ v → x.base ≡ Exist n → HasUse Co n (Sub x y) ⊎
    HasUse Contra n (Sub x y)
use_left n x y Co e f = inr (inl (f, e))
use_left n x y Contra e f = inl (inl (f, e))

use_right : (n : ℕ) (x y : Dtv) (v : Variance) → variance_of_word y.word ≡ v → y.base ≡ Exist n → HasUse Co n (Sub x y) ⊎
    HasUse Contra n (Sub x y)
use_right n x y Co e f = inl (inr (f, e))
use_right n x y Contra e f = inr (inr (f, e))

use_low : (n k : ℕ) (x : Dtv) (v : Variance) → variance_of_word x.word ≡ v → x.base ≡ Exist n → HasUse Co n (Low k x) ⊎
    HasUse Contra n (Low k x)
use_low n k x Co e f = inl (f, e)
use_low n k x Contra e f = inr (f, e)

use_up : (n k : ℕ) (x : Dtv) (v : Variance) → variance_of_word x.word ≡ v → x.base ≡ Exist n → HasUse Co n (Up x k) ⊎
    HasUse Contra n (Up x k)
use_up n k x Co e f = inr (f, e)
use_up n k x Contra e f = inl (f, e)

use_side : (n : ℕ) (l : Line) (x : Dtv) → is_flow l ≡ true → HasSide l x → x.base ≡ Exist n → HasUse Co n l ⊎ HasUse Contra n l
use_side n (Var y) x e h f = absurd (cc)
use_side n (Same y w) x e h f = absurd (cc)
use_side n (Sub y w) x e (inl h) f = use_left n y w (variance_of_word y.word) refl (ap (λ z. z.base) h ∙ f)
use_side n (Sub y w) x e (inr h) f = use_right n y w (variance_of_word w.word) refl (ap (λ z. z.base) h ∙ f)
use_side n (Low k y) x e h f = use_low n k y (variance_of_word y.word) refl (ap (λ z. z.base) h ∙ f)
use_side n (Up y k) x e h f = use_up n k y (variance_of_word y.word) refl (ap (λ z. z.base) h ∙ f)

-- the base of a side of a flow line is kept
pub kept_side : (order : Below) (lines : List Line) → AreOfScheme lines → (l : Line) (x : Dtv) → Contains (flow_lines lines) l →
    HasSide l x → IsKept order lines x.base
kept_side order lines scheme l x c h = by x.base refl
  where
    source : Contains lines l × (is_flow l ≡ true)
    source = flow_source lines l c

    by : (b : Base) → x.base ≡ b → IsKept order lines b
    by (Exist n) e = (l, c, use_side n l x source.1 h e)
    by (Global n) e = (l, x, source.0, h, e)
    by (Proc n) e = (l, x, source.0, h, e)
    by (Outer n) e = subst (λ b. IsOfScheme b x.word) e (scheme l x source.0 h)
