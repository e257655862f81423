-- Bounds of lines, entered one by one.
use Rattle.std.proofs.Common.{◌≡◌, ℕ, ◌+◌, ◌<◌, ◌≤◌, inl, inr, Some, List, [], ◌∷◌, ◌++◌, Contains, length, get_or, take, sym, ap, subst, ◌∙◌}
use Rattle.std.specs.Prelude.{slice_get}
use Rattle.std.proofs.lemmas.List.{take_all, take_more}
use Rattle.std.proofs.lemmas.List.Elements.{Contains-append_left, Contains-push, Contains-push_cases}
use Rattle.std.proofs.lemmas.Option.{get_or_from_slice_get, slice_get_within}
use Rattle.rt_base.proofs.Lists.{Contains-none, Contains-here}
use Rattle.rt_lines.specs.declared.variable.Dtv.{Dtv}
use Rattle.rt_lines.specs.declared.line.Line.{Line}
use Rattle.rt_lines.specs.declared.line.Line.TheVariants.{Low, Up}
use Rattle.rt_named.specs.Origins.{no_variable}
use Rattle.rt_ways.specs.Arcs.{AreMore, IsAdded}
use Rattle.rt_ways.specs.Pushes.{AreDistinct, variable_at}
use Rattle.rt_ways.proofs.Entering.{more_none, one_line}
use Rattle.rt_ways.proofs.Hubs.{more_arc, more_join}
use Rattle.rt_sketch.specs.Bounds.{AreBoundsOf, IsLow, IsUp}

pub bounds_all : (P : ℕ → ℕ → Type 0) (count : ℕ) (empty rows : List (List ℕ)) → length empty ≡ count → ((v : ℕ) → get_or empty v [] ≡ []) → AreMore P empty rows → AreBoundsOf count P rows
bounds_all P count empty rows e none m = record {
  each = m.each ∙ e;
  bound = λ n k. (λ c. (elim (m.only n k c) [ inl d ↦ absurd (Contains-none k (subst (λ xs. Contains xs k) (none n) d)) | inr p ↦ p ]), λ p. m.all n k p);
}

-- lower bounds
pub low_one : (named : List Dtv) (x : Dtv) (v k : ℕ) (old new : List (List ℕ)) → AreDistinct named → slice_get named v ≡ Some x → IsAdded v k old new → AreMore (IsLow named (Low k x ∷ [])) old new
low_one named x v k old new distinct e added = more_arc (IsLow named (Low k x ∷ [])) v k old new here one added
  where
    left : v < length named
    left = slice_get_within named v x e

    is_left : variable_at named v ≡ x
    is_left = get_or_from_slice_get named v x no_variable e

    here : IsLow named (Low k x ∷ []) v k
    here = (left, subst (Contains (Low k x ∷ [])) (ap (Low k) (sym is_left)) (Contains-here (Low k x) []))

    one : (a b : ℕ) → IsLow named (Low k x ∷ []) a b → (a ≡ v) × (b ≡ k)
    one a b is =
        let g : Low k x ≡ Low b (variable_at named a) = one_line (Low k x) (Low b (variable_at named a)) is.1 in
        let p : x ≡ variable_at named a = cc in
        let q : k ≡ b = cc in
        (distinct a v is.0 left (sym p ∙ sym is_left), sym q)

pub low_none : (named : List Dtv) (l : Line) (rows : List (List ℕ)) → ((x : Dtv) (k : ℕ) → l ≡ Low k x → ⊥) → AreMore (IsLow named (l ∷ [])) rows rows
low_none named l rows not = more_none (IsLow named (l ∷ [])) rows (λ v k is. not (variable_at named v) k (one_line l (Low k (variable_at named v)) is.1))

pub lows_first : (named : List Dtv) (lines : List Line) (rows : List (List ℕ)) → AreMore (IsLow named (take 0 lines)) rows rows
lows_first named lines rows = more_none (IsLow named []) rows (λ v k is. Contains-none (Low k (variable_at named v)) is.1)

pub lows_next : (named : List Dtv) (lines : List Line) (i : ℕ) (d l : Line) (old mid new : List (List ℕ)) → i < length lines → l ≡ get_or lines i d → AreMore (IsLow named (take i lines)) old mid →
    AreMore (IsLow named (l ∷ [])) mid new → AreMore (IsLow named (take (i + 1) lines)) old new
lows_next named lines i d l old mid new h e m n =
    subst (λ xs. AreMore (IsLow named xs) old new) (sym (take_more lines i d h ∙ ap (λ (k : Line). take i lines ++ k ∷ []) (sym e)))
    (more_join (IsLow named (take i lines)) (IsLow named (l ∷ [])) (IsLow named (take i lines ++ l ∷ [])) old mid new
    (λ v k is. (elim (Contains-push_cases (take i lines) l (Low k (variable_at named v)) is.1) [
      | inl c ↦ inl (is.0, c)
      | inr f ↦ inr (is.0, subst (Contains (l ∷ [])) f (Contains-here l []))
    ]))
    (λ v k is. (is.0, Contains-append_left (take i lines) (l ∷ []) (Low k (variable_at named v)) is.1))
    (λ v k is. (is.0, subst (Contains (take i lines ++ l ∷ [])) (one_line l (Low k (variable_at named v)) is.1) (Contains-push (take i lines) l))) m n)

pub lows_whole : (named : List Dtv) (lines : List Line) (i : ℕ) (old new : List (List ℕ)) → length lines ≤ i → AreMore (IsLow named (take i lines)) old new → AreMore (IsLow named lines) old new
lows_whole named lines i old new h m = subst (λ xs. AreMore (IsLow named xs) old new) (take_all i lines h) m

-- upper bounds
pub up_one : (named : List Dtv) (x : Dtv) (v k : ℕ) (old new : List (List ℕ)) → AreDistinct named → slice_get named v ≡ Some x → IsAdded v k old new → AreMore (IsUp named (Up x k ∷ [])) old new
up_one named x v k old new distinct e added = more_arc (IsUp named (Up x k ∷ [])) v k old new here one added
  where
    left : v < length named
    left = slice_get_within named v x e

    is_left : variable_at named v ≡ x
    is_left = get_or_from_slice_get named v x no_variable e

    here : IsUp named (Up x k ∷ []) v k
    here = (left, subst (Contains (Up x k ∷ [])) (ap (λ z. Up z k) (sym is_left)) (Contains-here (Up x k) []))

    one : (a b : ℕ) → IsUp named (Up x k ∷ []) a b → (a ≡ v) × (b ≡ k)
    one a b is =
        let g : Up x k ≡ Up (variable_at named a) b = one_line (Up x k) (Up (variable_at named a) b) is.1 in
        let p : x ≡ variable_at named a = cc in
        let q : k ≡ b = cc in
        (distinct a v is.0 left (sym p ∙ sym is_left), sym q)

pub up_none : (named : List Dtv) (l : Line) (rows : List (List ℕ)) → ((x : Dtv) (k : ℕ) → l ≡ Up x k → ⊥) → AreMore (IsUp named (l ∷ [])) rows rows
up_none named l rows not = more_none (IsUp named (l ∷ [])) rows (λ v k is. not (variable_at named v) k (one_line l (Up (variable_at named v) k) is.1))

pub ups_first : (named : List Dtv) (lines : List Line) (rows : List (List ℕ)) → AreMore (IsUp named (take 0 lines)) rows rows
ups_first named lines rows = more_none (IsUp named []) rows (λ v k is. Contains-none (Up (variable_at named v) k) is.1)

pub ups_next : (named : List Dtv) (lines : List Line) (i : ℕ) (d l : Line) (old mid new : List (List ℕ)) → i < length lines → l ≡ get_or lines i d → AreMore (IsUp named (take i lines)) old mid →
    AreMore (IsUp named (l ∷ [])) mid new → AreMore (IsUp named (take (i + 1) lines)) old new
ups_next named lines i d l old mid new h e m n =
    subst (λ xs. AreMore (IsUp named xs) old new) (sym (take_more lines i d h ∙ ap (λ (k : Line). take i lines ++ k ∷ []) (sym e)))
    (more_join (IsUp named (take i lines)) (IsUp named (l ∷ [])) (IsUp named (take i lines ++ l ∷ [])) old mid new
    (λ v k is. (elim (Contains-push_cases (take i lines) l (Up (variable_at named v) k) is.1) [
      | inl c ↦ inl (is.0, c)
      | inr f ↦ inr (is.0, subst (Contains (l ∷ [])) f (Contains-here l []))
    ]))
    (λ v k is. (is.0, Contains-append_left (take i lines) (l ∷ []) (Up (variable_at named v) k) is.1))
    (λ v k is. (is.0, subst (Contains (take i lines ++ l ∷ [])) (one_line l (Up (variable_at named v) k) is.1) (Contains-push (take i lines) l))) m n)

pub ups_whole : (named : List Dtv) (lines : List Line) (i : ℕ) (old new : List (List ℕ)) → length lines ≤ i → AreMore (IsUp named (take i lines)) old new → AreMore (IsUp named lines) old new
ups_whole named lines i old new h m = subst (λ xs. AreMore (IsUp named xs) old new) (take_all i lines h) m
