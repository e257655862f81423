-- What is found by following arcs.
use Rattle.std.proofs.Common.{◌≡◌, ℕ, ◌+◌, ◌<◌, ◌≤◌, ◌⊎◌, inl, inr, List, [], ◌∷◌, ◌++◌, Contains, length, get_or, refl, sym, ap, subst, ◌∙◌, arith}
use Rattle.std.proofs.lemmas.Bool.{cases_eq}
use Rattle.std.proofs.lemmas.List.{get_or_append_left, get_or_default, get_or_push, length_push}
use Rattle.rt_base.proofs.Lists.{Contains-none}
use Rattle.rt_components.specs.Groups.{Reaches}
use Rattle.rt_components.specs.Groups.Reaches.{there, onward}
use Rattle.rt_named.specs.Numbers.{IsLeft}
use Rattle.rt_named.proofs.Noting.{left_kept}
use Rattle.rt_ways.specs.Arcs.{AreRows, IsReached, IsSpread}

module _ (Edge : ℕ → ℕ → Type 0) where
  -- from those before an index all arcs were followed
  pub record IsSpreading (old now : List ℕ) (i : ℕ) : Type 0 where
    pub stay : (v : ℕ) → Contains old v → Contains now v
    pub done : (j : ℕ) → j < i → j < length now → (w : ℕ) → Edge (get_or now j 0) w → Contains now w
    pub only : (w : ℕ) → Contains now w → (v : ℕ) × Contains old v × Reaches Edge v w

  pub spreading_first : (old : List ℕ) → IsSpreading old old 0
  spreading_first old = record { stay = λ v c. c; done = λ j h k w e. absurd (omega (arith, h)); only = λ w c. (w, c, there) }

  further : {u v w : ℕ} → Reaches Edge u v → Edge v w → Reaches Edge u w
  further there e = onward e there
  further (onward f r) e = onward f (further r e)

  pub spreading_next : (old now new : List ℕ) (i : ℕ) → i < length now → IsLeft (Edge (get_or now i 0)) now new → IsSpreading old now i → IsSpreading old new (i + 1)
  spreading_next old now new i h n are = record {
    stay = λ v c. left_kept (Edge (get_or now i 0)) now new n v (are.stay v c);
    done = λ j less k w e. (let small : j < length now = omega (arith, less, h) in
        done j less small w (subst (λ u. Edge u w) (ap (λ xs. get_or xs j 0) n.kept ∙ get_or_append_left now n.more 0 j small) e) (cases_eq j i));
    only = λ w c. (elim (n.only w c) [
      | inl d ↦ are.only w d
      | inr e ↦ (let r : (v : ℕ) × Contains old v × Reaches Edge v (get_or now i 0) = are.only (get_or now i 0) (i, h, get_or_default now i (get_or now i 0) 0 h) in (r.0, r.1, further r.2 e))
    ]);
  }
    where
      done : (j : ℕ) → j < i + 1 → j < length now → (w : ℕ) → Edge (get_or now j 0) w → (j ≡ i) ⊎ (j ≡ i → ⊥) → Contains new w
      done j less small w e (inl f) = n.all w (subst (λ k. Edge (get_or now k 0) w) f e)
      done j less small w e (inr m) = left_kept (Edge (get_or now i 0)) now new n w (are.done j (omega (arith, less, m)) small w e)

  pub spreading_whole : (old now : List ℕ) (i : ℕ) → length now ≤ i → IsSpreading old now i → IsSpread Edge old now
  spreading_whole old now i h are = record { all = λ v w c r. all (are.stay v c) r; only = are.only }
    where
      all : {v w : ℕ} → Contains now v → Reaches Edge v w → Contains now w
      all c there = c
      all {v} {w} c (onward {b} e r) = all (are.done c.0 (omega (arith, h, c.1)) c.1 b (subst (λ u. Edge u b) (sym (get_or_default now c.0 0 v c.1 ∙ c.2)) e)) r

-- of a list with a number alone only that one is found
alone_only : (v : ℕ) (found : List ℕ) → IsLeft (λ (w : ℕ). v ≡ w) [] found → (w : ℕ) → Contains found w → v ≡ w
alone_only v found left w h = elim (left.only w h) [ inl none ↦ absurd (Contains-none w none) | inr e ↦ e ]

pub reached_from : (Edge : ℕ → ℕ → Type 0) (v : ℕ) (first found : List ℕ) → IsLeft (λ (w : ℕ). v ≡ w) [] first → IsSpread Edge first found →
    IsReached Edge v found
reached_from Edge v first found left spread w = (
  λ h. (let p = spread.only w h in subst (λ u. Reaches Edge u w) (sym (alone_only v first left p.0 p.1)) p.2),
  λ r. spread.all v w (left.all v refl) r,
)

-- rows one after another
pub rows_none : (Edge : ℕ → ℕ → Type 0) (rows : List (List ℕ)) → rows ≡ [] → AreRows Edge 0 rows
rows_none Edge rows e = record { each = ap length e; row = λ v h. absurd (omega (arith, h)) }

pub rows_more : (Edge : ℕ → ℕ → Type 0) (n : ℕ) (rows new : List (List ℕ)) (row : List ℕ) → new ≡ rows ++ row ∷ [] → IsReached Edge n row →
    AreRows Edge n rows → AreRows Edge (n + 1) new
rows_more Edge n rows new row e reached are = record {
  each = ap length e ∙ length_push rows row ∙ ap (λ k. k + 1) are.each;
  row = λ v h. subst (λ xs. IsReached Edge v (get_or xs v [])) (sym e) (at v h (cases_eq v n));
}
  where
    at : (v : ℕ) → v < n + 1 → (v ≡ n) ⊎ (v ≡ n → ⊥) → IsReached Edge v (get_or (rows ++ row ∷ []) v [])
    at v h (inl f) = subst (IsReached Edge v) (sym (ap (λ k. get_or (rows ++ row ∷ []) k []) f ∙ get_or_push rows row [] n are.each)) (subst (λ k. IsReached Edge k row) (sym f) reached)
    at v h (inr m) = (let less : v < length rows = omega (arith, h, m, are.each) in
        subst (IsReached Edge v) (sym (get_or_append_left rows (row ∷ []) [] v less)) (are.row v (omega (arith, h, m))))
