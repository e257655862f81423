-- What is reached step by step, as far as it is looked for.
use Rattle.std.proofs.Common.{◌≡◌, ℕ, ◌+◌, ◌<◌, ◌≤◌, ◌⊎◌, inl, inr, true, List, [], Contains, Some, None, length, get_or, refl, sym, subst, ◌∙◌, arith}
use Rattle.std.specs.Prelude.{slice_get}
use borrow.Author.Count.{below_more}
use Rattle.std.proofs.lemmas.List.{get_or_default}
use Rattle.std.proofs.lemmas.Option.{get_or_from_slice_get, slice_get_within}
use Rattle.rt_components.specs.Groups.{Reaches}
use Rattle.rt_outline.specs.declared.arc.Arc.{Arc}
use Rattle.rt_outline.specs.Arcs.{Leads}
use Rattle.rt_outline.specs.Inside.Sweeps.{AreReached}
use Rattle.rt_outline.proofs.Pushing.{reaches_end}

-- what edges lead to from those that are known, from one of them after another
pub reached_next : (E : ℕ → ℕ → Type 0) (old now new : List ℕ) (i n : ℕ) → slice_get now i ≡ Some n → ((w : ℕ) → Contains new w → Contains now w ⊎ E n w) → AreReached E old now → AreReached E old new
reached_next E old now new i n e more before w c = elim (more w c) [
  | inl d ↦ before w d
  | inr f ↦ (let r : (v : ℕ) × Contains old v × Reaches E v n = before n (i, slice_get_within now i n e, get_or_from_slice_get now i n n e) in (r.0, r.1, reaches_end E r.2 f))
]

-- what is reached from what one number reaches
pub reached_one : (E : ℕ → ℕ → Type 0) (node : ℕ) (old new : List ℕ) → ((w : ℕ) → Contains old w → node ≡ w) → AreReached E old new → (w : ℕ) → Contains new w → Reaches E node w
reached_one E node old new one more w c = let r : (v : ℕ) × Contains old v × Reaches E v w = more w c in subst (λ v. Reaches E v w) (sym (one r.0 r.1)) r.2

-- what pushed arcs lead to, noted one after another
pub pursued_next : (arcs : List Arc) (i : ℕ) (d : Arc) (old now new : List ℕ) → i < length arcs → ((w : ℕ) → Contains now w → Contains old w ⊎ Contains arcs (record { to = w; line = None })) →
    ((w : ℕ) → Contains new w → Contains now w ⊎ (((get_or arcs i d).to ≡ w) × ((get_or arcs i d).line ≡ None))) → (w : ℕ) → Contains new w → Contains old w ⊎ Contains arcs (record { to = w; line = None })
pursued_next arcs i d old now new h before more w c = elim (more w c) [
  | inl e ↦ before w e
  | inr e ↦ inr (i, h, get_or_default arcs i (record { to = w; line = None }) d h ∙ (λ j. record { to = e.0 j; line = e.1 j }))
]

pub pursued_whole : (arcs : List (List Arc)) (from : ℕ) (leaving : List Arc) (old new : List ℕ) → leaving ≡ get_or arcs from [] → ((w : ℕ) → Contains new w → Contains old w ⊎ Contains leaving (record { to = w; line = None })) →
    (w : ℕ) → Contains new w → Contains old w ⊎ Leads arcs [] true from w
pursued_whole arcs from leaving old new e more w c = elim (more w c) [
  | inl d ↦ inl d
  | inr d ↦ inr (None, subst (λ xs. Contains xs (record { to = w; line = None })) e d, refl)
]

-- ends asked for one after another
pub asked_next : (numbers ends : List ℕ) (i : ℕ) → ((j : ℕ) → j < i → Contains numbers (get_or ends j 0)) → Contains numbers (get_or ends i 0) → (j : ℕ) → j < i + 1 → Contains numbers (get_or ends j 0)
asked_next numbers ends i before here = below_more (λ j. Contains numbers (get_or ends j 0)) i before here

pub asked_whole : (numbers items ends : List ℕ) (i : ℕ) → items ≡ ends → length items ≤ i → ((j : ℕ) → j < i → Contains numbers (get_or items j 0)) → (w : ℕ) → Contains ends w → Contains numbers w
asked_whole numbers items ends i e h all w c = let d : Contains items w = subst (λ xs. Contains xs w) (sym e) c in
    subst (Contains numbers) (get_or_default items d.0 0 w d.1 ∙ d.2) (all d.0 (omega (arith, h, d.1)))
