-- Nodes of hubs, entered with their load and store.
use Rattle.std.proofs.Common.{◌≡◌, ℕ, ◌⊎◌, inl, inr, List, [], ◌∷◌, ◌++◌, Option, Some, None, length, sym, subst, ap, ◌∙◌}
use Rattle.rt_lines.specs.declared.label.Label.{Label}
use Rattle.rt_lines.specs.declared.label.Label.TheVariants.{Load, Store}
use Rattle.rt_outline.specs.declared.arc.Arc.{Arc}
use Rattle.rt_outline.specs.Arcs.{HasArc, IsAdded}
use Rattle.rt_outline.specs.Frames.{Origins, HavePointers, IsMade}
use Rattle.rt_outline.specs.Hubs.{IsGrownBy}
use Rattle.rt_outline.proofs.Framed.{arcs_wider, slice_cases}
use Rattle.rt_outline.proofs.Gathered.{grown_joined, stepped_entered, stepped_more}

-- what is made of another one was there before, or is the node more
pub made_cases : (old new : Origins) (origin : Option (ℕ × Label)) → new ≡ old ++ origin ∷ [] → (n p : ℕ) (l : Label) → IsMade new n p l → IsMade old n p l ⊎ ((n ≡ length old) × (origin ≡ Some (p, l)))
made_cases old new origin e n p l m = slice_cases old origin n (Some (p, l)) (subst (λ (os : Origins). IsMade os n p l) e m)

-- a node that is made of none leaves stores and loads as they were
pub pointers_entered : (old new : Origins) (arcs next : List (List Arc)) → new ≡ old ++ None ∷ [] → next ≡ arcs ++ [] ∷ [] → HavePointers old arcs → HavePointers new next
pointers_entered old new arcs next e f have p v w m n =
    let store : IsMade old v p Store = before v Store m in
    let load : IsMade old w p Load = before w Load n in
    subst (λ (xs : List (List Arc)). HasArc xs v w None) (sym f) ((arcs_wider arcs v w None).1 (have p v w store load))
  where
    before : (u : ℕ) (l : Label) → IsMade new u p l → IsMade old u p l
    before u l k = elim (made_cases old new None e u p l k) [ inl d ↦ d | inr g ↦ absurd (let h : None ≡ Some (p, l) = g.1 in cc) ]

-- a load and a store more, of a node that had none, with the arc between these
module _ (old mid new last : Origins) (arcs some next all : List (List Arc)) (node load store : ℕ) (none : (n : ℕ) (l : Label) → IsMade old n node l → ⊥)
    (loaded : mid ≡ old ++ Some (node, Load) ∷ []) (wider : some ≡ arcs ++ [] ∷ []) (is_load : load ≡ length old)
    (stored : new ≡ mid ++ Some (node, Store) ∷ []) (wide : next ≡ some ++ [] ∷ []) (is_store : store ≡ length mid)
    (same : last ≡ new) (added : IsAdded store (record { to = load; line = None }) next all) where
  pub both_grown : IsGrownBy old arcs last all
  both_grown =
      grown_joined old new last arcs next all store load
      (stepped_more old mid new arcs some next (stepped_entered old mid arcs some (Some (node, Load)) loaded wider) (stepped_entered mid new some next (Some (node, Store)) stored wide)) same added

  cases : (n p : ℕ) (l : Label) → IsMade last n p l → IsMade old n p l ⊎ ((node ≡ p) × (((n ≡ load) × (Load ≡ l)) ⊎ ((n ≡ store) × (Store ≡ l))))
  cases n p l m = elim (made_cases mid new (Some (node, Store)) stored n p l (subst (λ (os : Origins). IsMade os n p l) same m)) [
    | inl d ↦ (elim (made_cases old mid (Some (node, Load)) loaded n p l d) [
      | inl b ↦ inl b
      | inr e ↦ (let f : (node, Load) ≡ (p, l) = cc in inr (ap (λ (x : ℕ × Label). x.0) f, inl (e.0 ∙ sym is_load, ap (λ (x : ℕ × Label). x.1) f)))
    ])
    | inr e ↦ (let f : (node, Store) ≡ (p, l) = cc in inr (ap (λ (x : ℕ × Label). x.0) f, inr (e.0 ∙ sym is_store, ap (λ (x : ℕ × Label). x.1) f)))
  ]

  not_before : (n p : ℕ) (l : Label) → node ≡ p → IsMade old n p l → ⊥
  not_before n p l e m = none n l (subst (λ q. IsMade old n q l) (sym e) m)

  pub both_pointers : HavePointers old arcs → HavePointers last all
  both_pointers have p v w m n = elim (cases v p Store m) [
    | inl d ↦ (elim (cases w p Load n) [
      | inl b ↦ both_grown.kept v w None (have p v w d b)
      | inr e ↦ absurd (not_before v p Store e.0 d)
    ])
    | inr e ↦ (elim (cases w p Load n) [
      | inl b ↦ absurd (not_before w p Load e.0 b)
      | inr f ↦ by e.1 f.1
    ])
  ]
    where
      by : ((v ≡ load) × (Load ≡ Store)) ⊎ ((v ≡ store) × (Store ≡ Store)) → ((w ≡ load) × (Load ≡ Load)) ⊎ ((w ≡ store) × (Store ≡ Load)) → HasArc all v w None
      by (inl a) b = absurd (let g : Load ≡ Store = a.1 in cc)
      by (inr a) (inr b) = absurd (let g : Store ≡ Load = b.1 in cc)
      by (inr a) (inl b) = subst (λ x. HasArc all x w None) (sym a.0) (subst (λ y. HasArc all store y None) (sym b.0) added.added)
