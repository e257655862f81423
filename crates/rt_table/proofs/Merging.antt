-- Two lists of definitions merged from the front.
use Rattle.std.proofs.Common.{◌≡◌, ◌⊎◌, ◌≤◌, inl, inr, ℕ, List, [], ◌∷◌, ◌++◌, length, drop, refl, sym, ap, ◌∙◌, append_assoc}
use Rattle.std.proofs.lemmas.List.{append-nil, drop_all}
use Rattle.rt_flow.specs.declared.def.Def.{Def}
use Rattle.rt_table.specs.Table.{merged}

-- so much of both lists is merged
pub record IsMerging (left right all : List Def) (i j : ℕ) : Type 0 where
  pub left_in : i ≤ length left
  pub right_in : j ≤ length right
  pub merges : all ++ merged (drop i left) (drop j right) ≡ merged left right

merged-none : (ys : List Def) → merged [] ys ≡ ys
merged-none [] = refl
merged-none (y ∷ ys) = refl

rest : (xs ys all : List Def) → (xs ≡ []) ⊎ (ys ≡ []) → (all ++ xs) ++ ys ≡ all ++ merged xs ys
rest xs ys all (inl e) = append_assoc all xs ys ∙ ap (λ zs. all ++ (zs ++ ys)) e ∙ ap (λ zs. all ++ zs) (sym (merged-none ys)) ∙ ap (λ zs. all ++ merged zs ys) (sym e)
rest xs ys all (inr e) = ap (λ zs. (all ++ xs) ++ zs) e ∙ append-nil (all ++ xs) ∙ ap (λ zs. all ++ merged xs zs) (sym e)

-- where one list is through, the rest of both follows
pub merging-end : (left right all : List Def) (i j : ℕ) → IsMerging left right all i j → (length left ≤ i) ⊎ (length right ≤ j) → (all ++ drop i left) ++ drop j right ≡ merged left right
merging-end left right all i j h (inl e) = rest (drop i left) (drop j right) all (inl (drop_all i left e)) ∙ h.merges
merging-end left right all i j h (inr e) = rest (drop i left) (drop j right) all (inr (drop_all j right e)) ∙ h.merges
