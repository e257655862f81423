-- The index of uses, line after line.
use Rattle.std.proofs.Common.{◌≡◌, ℕ, ◌+◌, ◌<◌, ◌⊎◌, inl, inr, List, [], ◌∷◌, ◌++◌, Contains, Bool, true, refl, sym, ap, subst, ◌∙◌, arith}
use Rattle.std.proofs.lemmas.List.Elements.{Contains-push_cases, Contains-append_left, Contains-append_right}
use Rattle.rt_base.proofs.Lists.{Contains-here}
use Rattle.rt_lines.specs.declared.line.Line.{Line}
use Rattle.rt_polar.specs.Index.{IsBareNoted}
use Rattle.rt_refine.specs.declared.uses.Side.{Side}
use Rattle.rt_refine.specs.Uses.{Use, use_line, move_use, Stands}
use Rattle.rt_refine.specs.Ranks.{Rank, use_ranks}
use Rattle.rt_refine.specs.Numbers.{IsNumbered, IsNumberOf, IsUseIndex, IsIndexOf}
use Rattle.rt_refine.proofs.Owning.{use_parts}
use Rattle.rt_refine.proofs.Ranking.{use_ranks-one}

-- the list is that of a use that had no number
abbrev IsFresh : Use → ℕ → ℕ → (List Rank → ℕ → Type 0) → List Rank → ℕ → Type 0
IsFresh q bound number old r k = (r ≡ use_ranks q) × (k ≡ bound) × (number ≡ bound) × ((j : ℕ) → old (use_ranks q) j → ⊥)

module _ (side : Side) (seen : List Line) (class : ℕ → ℕ) (wanted : ℕ → Bool) (l : Line) where
  wider : (n : ℕ) (u : Use) → Stands side seen class n u → Stands side (seen ++ l ∷ []) class n u
  wider n u (v, c, e) = (v, Contains-append_left seen (l ∷ []) (use_line side n v) c, e)

  stands_cases : (n : ℕ) (u : Use) → Stands side (seen ++ l ∷ []) class n u →
      Stands side seen class n u ⊎ ((v : Use) × (l ≡ use_line side n v) × (move_use class v ≡ u))
  stands_cases n u (v, c, e) = by (Contains-push_cases seen l (use_line side n v) c)
    where
      by : Contains seen (use_line side n v) ⊎ (l ≡ use_line side n v) →
          Stands side seen class n u ⊎ ((v : Use) × (l ≡ use_line side n v) × (move_use class v ≡ u))
      by (inl d) = inl (v, d, e)
      by (inr f) = inr (v, f, e)

  -- a line of no existential that is asked for changes nothing
  pub index_stays : (bound : ℕ) (numbers : List Rank → ℕ → Type 0) (index : ℕ → ℕ → Bool) →
      ((n : ℕ) (u : Use) → wanted n ≡ true → l ≡ use_line side n u → ⊥) →
      IsIndexOf side seen class wanted bound numbers index → IsIndexOf side (seen ++ l ∷ []) class wanted (bound + 1) numbers index
  index_stays bound numbers index none is = record {
    one_list = is.one_list;
    one_number = is.one_number;
    below = λ r k h. let lt = is.below r k h in omega (arith, lt);
    here = λ n u may s. by n u may (stands_cases n u s);
    source = λ n k h. let s = is.source n k h in (s.0, wider n s.0 s.1, s.2);
  }
    where
      by : (n : ℕ) (u : Use) → wanted n ≡ true →
          Stands side seen class n u ⊎ ((v : Use) × (l ≡ use_line side n v) × (move_use class v ≡ u)) →
          (k : ℕ) × numbers (use_ranks u) k × (index n k ≡ true)
      by n u may (inl s) = is.here n u may s
      by n u may (inr (v, e, f)) = absurd (none n v may e)

  -- one of an existential adds its use
  pub index_more : (m : ℕ) (q : Use) (number bound : ℕ) (old new : List Rank → ℕ → Type 0) (index next : ℕ → ℕ → Bool) →
      l ≡ use_line side m q → IsNumbered (use_ranks (move_use class q)) bound number old new → IsBareNoted m number index next →
      IsIndexOf side seen class wanted bound old index → IsIndexOf side (seen ++ l ∷ []) class wanted (bound + 1) new next
  index_more m q number bound old new index next own numbered noted is = record {
    one_list = λ r s k h g. one_list r s k (numbered.source r k h) (numbered.source s k g);
    one_number = numbered.one;
    below = λ r k h. below r k (numbered.source r k h);
    here = λ n u may s. here n u may (stands_cases n u s);
    source = λ n k h. source n k (noted.source n k h);
  }
    where
      p : Use
      p = move_use class q

      one_list : (r s : List Rank) (k : ℕ) → old r k ⊎ IsFresh p bound number old r k → old s k ⊎ IsFresh p bound number old s k → r ≡ s
      one_list r s k (inl h) (inl g) = is.one_list r s k h g
      one_list r s k (inl h) (inr (e, f, n, none)) = let lt = is.below r k h in absurd (omega (arith, lt, f))
      one_list r s k (inr (e, f, n, none)) (inl g) = let lt = is.below s k g in absurd (omega (arith, lt, f))
      one_list r s k (inr (e, f, n, none)) (inr (g, h, i, j)) = e ∙ sym g

      below : (r : List Rank) (k : ℕ) → old r k ⊎ IsFresh p bound number old r k → k < bound + 1
      below r k (inl h) = let lt = is.below r k h in omega (arith, lt)
      below r k (inr (e, f, n, none)) = omega (arith, f)

      own_number : (n : ℕ) (v u : Use) → (m ≡ n) × (q ≡ v) → move_use class v ≡ u → (k : ℕ) × new (use_ranks u) k × (next n k ≡ true)
      own_number n v u (e, f) g = (
        number,
        subst (λ (r : Use). new (use_ranks r) number) (ap (move_use class) f ∙ g) numbered.is,
        subst (λ (j : ℕ). next j number ≡ true) e noted.added,
      )

      here : (n : ℕ) (u : Use) → wanted n ≡ true →
          Stands side seen class n u ⊎ ((v : Use) × (l ≡ use_line side n v) × (move_use class v ≡ u)) →
          (k : ℕ) × new (use_ranks u) k × (next n k ≡ true)
      here n u may (inl c) = let s = is.here n u may c in (s.0, numbered.kept (use_ranks u) s.0 s.1, noted.kept n s.0 s.2)
      here n u may (inr (v, e, f)) = own_number n v u (use_parts side m n q v (sym own ∙ e)) f

      source : (n k : ℕ) → (index n k ≡ true) ⊎ ((n ≡ m) × (k ≡ number)) →
          (u : Use) × Stands side (seen ++ l ∷ []) class n u × new (use_ranks u) k
      source n k (inl h) = let s = is.source n k h in (s.0, wider n s.0 s.1, numbered.kept (use_ranks s.0) k s.2)
      source n k (inr (e, f)) = (
        p,
        (
          q,
          Contains-append_right seen (l ∷ []) (use_line side n q)
              (subst (Contains (l ∷ [])) (own ∙ ap (λ (j : ℕ). use_line side j q) (sym e)) (Contains-here l [])),
          refl,
        ),
        subst (new (use_ranks p)) (sym f) numbered.is,
      )

-- when all lines were seen
pub index_whole : (side : Side) (lines : List Line) (class : ℕ → ℕ) (wanted : ℕ → Bool) (bound : ℕ)
    (numbers : List Rank → ℕ → Type 0) (index : ℕ → ℕ → Bool) → IsIndexOf side lines class wanted bound numbers index →
    IsUseIndex side lines class wanted bound index
index_whole side lines class wanted bound numbers index is = record {
  numbered = λ n u may c. let s = is.here n u may c in (s.0, number_of u s.0 s.1);
  source = λ n k h. let s = is.source n k h in (s.0, number_of s.0 k s.2);
  within = λ n k h. let s = is.source n k h in is.below (use_ranks s.0) k s.2;
}
  where
    number_of : (u : Use) (k : ℕ) → numbers (use_ranks u) k → IsNumberOf side lines class wanted index k u
    number_of u k numbered n may = (forth, back)
      where
        forth : index n k ≡ true → Stands side lines class n u
        forth h =
            let s = is.source n k h in
            let e : s.0 ≡ u = use_ranks-one s.0 u (is.one_list (use_ranks s.0) (use_ranks u) k s.2 numbered) in
            subst (Stands side lines class n) e s.1

        back : Stands side lines class n u → index n k ≡ true
        back c =
            let s = is.here n u may c in
            subst (λ (j : ℕ). index n j ≡ true) (is.one_number (use_ranks u) s.0 k s.1 numbered) s.2
