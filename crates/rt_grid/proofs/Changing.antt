-- What a table holds after a change.
use Rattle.std.proofs.Common.{◌≡◌, ℕ, ◌+◌, ◌<◌, ◌⊎◌, inl, inr, List, [], ◌∷◌, ◌++◌, Contains, length, set, refl, sym, subst, ap, ◌∙◌, arith}
use Rattle.std.proofs.lemmas.List.Elements.{Contains-push_cases}
use Rattle.rt_grid.specs.declared.grid.Step.{Step}
use Rattle.rt_grid.specs.Tables.{count_at, row_of, size_of, steps_of, AreSteps, AreWays, Holds, IsBeyond, IsLowered, IsRelaxed, IsRelaxedBy, Made, Says, SaysOr, SaysWith, Table}
use Rattle.rt_grid.specs.Tables.Made.{told, behind}
use Rattle.rt_grid.proofs.Holding.{says_holds}
use Rattle.rt_grid.proofs.Writing.{set_cases, steps_set, ways_set}

-- fewer steps from a place
pub pruned_table : (old : Table) (place : ℕ) (kept : List Step) → place < length old.steps → ((s : Step) → Contains kept s → Contains (steps_of old.steps place) s) → Holds (Says old) (record { rows = old.rows; steps = set old.steps place kept })
pruned_table old place kept less keeps =
    let says = says_holds old in
    record {
      rows = says.rows;
      steps = steps_set (Says old) old.steps place kept less says.steps (λ s c. inr (keeps s c));
    }

-- a row in which counts were taken in, and then those along one more step
pub relaxed_more : (first was row : List ℕ) (rows : List (List ℕ)) (steps : List Step) (s : Step) (by : List ℕ) → Contains steps s → by ≡ row_of rows s.to → IsRelaxedBy first rows steps was → IsRelaxed was by s.count row → IsRelaxedBy first rows steps row
relaxed_more first was row rows steps s by c e before step j known = at (step j known)
  where
    at : (count_at row j ≡ count_at was j) ⊎ ((count_at by j < 255) × (count_at row j ≡ s.count + count_at by j)) → (count_at row j ≡ count_at first j) ⊎ IsBeyond rows steps j (count_at row j)
    at (inr (less, is)) = inr (s, c, subst (λ xs. count_at xs j < 255) e less, is ∙ ap (λ xs. s.count + count_at xs j) e)
    at (inl same) = subst (λ n. (n ≡ count_at first j) ⊎ IsBeyond rows steps j n) (sym same) (before j (subst (λ n. n < 255) same known))

-- a row in which counts along the steps from its place were taken in
pub relaxed_table : (old new : Table) (place : ℕ) (row : List ℕ) → place < size_of old → IsRelaxedBy (row_of old.rows place) old.rows (steps_of old.steps place) row → new.rows ≡ set old.rows place row → new.steps ≡ old.steps → Holds (Made (Says old)) new
relaxed_table old new place row less counts e f = record {
  rows = subst (AreWays (Made (Says old))) (sym e) (ways_set (Made (Says old)) old.rows place row less (λ i j known. told (inl (known, refl))) (λ j known. by j known (counts j known)));
  steps = subst (AreSteps (Made (Says old))) (sym f) (λ i s c. told (inr c));
}
  where
    by : (j : ℕ) → count_at row j < 255 → (count_at row j ≡ count_at (row_of old.rows place) j) ⊎ IsBeyond old.rows (steps_of old.steps place) j (count_at row j) → Made (Says old) place j (count_at row j)
    by j known (inl same) = told (inl (subst (λ n. n < 255) same known, same))
    by j known (inr (s, c, beyond, is)) = subst (Made (Says old) place j) (sym is) (behind (told (inr c)) (told (inl (beyond, refl))))

-- what is taken in from all rows but that of a place is taken in from all
pub relaxed_but : (was : List ℕ) (rows : List (List ℕ)) (place : ℕ) (steps : List Step) (row : List ℕ) → place < length rows → IsRelaxedBy was (set rows place []) steps row → IsRelaxedBy was rows steps row
relaxed_but was rows place steps row less counts j known = by (counts j known)
  where
    beyond : (s : Step) → Contains steps s → count_at (row_of (set rows place []) s.to) j < 255 → (count_at row j ≡ s.count + count_at (row_of (set rows place []) s.to) j) →
        ((s.to ≡ place) × (row_of (set rows place []) s.to ≡ [])) ⊎ (row_of (set rows place []) s.to ≡ row_of rows s.to) → IsBeyond rows steps j (count_at row j)
    beyond s c few is (inl (e, f)) = absurd (let h : 255 < 255 = subst (λ (r : List ℕ). count_at r j < 255) f few in omega (arith, h))
    beyond s c few is (inr f) = (s, c, subst (λ (r : List ℕ). count_at r j < 255) f few, is ∙ ap (λ (r : List ℕ). s.count + count_at r j) f)

    by : (count_at row j ≡ count_at was j) ⊎ IsBeyond (set rows place []) steps j (count_at row j) → (count_at row j ≡ count_at was j) ⊎ IsBeyond rows steps j (count_at row j)
    by (inl e) = inl e
    by (inr (s, c, few, is)) = inr (beyond s c few is (set_cases rows place [] [] less s.to))

-- a new step from a place, with a row in which counts along it were taken in
pub added_table : (old new : Table) (from to count : ℕ) (row : List ℕ) → from < size_of old → length old.steps ≡ size_of old → IsRelaxed (row_of old.rows from) (row_of old.rows to) count row → new.rows ≡ set old.rows from row → new.steps ≡ set old.steps from (steps_of old.steps from ++ record { to = to; count = count } ∷ []) → Holds (Made (SaysWith old from to count)) new
added_table old new from to count row less long counts e f = record {
  rows = subst (AreWays (Made (SaysWith old from to count))) (sym e) (ways_set (Made (SaysWith old from to count)) old.rows from row less (λ i j known. told (inl (inl (known, refl)))) (λ j known. by j known (counts j known)));
  steps = subst (AreSteps (Made (SaysWith old from to count))) (sym f) (steps_set (Made (SaysWith old from to count)) old.steps from (steps_of old.steps from ++ step ∷ []) (subst (λ n. from < n) (sym long) less) (λ i s c. told (inl (inr c))) (λ s c. pushed s (Contains-push_cases (steps_of old.steps from) step s c)));
}
  where
    step : Step
    step = record { to = to; count = count }

    by : (j : ℕ) → count_at row j < 255 → (count_at row j ≡ count_at (row_of old.rows from) j) ⊎ ((count_at (row_of old.rows to) j < 255) × (count_at row j ≡ count + count_at (row_of old.rows to) j)) → Made (SaysWith old from to count) from j (count_at row j)
    by j known (inl same) = told (inl (inl (subst (λ n. n < 255) same known, same)))
    by j known (inr (beyond, is)) = subst (Made (SaysWith old from to count) from j) (sym is) (behind (told (inr (refl, refl, refl))) (told (inl (inl (beyond, refl)))))

    pushed : (s : Step) → Contains (steps_of old.steps from) s ⊎ (record { to = to; count = count } ≡ s) → Made (SaysWith old from to count) from s.to s.count
    pushed s (inl c) = told (inl (inr c))
    pushed s (inr g) = told (inr (refl, sym (ap (λ (u : Step). u.to) g), sym (ap (λ (u : Step). u.count) g)))

-- a row that took in the count of one more step
pub lowered_more : (first was : List ℕ) (steps : List Step) (s : Step) → Contains steps s → s.to < length was → IsLowered first steps was → IsLowered first steps (set was s.to s.count)
lowered_more first was steps s c less before j = by (set_cases was s.to s.count 255 less j)
  where
    row : List ℕ
    row = set was s.to s.count

    by : ((j ≡ s.to) × (count_at row j ≡ s.count)) ⊎ (count_at row j ≡ count_at was j) → count_at row j < 255 → (count_at row j ≡ count_at first j) ⊎ Contains steps (record { to = j; count = count_at row j })
    by (inl (e, f)) known = inr (subst (λ n. Contains steps (record { to = j; count = n })) (sym f) (subst (λ i. Contains steps (record { to = i; count = s.count })) (sym e) c))
    by (inr f) known = subst (λ n. (n ≡ count_at first j) ⊎ Contains steps (record { to = j; count = n })) (sym f) (before j (subst (λ n. n < 255) f known))

-- a row in which counts of ways from its place were taken in
pub lowered_table : (old new : Table) (from : ℕ) (ways : List Step) (row : List ℕ) → from < size_of old → IsLowered (row_of old.rows from) ways row → new.rows ≡ set old.rows from row → new.steps ≡ old.steps → Holds (Made (SaysOr old from ways)) new
lowered_table old new from ways row less counts e f = record {
  rows = subst (AreWays Way) (sym e) (ways_set Way old.rows from row less (λ i j known. told (inl (inl (known, refl)))) (λ j known. by j known (counts j known)));
  steps = subst (AreSteps Way) (sym f) (λ i s c. told (inl (inr c)));
}
  where
    Way : ℕ → ℕ → ℕ → Type 0
    Way = Made (SaysOr old from ways)

    by : (j : ℕ) → count_at row j < 255 → (count_at row j ≡ count_at (row_of old.rows from) j) ⊎ Contains ways (record { to = j; count = count_at row j }) → Way from j (count_at row j)
    by j known (inl same) = told (inl (inl (subst (λ n. n < 255) same known, same)))
    by j known (inr c) = told (inr (refl, c))

-- what holds of a table holds of it with more ways to begin with
pub more_ways : (table : Table) (from : ℕ) (ways : List Step) → Holds (Made (SaysOr table from ways)) table
more_ways table from ways = record {
  rows = λ i j known. told (inl (inl (known, refl)));
  steps = λ i s c. told (inl (inr c));
}
