-- Lists with an element in the place of another one, and tables of such lists.
use Rattle.std.proofs.Common.{◌≡◌, ℕ, ◌<◌, ◌⊎◌, inl, inr, List, [], ◌∷◌, ◌++◌, Contains, length, get_or, set, take, drop, sym, ap, subst, ◌∙◌}
use Rattle.std.proofs.Math.Seq.{take-append_seam}
use Rattle.std.proofs.lemmas.Bool.{cases_eq}
use Rattle.std.proofs.lemmas.List.Elements.{Contains-get_or, Contains-push_cases}
use Rattle.std.proofs.lemmas.List.{get_or_read, get_or-set_other, get_or-set_same, length-set}
use Rattle.rt_grid.specs.declared.grid.Step.{Step}
use Rattle.rt_grid.specs.Tables.{count_at, AreInside, AreSquare, AreSteps, AreWays, AreWithin, IsTable}

pub set_cases : {X : Type 0} (xs : List X) (k : ℕ) (y d : X) → k < length xs → (j : ℕ) → ((j ≡ k) × (get_or (set xs k y) j d ≡ y)) ⊎ (get_or (set xs k y) j d ≡ get_or xs j d)
set_cases xs k y d less j = by (cases_eq j k)
  where
    by : (j ≡ k) ⊎ (j ≡ k → ⊥) → ((j ≡ k) × (get_or (set xs k y) j d ≡ y)) ⊎ (get_or (set xs k y) j d ≡ get_or xs j d)
    by (inl e) = inl (e, ap (λ i. get_or (set xs k y) i d) e ∙ get_or-set_same xs k y d less)
    by (inr ne) = inr (get_or-set_other xs k j y d ne)

-- what is written to the whole of a list is the list
pub written : {X : Type 0} (n : ℕ) (new old : List X) → n ≡ length new → take n (new ++ drop (length new) old) ≡ new
written n new old e = ap (λ m. take m (new ++ drop (length new) old)) e ∙ take-append_seam new (drop (length new) old)

-- what holds of the element in the place and of the others holds of each
set_holds : {X : Type 0} (P : ℕ → X → Type 0) (xs : List X) (k : ℕ) (y d : X) → k < length xs → P k y → (j : ℕ) → P j (get_or xs j d) → P j (get_or (set xs k y) j d)
set_holds P xs k y d less here j other = by (set_cases xs k y d less j)
  where
    by : ((j ≡ k) × (get_or (set xs k y) j d ≡ y)) ⊎ (get_or (set xs k y) j d ≡ get_or xs j d) → P j (get_or (set xs k y) j d)
    by (inl (e, f)) = subst (P j) (sym f) (subst (λ i. P i y) (sym e) here)
    by (inr f) = subst (P j) (sym f) other

pub ways_set : (Way : ℕ → ℕ → ℕ → Type 0) (rows : List (List ℕ)) (place : ℕ) (row : List ℕ) → place < length rows → AreWays Way rows → ((j : ℕ) → count_at row j < 255 → Way place j (count_at row j)) → AreWays Way (set rows place row)
ways_set Way rows place row less ways here i =
    set_holds (λ i row. (j : ℕ) → count_at row j < 255 → Way i j (count_at row j)) rows place row [] less here i (ways i)

pub steps_set : (Way : ℕ → ℕ → ℕ → Type 0) (steps : List (List Step)) (place : ℕ) (kept : List Step) → place < length steps → AreSteps Way steps → ((s : Step) → Contains kept s → Way place s.to s.count) → AreSteps Way (set steps place kept)
steps_set Way steps place kept less are here i =
    set_holds (λ i kept. (s : Step) → Contains kept s → Way i s.to s.count) steps place kept [] less here i (are i)

pub square_set : (rows : List (List ℕ)) (place : ℕ) (row : List ℕ) → place < length rows → length row ≡ length rows → AreSquare rows → AreSquare (set rows place row)
square_set rows place row less long square i below =
    let same : length (set rows place row) ≡ length rows = length-set rows place row in
    set_holds (λ i xs. length xs ≡ length (set rows place row)) rows place row [] less (long ∙ sym same) i (square i (subst (λ n. i < n) same below) ∙ sym same)

pub inside_set : (size : ℕ) (steps : List (List Step)) (place : ℕ) (kept : List Step) → place < length steps → AreWithin size kept → AreInside size steps → AreInside size (set steps place kept)
inside_set size steps place kept less within inside i =
    set_holds (λ i xs. AreWithin size xs) steps place kept [] less within i (inside i)

-- a table with another row in a place, at another time
pub table_put : (rows : List (List ℕ)) (steps : List (List Step)) (changed seen : List ℕ) → IsTable rows steps changed seen → (place : ℕ) (row : List ℕ) (time : ℕ) → place < length rows → length row ≡ length rows → IsTable (set rows place row) steps (set changed place time) seen
table_put rows steps changed seen is place row time less long =
    let same : length rows ≡ length (set rows place row) = sym (length-set rows place row) in
    record {
      square = square_set rows place row less long is.square;
      as_long = is.as_long ∙ same;
      inside = subst (λ n. AreInside n steps) same is.inside;
      noted = length-set changed place time ∙ is.noted ∙ same;
      met = is.met ∙ same;
    }

-- a table that was looked at at another time
pub table_seen : (rows : List (List ℕ)) (steps : List (List Step)) (changed seen : List ℕ) → IsTable rows steps changed seen → (place time : ℕ) → IsTable rows steps changed (set seen place time)
table_seen rows steps changed seen is place time = record {
  square = is.square;
  as_long = is.as_long;
  inside = is.inside;
  noted = is.noted;
  met = length-set seen place time ∙ is.met;
}

-- a table with another row in a place
pub table_row : (rows : List (List ℕ)) (steps : List (List Step)) (changed seen : List ℕ) → IsTable rows steps changed seen → (place : ℕ) (row : List ℕ) → place < length rows → length row ≡ length rows → IsTable (set rows place row) steps changed seen
table_row rows steps changed seen is place row less long =
    let same : length rows ≡ length (set rows place row) = sym (length-set rows place row) in
    record {
      square = square_set rows place row less long is.square;
      as_long = is.as_long ∙ same;
      inside = subst (λ n. AreInside n steps) same is.inside;
      noted = is.noted ∙ same;
      met = is.met ∙ same;
    }

-- a table with other steps from a place
pub table_steps : (rows : List (List ℕ)) (steps : List (List Step)) (changed seen : List ℕ) → IsTable rows steps changed seen → (place : ℕ) (kept : List Step) → place < length rows → AreWithin (length rows) kept → IsTable rows (set steps place kept) changed seen
table_steps rows steps changed seen is place kept less within = record {
  square = is.square;
  as_long = length-set steps place kept ∙ is.as_long;
  inside = inside_set (length rows) steps place kept (subst (λ n. place < n) (sym is.as_long) less) within is.inside;
  noted = is.noted;
  met = is.met;
}

-- where a step of a list leads
pub read_within : (size : ℕ) (steps : List Step) (i : ℕ) → AreWithin size steps → i < length steps → (get_or steps i (record { to = 0; count = 0 })).to < size
read_within size steps i within less = within (get_or steps i (record { to = 0; count = 0 })) (Contains-get_or steps i (record { to = 0; count = 0 }) less)

pub within_push : (size : ℕ) (xs ys : List Step) (s : Step) → AreWithin size xs → s.to < size → (ys ≡ xs ++ s ∷ []) ⊎ (ys ≡ xs) → AreWithin size ys
within_push size xs ys s within less (inr e) t h = within t (subst (λ zs. Contains zs t) e h)
within_push size xs ys s within less (inl e) t h = by (Contains-push_cases xs s t (subst (λ zs. Contains zs t) e h))
  where
    by : Contains xs t ⊎ (s ≡ t) → t.to < size
    by (inl c) = within t c
    by (inr f) = subst (λ u. u.to < size) f less

-- the list that stands in a place of an equal table
pub list_read : {X : Type 0} (xs ys : List (List X)) (i : ℕ) (items x : List X) → xs ≡ ys → i < length ys → items ≡ x → x ≡ get_or xs i x → items ≡ get_or ys i []
list_read xs ys i items x e less is read = is ∙ (get_or_read xs i x (subst (λ zs. i < length zs) (sym e) less) read [] ∙ ap (λ zs. get_or zs i []) e)
