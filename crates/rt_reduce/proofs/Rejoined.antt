-- Lines that are dropped in two goes: those from a place on, and then those before it.
use Rattle.std.proofs.Common.{◌≡◌, ◌≢◌, ℕ, zero, suc, ◌<◌, ◌≤◌, ◌⊎◌, inl, inr, List, [], ◌∷◌, ◌++◌, Bool, true, false, Some, Contains}
use Rattle.std.proofs.Common.{take, drop, get_or, length, set, refl, sym, ap, subst, ◌∙◌, append_assoc, append-nil, arith}
use Rattle.std.specs.Prelude.{slice_get}
use Rattle.std.proofs.lemmas.List.{length-take-le, take-append-drop}
use Rattle.std.proofs.lemmas.List.Elements.{Contains-append_cases, Contains-append_left, Contains-append_right}
use Rattle.std.proofs.lemmas.Option.{slice_get_within}
use Rattle.rt_base.proofs.Lists.{Contains-here, Contains-there}
use Rattle.rt_lines.specs.declared.line.Line.{Line}
use Rattle.rt_lines.specs.Orders.{Below}
use Rattle.rt_rules.specs.Rules.{Derivable}
use Rattle.rt_rules.proofs.Carry.{given}
use Rattle.rt_rules.proofs.Covering.{derives_more}
use Rattle.rt_outline.specs.Lines.{standing}
use Rattle.rt_outline.proofs.Standing.{Stands, standing_line}
use Rattle.rt_reduction.specs.Drops.{Drops}
use Rattle.rt_reduction.specs.Drops.Drops.{ends, goes, stays}
use Rattle.rt_reduction.proofs.Dropping.{none_to_spare, one_drop}
use Rattle.rt_reduce.specs.Inside.Dropping.{AreLeft, AreStaying, IsStaying}

-- what is kept of lines before a place, and of those from it on, for which others may stand of which the same is kept
record Splits (order : Below) (before xs ys left : List Line) : Type 0 where
  front : List Line
  back : List Line
  is : left ≡ front ++ back
  drops : Drops order (before ++ xs) ys back
  again : (zs : List Line) → Drops order (before ++ xs) zs back → Drops order before (xs ++ zs) left

module _ (order : Below) where
  -- the first line went, or stayed
  first_went : (before lines kept : List Line) (l : Line) → Drops order before (l ∷ lines) kept →
      (Drops order (before ++ l ∷ []) lines kept × Derivable order (before ++ kept) l)
      ⊎ ((rest : List Line) × (kept ≡ l ∷ rest) × Drops order (before ++ l ∷ []) lines rest × (Derivable order (before ++ rest) l → ⊥))
  first_went before lines kept l (goes _ _ _ _ d h) = inl (d, h)
  first_went before lines kept l (stays _ _ rest _ d h) = inr (rest, refl, d, h)

  split : (before xs ys left : List Line) → Drops order before (xs ++ ys) left → Splits order before xs ys left
  split before [] ys left d = record {
    front = [];
    back = left;
    is = refl;
    drops = subst (λ ls. Drops order ls ys left) (sym (append-nil before)) d;
    again = λ zs e. subst (λ ls. Drops order ls zs left) (append-nil before) e;
  }
  split before (x ∷ xs) ys left d = by (split (before ++ x ∷ []) xs ys) (first_went before (xs ++ ys) left x d)
    where
      by : ((rest : List Line) → Drops order (before ++ x ∷ []) (xs ++ ys) rest → Splits order (before ++ x ∷ []) xs ys rest) →
          (Drops order (before ++ x ∷ []) (xs ++ ys) left × Derivable order (before ++ left) x)
          ⊎ ((rest : List Line) × (left ≡ x ∷ rest) × Drops order (before ++ x ∷ []) (xs ++ ys) rest
          × (Derivable order (before ++ rest) x → ⊥)) → Splits order before (x ∷ xs) ys left
      by parts (inl (e, h)) =
          let s : Splits order (before ++ x ∷ []) xs ys left = parts left e in
          record {
            front = s.front;
            back = s.back;
            is = s.is;
            drops = subst (λ ls. Drops order ls ys s.back) (append_assoc before (x ∷ []) xs) s.drops;
            again = λ zs f. goes before (xs ++ zs) left x
                (s.again zs (subst (λ ls. Drops order ls zs s.back) (sym (append_assoc before (x ∷ []) xs)) f)) h;
          }
      by parts (inr (rest, is, e, h)) =
          let s : Splits order (before ++ x ∷ []) xs ys rest = parts rest e in
          record {
            front = x ∷ s.front;
            back = s.back;
            is = is ∙ ap (λ ls. x ∷ ls) s.is;
            drops = subst (λ ls. Drops order ls ys s.back) (append_assoc before (x ∷ []) xs) s.drops;
            again = λ zs f. subst (Drops order before (x ∷ (xs ++ zs))) (sym is)
                (stays before (xs ++ zs) rest x
                (s.again zs (subst (λ ls. Drops order ls zs s.back) (sym (append_assoc before (x ∷ []) xs)) f)) h);
          }

  -- more lines derive more
  has_more : (lines others : List Line) (l : Line) → ((m : Line) → Contains lines m → Contains others m) → Derivable order lines l →
      Derivable order others l
  has_more lines others l sub d = derives_more order lines others (λ m c. given order others m (sub m c)) d

  both : (some all kept : List Line) → ((m : Line) → Contains some m → Contains all m) → (m : Line) → Contains (some ++ kept) m →
      Contains (all ++ kept) m
  both some all kept sub m c = elim (Contains-append_cases some kept m c) [
    | inl e ↦ Contains-append_left all kept m (sub m e)
    | inr e ↦ Contains-append_right all kept m e
  ]

  -- of what was kept all is kept again, behind the same lines or fewer
  kept_again : {before lines kept : List Line} → Drops order before lines kept → (few : List Line) →
      ((m : Line) → Contains few m → Contains before m) → Drops order few kept kept
  kept_again (ends before) few sub = ends few
  kept_again (goes before lines kept l d h) few sub =
      kept_again d few (λ m c. Contains-append_left before (l ∷ []) m (sub m c))
  kept_again (stays before lines kept l d h) few sub =
      stays few kept kept l (kept_again d (few ++ l ∷ []) (both few before (l ∷ []) sub))
      (λ e. h (has_more (few ++ kept) (before ++ kept) l (both few before kept sub) e))

  -- the lines from a place on went first, and then those before it
  pub rejoined : (lines shaped left : List Line) (first : ℕ) → AreLeft order lines first shaped → Drops order [] shaped left →
      Drops order [] lines left
  rejoined lines shaped left first are d =
      let s : Splits order [] (take first lines) are.kept left =
      split [] (take first lines) are.kept left (subst (λ ls. Drops order [] ls left) are.stand d) in
      let same : s.back ≡ are.kept = one_drop order s.drops (kept_again are.drops (take first lines) (λ m c. c)) in
      subst (λ ls. Drops order [] ls left) (take-append-drop first lines)
      (s.again (drop first lines) (subst (Drops order (take first lines) (drop first lines)) (sym same) are.drops))

at_has : (lines : List Line) (i : ℕ) (l : Line) → slice_get lines i ≡ Some l → Contains lines l
at_has [] i l at = absurd (let h : i < 0 = slice_get_within [] i l at in omega arith)
at_has (k ∷ lines) zero l at =
    let same : k ≡ l = cc in
    subst (Contains (k ∷ lines)) same (Contains-here k lines)
at_has (k ∷ lines) (suc i) l at = Contains-there k lines l (at_has lines i l at)

-- a line among those behind others, and that the rest is all the others
record IsCut (before kept : List Line) (i : ℕ) (l : Line) : Type 0 where
  front : List Line
  back : List Line
  is : kept ≡ front ++ l ∷ back
  rest : (j : ℕ) (m : Line) → slice_get (before ++ kept) j ≡ Some m → j ≢ i → Contains (before ++ (front ++ back)) m

-- behind one line more of those behind
cut_behind : (kept : List Line) (i : ℕ) (k l : Line) → IsCut [] kept i l → IsCut [] (k ∷ kept) (suc i) l
cut_behind kept i k l c = record { front = k ∷ c.front; back = c.back; is = ap (λ ls. k ∷ ls) c.is; rest = by }
  where
    by : (j : ℕ) (m : Line) → slice_get (k ∷ kept) j ≡ Some m → j ≢ suc i → Contains (k ∷ (c.front ++ c.back)) m
    by zero m there other =
        let same : k ≡ m = cc in
        subst (Contains (k ∷ (c.front ++ c.back))) same (Contains-here k (c.front ++ c.back))
    by (suc j) m there other = Contains-there k (c.front ++ c.back) m (c.rest j m there (λ e. other (ap suc e)))

-- behind one line more of those before
cut_before : (before kept : List Line) (i : ℕ) (k l : Line) → IsCut before kept i l → IsCut (k ∷ before) kept (suc i) l
cut_before before kept i k l c = record { front = c.front; back = c.back; is = c.is; rest = by }
  where
    by : (j : ℕ) (m : Line) → slice_get (k ∷ (before ++ kept)) j ≡ Some m → j ≢ suc i →
        Contains (k ∷ (before ++ (c.front ++ c.back))) m
    by zero m there other =
        let same : k ≡ m = cc in
        subst (Contains (k ∷ (before ++ (c.front ++ c.back)))) same (Contains-here k (before ++ (c.front ++ c.back)))
    by (suc j) m there other =
        Contains-there k (before ++ (c.front ++ c.back)) m (c.rest j m there (λ e. other (ap suc e)))

cut_here : (kept : List Line) (i : ℕ) (l : Line) → slice_get kept i ≡ Some l → IsCut [] kept i l
cut_here [] i l at = absurd (let h : i < 0 = slice_get_within [] i l at in omega arith)
cut_here (k ∷ kept) zero l at =
    let same : k ≡ l = cc in
    record { front = []; back = kept; is = ap (λ m. m ∷ kept) same; rest = by }
  where
    by : (j : ℕ) (m : Line) → slice_get (k ∷ kept) j ≡ Some m → j ≢ zero → Contains kept m
    by zero m there other = absurd (other refl)
    by (suc j) m there other = at_has kept j m there
cut_here (k ∷ kept) (suc i) l at = cut_behind kept i k l (cut_here kept i l at)

cut_at : (before kept : List Line) (i : ℕ) (l : Line) → slice_get (before ++ kept) i ≡ Some l → length before ≤ i →
    IsCut before kept i l
cut_at [] kept i l at h = cut_here kept i l at
cut_at (k ∷ before) kept zero l at h = absurd (omega (arith, h))
cut_at (k ∷ before) kept (suc i) l at h = cut_before before kept i k l (cut_at before kept i l at (omega (arith, h)))

-- those that are left from the place on stay
pub left_staying : (order : Below) (all lines : List Line) (first i : ℕ) → AreLeft order all first lines → first ≤ i →
    IsStaying order lines i
left_staying order all lines first i are h = λ l at stands cleared d.
    let before : List Line = take first all in
    let long : length before ≡ first = length-take-le first all are.within in
    let c : IsCut before are.kept i l =
    cut_at before are.kept i l (ap (λ (ls : List Line). slice_get ls i) (sym are.stand) ∙ at) (omega (arith, long, h)) in
    none_to_spare order are.drops c.front c.back l c.is
    (has_more order (standing lines stands) (before ++ (c.front ++ c.back)) l
    (λ m k.
    let r : (j : ℕ) × Stands lines stands j m = standing_line lines stands m k in
    c.rest r.0 m (ap (λ (ls : List Line). slice_get ls r.0) (sym are.stand) ∙ r.1.0)
    (λ e. (let f : get_or stands r.0 false ≡ get_or stands i false = ap (λ n. get_or stands n false) e in
    let g : get_or stands r.0 false ≡ true = r.1.1 in cc))) d)

-- a flag that is set
set_cases : (flags : List Bool) (i j : ℕ) → (get_or (set flags i true) j false ≡ get_or flags j false) ⊎ (j ≡ i)
set_cases [] i j = inl refl
set_cases (f ∷ flags) zero zero = inr refl
set_cases (f ∷ flags) zero (suc j) = inl refl
set_cases (f ∷ flags) (suc i) zero = inl refl
set_cases (f ∷ flags) (suc i) (suc j) = by (set_cases flags i j)
  where
    by : (get_or (set flags i true) j false ≡ get_or flags j false) ⊎ (j ≡ i) →
        (get_or (set (f ∷ flags) (suc i) true) (suc j) false ≡ get_or (f ∷ flags) (suc j) false) ⊎ (suc j ≡ suc i)
    by (inl e) = inl e
    by (inr e) = inr (ap suc e)

pub set_staying : (order : Below) (lines : List Line) (flags : List Bool) (i : ℕ) → IsStaying order lines i →
    AreStaying order lines flags → AreStaying order lines (set flags i true)
set_staying order lines flags i here are j e = by (set_cases flags i j)
  where
    by : (get_or (set flags i true) j false ≡ get_or flags j false) ⊎ (j ≡ i) → IsStaying order lines j
    by (inl f) = are j (sym f ∙ e)
    by (inr f) = subst (IsStaying order lines) (sym f) here
