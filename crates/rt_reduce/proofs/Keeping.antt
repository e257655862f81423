-- What a round keeps: sides of schemes, and constants below a count.
use Rattle.std.proofs.Common.{◌≡◌, ℕ, ◌⊎◌, inl, inr, List, ◌∷◌, ◌++◌, All, Contains, map, Bool, true, false, cond, ◌||◌, Option}
use Rattle.std.proofs.Common.{sym, subst}
use Rattle.std.proofs.lemmas.List.Elements.{All-contains, Contains-append_cases}
use Rattle.rt_base.proofs.Lists.{All-from_contains, Contains-map_source, Contains-wider, Contains-middle_cases}
use Rattle.rt_lines.specs.declared.label.Label.{Label}
use Rattle.rt_lines.specs.declared.variable.Base.TheVariants.{Exist}
use Rattle.rt_lines.specs.declared.variable.Dtv.{Dtv}
use Rattle.rt_lines.specs.declared.line.Line.{Line}
use Rattle.rt_lines.specs.declared.line.Line.TheVariants.{Var, Same, Sub, Low, Up}
use Rattle.rt_lines.specs.Equality.{variable_eq}
use Rattle.rt_lines.specs.Lines.{HasConstantsBelow}
use Rattle.rt_lines.specs.Orders.{Below}
use Rattle.rt_lines.proofs.LineSides.{HasConstantsBelow-map_line}
use Rattle.rt_rules.specs.Alike.{map_line}
use Rattle.rt_rules.specs.Laws.{NamesBase}
use Rattle.rt_rules.specs.Put.{put_lines, use_of}
use Rattle.rt_refine.specs.Refinements.{move, refined}
use Rattle.rt_record.specs.Records.{moved_line, moves, shape_line, split}
use Rattle.rt_record.specs.Slots.{numbers}
use Rattle.rt_trim.specs.Idle.{is_idle, trimmed, trimmed_line}
use Rattle.rt_polar.specs.Puts.{Exchanges, Puts}
use Rattle.rt_polar.specs.Puts.Exchanges.{goes, exists_still}
use Rattle.rt_polar.specs.Puts.Puts.{none_left, puts}
use Rattle.rt_polar.specs.Tidied.{tidied}
use Rattle.rt_reduction.specs.Emits.{flow_lines, first_side, AreOfScheme, IsAnchored, IsEmitted, IsShapeLine}
use Rattle.rt_reduction.specs.Simplifies.{Simplifies, simple, twins_go}
use Rattle.rt_reduction.specs.Rounds.{Prepares, prepared, Refines, trims, Splits, whole, splits}
use Rattle.rt_reduction.proofs.Anchoring.{keep_source}
use Rattle.rt_reduction.proofs.Flow.{flow_source}
use Rattle.rt_reduction.proofs.FromSides.{from_chain, from_put, from_scheme, from_self, from_tidied}
use Rattle.rt_reduction.proofs.Prepared.{from_prepares}
use Rattle.rt_reduction.proofs.Simplifying.{twinned_lines}
use Rattle.rt_reduction.proofs.Split.{from_splits}
use Rattle.rt_reduce.specs.Inside.Merging.{IsSide}
use Rattle.rt_reduce.proofs.Falling.{put-below, tidied-below}

-- a side in an existential's place
pub put_scheme : (lines : List Line) (n : ℕ) (z : Dtv) → IsSide lines z → AreOfScheme lines → AreOfScheme (tidied (put_lines n z lines))
put_scheme lines n z side h =
    from_scheme lines (tidied (put_lines n z lines))
    (from_chain lines (put_lines n z lines) (tidied (put_lines n z lines)) (from_put lines lines n z side (from_self lines))
    (from_tidied (put_lines n z lines))) h

-- what is prepared of tidied lines
pub prepared_scheme : (lines start left : List Line) → start ≡ tidied lines → Prepares left start → AreOfScheme lines → AreOfScheme left
prepared_scheme lines start left e p h =
    from_scheme lines left
    (from_chain lines (tidied lines) left (from_tidied lines)
    (from_prepares left (tidied lines) (subst (Prepares left) e p))) h

-- what is left when fields became existentials
pub split_scheme : (left start : List Line) → Splits left start → AreOfScheme start → AreOfScheme left
split_scheme left start s h = from_scheme start left (from_splits left start s) h

pub fewer_scheme : (lines after : List Line) → ((l : Line) → Contains after l → Contains lines l) → AreOfScheme lines → AreOfScheme after
fewer_scheme lines after stood h = λ l x c side. h l x (stood l c) side

pub fewer_named : (lines after : List Line) → ((l : Line) → Contains after l → Contains lines l) → (n : ℕ) → NamesBase after (Exist n)
    → NamesBase lines (Exist n)
fewer_named lines after stood n (l, x, c, h, e) = (l, x, stood l c, h, e)

module _ (count : ℕ) where
  abbrev Are : List Line → Type 0
  Are lines = All (HasConstantsBelow count) lines

  pub fewer_below : (lines after : List Line) → ((l : Line) → Contains after l → Contains lines l) → Are lines → Are after
  fewer_below lines after stood h =
      All-from_contains (HasConstantsBelow count) after (λ l c. All-contains (HasConstantsBelow count) lines l h (stood l c))

  mapped_below : (f : Dtv → Dtv) (lines : List Line) → Are lines → Are (map (map_line f) lines)
  mapped_below f lines h =
      All-from_contains (HasConstantsBelow count) (map (map_line f) lines) (λ l c. by l (Contains-map_source (map_line f) lines l c))
    where
      by : (l : Line) → (k : Line) × Contains lines k × (map_line f k ≡ l) → HasConstantsBelow count l
      by l (k, c, e) =
          subst (HasConstantsBelow count) e
          (HasConstantsBelow-map_line count f k (All-contains (HasConstantsBelow count) lines k h c))

  cut_below : (lines before after : List Line) (sole : Line) → lines ≡ before ++ sole ∷ after → Are lines → Are (before ++ after)
  cut_below lines before after sole cut h =
      fewer_below lines (before ++ after) (λ l c. subst (λ ls. Contains ls l) (sym cut) (Contains-wider before sole after l c)) h

  exchanged_below : (n : ℕ) (lines after : List Line) → Exchanges n lines after → Are lines → Are after
  exchanged_below n lines _ (goes sign place left z before after is cut names) h =
      put-below count n z (before ++ after) (cut_below lines before after (use_of sign n z) cut h)
  exchanged_below n lines _ (exists_still sign place left z before after is cut unnamed) h =
      tidied-below count (before ++ Var z ∷ after) (All-from_contains (HasConstantsBelow count) (before ++ Var z ∷ after)
      (λ l c. by l (Contains-middle_cases before (Var z) after l c)))
    where
      by : (l : Line) → (Var z ≡ l) ⊎ Contains (before ++ after) l → HasConstantsBelow count l
      by l (inl e) = subst (HasConstantsBelow count) e tt
      by l (inr d) =
          All-contains (HasConstantsBelow count) (before ++ after) l (cut_below lines before after (use_of sign n z) cut h) d

  puts_below : (left start : List Line) → Puts left start → Are start → Are left
  puts_below left start (none_left none) h = h
  puts_below left start (puts n now between least exchanged rest) h =
      puts_below left between rest (exchanged_below n now between exchanged h)

  simplified_below : (left start : List Line) → Simplifies left start → Are start → Are left
  simplified_below left start (simple _ p none none') h = puts_below left start p h
  simplified_below left start (twins_go _ between sign class w p turn c apart rest) h =
      simplified_below left (twinned_lines class between) rest
      (tidied-below count (refined class between) (mapped_below (move class) between (puts_below between start p h)))

  trimmed_below : (idle : ℕ → Bool) (l : Line) → HasConstantsBelow count l → HasConstantsBelow count (trimmed_line idle l)
  trimmed_below idle (Var x) h = h
  trimmed_below idle (Same x y) h = h
  trimmed_below idle (Sub x y) h = by (is_idle idle x.base || is_idle idle y.base)
    where
      by : (t : Bool) → HasConstantsBelow count (cond t (Same x y) (Sub x y))
      by true = tt
      by false = tt
  trimmed_below idle (Low k x) h = by (is_idle idle x.base)
    where
      by : (t : Bool) → HasConstantsBelow count (cond t (Var x) (Low k x))
      by true = tt
      by false = h
  trimmed_below idle (Up x k) h = by (is_idle idle x.base)
    where
      by : (t : Bool) → HasConstantsBelow count (cond t (Var x) (Up x k))
      by true = tt
      by false = h

  all_trimmed_below : (idle : ℕ → Bool) (lines : List Line) → Are lines → Are (trimmed idle lines)
  all_trimmed_below idle lines h =
      All-from_contains (HasConstantsBelow count) (trimmed idle lines) (λ l c. by l (Contains-map_source (trimmed_line idle) lines l c))
    where
      by : (l : Line) → (k : Line) × Contains lines k × (trimmed_line idle k ≡ l) → HasConstantsBelow count l
      by l (k, c, e) =
          subst (HasConstantsBelow count) e (trimmed_below idle k (All-contains (HasConstantsBelow count) lines k h c))

  refined_below : (lines left : List Line) → Refines lines left → Are lines → Are left
  refined_below lines left (class, c, e) h =
      subst Are (sym e) (tidied-below count (refined class lines) (mapped_below (move class) lines h))

  all_prepared_below : (left start : List Line) → Prepares left start → Are start → Are left
  all_prepared_below left start (prepared _ between idle r s is none) h =
      simplified_below left between s (refined_below start between r h)
  all_prepared_below left start (trims _ between now idle r s is some rest) h =
      all_prepared_below left (tidied (trimmed idle now)) rest
      (tidied-below count (trimmed idle now) (all_trimmed_below idle now (simplified_below now between s (refined_below start between r h))))

  pub prepared_below : (lines start left : List Line) → start ≡ tidied lines → Prepares left start → Are lines → Are left
  prepared_below lines start left e p h =
      all_prepared_below left (tidied lines) (subst (Prepares left) e p) (tidied-below count lines h)

  moved_below : (parts : ℕ → Label → Option ℕ) (l : Line) → HasConstantsBelow count l → HasConstantsBelow count (moved_line parts l)
  moved_below parts (Var x) h = h
  moved_below parts (Same x y) h = h
  moved_below parts (Sub x y) h = h
  moved_below parts (Low k x) h = h
  moved_below parts (Up x k) h = h

  all_parted_below : (parts : ℕ → Label → Option ℕ) (lines : List Line) → Are lines → Are (split parts lines)
  all_parted_below parts lines h =
      All-from_contains (HasConstantsBelow count) (split parts lines)
      (λ l c. by l (Contains-append_cases (map (moved_line parts) lines) (map shape_line (moves parts lines)) l c))
    where
      of_moved : (l : Line) → (k : Line) × Contains lines k × (moved_line parts k ≡ l) → HasConstantsBelow count l
      of_moved l (k, c, e) =
          subst (HasConstantsBelow count) e (moved_below parts k (All-contains (HasConstantsBelow count) lines k h c))

      of_shape : (l : Line) → (m : ℕ × Dtv) × Contains (moves parts lines) m × (shape_line m ≡ l) → HasConstantsBelow count l
      of_shape l (m, c, e) = subst (HasConstantsBelow count) e tt

      by : (l : Line) → Contains (map (moved_line parts) lines) l ⊎ Contains (map shape_line (moves parts lines)) l →
          HasConstantsBelow count l
      by l (inl c) = of_moved l (Contains-map_source (moved_line parts) lines l c)
      by l (inr c) = of_shape l (Contains-map_source shape_line (moves parts lines) l c)

  pub split_below : (left start : List Line) → Splits left start → Are start → Are left
  split_below left start (whole none) h = h
  split_below left start (splits _ parted ready (holds, are, some, e) p rest) h =
      split_below left ready rest
      (all_prepared_below ready (tidied parted) p
      (tidied-below count parted (subst Are (sym e) (all_parted_below (numbers holds start) start h))))

  shape_below : (x y : Dtv) (t : Bool) → HasConstantsBelow count (cond t (Var x) (Same x y))
  shape_below x y true = tt
  shape_below x y false = tt

  pub emitted_below : (order : Below) (lines emitted : List Line) → IsEmitted order lines emitted → Are lines → Are emitted
  emitted_below order lines emitted em h =
      All-from_contains (HasConstantsBelow count) emitted
      (λ l c. by l (Contains-append_cases (flow_lines lines) em.shape l
      (keep_source (λ m. IsAnchored (flow_lines lines ++ em.shape) (first_side m).base) em.joined l c).0))
    where
      by : (l : Line) → Contains (flow_lines lines) l ⊎ Contains em.shape l → HasConstantsBelow count l
      by l (inl d) = All-contains (HasConstantsBelow count) lines l h (flow_source lines l d).0
      by l (inr d) =
          let s : IsShapeLine order lines l = (em.are_shape.each l).0 d in
          subst (HasConstantsBelow count) (sym s.line) (shape_below s.variable s.word (variable_eq s.variable s.word))
