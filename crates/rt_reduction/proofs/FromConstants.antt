-- Constants of the lines that each step leaves stand in the lines before it.
use Rattle.std.proofs.Common.{◌≡◌, ℕ, ◌⊎◌, inl, inr, List, ◌∷◌, ◌++◌, map, Contains, Bool, true, false, cond, ◌||◌, Option, sym, subst}
use Rattle.std.proofs.lemmas.List.Elements.{Contains-append_cases}
use Rattle.rt_base.proofs.Lists.{Contains-map_source, Contains-wider, Contains-middle_cases}
use Rattle.rt_lines.specs.declared.label.Label.{Label}
use Rattle.rt_lines.specs.declared.variable.Dtv.{Dtv}
use Rattle.rt_lines.specs.declared.line.Line.{Line}
use Rattle.rt_lines.specs.declared.line.Line.TheVariants.{Var, Same, Sub, Low, Up}
use Rattle.rt_lines.specs.Equality.{variable_eq}
use Rattle.rt_lines.specs.Orders.{Below}
use Rattle.rt_lines.proofs.Deduplicating.{deduplicated-source}
use Rattle.rt_rules.specs.Alike.{map_line}
use Rattle.rt_rules.specs.Put.{put, put_lines, use_of}
use Rattle.rt_refine.specs.Refinements.{move, refined}
use Rattle.rt_polar.specs.Puts.{Exchanges, Puts}
use Rattle.rt_polar.specs.Puts.Exchanges.{goes, exists_still}
use Rattle.rt_polar.specs.Puts.Puts.{none_left, puts}
use Rattle.rt_polar.specs.Tidied.{without_self, tidied}
use Rattle.rt_reduction.specs.Constants.{HasConstant, NamesConstant}
use Rattle.rt_reduction.specs.Simplifies.{Simplifies, simple, twins_go}
use Rattle.rt_reduction.specs.Merges.{Merges}
use Rattle.rt_reduction.specs.Merges.Merges.{none_left as no_merge, merges}
use Rattle.rt_reduction.specs.Emits.{flow_lines, first_side, IsShapeLine, IsAnchored, IsEmitted}
use Rattle.rt_trim.specs.Idle.{is_idle, trimmed, trimmed_line}
use Rattle.rt_record.specs.Records.{moved_line, moves, shape_line, split}
use Rattle.rt_record.specs.Slots.{IsSplit, numbers}
use Rattle.rt_reduction.specs.Rounds.{Refines, Prepares, prepared, trims, Splits, whole, splits, IsRound, Reduces, done, again}
use Rattle.rt_reduction.specs.Laws.{FormConstantsLaw}
use Rattle.rt_reduction.proofs.Simplifying.{twinned_lines}
use Rattle.rt_reduction.proofs.Flow.{flow_source}
use Rattle.rt_reduction.proofs.Anchoring.{keep_source}
use Rattle.rt_reduction.proofs.Dropping.{kept_lem}

module _ (k : ℕ) where
  abbrev Stand : List Line → List Line → Type 0
  Stand lines after = NamesConstant after k → NamesConstant lines k

  fewer : (lines after : List Line) → ((l : Line) → Contains after l → Contains lines l) → Stand lines after
  fewer lines after stood (l, c, h) = (l, stood l c, h)

  changed : (f : Line → Line) → ((l : Line) → HasConstant k (f l) → HasConstant k l) → (lines : List Line) → Stand lines (map f lines)
  changed f keeps lines (m, c, h) =
      let s : (l : Line) × Contains lines l × (f l ≡ m) = Contains-map_source f lines m c in
      (s.0, s.1, keeps s.0 (subst (HasConstant k) (sym s.2) h))

  line_constant : (f : Dtv → Dtv) (l : Line) → HasConstant k (map_line f l) → HasConstant k l
  line_constant f (Var x) h = h
  line_constant f (Same x y) h = h
  line_constant f (Sub x y) h = h
  line_constant f (Low n x) h = h
  line_constant f (Up x n) h = h

  mapped : (f : Dtv → Dtv) (lines : List Line) → Stand lines (map (map_line f) lines)
  mapped f lines names = changed (map_line f) (line_constant f) lines names

  without_constant : (l : Line) → HasConstant k (without_self l) → HasConstant k l
  without_constant (Var x) h = h
  without_constant (Low n x) h = h
  without_constant (Up x n) h = h
  without_constant (Same x y) h = by (variable_eq x y) h
    where
      by : (t : Bool) → HasConstant k (cond t (Var x) (Same x y)) → ⊥
      by true g = g
      by false g = g
  without_constant (Sub x y) h = by (variable_eq x y) h
    where
      by : (t : Bool) → HasConstant k (cond t (Var x) (Sub x y)) → ⊥
      by true g = g
      by false g = g

  of_tidied : (lines : List Line) → Stand lines (tidied lines)
  of_tidied lines names =
      changed without_self without_constant lines (fewer (map without_self lines) (tidied lines)
      (λ l c. deduplicated-source (map without_self lines) l c) names)

  cut_fewer : (lines before after : List Line) (sole : Line) → lines ≡ before ++ sole ∷ after → Stand lines (before ++ after)
  cut_fewer lines before after sole cut names =
      fewer lines (before ++ after) (λ l c. subst (λ ls. Contains ls l) (sym cut) (Contains-wider before sole after l c)) names

  of_exchanged : (n : ℕ) (lines after : List Line) → Exchanges n lines after → Stand lines after
  of_exchanged n lines _ (goes sign place left z before after is cut named) names =
      cut_fewer lines before after (use_of sign n z) cut (mapped (put n z) (before ++ after)
      (of_tidied (put_lines n z (before ++ after)) names))
  of_exchanged n lines _ (exists_still sign place left z before after is cut unnamed) names =
      one (of_tidied (before ++ Var z ∷ after) names)
    where
      by : (l : Line) → (Var z ≡ l) ⊎ Contains (before ++ after) l → HasConstant k l → NamesConstant lines k
      by l (inl e) h = absurd (subst (HasConstant k) (sym e) h)
      by l (inr d) h = cut_fewer lines before after (use_of sign n z) cut (l, d, h)

      one : NamesConstant (before ++ Var z ∷ after) k → NamesConstant lines k
      one (l, c, h) = by l (Contains-middle_cases before (Var z) after l c) h

  of_puts : (left start : List Line) → Puts left start → Stand start left
  of_puts left start (none_left none) names = names
  of_puts left start (puts n now between least exchanged rest) names =
      of_exchanged n now between exchanged (of_puts left between rest names)

  of_simple : (left start : List Line) → Simplifies left start → Stand start left
  of_simple left start (simple _ p none none') names = of_puts left start p names
  of_simple left start (twins_go _ between sign class w p turn c apart rest) names =
      of_puts between start p (mapped (move class) between
      (of_tidied (refined class between) (of_simple left (twinned_lines class between) rest names)))

  of_merges : (order : Below) (left start : List Line) → Merges order left start → Stand start left
  of_merges order left start (no_merge none) names = names
  of_merges order left start (merges n z now merge rest) names =
      mapped (put n z) now (of_tidied (put_lines n z now) (of_merges order left (tidied (put_lines n z now)) rest names))

  no_shape : (x y : Dtv) (t : Bool) → HasConstant k (cond t (Var x) (Same x y)) → ⊥
  no_shape x y true h = h
  no_shape x y false h = h

  of_emitted : (order : Below) (lines emitted : List Line) → IsEmitted order lines emitted → Stand lines emitted
  of_emitted order lines emitted e (l, c, h) =
      by (Contains-append_cases (flow_lines lines) e.shape l
      (keep_source (λ m. IsAnchored (flow_lines lines ++ e.shape) (first_side m).base) e.joined l c).0)
    where
      by : Contains (flow_lines lines) l ⊎ Contains e.shape l → NamesConstant lines k
      by (inl d) = (l, (flow_source lines l d).0, h)
      by (inr d) =
          let s : IsShapeLine order lines l = (e.are_shape.each l).0 d in
          absurd (no_shape s.variable s.word (variable_eq s.variable s.word) (subst (HasConstant k) s.line h))

  of_refined : (lines left : List Line) → Refines lines left → Stand lines left
  of_refined lines left (class, c, e) names =
      mapped (move class) lines (of_tidied (refined class lines) (subst (λ ls. NamesConstant ls k) e names))

  no_trimmed : (idle : ℕ → Bool) (l : Line) → HasConstant k (trimmed_line idle l) → HasConstant k l
  no_trimmed idle (Var x) h = h
  no_trimmed idle (Same x y) h = h
  no_trimmed idle (Sub x y) h = by (is_idle idle x.base || is_idle idle y.base) h
    where
      by : (t : Bool) → HasConstant k (cond t (Same x y) (Sub x y)) → HasConstant k (Sub x y)
      by true g = g
      by false g = g
  no_trimmed idle (Low n x) h = by (is_idle idle x.base) h
    where
      by : (t : Bool) → HasConstant k (cond t (Var x) (Low n x)) → HasConstant k (Low n x)
      by true g = absurd g
      by false g = g
  no_trimmed idle (Up x n) h = by (is_idle idle x.base) h
    where
      by : (t : Bool) → HasConstant k (cond t (Var x) (Up x n)) → HasConstant k (Up x n)
      by true g = absurd g
      by false g = g

  of_prepared : (left start : List Line) → Prepares left start → Stand start left
  of_prepared left start (prepared _ between idle r s is none) names = of_refined start between r (of_simple left between s names)
  of_prepared left start (trims _ between now idle r s is some rest) names =
      of_refined start between r (of_simple now between s
      (changed (trimmed_line idle) (no_trimmed idle) now
      (of_tidied (trimmed idle now) (of_prepared left (tidied (trimmed idle now)) rest names))))

  moved_constant : (parts : ℕ → Label → Option ℕ) (l : Line) → HasConstant k (moved_line parts l) → HasConstant k l
  moved_constant parts (Var x) h = h
  moved_constant parts (Same x y) h = h
  moved_constant parts (Sub x y) h = h
  moved_constant parts (Low n x) h = h
  moved_constant parts (Up x n) h = h

  of_split : (parts : ℕ → Label → Option ℕ) (lines : List Line) → Stand lines (split parts lines)
  of_split parts lines (l, c, h) = by (Contains-append_cases (map (moved_line parts) lines) (map shape_line (moves parts lines)) l c)
    where
      by : Contains (map (moved_line parts) lines) l ⊎ Contains (map shape_line (moves parts lines)) l → NamesConstant lines k
      by (inl d) = changed (moved_line parts) (moved_constant parts) lines (l, d, h)
      by (inr d) =
          let s : (p : ℕ × Dtv) × Contains (moves parts lines) p × (shape_line p ≡ l) =
          Contains-map_source shape_line (moves parts lines) l d in
          absurd (subst (HasConstant k) (sym s.2) h)

  of_parted : (lines parted : List Line) → IsSplit lines parted → Stand lines parted
  of_parted lines parted (holds, are, some, e) names =
      of_split (numbers holds lines) lines (subst (λ ls. NamesConstant ls k) e names)

  of_splits : (left start : List Line) → Splits left start → Stand start left
  of_splits left start (whole none) names = names
  of_splits left start (splits _ parted ready s p rest) names =
      of_parted start parted s (of_tidied parted (of_prepared ready (tidied parted) p (of_splits left ready rest names)))

  of_round : (order : Below) (lines after : List Line) → IsRound order lines after → Stand lines after
  of_round order lines after r names =
      of_prepared r.simple lines r.is_simple (of_emitted order r.simple r.emitted r.is_emitted
      (of_merges order r.merged r.emitted r.is_merged (fewer r.merged after (kept_lem order r.merged after r.is_dropped) names)))

  of_reduced : (order : Below) (reduced start : List Line) → Reduces order reduced start → Stand start reduced
  of_reduced order reduced start (done _ r d) names = of_round order start reduced r names
  of_reduced order reduced start (again _ between r n rest) names =
      of_round order start between r (of_reduced order reduced between rest names)

pub form_constants_lem : FormConstantsLaw
form_constants_lem order lines form r k names =
    of_tidied k lines (of_prepared k r.ready (tidied lines) r.is_ready
    (of_splits k r.start r.ready r.is_start (of_tidied k r.start (of_reduced k order form (tidied r.start) r.is_form names))))
