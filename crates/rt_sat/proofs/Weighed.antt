-- What a search from a state of a table finds is the weight that probes give.
use Rattle.std.proofs.Common.{◌≡◌, ℕ, ◌+◌, ◌<◌, Bool, List, [], ◌∷◌, ◌++◌, Option, Some, None, length, sym, ap, subst, ◌∙◌, arith, below_more}
use Rattle.std.specs.Prelude.{MatchOption, min, slice_index_or}
use Rattle.std.proofs.lemmas.List.{get_or_append_left, get_or_push, length_push}
use Rattle.rt_lines.specs.declared.label.Variance.{Variance}
use Rattle.rt_lines.specs.declared.label.Variance.TheVariants.{Co, Contra}
use Rattle.rt_lines.specs.declared.variable.Dtv.{Dtv}
use Rattle.rt_lines.specs.declared.line.Line.{Line}
use Rattle.rt_lines.specs.Orders.{Below}
use Rattle.rt_sat.specs.declared.state.State.{State}
use Rattle.rt_sat.specs.declared.state.Edge.{Edge}
use Rattle.rt_named.specs.Naming.{named}
use Rattle.rt_sat.specs.Numbered.{at_number, is_contra}
use Rattle.rt_sat.specs.Probe.{IsCount, IsWeight}
use Rattle.rt_sat.specs.Pushes.{HasWalk}
use Rattle.rt_sat.specs.Searches.{IsKnown, IsSearch, IsWithin}
use Rattle.rt_sat.specs.Tables.{IsWholeTableOf}
use Rattle.rt_sat.specs.Weighing.{signed}
use Rattle.rt_sat.specs.Weights.{AreSearches, AreWeighed, Listed}
use Rattle.rt_sat.proofs.Weighing.{count_law}

abbrev held : Option ℕ → ℕ
held None = 0
held (Some i) = i

some_one : (m n : ℕ) → ◌≡◌ {A = Option ℕ} (Some m) (Some n) → m ≡ n
some_one m n e = ap held e

pub known_one : (row : List (State × ℕ)) (s : State) (j k : ℕ) → IsKnown row s j → IsKnown row s k → j ≡ k
known_one row s j k e f = some_one j k (sym e ∙ f)

module _ (order : Below) (lines : List Line) (extra known : List Dtv) (edges : List Edge) (table : IsWholeTableOf lines extra known edges) (i j : ℕ) (a b : Variance) (h : i < length known) (g : j < length known)
    (row : List (State × ℕ)) (search : IsSearch None edges (signed i a) row) where
  found_within : (n : ℕ) → IsCount order lines extra (at_number known i) a (at_number known j) b n → IsWithin row (signed j b) n
  found_within n c =
      let w : HasWalk edges (signed i a) (signed j b) n = (count_law order lines extra known edges table i j a b n h g).1 c in
      let f : IsWithin row (signed j b) w.0 = search.complete (signed j b) w.0 w.1 tt in
      (f.0, f.1, omega (arith, f.2, w.2))

  pub weighed : (said : Option ℕ) → MatchOption said ((k : ℕ) → IsKnown row (signed j b) k → ⊥) (λ w. (k : ℕ) × IsKnown row (signed j b) k × (w ≡ min k 4294967295)) →
      IsWeight order lines extra (at_number known i) a (at_number known j) b said
  weighed None none = λ n c. (let f : IsWithin row (signed j b) n = found_within n c in none f.0 f.1)
  weighed (Some w) some = (
    some.0,
    record {
      counts = (count_law order lines extra known edges table i j a b some.0 h g).0 (search.sound (signed j b) some.0 some.1);
      least = λ n c. (let f : IsWithin row (signed j b) n = found_within n c in omega (arith, f.2, known_one row (signed j b) f.0 some.0 f.1 some.1));
    },
    some.2,
  )

pub searches_none : (edges : List Edge) (contra : Bool) → AreSearches edges contra 0 []
searches_none edges contra = record { size = omega arith; each = λ n h. absurd (omega (arith, h)) }

pub searches_more : (edges : List Edge) (contra : Bool) (number : ℕ) (rows new : List (List (State × ℕ))) (row : List (State × ℕ)) → new ≡ rows ++ row ∷ [] → IsSearch None edges (record { variable = number; contra = contra }) row →
    AreSearches edges contra number rows → AreSearches edges contra (number + 1) new
searches_more edges contra number rows new row e search are = record {
  size = ap length e ∙ length_push rows row ∙ ap (λ n. n + 1) are.size;
  each = below_more (λ n. IsSearch None edges (record { variable = n; contra = contra }) (slice_index_or new n [])) number
      (λ n less. subst (λ r. IsSearch None edges (record { variable = n; contra = contra }) r) (sym (ap (λ xs. slice_index_or xs n []) e ∙ get_or_append_left rows (row ∷ []) [] n (omega (arith, less, are.size)))) (are.each n less))
      (subst (λ r. IsSearch None edges (record { variable = number; contra = contra }) r) (sym (ap (λ xs. slice_index_or xs number []) e ∙ get_or_push rows row [] number are.size)) search);
}

-- by what is kept of the lines
module _ (lines : List Line) (extra known : List Dtv) (co contra : List (List (State × ℕ))) (are : AreWeighed lines extra known co contra) (listed : Listed) (is : listed ≡ record { lines = lines; extra = extra })
    (p q : ℕ) (h : p < length (named listed.lines listed.extra)) (g : q < length (named listed.lines listed.extra)) (b : Variance) (turned : Bool) (e : turned ≡ is_contra b) (rows : List (List (State × ℕ))) (said : Option ℕ)
    (says : MatchOption said ((k : ℕ) → IsKnown (slice_index_or rows p []) (record { variable = q; contra = turned }) k → ⊥) (λ w. (k : ℕ) × IsKnown (slice_index_or rows p []) (record { variable = q; contra = turned }) k × (w ≡ min k 4294967295))) where
  names : known ≡ named listed.lines listed.extra
  names = are.table.table.is_named ∙ ap (λ (l : Listed). named l.lines l.extra) (sym is)

  within : (n : ℕ) → n < length (named listed.lines listed.extra) → n < length known
  within n i = subst (λ xs. n < length xs) (sym names) i

  said_by : (a : Variance) → IsSearch None are.edges (signed p a) (slice_index_or rows p []) → (order : Below) → IsWeight order listed.lines listed.extra (at_number (named listed.lines listed.extra) p) a (at_number (named listed.lines listed.extra) q) b said
  said_by a search order =
      subst (λ (l : Listed). IsWeight order l.lines l.extra (at_number (named listed.lines listed.extra) p) a (at_number (named listed.lines listed.extra) q) b said) (sym is)
      (subst (λ xs. IsWeight order lines extra (at_number xs p) a (at_number xs q) b said) names
      (weighed order lines extra known are.edges are.table p q a b (within p h) (within q g) (slice_index_or rows p []) search said
      (subst (λ t. MatchOption said ((k : ℕ) → IsKnown (slice_index_or rows p []) (record { variable = q; contra = t }) k → ⊥) (λ w. (k : ℕ) × IsKnown (slice_index_or rows p []) (record { variable = q; contra = t }) k × (w ≡ min k 4294967295))) e says)))

  pub co_weight : (a : Variance) → a ≡ Co → rows ≡ co → (order : Below) → IsWeight order listed.lines listed.extra (at_number (named listed.lines listed.extra) p) a (at_number (named listed.lines listed.extra) q) b said
  co_weight a f r = said_by a (subst (λ s. IsSearch None are.edges (signed p s) (slice_index_or rows p [])) (sym f) (subst (λ xs. IsSearch None are.edges (signed p Co) (slice_index_or xs p [])) (sym r) (are.first.each p (within p h))))

  pub contra_weight : (a : Variance) → a ≡ Contra → rows ≡ contra → (order : Below) → IsWeight order listed.lines listed.extra (at_number (named listed.lines listed.extra) p) a (at_number (named listed.lines listed.extra) q) b said
  contra_weight a f r = said_by a (subst (λ s. IsSearch None are.edges (signed p s) (slice_index_or rows p [])) (sym f) (subst (λ xs. IsSearch None are.edges (signed p Contra) (slice_index_or xs p [])) (sym r) (are.second.each p (within p h))))
