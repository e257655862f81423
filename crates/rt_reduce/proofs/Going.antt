-- Merging, existential by existential.
use Rattle.std.proofs.Common.{◌≡◌, ◌≢◌, ℕ, Bool, true, false, cond, List, map, All, sym, subst}
use Rattle.std.specs.Ordering.{is_eq, is_gt, nat_cmp}
use Rattle.rt_lines.specs.declared.variable.Base.TheVariants.{Exist}
use Rattle.rt_lines.specs.declared.variable.Dtv.{Dtv}
use Rattle.rt_lines.specs.declared.line.Line.{Line}
use Rattle.rt_lines.specs.Lines.{HasConstantsBelow}
use Rattle.rt_lines.specs.Orders.{Below}
use Rattle.rt_rules.specs.Laws.{NamesBase}
use Rattle.rt_rules.specs.Put.{put, put_lines}
use Rattle.rt_polar.specs.Tidied.{tidied}
use Rattle.rt_reduction.specs.Emits.{AreOfScheme}
use Rattle.rt_reduction.specs.Merges.{HasEqual, Merges}
use Rattle.rt_reduction.specs.Merges.Merges.{merges}
use Rattle.rt_reduce.specs.Inside.Compared.{IsCompared}
use Rattle.rt_reduce.specs.Inside.Merging.{IsFirstEqual, IsSide}
use Rattle.rt_reduce.proofs.Compared.{any, compared_next, had_equal, was_named}
use Rattle.rt_reduce.proofs.Falling.{put-below}
use Rattle.rt_reduce.proofs.Firsts.{merge_of, still_pending}
use Rattle.rt_reduce.proofs.Keeping.{put_scheme}

-- the lines are on the way of merging the first ones, their sides have numbers, and each existential that has an equal is pending
pub record IsGoing (start : List Line) (known : List Dtv) (equals numbers : List ℕ) (now : List Line) (sides : List Dtv)
    (pending : ℕ → Bool) : Type 0 where
  pub compared : IsCompared now known equals sides numbers
  pub waiting : (order : Below) (m : ℕ) → HasEqual order now m → pending m ≡ true
  pub onward : (order : Below) (left : List Line) → Merges order left now → Merges order left start
  pub scheme : AreOfScheme start → AreOfScheme now
  pub constants : (count : ℕ) → All (HasConstantsBelow count) start → All (HasConstantsBelow count) now
  pub names : (n : ℕ) → NamesBase now (Exist n) → NamesBase start (Exist n)

module _ (start : List Line) (known : List Dtv) (equals numbers : List ℕ) (now : List Line) (sides : List Dtv) (pending new : ℕ → Bool) (n : ℕ)
    (going : IsGoing start known equals numbers now sides pending)
    (updates : (q : ℕ) → new q ≡ cond (is_eq (nat_cmp n q)) false (pending q)) where
  -- an existential without an equal is passed
  pub goes_past : ((order : Below) → HasEqual order now n → ⊥) → IsGoing start known equals numbers now sides new
  goes_past none = record {
    compared = going.compared;
    waiting = λ order m has. still_pending n m pending new updates (going.waiting order m has)
        (λ g. none order (subst (λ k. HasEqual order now k) (sym g) has));
    onward = going.onward;
    scheme = going.scheme;
    constants = going.constants;
    names = going.names;
  }

  -- the first of its equals takes its place
  pub goes_on : (z : Dtv) (after : List Line) (replaced : List Dtv) → ((order : Below) → IsFirstEqual order now n z) →
      ((q : ℕ) → pending q ≡ true → is_gt (nat_cmp n q) ≡ false) → after ≡ tidied (put_lines n z now) →
      replaced ≡ map (put n z) sides → IsGoing start known equals numbers after replaced new
  goes_on z after replaced first least e f = record {
    compared = subst (λ ls. IsCompared ls known equals replaced numbers) (sym e)
        (subst (λ xs. IsCompared (tidied (put_lines n z now)) known equals xs numbers) (sym f)
        (compared_next now known equals sides numbers n z side apart
        (λ order. ((first order).equal.above, (first order).equal.below)) going.compared));
    waiting = λ order m has. (
        let r = had_equal now n z apart order (first order).equal.above (first order).equal.below m
        (subst (λ ls. HasEqual order ls m) e has) in
        still_pending n m pending new updates (going.waiting order m r.1) (λ g. r.0 (sym g))
        );
    onward = λ order left m. going.onward order left (merges n z now
        (merge_of order now n z pending (first order) (going.waiting order) least) (subst (Merges order left) e m));
    scheme = λ h. subst AreOfScheme (sym e) (put_scheme now n z side (going.scheme h));
    constants = λ count h. subst (All (HasConstantsBelow count)) (sym e) (put-below count n z now (going.constants count h));
    names = λ m h. going.names m (was_named now n z apart side m (subst (λ ls. NamesBase ls (Exist m)) e h));
  }
    where
      side : IsSide now z
      side = ((first any).equal.line, (first any).equal.stands, (first any).equal.is_side)

      apart : z.base ≢ Exist n
      apart = (first any).equal.other_base
