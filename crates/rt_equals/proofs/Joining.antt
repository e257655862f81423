-- Numbers by a table of ways, where it has each below the other of what is marked.
use Rattle.std.proofs.Common.{◌≡◌, ℕ, ◌+◌, ◌<◌, ◌⊎◌, inl, inr, List, [], ◌∷◌, Option, Some, None, length, get_or, sym, ap, subst, ◌∙◌}
use Rattle.std.specs.Prelude.{flat_map, slice_get}
use Rattle.std.proofs.lemmas.Option.{slice_get-get_or}
use Rattle.rt_base.proofs.Numbers.{before_or}
use Rattle.rt_base.proofs.Options.{some_of}
use Rattle.rt_lines.specs.declared.variable.Dtv.{Dtv}
use Rattle.rt_lines.specs.declared.line.Line.{Line}
use Rattle.rt_lines.specs.declared.line.Line.TheVariants.{Sub}
use Rattle.rt_lines.specs.Orders.{Below}
use Rattle.rt_rules.specs.Rules.{Derivable}
use Rattle.rt_rules.specs.Rules.Derivable.{sub_chain}
use Rattle.rt_named.specs.Naming.{named as named_by, sides_of, with_prefixes}
use Rattle.rt_named.specs.Origins.{no_variable}
use Rattle.rt_named.proofs.Prefixes.{with_prefixes-append}
use Rattle.rt_earlier.proofs.Entering.{entered-keeps}
use Rattle.rt_outline.specs.Equal.{AreOuterEquals}
use Rattle.rt_sat.specs.declared.increments.GrowingTable.{GrowingTable}
use Rattle.rt_sat.specs.Increments.{named_of, Tells}
use Rattle.rt_sat.specs.Numbered.{at_number}
use Rattle.rt_equals.specs.Comparing.{AreEquals, AreMarked, IsExistential}
use Rattle.rt_equals.specs.Joined.{AreJoined, IsJoined}

-- one more that lies so
pub joined_next : (growing : GrowingTable) (numbers : List ℕ) (j : ℕ) (marks : List (Option ℕ)) →
    ((m : ℕ) → get_or marks (get_or numbers j 0) None ≡ Some m → (m < length numbers) × IsJoined growing m j) → AreJoined growing numbers j marks →
    AreJoined growing numbers (j + 1) marks
joined_next growing numbers j marks own are k m h e = by (before_or j k h)
  where
    by : (k < j) ⊎ (k ≡ j) → (m < length numbers) × IsJoined growing m k
    by (inr f) = subst (λ n. (m < length numbers) × IsJoined growing m n) (sym f) (own m (sym (ap (λ i. get_or marks (get_or numbers i 0) None) f) ∙ e))
    by (inl l) = are k m l e

-- those that are there keep their numbers as others are entered
kept : (xs known : List Dtv) (n : ℕ) (x : Dtv) → slice_get known n ≡ Some x → slice_get (with_prefixes known xs) n ≡ Some x
kept [] known n x h = h
kept (y ∷ xs) known n x h =
    subst (λ (ys : List Dtv). slice_get ys n ≡ Some x) (sym (with_prefixes-append known (y ∷ []) xs))
    (kept xs (with_prefixes known (y ∷ [])) n x (entered-keeps known y n x h))

-- what lines name has the same number where others are named too
pub named_kept : (lines : List Line) (extra : List Dtv) (n : ℕ) (x : Dtv) → slice_get (named_by lines []) n ≡ Some x → slice_get (named_by lines extra) n ≡ Some x
named_kept lines extra n x h =
    let sides : List Dtv = flat_map sides_of lines in
    subst (λ (xs : List Dtv). slice_get xs n ≡ Some x) (sym (with_prefixes-append [] sides extra))
    (kept extra (with_prefixes [] sides) n x
    (subst (λ (xs : List Dtv). slice_get xs n ≡ Some x) (with_prefixes-append [] sides []) h))

-- numbers from outside are exact where a table has each below the other of what is marked
pub joined_equals : (lines : List Line) (known extra : List Dtv) (count : ℕ) (outer : List ℕ) (marks : List (Option ℕ)) (growing : GrowingTable) →
    known ≡ named_by lines [] → named_of growing ≡ named_by lines extra → Tells lines growing → AreOuterEquals lines known count outer →
    AreMarked known outer (length known) marks → AreJoined growing outer (length outer) marks → AreEquals lines known outer
joined_equals lines known extra count outer marks growing is named tells out marked joined = record {
  each = out.each;
  equal = λ order i j h k existential. (both order i j h k existential, λ d. out.all order i j h k d);
}
  where
    there : (n : ℕ) → n < length known → slice_get (named_of growing) n ≡ Some (at_number known n)
    there n h = subst (λ (xs : List Dtv). slice_get xs n ≡ Some (at_number known n)) (sym named)
        (named_kept lines extra n (at_number known n)
        (subst (λ (xs : List Dtv). slice_get xs n ≡ Some (at_number known n)) is (slice_get-get_or known n no_variable h)))

    with_mark : (order : Below) (m n : ℕ) → n < length known → get_or marks (get_or outer n 0) None ≡ Some m →
        Derivable order lines (Sub (at_number known m) (at_number known n)) × Derivable order lines (Sub (at_number known n) (at_number known m))
    with_mark order m n h e =
        let s = joined n m (subst (λ l. n < l) (sym out.each) h) e in
        s.1 order lines (at_number known m) (at_number known n) tells (there m (subst (λ l. m < l) out.each s.0)) (there n h)

    both : (order : Below) (i j : ℕ) → i < length known → j < length known → IsExistential known i → get_or outer i 0 ≡ get_or outer j 0 →
        Derivable order lines (Sub (at_number known i) (at_number known j)) × Derivable order lines (Sub (at_number known j) (at_number known i))
    both order i j h k existential e =
        let r : (m : ℕ) × (get_or marks (get_or outer i 0) None ≡ Some m) = some_of (get_or marks (get_or outer i 0) None) (marked i h existential) in
        let a = with_mark order r.0 i h r.1 in
        let b = with_mark order r.0 j k (ap (λ n. get_or marks n None) (sym e) ∙ r.1) in
        (sub_chain a.1 b.0, sub_chain b.1 a.0)
