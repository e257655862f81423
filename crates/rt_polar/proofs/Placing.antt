-- Lines put into slots one after another.
use Rattle.std.proofs.Common.{◌≡◌, ℕ, zero, suc, List, [], ◌∷◌, ◌++◌, length, get_or, map, Bool, Option, Some, None, refl, sym, ap, subst, ◌∙◌, arith, length-append}
use Rattle.std.proofs.Math.ListN.{set}
use Rattle.std.proofs.lemmas.Grind.{fold-append}
use Rattle.std.proofs.lemmas.List.{map-append}
use Rattle.indexmap.specs.IndexSet.{insert_key}
use Rattle.rt_lines.specs.declared.line.Line.{Line}
use Rattle.rt_lines.specs.Equality.{line_eq}
use Rattle.rt_lines.specs.Numbering.{deduplicated}
use Rattle.rt_polar.specs.declared.index.Kind.{Kind}
use Rattle.rt_polar.specs.declared.index.Kind.TheVariants.{Naming, Defining, Consuming}
use Rattle.rt_polar.specs.Inside.Places.{AreHeld, Holds, IsFound, IsIndexed, Settles, lines_of}
use Rattle.rt_polar.specs.Tidied.{tidied, without_self}
use Rattle.rt_polar.proofs.Moved.{changed_same, lines_distinct, map-same}
use Rattle.rt_polar.proofs.Settling.{deduplicated-same, settled}
use Rattle.rt_polar.proofs.Soles.{one_slot}

-- an empty slot behind the others holds nothing
pushed_source : (slots : List (Option Line)) (i : ℕ) (l : Line) → Holds (slots ++ None ∷ []) i l → Holds slots i l
pushed_source [] zero l h = cc
pushed_source [] (suc i) l h = cc
pushed_source (s ∷ slots) zero l h = h
pushed_source (s ∷ slots) (suc i) l h = pushed_source slots i l h

pushed_here : (slots : List (Option Line)) (i : ℕ) (l : Line) → Holds slots i l → Holds (slots ++ None ∷ []) i l
pushed_here [] i l h = cc
pushed_here (s ∷ slots) zero l h = h
pushed_here (s ∷ slots) (suc i) l h = pushed_here slots i l h

IsIndexed-pushed : (kind : Kind) (slots : List (Option Line)) (index : ℕ → ℕ → Bool) → IsIndexed kind slots index → IsIndexed kind (slots ++ None ∷ []) index
IsIndexed-pushed kind slots index indexed = record {
  here = λ n i l h of. indexed.here n i l (pushed_source slots i l h) of;
  source = λ n i e. let s = indexed.source n i e in (s.0, pushed_here slots i s.0 s.1, s.2);
}

pub held_pushed : (slots : List (Option Line)) (at : ℕ → ℕ → Bool) (n d c : ℕ → ℕ → Bool) → AreHeld slots at n d c → AreHeld (slots ++ None ∷ []) at n d c
held_pushed slots at n d c held = record {
  found = record {
    once = λ i j l a b. held.found.once i j l (pushed_source slots i l a) (pushed_source slots j l b);
    digested = λ i l h. held.found.digested i l (pushed_source slots i l h);
    source = λ d i e. let s = held.found.source d i e in (s.0, pushed_here slots i s.0 s.1, s.2);
  };
  named = IsIndexed-pushed Naming slots n held.named;
  defined = IsIndexed-pushed Defining slots d held.defined;
  consumed = IsIndexed-pushed Consuming slots c held.consumed;
  plain = λ i l h. held.plain i l (pushed_source slots i l h);
}

pub pushed_empty : (slots : List (Option Line)) → get_or (slots ++ None ∷ []) (length slots) None ≡ None
pushed_empty [] = refl
pushed_empty (s ∷ slots) = pushed_empty slots

lines_pushed : (slots : List (Option Line)) (l : Line) → lines_of (set (slots ++ None ∷ []) (length slots) (Some l)) ≡ lines_of slots ++ l ∷ []
lines_pushed [] l = refl
lines_pushed (None ∷ slots) l = lines_pushed slots l
lines_pushed (Some k ∷ slots) l = ap (λ ls. k ∷ ls) (lines_pushed slots l)

-- a line that settles behind the others is inserted
pub inserted_step : (slots : List (Option Line)) (l : Line) (new : List (Option Line)) (at at' : ℕ → ℕ → Bool) → IsFound slots at → IsFound new at' → Settles (slots ++ None ∷ []) (length slots) l new → lines_of new ≡ insert_key line_eq (lines_of slots) l
inserted_step slots l new at at' found found' settles =
    sym (changed_same (λ k. k) new at' found' (λ i k h. refl))
    ∙ settled (λ k. k) (slots ++ None ∷ []) (length slots) l new (omega (arith, length-append slots (None ∷ []))) (pushed_empty slots) settles
    ∙ ap deduplicated (map-same (λ k. k) (lines_of (set (slots ++ None ∷ []) (length slots) (Some l))) (λ k c. refl) ∙ lines_pushed slots l)
    ∙ fold-append (insert_key line_eq) [] (lines_of slots) (l ∷ [])
    ∙ ap (λ ks. insert_key line_eq ks l) (deduplicated-same [] (lines_of slots) (lines_distinct slots (one_slot slots at found)))

pub tidied_push : (lines : List Line) (l : Line) → tidied (lines ++ l ∷ []) ≡ insert_key line_eq (tidied lines) (without_self l)
tidied_push lines l = ap deduplicated (map-append without_self lines (l ∷ [])) ∙ fold-append (insert_key line_eq) [] (map without_self lines) (without_self l ∷ [])

pub lines_of-append : (first second : List (Option Line)) → lines_of (first ++ second) ≡ lines_of first ++ lines_of second
lines_of-append [] second = refl
lines_of-append (None ∷ first) second = lines_of-append first second
lines_of-append (Some l ∷ first) second = ap (λ ls. l ∷ ls) (lines_of-append first second)

-- a tidied line more
pub placed_step : (slots pushed new : List (Option Line)) (slot : ℕ) (lines : List Line) (l r : Line) (at at' : ℕ → ℕ → Bool) → IsFound slots at → IsFound new at' → pushed ≡ slots ++ None ∷ [] → slot ≡ length slots → r ≡ without_self l →
    Settles pushed slot r new → lines_of slots ≡ tidied lines → lines_of new ≡ tidied (lines ++ l ∷ [])
placed_step slots pushed new slot lines l r at at' found found' a b e settles tidy =
    let first : Settles (slots ++ None ∷ []) slot r new = subst (λ p. Settles p slot r new) a settles in
    let second : Settles (slots ++ None ∷ []) (length slots) r new = subst (λ i. Settles (slots ++ None ∷ []) i r new) b first in
    inserted_step slots r new at at' found found' second ∙ (λ i. insert_key line_eq (tidy i) (e i)) ∙ sym (tidied_push lines l)
