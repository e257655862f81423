-- A line that stands twice counts once.
use Rattle.std.proofs.Common.{◌≡◌, ◌≢◌, ℕ, zero, suc, ◌<◌, List, [], ◌∷◌, ◌++◌, length, get_or, map, fold, AllPairs, Bool, true, false, ◌||◌, append-nil, append_assoc, Option, Some, None, refl, sym, ap, subst, ◌∙◌, arith}
use Rattle.std.proofs.Math.ListN.{set}
use Rattle.std.specs.List.{list_any}
use Rattle.indexmap.specs.IndexSet.{insert_key}
use Rattle.rt_lines.specs.declared.line.Line.{Line}
use Rattle.rt_lines.specs.contracts.line.LineEq.TheImpl.Laws as line_laws
use Rattle.rt_lines.specs.Equality.{line_eq}
use Rattle.rt_lines.specs.Numbering.{deduplicated}
use Rattle.rt_polar.specs.Inside.Places.{Holds, lines_of, Settles}
use Rattle.rt_polar.specs.Inside.Places.Settles.{stands_before, moves, fills}
use Rattle.rt_lines.proofs.Equal.{line_equal}
use Rattle.rt_polar.proofs.Cuts.{cut_at, cut_length}
use Rattle.rt_lines.proofs.Same.{line_self}
use Rattle.std.proofs.lemmas.Bool.{or_right}

abbrev has_line : List Line → Line → Bool
has_line ks l = list_any (line_eq l) ks

or_more : (a b c : Bool) → (b ≡ true → c ≡ true) → (a || b) ≡ true → (a || c) ≡ true
or_more true b c f e = refl
or_more false b c f e = f e

or_false : (a b : Bool) → (a ≡ true → ⊥) → b ≡ false → (a || b) ≡ false
or_false true b f e = absurd (f refl)
or_false false b f e = e

list_any-append_last : (ks : List Line) (l : Line) → has_line (ks ++ l ∷ []) l ≡ true
list_any-append_last [] l = rw (line_self l) refl
list_any-append_last (k ∷ ks) l = or_right (line_eq l k) (has_line (ks ++ l ∷ []) l) (list_any-append_last ks l)

list_any-append_front : (ks : List Line) (k l : Line) → has_line ks l ≡ true → has_line (ks ++ k ∷ []) l ≡ true
list_any-append_front [] k l h = cc
list_any-append_front (j ∷ ks) k l h = or_more (line_eq l j) (has_line ks l) (has_line (ks ++ k ∷ []) l) (list_any-append_front ks k l) h

-- no line of a list with distinct elements stands twice
not_there : (ks : List Line) (l : Line) (lines : List Line) → AllPairs (λ a b. a ≢ b) (ks ++ l ∷ lines) → has_line ks l ≡ false
not_there [] l lines pairs = refl
not_there (k ∷ ks) l lines pairs =
    or_false (line_eq l k) (has_line ks l) (λ e. pairs 0 (suc (length ks)) l (omega arith) (omega (arith, cut_length ks l lines)) (sym (line_equal l k e) ∙ sym (cut_at ks l lines l)))
    (not_there ks l lines (λ i j d less lt. pairs (suc i) (suc j) d (omega arith) (omega arith)))

inserted_has : (ks : List Line) (k : Line) → has_line (insert_key line_eq ks k) k ≡ true
inserted_has ks k = by (has_line ks k) refl
  where
    by : (b : Bool) → has_line ks k ≡ b → has_line (insert_key line_eq ks k) k ≡ true
    by true e = rw e e
    by false e = rw e (list_any-append_last ks k)

inserted_keeps : (ks : List Line) (k l : Line) → has_line ks l ≡ true → has_line (insert_key line_eq ks k) l ≡ true
inserted_keeps ks k l h = by (has_line ks k) refl
  where
    by : (b : Bool) → has_line ks k ≡ b → has_line (insert_key line_eq ks k) l ≡ true
    by true e = rw e h
    by false e = rw e (list_any-append_front ks k l h)

inserted_same : (ks : List Line) (k : Line) → has_line ks k ≡ true → insert_key line_eq ks k ≡ ks
inserted_same ks k h = rw h refl

-- the lines of slots, each changed, inserted one after another
abbrev gathered : (Line → Line) → List Line → List (Option Line) → List Line
gathered f ks slots = fold (insert_key line_eq) ks (map f (lines_of slots))

-- a line that is there already may go
skipped : (f : Line → Line) (ks : List Line) (slots : List (Option Line)) (i : ℕ) (l : Line) → has_line ks (f l) ≡ true → Holds slots i l → gathered f ks (set slots i None) ≡ gathered f ks slots
skipped f ks [] i l h e = cc
skipped f ks (None ∷ slots) zero l h e = cc
skipped f ks (Some k ∷ slots) zero l h e =
    let same : k ≡ l = cc in
    let there : has_line ks (f k) ≡ true = rw same h in
    ap (λ js. gathered f js slots) (sym (inserted_same ks (f k) there))
skipped f ks (None ∷ slots) (suc i) l h e = skipped f ks slots i l h e
skipped f ks (Some k ∷ slots) (suc i) l h e = skipped f (insert_key line_eq ks (f k)) slots i l (inserted_keeps ks (f k) (f l) h) e

-- and may come
added : (f : Line → Line) (ks : List Line) (slots : List (Option Line)) (i : ℕ) (l : Line) → has_line ks (f l) ≡ true → i < length slots → get_or slots i None ≡ None → gathered f ks (set slots i (Some l)) ≡ gathered f ks slots
added f ks [] i l h lt e = absurd (omega arith)
added f ks (None ∷ slots) zero l h lt e = ap (λ js. gathered f js slots) (inserted_same ks (f l) h)
added f ks (Some k ∷ slots) zero l h lt e = cc
added f ks (None ∷ slots) (suc i) l h lt e = added f ks slots i l h (omega arith) e
added f ks (Some k ∷ slots) (suc i) l h lt e = added f (insert_key line_eq ks (f k)) slots i l (inserted_keeps ks (f k) (f l) h) (omega arith) e

-- behind an equal one
added_after : (f : Line → Line) (ks : List Line) (slots : List (Option Line)) (j i : ℕ) (l : Line) → j < i → Holds slots j l → i < length slots → get_or slots i None ≡ None → gathered f ks (set slots i (Some l)) ≡ gathered f ks slots
added_after f ks [] j i l less h lt e = absurd (omega arith)
added_after f ks (s ∷ slots) j zero l less h lt e = absurd (omega arith)
added_after f ks (None ∷ slots) zero (suc i) l less h lt e = cc
added_after f ks (Some k ∷ slots) zero (suc i) l less h lt e =
    let same : k ≡ l = cc in
    let there : has_line (insert_key line_eq ks (f k)) (f l) ≡ true = rw (sym same) (inserted_has ks (f k)) in
    added f (insert_key line_eq ks (f k)) slots i l there (omega arith) e
added_after f ks (None ∷ slots) (suc j) (suc i) l less h lt e = added_after f ks slots j i l (omega arith) h (omega arith) e
added_after f ks (Some k ∷ slots) (suc j) (suc i) l less h lt e = added_after f (insert_key line_eq ks (f k)) slots j i l (omega arith) h (omega arith) e

-- before an equal one, which goes
moved_before : (f : Line → Line) (ks : List Line) (slots : List (Option Line)) (i j : ℕ) (l : Line) → i < j → Holds slots j l → gathered f ks (set (set slots j None) i (Some l)) ≡ gathered f ks (set slots i (Some l))
moved_before f ks [] i j l less h = cc
moved_before f ks (s ∷ slots) i zero l less h = absurd (omega arith)
moved_before f ks (s ∷ slots) zero (suc j) l less h = skipped f (insert_key line_eq ks (f l)) slots j l (inserted_has ks (f l)) h
moved_before f ks (None ∷ slots) (suc i) (suc j) l less h = moved_before f ks slots i j l (omega arith) h
moved_before f ks (Some k ∷ slots) (suc i) (suc j) l less h = moved_before f (insert_key line_eq ks (f k)) slots i j l (omega arith) h

-- whatever the lines become, each once, a line that settles counts as one that was put there
pub settled : (f : Line → Line) (old : List (Option Line)) (i : ℕ) (l : Line) (new : List (Option Line)) → i < length old → get_or old i None ≡ None → Settles old i l new →
    deduplicated (map f (lines_of new)) ≡ deduplicated (map f (lines_of (set old i (Some l))))
settled f old i l new lt e (stands_before j less h is) = ap (λ slots. gathered f [] slots) is ∙ sym (added_after f [] old j i l less h lt e)
settled f old i l new lt e (moves j less h is) = ap (λ slots. gathered f [] slots) is ∙ moved_before f [] old i j l less h
settled f old i l new lt e (fills none is) = ap (λ slots. gathered f [] slots) is

-- distinct lines stay, each once
pub deduplicated-same : (ks lines : List Line) → AllPairs (λ a b. a ≢ b) (ks ++ lines) → fold (insert_key line_eq) ks lines ≡ ks ++ lines
deduplicated-same ks [] pairs = sym (append-nil ks)
deduplicated-same ks (l ∷ lines) pairs =
    let fresh : has_line ks l ≡ false = not_there ks l lines pairs in
    let more : (ks ++ l ∷ []) ++ lines ≡ ks ++ l ∷ lines = append_assoc ks (l ∷ []) lines in
    ap (λ js. fold (insert_key line_eq) js lines) (rw fresh refl) ∙ deduplicated-same (ks ++ l ∷ []) lines (subst (AllPairs (λ a b. a ≢ b)) (sym more) pairs) ∙ more
