-- Existentials that no line spoils do nothing but hold fields, and no others.
use Rattle.std.proofs.Common.{◌≡◌, ◌↔◌, ℕ, ◌+◌, ◌<◌, ◌⊎◌, inl, inr, Bool, true, false, not, IsTrue, List, [], ◌∷◌, ◌++◌, length, take, get_or, Contains, refl, sym, ap, subst}
use Rattle.std.proofs.lemmas.List.Elements.{Contains-append_left, Contains-append_right}
use Rattle.rt_base.proofs.Lists.{Contains-none, Contains-here, Contains-push_cases, take-next}
use Rattle.rt_lines.specs.declared.label.Label.{Label}
use Rattle.rt_lines.specs.declared.label.Variance.{Variance}
use Rattle.rt_lines.specs.declared.variable.Base.TheVariants.{Exist}
use Rattle.rt_lines.specs.declared.variable.Dtv.{Dtv}
use Rattle.rt_lines.specs.declared.line.Line.{Line}
use Rattle.rt_record.specs.Records.{IsPart, IsHeld, IsHolding, IsRecord}
use Rattle.rt_record.specs.Slots.{AreRecords, IsPartWord, IsHeldWord, LeavesOut}

-- the numbers that the set leaves out are those of records
abbrev pub AreSpared : List Line → (ℕ → Bool) → Type 0
AreSpared lines has = (n : ℕ) → (has n ≡ false) ↔ IsRecord lines n

pub spared_none : (has : ℕ → Bool) → ((n : ℕ) → has n ≡ false) → AreSpared [] has
spared_none has none n = (λ e l c. absurd (Contains-none l c), λ h. none n)

pub spared_more : (lines : List Line) (i : ℕ) (l : Line) (old new : ℕ → Bool) → i < length lines → l ≡ get_or lines i l →
    AreSpared (take i lines) old → LeavesOut (λ n. IsHolding n l) old new → AreSpared (take (i + 1) lines) new
spared_more lines i l old new less is are left n = (forth, back)
  where
    more : take (i + 1) lines ≡ take i lines ++ l ∷ []
    more = take-next lines i l less is

    forth : new n ≡ false → IsRecord (take (i + 1) lines) n
    forth e k c = by (Contains-push_cases (take i lines) l k (subst (λ (ls : List Line). Contains ls k) more c))
      where
        by : Contains (take i lines) k ⊎ (l ≡ k) → IsHolding n k
        by (inl d) = (are n).0 ((left n).0 e).0 k d
        by (inr s) = subst (IsHolding n) s ((left n).0 e).1

    back : IsRecord (take (i + 1) lines) n → new n ≡ false
    back h = (left n).1 ((are n).1 before, here)
      where
        before : IsRecord (take i lines) n
        before k c = h k (subst (λ (ls : List Line). Contains ls k) (sym more) (Contains-append_left (take i lines) (l ∷ []) k c))

        here : IsHolding n l
        here = h l (subst (λ (ls : List Line). Contains ls l) (sym more)
            (Contains-append_right (take i lines) (l ∷ []) l (Contains-here l [])))

pub are_records : (lines : List Line) (has : ℕ → Bool) → AreSpared lines has → AreRecords lines (λ n. not (has n))
are_records lines has are n = (λ e. (are n).0 (turn (has n) e), λ h. ap not ((are n).1 h))
  where
    turn : (b : Bool) → not b ≡ true → b ≡ false
    turn true e = cc
    turn false e = refl

-- a variable that is a part of the sign keeps its existential spared
pub held_stays : (sign : Variance) (x : Dtv) (old : ℕ → Bool) (held : Bool) → held ≡ true → (IsTrue held ↔ IsHeldWord sign x.word) →
    LeavesOut (λ n. IsHeld n sign x) old old
held_stays sign x old held e is n = (λ f. (f, λ same. (part_of x.word refl same word.0, word.1)), λ p. p.0)
  where
    word : IsHeldWord sign x.word
    word = is.0 e

    part_of : (w : List Label) → x.word ≡ w → x.base ≡ Exist n → IsPartWord w → IsPart n x
    part_of [] f same p = absurd p
    part_of (a ∷ []) f same p = absurd p
    part_of (a ∷ g ∷ u) f same p = record {
      access = a;
      field = g;
      more = u;
      is_access = p.0;
      is_field = p.1;
      same = λ i. record { base = same i; word = f i };
    }
