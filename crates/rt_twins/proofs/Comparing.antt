-- Lists of lines that are the same, or not.
use Rattle.std.proofs.Common.{◌≡◌, ◌≢◌, ◌↔◌, List, Bool, true, false, not, IsTrue, MatchBool, refl, subst}
use Rattle.std.specs.Cmp.Lexicographic.{pointwise}
use Rattle.std.proofs.lemmas.Slice.Eq.{slice_eq-Decides}
use Rattle.rt_lines.specs.declared.line.Line.{Line}
use Rattle.rt_lines.specs.Equality.{line_eq}
use Rattle.rt_lines.proofs.Equal.{line_equal}
use Rattle.rt_lines.proofs.Same.{line_self}

pub lines_same : (same : Bool) (left right : List Line) → same ≡ pointwise line_eq left right → IsTrue same ↔ (left ≡ right)
lines_same same left right e =
    slice_eq-Decides (λ a b. (line_equal a b, λ f. subst (λ m. line_eq a m ≡ true) f (line_self a))) left right same e

pub changed_or : (same : Bool) (left right : List Line) → IsTrue same ↔ (left ≡ right) →
    MatchBool (not same) (left ≢ right) (left ≡ right)
changed_or true left right d = d.0 refl
changed_or false left right d = λ e. let f : false ≡ true = d.1 e in absurd (cc)
