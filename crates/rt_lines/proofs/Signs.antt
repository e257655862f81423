-- The variance of words of several parts.
use Rattle.std.proofs.Common.{◌≡◌, ℕ, ◌+◌, ◌<◌, List, [], ◌∷◌, ◌++◌, length, take, get_or, refl, ◌∙◌, ap, sym, add-one}
use Rattle.std.proofs.Math.Seq.{take-suc}
use Rattle.rt_lines.specs.declared.label.Label.{Label}
use Rattle.rt_lines.specs.declared.label.Variance.{Variance}
use Rattle.rt_lines.specs.declared.label.Variance.TheVariants.{Co, Contra}
use Rattle.rt_lines.specs.Words.{label_variance, times, variance_of_word}

pub times-co : (a : Variance) → times a Co ≡ a
times-co Co = refl
times-co Contra = refl

pub times-assoc : (a b c : Variance) → times (times a b) c ≡ times a (times b c)
times-assoc Co b c = refl
times-assoc Contra Co c = refl
times-assoc Contra Contra Co = refl
times-assoc Contra Contra Contra = refl

pub variance_of_word-append : (u w : List Label) → variance_of_word (u ++ w) ≡ times (variance_of_word u) (variance_of_word w)
variance_of_word-append [] w = refl
variance_of_word-append (l ∷ u) w =
    ap (times (label_variance l)) (variance_of_word-append u w) ∙ sym (times-assoc (label_variance l) (variance_of_word u) (variance_of_word w))

pub variance_of_word-take : (w : List Label) (k : ℕ) (d : Label) → k < length w → variance_of_word (take (k + 1) w) ≡ times (variance_of_word (take k w)) (label_variance (get_or w k d))
variance_of_word-take w k d h =
    let one : times (label_variance (get_or w k d)) Co ≡ label_variance (get_or w k d) = times-co (label_variance (get_or w k d)) in
    rw (add-one k, take-suc w k d h, variance_of_word-append (take k w) (get_or w k d ∷ []), one) refl

-- a turn of the loop that multiplies signs
pub variance_of_word-step : (w : List Label) (k : ℕ) (d : Label) (v s : Variance) → s ≡ label_variance (get_or w k d) → v ≡ variance_of_word (take k w) → k < length w → times v s ≡ variance_of_word (take (k + 1) w)
variance_of_word-step w k d v s e f h = rw (e, f, variance_of_word-take w k d h) refl
