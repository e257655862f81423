-- Texts of words of several parts.
use Rattle.std.proofs.Common.{◌≡◌, ℕ, ◌+◌, ◌<◌, List, [], ◌∷◌, ◌++◌, length, take, get_or, refl, append_assoc, append-nil, add-one}
use Rattle.std.proofs.Math.Seq.{take-suc}
use Rattle.rt_lines.specs.declared.label.Label.{Label}
use Rattle.rt_texts.specs.Texts.{label_text, word_text}

pub word_text-append : (u w : List Label) → word_text (u ++ w) ≡ word_text u ++ word_text w
word_text-append [] w = refl
word_text-append (l ∷ u) w = rw (word_text-append u w, append_assoc) refl

-- a letter more at the end
pub word_text-take : (w : List Label) (k : ℕ) (d : Label) → k < length w → word_text (take (k + 1) w) ≡ word_text (take k w) ++ 46 ∷ label_text (get_or w k d)
word_text-take w k d h = rw (add-one k, take-suc w k d h, word_text-append (take k w) (get_or w k d ∷ []), append-nil) refl

-- a turn of the loop that prints a word
pub word_text-step : (w : List Label) (k : ℕ) (d : Label) (start out dotted after : List ℕ) → after ≡ dotted ++ label_text (get_or w k d) → dotted ≡ out ++ 46 ∷ [] → out ≡ start ++ word_text (take k w) → k < length w → after ≡ start ++ word_text (take (k + 1) w)
word_text-step w k d start out dotted after last dot e h = rw (last, dot, e, word_text-take w k d h) (simp append_assoc)
