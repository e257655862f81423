-- Lines in the order of their texts.
use Rattle.std.proofs.Common.{◌≡◌, ℕ, ◌+◌, ◌<◌, List, [], ◌∷◌, map, All, length, get_or, sym, ap, ◌∙◌, arith, is_lt, nat_cmp}
use Rattle.std.proofs.lemmas.List.{length-map}
use Rattle.std.specs.Cmp.Lexicographic.{slice_cmp}
use Rattle.std.specs.List.Sorted.{IsSortedBy}
use Rattle.std.proofs.lemmas.List.{get_or-map}
use Rattle.rt_texts.specs.Texts.{line_text}
use Rattle.rt_settle.specs.declared.ordering.Written.{Written}
use Rattle.rt_settle.specs.Sorted.{AreSorted, sort_names}

text_at : (written : List Written) → All (λ w. w.text.items ≡ line_text sort_names w.line) written → (k : ℕ) (d : List ℕ) (e : Written) → k < length written → get_or (map (line_text sort_names) (map (λ w. w.line) written)) k d ≡ (get_or written k e).text.items
text_at written texts k d e lt =
    let g : k < length (map (λ w. w.line) written) = simp length-map lt in
    get_or-map (line_text sort_names) (map (λ w. w.line) written) k e.line d g ∙ ap (line_text sort_names) (get_or-map (λ w. w.line) written k e e.line lt) ∙ sym (texts k e lt)

-- lines whose texts are sorted
pub sorted_texts : (written : List Written) → All (λ w. w.text.items ≡ line_text sort_names w.line) written → IsSortedBy (λ a b. is_lt (slice_cmp nat_cmp a.text.items b.text.items)) written → AreSorted (map (λ w. w.line) written)
sorted_texts [] texts sorted = λ k d low lt. absurd (omega arith)
sorted_texts (w ∷ ws) texts sorted = λ k d low lt.
    let n : length (map (line_text sort_names) (map (λ w. w.line) (w ∷ ws))) ≡ length (w ∷ ws) = simp length-map in
    let lt' : k + 1 < length (w ∷ ws) = omega arith in
    let a = text_at (w ∷ ws) texts (k + 1) d w lt' in
    let b = text_at (w ∷ ws) texts k d w (omega arith) in
    rw (a, b) (sorted k w low lt')
