-- A tree whose nodes stand for the states of a machine has its words and marks.
use Rattle.std.proofs.Common.{◌≡◌, ℕ, ◌<◌, Option, Some, None, List, [], ◌∷◌, length, refl, ap, ◌∙◌}
use Rattle.std.specs.List.{slice_get}
use Rattle.std.specs.Option.{option_map, option_and_then}
use Rattle.std.proofs.lemmas.Option.{slice_get-get_or}
use Rattle.rt_lines.specs.declared.label.Label.{Label}
use Rattle.rt_tree.specs.Trees.{Nodes, IsTree, leaf, step_of, walk, marks_of, marks_from}
use Rattle.rt_tree.specs.Laws.{run, StandFor}
use Rattle.rt_tree.proofs.Words.{AreNodes, step_in}

-- one step of the tree and one of the machine
stepped : {S : Type 0} (step : S → Label → Option S) (mark : S → ℕ × ℕ) (state : ℕ → S) (tree : Nodes) (w : List Label) (o : Option ℕ) → ((m : ℕ) → o ≡ Some m → marks_from tree m w ≡ run step mark (state m) w) → option_and_then (λ k. option_map marks_of (slice_get tree k)) (option_and_then (λ m. walk tree m w) o) ≡ option_and_then (λ t. run step mark t w) (option_map state o)
stepped step mark state tree w None rest = refl
stepped step mark state tree w (Some m) rest = rest m refl

pub unfolds_from : {S : Type 0} (step : S → Label → Option S) (mark : S → ℕ × ℕ) (state : ℕ → S) (tree : Nodes) → AreNodes tree → StandFor step mark state tree → (n : ℕ) → n < length tree → (w : List Label) → marks_from tree n w ≡ run step mark (state n) w
unfolds_from step mark state tree good stands n less [] = ap (option_map marks_of) (slice_get-get_or tree n (leaf 0 0) less) ∙ ap Some (stands.marks n less)
unfolds_from step mark state tree good stands n less (l ∷ w) =
    stepped step mark state tree w (step_of tree n l) (λ m e. unfolds_from step mark state tree good stands m (step_in tree good n m l e) w)
    ∙ ap (option_and_then (λ t. run step mark t w)) (stands.steps n less l)

pub unfolds : {S : Type 0} (step : S → Label → Option S) (mark : S → ℕ × ℕ) (state : ℕ → S) (tree : Nodes) → IsTree tree → StandFor step mark state tree → (w : List Label) → marks_from tree 0 w ≡ run step mark (state 0) w
unfolds step mark state tree good stands w = unfolds_from step mark state tree good.nodes stands 0 good.rooted w
