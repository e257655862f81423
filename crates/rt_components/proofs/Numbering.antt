-- The classes that a walk has found.
use Rattle.std.proofs.Common.{◌≡◌, ◌≢◌, ℕ, ◌<◌, ◌≤◌, ◌⊎◌, ◌↔◌, inl, inr, List, [], length, slice_index, get_or, refl, sym, ap, ◌∙◌, arith}
use Rattle.std.proofs.lemmas.Bool.{cases_lt}
use Rattle.std.proofs.lemmas.List.{get_or_past}
use Rattle.rt_components.specs.declared.walk.State.{State}
use Rattle.rt_components.specs.declared.walk.State.TheVariants.{Unseen, OnPath, InClass}
use Rattle.rt_components.specs.declared.walk.Walk.{Walk}
use Rattle.rt_components.specs.Graphs.{HasEdge}
use Rattle.rt_components.specs.Groups.{AreTogether}
use Rattle.rt_components.specs.Inside.Classes.{AreClasses}
use Rattle.rt_components.specs.Inside.Walks.{state_of, AreWhole, AreInClasses, AreNumbersOf, IsAtRest}
use Rattle.rt_components.proofs.Entering.{unseen_class}

pub class_within : (state : List State) (a g : ℕ) → state_of state a ≡ InClass g → a < length state
class_within state a g e = by (cases_lt a (length state))
  where
    by : (a < length state) ⊎ (length state ≤ a) → a < length state
    by (inl less) = less
    by (inr le) = absurd (unseen_class g (sym (get_or_past state a Unseen le) ∙ e))

-- at rest each node that the walk has come to is in a class
pub all_in : (graph : List (List ℕ)) (w : Walk) (n : ℕ) → IsAtRest graph w → length graph ≤ n → ((a : ℕ) → a < n → state_of w.state.items a ≢ Unseen) → AreInClasses w.state.items
all_in graph w n rest all seen a less = by (state_of w.state.items a) refl
  where
    within : a < n
    within = let each = rest.is_walk.on_path.state_each in omega arith

    by : (s : State) → state_of w.state.items a ≡ s → (g : ℕ) × (state_of w.state.items a ≡ InClass g)
    by Unseen e = absurd (seen a within e)
    by (OnPath i) e = let place : i < length w.path.items = (rest.is_walk.on_path.place_of a i e).0 in let none : length w.path.items ≡ 0 = ap length rest.empty in absurd (omega arith)
    by (InClass g) e = (g, e)

pub are_classes : (graph : List (List ℕ)) (w : Walk) (class : List ℕ) (count : ℕ) → IsAtRest graph w → AreInClasses w.state.items → AreNumbersOf w.state.items class → count ≡ length w.heads.items → AreClasses graph class count
are_classes graph w class count rest are numbers same = record {
  each = numbers.each ∙ rest.is_walk.on_path.state_each;
  within = λ a less. let g = found a less in let low : g.0 < length w.heads.items = (whole.within a g.0 g.1).1 in let is : slice_index class a ≡ g.0 = numbers.same a g.0 g.1 in omega arith;
  some = λ k less. let in_class = whole.some k (omega arith) in (slice_index w.heads.items k, (whole.within (slice_index w.heads.items k) k in_class).0, numbers.same (slice_index w.heads.items k) k in_class);
  together = λ a b less less'. together a b (found a less) (found b less');
  down = λ a b edge. down a b edge (cases_lt a (length graph));
}
  where
    whole : AreWhole graph w.state.items w.heads.items
    whole = rest.is_walk.whole

    found : (a : ℕ) → a < length graph → (g : ℕ) × (state_of w.state.items a ≡ InClass g)
    found a less = are a (let each = rest.is_walk.on_path.state_each in omega arith)

    together : (a b : ℕ) → (g : ℕ) × (state_of w.state.items a ≡ InClass g) → (h : ℕ) × (state_of w.state.items b ≡ InClass h) → (slice_index class a ≡ slice_index class b) ↔ AreTogether (HasEdge graph) a b
    together a b (g, e) (h, f) =
        let one = whole.together a b g h e f in
        let at : slice_index class a ≡ g = numbers.same a g e in
        let to : slice_index class b ≡ h = numbers.same b h f in
        (λ p. one.0 (sym at ∙ p ∙ to), λ p. at ∙ one.1 p ∙ sym to)

    down : (a b : ℕ) → HasEdge graph a b → (a < length graph) ⊎ (length graph ≤ a) → (b < length graph) × (slice_index class b ≤ slice_index class a)
    down a b edge (inl less) =
        let g = found a less in
        let d = whole.down a b g.0 g.1 edge in
        let at : slice_index class a ≡ g.0 = numbers.same a g.0 g.1 in
        let to : slice_index class b ≡ d.0 = numbers.same b d.0 d.1 in
        let low : d.0 ≤ g.0 = d.2 in
        ((whole.within b d.0 d.1).0, omega arith)
    down a b edge (inr le) = let none : 0 ≡ length (get_or graph a []) = sym (ap length (get_or_past graph a [] le)) in let place : edge.0 < length (get_or graph a []) = edge.1 in absurd (omega arith)
