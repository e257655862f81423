-- Trees of states when steps are taken.
use Rattle.std.proofs.Common.{◌≡◌, ℕ, zero, suc, ◌⊎◌, inl, inr, ◌+◌, ◌<◌, ◌≤◌, Bool, true, false, Option, Some, None, MatchOption, List, [], ◌∷◌, ◌++◌, length, refl, sym, ap, subst, ◌∙◌, arith, length-append}
use Rattle.std.specs.List.{slice_get, list_any}
use Rattle.std.proofs.lemmas.Option.{slice_get_within}
use Rattle.indexmap.specs.IndexSet.{insert_key}
use Rattle.rt_base.proofs.Lists.{Contains-none}
use Rattle.rt_lines.specs.declared.label.Label.{Label}
use Rattle.rt_lines.specs.declared.variable.Dtv.{Dtv}
use Rattle.rt_lines.specs.declared.line.Line.{Line}
use Rattle.rt_lines.specs.declared.line.Line.TheVariants.{Var}
use Rattle.rt_lines.specs.Orders.{Below}
use Rattle.rt_rules.specs.Rules.{longer, Derivable}
use Rattle.rt_tree.specs.Trees.{Nodes, node_at, marks_of, step_of, joined, grown, leaf}
use Rattle.rt_sketch.specs.declared.machine.Machine.{Machine}
use Rattle.rt_sketch.specs.declared.state.State.{State}
use Rattle.rt_sketch.specs.Growths.{AreAlike, HasMarks, IsMarkedBy, IsMore, IsOnWay, IsStep, IsTaken, LeadsFrom}
use Rattle.rt_sketch.specs.Sketches.{AreMarks}
use Rattle.rt_sketch.specs.States.{AreSetsOf, Denotes, LeadsTo}
use Rattle.rt_sketch.proofs.Edging.{joined_other, joined_marks, grown_same, grown_other, grown_marks, grown_new, grown_length}
use Rattle.rt_tree.proofs.Reaching.{joined_length, new_step}
use Rattle.rt_base.proofs.Options.{one_some}
use Rattle.std.proofs.lemmas.Map.Keys.{any_passes_from_place}

-- what stands in a list with one more
push_cases : (xs : List State) (y : State) (n : ℕ) (s : State) → slice_get (xs ++ y ∷ []) n ≡ Some s → ((n < length xs) × (slice_get xs n ≡ Some s)) ⊎ ((n ≡ length xs) × (s ≡ y))
push_cases [] y zero s e = inr (refl, let f : y ≡ s = cc in sym f)
push_cases [] y (suc n) s e = cc
push_cases (x ∷ xs) y zero s e = inl (omega arith, e)
push_cases (x ∷ xs) y (suc n) s e = elim (push_cases xs y n s e) [ inl h ↦ inl (let less = h.0 in omega arith, h.1) | inr h ↦ inr (ap suc h.0, h.1) ]

push_front : (xs : List State) (y : State) (n : ℕ) (s : State) → slice_get xs n ≡ Some s → slice_get (xs ++ y ∷ []) n ≡ Some s
push_front [] y n s e = cc
push_front (x ∷ xs) y zero s e = e
push_front (x ∷ xs) y (suc n) s e = push_front xs y n s e

push_last : (xs : List State) (y : State) → slice_get (xs ++ y ∷ []) (length xs) ≡ Some y
push_last [] y = refl
push_last (x ∷ xs) y = push_last xs y

module _ (eq : State → State → Bool) (keys after : List State) (next k : State) (to : ℕ) (is : after ≡ insert_key eq keys next) (stored : slice_get after to ≡ Some k) (same : eq next k ≡ true) where
  -- a number below the count is that of a state that stood
  pub stood : to < length keys → after ≡ keys
  stood less = by (list_any (eq next) keys) refl
    where
      by : (b : Bool) → list_any (eq next) keys ≡ b → after ≡ keys
      by true e = is ∙ (rw e refl)
      by false e =
          let pushed : after ≡ keys ++ next ∷ [] = is ∙ (rw e refl) in
          elim (push_cases keys next to k (subst (λ xs. slice_get xs to ≡ Some k) pushed stored)) [
            | inl h ↦ absurd (let u : list_any (eq next) keys ≡ true = any_passes_from_place (eq next) keys to k h.1 same in let v : true ≡ false = sym u ∙ e in cc)
            | inr h ↦ absurd (let f = h.0 in omega arith)
          ]

  -- any other one is that of a new state
  pub pushed : length keys ≤ to → after ≡ keys ++ next ∷ []
  pushed past = by (list_any (eq next) keys) refl
    where
      by : (b : Bool) → list_any (eq next) keys ≡ b → after ≡ keys ++ next ∷ []
      by false e = is ∙ (rw e refl)
      by true e =
          let there : after ≡ keys = is ∙ (rw e refl) in
          let within : to < length keys = slice_get_within keys to k (subst (λ xs. slice_get xs to ≡ Some k) there stored) in
          absurd (omega arith)

module _ (keys : List State) (tree : Nodes) (from : ℕ) (l : Label) (each : length tree ≡ length keys) (less : from < length tree) where
  pub more_joined : (to : ℕ) (after : List State) (new : Nodes) → after ≡ keys → new ≡ joined tree from l to → IsMore from l keys tree after new
  more_joined to after new a t =
      let n : length new ≡ length tree = ap length t ∙ joined_length tree from l to in record {
        each = n ∙ (each ∙ sym (ap length a));
        long = omega arith;
        kept = λ n s e. subst (λ xs. slice_get xs n ≡ Some s) (sym a) e;
        others = λ n k apart. ap (λ (u : Nodes). step_of u n k) t ∙ joined_other tree from l to less n k apart;
      }

  pub marks_joined : (to : ℕ) (next : State) (marks : ℕ × ℕ) (after : List State) (new : Nodes) → after ≡ keys → new ≡ joined tree from l to → IsMarkedBy next marks keys tree after new
  marks_joined to next marks after new a t n s e =
      inl (subst (λ xs. slice_get xs n ≡ Some s) a e, ap (λ (u : Nodes). marks_of (node_at u n)) t ∙ joined_marks tree from l to less n)

  pub more_grown : (next : State) (low up : ℕ) (after : List State) (new : Nodes) → after ≡ keys ++ next ∷ [] → new ≡ grown tree from l low up → IsMore from l keys tree after new
  more_grown next low up after new a t =
      let n : length new ≡ length tree + 1 = ap length t ∙ grown_length tree from l low up in
      let m : length after ≡ length keys + 1 = ap length a ∙ length-append keys (next ∷ []) in record {
        each = omega arith;
        long = omega arith;
        kept = λ n s e. subst (λ xs. slice_get xs n ≡ Some s) (sym a) (push_front keys next n s e);
        others = λ n k apart. ap (λ (u : Nodes). step_of u n k) t ∙ grown_other tree from l low up less n k apart;
      }

  pub marks_grown : (next : State) (low up : ℕ) (after : List State) (new : Nodes) → after ≡ keys ++ next ∷ [] → new ≡ grown tree from l low up → IsMarkedBy next (low, up) keys tree after new
  marks_grown next low up after new a t n s e = elim (push_cases keys next n s (subst (λ xs. slice_get xs n ≡ Some s) a e)) [
    | inl h ↦ inl (h.1, ap (λ (u : Nodes). marks_of (node_at u n)) t ∙ grown_marks tree from l low up less n (let f = h.0 in omega arith))
    | inr h ↦ inr (h.1, ap (λ (u : Nodes). marks_of (node_at u n)) t ∙ (ap (λ (i : ℕ). marks_of (node_at (grown tree from l low up) i)) (h.0 ∙ sym each) ∙ grown_new tree from l low up less))
  ]

itself : (s : State) → AreAlike s s
itself s = record { node = refl; class = refl; below = refl; above = refl }

pub leads_joined : (keys : List State) (tree : Nodes) (from : ℕ) (l : Label) → from < length tree → step_of tree from l ≡ None →
    (to : ℕ) (next k : State) (after : List State) (new : Nodes) → slice_get after to ≡ Some k → AreAlike next k → new ≡ joined tree from l to → LeadsFrom from l next after new
leads_joined keys tree from l less none to next k after new stored alike t = (to, k, ap (λ (u : Nodes). step_of u from l) t ∙ new_step tree from l to less none, stored, alike)

pub leads_grown : (keys : List State) (tree : Nodes) (from : ℕ) (l : Label) → length tree ≡ length keys → from < length tree → step_of tree from l ≡ None →
    (next : State) (low up : ℕ) (after : List State) (new : Nodes) → after ≡ keys ++ next ∷ [] → new ≡ grown tree from l low up → LeadsFrom from l next after new
leads_grown keys tree from l each less none next low up after new a t =
    (length tree, next, ap (λ (u : Nodes). step_of u from l) t ∙ grown_same tree from l low up less none, subst (λ xs. slice_get xs (length tree) ≡ Some next) (sym a) (ap (slice_get (keys ++ next ∷ [])) each ∙ push_last keys next), itself next)

-- nothing is more
pub none_more : (from : ℕ) (l : Label) (keys : List State) (tree : Nodes) → length tree ≡ length keys → IsMore from l keys tree keys tree
none_more from l keys tree each = record { each = each; long = omega arith; kept = λ n s e. e; others = λ n k apart. refl }

module _ (lines : List Line) (machine : Machine) where
  denotes_alike : (s t : State) (x : Dtv) → AreAlike s t → Denotes lines machine s x → Denotes lines machine t x
  denotes_alike s t x a d = record {
    node = d.node ∙ ap Some a.node;
    sets = subst (λ (ns : List ℕ). AreSetsOf lines machine.ways t.class t.below.items ns x) a.above
        (subst (λ (ns : List ℕ). AreSetsOf lines machine.ways t.class ns s.above.items x) a.below
        (subst (λ (c : Option ℕ). AreSetsOf lines machine.ways c s.below.items s.above.items x) a.class d.sets));
  }

  pub step_taken : (keys after : List State) (new : Nodes) (from : ℕ) (l : Label) (state next : State) → ((n : ℕ) (s : State) → slice_get keys n ≡ Some s → slice_get after n ≡ Some s) →
      slice_get keys from ≡ Some state → LeadsTo lines machine state l (Some next) → LeadsFrom from l next after new → IsStep lines machine after new from l
  step_taken keys after new from l state next kept is leads to s x e d =
      let same : state ≡ s = one_some (slice_get after from) state s (kept from state is) e in
      subst (λ o. MatchOption o ((order : Below) → Derivable order lines (Var (longer x l)) → ⊥) (λ m. (t : State) × (slice_get after m ≡ Some t) × Denotes lines machine t (longer x l))) (sym to.2)
      (to.1, to.3, denotes_alike next to.1 (longer x l) to.4 (leads x (subst (λ (u : State). Denotes lines machine u x) (sym same) d)))

  pub step_missing : (keys : List State) (tree : Nodes) (from : ℕ) (l : Label) (state : State) → slice_get keys from ≡ Some state → step_of tree from l ≡ None → LeadsTo lines machine state l None → IsStep lines machine keys tree from l
  step_missing keys tree from l state is none leads s x e d =
      let same : state ≡ s = one_some (slice_get keys from) state s is e in
      subst (λ o. MatchOption o ((order : Below) → Derivable order lines (Var (longer x l)) → ⊥) (λ m. (t : State) × (slice_get keys m ≡ Some t) × Denotes lines machine t (longer x l))) (sym none)
      (leads x (subst (λ (u : State). Denotes lines machine u x) (sym same) d))

  pub marks_next : (order : Below) (keys : List State) (tree : Nodes) (after : List State) (new : Nodes) (next : State) (marks : ℕ × ℕ) → IsMarkedBy next marks keys tree after new →
      ((x : Dtv) → Denotes lines machine next x → AreMarks order lines x marks) → HasMarks order lines machine keys tree → HasMarks order lines machine after new
  marks_next order keys tree after new next marks marked has was n s x e d = elim (marked n s e) [
    | inl h ↦ subst (AreMarks order lines x) (sym h.1) (was n s x h.0 d)
    | inr h ↦ subst (AreMarks order lines x) (sym h.1) (has x (subst (λ (t : State). Denotes lines machine t x) h.0 d))
  ]

  pub begun : (order : Below) (first : State) (tree : Nodes) (keys : List State) (low up : ℕ) → keys ≡ first ∷ [] → tree ≡ leaf low up ∷ [] →
      ((x : Dtv) → Denotes lines machine first x → AreMarks order lines x (low, up)) → IsOnWay order lines machine 0 [] keys tree
  begun order first tree keys low up k t has = record { marks = marks; steps = steps }
    where
      steps : (n : ℕ) (l : Label) → IsTaken 0 [] n l → IsStep lines machine keys tree n l
      steps n l (inl less) = absurd (omega arith)
      steps n l (inr h) = absurd (Contains-none l h.1)

      alone : (n : ℕ) (s : State) → slice_get (first ∷ []) n ≡ Some s → (n ≡ 0) × (s ≡ first)
      alone zero s e = (refl, let f : first ≡ s = cc in sym f)
      alone (suc n) s e = cc

      marks : HasMarks order lines machine keys tree
      marks n s x e d =
          let here : (n ≡ 0) × (s ≡ first) = alone n s (subst (λ xs. slice_get xs n ≡ Some s) k e) in
          subst (λ (i : ℕ). AreMarks order lines x (marks_of (node_at tree i))) (sym here.0)
          (subst (λ (u : Nodes). AreMarks order lines x (marks_of (node_at u 0))) (sym t) (has x (subst (λ (v : State). Denotes lines machine v x) here.1 d)))
