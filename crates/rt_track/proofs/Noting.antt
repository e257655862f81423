-- For each node those that take its value, input by input.
use Rattle.std.proofs.Common.{◌≡◌, ◌+◌, ◌-◌, ◌<◌, ◌≤◌, ◌⊎◌, inl, inr, ℕ, zero, suc, List, [], ◌∷◌, ◌++◌, length, set, Some, Result, Ok, Err, refl, sym, ap, subst, ◌∙◌, arith}
use Rattle.std.specs.Prelude.{Contains, OnOk, slice_get, slice_index_or}
use Rattle.std.proofs.lemmas.Bool.{cases_lt}
use Rattle.std.proofs.lemmas.List.{get_or_read, get_or_append_left, get_or-append_right, length-set}
use Rattle.std.proofs.lemmas.Option.{slice_get_within}
use Rattle.rt_flow.proofs.Pushed.{pushed, pushed_kept, pushed_here, pushed_cases}
use Rattle.rt_track.specs.declared.nodes.Input.{Input}
use Rattle.rt_track.specs.declared.nodes.Input.TheVariants as input
use Rattle.rt_track.specs.declared.nodes.Node.{Node}
use Rattle.rt_track.specs.Inside.Nodes.{AreReaders, Notes, NotesBoth, NotesNode, Takes}

-- nothing is noted of what is no node's value
pub passed : (old : List (List ℕ)) (x : Input) (reader : ℕ) → ((i : ℕ) → i < length old → x ≡ input.Node i → ⊥) → Notes old x reader old
passed old x reader none = record { each = refl; kept = λ i j c. c; noted = λ i less e. absurd (none i less e); only = λ i j c. inl c }

node_inj : (i k : ℕ) → input.Node i ≡ input.Node k → i ≡ k
node_inj i k e = cc

-- a reader is noted
pub noted_at : (old : List (List ℕ)) (n reader : ℕ) → n < length old → (row row' : List ℕ) → row ≡ slice_index_or old n row → row' ≡ row ++ reader ∷ [] → Notes old (input.Node n) reader (set old n row')
noted_at old n reader less row row' row_is row'_is = subst (Notes old (input.Node n) reader) (ap (set old n) (ap (λ xs. xs ++ reader ∷ []) (sym (get_or_read old n row less row_is [])) ∙ sym row'_is)) (record {
  each = length-set old n (slice_index_or old n [] ++ reader ∷ []);
  kept = λ i j c. pushed_kept old n less reader i j c;
  noted = λ i within e. subst (λ k. Contains (slice_index_or (pushed old n less reader) k []) reader) (node_inj n i e) (pushed_here old n less reader);
  only = λ i j c. only i j (pushed_cases old n less reader i j c);
})
  where
    only : (i j : ℕ) → Contains (slice_index_or old i []) j ⊎ ((i ≡ n) × (reader ≡ j)) → Contains (slice_index_or old i []) j ⊎ (j ≡ reader)
    only i j (inl c) = inl c
    only i j (inr (e, f)) = inr (sym f)

-- of a node with one input, and with two
pub of_none : (old : List (List ℕ)) (n : Node) (reader : ℕ) → ((x : Input) → Takes n x → ⊥) → NotesNode old n reader old
of_none old n reader none = record { each = refl; kept = λ i j c. c; noted = λ i less t. absurd (none (input.Node i) t); only = λ i j c. inl c }

pub of_one : (old new : List (List ℕ)) (n : Node) (x : Input) (reader : ℕ) → ((y : Input) → Takes n y → x ≡ y) → Notes old x reader new → NotesNode old n reader new
of_one old new n x reader one is = record { each = is.each; kept = is.kept; noted = λ i less t. is.noted i less (one (input.Node i) t); only = is.only }

pub of_two : (old mid new : List (List ℕ)) (n : Node) (a b : Input) (reader : ℕ) → ((y : Input) → Takes n y → (a ≡ y) ⊎ (b ≡ y)) → Notes old a reader mid → Notes mid b reader new → NotesNode old n reader new
of_two old mid new n a b reader two first second = record {
  each = second.each ∙ first.each;
  kept = λ i j c. second.kept i j (first.kept i j c);
  noted = λ i less t. noted i less (two (input.Node i) t);
  only = λ i j c. only i j (second.only i j c);
}
  where
    noted : (i : ℕ) → i < length old → (a ≡ input.Node i) ⊎ (b ≡ input.Node i) → Contains (slice_index_or new i []) reader
    noted i less (inl e) = second.kept i reader (first.noted i less e)
    noted i less (inr e) = second.noted i (subst (λ k. i < k) (sym first.each) less) e

    only : (i j : ℕ) → Contains (slice_index_or mid i []) j ⊎ (j ≡ reader) → Contains (slice_index_or old i []) j ⊎ (j ≡ reader)
    only i j (inl c) = first.only i j c
    only i j (inr e) = inr e

pub both_of : {E : Type 0} (result : Result (Unit {0}) E) (old new : List (List ℕ)) (n : Node) (a b : Input) (reader : ℕ) → ((y : Input) → Takes n y → (a ≡ y) ⊎ (b ≡ y)) → OnOk result (NotesBoth old a b reader new) → OnOk result (NotesNode old n reader new)
both_of (Ok x) old new n a b reader two (mid, first, second) = of_two old mid new n a b reader two first second
both_of (Err x) old new n a b reader two t = t

-- the readers among the first nodes, so many
pub record IsNoting (nodes : List Node) (count : ℕ) (readers : List (List ℕ)) : Type 0 where
  pub each : length readers ≡ length nodes
  pub all : (i j : ℕ) (n : Node) → i < length nodes → j < count → slice_get nodes j ≡ Some n → Takes n (input.Node i) → Contains (slice_index_or readers i []) j
  pub within : (i j : ℕ) → Contains (slice_index_or readers i []) j → j < count

pub starts : (nodes : List Node) (readers : List (List ℕ)) → length readers ≡ length nodes → ((i : ℕ) → slice_index_or readers i [] ≡ []) → IsNoting nodes 0 readers
starts nodes readers each empty = record { each = each; all = λ i j n less none. absurd (omega arith); within = λ i j c. within i j (subst (λ xs. Contains xs j) (empty i) c) }
  where
    within : (i j : ℕ) → Contains [] j → j < 0
    within i j (k, less, e) = absurd (omega arith)

pub goes_on : (nodes : List Node) (count : ℕ) (old new : List (List ℕ)) (n : Node) → slice_get nodes count ≡ Some n → IsNoting nodes count old → NotesNode old n count new → IsNoting nodes (count + 1) new
goes_on nodes count old new n at is notes = record {
  each = notes.each ∙ is.each;
  all = λ i j m less under at_j takes. all i j m less under at_j takes (cases_lt j count);
  within = λ i j c. within i j (notes.only i j c);
}
  where
    same : (m : Node) → slice_get nodes count ≡ Some m → m ≡ n
    same m e = let f : Some m ≡ Some n = sym e ∙ at in cc

    all : (i j : ℕ) (m : Node) → i < length nodes → j < count + 1 → slice_get nodes j ≡ Some m → Takes m (input.Node i) → (j < count) ⊎ (count ≤ j) → Contains (slice_index_or new i []) j
    all i j m less under at_j takes (inl h) = notes.kept i j (is.all i j m less h at_j takes)
    all i j m less under at_j takes (inr h) =
        let e : count ≡ j = omega arith in
        let t : Takes n (input.Node i) = subst (λ x. Takes x (input.Node i)) (same m (subst (λ k. slice_get nodes k ≡ Some m) (sym e) at_j)) takes in
        subst (Contains (slice_index_or new i [])) e (notes.noted i (subst (λ k. i < k) (sym is.each) less) t)

    within : (i j : ℕ) → Contains (slice_index_or old i []) j ⊎ (j ≡ count) → j < count + 1
    within i j (inl c) = let h = is.within i j c in omega arith
    within i j (inr e) = omega arith

pub ends : (nodes : List Node) (count : ℕ) (readers : List (List ℕ)) → length nodes ≤ count → count ≤ length nodes → IsNoting nodes count readers → AreReaders nodes readers
ends nodes count readers le ge is = record {
  each = is.each;
  all = λ i j n less at takes. is.all i j n less (let h = slice_get_within nodes j n at in omega arith) at takes;
  within = λ i j c. let h = is.within i j c in omega arith;
}

empty_in : (k : ℕ) → ◌≡◌ {A = List ℕ} (slice_index_or ([] ∷ []) k []) []
empty_in zero = refl
empty_in (suc k) = refl

-- one more empty list
pub still_empty : (lists lists' : List (List ℕ)) → lists' ≡ lists ++ [] ∷ [] → ((i : ℕ) → slice_index_or lists i [] ≡ []) → (i : ℕ) → slice_index_or lists' i [] ≡ []
still_empty lists lists' e empty i = ap (λ (xs : List (List ℕ)). slice_index_or xs i []) e ∙ by (cases_lt i (length lists))
  where
    by : (i < length lists) ⊎ (length lists ≤ i) → slice_index_or (lists ++ [] ∷ []) i [] ≡ []
    by (inl h) = get_or_append_left lists ([] ∷ []) [] i h ∙ empty i
    by (inr h) = get_or-append_right lists ([] ∷ []) (length lists) i [] refl h ∙ empty_in (i - length lists)
