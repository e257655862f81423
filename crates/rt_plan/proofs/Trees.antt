-- Trees of least numbers: what a write keeps, and that the first node is the least.
use Rattle.std.proofs.Common.{◌≡◌, ◌≢◌, ℕ, zero, suc, ◌+◌, ◌*◌, ◌/◌, ◌-◌, ◌<◌, ◌≤◌, nat_lt, ◌==◌, ◌⊎◌, inl, inr, Bool, true, false, cond, Option, Some, None, List, length, get_or, set, replicate, refl, sym, ap, subst, ◌∙◌, arith}
use Rattle.std.specs.Prelude.{find}
use Rattle.std.proofs.lemmas.List.{length-set, get_or-set_same, get_or-set_other, length-replicate, get_or-replicate}
use Rattle.std.proofs.lemmas.Bool.{cases_eq, cases_lt}
use Rattle.std.proofs.lemmas.Bool.Decides.{nat_tests}
use Rattle.rt_base.specs.First.{entries}
use Rattle.rt_plan.specs.Inside.Leasts.{IsTree, IsTreeBut, has, leaf_of, least_of, lesser, node_at}

-- Reads after a write.
module _ {X : Type 0} (xs : List X) (i : ℕ) (x d : X) where
  pub here : i < length xs → get_or (set xs i x) i d ≡ x
  here h = get_or-set_same xs i x d h

  pub elsewhere : (j : ℕ) → j ≢ i → get_or (set xs i x) j d ≡ get_or xs j d
  elsewhere j other = get_or-set_other xs i j x d other

-- the leaf of a number is written: only the node above it may be wrong
pub write_leaf : (members : List Bool) (tree : List (Option ℕ)) (k : ℕ) (member : Bool) → IsTree members tree → k < length members → IsTreeBut (set members k member) (set tree (length members + k) (leaf_of member k)) ((length members + k) / 2)
write_leaf members tree k member is h =
    let n : length (set members k member) ≡ length members = length-set members k member in
    let place = length members + k in
    let value = leaf_of member k in
    let same = λ (j : ℕ) (other : j ≢ place). elsewhere tree place value None j other in
    record {
      room = length-set tree place value ∙ (is.room ∙ ap (λ m. 2 * m) (sym n));
      inner = λ i low high other.
          same i (omega arith) ∙ (is.inner i low (omega arith) (omega arith) ∙ sym (ap (lesser (node_at (set tree place value) (2 * i))) (same (2 * i + 1) (omega arith)) ∙ ap (λ a. lesser a (node_at tree (2 * i + 1))) (same (2 * i) (omega arith))));
      leaves = λ j low. leaf j (omega arith) (cases_eq j k);
    }
  where
    leaf : (j : ℕ) → j < length members → (j ≡ k) ⊎ (j ≢ k) → node_at (set tree (length members + k) (leaf_of member k)) (length (set members k member) + j) ≡ leaf_of (has (set members k member) j) j
    leaf j low which =
        let n : length (set members k member) ≡ length members = length-set members k member in
        rw n (elim which [
          | inl e ↦ rw e (here tree (length members + k) (leaf_of member k) None (let room = is.room in omega arith) ∙ ap (λ b. leaf_of b k) (sym (here members k member false h)))
          | inr other ↦ elsewhere tree (length members + k) (leaf_of member k) None (length members + j) (omega arith) ∙ (is.leaves j low ∙ ap (λ b. leaf_of b j) (sym (elsewhere members k member false j other)))
        ])

-- a node is written: then only the one above it may be wrong
pub write_node : (members : List Bool) (tree : List (Option ℕ)) (place : ℕ) → IsTreeBut members tree place → 1 ≤ place → place < length members → IsTreeBut members (set tree place (lesser (node_at tree (2 * place)) (node_at tree (2 * place + 1)))) (place / 2)
write_node members tree place is low high =
    let value = lesser (node_at tree (2 * place)) (node_at tree (2 * place + 1)) in
    let same = λ (j : ℕ) (other : j ≢ place). elsewhere tree place value None j other in
    record {
      room = length-set tree place value ∙ is.room;
      inner = λ i l h other. node i l h other (cases_eq i place);
      leaves = λ k l. same (length members + k) (omega arith) ∙ is.leaves k l;
    }
  where
    node : (i : ℕ) → 1 ≤ i → i < length members → i ≢ place / 2 → (i ≡ place) ⊎ (i ≢ place) → node_at (set tree place (lesser (node_at tree (2 * place)) (node_at tree (2 * place + 1)))) i ≡ lesser (node_at (set tree place (lesser (node_at tree (2 * place)) (node_at tree (2 * place + 1)))) (2 * i)) (node_at (set tree place (lesser (node_at tree (2 * place)) (node_at tree (2 * place + 1)))) (2 * i + 1))
    node i l h other which =
        let value = lesser (node_at tree (2 * place)) (node_at tree (2 * place + 1)) in
        let same = λ (j : ℕ) (apart : j ≢ place). elsewhere tree place value None j apart in
        let left : node_at (set tree place value) (2 * i) ≡ node_at tree (2 * i) = same (2 * i) (omega arith) in
        let right : node_at (set tree place value) (2 * i + 1) ≡ node_at tree (2 * i + 1) = same (2 * i + 1) (omega arith) in
        rw (left, right) (elim which [
          | inl e ↦ rw e (here tree place value None (let room = is.room in omega arith))
          | inr apart ↦ same i apart ∙ is.inner i l h apart
        ])

-- what isn't none is some
pub positive : (n : ℕ) → (n == 0) ≡ false → 0 < n
positive n e = grind arith

-- none of so many numbers
pub none_tree : (count : ℕ) → IsTree (replicate count false) (replicate (2 * count) None)
none_tree count =
    let n : length (replicate count false) ≡ count = length-replicate count false in
    record {
      room = length-replicate {A = Option ℕ} (2 * count) None ∙ ap (λ m. 2 * m) (sym n);
      inner = λ i low high other.
          let within : i < count = omega arith in
          rw (get_or-replicate {A = Option ℕ} (2 * count) i None None (omega arith), get_or-replicate {A = Option ℕ} (2 * count) (2 * i) None None (omega arith), get_or-replicate {A = Option ℕ} (2 * count) (2 * i + 1) None None (omega arith)) refl;
      leaves = λ k low.
          let within : k < count = omega arith in
          rw (n, get_or-replicate {A = Option ℕ} (2 * count) (count + k) None None (omega arith), get_or-replicate count k false false within) refl;
    }

-- what is found among numbers in a row: the first that passes
pub find_some : (p : ℕ → Bool) (i n k : ℕ) → i ≤ k → k < i + n → p k ≡ true → ((j : ℕ) → i ≤ j → j < k → p j ≡ false) → find p (entries (λ j. j) i n) ≡ Some k
find_some p i zero k low high pass before = absurd (omega arith)
find_some p i (suc n) k low high pass before = elim (cases_eq i k) [
  | inl e ↦ rw (e, pass) refl
  | inr other ↦ rw (before i (omega arith) (omega arith)) (find_some p (i + 1) n k (omega arith) (omega arith) pass (λ j l h. before j (omega arith) h))
]

pub find_none : (p : ℕ → Bool) (i n : ℕ) → ((j : ℕ) → i ≤ j → j < i + n → p j ≡ false) → find p (entries (λ j. j) i n) ≡ None
find_none p i zero fails = refl
find_none p i (suc n) fails = rw (fails i (omega arith) (omega arith)) (find_none p (i + 1) n (λ j l h. fails j (omega arith) (omega arith)))

-- two tests that agree on the numbers find the same
pub find_same : (p q : ℕ → Bool) (i n : ℕ) → ((j : ℕ) → i ≤ j → j < i + n → p j ≡ q j) → find p (entries (λ j. j) i n) ≡ find q (entries (λ j. j) i n)
find_same p q i zero same = refl
find_same p q i (suc n) same = rw (same i (omega arith) (omega arith), find_same p q (i + 1) n (λ j l h. same j (omega arith) (omega arith))) refl

-- what is found passes, and none before it does
pub record IsFirst (p : ℕ → Bool) (i n k : ℕ) : Type 0 where
  pub low : i ≤ k
  pub high : k < i + n
  pub passes : p k ≡ true
  pub before : (j : ℕ) → i ≤ j → j < k → p j ≡ false

pub found : (p : ℕ → Bool) (i n k : ℕ) → find p (entries (λ j. j) i n) ≡ Some k → IsFirst p i n k
found p i zero k e = cc
found p i (suc n) k e = by (p i) refl e (found p (i + 1) n k)
  where
    by : (b : Bool) → p i ≡ b → cond b (Some i) (find p (entries (λ j. j) (i + 1) n)) ≡ Some k → (find p (entries (λ j. j) (i + 1) n) ≡ Some k → IsFirst p (i + 1) n k) → IsFirst p i (suc n) k
    by true pass e rest =
        let same : i ≡ k = cc in
        record { low = omega arith; high = omega arith; passes = subst (λ j. p j ≡ true) same pass; before = λ j l h. absurd (omega arith) }
    by false fail e rest =
        let later = rest e in
        record {
          low = let l = later.low in omega arith;
          high = let h = later.high in omega arith;
          passes = later.passes;
          before = λ j l h. elim (cases_eq j i) [
            | inl same ↦ subst (λ m. p m ≡ false) (sym same) fail
            | inr other ↦ later.before j (omega arith) h
          ];
        }

pub found_none : (p : ℕ → Bool) (i n : ℕ) → find p (entries (λ j. j) i n) ≡ None → (j : ℕ) → i ≤ j → j < i + n → p j ≡ false
found_none p i zero e j l h = absurd (omega arith)
found_none p i (suc n) e j l h = by (p i) refl e (found_none p (i + 1) n)
  where
    by : (b : Bool) → p i ≡ b → cond b (Some i) (find p (entries (λ j. j) (i + 1) n)) ≡ None → (find p (entries (λ j. j) (i + 1) n) ≡ None → (m : ℕ) → i + 1 ≤ m → m < i + 1 + n → p m ≡ false) → p j ≡ false
    by true pass e rest = cc
    by false fail e rest = elim (cases_eq j i) [
      | inl same ↦ subst (λ m. p m ≡ false) (sym same) fail
      | inr other ↦ rest e j (omega arith) (omega arith)
    ]

-- a number that there is, and no greater than another
abbrev pub IsAtMost : ℕ → Option ℕ → Type 0
IsAtMost k o = (j : ℕ) × (o ≡ Some j) × (j ≤ k)

pub lesser_left : (a b : Option ℕ) (k : ℕ) → IsAtMost k a → IsAtMost k (lesser a b)
lesser_left None b k h = let e = h.1 in cc
lesser_left (Some a) None k h = h
lesser_left (Some a) (Some b) k h = by (nat_lt b a) refl
  where
    by : (t : Bool) → nat_lt b a ≡ t → IsAtMost k (cond t (Some b) (Some a))
    by true e =
        let same : a ≡ h.0 = let is = h.1 in cc in
        let le = h.2 in
        let less : b < a = grind (arith, nat_tests) in
        (b, refl, omega arith)
    by false e = h

pub lesser_right : (a b : Option ℕ) (k : ℕ) → IsAtMost k b → IsAtMost k (lesser a b)
lesser_right None b k h = h
lesser_right (Some a) None k h = let e = h.1 in cc
lesser_right (Some a) (Some b) k h = by (nat_lt b a) refl
  where
    by : (t : Bool) → nat_lt b a ≡ t → IsAtMost k (cond t (Some b) (Some a))
    by true e = h
    by false e =
        let same : b ≡ h.0 = let is = h.1 in cc in
        let le = h.2 in
        let less : a ≤ b = grind (arith, nat_tests) in
        (a, refl, omega arith)

-- one of two is the lesser
pub lesser_either : (a b : Option ℕ) (k : ℕ) → lesser a b ≡ Some k → (a ≡ Some k) ⊎ (b ≡ Some k)
lesser_either None b k e = inr e
lesser_either (Some a) None k e = inl e
lesser_either (Some a) (Some b) k e = by (nat_lt b a) e
  where
    by : (t : Bool) → cond t (Some b) (Some a) ≡ Some k → (Some a ≡ Some k) ⊎ (Some b ≡ Some k)
    by true e = inr e
    by false e = inl e

-- What the nodes of a tree say.
module _ (members : List Bool) (tree : List (Option ℕ)) (is : IsTree members tree) where
  -- a node names one of the numbers
  named : (fuel i k : ℕ) → 1 ≤ i → i < 2 * length members → 2 * length members ≤ i + fuel → node_at tree i ≡ Some k → (k < length members) × (has members k ≡ true)
  named zero i k low high enough e = absurd (omega arith)
  named (suc fuel) i k low high enough e = elim (cases_lt i (length members)) [
    | inl inside ↦ elim (lesser_either (node_at tree (2 * i)) (node_at tree (2 * i + 1)) k (sym (is.inner i low inside (omega arith)) ∙ e)) [
      | inl left ↦ named fuel (2 * i) k (omega arith) (omega arith) (omega arith) left
      | inr right ↦ named fuel (2 * i + 1) k (omega arith) (omega arith) (omega arith) right
    ]
    | inr outside ↦ at_leaf (i - length members) (omega arith) (omega arith)
  ]
    where
      at_leaf : (j : ℕ) → i ≡ length members + j → j < length members → (k < length members) × (has members k ≡ true)
      at_leaf j place within = by (has members j) refl
        where
          leaf : (b : Bool) → has members j ≡ b → leaf_of b j ≡ Some k
          leaf b q = ap (λ t. leaf_of t j) (sym q) ∙ (sym (is.leaves j within) ∙ (ap (node_at tree) (sym place) ∙ e))

          by : (b : Bool) → has members j ≡ b → (k < length members) × (has members k ≡ true)
          by true q =
              let l : Some j ≡ Some k = leaf true q in
              let same : j ≡ k = cc in
              (omega arith, subst (λ m. has members m ≡ true) same q)
          by false q = let l : None ≡ Some k = leaf false q in cc

  -- the first node is no greater than any
  risen : (fuel i k : ℕ) → 1 ≤ i → i ≤ fuel → i < 2 * length members → IsAtMost k (node_at tree i) → IsAtMost k (node_at tree 1)
  risen zero i k low enough high h = absurd (omega arith)
  risen (suc fuel) i k low enough high h = elim (cases_eq i 1) [
    | inl e ↦ subst (λ j. IsAtMost k (node_at tree j)) e h
    | inr other ↦ up (i / 2) (i - 2 * (i / 2)) (omega arith) (omega arith) (omega (arith, low, other)) (λ above. risen fuel above k)
  ]
    where
      up : (above rest : ℕ) → i ≡ 2 * above + rest → rest < 2 → 1 < i → ((j : ℕ) → 1 ≤ j → j ≤ fuel → j < 2 * length members → IsAtMost k (node_at tree j) → IsAtMost k (node_at tree 1)) → IsAtMost k (node_at tree 1)
      up above zero e less more go =
          let left : i ≡ 2 * above = omega arith in
          go above (omega arith) (omega arith) (omega arith) (rw (is.inner above (omega arith) (omega arith) (omega arith)) (lesser_left (node_at tree (2 * above)) (node_at tree (2 * above + 1)) k (subst (λ j. IsAtMost k (node_at tree j)) left h)))
      up above (suc zero) e less more go =
          let right : i ≡ 2 * above + 1 = omega arith in
          go above (omega arith) (omega arith) (omega arith) (rw (is.inner above (omega arith) (omega arith) (omega arith)) (lesser_right (node_at tree (2 * above)) (node_at tree (2 * above + 1)) k (subst (λ j. IsAtMost k (node_at tree j)) right h)))
      up above (suc (suc rest)) e less more go = absurd (omega arith)

  -- a number that is among them, and so the first node
  below : (k : ℕ) → k < length members → has members k ≡ true → IsAtMost k (node_at tree 1)
  below k within passes = risen (2 * length members) (length members + k) k (omega arith) (omega arith) (omega arith) (k, is.leaves k within ∙ ap (λ b. leaf_of b k) passes, omega arith)

  pub first_node : 0 < length members → node_at tree 1 ≡ least_of members
  first_node some = by (node_at tree 1) refl
    where
      by : (o : Option ℕ) → node_at tree 1 ≡ o → o ≡ least_of members
      by None e = sym (find_none (has members) 0 (length members) (λ j l h. absent j h (has members j) refl))
        where
          absent : (j : ℕ) → j < 0 + length members → (b : Bool) → has members j ≡ b → has members j ≡ false
          absent j h true q = let least = below j (omega arith) q in let is = least.1 in cc
          absent j h false q = q
      by (Some k) e =
          let n = named (2 * length members) 1 k (omega arith) (omega arith) (omega arith) e in
          sym (find_some (has members) 0 (length members) k (omega arith) (omega arith) n.1 (λ j l h. before j h (has members j) refl))
        where
          before : (j : ℕ) → j < k → (b : Bool) → has members j ≡ b → has members j ≡ false
          before j h true q =
              let n = named (2 * length members) 1 k (omega arith) (omega arith) (omega arith) e in
              let least = below j (let w = n.0 in omega arith) q in
              let is = least.1 in
              let same : k ≡ least.0 = cc in
              let le = least.2 in
              absurd (omega arith)
          before j h false q = q
