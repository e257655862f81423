-- The standard lattice is one.
use Rattle.std.proofs.Common.{◌≡◌, ℕ, zero, suc, ◌<◌, inl, inr, Bool, true, false, not, ◌&&◌, ◌||◌, ◌==◌, nat_lt, List, [], ◌∷◌, get_or, refl, ◌∙◌, subst, lit<, lit≤, arith}
use Rattle.std.specs.List.{list_any}
use Rattle.std.specs.Str.{bytes_eq}
use Rattle.std.proofs.lemmas.Bool.{and_parts, or_cases, eqb-true, ltb-true}
use Rattle.std.proofs.lemmas.Bool.Decides.{Decides-below_and, Decides-by_or}
use Rattle.std.proofs.lemmas.List.{get_or_default}
use Rattle.std.proofs.lemmas.List.Elements.{Contains-get_or}
use Rattle.std.proofs.lemmas.Slice.Eq.{bytes_eq-Decides}
use Rattle.rt_lines.specs.Names.{AreNames, HasName}
use Rattle.rt_lattice.specs.declared.file.Pair.{Pair}
use Rattle.rt_lattice.specs.Bounds.{HasNoCycle, HasJoins}
use Rattle.rt_lattice.specs.Closures.{IsPairOf, IsUnder, itself, onwards}
use Rattle.rt_lattice.specs.Faults.{HasNoOrderFault}
use Rattle.rt_lattice.specs.Standard.{standard_names, standard_below}
use Rattle.rt_lattice.proofs.Known.{one_number}
use Rattle.rt_lattice.proofs.Spelled.{are_names-Decides}

-- the pairs by the numbers of their names
unfoldable edges : List (ℕ × ℕ)
edges = (1, 0) ∷ (2, 1) ∷ (3, 2) ∷ (4, 3) ∷ (8, 4) ∷ (5, 1) ∷ (6, 5) ∷ (7, 6) ∷ (8, 7) ∷ (9, 0) ∷ (10, 0) ∷ (11, 8) ∷ (11, 9) ∷ (11, 10) ∷ []

-- for each number those that it is at or below
unfoldable uppers : List (List ℕ)
uppers =
    (0 ∷ [])
    ∷ (0 ∷ 1 ∷ [])
    ∷ (0 ∷ 1 ∷ 2 ∷ [])
    ∷ (0 ∷ 1 ∷ 2 ∷ 3 ∷ [])
    ∷ (0 ∷ 1 ∷ 2 ∷ 3 ∷ 4 ∷ [])
    ∷ (0 ∷ 1 ∷ 5 ∷ [])
    ∷ (0 ∷ 1 ∷ 5 ∷ 6 ∷ [])
    ∷ (0 ∷ 1 ∷ 5 ∷ 6 ∷ 7 ∷ [])
    ∷ (0 ∷ 1 ∷ 2 ∷ 3 ∷ 4 ∷ 5 ∷ 6 ∷ 7 ∷ 8 ∷ [])
    ∷ (0 ∷ 9 ∷ [])
    ∷ (0 ∷ 10 ∷ [])
    ∷ (0 ∷ 1 ∷ 2 ∷ 3 ∷ 4 ∷ 5 ∷ 6 ∷ 7 ∷ 8 ∷ 9 ∷ 10 ∷ 11 ∷ []) ∷ []

-- a test passes each number below a bound
abbrev passes : (ℕ → Bool) → ℕ → Bool
passes p zero = true
passes p (suc n) = p n && passes p n

passes-at : (p : ℕ → Bool) (n k : ℕ) → passes p n ≡ true → k < n → p k ≡ true
passes-at p n k h less = (Decides-below_and p (λ j. p j ≡ true) (passes p) (λ j. (λ e. e, λ e. e)) refl (λ j. refl) n).0 h k less

passes_both : (p : ℕ → ℕ → Bool) (m n a b : ℕ) → passes (λ x. passes (p x) n) m ≡ true → a < m → b < n → p a b ≡ true
passes_both p m n a b h ha hb = passes-at (p a) n b (passes-at (λ x. passes (p x) n) m a h ha) hb

-- a is at or below b, by the lists
unfoldable le : ℕ → ℕ → Bool
le a b = list_any (λ x. x == b) (get_or uppers a [])

-- so many pairs lead from a to b
unfoldable reach : ℕ → ℕ → ℕ → Bool
reach zero a b = a == b
reach (suc n) a b = a == b || list_any (λ e. e.0 == a && reach n e.1 b) edges

abbrev lower_of : ℕ → ℕ
lower_of k = (get_or edges k (0, 0)).0

abbrev upper_of : ℕ → ℕ
upper_of k = (get_or edges k (0, 0)).1

abbrev none_pair : Pair
none_pair = record { lower = []; upper = [] }

-- the numbers of a pair are those of its names
abbrev is_named : ℕ → Bool
is_named k =
    (nat_lt (lower_of k) 12 && bytes_eq (get_or standard_names (lower_of k) []) (get_or standard_below k none_pair).lower)
    && (nat_lt (upper_of k) 12 && bytes_eq (get_or standard_names (upper_of k) []) (get_or standard_below k none_pair).upper)

all_named : passes is_named 14 ≡ true
unfolding edges
all_named = refl

-- what a pair's upper number is at or below, its lower number is
abbrev is_closed : ℕ → ℕ → Bool
is_closed k b = not (le (upper_of k) b) || le (lower_of k) b

closed : passes (λ k. passes (is_closed k) 12) 14 ≡ true
unfolding edges uppers le
closed = refl

itself_le : passes (λ a. le a a) 12 ≡ true
unfolding uppers le
itself_le = refl

abbrev is_reached : ℕ → ℕ → Bool
is_reached a b = not (le a b) || reach 7 a b

reached : passes (λ a. passes (is_reached a) 12) 12 ≡ true
unfolding edges uppers le reach
reached = refl

abbrev is_apart : ℕ → ℕ → Bool
is_apart a b = (not (le a b) || not (le b a)) || a == b

acyclic : passes (λ a. passes (is_apart a) 12) 12 ≡ true
unfolding uppers le
acyclic = refl

top_le : passes (λ a. le a 0) 12 ≡ true
unfolding uppers le
top_le = refl

bottom_le : passes (λ a. le 11 a) 12 ≡ true
unfolding uppers le
bottom_le = refl

-- c is at or below d, where a and b are
abbrev is_least : ℕ → ℕ → ℕ → ℕ → Bool
is_least a b c d = (not (le a d) || not (le b d)) || le c d

-- c is a least upper bound of a and b
abbrev is_join : ℕ → ℕ → ℕ → Bool
is_join a b c = (le a c && le b c) && passes (is_least a b c) 12

-- the first least upper bound below a number
abbrev join_below : ℕ → ℕ → ℕ → Bool
join_below a b zero = false
join_below a b (suc n) = is_join a b n || join_below a b n

joined : passes (λ a. passes (λ b. join_below a b 12) 12) 12 ≡ true
unfolding uppers le
joined = refl

abbrev pub Under : ℕ → ℕ → Type 0
Under = IsUnder standard_names standard_below

good_names : AreNames standard_names
good_names = let (spelled, distinct) = (are_names-Decides standard_names).0 refl in record { spelled = spelled; distinct = distinct; few = lit≤ tt }

named_lower : (k : ℕ) → k < 14 → HasName standard_names (lower_of k) (get_or standard_below k none_pair).lower
named_lower k h =
    let (lower, _) = and_parts _ _ (passes-at is_named 14 k all_named h) in
    let (within, same) = and_parts _ _ lower in
    record { within = ltb-true _ _ within; named = (bytes_eq-Decides _ _).0 same }

named_upper : (k : ℕ) → k < 14 → HasName standard_names (upper_of k) (get_or standard_below k none_pair).upper
named_upper k h =
    let (_, upper) = and_parts _ _ (passes-at is_named 14 k all_named h) in
    let (within, same) = and_parts _ _ upper in
    record { within = ltb-true _ _ within; named = (bytes_eq-Decides _ _).0 same }

-- a pair of names is one of the pairs of numbers
edge_of : (a b : ℕ) → IsPairOf standard_names standard_below a b → (k : ℕ) × (k < 14) × (a ≡ lower_of k) × (b ≡ upper_of k)
edge_of a b p =
    let (k, h, is) = p.given in
    let at : get_or standard_below k none_pair ≡ p.pair = get_or_default standard_below k none_pair p.pair h ∙ is in (
      k,
      h,
      one_number standard_names a (lower_of k) p.pair.lower good_names p.lower (subst (λ (q : Pair). HasName standard_names (lower_of k) q.lower) at (named_lower k h)),
      one_number standard_names b (upper_of k) p.pair.upper good_names p.upper (subst (λ (q : Pair). HasName standard_names (upper_of k) q.upper) at (named_upper k h)),
    )

implied : (x y : Bool) → (not x || y) ≡ true → x ≡ true → y ≡ true
implied true y h e = h
implied false y h e = cc

implied_both : (x y z : Bool) → ((not x || not y) || z) ≡ true → x ≡ true → y ≡ true → z ≡ true
implied_both true true z h e f = h
implied_both true false z h e f = cc
implied_both false y z h e f = cc

under_le : (a b : ℕ) → a < 12 → b < 12 → Under a b → le a b ≡ true
under_le _ _ ha hb (itself a) = passes-at (λ x. le x x) 12 a itself_le ha
under_le _ _ ha hb (onwards a m b p u) =
    let (k, h, lower, upper) = edge_of a m p in
    let deeper : le m b ≡ true = under_le m b p.upper.within hb u in
    rw lower (implied _ _ (passes_both is_closed 14 12 k b closed h hb) (subst (λ x. le x b ≡ true) upper deeper))

begins_here : (a b : ℕ) → (a == b) ≡ true → Under a b
begins_here a b e = subst (λ x. Under a x) (eqb-true a b e) (itself a)

reach_under : (n a b : ℕ) → reach n a b ≡ true → Under a b
unfolding reach edges
reach_under zero a b e = begins_here a b e
reach_under (suc n) a b e =
    elim (or_cases (a == b) (list_any (λ x. x.0 == a && reach n x.1 b) edges) e) [
      | inl same ↦ begins_here a b same
      | inr some ↦
          let (k, h, at) = (Decides-by_or (λ x. x.0 == a && reach n x.1 b) (λ x. (x.0 == a && reach n x.1 b) ≡ true) (list_any (λ x. x.0 == a && reach n x.1 b)) (λ x. (λ t. t, λ t. t)) refl (λ x xs. refl) edges).0 some in
          let (first, rest) = and_parts _ _ (at (0, 0)) in
          let within : k < 14 = h in
          let lower : lower_of k ≡ a = eqb-true _ _ first in
          onwards a (upper_of k) b
          (record { pair = get_or standard_below k none_pair; given = Contains-get_or standard_below k none_pair within; lower = rw lower at (named_lower k within); upper = named_upper k within })
          (reach_under n (upper_of k) b rest)
    ]

le_under : (a b : ℕ) → a < 12 → b < 12 → le a b ≡ true → Under a b
le_under a b ha hb e = reach_under 7 a b (implied _ _ (passes_both is_reached 12 12 a b reached ha hb) e)

no_cycle : HasNoCycle Under 12
no_cycle a h p =
    let up : le a p.partner ≡ true = under_le a p.partner h p.within p.above in
    let down : le p.partner a ≡ true = under_le p.partner a p.within h p.below in
    p.other (eqb-true a p.partner (implied_both _ _ _ (passes_both is_apart 12 12 a p.partner acyclic h p.within) up down))

join_found : (a b n : ℕ) → join_below a b n ≡ true → (c : ℕ) × (c < n) × (is_join a b c ≡ true)
join_found a b zero e = cc
join_found a b (suc n) e =
    elim (or_cases (is_join a b n) (join_below a b n) e) [
      | inl here ↦ (n, omega arith, here)
      | inr before ↦ let (c, h, j) = join_found a b n before in (c, omega arith, j)
    ]

joins_here : HasJoins Under 12
joins_here a b ha hb =
    let (c, hc, join) = join_found a b 12 (passes_both (λ x y. join_below x y 12) 12 12 a b joined ha hb) in
    let (upper, least) = and_parts _ _ join in
    let (first, second) = and_parts _ _ upper in (
      c,
      record {
        within = hc;
        first = le_under a c ha hc first;
        second = le_under b c hb hc second;
        least = λ d hd f g. le_under c d hc hd (implied_both _ _ _ (passes-at (is_least a b c) 12 d least hd) (under_le a d ha hd f) (under_le b d hb hd g));
      },
    )

pub standard_order : HasNoOrderFault Under 12
standard_order =
    record {
      no_cycle = no_cycle;
      top = (0, record { within = lit< tt; above = λ a h. le_under a 0 h (lit< tt) (passes-at (λ x. le x 0) 12 a top_le h) });
      bottom = (11, record { within = lit< tt; below = λ a h. le_under 11 a (lit< tt) h (passes-at (λ x. le 11 x) 12 a bottom_le h) });
      joins = joins_here;
    }
