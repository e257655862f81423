-- Searches: what offers, visits and rounds keep.
use Rattle.std.proofs.Common.{◌≡◌, ℕ, ◌+◌, ◌<◌, ◌≤◌, ◌⊎◌, inl, inr, Bool, true, false, cond, List, [], ◌∷◌, ◌++◌, Contains, Option, Some, None, length, get_or, refl, sym, ap, subst, ◌∙◌, arith}
use Rattle.std.specs.Prelude.{◌↔◌, not, nat_eq, IsTrue}
use Rattle.std.specs.Bool.{beq}
use Rattle.std.specs.Map.{lookup}
use Rattle.std.proofs.lemmas.Bool.{eqb-true, cases_eq, and_parts}
use Rattle.std.proofs.lemmas.List.{get_or_default}
use Rattle.std.proofs.lemmas.List.Elements.{Contains-append_left, Contains-append_right, Contains-append_cases, Contains-push}
use Rattle.rt_rules.proofs.Lists.{Contains-none, Contains-here, Contains-cons_cases}
use Rattle.rt_sat.specs.declared.state.State.{State}
use Rattle.rt_sat.specs.declared.state.Edge.{Edge}
use Rattle.rt_sat.specs.contracts.state.StateEq.TheImpl.Laws as state_laws
use Rattle.rt_sat.specs.Reached.{key_of}
use Rattle.rt_sat.specs.Searches.{state_eq, turned, Walk, stays, turns, steps, IsKnown, IsWithin, Allows, AreNoted, IsRelaxed, AreRelaxed, AreFallen, IsOffered, IsIndexed, IsSearch, IsVisited, IsPassed, IsFollowed}
use Rattle.rt_sat.proofs.Weighed.{known_one}

same_bool : (a b : Bool) → beq a b ≡ true → a ≡ b
same_bool true true e = refl
same_bool true false e = absurd (cc)
same_bool false true e = absurd (cc)
same_bool false false e = refl

pub state_equal : (a b : State) → state_eq a b ≡ true → a ≡ b
state_equal a b e =
    let p : (nat_eq a.variable b.variable ≡ true) × (beq a.contra b.contra ≡ true) = and_parts (nat_eq a.variable b.variable) (beq a.contra b.contra) e in
    let m : a.variable ≡ b.variable = eqb-true a.variable b.variable p.0 in
    let n : a.contra ≡ b.contra = same_bool a.contra b.contra p.1 in
    λ i. record { variable = m i; contra = n i }

pub state_self : (a : State) → state_eq a a ≡ true
state_self a = (state_laws.laws-law).refl a

pub within-fallen : (old new : List (State × ℕ)) (s : State) (k : ℕ) → AreFallen old new → IsWithin old s k → IsWithin new s k
within-fallen old new s k f w = let r : IsWithin new s w.0 = f s w.0 w.1 in (r.0, r.1, omega (arith, r.2, w.2))

pub fallen-self : (found : List (State × ℕ)) → AreFallen found found
fallen-self found s k h = (k, h, omega arith)

pub fallen-chain : (a b c : List (State × ℕ)) → AreFallen a b → AreFallen b c → AreFallen a c
fallen-chain a b c f g s k h = within-fallen b c s k g (f s k h)

pub allows_less : (most : Option ℕ) (j k : ℕ) → j ≤ k → Allows most k → Allows most j
allows_less None j k h a = tt
allows_less (Some m) j k h a = omega (arith, h, a)

pub allows_nought : (most : Option ℕ) → Allows most 0
allows_nought None = tt
allows_nought (Some m) = omega arith

-- a count put down
module _ (old new : List (State × ℕ)) (to : State) (count : ℕ) (updates : (q : State) → lookup (state_eq q) new ≡ cond (state_eq to q) (Some count) (lookup (state_eq q) old)) where
  here : (s : State) → to ≡ s → IsKnown new s count
  here s e = updates s ∙ ap (λ b. cond b (Some count) (lookup (state_eq s) old)) (ap (λ t. state_eq t s) e ∙ state_self s)

  pub put_down : IsKnown new to count
  put_down = here to refl

  elsewhere : (s : State) → state_eq to s ≡ false → lookup (state_eq s) new ≡ lookup (state_eq s) old
  elsewhere s e = updates s ∙ ap (λ b. cond b (Some count) (lookup (state_eq s) old)) e

  cases : (s : State) (k : ℕ) (b : Bool) → state_eq to s ≡ b → IsKnown new s k → IsKnown old s k ⊎ ((to ≡ s) × (k ≡ count))
  cases s k true e h = let t : to ≡ s = state_equal to s e in inr (t, known_one new s k count h (here s t))
  cases s k false e h = inl (sym (elsewhere s e) ∙ h)

  falls : ((k : ℕ) → IsKnown old to k → count ≤ k) → (s : State) (k : ℕ) (b : Bool) → state_eq to s ≡ b → IsKnown old s k → IsWithin new s k
  falls less s k true e h = let t : to ≡ s = state_equal to s e in (count, here s t, less k (subst (λ z. IsKnown old z k) (sym t) h))
  falls less s k false e h = (k, elsewhere s e ∙ h, omega arith)

  pub offered_new : (most : Option ℕ) (active : List State) → Allows most count → ((k : ℕ) → IsKnown old to k → count ≤ k) → IsOffered most old new active (active ++ to ∷ []) to count
  offered_new most active allowed less = record {
    within = λ a. (count, here to refl, omega arith);
    fallen = λ s k h. falls less s k (state_eq to s) refl h;
    kept = λ s c. Contains-append_left active (to ∷ []) s c;
    changed = λ s k h. elim (cases s k (state_eq to s) refl h) [
      | inl g ↦ inl g
      | inr p ↦ inr (subst (Contains (active ++ to ∷ [])) p.0 (Contains-push active to), sym p.0, p.1, allowed)
    ];
  }

pub offered_same : (most : Option ℕ) (found : List (State × ℕ)) (active : List State) (to : State) (k count : ℕ) → IsKnown found to k → k ≤ count → IsOffered most found found active active to count
offered_same most found active to k count h less = record { within = λ a. (k, h, less); fallen = fallen-self found; kept = λ s c. c; changed = λ s j g. inl g }

-- where no count of the state is known that is no greater, each is greater
pub less_unknown : (found : List (State × ℕ)) (s : State) (count : ℕ) (near : Bool) → IsTrue near ↔ IsWithin found s count → near ≡ false → (k : ℕ) → IsKnown found s k → count ≤ k
less_unknown found s count near is not_near k h =
    let more : k ≤ count → ⊥ = λ less. (let yes : near ≡ true = is.1 (k, h, less) in absurd (cc)) in
    omega (arith, more)

pub offered_over : (most : Option ℕ) (found : List (State × ℕ)) (active : List State) (to : State) (count : ℕ) → (Allows most count → ⊥) → IsOffered most found found active active to count
offered_over most found active to count over = record { within = λ a. absurd (over a); fallen = fallen-self found; kept = λ s c. c; changed = λ s j g. inl g }

-- one way after another
pub on : {edges : List Edge} {x y z : State} {j k : ℕ} → Walk edges x y j → Walk edges y z k → Walk edges x z (j + k)
on {edges} {y} {z} {k} stays w = subst (λ n. Walk edges y z n) (omega arith) w
on {edges} {x} {z} {k} (turns {k = i} v) w = subst (λ n. Walk edges x z n) (omega arith) (turns (on v w))
on {edges} {x} {z} {k} (steps {k = i} e c v) w = subst (λ n. Walk edges x z n) (omega arith) (steps e c (on v w))

pub on_edge : {edges : List Edge} {x y : State} {k : ℕ} (e : Edge) → Contains edges e → e.from ≡ y → Walk edges x y k → Walk edges x e.to (e.count + k)
on_edge {edges} {x} {k} e c f w = subst (λ n. Walk edges x e.to n) (omega arith) (on (subst (λ y. Walk edges x y k) (sym f) w) (steps e c stays))

pub on_turn : {edges : List Edge} {x y : State} {k : ℕ} → Walk edges x y k → Walk edges x (turned y) (1 + k)
on_turn {edges} {x} {y} {k} w = subst (λ n. Walk edges x (turned y) n) (omega arith) (on w (turns {x = y} stays))

module _ (most : Option ℕ) (edges : List Edge) (old : List (State × ℕ)) (active : List State) (state : State) (count : ℕ) (known : IsKnown old state count) where
  pub visited_turn : (new : List (State × ℕ)) (next : List State) → IsOffered most old new active next (turned state) (1 + count) → IsVisited most edges old new active next state count (λ e. ⊥)
  visited_turn new next o = record {
    walks = λ start w s k h. (elim (o.changed s k h) [
      | inl g ↦ w s k g
      | inr p ↦ (subst (λ z. Walk edges start z k) (sym p.1) (subst (λ n. Walk edges start (turned state) n) (sym p.2) (on_turn (w state count known).0)), subst (Allows most) (sym p.2) p.3)
    ]);
    fallen = o.fallen;
    kept = o.kept;
    changed = λ s k h. (elim (o.changed s k h) [ inl g ↦ inl g | inr p ↦ inr p.0 ]);
    turn = o.within;
    edge = λ e d f a. absurd d;
  }

  -- an edge more
  pub visited_edge : (mid new : List (State × ℕ)) (between next : List State) (Done More : Edge → Type 0) (e : Edge) → Contains edges e → e.from ≡ state →
      ((g : Edge) → More g → Done g ⊎ (g ≡ e)) → IsVisited most edges old mid active between state count Done → IsOffered most mid new between next e.to (e.count + count) → IsVisited most edges old new active next state count More
  visited_edge mid new between next Done More e c f split v o = record {
    walks = λ start w s k h. (elim (o.changed s k h) [
      | inl g ↦ v.walks start w s k g
      | inr p ↦ (subst (λ z. Walk edges start z k) (sym p.1) (subst (λ n. Walk edges start e.to n) (sym p.2) (on_edge e c f (w state count known).0)), subst (Allows most) (sym p.2) p.3)
    ]);
    fallen = fallen-chain old mid new v.fallen o.fallen;
    kept = λ s h. o.kept s (v.kept s h);
    changed = λ s k h. (elim (o.changed s k h) [
      | inl g ↦ elim (v.changed s k g) [ inl a ↦ inl a | inr b ↦ inr (o.kept s b) ]
      | inr p ↦ inr p.0
    ]);
    turn = λ a. within-fallen mid new (turned state) (1 + count) o.fallen (v.turn a);
    edge = λ g d h a. (elim (split g d) [
      | inl x ↦ within-fallen mid new g.to (g.count + count) o.fallen (v.edge g x h a)
      | inr q ↦ subst (λ (z : Edge). IsWithin new z.to (z.count + count)) (sym q) (o.within (subst (λ (z : Edge). Allows most (z.count + count)) q a))
    ]);
  }

  -- a test of more edges, none of which leaves the state
  pub visited_more : (new : List (State × ℕ)) (next : List State) (Done More : Edge → Type 0) → ((g : Edge) → More g → g.from ≡ state → Done g) → IsVisited most edges old new active next state count Done → IsVisited most edges old new active next state count More
  visited_more new next Done More split v = record { walks = v.walks; fallen = v.fallen; kept = v.kept; changed = v.changed; turn = v.turn; edge = λ g d h. v.edge g (split g d h) h }

  -- all edges that leave the state
  pub visited_all : (new : List (State × ℕ)) (next rest : List State) → IsVisited most edges old new active next state count (Contains edges) → AreRelaxed most edges old (active ++ state ∷ rest) → AreRelaxed most edges new (next ++ rest)
  visited_all new next rest v r s k h = by (v.changed s k h)
    where
      relaxed : IsRelaxed most edges old s k → IsRelaxed most edges new s k
      relaxed q = record { turn = λ a. within-fallen old new (turned s) (1 + k) v.fallen (q.turn a); edge = λ e c f a. within-fallen old new e.to (e.count + k) v.fallen (q.edge e c f a) }

      itself : state ≡ s → IsKnown old s k → IsRelaxed most edges new s k
      itself e g =
          let m : k ≡ count = known_one old state k count (subst (λ z. IsKnown old z k) (sym e) g) known in
          subst (λ z. IsRelaxed most edges new z k) e (subst (λ n. IsRelaxed most edges new state n) (sym m) (record { turn = v.turn; edge = λ x c f. v.edge x c f }))

      listed : IsKnown old s k → Contains active s ⊎ Contains (state ∷ rest) s → Contains (next ++ rest) s ⊎ IsRelaxed most edges new s k
      listed g (inl c) = inl (Contains-append_left next rest s (v.kept s c))
      listed g (inr c) = elim (Contains-cons_cases state rest s c) [
        | inl e ↦ inr (itself e g)
        | inr d ↦ inl (Contains-append_right next rest s d)
      ]

      by : IsKnown old s k ⊎ Contains next s → Contains (next ++ rest) s ⊎ IsRelaxed most edges new s k
      by (inr c) = inl (Contains-append_left next rest s c)
      by (inl g) = elim (r s k g) [
        | inl c ↦ listed g (Contains-append_cases active (state ∷ rest) s c)
        | inr q ↦ inr (relaxed q)
      ]

-- a state of which nothing is known
pub unknown_state : (most : Option ℕ) (edges : List Edge) (found : List (State × ℕ)) (active rest : List State) (state : State) → lookup (state_eq state) found ≡ None → AreRelaxed most edges found (active ++ state ∷ rest) → AreRelaxed most edges found (active ++ rest)
unknown_state most edges found active rest state none r s k h = by (r s k h)
  where
    listed : Contains active s ⊎ Contains (state ∷ rest) s → Contains (active ++ rest) s ⊎ IsRelaxed most edges found s k
    listed (inl c) = inl (Contains-append_left active rest s c)
    listed (inr c) = elim (Contains-cons_cases state rest s c) [
      | inl e ↦ (let g : IsKnown found state k = subst (λ z. IsKnown found z k) (sym e) h in let f : ◌≡◌ {A = _} None (Some k) = sym none ∙ g in absurd (cc))
      | inr d ↦ inl (Contains-append_right active rest s d)
    ]

    by : Contains (active ++ state ∷ rest) s ⊎ IsRelaxed most edges found s k → Contains (active ++ rest) s ⊎ IsRelaxed most edges found s k
    by (inl c) = listed (Contains-append_cases active (state ∷ rest) s c)
    by (inr q) = inr q

-- where nothing is active any more, each way leads to what is known
module _ (most : Option ℕ) (edges : List Edge) (found : List (State × ℕ)) (closed : AreRelaxed most edges found []) where
  relaxed_of : (s : State) (k : ℕ) → IsKnown found s k → IsRelaxed most edges found s k
  relaxed_of s k h = elim (closed s k h) [ inl c ↦ absurd (Contains-none s c) | inr q ↦ q ]

  pub reached : {x y : State} {k : ℕ} → Walk edges x y k → (d : ℕ) → Allows most (k + d) → IsWithin found x d → IsWithin found y (k + d)
  reached stays d a w = (w.0, w.1, omega (arith, w.2))
  reached (turns {x} {y} {k} v) d a w =
      let t : IsWithin found (turned x) (1 + w.0) = (relaxed_of x w.0 w.1).turn (allows_less most (1 + w.0) ((1 + k) + d) (omega (arith, w.2)) a) in
      let r : IsWithin found y (k + (1 + w.0)) = reached v (1 + w.0) (allows_less most (k + (1 + w.0)) ((1 + k) + d) (omega (arith, w.2)) a) t in
      (r.0, r.1, omega (arith, r.2, w.2))
  reached (steps {y} {k} e c v) d a w =
      let t : IsWithin found e.to (e.count + w.0) = (relaxed_of e.from w.0 w.1).edge e c refl (allows_less most (e.count + w.0) ((e.count + k) + d) (omega (arith, w.2)) a) in
      let r : IsWithin found y (k + (e.count + w.0)) = reached v (e.count + w.0) (allows_less most (k + (e.count + w.0)) ((e.count + k) + d) (omega (arith, w.2)) a) t in
      (r.0, r.1, omega (arith, r.2, w.2))

  pub searched : (start : State) → IsWithin found start 0 → AreNoted most edges start found → IsSearch most edges start found
  searched start w noted = record {
    sound = λ s k h. (noted s k h).0;
    few = λ s k h. (noted s k h).1;
    complete = λ s k v a. (let r : IsWithin found s (k + 0) = reached v 0 (allows_less most (k + 0) k (omega arith) a) w in (r.0, r.1, omega (arith, r.2)));
  }

-- an index more
pub passed-split : (edges : List Edge) (items : List ℕ) (i : ℕ) (e : Edge) → get_or items i 0 < length edges → e ≡ get_or edges (get_or items i 0) e → (g : Edge) → IsPassed edges items (i + 1) g → IsPassed edges items i g ⊎ (g ≡ e)
passed-split edges items i e h f g p = by (cases_eq p.0 i)
  where
    by : (p.0 ≡ i) ⊎ (p.0 ≡ i → ⊥) → IsPassed edges items i g ⊎ (g ≡ e)
    by (inl s) = inr (sym p.2 ∙ ap (λ n. get_or edges (get_or items n 0) g) s ∙ get_or_default edges (get_or items i 0) g e h ∙ sym f)
    by (inr n) = inl (p.0, (let less = p.1 in omega arith), p.2)

-- all edges that leave a state are among those of its indices
pub passed_all : (edges : List Edge) (out : List (List ℕ)) (state : State) (e : Edge) → IsIndexed edges out → Contains edges e → e.from ≡ state →
    IsPassed edges (get_or out (key_of state) []) (length (get_or out (key_of state) [])) e
passed_all edges out state e indexed c f =
    let a : (i : ℕ) × Contains (get_or out (key_of e.from) []) i × (i < length edges) × (get_or edges i e ≡ e) = indexed.all e c in
    let d : Contains (get_or out (key_of state) []) a.0 = subst (λ (s : State). Contains (get_or out (key_of s) []) a.0) f a.1 in
    (d.0, d.1, ap (λ n. get_or edges n e) (get_or_default (get_or out (key_of state) []) d.0 0 a.0 d.1 ∙ d.2) ∙ a.3)

-- from a visit of the first indices to all edges
pub visited_whole : (most : Option ℕ) (edges : List Edge) (out : List (List ℕ)) (old mid new : List (State × ℕ)) (active between next rest : List State) (state : State) (count : ℕ) → IsIndexed edges out → IsKnown old state count →
    IsOffered most old mid active between (turned state) (1 + count) →
    IsFollowed most edges (get_or out (key_of state) []) mid new between next state count (length (get_or out (key_of state) [])) →
    IsVisited most edges old new active next state count (Contains edges)
visited_whole most edges out old mid new active between next rest state count indexed known offered followed =
    visited_more most edges old active state count known new next (IsPassed edges (get_or out (key_of state) []) (length (get_or out (key_of state) []))) (Contains edges)
    (λ g c f. passed_all edges out state g indexed c f)
    (followed.follows old active known (visited_turn most edges old active state count known mid between offered))

-- no index yet
pub follows_none : (most : Option ℕ) (edges : List Edge) (items : List ℕ) (found : List (State × ℕ)) (next : List State) (state : State) (count : ℕ) → IsFollowed most edges items found found next next state count 0
follows_none most edges items found next state count = record {
  follows = λ old active known v. visited_more most edges old active state count known found next (λ e. ⊥) (IsPassed edges items 0) (λ g p f. (let less = p.1 in omega arith)) v;
}

-- an index of an edge of the state
pub follows_edge : (most : Option ℕ) (edges : List Edge) (items : List ℕ) (before mid found : List (State × ℕ)) (first between next : List State) (state : State) (count i : ℕ) (e : Edge) → get_or items i 0 < length edges → e ≡ get_or edges (get_or items i 0) e →
    e.from ≡ state → IsOffered most mid found between next e.to (e.count + count) → IsFollowed most edges items before mid first between state count i → IsFollowed most edges items before found first next state count (i + 1)
follows_edge most edges items before mid found first between next state count i e h f same o w = record {
  follows = λ old active known v. visited_edge most edges old active state count known mid found between next (IsPassed edges items i) (IsPassed edges items (i + 1)) e (get_or items i 0, h, sym f) same
      (passed-split edges items i e h f) (w.follows old active known v) o;
}

pub differ : (a b : State) (r : Bool) → r ≡ not (state_eq a b) → r ≡ true → a ≡ b → ⊥
differ a b r e f g = let h : state_eq a b ≡ true = subst (λ z. state_eq a z ≡ true) g (state_self a) in let k : r ≡ false = e ∙ ap not h in absurd (cc)

-- the start alone
pub begun : (most : Option ℕ) (edges : List Edge) (old new : List (State × ℕ)) (start : State) (count : ℕ) → count ≡ 0 → ((s : State) (k : ℕ) → IsKnown old s k → ⊥) →
    ((q : State) → lookup (state_eq q) new ≡ cond (state_eq start q) (Some count) (lookup (state_eq q) old)) →
    (AreNoted most edges start new) × (IsWithin new start 0) × (AreRelaxed most edges new (start ∷ []))
begun most edges old new start count zero none updates = (walks, (count, here old new start count updates start refl, omega (arith, zero)), relaxed)
  where
    walks : AreNoted most edges start new
    walks s k h = elim (cases old new start count updates s k (state_eq start s) refl h) [
      | inl g ↦ absurd (none s k g)
      | inr p ↦ (subst (λ z. Walk edges start z k) p.0 (subst (λ n. Walk edges start start n) (sym zero ∙ sym p.1) stays), subst (Allows most) (sym zero ∙ sym p.1) (allows_nought most))
    ]

    relaxed : AreRelaxed most edges new (start ∷ [])
    relaxed s k h = elim (cases old new start count updates s k (state_eq start s) refl h) [
      | inl g ↦ absurd (none s k g)
      | inr p ↦ inl (subst (Contains (start ∷ [])) p.0 (Contains-here start []))
    ]

pub none_of_empty : (old : List (State × ℕ)) → old ≡ [] → (s : State) (k : ℕ) → IsKnown old s k → ⊥
none_of_empty old e s k h = let f : ◌≡◌ {A = Option ℕ} None (Some k) = sym (ap (lookup (state_eq s)) e) ∙ h in absurd (cc)
