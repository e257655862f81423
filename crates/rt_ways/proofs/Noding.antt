-- Nodes of numbers, and what is behind groups, one after another.
use Rattle.std.proofs.Common.{◌≡◌, ℕ, ◌+◌, ◌<◌, ◌≤◌, ◌⊎◌, inl, inr, Bool, true, false, cond, Option, Some, None, IsSome, List, [], ◌∷◌, ◌++◌, length, get_or, take, refl, sym, ap, subst, ◌∙◌, arith}
use Rattle.std.specs.Prelude.{flat_map}
use Rattle.std.proofs.lemmas.Bool.{cases_eq}
use Rattle.std.proofs.lemmas.Grind.{flat_map-append}
use Rattle.std.proofs.lemmas.List.{append-nil, get_or_append_left, get_or_push, length_push, take_more}
use Rattle.rt_lines.specs.declared.label.Label.{Label}
use Rattle.rt_lines.specs.declared.variable.Base.{Base}
use Rattle.rt_lines.specs.declared.variable.Dtv.{Dtv}
use Rattle.rt_lines.specs.declared.line.Line.{Line}
use Rattle.rt_rules.specs.Rules.{longer}
use Rattle.rt_shape.specs.Graphs.{Graph, letter_eq, node_of, step_of as graph_step}
use Rattle.rt_shape.proofs.Letters.{letter_equal, letter_self}
use Rattle.rt_shape.proofs.Walks.{node_of-longer}
use Rattle.rt_ways.specs.Inside.Frames.{AreBehind, AreNodes, flattened_line}
use Rattle.rt_ways.specs.Pushes.{AreDistinct, AreSteps, IsMade, step_of, variable_at}
use Rattle.rt_ways.proofs.Pushing.{made_one}
use Rattle.rt_named.proofs.Making.{no_base}

-- numbers one after another
pub nodes_none : (graph : Graph) (named : List Dtv) (nodes : List ℕ) → nodes ≡ [] → AreNodes graph named 0 nodes
nodes_none graph named nodes e = record { each = ap length e; node = λ n h. absurd (omega (arith, h)) }

pub nodes_more : (graph : Graph) (named : List Dtv) (i k : ℕ) (nodes new : List ℕ) → new ≡ nodes ++ k ∷ [] → node_of graph (variable_at named i) ≡ Some k → AreNodes graph named i nodes →
    AreNodes graph named (i + 1) new
nodes_more graph named i k nodes new e is are = record {
  each = ap length e ∙ length_push nodes k ∙ ap (λ n. n + 1) are.each;
  node = λ n h. subst (λ xs. node_of graph (variable_at named n) ≡ Some (get_or xs n 0)) (sym e) (at n h (cases_eq n i));
}
  where
    at : (n : ℕ) → n < i + 1 → (n ≡ i) ⊎ (n ≡ i → ⊥) → node_of graph (variable_at named n) ≡ Some (get_or (nodes ++ k ∷ []) n 0)
    at n h (inl f) = ap (λ m. node_of graph (variable_at named m)) f ∙ is ∙ ap Some (sym (ap (λ m. get_or (nodes ++ k ∷ []) m 0) f ∙ get_or_push nodes k 0 i are.each))
    at n h (inr d) = (let less : n < length nodes = omega (arith, h, d, are.each) in are.node n (omega (arith, h, d)) ∙ ap Some (sym (get_or_append_left nodes (k ∷ []) 0 n less)))

pub node_longer : (graph : Graph) (named : List Dtv) (i n p : ℕ) (l : Label) (nodes : List ℕ) → AreNodes graph named i nodes → p < i → variable_at named n ≡ longer (variable_at named p) l →
    graph_step graph (get_or nodes p 0) l ≡ node_of graph (variable_at named n)
node_longer graph named i n p l nodes are h e = sym (ap (node_of graph) e ∙ node_of-longer graph (variable_at named p) l (get_or nodes p 0) (are.node p h))

-- numbers below a count
pub numbers_more : (i : ℕ) (xs new : List ℕ) → new ≡ xs ++ i ∷ [] → length xs ≡ i → ((k : ℕ) → k < i → get_or xs k 0 ≡ k) → (k : ℕ) → k < i + 1 → get_or new k 0 ≡ k
numbers_more i xs new e n are k h = ap (λ ys. get_or ys k 0) e ∙ at (cases_eq k i)
  where
    at : (k ≡ i) ⊎ (k ≡ i → ⊥) → get_or (xs ++ i ∷ []) k 0 ≡ k
    at (inl f) = ap (λ m. get_or (xs ++ i ∷ []) m 0) f ∙ get_or_push xs i 0 i n ∙ sym f
    at (inr d) = (let less : k < length xs = omega (arith, h, d, n) in get_or_append_left xs (i ∷ []) 0 k less ∙ are k (omega (arith, h, d)))

-- what is behind groups
module _ (named : List Dtv) (groups : List ℕ) where
  pub behind_none : (behind : List ((ℕ × Label) × ℕ)) → behind ≡ [] → AreBehind named groups 0 behind
  behind_none behind e = record {
    found = λ g n l f. absurd (let h : None ≡ Some n = sym (ap (λ es. step_of es g l) e) ∙ f in cc);
    all = λ n p l h m. absurd (omega (arith, h));
  }

  pub behind_whole : (i : ℕ) (behind : List ((ℕ × Label) × ℕ)) → length named ≤ i → AreBehind named groups i behind → AreBehind named groups (length named) behind
  behind_whole i behind h are = record { found = are.found; all = λ n p l k m. are.all n p l (omega (arith, h, k)) m }

  -- a base alone is behind nothing
  pub behind_bare : (i : ℕ) (b : Base) (behind : List ((ℕ × Label) × ℕ)) → variable_at named i ≡ record { base = b; word = [] } → AreBehind named groups i behind → AreBehind named groups (i + 1) behind
  behind_bare i b behind e are = record { found = are.found; all = λ n p l h m. at n p l h m (cases_eq n i) }
    where
      at : (n p : ℕ) (l : Label) → n < i + 1 → IsMade named n p l → (n ≡ i) ⊎ (n ≡ i → ⊥) → IsSome (step_of behind (get_or groups p 0) l)
      at n p l h m (inl f) = absurd (no_base (variable_at named p) l b (sym m.is ∙ ap (variable_at named) f ∙ e))
      at n p l h m (inr d) = are.all n p l (omega (arith, h, d)) m

  some_cond : (b : Bool) (n : ℕ) (o : Option ℕ) → IsSome o → IsSome (cond b (Some n) o)
  some_cond true n o h = refl
  some_cond false n o h = h

  pub behind_made : (i q : ℕ) (k : Label) (behind new : List ((ℕ × Label) × ℕ)) → AreDistinct named → IsMade named i q k →
      ((key : ℕ × Label) → step_of new key.0 key.1 ≡ cond (letter_eq (get_or groups q 0, k) key) (Some i) (step_of behind key.0 key.1)) →
      AreBehind named groups i behind → AreBehind named groups (i + 1) new
  behind_made i q k behind new distinct made updates are = record {
    found = λ g n l f. found g n l (letter_eq (get_or groups q 0, k) (g, l)) refl (sym (updates (g, l)) ∙ f);
    all = λ n p l h m. at n p l h m (cases_eq n i);
  }
    where
      found : (g n : ℕ) (l : Label) (b : Bool) → letter_eq (get_or groups q 0, k) (g, l) ≡ b → cond b (Some i) (step_of behind g l) ≡ Some n →
          (p : ℕ) × IsMade named n p l × (get_or groups p 0 ≡ g)
      found g n l true e f =
          let same : (get_or groups q 0, k) ≡ (g, l) = letter_equal (get_or groups q 0, k) (g, l) e in
          let is : i ≡ n = cc in
          (q, subst (λ m. IsMade named m q l) is (subst (IsMade named i q) (ap (λ (key : ℕ × Label). key.1) same) made), ap (λ (key : ℕ × Label). key.0) same)
      found g n l false e f = are.found g n l f

      at : (n p : ℕ) (l : Label) → n < i + 1 → IsMade named n p l → (n ≡ i) ⊎ (n ≡ i → ⊥) → IsSome (step_of new (get_or groups p 0) l)
      at n p l h m (inl f) =
          let one : (p ≡ q) × (l ≡ k) = made_one named i p q l k distinct (subst (λ j. IsMade named j p l) f m) made in
          let here : step_of new (get_or groups q 0) k ≡ Some i = updates (get_or groups q 0, k) ∙ ap (λ b. cond b (Some i) (step_of behind (get_or groups q 0) k)) (letter_self (get_or groups q 0, k)) in
          subst IsSome (sym (ap (λ r. step_of new (get_or groups r 0) l) one.0 ∙ ap (step_of new (get_or groups q 0)) one.1 ∙ here)) refl
      at n p l h m (inr d) = subst IsSome (sym (updates (get_or groups p 0, l))) (some_cond (letter_eq (get_or groups q 0, k) (get_or groups p 0, l)) i (step_of behind (get_or groups p 0) l) (are.all n p l (omega (arith, h, d)) m))

-- with each number a group of its own these are steps
pub steps_by : (named : List Dtv) (own : List ℕ) (steps : List ((ℕ × Label) × ℕ)) → AreDistinct named → ((i : ℕ) → i < length named → get_or own i 0 ≡ i) →
    AreBehind named own (length named) steps → AreSteps named steps
steps_by named own steps distinct is are n p l = (λ e. to e, λ m. from m (step_of steps p l) refl)
  where
    to : {n : ℕ} → step_of steps p l ≡ Some n → IsMade named n p l
    to {n} e =
        let r : (q : ℕ) × IsMade named n q l × (get_or own q 0 ≡ p) = are.found p n l e in
        subst (λ q. IsMade named n q l) (sym (is r.0 r.1.parent) ∙ r.2) r.1

    some : IsMade named n p l → IsSome (step_of steps p l)
    some m = subst (λ q. IsSome (step_of steps q l)) (is p m.parent) (are.all n p l m.within m)

    from : IsMade named n p l → (o : Option ℕ) → step_of steps p l ≡ o → step_of steps p l ≡ Some n
    from m None e = absurd (let h : false ≡ true = subst IsSome e (some m) in cc)
    from m (Some k) e = (let r : IsMade named k p l = to e in e ∙ ap Some (distinct k n r.within m.within (r.is ∙ sym m.is)))

-- lines flattened one after another
pub flat_more : (lines : List Line) (i : ℕ) (d l : Line) → i < length lines → l ≡ get_or lines i d → flat_map flattened_line (take i lines) ++ flattened_line l ≡ flat_map flattened_line (take (i + 1) lines)
flat_more lines i d l h e =
    sym (ap (flat_map flattened_line) (take_more lines i d h ∙ ap (λ (k : Line). take i lines ++ k ∷ []) (sym e)) ∙ flat_map-append flattened_line (take i lines) (l ∷ [])
    ∙ ap (λ (xs : List Line). flat_map flattened_line (take i lines) ++ xs) (append-nil (flattened_line l)))

pub nodes_whole : (graph : Graph) (named : List Dtv) (i : ℕ) (nodes : List ℕ) {n : ℕ} → n ≤ i → n ≡ length named → i ≤ n → AreNodes graph named i nodes → AreNodes graph named (length named) nodes
nodes_whole graph named i nodes {n} h e k are = subst (λ m. AreNodes graph named m nodes) (let s : i ≡ length named = omega (arith, h, e, k) in s) are
