-- What stays known while nodes are made one.
use Rattle.std.proofs.Common.{◌≡◌, ℕ, ◌<◌, ◌≤◌, ◌⊎◌, inl, inr, Bool, true, false, cond, None, Some, List, [], ◌∷◌, ◌++◌, length, get_or, set, Contains, refl, sym, ap, subst, ◌∙◌, get_or-set_same, get_or-set_other}
use Rattle.std.specs.Prelude.{slice_index}
use Rattle.std.specs.Map.{lookup}
use Rattle.std.proofs.lemmas.Bool.{cases_eq, cases_lt}
use Rattle.std.proofs.lemmas.List.{length-set, set_past, get_or_read, get_or_read_under}
use Rattle.std.proofs.lemmas.List.Elements.{Contains-push_cases}
use Rattle.std.proofs.lemmas.Option.{none-some}
use Rattle.rt_base.proofs.Lists.{Contains-none}
use Rattle.rt_lines.specs.declared.label.Label.{Label}
use Rattle.rt_shape.specs.Graphs.{Graph, letter_eq}
use Rattle.rt_shape.specs.Inside.Classes.{Joined}
use Rattle.rt_shape.specs.Inside.Classes.Joined.{joined_back, joined_chain, joined_letter}
use Rattle.rt_shape.specs.Inside.Joins.{Leads, AreSound}
use Rattle.rt_shape.proofs.Letters.{letter_equal}

-- what a list of lists holds, one of them replaced
pub Contains-set_cases : {X : Type 0} (xs : List (List X)) (c : ℕ) (ys : List X) (d : ℕ) (x : X) → Contains (get_or (set xs c ys) d []) x → ((d ≡ c) × Contains ys x) ⊎ Contains (get_or xs d []) x
Contains-set_cases xs c ys d x h = by (cases_eq d c) (cases_lt c (length xs))
  where
    by : (d ≡ c) ⊎ (d ≡ c → ⊥) → (c < length xs) ⊎ (length xs ≤ c) → ((d ≡ c) × Contains ys x) ⊎ Contains (get_or xs d []) x
    by (inl e) (inl less) = inl (e, subst (λ zs. Contains zs x) (ap (λ i. get_or (set xs c ys) i []) e ∙ get_or-set_same xs c ys [] less) h)
    by (inl e) (inr past) = inr (subst (λ zs. Contains (get_or zs d []) x) (set_past xs c ys past) h)
    by (inr ne) less = inr (subst (λ zs. Contains zs x) (get_or-set_other xs c d ys [] ne) h)

module _ (graph : Graph) (pairs : List (ℕ × ℕ)) where
  -- what a letter leads to from one class has to be one
  pub leads_joined : (c : ℕ) (l : Label) (s t : ℕ) → Leads graph pairs c l s → Leads graph pairs c l t → Joined graph pairs s t
  leads_joined c l s t (less_s, (k, j, d, e, f)) (less_t, (m, i, g, h, p)) = joined_letter j i (e ∙ sym h) (joined_chain d (joined_back g)) f p

  -- and from a class that has to be one with it
  pub leads_on : (c d : ℕ) (l : Label) (t : ℕ) → Joined graph pairs c d → Leads graph pairs c l t → Leads graph pairs d l t
  leads_on c d l t one (less, (k, j, g, e, f)) = (less, (k, j, joined_chain g one, e, f))

  module _ (class : List ℕ) (members : List (List ℕ)) (letters : List (List (Label × ℕ))) (first : List ((ℕ × Label) × ℕ)) (todo : List (ℕ × ℕ)) (sound : AreSound graph pairs class members letters first todo) where
    pub sound-class : (k to : ℕ) → to < graph.count → Joined graph pairs k to → AreSound graph pairs (set class k to) members letters first todo
    sound-class k to less one = record {
      each = length-set class k to ∙ sound.each;
      members_each = sound.members_each;
      letters_each = sound.letters_each;
      class_joined = λ i inside. by i inside (cases_eq i k);
      members_joined = sound.members_joined;
      letters_lead = sound.letters_lead;
      first_leads = sound.first_leads;
      todo_joined = sound.todo_joined;
    }
      where
        by : (i : ℕ) → i < graph.count → (i ≡ k) ⊎ (i ≡ k → ⊥) → (slice_index (set class k to) i < graph.count) × Joined graph pairs i (slice_index (set class k to) i)
        by i inside (inl e) =
            let at : slice_index (set class k to) i ≡ to = ap (slice_index (set class k to)) e ∙ get_or-set_same class k to 0 (subst (λ n. k < n) (sym sound.each) (subst (λ n. n < graph.count) e inside)) in
            (subst (λ n. n < graph.count) (sym at) less, subst (Joined graph pairs i) (sym at) (subst (λ n. Joined graph pairs n to) (sym e) one))
        by i inside (inr ne) =
            let at : slice_index (set class k to) i ≡ slice_index class i = get_or-set_other class k i to 0 ne in
            let old = sound.class_joined i inside in
            (subst (λ n. n < graph.count) (sym at) old.0, subst (Joined graph pairs i) (sym at) old.1)

    pub sound-members : (c : ℕ) (ks : List ℕ) → ((k : ℕ) → Contains ks k → (k < graph.count) × Joined graph pairs k c) → AreSound graph pairs class (set members c ks) letters first todo
    sound-members c ks are = record {
      each = sound.each;
      members_each = length-set members c ks ∙ sound.members_each;
      letters_each = sound.letters_each;
      class_joined = sound.class_joined;
      members_joined = λ d k h. by d k (Contains-set_cases members c ks d k h);
      letters_lead = sound.letters_lead;
      first_leads = sound.first_leads;
      todo_joined = sound.todo_joined;
    }
      where
        by : (d k : ℕ) → ((d ≡ c) × Contains ks k) ⊎ Contains (get_or members d []) k → (k < graph.count) × Joined graph pairs k d
        by d k (inl (e, h)) = subst (λ n. (k < graph.count) × Joined graph pairs k n) (sym e) (are k h)
        by d k (inr h) = sound.members_joined d k h

    pub sound-letters : (c : ℕ) (ls : List (Label × ℕ)) → ((l : Label) (t : ℕ) → Contains ls (l, t) → Leads graph pairs c l t) → AreSound graph pairs class members (set letters c ls) first todo
    sound-letters c ls lead = record {
      each = sound.each;
      members_each = sound.members_each;
      letters_each = length-set letters c ls ∙ sound.letters_each;
      class_joined = sound.class_joined;
      members_joined = sound.members_joined;
      letters_lead = λ d l t h. by d l t (Contains-set_cases letters c ls d (l, t) h);
      first_leads = sound.first_leads;
      todo_joined = sound.todo_joined;
    }
      where
        by : (d : ℕ) (l : Label) (t : ℕ) → ((d ≡ c) × Contains ls (l, t)) ⊎ Contains (get_or letters d []) (l, t) → Leads graph pairs d l t
        by d l t (inl (e, h)) = subst (λ n. Leads graph pairs n l t) (sym e) (lead l t h)
        by d l t (inr h) = sound.letters_lead d l t h

    pub sound-first : (after : List ((ℕ × Label) × ℕ)) → ((c : ℕ) (l : Label) (t : ℕ) → lookup (letter_eq (c, l)) after ≡ Some t → Leads graph pairs c l t) → AreSound graph pairs class members letters after todo
    sound-first after lead = record {
      each = sound.each;
      members_each = sound.members_each;
      letters_each = sound.letters_each;
      class_joined = sound.class_joined;
      members_joined = sound.members_joined;
      letters_lead = sound.letters_lead;
      first_leads = lead;
      todo_joined = sound.todo_joined;
    }

    pub sound-todo : (after : List (ℕ × ℕ)) → ((i j : ℕ) → Contains after (i, j) → (i < graph.count) × (j < graph.count) × Joined graph pairs i j) → AreSound graph pairs class members letters first after
    sound-todo after joined = record {
      each = sound.each;
      members_each = sound.members_each;
      letters_each = sound.letters_each;
      class_joined = sound.class_joined;
      members_joined = sound.members_joined;
      letters_lead = sound.letters_lead;
      first_leads = sound.first_leads;
      todo_joined = joined;
    }

    -- a pair more
    pub sound-push : (s t : ℕ) → (s < graph.count) × (t < graph.count) × Joined graph pairs s t → AreSound graph pairs class members letters first (todo ++ (s, t) ∷ [])
    sound-push s t one = sound-todo (todo ++ (s, t) ∷ []) (λ i j h. by i j (Contains-push_cases todo (s, t) (i, j) h))
      where
        by : (i j : ℕ) → Contains todo (i, j) ⊎ ◌≡◌ {A = ℕ × ℕ} (s, t) (i, j) → (i < graph.count) × (j < graph.count) × Joined graph pairs i j
        by i j (inl h) = sound.todo_joined i j h
        by i j (inr e) = subst (λ (p : ℕ × ℕ). (p.0 < graph.count) × (p.1 < graph.count) × Joined graph pairs p.0 p.1) e one

    -- a first node more, for a class and a letter
    pub sound-insert : (c : ℕ) (l : Label) (t : ℕ) → Leads graph pairs c l t → (after : List ((ℕ × Label) × ℕ)) → ((q : ℕ × Label) → lookup (letter_eq q) after ≡ cond (letter_eq (c, l) q) (Some t) (lookup (letter_eq q) first)) → AreSound graph pairs class members letters after todo
    sound-insert c l t lead after updates = sound-first after (λ d k s e. by d k s e (letter_eq (c, l) (d, k)) refl)
      where
        some_same : (s : ℕ) → Some t ≡ Some s → t ≡ s
        some_same s e = cc

        by : (d : ℕ) (k : Label) (s : ℕ) → lookup (letter_eq (d, k)) after ≡ Some s → (b : Bool) → letter_eq (c, l) (d, k) ≡ b → Leads graph pairs d k s
        by d k s e true f =
            let same = letter_equal (c, l) (d, k) f in
            let end = some_same s (sym (updates (d, k) ∙ ap (λ b. cond b (Some t) (lookup (letter_eq (d, k)) first)) f) ∙ e) in
            subst (λ (p : ℕ × Label). Leads graph pairs p.0 p.1 s) same (subst (Leads graph pairs c l) end lead)
        by d k s e false f = sound.first_leads d k s (sym (updates (d, k) ∙ ap (λ b. cond b (Some t) (lookup (letter_eq (d, k)) first)) f) ∙ e)

    -- a first node fewer
    pub sound-remove : (c : ℕ) (l : Label) (after : List ((ℕ × Label) × ℕ)) → ((q : ℕ × Label) → lookup (letter_eq q) after ≡ cond (letter_eq (c, l) q) None (lookup (letter_eq q) first)) → AreSound graph pairs class members letters after todo
    sound-remove c l after updates = sound-first after (λ d k s e. by d k s e (letter_eq (c, l) (d, k)) refl)
      where
        by : (d : ℕ) (k : Label) (s : ℕ) → lookup (letter_eq (d, k)) after ≡ Some s → (b : Bool) → letter_eq (c, l) (d, k) ≡ b → Leads graph pairs d k s
        by d k s e true f = absurd (none-some s (sym (updates (d, k) ∙ ap (λ b. cond b None (lookup (letter_eq (d, k)) first)) f) ∙ e))
        by d k s e false f = sound.first_leads d k s (sym (updates (d, k) ∙ ap (λ b. cond b None (lookup (letter_eq (d, k)) first)) f) ∙ e)

    -- a letter more of a class
    pub sound-letter : (c : ℕ) (l : Label) (t : ℕ) → Leads graph pairs c l t → (old new : List (Label × ℕ)) → c < graph.count → old ≡ get_or letters c old → new ≡ old ++ (l, t) ∷ [] → AreSound graph pairs class members (set letters c new) first todo
    sound-letter c l t lead old new less read e = sound-letters c new (λ k s h. by k s (Contains-push_cases old (l, t) (k, s) (subst (λ ls. Contains ls (k, s)) e h)))
      where
        here : old ≡ get_or letters c []
        here = get_or_read letters c old (subst (λ n. c < n) (sym sound.letters_each) less) read []

        by : (k : Label) (s : ℕ) → Contains old (k, s) ⊎ ◌≡◌ {A = Label × ℕ} (l, t) (k, s) → Leads graph pairs c k s
        by k s (inl h) = sound.letters_lead c k s (subst (λ ls. Contains ls (k, s)) here h)
        by k s (inr f) = subst (λ (p : Label × ℕ). Leads graph pairs c p.0 p.1) f lead

    -- a member more of a class
    pub sound-member : (c k : ℕ) → (k < graph.count) × Joined graph pairs k c → (old new : List ℕ) → c < graph.count → old ≡ get_or members c old → new ≡ old ++ k ∷ [] → AreSound graph pairs class (set members c new) letters first todo
    sound-member c k one old new less read e = sound-members c new (λ m h. by m (Contains-push_cases old k m (subst (λ ks. Contains ks m) e h)))
      where
        here : old ≡ get_or members c []
        here = get_or_read members c old (subst (λ n. c < n) (sym sound.members_each) less) read []

        by : (m : ℕ) → Contains old m ⊎ (k ≡ m) → (m < graph.count) × Joined graph pairs m c
        by m (inl h) = sound.members_joined c m (subst (λ ks. Contains ks m) here h)
        by m (inr f) = subst (λ n. (n < graph.count) × Joined graph pairs n c) f one

-- what is taken out of a list of lists
pub taken : {X : Type 0} (xs : List (List X)) (c n : ℕ) (items out read : List X) → items ≡ out → out ≡ read → read ≡ get_or xs c read → c < n → n ≡ length xs → items ≡ get_or xs c []
taken xs c n items out read e f is less whole = e ∙ f ∙ get_or_read_under xs c n read [] is less whole

-- nothing is in an empty list
pub none_in : {X : Type 0} (xs : List X) (x : X) → xs ≡ [] → Contains xs x → ⊥
none_in xs x e h = Contains-none x (subst (λ ys. Contains ys x) e h)

-- the classes of two nodes that have to be one have to be one
pub classes_join : (graph : Graph) (pairs : List (ℕ × ℕ)) (class : List ℕ) (members : List (List ℕ)) (letters : List (List (Label × ℕ))) (first : List ((ℕ × Label) × ℕ)) (todo : List (ℕ × ℕ)) → AreSound graph pairs class members letters first todo →
    (i j a b : ℕ) → i < graph.count → j < graph.count → Joined graph pairs i j → a ≡ get_or class i a → b ≡ get_or class j b → (a < graph.count) × (b < graph.count) × Joined graph pairs a b
classes_join graph pairs class members letters first todo sound i j a b less_i less_j one read_a read_b =
    let at_a : a ≡ slice_index class i = get_or_read class i a (subst (λ n. i < n) (sym sound.each) less_i) read_a 0 in
    let at_b : b ≡ slice_index class j = get_or_read class j b (subst (λ n. j < n) (sym sound.each) less_j) read_b 0 in
    let of_a = sound.class_joined i less_i in
    let of_b = sound.class_joined j less_j in (
      subst (λ n. n < graph.count) (sym at_a) of_a.0,
      subst (λ n. n < graph.count) (sym at_b) of_b.0,
      subst (λ n. Joined graph pairs n b) (sym at_a) (subst (λ n. Joined graph pairs (slice_index class i) n) (sym at_b) (joined_chain (joined_back of_a.1) (joined_chain one of_b.1))),
    )
