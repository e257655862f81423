-- The numbers of places, and the edges and definitions of sites by their numbers.
use Rattle.std.proofs.Common.{◌≡◌, ℕ, suc, ◌+◌, ◌<◌, ◌≤◌, ◌⊎◌, inl, inr, true, false, ℤ, pos, Err, List, [], ◌∷◌, ◌++◌, length, get_or, map, take, cond, refl, sym, ap, subst, ◌∙◌, arith, append_assoc}
use Rattle.std.specs.Prelude.{All, Contains}
use Rattle.std.specs.declared.cmp.Ordering.TheVariants.{Equal}
use Rattle.std.specs.List.{HoldsAt}
use Rattle.std.specs.List.Sorted.{IsBinarySearchResult}
use Rattle.std.proofs.lemmas.Bool.{cases_lt}
use Rattle.std.proofs.lemmas.List.{append-nil, get_or_default, map_more, take_more, length-map, length-take-le, get_or-map}
use Rattle.std.proofs.lemmas.List.Elements.{All-nil, All-append, All-map, All-head, All-tail, All-weaker, Contains-append_cases}
use Rattle.std.proofs.lemmas.List.Recursion.{is_position_or_len}
use Rattle.std.proofs.lemmas.List.Sums.{fails_before_first}
use Rattle.rt_link.specs.declared.place.Place.{Place}
use Rattle.rt_link.specs.Effects.{is_place}
use Rattle.rt_proc.specs.declared.site.Site.{Site}
use Rattle.rt_flow.specs.Bodies.{Body}
use Rattle.rt_proc.specs.Order.{AreAscending, place_cmp}
use Rattle.rt_proc.specs.Sites.{number_of}
use Rattle.rt_proc.proofs.Numbered.{found, missed}
use Rattle.rt_proc.proofs.PlaceLaws.{is_place-laws}
use Rattle.rt_body.specs.declared.action.Action.{Action}
use Rattle.rt_body.specs.Actions.{defined_by}
use Rattle.rt_body.specs.Readings.{number_at, edges_from, definitions_from, action_at}
use Rattle.rt_link.proofs.Naming.{is_place-self}

number_is : (places : List Place) (p : Place) → number_of places p ≡ number_at places p
number_is places p = is_position_or_len (λ (xs : List Place). number_of xs p) (is_place p) refl step places
  where
    step : (q : Place) (qs : List Place) → number_of (q ∷ qs) p ≡ cond (is_place p q) 0 (1 + number_of qs p)
    step q qs = ap (λ b. cond b 0 (number_of qs p + 1)) (is_place-laws.symm q p) ∙ ap (λ n. cond (is_place p q) 0 n) (omega arith)

pub number_found : (places : List Place) (p : Place) (i : ℕ) → AreAscending places → i < length places → HoldsAt (λ q. place_cmp q p ≡ Equal) places i → i ≡ number_at places p
number_found places p i ascending within at = (found places p i ascending within at).number ∙ number_is places p

pub number_missed : (places : List Place) (p : Place) (i : ℕ) → AreAscending places → IsBinarySearchResult (λ q. place_cmp q p) places (Err i) → length places ≡ number_at places p
number_missed places p i ascending answer = (missed places p i ascending answer).number ∙ number_is places p

-- the number of one of the places is below their count
pub number_within : (places : List Place) (p : Place) → Contains places p → number_at places p < length places
number_within places p (k, less, e) = by (cases_lt (number_at places p) (length places))
  where
    by : (number_at places p < length places) ⊎ (length places ≤ number_at places p) → number_at places p < length places
    by (inl h) = h
    by (inr h) =
        let fails : is_place p (get_or places k p) ≡ false = fails_before_first (is_place p) places k p (omega arith) in
        let no : true ≡ false = sym (is_place-self p) ∙ subst (λ (q : Place). is_place p q ≡ false) e fails in
        cc

-- what each item of a list gives by its number, with one more item
module _ {X Y : Type 0} (each : ℕ → X → List Y) (all : ℕ → List X → List Y) (none : (i : ℕ) → all i [] ≡ []) (more : (i : ℕ) (x : X) (xs : List X) → all i (x ∷ xs) ≡ each i x ++ all (i + 1) xs) where
  all_push : (i : ℕ) (xs : List X) (x : X) → all i (xs ++ x ∷ []) ≡ all i xs ++ each (i + length xs) x
  all_push i [] x =
      let e : i + 0 ≡ i = omega arith in
      more i x [] ∙ ap (λ ys. each i x ++ ys) (none (i + 1)) ∙ append-nil (each i x) ∙ ap (λ n. each n x) (sym e) ∙ ap (λ ys. ys ++ each (i + 0) x) (sym (none i))
  all_push i (y ∷ ys) x =
      let e : i + 1 + length ys ≡ i + suc (length ys) = omega arith in
      more i y (ys ++ x ∷ [])
      ∙ ap (λ zs. each i y ++ zs) (all_push (i + 1) ys x)
      ∙ sym (append_assoc (each i y) (all (i + 1) ys) (each (i + 1 + length ys) x))
      ∙ ap (λ zs. zs ++ each (i + 1 + length ys) x) (sym (more i y ys))
      ∙ ap (λ n. all i (y ∷ ys) ++ each n x) e

-- one more site's edges, and one more site's definitions
pub edges_push : (places : List Place) (i : ℕ) (sites : List Site) (site : Site) → edges_from places i (sites ++ site ∷ []) ≡ edges_from places i sites ++ map (λ to. (i + length sites, number_at places to)) site.next
edges_push places i sites site =
    all_push (λ (n : ℕ) (s : Site). map (λ to. (n, number_at places to)) s.next) (edges_from places) (λ n. refl) (λ n s ss. refl) i sites site

pub definitions_push : (i : ℕ) (actions : List Action) (action : Action) → definitions_from i (actions ++ action ∷ []) ≡ definitions_from i actions ++ map (λ register. (i + length actions, pos register)) (defined_by action)
definitions_push i actions action =
    all_push (λ (n : ℕ) (a : Action). map (λ register. (n, pos register)) (defined_by a)) definitions_from (λ n. refl) (λ n a as_. refl) i actions action

-- of the first of a list's items, and the next one
module _ (places : List Place) (sites : List Site) (n : ℕ) (site : Site) (less : n < length sites) (is : site ≡ get_or sites n site) where
  pub edges_more : edges_from places 0 (take (n + 1) sites) ≡ edges_from places 0 (take n sites) ++ map (λ to. (n, number_at places to)) site.next
  edges_more =
      let long : 0 + length (take n sites) ≡ n = omega (arith, length-take-le n sites (omega arith)) in
      ap (edges_from places 0) (take_more sites n site less ∙ ap (λ (s : Site). take n sites ++ s ∷ []) (sym is))
      ∙ edges_push places 0 (take n sites) site
      ∙ ap (λ k. edges_from places 0 (take n sites) ++ map (λ to. (k, number_at places to)) site.next) long

module _ (actions : List Action) (n : ℕ) (action : Action) (less : n < length actions) (is : action ≡ get_or actions n action) where
  pub definitions_more : definitions_from 0 (take (n + 1) actions) ≡ definitions_from 0 (take n actions) ++ map (λ register. (n, pos register)) (defined_by action)
  definitions_more =
      let long : 0 + length (take n actions) ≡ n = omega (arith, length-take-le n actions (omega arith)) in
      ap (definitions_from 0) (take_more actions n action less ∙ ap (λ (a : Action). take n actions ++ a ∷ []) (sym is))
      ∙ definitions_push 0 (take n actions) action
      ∙ ap (λ k. definitions_from 0 (take n actions) ++ map (λ register. (k, pos register)) (defined_by action)) long

-- edges lead from the sites to places
pub edges_within : (places : List Place) (i : ℕ) (sites : List Site) → All (λ (site : Site). All (Contains places) site.next) sites
    → All (λ e. (e.0 < i + length sites) × (e.1 < length places)) (edges_from places i sites)
edges_within places i [] all = All-nil (λ e. (e.0 < i + 0) × (e.1 < length places))
edges_within places i (site ∷ sites) all =
    let P : ℕ × ℕ → Type 0 = λ e. (e.0 < i + suc (length sites)) × (e.1 < length places) in
    let first : All (Contains places) site.next = All-head (λ (s : Site). All (Contains places) s.next) site sites all in
    let rest = edges_within places (i + 1) sites (All-tail (λ (s : Site). All (Contains places) s.next) site sites all) in
    All-append P (map (λ to. (i, number_at places to)) site.next) (edges_from places (i + 1) sites)
    (All-map P (λ (to : Place). (i, number_at places to)) site.next (All-weaker (Contains places) (λ (to : Place). P (i, number_at places to)) (λ to c. (omega arith, number_within places to c)) site.next first))
    (All-weaker (λ e. (e.0 < i + 1 + length sites) × (e.1 < length places)) P (λ e h. (omega (arith, h.0), h.1)) (edges_from places (i + 1) sites) rest)

mapped : (i : ℕ) (registers : List ℕ) (s r : ℕ) → let d : ℕ × ℤ = (s, pos r) in Contains (map (λ register. (i, pos register)) registers) d → (s ≡ i) × Contains registers r
mapped i registers s r (k, less, e) =
    let here : k < length registers = omega (arith, simp length-map at less) in
    let d : ℕ × ℤ = (i, pos (get_or registers k r)) in
    let same : d ≡ (s, pos r) = sym (get_or-map (λ (register : ℕ). (i, pos register)) registers k r (s, pos r) here) ∙ e in
    let there : get_or registers k r ≡ r = same_pos (get_or registers k r) r (ap (λ (x : ℕ × ℤ). x.1) same) in
    (sym (ap (λ (x : ℕ × ℤ). x.0) same), (k, here, there))
  where
    same_pos : (m n : ℕ) → pos m ≡ pos n → m ≡ n
    same_pos m n f = cc

-- a definition is by the action of its site
pub record IsBy (i : ℕ) (actions : List Action) (s r : ℕ) : Type 0 where
  pub number : ℕ
  pub is_number : s ≡ i + number
  pub within : number < length actions
  pub by_action : Contains (defined_by (action_at actions number)) r

pub defined_at : (i : ℕ) (actions : List Action) (s r : ℕ) → let d : ℕ × ℤ = (s, pos r) in Contains (definitions_from i actions) d → IsBy i actions s r
defined_at i [] s r (k, less, e) = absurd (omega arith)
defined_at i (action ∷ actions) s r c = by (defined_at (i + 1) actions s r) (Contains-append_cases (map (λ register. (i, pos register)) (defined_by action)) (definitions_from (i + 1) actions) (s, pos r) c)
  where
    by : (let d : ℕ × ℤ = (s, pos r) in Contains (definitions_from (i + 1) actions) d → IsBy (i + 1) actions s r)
        → (let d : ℕ × ℤ = (s, pos r) in Contains (map (λ register. (i, pos register)) (defined_by action)) d ⊎ Contains (definitions_from (i + 1) actions) d) → IsBy i (action ∷ actions) s r
    by rest (inl h) = let f = mapped i (defined_by action) s r h in record { number = 0; is_number = omega (arith, f.0); within = omega arith; by_action = f.1 }
    by rest (inr h) = let f = rest h in record { number = suc f.number; is_number = omega (arith, f.is_number); within = omega (arith, f.within); by_action = f.by_action }

-- a list that goes on by one more item of another
pub joined_more : {X Y : Type 0} (f : X → Y) (xs : List X) (i : ℕ) (d : X) (old now new : List Y) (y : Y) → i < length xs → now ≡ old ++ map f (take i xs) → new ≡ now ++ y ∷ [] → y ≡ f (get_or xs i d)
    → new ≡ old ++ map f (take (i + 1) xs)
joined_more f xs i d old now new y less now_is new_is y_is =
    new_is ∙ ap (λ ys. ys ++ y ∷ []) now_is ∙ append_assoc old (map f (take i xs)) (y ∷ []) ∙ ap (λ z. old ++ (map f (take i xs) ++ z ∷ [])) y_is ∙ ap (λ zs. old ++ zs) (sym (map_more f xs i d less))

-- a body that goes on by one more site's definitions
pub defining_more : (actions : List Action) (n : ℕ) (d : Action) (old now new : Body) (registers : List ℕ) → n < length actions
    → now ≡ record old { defs = old.defs ++ definitions_from 0 (take n actions) } → new ≡ record now { defs = now.defs ++ map (λ register. (n, pos register)) registers } → registers ≡ defined_by (get_or actions n d)
    → new ≡ record old { defs = old.defs ++ definitions_from 0 (take (n + 1) actions) }
defining_more actions n d old now new registers less now_is new_is are =
    let action : Action = get_or actions n d in
    let more = definitions_more actions n action less (get_or_default actions n d action less) in
    let with : List (ℕ × ℤ) → Body = λ defs. record old { defs = defs } in
    new_is
    ∙ ap (λ (body : Body). record body { defs = body.defs ++ map (λ register. (n, pos register)) registers }) now_is
    ∙ ap with (append_assoc old.defs (definitions_from 0 (take n actions)) (map (λ register. (n, pos register)) registers))
    ∙ ap (λ (rs : List ℕ). with (old.defs ++ (definitions_from 0 (take n actions) ++ map (λ register. (n, pos register)) rs))) are
    ∙ ap (λ defs. with (old.defs ++ defs)) (sym more)
