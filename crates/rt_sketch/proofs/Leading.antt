-- The sets that a step leads to.
use Rattle.std.proofs.Common.{◌≡◌, ℕ, ◌<◌, ◌⊎◌, inl, inr, true, false, Option, Some, None, IsSome, List, [], Contains, length, refl, sym, ap, subst, ◌∙◌}
use Rattle.std.specs.Prelude.{◌↔◌}
use Rattle.std.specs.Option.{option_map}
use Rattle.rt_base.proofs.Lists.{Contains-none}
use Rattle.rt_lines.specs.declared.label.Label.{Label}
use Rattle.rt_lines.specs.declared.label.Label.TheVariants.{In, Out, Load, Store, Field}
use Rattle.rt_lines.specs.declared.label.Variance.{Variance}
use Rattle.rt_lines.specs.declared.label.Variance.TheVariants.{Co, Contra}
use Rattle.rt_lines.specs.Words.{label_variance, times}
use Rattle.rt_lines.specs.declared.variable.Dtv.{Dtv}
use Rattle.rt_lines.specs.declared.line.Line.{Line}
use Rattle.rt_lines.specs.declared.line.Line.TheVariants.{Var, Same}
use Rattle.rt_lines.specs.Orders.{Below}
use Rattle.rt_rules.specs.Rules.{longer, Derivable}
use Rattle.rt_rules.specs.Rules.Derivable.{same_letter, same_sub, same_self, same_back, same_chain, same_longer, sub_line, sub_pointer}
use Rattle.rt_named.specs.Naming.{named as all_named}
use Rattle.rt_loose.specs.Kinds.{Kind, flexible, signed, IsPointer, Flips, Push}
use Rattle.rt_loose.specs.Kinds.Push.{half, kept}
use Rattle.rt_loose.specs.Ways.{Way}
use Rattle.rt_loose.specs.Ways.Way.{here, up, down, flexible_up, flexible_down, join, push}
use Rattle.rt_loose.specs.Sets.{Sets, AreThose, AreLed, IsBehind, IsNext, set_for}
use Rattle.rt_ways.specs.Arcs.{IsInRow}
use Rattle.rt_ways.specs.Inside.Frames.{or_else}
use Rattle.rt_ways.specs.Nets.{Net, AreWaysOf, class_at}
use Rattle.rt_ways.specs.Pushes.{IsMade, step_of, variable_at}
use Rattle.rt_ways.proofs.Knowing.{at_named, named_derives, number_in}
use Rattle.rt_sketch.specs.States.{AreNumbers, members, sets_of, variables}
use Rattle.rt_sketch.specs.Inside.Steps.{AreAll, IsLed, hub_in, next_class}
use Rattle.rt_sketch.proofs.Members.{member_has, member_source, members_in, variable_has, variable_source}
use Rattle.rt_base.proofs.Options.{not_some}

-- variables between which a way leads have one shape
pointers_same : (order : Below) (lines : List Line) (y : Dtv) (l m : Label) → IsPointer l → IsPointer m → Flips order lines y → Derivable order lines (Same (longer y l) (longer y m))
pointers_same order lines y Load Load p q f = same_self f.0
pointers_same order lines y Store Store p q f = same_self f.1
pointers_same order lines y Load Store p q f = same_back (same_sub (sub_pointer y f.0 f.1))
pointers_same order lines y Store Load p q f = same_sub (sub_pointer y f.0 f.1)
pointers_same order lines y (In k) m p q f = absurd p
pointers_same order lines y (Out k) m p q f = absurd p
pointers_same order lines y (Field w k) m p q f = absurd p
pointers_same order lines y Load (In k) p q f = absurd q
pointers_same order lines y Load (Out k) p q f = absurd q
pointers_same order lines y Load (Field w k) p q f = absurd q
pointers_same order lines y Store (In k) p q f = absurd q
pointers_same order lines y Store (Out k) p q f = absurd q
pointers_same order lines y Store (Field w k) p q f = absurd q

pub flips_over : (order : Below) (lines : List Line) (x y : Dtv) → Derivable order lines (Same x y) → Flips order lines x → Flips order lines y
flips_over order lines x y e f = (same_letter Load e f.0, same_letter Store e f.1)

pushed_same : (order : Below) (lines : List Line) (x y : Dtv) (l m : Label) (d k : Kind) → Derivable order lines (Same x y) → Derivable order lines (Var (longer x l)) → Push order lines x l m d k →
    Derivable order lines (Same (longer x l) (longer y m))
pushed_same order lines x y l m d k e v (half p q f) = same_chain (same_longer l e v) (pointers_same order lines y l m p q (flips_over order lines x y e f))
pushed_same order lines x y l m d k e v kept = same_longer l e v

pub way_same : (order : Below) (lines : List Line) (M : Dtv → Type 0) {x y : Dtv} {k : Kind} → Way order lines M x y k → Derivable order lines (Same x y)
way_same order lines M (here k m v) = same_self v
way_same order lines M (up c) = same_sub (sub_line c)
way_same order lines M (down c) = same_back (same_sub (sub_line c))
way_same order lines M (flexible_up c) = same_sub (sub_line c)
way_same order lines M (flexible_down c) = same_back (same_sub (sub_line c))
way_same order lines M (join p q) = same_chain (way_same order lines M p) (way_same order lines M q)
way_same order lines M (push {x} {y} {l} {m} {d} {k} a b v w c s) = pushed_same order lines x y l m d k (way_same order lines M c) v s

module _ (lines : List Line) (net : Net) (is : AreWaysOf lines net) (order : Below) where
  abbrev xs : List Dtv
  xs = net.named

  abbrev ks : List Dtv
  ks = all_named lines []

  abbrev at : ℕ → Dtv
  at n = variable_at xs n

  abbrev Ways : Dtv → Dtv → Kind → Type 0
  Ways = Way order lines (Contains ks)

  to_all : {x : Dtv} → Contains xs x → Contains ks x
  to_all {x} c = subst (λ ys. Contains ys x) is.named c

  from_all : {x : Dtv} → Contains ks x → Contains xs x
  from_all {x} c = subst (λ ys. Contains ys x) (sym is.named) c

  ways_all : {x y : Dtv} {k : Kind} → Way order lines (Contains xs) x y k → Ways x y k
  ways_all {x} {y} {k} w = subst (λ ys. Way order lines (Contains ys) x y k) is.named w

  all_ways : {x y : Dtv} {k : Kind} → Ways x y k → Way order lines (Contains xs) x y k
  all_ways {x} {y} {k} w = subst (λ ys. Way order lines (Contains ys) x y k) (sym is.named) w

  there_at : (n : ℕ) → n < length xs → Contains ks (at n)
  there_at n h = to_all (at_named xs n h)

  derives : (x : Dtv) → Contains ks x → Derivable order lines (Var x)
  derives x c = named_derives order lines x c

  number_of : (x : Dtv) → Contains ks x → (n : ℕ) × (n < length xs) × (at n ≡ x)
  number_of x c = number_in xs x (from_all c)

  -- classes and ways
  class_way : (i j : ℕ) → i < length xs → j < length xs → class_at net i ≡ class_at net j → Ways (at i) (at j) flexible
  class_way i j h k e = ways_all ((is.classes order i j h k).0 e)

  way_class : (i j : ℕ) → i < length xs → j < length xs → Ways (at i) (at j) flexible → class_at net i ≡ class_at net j
  way_class i j h k w = (is.classes order i j h k).1 (all_ways w)

  push_at : (m n p q : ℕ) (l o : Label) (d k : Kind) → IsMade xs m p l → IsMade xs n q o → Ways (at p) (at q) d → Push order lines (at p) l o d k → Ways (at m) (at n) k
  push_at m n p q l o d k x y w s =
      let c : Contains ks (longer (at p) l) = subst (Contains ks) x.is (there_at m x.within) in
      let e : Contains ks (longer (at q) o) = subst (Contains ks) y.is (there_at n y.within) in
      subst (λ a. Ways a (at n) k) (sym x.is) (subst (λ a. Ways (longer (at p) l) a k) (sym y.is) (push c e (derives (longer (at p) l) c) (derives (longer (at q) o) e) w s))

  -- what is behind a letter of the numbers is made of one of them
  behind_source : (numbers : List ℕ) (l : Label) (y : Dtv) → AreNumbers net numbers → IsBehind ks (variables net numbers) l y →
      (m : ℕ) × (q : ℕ) × Contains numbers q × IsMade xs m q l × (at m ≡ y)
  behind_source numbers l y in_them b =
      let v : (q : ℕ) × Contains numbers q × (at q ≡ b.1) = variable_source net numbers b.1 b.2 in
      let m : (m : ℕ) × (m < length xs) × (at m ≡ y) = number_of y b.0 in
      (m.0, v.0, v.1, record { within = m.1; parent = in_them v.0 v.1; is = m.2 ∙ sym b.3 ∙ ap (λ z. longer z l) (sym v.2) }, m.2)

  behind_has : (numbers : List ℕ) (l : Label) (m q : ℕ) → Contains numbers q → IsMade xs m q l → IsBehind ks (variables net numbers) l (at m)
  behind_has numbers l m q c made = (there_at m made.within, at q, variable_has net numbers q c, sym made.is)

  -- rows of a relation
  module _ (rows : List (List ℕ)) (R : Dtv → Dtv → Type 0) (in_rows : (i m : ℕ) → i < length xs → m < length xs → IsInRow rows m i ↔ R (at i) (at m))
      (within : (m i : ℕ) → IsInRow rows m i → i < length xs) where
    pub led_those : (numbers all : List ℕ) (l : Label) → AreNumbers net numbers → AreAll (IsLed net rows numbers l) all →
        AreThose ks (λ x. (y : Dtv) × IsBehind ks (variables net numbers) l y × R x y) (variables net all)
    led_those numbers all l in_them are x = (forth, back)
      where
        forth : Contains (variables net all) x → Contains ks x × ((y : Dtv) × IsBehind ks (variables net numbers) l y × R x y)
        forth c =
            let v : (i : ℕ) × Contains all i × (at i ≡ x) = variable_source net all x c in
            let led : IsLed net rows numbers l v.0 = (are v.0).0 v.1 in
            let made : IsMade xs led.1 led.0 l = (is.steps led.1 led.0 l).0 led.3 in
            let h : v.0 < length xs = within led.1 v.0 led.4 in
            (subst (Contains ks) v.2 (there_at v.0 h), (at led.1, behind_has numbers l led.1 led.0 led.2 made, subst (λ z. R z (at led.1)) v.2 ((in_rows v.0 led.1 h made.within).0 led.4)))

        back : Contains ks x × ((y : Dtv) × IsBehind ks (variables net numbers) l y × R x y) → Contains (variables net all) x
        back p =
            let i : (i : ℕ) × (i < length xs) × (at i ≡ x) = number_of x p.0 in
            let b : (m : ℕ) × (q : ℕ) × Contains numbers q × IsMade xs m q l × (at m ≡ p.1.0) = behind_source numbers l p.1.0 in_them p.1.1 in
            let r : R (at i.0) (at b.0) = subst (λ z. R z (at b.0)) (sym i.2) (subst (R x) (sym b.4) p.1.2) in
            subst (Contains (variables net all)) i.2 (variable_has net all i.0 ((are i.0).1 (b.1, b.0, b.2, (is.steps b.0 b.1 l).1 b.3, (in_rows i.0 b.0 i.1 b.3.within).1 r)))

    -- of one number
    pub row_those : (n : ℕ) (all : List ℕ) (Begins : Dtv → Type 0) → n < length xs → AreAll (IsInRow rows n) all → Begins (at n) → ((x y : Dtv) → Contains ks x → Begins y → R x y → R x (at n)) →
        AreThose ks (λ x. (y : Dtv) × Begins y × R x y) (variables net all)
    row_those n all Begins h are begins to x = (forth, back)
      where
        forth : Contains (variables net all) x → Contains ks x × ((y : Dtv) × Begins y × R x y)
        forth c =
            let v : (i : ℕ) × Contains all i × (at i ≡ x) = variable_source net all x c in
            let e : IsInRow rows n v.0 = (are v.0).0 v.1 in
            let k : v.0 < length xs = within n v.0 e in
            (subst (Contains ks) v.2 (there_at v.0 k), (at n, begins, subst (λ z. R z (at n)) v.2 ((in_rows v.0 n k h).0 e)))

        back : Contains ks x × ((y : Dtv) × Begins y × R x y) → Contains (variables net all) x
        back p =
            let i : (i : ℕ) × (i < length xs) × (at i ≡ x) = number_of x p.0 in
            let r : R (at i.0) (at n) = subst (λ z. R z (at n)) (sym i.2) (to x p.1.0 p.0 p.1.1 p.1.2) in
            subst (Contains (variables net all)) i.2 (variable_has net all i.0 ((are i.0).1 ((in_rows i.0 n i.1 h).1 r)))

  pub none_those : (Has : Dtv → Type 0) (all : List ℕ) → AreAll (λ w. ⊥) all → ((x : Dtv) → Contains ks x → Has x → ⊥) → AreThose ks Has (variables net all)
  none_those Has all are not x = (
    λ c. (let v : (i : ℕ) × Contains all i × (at i ≡ x) = variable_source net all x c in absurd ((are v.0).0 v.1)),
    λ p. absurd (not x p.0 p.1),
  )

  abbrev IsLower : Dtv → Dtv → Type 0
  IsLower x y = Ways x y (signed Co)

  abbrev IsUpper : Dtv → Dtv → Type 0
  IsUpper x y = Ways y x (signed Co)

  pub lower_rows : (i m : ℕ) → i < length xs → m < length xs → IsInRow net.below m i ↔ IsLower (at i) (at m)
  lower_rows i m h k = (λ c. ways_all ((is.below order i m h k).0 c), λ w. (is.below order i m h k).1 (all_ways w))

  pub upper_rows : (i m : ℕ) → i < length xs → m < length xs → IsInRow net.above m i ↔ IsUpper (at i) (at m)
  upper_rows i m h k = (λ c. ways_all ((is.above order m i k h).0 c), λ w. (is.above order m i k h).1 (all_ways w))

  -- the members of a class
  pub class_those : (n : ℕ) (Begins : Dtv → Type 0) → n < length xs → Begins (at n) → ((y : Dtv) → Begins y → Ways y (at n) flexible) →
      AreThose ks (λ x. (y : Dtv) × Begins y × Ways x y flexible) (variables net (members net (Some (class_at net n))))
  class_those n Begins h begins to x = (forth, back)
    where
      forth : Contains (variables net (members net (Some (class_at net n)))) x → Contains ks x × ((y : Dtv) × Begins y × Ways x y flexible)
      forth c =
          let v : (i : ℕ) × Contains (members net (Some (class_at net n))) i × (at i ≡ x) = variable_source net (members net (Some (class_at net n))) x c in
          let m : (v.0 < length xs) × (class_at net v.0 ≡ class_at net n) = member_source net (class_at net n) v.0 v.1 in
          (subst (Contains ks) v.2 (there_at v.0 m.0), (at n, begins, subst (λ z. Ways z (at n) flexible) v.2 (class_way v.0 n m.0 h m.1)))

      back : Contains ks x × ((y : Dtv) × Begins y × Ways x y flexible) → Contains (variables net (members net (Some (class_at net n)))) x
      back p =
          let i : (i : ℕ) × (i < length xs) × (at i ≡ x) = number_of x p.0 in
          let w : Ways (at i.0) (at n) flexible = subst (λ z. Ways z (at n) flexible) (sym i.2) (join p.1.2 (to p.1.0 p.1.1)) in
          subst (Contains (variables net (members net (Some (class_at net n))))) i.2 (variable_has net (members net (Some (class_at net n))) i.0 (member_has net (class_at net n) i.0 i.1 (way_class i.0 n i.1 h w)))

  -- the class behind a letter
  pub next_those : (class : Option ℕ) (l : Label) →
      AreThose ks (λ x. (y : Dtv) × IsBehind ks (variables net (members net class)) l y × Ways x y flexible) (variables net (members net (next_class net class l)))
  next_those None l = none_those (λ x. (y : Dtv) × IsBehind ks (variables net []) l y × Ways x y flexible) [] (λ w. (λ c. Contains-none w c, λ z. absurd z)) (λ x c p. Contains-none p.1.1 p.1.2)
  next_those (Some c) l = by (step_of net.behind c l) refl
    where
      by : (o : Option ℕ) → step_of net.behind c l ≡ o →
          AreThose ks (λ x. (y : Dtv) × IsBehind ks (variables net (members net (Some c))) l y × Ways x y flexible) (variables net (members net (option_map (class_at net) o)))
      by None e = none_those (λ x. (y : Dtv) × IsBehind ks (variables net (members net (Some c))) l y × Ways x y flexible) [] (λ w. (λ d. Contains-none w d, λ z. absurd z)) (λ x d p. nothing e p.0 p.1)
        where
          nothing : step_of net.behind c l ≡ None → (y : Dtv) → IsBehind ks (variables net (members net (Some c))) l y → ⊥
          nothing e y b =
              let s : (m : ℕ) × (q : ℕ) × Contains (members net (Some c)) q × IsMade xs m q l × (at m ≡ y) = behind_source (members net (Some c)) l y (members_in net (Some c)) b in
              let q : (s.1 < length xs) × (class_at net s.1 ≡ c) = member_source net c s.1 s.2 in
              let h : IsSome (step_of net.behind c l) = subst (λ k. IsSome (step_of net.behind k l)) q.1 (is.behind_all s.0 s.1 l s.3) in
              not_some (subst IsSome e h)
      by (Some f) e =
          let r : (p : ℕ) × IsMade xs f p l × (class_at net p ≡ c) = is.behind_found c f l e in
          class_those f (IsBehind ks (variables net (members net (Some c))) l) r.1.within (behind_has (members net (Some c)) l f r.0 (member_has net c r.0 r.1.parent r.2) r.1) (to r.0 r.1 r.2)
        where
          to : (p : ℕ) → IsMade xs f p l → class_at net p ≡ c → (y : Dtv) → IsBehind ks (variables net (members net (Some c))) l y → Ways y (at f) flexible
          to p made g y b =
              let s : (m : ℕ) × (q : ℕ) × Contains (members net (Some c)) q × IsMade xs m q l × (at m ≡ y) = behind_source (members net (Some c)) l y (members_in net (Some c)) b in
              let q : (s.1 < length xs) × (class_at net s.1 ≡ c) = member_source net c s.1 s.2 in
              subst (λ z. Ways z (at f) flexible) s.4 (push_at s.0 f s.1 p l l flexible flexible s.3 made (class_way s.1 p q.0 made.parent (q.1 ∙ sym g)) kept)

  -- a number behind a load or a store of a class
  record Hub (class : Option ℕ) (n : ℕ) : Type 0 where
    group : ℕ
    is_group : class ≡ Some group
    parent : ℕ
    letter : Label
    made : IsMade xs n parent letter
    of_class : class_at net parent ≡ group
    pointer : IsPointer letter

  hub_of_class : (c n : ℕ) (o : Option ℕ) → step_of net.behind c Load ≡ o → or_else o (step_of net.behind c Store) ≡ Some n → Hub (Some c) n
  hub_of_class c n None e f = let r : (p : ℕ) × IsMade xs n p Store × (class_at net p ≡ c) = is.behind_found c n Store f in
      record { group = c; is_group = refl; parent = r.0; letter = Store; made = r.1; of_class = r.2; pointer = tt }
  hub_of_class c n (Some m) e f = let r : (p : ℕ) × IsMade xs n p Load × (class_at net p ≡ c) = is.behind_found c n Load (e ∙ f) in
      record { group = c; is_group = refl; parent = r.0; letter = Load; made = r.1; of_class = r.2; pointer = tt }

  hub_source : (class : Option ℕ) (n : ℕ) → hub_in net class ≡ Some n → Hub class n
  hub_source None n e = absurd (cc)
  hub_source (Some c) n e = hub_of_class c n (step_of net.behind c Load) refl e

  -- what begins where loads and stores can be exchanged
  abbrev Begun : Option ℕ → Dtv → Type 0
  Begun class y = IsBehind ks (variables net (members net class)) Load y ⊎ IsBehind ks (variables net (members net class)) Store y

  record Beginning (class : Option ℕ) (y : Dtv) : Type 0 where
    number : ℕ
    parent : ℕ
    letter : Label
    among : Contains (members net class) parent
    made : IsMade xs number parent letter
    pointer : IsPointer letter
    stands : at number ≡ y

  beginning : (class : Option ℕ) (y : Dtv) → Begun class y → Beginning class y
  beginning class y (inl b) = let s : (m : ℕ) × (q : ℕ) × Contains (members net class) q × IsMade xs m q Load × (at m ≡ y) = behind_source (members net class) Load y (members_in net class) b in
      record { number = s.0; parent = s.1; letter = Load; among = s.2; made = s.3; pointer = tt; stands = s.4 }
  beginning class y (inr b) = let s : (m : ℕ) × (q : ℕ) × Contains (members net class) q × IsMade xs m q Store × (at m ≡ y) = behind_source (members net class) Store y (members_in net class) b in
      record { number = s.0; parent = s.1; letter = Store; among = s.2; made = s.3; pointer = tt; stands = s.4 }

  hub_some : (c : ℕ) (l : Label) → IsPointer l → IsSome (step_of net.behind c l) → (o : Option ℕ) → step_of net.behind c Load ≡ o → IsSome (or_else o (step_of net.behind c Store))
  hub_some c l p s (Some n) e = refl
  hub_some c Load p s None e = absurd (not_some (subst IsSome e s))
  hub_some c Store p s None e = s
  hub_some c (In k) p s None e = absurd p
  hub_some c (Out k) p s None e = absurd p
  hub_some c (Field w k) p s None e = absurd p

  hub_none : (class : Option ℕ) → hub_in net class ≡ None → (y : Dtv) → Begun class y → ⊥
  hub_none None e y b = let s : Beginning None y = beginning None y b in Contains-none s.parent s.among
  hub_none (Some c) e y b =
      let s : Beginning (Some c) y = beginning (Some c) y b in
      let q : (s.parent < length xs) × (class_at net s.parent ≡ c) = member_source net c s.parent s.among in
      let h : IsSome (step_of net.behind c s.letter) = subst (λ k. IsSome (step_of net.behind k s.letter)) q.1 (is.behind_all s.number s.parent s.letter s.made) in
      not_some (subst IsSome e (hub_some c s.letter s.pointer h (step_of net.behind c Load) refl))

  member_as : (class : Option ℕ) (c q : ℕ) → class ≡ Some c → Contains (members net class) q → (q < length xs) × (class_at net q ≡ c)
  member_as class c q e m = member_source net c q (subst (λ o. Contains (members net o) q) e m)

  hub_member : (class : Option ℕ) (n : ℕ) (h : Hub class n) → Contains (members net class) h.parent
  hub_member class n h = subst (λ o. Contains (members net o) h.parent) (sym h.is_group) (member_has net h.group h.parent h.made.parent h.of_class)

  module _ (class : Option ℕ) (flips : (q : ℕ) → Contains (members net class) q → Flips order lines (at q)) where
    to_hub : (n : ℕ) → Hub class n → (k : Kind) (y : Dtv) → Begun class y → Ways y (at n) k
    to_hub n h k y b =
        let s : Beginning class y = beginning class y b in
        let q : (s.parent < length xs) × (class_at net s.parent ≡ h.group) = member_as class h.group s.parent h.is_group s.among in
        subst (λ z. Ways z (at n) k) s.stands (push_at s.number n s.parent h.parent s.letter h.letter flexible k s.made h.made (class_way s.parent h.parent q.0 h.made.parent (q.1 ∙ sym h.of_class))
        (half s.pointer h.pointer (flips s.parent s.among)))

    from_hub : (n : ℕ) → Hub class n → (k : Kind) (y : Dtv) → Begun class y → Ways (at n) y k
    from_hub n h k y b =
        let s : Beginning class y = beginning class y b in
        let q : (s.parent < length xs) × (class_at net s.parent ≡ h.group) = member_as class h.group s.parent h.is_group s.among in
        subst (λ z. Ways (at n) z k) s.stands (push_at n s.number h.parent s.parent h.letter s.letter flexible k h.made s.made (class_way h.parent s.parent h.made.parent q.0 (h.of_class ∙ sym q.1))
        (half h.pointer s.pointer (flips h.parent (hub_member class n h))))

    hub_begun : (n : ℕ) (h : Hub class n) → (l : Label) → l ≡ h.letter → IsPointer l → Begun class (at n)
    hub_begun n h Load e p = inl (behind_has (members net class) Load n h.parent (hub_member class n h) (subst (IsMade xs n h.parent) (sym e) h.made))
    hub_begun n h Store e p = inr (behind_has (members net class) Store n h.parent (hub_member class n h) (subst (IsMade xs n h.parent) (sym e) h.made))
    hub_begun n h (In k) e p = absurd p
    hub_begun n h (Out k) e p = absurd p
    hub_begun n h (Field w k) e p = absurd p

    pub led_hub : (n : ℕ) (below above : List ℕ) (old_below old_above : List ℕ) (l : Label) → hub_in net class ≡ Some n → AreAll (IsInRow net.below n) below → AreAll (IsInRow net.above n) above →
        AreLed order lines ks (IsNext ks true l (sets_of net class old_below old_above)) (sets_of net (Some (class_at net n)) below above)
    led_hub n below above old_below old_above l e b a =
        let h : Hub class n = hub_source class n e in
        let begun : Begun class (at n) = hub_begun n h h.letter refl h.pointer in record {
          class = class_those n (Begun class) h.made.within begun (λ y c. to_hub n h flexible y c);
          below = row_those net.below IsLower lower_rows is.below_within n below (Begun class) h.made.within b begun (λ x y c d w. join w (to_hub n h (signed Co) y d));
          above = row_those net.above IsUpper upper_rows is.above_within n above (Begun class) h.made.within a begun (λ x y c d w. join (from_hub n h (signed Co) y d) w);
        }

    pub led_nowhere : (below above : List ℕ) (old_below old_above : List ℕ) (l : Label) → hub_in net class ≡ None → AreAll (λ w. ⊥) below → AreAll (λ w. ⊥) above →
        AreLed order lines ks (IsNext ks true l (sets_of net class old_below old_above)) (sets_of net None below above)
    led_nowhere below above old_below old_above l e b a = record {
      class = none_those (λ x. (y : Dtv) × Begun class y × Ways x y flexible) [] (λ w. (λ c. Contains-none w c, λ z. absurd z)) (λ x c p. hub_none class e p.0 p.1);
      below = none_those (λ x. (y : Dtv) × Begun class y × Ways x y (signed Co)) below b (λ x c p. hub_none class e p.0 p.1);
      above = none_those (λ x. (y : Dtv) × Begun class y × Ways y x (signed Co)) above a (λ x c p. hub_none class e p.0 p.1);
    }

  -- behind a letter that can't be exchanged
  abbrev KeptBelow : Sets → Label → Variance → Dtv → Type 0
  KeptBelow sets l v x = (y : Dtv) × IsBehind ks (set_for (signed (times v Co)) sets) l y × Ways x y (signed Co)

  abbrev KeptAbove : Sets → Label → Variance → Dtv → Type 0
  KeptAbove sets l v x = (y : Dtv) × IsBehind ks (set_for (signed (times v Contra)) sets) l y × Ways y x (signed Co)

  kept_led : (sets : Sets) (l : Label) (v : Variance) (class below above : List Dtv) → label_variance l ≡ v →
      AreThose ks (λ x. (y : Dtv) × IsBehind ks sets.class l y × Ways x y flexible) class → AreThose ks (KeptBelow sets l v) below → AreThose ks (KeptAbove sets l v) above →
      AreLed order lines ks (IsNext ks false l sets) (record { class = class; below = below; above = above })
  kept_led sets l v class below above e c b a = record {
    class = c;
    below = subst (λ t. AreThose ks (KeptBelow sets l t) below) (sym e) b;
    above = subst (λ t. AreThose ks (KeptAbove sets l t) above) (sym e) a;
  }

  pub led_co : (class : Option ℕ) (old_below old_above below above : List ℕ) (l : Label) → label_variance l ≡ Co → AreNumbers net old_below → AreNumbers net old_above →
      AreAll (IsLed net net.below old_below l) below → AreAll (IsLed net net.above old_above l) above →
      AreLed order lines ks (IsNext ks false l (sets_of net class old_below old_above)) (sets_of net (next_class net class l) below above)
  led_co class old_below old_above below above l e m n b a =
      kept_led (sets_of net class old_below old_above) l Co (variables net (members net (next_class net class l))) (variables net below) (variables net above) e (next_those class l)
      (led_those net.below IsLower lower_rows is.below_within old_below below l m b) (led_those net.above IsUpper upper_rows is.above_within old_above above l n a)

  pub led_contra : (class : Option ℕ) (old_below old_above below above : List ℕ) (l : Label) → label_variance l ≡ Contra → AreNumbers net old_below → AreNumbers net old_above →
      AreAll (IsLed net net.below old_above l) below → AreAll (IsLed net net.above old_below l) above →
      AreLed order lines ks (IsNext ks false l (sets_of net class old_below old_above)) (sets_of net (next_class net class l) below above)
  led_contra class old_below old_above below above l e m n b a =
      kept_led (sets_of net class old_below old_above) l Contra (variables net (members net (next_class net class l))) (variables net below) (variables net above) e (next_those class l)
      (led_those net.below IsLower lower_rows is.below_within old_above below l n b) (led_those net.above IsUpper upper_rows is.above_within old_below above l m a)

  -- of a base
  pub led_start : (b : Dtv) (Begins : Dtv → Type 0) (n : ℕ) (below above : List ℕ) → n < length xs → Begins (at n) → ((y : Dtv) → Begins y → y ≡ at n) → AreAll (IsInRow net.below n) below →
      AreAll (IsInRow net.above n) above → AreLed order lines ks (λ k. Begins) (sets_of net (Some (class_at net n)) below above)
  led_start b Begins n below above h begins one d a = record {
    class = class_those n Begins h begins (λ y c. subst (λ z. Ways z (at n) flexible) (sym (one y c)) (here flexible (there_at n h) (derives (at n) (there_at n h))));
    below = row_those net.below IsLower lower_rows is.below_within n below Begins h d begins (λ x y c e w. subst (λ z. Ways x z (signed Co)) (one y e) w);
    above = row_those net.above IsUpper upper_rows is.above_within n above Begins h a begins (λ x y c e w. subst (λ z. Ways z x (signed Co)) (one y e) w);
  }

  pub led_none : (Begins : Dtv → Type 0) (below above : List ℕ) → ((y : Dtv) → Begins y → ⊥) → AreAll (λ w. ⊥) below → AreAll (λ w. ⊥) above →
      AreLed order lines ks (λ k. Begins) (sets_of net None below above)
  led_none Begins below above not b a = record {
    class = none_those (λ x. (y : Dtv) × Begins y × Ways x y flexible) [] (λ w. (λ c. Contains-none w c, λ z. absurd z)) (λ x c p. not p.0 p.1);
    below = none_those (λ x. (y : Dtv) × Begins y × Ways x y (signed Co)) below b (λ x c p. not p.0 p.1);
    above = none_those (λ x. (y : Dtv) × Begins y × Ways y x (signed Co)) above a (λ x c p. not p.0 p.1);
  }
