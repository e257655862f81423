-- Numbered edges that are closed under pushes, as edges between variables.
use Rattle.std.proofs.Common.{◌≡◌, ℕ, ◌<◌, ◌⊎◌, inl, inr, Bool, true, List, length, Contains, refl, sym, ap, subst, ◌∙◌}
use Rattle.std.proofs.lemmas.List.{get_or_default}
use Rattle.rt_lines.specs.declared.label.Label.{Label}
use Rattle.rt_lines.specs.declared.label.Variance.{Variance}
use Rattle.rt_lines.specs.declared.variable.Dtv.{Dtv}
use Rattle.rt_lines.specs.Words.{label_variance, times}
use Rattle.rt_rules.specs.Rules.{longer}
use Rattle.rt_bridge.specs.Growing.{Var, dot, dv, vd, Given, V, Der, HasSub}
use Rattle.rt_bridge.specs.Counted.{State, st, Push, Bridge, Flip}
use Rattle.rt_bridge.specs.Counted.Push.{half, kept}
use Rattle.rt_bridge.specs.Counted.Bridge.{push}
use Rattle.rt_bridge.specs.Ways.{Way, WayIn}
use Rattle.rt_bridge.specs.Laws.{Named, Edge as EdgeOf}
use Rattle.rt_bridge.proofs.Growing.{dv-vd, vd-dv, vd-longer}
use Rattle.rt_bridge.proofs.Tables.{way_bridge}
use Rattle.rt_named.specs.Origins.{no_variable}
use Rattle.rt_sat.specs.declared.state.State.{State as Place}
use Rattle.rt_sat.specs.declared.state.Edge.{Edge}
use Rattle.rt_sat.specs.Deciding.{is_among}
use Rattle.rt_sat.specs.Numbered.{sign_of, is_contra, at_number, state_of, edges_of, AreDistinct, AreWithin}
use Rattle.rt_sat.specs.Pushes.{IsChildOf, PushBy, IsPushed, IsClosedBy, HasWalk, IsFrame, IsInFrame, AreSound, flip_at, matter_at}
use Rattle.rt_sat.specs.Searches.{Walk}
use Rattle.rt_sat.proofs.Deciding.{among-from, among-to}
use Rattle.rt_sat.proofs.Mattering.{asked_allowed}
use Rattle.rt_sat.proofs.Numbered.{IsEdge, edge_from, sign_contra, walk_of, way_of}

-- where it is known of each variable whether it can be read and written through, it is known of those that can
pub in_frame : (L : Given) (known : List Dtv) (flips : List Bool) → IsFrame L known flips → IsInFrame L known flips
in_frame L known flips frame = record { there = frame.there; flip = λ n h. (frame.flip n h).0 }

module _ (known : List Dtv) where
  abbrev M : Var → Type 0
  M = Named (is_among known)

  pub name_at : (n : ℕ) → n < length known → M (vd (at_number known n))
  name_at n h = among-from known (dv (vd (at_number known n))) (subst (Contains known) (sym (dv-vd (at_number known n))) (n, h, get_or_default known n (at_number known n) no_variable h))

  -- the number of a named variable
  pub number_of_named : (x : Var) → M x → (n : ℕ) × (n < length known) × (vd (at_number known n) ≡ x)
  number_of_named x h =
      let c : Contains known (dv x) = among-to known (dv x) h in
      (c.0, c.1, ap vd (get_or_default known c.0 no_variable (dv x) c.1 ∙ c.2) ∙ vd-dv x)

  pub child_state : (child parent : Place) (l : Label) → IsChildOf known child parent l → state_of known child ≡ st (dot (vd (at_number known parent.variable)) l) (sign_of child.contra)
  child_state child parent l c = ap (λ x. st x (sign_of child.contra)) (ap vd c.is ∙ vd-longer (at_number known parent.variable) l)

  pub parent_state : (child parent : Place) (l : Label) → IsChildOf known child parent l → state_of known parent ≡ st (vd (at_number known parent.variable)) (times (label_variance l) (sign_of child.contra))
  parent_state child parent l c = ap (st (vd (at_number known parent.variable))) (sym c.sign)

  module _ (L : Given) (flips : List Bool) (frame : IsInFrame L known flips) where
    pub push_of : (n : ℕ) (l m : Label) (d : ℕ) (a b : Variance) (k : ℕ) → n < length known → PushBy (flip_at flips n) l m d a b k → Push L (vd (at_number known n)) l m d a b k
    push_of n l m d a b k h (inl p) = let f : Flip L (vd (at_number known n)) = frame.flip n h p.flips in half p.left p.right f.0 f.1 p.enough p.parity
    push_of n l m d a b k h (inr p) = subst (λ g. Push L (vd (at_number known n)) l g d a b k) p.0 (subst (λ j. Push L (vd (at_number known n)) l l d a b j) p.1 kept)

    pub there_child : (child parent : Place) (l : Label) → IsChildOf known child parent l → Der L (V (dot (vd (at_number known parent.variable)) l))
    there_child child parent l c = subst (λ x. Der L (V x)) (ap vd c.is ∙ vd-longer (at_number known parent.variable) l) (frame.there child.variable c.within)

    pub named_child : (child parent : Place) (l : Label) → IsChildOf known child parent l → M (dot (vd (at_number known parent.variable)) l)
    named_child child parent l c = subst M (ap vd c.is ∙ vd-longer (at_number known parent.variable) l) (name_at child.variable c.within)

    module _ (sides : (x y : Var) → HasSub L x y → M x × M y) where
      pub edge_sound : (edges : List Edge) → AreSound L known edges → (x y : State) (k : ℕ) → EdgeOf (edges_of known edges) x y k → Bridge L M x y k
      edge_sound edges sound x y k h =
          let e : IsEdge known edges x y k = edge_from known edges x y k h in
          subst (λ z. Bridge L M z y k) e.start (subst (λ z. Bridge L M (state_of known e.edge.from) z k) e.end (subst (λ n. Bridge L M (state_of known e.edge.from) (state_of known e.edge.to) n) e.count (sound e.edge e.listed)))

      -- what is pushed from sound edges is sound
      pub pushed_sound : (edges : List Edge) → AreSound L known edges → (e : Edge) → IsPushed known flips edges e → Bridge L M (state_of known e.from) (state_of known e.to) e.count
      pushed_sound edges sound e p =
          let between : Bridge L M (state_of known p.parent) (state_of known p.other) p.count =
          way_bridge (EdgeOf (edges_of known edges)) L M sides (edge_sound edges sound) (way_of known edges p.walk) (name_at p.parent.variable p.left.above) (frame.there p.parent.variable p.left.above) in
          let x : Var = vd (at_number known p.parent.variable) in
          let y : Var = vd (at_number known p.other.variable) in
          let placed : Bridge L M (st x (times (label_variance p.first) (sign_of e.from.contra))) (st y (times (label_variance p.second) (sign_of e.to.contra))) p.count =
          subst (λ z. Bridge L M z (st y (times (label_variance p.second) (sign_of e.to.contra))) p.count) (parent_state e.from p.parent p.first p.left)
          (subst (λ z. Bridge L M (state_of known p.parent) z p.count) (parent_state e.to p.other p.second p.right) between) in
          subst (λ z. Bridge L M z (state_of known e.to) e.count) (sym (child_state e.from p.parent p.first p.left))
          (subst (λ z. Bridge L M (st (dot x p.first) (sign_of e.from.contra)) z e.count) (sym (child_state e.to p.other p.second p.right))
          (push (named_child e.from p.parent p.first p.left) (named_child e.to p.other p.second p.right) (there_child e.from p.parent p.first p.left) (there_child e.to p.other p.second p.right) placed
          (push_of p.parent.variable p.first p.second p.count (sign_of e.from.contra) (sign_of e.to.contra) e.count p.left.above p.push)))

  module _ (L : Given) (flips : List Bool) (frame : IsFrame L known flips) where
    push_from : (n : ℕ) (x : Var) (l m : Label) (d : ℕ) (a b : Variance) (k : ℕ) → n < length known → vd (at_number known n) ≡ x → Push L x l m d a b k → PushBy (flip_at flips n) l m d a b k
    push_from n x l m d a b k h e (half p q f g i j) = inl (record { flips = (frame.flip n h).1 (subst (Flip L) (sym e) (f, g)); left = p; right = q; enough = i; parity = j })
    push_from n x l m d a b k h e kept = inr (refl, refl)

    -- the numbered state of a child, and that of its parent
    pub record Numbers (x : Var) (l : Label) (a : Variance) : Type 0 where
      pub child : Place
      pub parent : Place
      pub are : IsChildOf known child parent l
      pub child_is : state_of known child ≡ st (dot x l) a
      pub parent_is : state_of known parent ≡ st x (times (label_variance l) a)
      pub variable_is : vd (at_number known parent.variable) ≡ x
      pub sign_is : sign_of child.contra ≡ a

    numbers : ((x : Var) (l : Label) → M (dot x l) → M x) → (x : Var) (l : Label) (a : Variance) → M (dot x l) → Numbers x l a
    numbers parents x l a h =
        let i : (n : ℕ) × (n < length known) × (vd (at_number known n) ≡ dot x l) = number_of_named (dot x l) h in
        let p : (n : ℕ) × (n < length known) × (vd (at_number known n) ≡ x) = number_of_named x (parents x l h) in
        let is : at_number known i.0 ≡ longer (at_number known p.0) l = sym (dv-vd (at_number known i.0)) ∙ ap dv i.2 ∙ ap (λ z. longer (dv z) l) (sym p.2) ∙ ap (λ z. longer z l) (dv-vd (at_number known p.0)) in
        record {
          child = record { variable = i.0; contra = is_contra a };
          parent = record { variable = p.0; contra = is_contra (times (label_variance l) a) };
          are = record { within = i.1; above = p.1; is = is; sign = ap (times (label_variance l)) (sign_contra a) ∙ sym (sign_contra (times (label_variance l) a)) };
          child_is = (λ k. st (i.2 k) (sign_contra a k));
          parent_is = (λ k. st (p.2 k) (sign_contra (times (label_variance l) a) k));
          variable_is = p.2;
          sign_is = sign_contra a;
        }

    -- what is pushed from a way along the edges has a way along the pushed ones alone
    pub closed_ways : (matters : List Bool) (Matter : Var → Type 0) → ((n : ℕ) → n < length known → (x : Var) → vd (at_number known n) ≡ x → Matter x → matter_at matters n ≡ true) → (edges pushed : List Edge) → ((x : Var) (l : Label) → M (dot x l) → M x) → AreDistinct known → AreWithin known edges → IsClosedBy known flips matters edges pushed →
        (x y : Var) (l m : Label) (a b : Variance) (d k : ℕ) → (k ≡ 0) ⊎ Matter (dot x l) → M (dot x l) → M (dot y m) → Way (EdgeOf (edges_of known edges)) (st x (times (label_variance l) a)) (st y (times (label_variance m) b)) d → Push L x l m d a b k →
        WayIn (EdgeOf (edges_of known pushed)) (st (dot x l) a) (st (dot y m) b) k
    closed_ways matters Matter flagged edges pushed parents apart inside closed x y l m a b d k o p q w s =
        let u : Numbers x l a = numbers parents x l a p in
        let v : Numbers y m b = numbers parents y m b q in
        let walk : Walk edges u.parent v.parent d = walk_of known edges apart inside u.parent v.parent d u.are.above v.are.above
        (subst (λ z. Way (EdgeOf (edges_of known edges)) z (state_of known v.parent) d) (sym u.parent_is) (subst (λ z. Way (EdgeOf (edges_of known edges)) (st x (times (label_variance l) a)) z d) (sym v.parent_is) w)) in
        let by : PushBy (flip_at flips u.parent.variable) l m d (sign_of u.child.contra) (sign_of v.child.contra) k =
        subst (λ g. PushBy (flip_at flips u.parent.variable) l m d g (sign_of v.child.contra) k) (sym u.sign_is) (subst (λ g. PushBy (flip_at flips u.parent.variable) l m d a g k) (sym v.sign_is) (push_from u.parent.variable x l m d a b k u.are.above u.variable_is s)) in
        let asked : (k ≡ 0) ⊎ (matter_at matters u.child.variable ≡ true) = elim o [ inl e ↦ inl e | inr h ↦ inr (flagged u.child.variable u.are.within (dot x l) (ap (λ (z : State). z.var) u.child_is) h) ] in
        let r : HasWalk pushed u.child v.child k = closed u.child u.parent l u.are v.child v.parent m d k v.are walk by (asked_allowed (matter_at matters u.child.variable) k asked) in
        record {
          count = r.0;
          few = r.2;
          way = subst (λ z. Way (EdgeOf (edges_of known pushed)) z (st (dot y m) b) r.0) u.child_is (subst (λ z. Way (EdgeOf (edges_of known pushed)) (state_of known u.child) z r.0) v.child_is (way_of known pushed r.1));
        }
