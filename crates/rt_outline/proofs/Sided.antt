-- What has a node below, or above, it and another one.
use Rattle.std.proofs.Common.{◌≡◌, ◌↔◌, ℕ, ◌+◌, ◌<◌, ◌≤◌, inl, inr, Bool, true, false, List, [], ◌∷◌, ◌++◌, Contains, Option, Some, None, length, get_or, take, refl, sym, subst, ◌∙◌}
use Rattle.std.specs.Prelude.{is_some}
use Rattle.std.proofs.lemmas.List.{take_all, take_more}
use Rattle.std.proofs.lemmas.List.Elements.{Contains-append_left, Contains-push, Contains-push_cases}
use Rattle.rt_base.proofs.Lists.{Contains-none}
use Rattle.rt_lines.specs.declared.label.Label.{Label}
use Rattle.rt_components.specs.Groups.{Reaches}
use Rattle.rt_components.specs.Groups.Reaches.{there, onward}
use Rattle.rt_named.specs.Numbers.{IsLeft}
use Rattle.rt_named.proofs.Noting.{left_kept}
use Rattle.rt_outline.specs.declared.arc.Arc.{Arc}
use Rattle.rt_outline.specs.Arcs.{AreTurned, HasArc, IsSpread, Leads}
use Rattle.rt_outline.specs.Frames.{Origins, IsFrame, IsMade, step_of}
use Rattle.rt_outline.specs.Hubs.{HasAccess}
use Rattle.rt_outline.specs.Turning.{HaveAbove, HaveBelow, HaveBoth}

-- a node is made by a letter exactly where its step is there
pub step_made : (origins : Origins) (steps : List ((ℕ × Label) × ℕ)) (arcs back : List (List Arc)) → IsFrame origins steps arcs back → (p : ℕ) (l : Label) (o : Option ℕ) → o ≡ step_of steps p l →
    (is_some o ≡ true) ↔ ((v : ℕ) × IsMade origins v p l)
step_made origins steps arcs back frame p l None e = (λ f. absurd (cc), λ m. (let f : None ≡ Some m.0 = e ∙ frame.made m.0 p l m.1 in absurd (cc)))
step_made origins steps arcs back frame p l (Some v) e = (λ f. (v, frame.only v p l (sym e)), λ m. refl)

-- pushed arcs lead from both to a node
abbrev pub HaveHub : Origins → List (List Arc) → Bool → ℕ → ℕ → Type 0
HaveHub origins arcs access v w = (h : ℕ) × (access ≡ true → HasAccess origins h) × HasArc arcs v h None × HasArc arcs w h None

pub both_of : (origins : Origins) (arcs some back more : List (List Arc)) (access : Bool) (v w : ℕ) → some ≡ arcs → more ≡ back → AreTurned arcs back → HaveHub origins more access v w → HaveHub origins some false v w →
    (stands : List Bool) → HaveBoth origins (Leads arcs stands true) access v w
both_of origins arcs some back more access v w e f turned low high stands = record {
  below = (low.0, low.1, down v low.2, down w low.3);
  above = (high.0, up v high.2, up w high.3);
}
  where
    down : (u : ℕ) → HasArc more u low.0 None → Reaches (Leads arcs stands true) low.0 u
    down u c = onward (None, (turned low.0 u None).1 (subst (λ xs. HasArc xs u low.0 None) f c), refl) there

    up : (u : ℕ) → HasArc some u high.0 None → Reaches (Leads arcs stands true) u high.0
    up u c = onward (None, subst (λ xs. HasArc xs u high.0 None) e c, refl) there

-- a way the other way
way_back : (P Q : ℕ → ℕ → Type 0) → ((u w : ℕ) → P u w → Q w u) → {u v w : ℕ} → Reaches Q v u → Reaches P v w → Reaches Q w u
way_back P Q f s there = s
way_back P Q f s (onward {a} {b} e r) = way_back P Q f (onward (f a b e) s) r

-- those of some numbers of which something holds
abbrev pub AreThose : (ℕ → Type 0) → List ℕ → List ℕ → Type 0
AreThose P nodes found = (w : ℕ) → Contains found w ↔ (Contains nodes w × P w)

module _ (P : ℕ → Type 0) (nodes : List ℕ) where
  pub those_first : (found : List ℕ) → found ≡ [] → AreThose P (take 0 nodes) found
  those_first found e w = (λ c. absurd (Contains-none w (subst (λ xs. Contains xs w) e c)), λ p. absurd (Contains-none w p.0))

  pub those_next : (i : ℕ) (old new : List ℕ) → i < length nodes → P (get_or nodes i 0) → IsLeft (λ w. get_or nodes i 0 ≡ w) old new → AreThose P (take i nodes) old → AreThose P (take (i + 1) nodes) new
  those_next i old new h p n are = subst (λ xs. AreThose P xs new) (sym (take_more nodes i 0 h)) by
    where
      by : AreThose P (take i nodes ++ get_or nodes i 0 ∷ []) new
      by w = (
        λ c. (elim (n.only w c) [
          | inl d ↦ (Contains-append_left (take i nodes) (get_or nodes i 0 ∷ []) w ((are w).0 d).0, ((are w).0 d).1)
          | inr e ↦ (subst (Contains (take i nodes ++ get_or nodes i 0 ∷ [])) e (Contains-push (take i nodes) (get_or nodes i 0)), subst P e p)
        ]),
        λ q. (elim (Contains-push_cases (take i nodes) (get_or nodes i 0) w q.0) [
          | inl d ↦ left_kept (λ w. get_or nodes i 0 ≡ w) old new n w ((are w).1 (d, q.1))
          | inr e ↦ n.all w e
        ]),
      )

  pub those_past : (i : ℕ) (old : List ℕ) → i < length nodes → (P (get_or nodes i 0) → ⊥) → AreThose P (take i nodes) old → AreThose P (take (i + 1) nodes) old
  those_past i old h none are = subst (λ xs. AreThose P xs old) (sym (take_more nodes i 0 h)) by
    where
      by : AreThose P (take i nodes ++ get_or nodes i 0 ∷ []) old
      by w = (
        λ c. (Contains-append_left (take i nodes) (get_or nodes i 0 ∷ []) w ((are w).0 c).0, ((are w).0 c).1),
        λ q. (elim (Contains-push_cases (take i nodes) (get_or nodes i 0) w q.0) [
          | inl d ↦ (are w).1 (d, q.1)
          | inr e ↦ absurd (none (subst P (sym e) q.1))
        ]),
      )

  pub those_whole : (i : ℕ) (found : List ℕ) → length nodes ≤ i → AreThose P (take i nodes) found → AreThose P nodes found
  those_whole i found h are = subst (λ xs. AreThose P xs found) (take_all i nodes h) are

module _ (arcs some back more : List (List Arc)) (stands : List Bool) (e : some ≡ arcs) (f : more ≡ back) (turned : AreTurned arcs back) where
  abbrev Edge : ℕ → ℕ → Type 0
  Edge = Leads arcs stands true

  along : {v w : ℕ} → Reaches (Leads some stands true) v w → Reaches Edge v w
  along {v} {w} r = subst (λ xs. Reaches (Leads xs stands true) v w) e r

  along_some : {v w : ℕ} → Reaches Edge v w → Reaches (Leads some stands true) v w
  along_some {v} {w} r = subst (λ xs. Reaches (Leads xs stands true) v w) (sym e) r

  against : {v w : ℕ} → Reaches (Leads more stands true) v w → Reaches Edge w v
  against {v} {w} r = way_back (Leads back stands true) Edge (λ a b l. (l.0, (turned b a l.0).1 l.1, l.2)) there (subst (λ xs. Reaches (Leads xs stands true) v w) f r)

  against_more : {v w : ℕ} → Reaches Edge v w → Reaches (Leads more stands true) w v
  against_more {v} {w} r = subst (λ xs. Reaches (Leads xs stands true) w v) (sym f) (way_back Edge (Leads back stands true) (λ a b l. (l.0, (turned a b l.0).0 l.1, l.2)) there r)

  module _ (node : ℕ) (none first second : List ℕ) (empty : none ≡ []) (one : IsLeft (λ w. node ≡ w) none first) where
    first_is : (v : ℕ) → Contains first v → node ≡ v
    first_is v c = elim (one.only v c) [ inl d ↦ absurd (Contains-none v (subst (λ xs. Contains xs v) empty d)) | inr g ↦ g ]

    pub above_found : (third : List ℕ) → IsSpread (Leads some stands true) first second → IsSpread (Leads more stands true) second third → (w : ℕ) → Contains third w ↔ HaveAbove Edge node w
    above_found third up down w = (
      λ c. (let h : (h : ℕ) × Contains second h × Reaches (Leads more stands true) h w = down.only w c in
          let v : (v : ℕ) × Contains first v × Reaches (Leads some stands true) v h.0 = up.only h.0 h.1 in
          (h.0, subst (λ u. Reaches Edge u h.0) (sym (first_is v.0 v.1)) (along v.2), against h.2)),
      λ a. down.all a.0 w (up.all node a.0 (one.all node refl) (along_some a.1)) (against_more a.2),
    )

    pub below_found : (origins : Origins) (access : Bool) (third fourth : List ℕ) → IsSpread (Leads more stands true) first second → AreThose (λ w. access ≡ true → HasAccess origins w) second third →
        IsSpread (Leads some stands true) third fourth → (w : ℕ) → Contains fourth w ↔ HaveBelow origins Edge access node w
    below_found origins access third fourth down are up w = (
      λ c. (let h : (h : ℕ) × Contains third h × Reaches (Leads some stands true) h w = up.only w c in
          let d : Contains second h.0 × (access ≡ true → HasAccess origins h.0) = (are h.0).0 h.1 in
          let v : (v : ℕ) × Contains first v × Reaches (Leads more stands true) v h.0 = down.only h.0 d.0 in
          (h.0, d.1, subst (λ u. Reaches Edge h.0 u) (sym (first_is v.0 v.1)) (against v.2), along h.2)),
      λ b. up.all b.0 w ((are b.0).1 (down.all node b.0 (one.all node refl) (against_more b.2), b.1)) (along_some b.3),
    )
