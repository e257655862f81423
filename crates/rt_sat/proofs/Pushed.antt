-- What is pushed to children.
use Rattle.std.proofs.Common.{◌≡◌, ℕ, ◌<◌, ◌≤◌, ◌⊎◌, inl, inr, Bool, true, false, List, [], length, get_or, Contains, refl, sym, ap, subst, ◌∙◌, arith}
use Rattle.rt_lines.specs.declared.label.Label.{Label}
use Rattle.rt_lines.specs.declared.label.Label.TheVariants.{Load, Store, In, Out, Field}
use Rattle.rt_lines.specs.declared.label.Variance.{Variance}
use Rattle.rt_lines.specs.declared.variable.Base.{Base}
use Rattle.rt_lines.specs.declared.variable.Dtv.{Dtv}
use Rattle.rt_lines.specs.Words.{label_variance, times}
use Rattle.rt_rules.specs.Rules.{longer}
use Rattle.rt_bridge.specs.Counted.{IsPointer}
use Rattle.rt_sat.specs.declared.state.State.{State}
use Rattle.rt_sat.specs.declared.state.Edge.{Edge}
use Rattle.rt_sat.specs.declared.layers.Layers.{Layers}
use Rattle.rt_sat.proofs.Growing.{grown_as, noted_as}
use Rattle.rt_sat.specs.Numbered.{sign_of, is_contra, at_number, AreDistinct}
use Rattle.rt_sat.specs.Pushes.{IsChildOf, AreChildren, PushBy, asked_of, matter_at, IsPushed, IsPushedTo, IsPushedOn, IsDoneAt, IsDoneTo, IsDoneOn, IsGrown, IsNoted, IsClosedFrom, IsNeeding, flip_at, needed_of}
use Rattle.rt_sat.specs.Searches.{state_eq, Allows, IsKnown, IsWithin, IsSearch}
use Rattle.rt_sat.proofs.Searching.{state_equal, allows_less}
use Rattle.std.specs.Prelude.{slice_get, Option, Some, None}
use Rattle.std.proofs.lemmas.Option.{slice_get_within}
use Rattle.std.proofs.lemmas.List.{get_or_default}
use Rattle.std.proofs.lemmas.Map.Entries.{place_from_lookup}
use Rattle.rt_sat.proofs.Numbered.{sign_contra, contra_sign, number_one}
use Rattle.rt_named.proofs.Making.{no_base, last_letter}
use Rattle.rt_chain.proofs.Digits.{bit-small, times-twice}

-- what a letter says of the sign of a child
pub sign_child : (s : Variance) (child parent : Bool) → times s (sign_of child) ≡ sign_of parent → child ≡ is_contra (times s (sign_of parent))
sign_child s child parent e = sym (contra_sign child) ∙ ap is_contra (sym (times-twice s (sign_of child)) ∙ ap (times s) e)

pub child_sign : (s : Variance) (parent : Bool) → times s (sign_of (is_contra (times s (sign_of parent)))) ≡ sign_of parent
child_sign s parent = ap (times s) (sign_contra (times s (sign_of parent))) ∙ times-twice s (sign_of parent)

-- a variable is the child of one alone, by one letter
pub parent_one : (known : List Dtv) → AreDistinct known → (child parent : State) (l : Label) (v : ℕ) (m : Label) → v < length known → at_number known child.variable ≡ longer (at_number known v) m → IsChildOf known child parent l → (parent.variable ≡ v) × (l ≡ m)
parent_one known apart child parent l v m h e c =
    let p : (at_number known parent.variable ≡ at_number known v) × (l ≡ m) = last_letter (at_number known parent.variable) (at_number known v) l m (sym c.is ∙ e) in
    (number_one known apart parent.variable v c.above h p.0, p.1)

pub push_less : (flip : Bool) (l m : Label) (d n : ℕ) (a b : Variance) (k : ℕ) → n ≤ d → PushBy flip l m d a b k → (j : ℕ) × PushBy flip l m n a b j × (j ≤ k)
push_less flip l m d n a b k h (inl p) = (k, inl (record { flips = p.flips; left = p.left; right = p.right; enough = omega (arith, p.enough); parity = p.parity }), omega arith)
push_less flip l m d n a b k h (inr p) = (n, inr (p.0, refl), omega (arith, p.1))

pub child_of : (known : List Dtv) (child other : State) (parent : ℕ) (m : Label) → child.variable < length known → parent < child.variable → at_number known child.variable ≡ longer (at_number known parent) m → parent ≡ other.variable →
    child.contra ≡ is_contra (times (label_variance m) (sign_of other.contra)) → IsChildOf known child other m
child_of known child other parent m h less e f s = record {
  within = h;
  above = omega (arith, less, f, h);
  is = e ∙ ap (λ n. longer (at_number known n) m) f;
  sign = ap (λ b. times (label_variance m) (sign_of b)) s ∙ child_sign (label_variance m) other.contra;
}

-- a parent's child of one number is one state
pub child_one : (known : List Dtv) → AreDistinct known → (end target other : State) (m l : Label) → end.variable ≡ target.variable → IsChildOf known target other l → IsChildOf known end other m → (target ≡ end) × (l ≡ m)
child_one known apart end target other m l e c d =
    let f : at_number known end.variable ≡ longer (at_number known other.variable) l = ap (at_number known) e ∙ c.is in
    let p : (other.variable ≡ other.variable) × (m ≡ l) = parent_one known apart end other m other.variable l c.above f d in
    let s : end.contra ≡ target.contra = sign_child (label_variance m) end.contra other.contra d.sign ∙ ap (λ (k : Label). is_contra (times (label_variance k) (sign_of other.contra))) p.1 ∙ sym (sign_child (label_variance l) target.contra other.contra c.sign) in
    (λ i. record { variable = sym e i; contra = sym s i }, sym p.1)

module _ (known : List Dtv) (flip : Bool) (first : Label) (source other : State) (count : ℕ) (most : Option ℕ) (found : List (State × ℕ)) where
  pub child_noted : (target : State) (second : Label) (old new : Layers) (after : List (State × ℕ)) → IsChildOf known target other second →
      IsNoted (λ (e : Edge). (e.from ≡ source) × (e.to ≡ target) × PushBy flip first second count (sign_of source.contra) (sign_of target.contra) e.count) old new found after →
      IsNoted (λ (e : Edge). (e.from ≡ source) × IsPushedTo known flip first other count (sign_of source.contra) e.to e.count) old new found after
  child_noted target second old new after c g =
      noted_as (λ (e : Edge). (e.from ≡ source) × (e.to ≡ target) × PushBy flip first second count (sign_of source.contra) (sign_of target.contra) e.count) (λ (e : Edge). (e.from ≡ source) × IsPushedTo known flip first other count (sign_of source.contra) e.to e.count) old new found after
      (λ e p. (p.0, (second, subst (λ t. IsChildOf known t other second) (sym p.1) c, subst (λ (t : State). PushBy flip first second count (sign_of source.contra) (sign_of t.contra) e.count) (sym p.1) p.2))) g

  pub child_done : AreDistinct known → (target : State) (second : Label) → IsChildOf known target other second →
      ((k : ℕ) → PushBy flip first second count (sign_of source.contra) (sign_of target.contra) k → Allows most k → IsWithin found target k) →
      IsDoneAt known flip first other count (sign_of source.contra) most found target.variable
  child_done apart target second c d end m k e h p a =
      let o : (target ≡ end) × (second ≡ m) = child_one known apart end target other m second e c h in
      let q : PushBy flip first second count (sign_of source.contra) (sign_of target.contra) k = subst (λ (t : State). PushBy flip first second count (sign_of source.contra) (sign_of t.contra) k) (sym o.0) (subst (λ l. PushBy flip first l count (sign_of source.contra) (sign_of end.contra) k) (sym o.1) p) in
      subst (λ t. IsWithin found t k) o.0 (d k q a)

  -- no child of this parent
  pub child_other : AreDistinct known → (number parent : ℕ) (m : Label) → number < length known → parent < number → at_number known number ≡ longer (at_number known parent) m → (parent ≡ other.variable → ⊥) →
      IsDoneAt known flip first other count (sign_of source.contra) most found number
  child_other apart number parent m h less e n end l k f c p a =
      let q : (other.variable ≡ parent) × (l ≡ m) = parent_one known apart end other l parent m (omega (arith, less, h)) (ap (at_number known) f ∙ e) c in
      absurd (n (sym q.0))

  pub child_bare : (number : ℕ) (b : Base) → at_number known number ≡ record { base = b; word = [] } → IsDoneAt known flip first other count (sign_of source.contra) most found number
  child_bare number b e end l k f c p a = absurd (no_base (at_number known other.variable) l b (sym c.is ∙ ap (at_number known) f ∙ e))

  -- all children
  pub children_done : (children : List (List ℕ)) (numbers : List ℕ) → AreChildren known children → numbers ≡ get_or children other.variable [] →
      ((i : ℕ) → i < length numbers → IsDoneAt known flip first other count (sign_of source.contra) most found (get_or numbers i 0)) → IsDoneTo known flip first other count (sign_of source.contra) most found
  children_done children numbers are e d end m k c p a =
      let h : Contains numbers end.variable = subst (λ xs. Contains xs end.variable) (sym e) (are.all other.variable end.variable m c.above c.within c.is) in
      d h.0 h.1 end m k (sym (get_or_default numbers h.0 0 end.variable h.1 ∙ h.2)) c p a

-- walks of one parent, and what is known along pushed edges from its child
module _ (known : List Dtv) (flips matters : List Bool) (edges pushed : List Edge) (source parent : State) (first : Label) (child : IsChildOf known source parent first) (reached found : List (State × ℕ)) (needed most : Option ℕ) (search : IsSearch needed edges parent reached) (back : IsSearch most pushed source found) where
  pub from_grown : (old new : Layers) →
      IsGrown (λ (e : Edge). (e.from ≡ source) × IsPushedOn known (flip_at flips parent.variable) first (sign_of source.contra) reached e.to e.count) old new → IsGrown (IsPushed known flips edges) old new
  from_grown old new g =
      grown_as (λ (e : Edge). (e.from ≡ source) × IsPushedOn known (flip_at flips parent.variable) first (sign_of source.contra) reached e.to e.count) (IsPushed known flips edges) old new
      (λ e p. record {
        parent = parent;
        other = p.1.0;
        first = first;
        second = p.1.3.0;
        count = p.1.1;
        left = subst (λ t. IsChildOf known t parent first) (sym p.0) child;
        right = p.1.3.1;
        walk = search.sound p.1.0 p.1.1 p.1.2;
        push = subst (λ (t : State). PushBy (flip_at flips parent.variable) first p.1.3.0 p.1.1 (sign_of t.contra) (sign_of e.to.contra) e.count) (sym p.0) p.1.3.2;
      }) g

  pub from_done : ((m : Label) (n k : ℕ) (a b : Variance) → PushBy (flip_at flips parent.variable) first m n a b k → Allows (asked_of (matter_at matters source.variable)) k → Allows needed n × Allows most k) →
      IsDoneOn known (flip_at flips parent.variable) first (sign_of source.contra) reached most found → IsClosedFrom known flips matters edges pushed source parent first
  from_done enough d end other m n k c w p a =
      let o : Allows needed n × Allows most k = enough m n k (sign_of source.contra) (sign_of end.contra) p a in
      let r : IsWithin reached other n = search.complete other n w o.0 in
      let q : (j : ℕ) × PushBy (flip_at flips parent.variable) first m r.0 (sign_of source.contra) (sign_of end.contra) j × (j ≤ k) = push_less (flip_at flips parent.variable) first m n r.0 (sign_of source.contra) (sign_of end.contra) k r.2 p in
      let i : IsWithin found end q.0 = d other r.0 r.1 end m q.0 c q.1 (allows_less most q.0 k q.2 o.1) in
      (i.0, back.sound end i.0 i.1, omega (arith, i.2, q.2))

-- nought is pushed from at most one
pub nought_pushed : (flip : Bool) (l m : Label) (d k : ℕ) (a b : Variance) → PushBy flip l m d a b k → k ≤ 0 → d ≤ 1
nought_pushed flip l m d k a b (inl p) h = omega (arith, p.enough, bit-small (times (label_variance m) b), h)
nought_pushed flip l m d k a b (inr p) h = omega (arith, p.1, h)

-- and from nought, but by a half push
pub nought_kept : (flip : Bool) (l m : Label) (d k : ℕ) (a b : Variance) → (flip ≡ true → IsPointer l → ⊥) → PushBy flip l m d a b k → k ≤ 0 → d ≤ 0
nought_kept flip l m d k a b none (inl p) h = absurd (none p.flips p.left)
nought_kept flip l m d k a b none (inr p) h = omega (arith, p.1, h)

-- what is known has an entry
pub known_entry : (found : List (State × ℕ)) (s : State) (k : ℕ) → IsKnown found s k → (i : ℕ) × (i < length found) × (slice_get found i ≡ Some (s, k))
known_entry found s k h =
    let p : (i : ℕ) × (t : State) × (slice_get found i ≡ Some (t, k)) × (state_eq s t ≡ true) = place_from_lookup (state_eq s) found k h in
    (p.0, slice_get_within found p.0 (p.1, k) p.2, p.2 ∙ ap (λ (t : State). Some (t, k)) (sym (state_equal s p.1 p.3)))

-- from what a child's bound allows comes all that is asked for of it
pub needed_enough : (matters flip : Bool) (l m : Label) (d k : ℕ) (a b : Variance) → PushBy flip l m d a b k → Allows (asked_of matters) k → Allows (needed_of matters flip l) d
needed_enough true flip l m d k a b p h = tt
needed_enough false false l m d k a b p h = nought_kept false l m d k a b (λ e i. absurd (cc)) p h
needed_enough false true Load m d k a b p h = nought_pushed true Load m d k a b p h
needed_enough false true Store m d k a b p h = nought_pushed true Store m d k a b p h
needed_enough false true (In i) m d k a b p h = nought_kept true (In i) m d k a b (λ e i. i) p h
needed_enough false true (Out i) m d k a b p h = nought_kept true (Out i) m d k a b (λ e i. i) p h
needed_enough false true (Field i j) m d k a b p h = nought_kept true (Field i j) m d k a b (λ e i. i) p h

-- there are three bounds
pub three_bounds : (matters flip : Bool) (l : Label) → (needed_of matters flip l ≡ None) ⊎ (needed_of matters flip l ≡ Some 0) ⊎ (needed_of matters flip l ≡ Some 1)
three_bounds true flip l = inl refl
three_bounds false false l = inr (inl refl)
three_bounds false true Load = inr (inr refl)
three_bounds false true Store = inr (inr refl)
three_bounds false true (In i) = inr (inl refl)
three_bounds false true (Out i) = inr (inl refl)
three_bounds false true (Field i j) = inr (inl refl)

module _ (known : List Dtv) (flips matters : List Bool) (bound : Option ℕ) where
  pub needing_child : (parent : State) (number : ℕ) (contra : Bool) (m : Label) → IsNeeding known flips matters bound parent.variable number m → contra ≡ is_contra (times (label_variance m) (sign_of parent.contra)) →
      IsChildOf known (record { variable = number; contra = contra }) parent m
  needing_child parent number contra m n e = record {
    within = n.within;
    above = n.above;
    is = n.is;
    sign = ap (λ b. times (label_variance m) (sign_of b)) e ∙ child_sign (label_variance m) parent.contra;
  }

  pub child_needing : (child parent : State) (l : Label) → IsChildOf known child parent l → needed_of (matter_at matters child.variable) (flip_at flips parent.variable) l ≡ bound → IsNeeding known flips matters bound parent.variable child.variable l
  child_needing child parent l c e = record { within = c.within; above = c.above; is = c.is; bounded = e }

  -- and is listed below it
  pub listed : (children : List (List ℕ)) (numbers : List ℕ) (parent child : ℕ) (l : Label) → AreChildren known children → numbers ≡ get_or children parent [] → IsNeeding known flips matters bound parent child l →
      (i : ℕ) × (i < length numbers) × (get_or numbers i 0 ≡ child)
  listed children numbers parent child l are e n =
      let h : Contains numbers child = subst (λ xs. Contains xs child) (sym e) (are.all parent child l n.above n.within n.is) in
      (h.0, h.1, get_or_default numbers h.0 0 child h.1 ∙ h.2)

-- a parent's state has one child of a number
pub closed_one : (known : List Dtv) (flips matters : List Bool) (edges pushed : List Edge) → AreDistinct known → (source parent : State) (first : Label) → IsChildOf known source parent first → IsClosedFrom known flips matters edges pushed source parent first →
    (child : State) (l : Label) → child.variable ≡ source.variable → IsChildOf known child parent l → IsClosedFrom known flips matters edges pushed child parent l
closed_one known flips matters edges pushed apart source parent first own done child l e k =
    let o : (source ≡ child) × (first ≡ l) = child_one known apart child source parent l first e own k in
    subst (λ z. IsClosedFrom known flips matters edges pushed z parent l) o.0 (subst (λ m. IsClosedFrom known flips matters edges pushed source parent m) o.1 done)

-- all bounds
pub bounds_closed : (known : List Dtv) (flips matters : List Bool) (edges pushed : List Edge) (parent : State) →
    ((bound : Option ℕ) → (bound ≡ None) ⊎ (bound ≡ Some 0) ⊎ (bound ≡ Some 1) → (child : State) (l : Label) → IsChildOf known child parent l → IsNeeding known flips matters bound parent.variable child.variable l → IsClosedFrom known flips matters edges pushed child parent l) →
    (child : State) (l : Label) → IsChildOf known child parent l → IsClosedFrom known flips matters edges pushed child parent l
bounds_closed known flips matters edges pushed parent done child l k =
    let bound : Option ℕ = needed_of (matter_at matters child.variable) (flip_at flips parent.variable) l in
    done bound (three_bounds (matter_at matters child.variable) (flip_at flips parent.variable) l) child l k (child_needing known flips matters bound child parent l k refl)

-- both signs
pub both_signs : (known : List Dtv) (flips matters : List Bool) (edges pushed : List Edge) (number : ℕ) →
    ((child : State) (l : Label) → IsChildOf known child (record { variable = number; contra = false }) l → IsClosedFrom known flips matters edges pushed child (record { variable = number; contra = false }) l) →
    ((child : State) (l : Label) → IsChildOf known child (record { variable = number; contra = true }) l → IsClosedFrom known flips matters edges pushed child (record { variable = number; contra = true }) l) →
    (child parent : State) (l : Label) → parent.variable ≡ number → IsChildOf known child parent l → IsClosedFrom known flips matters edges pushed child parent l
both_signs known flips matters edges pushed number forth back child parent l e k = by parent.contra refl
  where
    by : (b : Bool) → parent.contra ≡ b → IsClosedFrom known flips matters edges pushed child parent l
    by false f =
        let s : parent ≡ record { variable = number; contra = false } = (λ i. record { variable = e i; contra = f i }) in
        subst (λ z. IsClosedFrom known flips matters edges pushed child z l) (sym s) (forth child l (subst (λ z. IsChildOf known child z l) s k))
    by true f =
        let s : parent ≡ record { variable = number; contra = true } = (λ i. record { variable = e i; contra = f i }) in
        subst (λ z. IsClosedFrom known flips matters edges pushed child z l) (sym s) (back child l (subst (λ z. IsChildOf known child z l) s k))

pub entry_one : (s t : State) (j k : ℕ) → ◌≡◌ {A = Option (State × ℕ)} (Some (s, j)) (Some (t, k)) → (s ≡ t) × (j ≡ k)
entry_one s t j k e = let p : ◌≡◌ {A = State × ℕ} (s, j) (t, k) = cc in (ap (λ (z : State × ℕ). z.0) p, ap (λ (z : State × ℕ). z.1) p)
