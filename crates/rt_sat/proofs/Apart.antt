-- Numbers from which no way leads to a new edge, and what is done of them.
use Rattle.std.proofs.Common.{◌≡◌, ℕ, ◌+◌, ◌<◌, ◌≤◌, ◌⊎◌, inl, inr, List, [], ◌∷◌, ◌++◌, Bool, true, false, Contains, length, drop, get_or, set, below_more, sym, ap, subst, ◌∙◌, arith}
use Rattle.std.proofs.lemmas.Bool.{cases_eq}
use Rattle.std.proofs.lemmas.List.{get_or_default, get_or_append_left, get_or_push, get_or-set_other, length_push, drop-append-le}
use Rattle.std.proofs.lemmas.List.Elements.{Contains-append_left}
use Rattle.std.proofs.Math.ListN.{get_or-eq_default}
use Rattle.std.proofs.lemmas.Grind.{get_or-set_at}
use Rattle.rt_lines.specs.declared.label.Label.{Label}
use Rattle.rt_lines.specs.declared.variable.Dtv.{Dtv}
use Rattle.rt_sat.specs.declared.layers.Layers.{Layers}
use Rattle.rt_sat.specs.declared.state.Edge.{Edge}
use Rattle.rt_sat.specs.declared.state.State.{State}
use Rattle.rt_sat.specs.Pushes.{is_done, pushed_of, AreApart, AreDone, AreGrown, AreTaken, HasWalk, IsApartAt, IsChildOf, IsClosedBy, IsClosedFrom, IsClosedIn, IsStill}
use Rattle.rt_sat.specs.Searches.{Walk, stays, turns, steps}
use Rattle.rt_sat.proofs.Growing.{all_longer, all_more, all_still, grows_longer}

-- a flag that is set is within the flags
pub done_within : (done : List Bool) (n : ℕ) → is_done done n ≡ true → n < length done
done_within done n h =
    let past : length done ≤ n → ⊥ = λ less. (let e : is_done done n ≡ false = get_or-eq_default done false less in absurd (cc)) in
    omega (arith, past)

pub none_done : (known : List Dtv) (flips matters : List Bool) (edges pushed : List Edge) (done : List Bool) → done ≡ [] → AreDone known flips matters edges pushed done
none_done known flips matters edges pushed done is child parent l h c = let e : ◌≡◌ {A = Bool} false true = sym (ap (λ xs. is_done xs parent.variable) is) ∙ h in absurd (cc)

pub taken_empty : (old new : List Bool) → new ≡ [] → AreTaken old new
taken_empty old new is n h = let e : ◌≡◌ {A = Bool} false true = sym (ap (λ xs. is_done xs n) is) ∙ h in absurd (cc)

pub apart_empty : (edges : List Edge) (first : ℕ) (done : List Bool) → done ≡ [] → AreApart edges first done
apart_empty edges first done is i d less h =
    let e : ◌≡◌ {A = Bool} false true = sym (ap (λ xs. is_done xs (get_or edges i d).from.variable) is) ∙ h in absurd (cc)

-- a flag less
pub taken_set : (done : List Bool) (n : ℕ) → n < length done → AreTaken done (set done n false)
taken_set done n less m h = by (cases_eq m n)
  where
    by : (m ≡ n) ⊎ (m ≡ n → ⊥) → is_done done m ≡ true
    by (inl e) = let f : is_done (set done n false) m ≡ false = get_or-set_at done n m false false e less in absurd (cc)
    by (inr e) = sym (get_or-set_other done n m false false e) ∙ h

-- an edge more, before the others
pub apart_more : (edges : List Edge) (first : ℕ) (old new : List Bool) (any more : Bool) (behind index : ℕ) (edge : Edge) → index + (behind + 1) ≡ length edges → edge ≡ get_or edges index edge →
    (any ≡ false → (i : ℕ) → length edges ≤ i + behind → IsApartAt edges first old i) →
    (more ≡ false → (any ≡ false) × (new ≡ old) × (is_done old edge.from.variable ≡ true → (index < first) × (is_done old edge.to.variable ≡ true))) →
    more ≡ false → (i : ℕ) → length edges ≤ i + (behind + 1) → IsApartAt edges first new i
apart_more edges first old new any more behind index edge at is prior took quiet i far = subst (λ done. IsApartAt edges first done i) (sym (took quiet).1) (by (cases_eq i index))
  where
    here : IsApartAt edges first old index
    here d less h =
        let q : get_or edges index d ≡ edge = get_or_default edges index d edge less ∙ sym is in
        let p : (index < first) × (is_done old edge.to.variable ≡ true) = (took quiet).2 (subst (λ (z : Edge). is_done old z.from.variable ≡ true) q h) in
        (p.0, subst (λ (z : Edge). is_done old z.to.variable ≡ true) (sym q) p.1)

    by : (i ≡ index) ⊎ (i ≡ index → ⊥) → IsApartAt edges first old i
    by (inl e) = subst (IsApartAt edges first old) (sym e) here
    by (inr e) = prior (took quiet).0 i (omega (arith, far, at, e))

-- a walk from a flagged number goes along the first edges alone
module _ (edges first fresh : List Edge) (is : edges ≡ first ++ fresh) (done : List Bool) (apart : AreApart edges (length first) done) where
  first_edge : (e : Edge) → Contains edges e → is_done done e.from.variable ≡ true → Contains first e × (is_done done e.to.variable ≡ true)
  first_edge e c h =
      let p : (c.0 < length first) × (is_done done (get_or edges c.0 e).to.variable ≡ true) = apart c.0 e c.1 (subst (λ (z : Edge). is_done done z.from.variable ≡ true) (sym c.2) h) in
      let q : get_or first c.0 e ≡ e = sym (get_or_append_left first fresh e c.0 p.0) ∙ ap (λ xs. get_or xs c.0 e) (sym is) ∙ c.2 in
      ((c.0, p.0, q), subst (λ (z : Edge). is_done done z.to.variable ≡ true) c.2 p.1)

  inside : {x y : State} {k : ℕ} → Walk edges x y k → is_done done x.variable ≡ true → Walk first x y k
  inside stays h = stays
  inside (turns {x} v) h = turns {x = x} (inside v h)
  inside (steps e c v) h = let p : Contains first e × (is_done done e.to.variable ≡ true) = first_edge e c h in steps e p.0 (inside v p.1)

  -- so what was done stays done
  pub spread_done : (known : List Dtv) (flips matters : List Bool) (pushed : List Edge) (before : List Bool) → AreTaken before done → AreDone known flips matters first pushed before → AreDone known flips matters edges pushed done
  spread_done known flips matters pushed before taken prior child parent l h c end other m d k i w =
      prior child parent l (taken parent.variable h) c end other m d k i (inside w h)

-- walks along more edges
pub more_walks : (a b : List Edge) → ((e : Edge) → Contains a e → Contains b e) → {x y : State} {k : ℕ} → Walk a x y k → Walk b x y k
more_walks a b f stays = stays
more_walks a b f (turns {x} v) = turns {x = x} (more_walks a b f v)
more_walks a b f (steps e c v) = steps e (f e c) (more_walks a b f v)

module _ (known : List Dtv) (flips matters : List Bool) where
  -- fewer edges, and more pushed ones
  closed_more : (edges fewer pushed more : List Edge) (child parent : State) (l : Label) → ((e : Edge) → Contains fewer e → Contains edges e) → ((e : Edge) → Contains pushed e → Contains more e) →
      IsClosedFrom known flips matters edges pushed child parent l → IsClosedFrom known flips matters fewer more child parent l
  closed_more edges fewer pushed more child parent l f g h end other m d k c w p a =
      let r : HasWalk pushed child end k = h end other m d k c (more_walks fewer edges f w) p a in (r.0, more_walks pushed more g r.1, r.2)

  grown_in : (a b : Layers) → AreGrown known flips a b → (e : Edge) → Contains a.edges.items e → Contains b.edges.items e
  grown_in a b g e c =
      let f : (fresh : List Edge) × (b.edges.items ≡ a.edges.items ++ fresh) = grows_longer known flips a.edges.items b.edges.items g.grows in
      subst (λ (xs : List Edge). Contains xs e) (sym f.1) (Contains-append_left a.edges.items f.0 e c)

  grown_pushed : (a b : Layers) → a.lines ≤ length a.edges.items → AreGrown known flips a b → (e : Edge) → Contains (pushed_of a) e → Contains (pushed_of b) e
  grown_pushed a b few g e c =
      let f : (fresh : List Edge) × (b.edges.items ≡ a.edges.items ++ fresh) = grows_longer known flips a.edges.items b.edges.items g.grows in
      let p : pushed_of b ≡ pushed_of a ++ f.0 = (λ i. drop (g.lines i) (f.1 i)) ∙ drop-append-le a.lines a.edges.items f.0 few in
      subst (λ (xs : List Edge). Contains xs e) (sym p) (Contains-append_left (pushed_of a) f.0 e c)

  module _ (first old new : Layers) (next : List Bool) (number : ℕ) (yes : Bool) (grown : AreGrown known flips first old) (more : AreGrown known flips old new) (long : length next ≡ number) where
    -- the flag of a number more
    pub done_more : (done : List Bool) → first.lines ≤ length first.edges.items → AreDone known flips matters first.edges.items (pushed_of first) done →
        (yes ≡ true → (is_done done number ≡ true) ⊎ ((child parent : State) (l : Label) → parent.variable ≡ number → IsChildOf known child parent l → IsClosedIn known flips matters old child parent l)) →
        AreDone known flips matters first.edges.items (pushed_of old) next → AreDone known flips matters first.edges.items (pushed_of new) (next ++ yes ∷ [])
    done_more done few before opened prior child parent l d c = by (cases_eq parent.variable number)
      where
        few_old : old.lines ≤ length old.edges.items
        few_old = let longer : length first.edges.items ≤ length old.edges.items = all_longer known flips first old grown in omega (arith, few, grown.lines, longer)

        itself : parent.variable ≡ number → IsClosedFrom known flips matters first.edges.items (pushed_of new) child parent l
        itself e = elim (opened (sym (get_or_push next yes false parent.variable (long ∙ sym e)) ∙ d)) [
          | inl i ↦ closed_more first.edges.items first.edges.items (pushed_of first) (pushed_of new) child parent l (λ x h. h) (grown_pushed first new few (all_more known flips first old new grown more))
              (before child parent l (subst (λ n. is_done done n ≡ true) (sym e) i) c)
          | inr i ↦ closed_more old.edges.items first.edges.items (pushed_of old) (pushed_of new) child parent l (grown_in first old grown) (grown_pushed old new few_old more) (i child parent l e c)
        ]

        by : (parent.variable ≡ number) ⊎ (parent.variable ≡ number → ⊥) → IsClosedFrom known flips matters first.edges.items (pushed_of new) child parent l
        by (inl e) = itself e
        by (inr e) =
            let inner : parent.variable < length (next ++ yes ∷ []) = done_within (next ++ yes ∷ []) parent.variable d in
            let less : parent.variable < length next = omega (arith, inner, length_push next yes, long, e) in
            closed_more first.edges.items first.edges.items (pushed_of old) (pushed_of new) child parent l (λ x h. h) (grown_pushed old new few_old more)
            (prior child parent l (sym (get_or_append_left next (yes ∷ []) false parent.variable less) ∙ d) c)

    pub still_more : (IsStill old new → yes ≡ true) → (IsStill first old → (i : ℕ) → i < number → is_done next i ≡ true) → IsStill first new → (i : ℕ) → i < number + 1 → is_done (next ++ yes ∷ []) i ≡ true
    still_more here prior still =
        let t : IsStill first old × IsStill old new = all_still known flips first old new grown more still in
        below_more (λ i. is_done (next ++ yes ∷ []) i ≡ true) number (λ i less. get_or_append_left next (yes ∷ []) false i (omega (arith, less, long)) ∙ prior t.0 i less)
        (get_or_push next yes false number long ∙ here t.1)

  -- where all numbers are done and nothing was put in, all that is pushed is there
  pub still_all : (old new : Layers) (next : List Bool) → AreGrown known flips old new → ((i : ℕ) → i < length known → is_done next i ≡ true) → AreDone known flips matters old.edges.items (pushed_of new) next → IsStill old new →
      IsClosedBy known flips matters old.edges.items (pushed_of old)
  still_all old new next grown all done still child parent l c =
      subst (λ (xs : List Edge). IsClosedFrom known flips matters old.edges.items xs child parent l) (λ i. drop (grown.lines i) (still i)) (done child parent l (all parent.variable c.above) c)

  -- what is done once flags are taken
  pub done_spread : (old new : Layers) (before done : List Bool) (first : ℕ) → first ≡ length old.edges.items → AreGrown known flips old new → AreTaken before done → AreApart new.edges.items first done →
      AreDone known flips matters old.edges.items (pushed_of new) before → AreDone known flips matters new.edges.items (pushed_of new) done
  done_spread old new before done first is grown taken apart prior =
      let f : (fresh : List Edge) × (new.edges.items ≡ old.edges.items ++ fresh) = grows_longer known flips old.edges.items new.edges.items grown.grows in
      spread_done new.edges.items old.edges.items f.0 f.1 done (subst (λ n. AreApart new.edges.items n done) is apart) known flips matters (pushed_of new) before taken prior
