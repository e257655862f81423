-- Flags by tables: what is pushed from the counts of rows has a way along pushed edges.
use Rattle.std.proofs.Common.{◌≡◌, ℕ, ◌+◌, ◌*◌, ◌<◌, ◌≤◌, ◌⊎◌, inl, inr, Bool, true, false, cond, List, [], ◌∷◌, ◌++◌, Contains}
use Rattle.std.proofs.Common.{Option, Some, None, slice_get, length, get_or, refl, sym, ap, subst, ◌∙◌, arith}
use Rattle.std.specs.Prelude.{nat_eq}
use Rattle.std.proofs.lemmas.List.{get_or_append_left, get_or_default, get_or_push, length_push}
use Rattle.std.proofs.Math.ListN.{get_or-eq_default}
use Rattle.std.proofs.lemmas.Bool.{cases_eq}
use Rattle.std.proofs.lemmas.Option.{get_or_from_slice_get}
use Rattle.rt_lines.specs.declared.label.Label.{Label}
use Rattle.rt_lines.specs.declared.variable.Dtv.{Dtv}
use Rattle.rt_grid.specs.Tables.{count_at}
use Rattle.rt_sat.specs.declared.family.Family.{Family}
use Rattle.rt_sat.specs.declared.family.Home.{Home}
use Rattle.rt_sat.specs.declared.state.State.{State}
use Rattle.rt_sat.specs.declared.state.Edge.{Edge}
use Rattle.rt_sat.specs.Inside.Checks.{home_at, home_of, is_number, row_at, AreComplete, AreWalked, IsNear}
use Rattle.rt_sat.specs.Counts.{digit_of}
use Rattle.rt_sat.specs.Inside.Flags.{IsCoveredRow}
use Rattle.rt_sat.specs.Hints.{members_of, state_at, IsHome}
use Rattle.rt_sat.specs.Numbered.{sign_of, AreDistinct}
use Rattle.rt_sat.specs.Pushes.{asked_of, flip_at, matter_at, AreChildren, AreDone, HasWalk, IsChildOf, IsClosedFrom, PushBy}
use Rattle.rt_sat.specs.Searches.{Walk}
use Rattle.rt_sat.proofs.Apart.{done_within}
use Rattle.rt_sat.proofs.Pushed.{child_one, push_less}
use Rattle.rt_sat.proofs.Searching.{allows_less}
use Rattle.rt_sat.proofs.ToldPushes.{state_placed}

-- the state of the place where one stands is that state
pub stands_at : (family : Family) (t : State) (to : Home) (o : Option Home) → home_at family t o ≡ Some to →
    state_at (members_of family to.class) to.index ≡ t
stands_at family t to None e = absurd (cc)
stands_at family t to (Some h) e = by (slice_get (members_of family h.class) h.index) refl e
  where
    there : (v : ℕ) → slice_get (members_of family h.class) h.index ≡ Some v → nat_eq v t.variable ≡ true →
        Some (record { class = h.class; index = 2 * h.index + digit_of t.contra }) ≡ Some to →
        state_at (members_of family to.class) to.index ≡ t
    there v g same f =
        let place : record { class = h.class; index = 2 * h.index + digit_of t.contra } ≡ to = cc in
        let variable : get_or (members_of family h.class) h.index 0 ≡ t.variable =
        get_or_from_slice_get (members_of family h.class) h.index v 0 g ∙ grind (arith, same) in
        subst (λ (z : Home). state_at (members_of family z.class) z.index ≡ t) place
        (state_placed (members_of family h.class) h.index t.contra ∙ ap (λ v. record { variable = v; contra = t.contra }) variable)

    by : (o : Option ℕ) → slice_get (members_of family h.class) h.index ≡ o →
        cond (is_number t.variable o) (Some (record { class = h.class; index = 2 * h.index + digit_of t.contra })) None ≡ Some to →
        state_at (members_of family to.class) to.index ≡ t
    by None g f = absurd (cc)
    by (Some v) g f = split (nat_eq v t.variable) refl f
      where
        split : (b : Bool) → nat_eq v t.variable ≡ b →
            cond b (Some (record { class = h.class; index = 2 * h.index + digit_of t.contra })) None ≡ Some to →
            state_at (members_of family to.class) to.index ≡ t
        split true same f = there v g same f
        split false same f = absurd (cc)

-- where rows have all ways, a child of whose parent's row everything is covered is closed
pub closed_row : (known : List Dtv) (flips matters : List Bool) (edges pushed : List Edge) (family : Family) (home : Home)
    (child parent : State) (l : Label) → home_of family parent ≡ Some home → AreComplete family edges →
    IsCoveredRow known (flip_at flips parent.variable) (asked_of (matter_at matters child.variable)) pushed child l
    (members_of family home.class) (row_at family home) →
    IsClosedFrom known flips matters edges pushed child parent l
closed_row known flips matters edges pushed family home child parent l stands complete rows end other m d k c w p a =
    let near : IsNear family home other d = complete parent other d home stands w in
    let n : ℕ = count_at (row_at family home) near.to.index in
    let is : state_at (members_of family home.class) near.to.index ≡ other =
    subst (λ class. state_at (members_of family class) near.to.index ≡ other) near.class
    (stands_at family other near.to (get_or family.homes.items other.variable None) near.stands) in
    let q : (j : ℕ) × PushBy (flip_at flips parent.variable) l m n (sign_of child.contra) (sign_of end.contra) j × (j ≤ k) =
    push_less (flip_at flips parent.variable) l m d n (sign_of child.contra) (sign_of end.contra) k near.within p in
    let r : HasWalk pushed child end q.0 = rows near.to.index near.known end m (subst (λ s. IsChildOf known end s m) (sym is) c) q.0 q.1
    (allows_less (asked_of (matter_at matters child.variable)) q.0 k q.2 a) in
    (r.0, r.1, omega (arith, r.2, q.2))

-- a place with a known count is one of a row
pub counted_inside : (row : List ℕ) (j : ℕ) → count_at row j < 255 → j < length row
counted_inside row j h =
    let past : length row ≤ j → ⊥ = λ more. (let e : count_at row j ≡ 255 = get_or-eq_default row 255 more in omega (arith, e, h)) in
    omega (arith, past)

-- a known count of a row between places of states is a way
pub walked_near : (family : Family) (edges : List Edge) (from to : State) (left right : Home) (k : ℕ) → AreWalked family edges →
    IsHome family from left → IsHome family to right → left.class ≡ right.class →
    count_at (row_at family left) right.index < 255 → count_at (row_at family left) right.index ≤ k → HasWalk edges from to k
walked_near family edges from to left right k walked h i same known less = (
  count_at (row_at family left) right.index,
  subst (λ s. Walk edges s to (count_at (row_at family left) right.index)) h.is
      (subst (λ s. Walk edges (state_at (members_of family left.class) left.index) s (count_at (row_at family left) right.index))
      (ap (λ n. state_at (members_of family n) right.index) same ∙ i.is)
      ((walked left.class h.class).rows left.index right.index known)),
  less,
)

-- all children, where what is listed has a property
pub listed_children : (known : List Dtv) (children : List (List ℕ)) (parent : State) (numbers : List ℕ) (P : State → Label → Type 0) →
    AreChildren known children → numbers ≡ get_or children parent.variable [] →
    ((i : ℕ) → i < length numbers → (child : State) (l : Label) → child.variable ≡ get_or numbers i 0 → IsChildOf known child parent l →
    P child l) → (child : State) (l : Label) → IsChildOf known child parent l → P child l
listed_children known children parent numbers P are e each child l c =
    let h : Contains numbers child.variable =
    subst (λ xs. Contains xs child.variable) (sym e) (are.all parent.variable child.variable l c.above c.within c.is) in
    each h.0 h.1 child l (sym (get_or_default numbers h.0 0 child.variable h.1 ∙ h.2)) c

-- of the number of a child there is one child, by one letter
pub child_only : (known : List Dtv) → AreDistinct known → (target parent : State) (m : Label) (P : State → Label → Type 0) →
    IsChildOf known target parent m → P target m →
    (child : State) (l : Label) → child.variable ≡ target.variable → IsChildOf known child parent l → P child l
child_only known apart target parent m P c p child l e d =
    let o : (target ≡ child) × (m ≡ l) = child_one known apart child target parent l m e c d in
    subst (λ s. P s l) o.0 (subst (P target) o.1 p)

-- one flag more
pub done_pushed : (known : List Dtv) (flips matters : List Bool) (edges pushed : List Edge) (done : List Bool) (number : ℕ) (flag : Bool) →
    length done ≡ number → AreDone known flips matters edges pushed done →
    (flag ≡ true → (child parent : State) (l : Label) → parent.variable ≡ number → IsChildOf known child parent l →
    IsClosedFrom known flips matters edges pushed child parent l) →
    AreDone known flips matters edges pushed (done ++ flag ∷ [])
done_pushed known flips matters edges pushed done number flag long before here child parent l d c = by (cases_eq parent.variable number)
  where
    by : (parent.variable ≡ number) ⊎ (parent.variable ≡ number → ⊥) → IsClosedFrom known flips matters edges pushed child parent l
    by (inl e) = here (sym (get_or_push done flag false parent.variable (long ∙ sym e)) ∙ d) child parent l e c
    by (inr n) =
        let within : parent.variable < length (done ++ flag ∷ []) = done_within (done ++ flag ∷ []) parent.variable d in
        let more : length (done ++ flag ∷ []) ≡ length done + 1 = length_push done flag in
        before child parent l (sym (get_or_append_left done (flag ∷ []) false parent.variable (omega (arith, within, more, long, n))) ∙ d) c
