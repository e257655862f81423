-- Arcs, entered one by one.
use Rattle.std.proofs.Common.{◌≡◌, ℕ, ◌+◌, ◌<◌, ◌≤◌, ◌⊎◌, inl, inr, List, [], ◌∷◌, ◌++◌, Contains, length, get_or, set, take, refl, sym, ap, subst, ◌∙◌, get_or-set_same, get_or-set_other}
use Rattle.std.proofs.Math.ListN.{length-set}
use Rattle.std.proofs.lemmas.Bool.{cases_eq}
use Rattle.std.proofs.lemmas.List.{get_or_default, take_all, take_more}
use Rattle.std.proofs.lemmas.List.Elements.{Contains-append_left, Contains-push, Contains-push_cases}
use Rattle.rt_base.proofs.Lists.{Contains-none, Contains-cons_cases}
use Rattle.rt_lines.specs.declared.line.Line.{Line}
use Rattle.rt_ways.specs.Arcs.{AreMore, IsAdded, IsInRow}

-- a list of one line has that one
pub one_line : (k x : Line) → Contains (k ∷ []) x → k ≡ x
one_line k x c = elim (Contains-cons_cases k [] x c) [ inl e ↦ e | inr h ↦ absurd (Contains-none x h) ]

module _ (from to : ℕ) (old : List (List ℕ)) (now : List ℕ) (room : from < length old) (grown : now ≡ get_or old from [] ++ to ∷ []) where
  here : get_or (set old from now) from [] ≡ get_or old from [] ++ to ∷ []
  here = get_or-set_same old from now [] room ∙ grown

  there : (v : ℕ) → (v ≡ from → ⊥) → get_or (set old from now) v [] ≡ get_or old v []
  there v n = get_or-set_other old from v now [] n

  at : (v : ℕ) → v ≡ from → get_or (set old from now) v [] ≡ get_or old from [] ++ to ∷ []
  at v e = ap (λ u. get_or (set old from now) u []) e ∙ here

  kept : (v w : ℕ) → IsInRow old v w → (v ≡ from) ⊎ (v ≡ from → ⊥) → IsInRow (set old from now) v w
  kept v w c (inl e) =
      subst (λ (xs : List ℕ). Contains xs w) (sym (at v e)) (Contains-append_left (get_or old from []) (to ∷ []) w (subst (λ u. Contains (get_or old u []) w) e c))
  kept v w c (inr n) = subst (λ (xs : List ℕ). Contains xs w) (sym (there v n)) c

  only : (v w : ℕ) → IsInRow (set old from now) v w → (v ≡ from) ⊎ (v ≡ from → ⊥) → IsInRow old v w ⊎ ((v ≡ from) × (w ≡ to))
  only v w c (inl e) =
      elim (Contains-push_cases (get_or old from []) to w (subst (λ (xs : List ℕ). Contains xs w) (at v e) c)) [
        | inl d ↦ inl (subst (λ u. Contains (get_or old u []) w) (sym e) d)
        | inr f ↦ inr (e, sym f)
      ]
  only v w c (inr n) = inl (subst (λ (xs : List ℕ). Contains xs w) (there v n) c)

  pub arc_added : IsAdded from to old (set old from now)
  arc_added = record {
    each = length-set old from now;
    kept = λ v w c. kept v w c (cases_eq v from);
    added = subst (λ (xs : List ℕ). Contains xs to) (sym here) (Contains-push (get_or old from []) to);
    only = λ v w c. only v w c (cases_eq v from);
  }

-- nothing is added
pub more_none : (P : ℕ → ℕ → Type 0) (arcs : List (List ℕ)) → ((v w : ℕ) → P v w → ⊥) → AreMore P arcs arcs
more_none P arcs none = record { each = refl; kept = λ v w c. c; all = λ v w p. absurd (none v w p); only = λ v w c. inl c }

-- one after the other
pub more_one : (P Q : ℕ → ℕ → Type 0) (from to : ℕ) (old mid new : List (List ℕ)) → ((v w : ℕ) → Q v w → P v w ⊎ ((v ≡ from) × (w ≡ to))) →
    ((v w : ℕ) → P v w → Q v w) → Q from to → AreMore P old mid → IsAdded from to mid new → AreMore Q old new
more_one P Q from to old mid new cases left right m n = record {
  each = n.each ∙ m.each;
  kept = λ v w c. n.kept v w (m.kept v w c);
  all = λ v w q. (elim (cases v w q) [
    | inl p ↦ n.kept v w (m.all v w p)
    | inr e ↦ subst (λ u. IsInRow new u w) (sym e.0) (subst (λ z. IsInRow new from z) (sym e.1) n.added)
  ]);
  only = λ v w c. (elim (n.only v w c) [
    | inl d ↦ (elim (m.only v w d) [ inl e ↦ inl e | inr p ↦ inr (left v w p) ])
    | inr e ↦ inr (subst (λ u. Q u w) (sym e.0) (subst (λ z. Q from z) (sym e.1) right))
  ]);
}

-- pairs entered one after another
pub pairs_first : (pairs : List (ℕ × ℕ)) (arcs : List (List ℕ)) → AreMore (λ v w. Contains (take 0 pairs) (v, w)) arcs arcs
pairs_first pairs arcs = more_none (λ v w. Contains {X = ℕ × ℕ} [] (v, w)) arcs (λ v w c. Contains-none (v, w) c)

pub pairs_next : (pairs : List (ℕ × ℕ)) (i : ℕ) (d : ℕ × ℕ) (old mid new : List (List ℕ)) → i < length pairs → AreMore (λ v w. Contains (take i pairs) (v, w)) old mid →
    IsAdded (get_or pairs i d).0 (get_or pairs i d).1 mid new → AreMore (λ v w. Contains (take (i + 1) pairs) (v, w)) old new
pairs_next pairs i d old mid new h m n =
    let p : ℕ × ℕ = get_or pairs i d in
    subst (λ (xs : List (ℕ × ℕ)). AreMore (λ v w. Contains xs (v, w)) old new) (sym (take_more pairs i d h))
    (more_one (λ v w. Contains (take i pairs) (v, w)) (λ v w. Contains (take i pairs ++ get_or pairs i d ∷ []) (v, w)) (get_or pairs i d).0 (get_or pairs i d).1 old mid new
    (λ v w c. (elim (Contains-push_cases (take i pairs) (get_or pairs i d) (v, w) c) [
      | inl e ↦ inl e
      | inr e ↦ inr (ap (λ (q : ℕ × ℕ). q.0) (sym e), ap (λ (q : ℕ × ℕ). q.1) (sym e))
    ]))
    (λ v w c. Contains-append_left (take i pairs) (get_or pairs i d ∷ []) (v, w) c) (Contains-push (take i pairs) (get_or pairs i d)) m n)

pub pairs_whole : (pairs : List (ℕ × ℕ)) (i : ℕ) (old new : List (List ℕ)) → length pairs ≤ i → AreMore (λ v w. Contains (take i pairs) (v, w)) old new →
    AreMore (λ v w. Contains pairs (v, w)) old new
pairs_whole pairs i old new h m = subst (λ (xs : List (ℕ × ℕ)). AreMore (λ v w. Contains xs (v, w)) old new) (take_all i pairs h) m

pub listed_pair : (pairs : List (ℕ × ℕ)) (i : ℕ) (d : ℕ × ℕ) → i < length pairs → Contains pairs ((get_or pairs i d).0, (get_or pairs i d).1)
listed_pair pairs i d h = (i, h, get_or_default pairs i (get_or pairs i d) d h)

pub room_for : (pairs : List (ℕ × ℕ)) (i : ℕ) (d : ℕ × ℕ) (old mid : List (List ℕ)) → ((v w : ℕ) → Contains pairs (v, w) → v < length old) → i < length pairs →
    AreMore (λ v w. Contains (take i pairs) (v, w)) old mid → (get_or pairs i d).0 < length mid
room_for pairs i d old mid within h more = subst (λ n. (get_or pairs i d).0 < n) (sym more.each) (within (get_or pairs i d).0 (get_or pairs i d).1 (listed_pair pairs i d h))
