-- Operations that are given to definitions.
use Rattle.std.proofs.Common.{◌≡◌, ◌<◌, ◌&&◌, ℕ, Bool, true, false, if◌then◌else◌, List, [], ◌∷◌, Some, Result, Ok, Err, refl, sym, ap, subst, arith}
use Rattle.std.specs.Prelude.{All, OnOk, OnErr, nat_eq, position, slice_get}
use Rattle.std.proofs.lemmas.Bool.Decides.{nat_tests}
use Rattle.std.proofs.lemmas.List.Elements.{All-nil, All-cons, All-head, All-tail}
use Rattle.std.proofs.lemmas.Cmp.{nat_eq_equiv}
use Rattle.std.proofs.lemmas.Option.{slice_get_within, get_or_from_slice_get}
use Rattle.std.specs.Cmp.{IsEquivalence}
use Rattle.std.specs.List.{IsDistinct}
use Rattle.std.specs.Map.{keys_of}
use Rattle.indexmap.proofs.MapLemmas.{index-first}
use Rattle.indexmap.proofs.RemoveLemmas.{own_first}
use Rattle.indexmap.specs.IndexMap.{insert_entry}
use Rattle.rt_track.specs.declared.op.Op.{Op}
use Rattle.rt_track.specs.Placed.{IsWithin, NamesRegisters, place_eq}

module _ (sites s r : ℕ) (op : Op) (in_sites : s < sites) (in_registers : r < 32) (named : NamesRegisters op) where
  inserted : (es : List ((ℕ × ℕ) × Op)) → All (IsWithin sites) es → All (IsWithin sites) (insert_entry place_eq es (s, r) op)
  inserted [] all = All-cons (IsWithin sites) ((s, r), op) [] (in_sites, in_registers, named) (All-nil (IsWithin sites))
  inserted (e ∷ es) all = by (inserted es (All-tail (IsWithin sites) e es all)) (place_eq (s, r) e.0)
    where
      first : IsWithin sites e
      first = All-head (IsWithin sites) e es all

      rest : All (IsWithin sites) es
      rest = All-tail (IsWithin sites) e es all

      by : All (IsWithin sites) (insert_entry place_eq es (s, r) op) → (b : Bool) → All (IsWithin sites) (if b then (e.0, op) ∷ es else e ∷ insert_entry place_eq es (s, r) op)
      by more true = All-cons (IsWithin sites) (e.0, op) es (first.0, first.1, named) rest
      by more false = All-cons (IsWithin sites) e (insert_entry place_eq es (s, r) op) first more

  -- operations stay within after one is inserted, or wasn't
  pub within : {A E : Type 0} (result : Result A E) (old new : List ((ℕ × ℕ) × Op)) → OnOk result (new ≡ insert_entry place_eq old (s, r) op) → OnErr result (new ≡ old) → All (IsWithin sites) old → All (IsWithin sites) new
  within (Ok x) old new ok err all = subst (All (IsWithin sites)) (sym ok) (inserted old all)
  within (Err x) old new ok err all = subst (All (IsWithin sites)) (sym err) all

-- two definitions that differ
pub apart : (s r t q : ℕ) → ((t ≡ s) × (q ≡ r) → ⊥) → place_eq (s, r) (t, q) ≡ false
apart s r t q other = by (nat_eq s t) (nat_eq r q) refl refl
  where
    by : (a b : Bool) → nat_eq s t ≡ a → nat_eq r q ≡ b → (a && b) ≡ false
    by false b e f = refl
    by true false e f = refl
    by true true e f = absurd (other (grind (arith, nat_tests), grind (arith, nat_tests)))

pub place_same : (p q : ℕ × ℕ) → place_eq p q ≡ true → p ≡ q
place_same p q e = by (nat_eq p.0 q.0) (nat_eq p.1 q.1) refl refl e
  where
    by : (a b : Bool) → nat_eq p.0 q.0 ≡ a → nat_eq p.1 q.1 ≡ b → (a && b) ≡ true → p ≡ q
    by false b f g h = cc
    by true false f g h = cc
    by true true f g h = let x : p.0 ≡ q.0 = grind (arith, nat_tests) in let y : p.1 ≡ q.1 = grind (arith, nat_tests) in λ i. (x i, y i)

pub place_itself : (p : ℕ × ℕ) → place_eq p p ≡ true
place_itself p = by (nat_eq p.0 p.0) (nat_eq p.1 p.1) (nat_eq_equiv.refl p.0) (nat_eq_equiv.refl p.1)
  where
    by : (a b : Bool) → a ≡ true → b ≡ true → (a && b) ≡ true
    by true b e f = f
    by false b e f = e

pub place_laws : IsEquivalence place_eq
place_laws = record {
  refl = place_itself;
  symm = λ x y i. nat_eq_equiv.symm x.0 y.0 i && nat_eq_equiv.symm x.1 y.1 i;
  congr = λ x y z e. ap (λ w. place_eq w z) (place_same x y e);
}

-- a definition with an operation has the number at which it stands
pub numbered : (es : List ((ℕ × ℕ) × Op)) (n : ℕ) (k : ℕ × ℕ) (op : Op) → IsDistinct place_eq (keys_of es) → slice_get es n ≡ Some (k, op) → position (place_eq k) (keys_of es) ≡ Some n
numbered es n k op distinct at = index-first (place_eq k) es n (own_first place_eq place_laws es n k op distinct at)
