-- The operations of definitions, by their numbers.
use Rattle.std.proofs.Common.{◌≡◌, ◌+◌, ◌<◌, ◌≤◌, ◌⊎◌, inl, inr, ℕ, zero, suc, Bool, true, false, cond, if◌then◌else◌, List, [], ◌∷◌, length, Option, Some, None, refl, sym, ap, subst, ◌∙◌, arith}
use Rattle.std.specs.Prelude.{is_some, nat_lt, slice_get, slice_index_or, unwrap_or}
use Rattle.std.specs.Map.{keys_of, lookup, values_of}
use Rattle.std.specs.Option.{option_map}
use Rattle.std.proofs.lemmas.Bool.{cases_eq, cases_lt}
use Rattle.std.proofs.lemmas.Bool.Decides.{nat_tests}
use Rattle.std.proofs.lemmas.List.Quantifiers.{position-Some}
use Rattle.std.proofs.lemmas.Option.{get_or_from_slice_get, slice_get-get_or, slice_get_within, unwrap_or-slice_get}
use Rattle.indexmap.proofs.MapLemmas.{Found-position, some_index}
use Rattle.rt_track.specs.declared.op.Op.{Op}
use Rattle.rt_track.specs.declared.op.Op.TheVariants.{Own}
use Rattle.rt_track.specs.declared.ops.Ops.{Ops}
use Rattle.rt_track.specs.declared.value.Value.{Value}
use Rattle.rt_track.specs.Operations.{entries_of, number_in, op_in, ops_sites}
use Rattle.rt_track.specs.Placed.{IsWithin, place_eq}
use Rattle.rt_track.proofs.Operating.{place_itself, place_same}
use Rattle.rt_base.proofs.Lists.{All-at}

key_at : (es : List ((ℕ × ℕ) × Op)) (n : ℕ) (d : (ℕ × ℕ) × Op) → slice_index_or (keys_of es) n d.0 ≡ (slice_index_or es n d).0
key_at [] n d = refl
key_at (e ∷ es) zero d = refl
key_at (e ∷ es) (suc n) d = key_at es n d

op_at : (es : List ((ℕ × ℕ) × Op)) (n : ℕ) (d : (ℕ × ℕ) × Op) → slice_index_or (values_of es) n d.1 ≡ (slice_index_or es n d).1
op_at [] n d = refl
op_at (e ∷ es) zero d = refl
op_at (e ∷ es) (suc n) d = op_at es n d

-- at a definition's number it stands, with its operation
pub entry_at : (ops : Ops) (s r n : ℕ) → number_in ops s r ≡ Some n → slice_get (entries_of ops) n ≡ Some ((s, r), op_in ops s r)
unfolding number_in entries_of op_in
entry_at ops s r n e = slice_get-get_or es n d (Found-position (place_eq (s, r)) es n e).within ∙ ap Some (λ i. (sym key i, sym operation i))
  where
    es : List ((ℕ × ℕ) × Op)
    es = ops.given.entries

    d : (ℕ × ℕ) × Op
    d = ((s, r), Own)

    key : (s, r) ≡ (slice_index_or es n d).0
    key = place_same (s, r) (slice_index_or es n d).0 (subst (λ k. place_eq (s, r) k ≡ true) (key_at es n d) (position-Some (place_eq (s, r)) (keys_of es) n (s, r) e).1)

    operation : unwrap_or (lookup (place_eq (s, r)) es) Own ≡ (slice_index_or es n d).1
    operation = ap (λ o. unwrap_or o Own) (Found-position (place_eq (s, r)) es n e).value ∙ unwrap_or-slice_get (values_of es) n Own ∙ op_at es n d

-- a definition without a number has no operation but its own
pub no_entry : (ops : Ops) (s r : ℕ) → number_in ops s r ≡ None → op_in ops s r ≡ Own
unfolding number_in op_in
no_entry ops s r e = by (lookup (place_eq (s, r)) ops.given.entries) (sym (some_index (place_eq (s, r)) ops.given.entries) ∙ ap is_some e)
  where
    by : (o : Option Op) → is_some o ≡ false → unwrap_or o Own ≡ Own
    by None f = refl
    by (Some op) f = cc

-- an operation that was given stands within sites and registers
pub entry_within : (ops : Ops) (s r n : ℕ) → number_in ops s r ≡ Some n → IsWithin (ops_sites ops) ((s, r), op_in ops s r)
unfolding entries_of ops_sites
entry_within ops s r n e = All-at (IsWithin ops.sites) ops.given.entries n ((s, r), op_in ops s r) ops.within (entry_at ops s r n e)

-- what definitions of lower numbers have
abbrev pub upto : ℕ → (ℕ → Value) → Option ℕ → Option Value
upto k f None = None
upto k f (Some n) = if nat_lt n k then Some (f n) else None

-- the next definition is noted
pub defined_more : (ops : Ops) (f : ℕ → Value) (k : ℕ) (old new : ℕ × ℕ → Option Value) → ((s r : ℕ) → old (s, r) ≡ upto k f (number_in ops s r)) → (key : ℕ × ℕ) → number_in ops key.0 key.1 ≡ Some k
    → ((q : ℕ × ℕ) → new q ≡ cond (place_eq key q) (Some (f k)) (old q)) → (s r : ℕ) → new (s, r) ≡ upto (k + 1) f (number_in ops s r)
defined_more ops f k old new are key number updates s r = updates (s, r) ∙ by (place_eq key (s, r)) refl
  where
    here : place_eq key (s, r) ≡ true → Some (f k) ≡ upto (k + 1) f (number_in ops s r)
    here e =
        let same : key ≡ (s, r) = place_same key (s, r) e in
        let number_is : number_in ops s r ≡ Some k = subst (λ q. number_in ops q.0 q.1 ≡ Some k) same number in
        let less : nat_lt k (k + 1) ≡ true = grind (arith, nat_tests) in
        sym (ap (upto (k + 1) f) number_is ∙ ap (λ b. if b then Some (f k) else None) less)

    key_of : (op : Op) (q : ℕ × ℕ) (op' : Op) → slice_get (entries_of ops) k ≡ Some (key, op) → slice_get (entries_of ops) k ≡ Some (q, op') → key ≡ q
    key_of op q op' a b = ap (λ (e : (ℕ × ℕ) × Op). e.0) (sym (get_or_from_slice_get (entries_of ops) k (key, op) (key, op) a) ∙ get_or_from_slice_get (entries_of ops) k (q, op') (key, op) b)

    other : place_eq key (s, r) ≡ false → (o : Option ℕ) → number_in ops s r ≡ o → upto k f o ≡ upto (k + 1) f o
    other e None g = refl
    other e (Some n) g = cases (cases_eq n k)
      where
        cases : (n ≡ k) ⊎ (n ≡ k → ⊥) → upto k f (Some n) ≡ upto (k + 1) f (Some n)
        cases (inl h) = absurd (clash (sym e ∙ ap (λ q. place_eq key q) (sym same) ∙ place_itself key))
          where
            same : key ≡ (s, r)
            same = key_of (op_in ops key.0 key.1) (s, r) (op_in ops s r) (entry_at ops key.0 key.1 k number) (entry_at ops s r k (g ∙ ap Some h))

            clash : false ≡ true → ⊥
            clash c = cc
        cases (inr h) = ap (λ b. if b then Some (f n) else None) (tests (cases_lt n k))
          where
            tests : (n < k) ⊎ (k ≤ n) → nat_lt n k ≡ nat_lt n (k + 1)
            tests (inl less) = let a : nat_lt n k ≡ true = grind (arith, nat_tests) in let b : nat_lt n (k + 1) ≡ true = grind (arith, nat_tests) in a ∙ sym b
            tests (inr le) = let more : k + 1 ≤ n = omega arith in let a : nat_lt n k ≡ false = grind (arith, nat_tests) in let b : nat_lt n (k + 1) ≡ false = grind (arith, nat_tests) in a ∙ sym b

    by : (b : Bool) → place_eq key (s, r) ≡ b → cond b (Some (f k)) (old (s, r)) ≡ upto (k + 1) f (number_in ops s r)
    by true e = here e
    by false e = are s r ∙ other e (number_in ops s r) refl

-- none is noted at first
pub defined_none : (f : ℕ → Value) (o : Option ℕ) → None ≡ upto 0 f o
defined_none f None = refl
defined_none f (Some n) = sym (ap (λ b. if b then Some (f n) else None) (let a : nat_lt n 0 ≡ false = grind (arith, nat_tests) in a))

-- in the end all are
pub defined_all : (ops : Ops) (f : ℕ → Value) (k s r : ℕ) → length (entries_of ops) ≤ k → (o : Option ℕ) → number_in ops s r ≡ o → upto k f o ≡ option_map f o
defined_all ops f k s r whole None e = refl
defined_all ops f k s r whole (Some n) e =
    let less = slice_get_within (entries_of ops) n ((s, r), op_in ops s r) (entry_at ops s r n e) in
    let a : nat_lt n k ≡ true = grind (arith, nat_tests) in
    ap (λ b. if b then Some (f n) else None) a
