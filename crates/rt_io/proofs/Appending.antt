-- Bytes that are appended piece by piece.
use Rattle.std.proofs.Common.{◌≡◌, ℕ, zero, suc, ◌+◌, ◌-◌, ◌≤◌, List, [], ◌∷◌, ◌++◌, Option, Some, None, take, drop, min, subst, sym, ◌∙◌, ap, refl, arith, append_assoc}
use Rattle.std.specs.Io.KnownBytes.{Appends}
use Rattle.std.proofs.Math.Seq.{take-add}
use Rattle.rt_base.specs.Outside.{AppendsFront}

take-of_take : (n m : ℕ) (l : List ℕ) → take n (take m l) ≡ take (min n m) l
take-of_take zero m l = let e : min 0 m ≡ 0 = omega arith in rw e refl
take-of_take (suc n) zero l = let e : min (suc n) 0 ≡ 0 = omega arith in rw e refl
take-of_take (suc n) (suc m) [] = let e : min (suc n) (suc m) ≡ suc (min n m) = omega arith in rw e refl
take-of_take (suc n) (suc m) (x ∷ l) = let e : min (suc n) (suc m) ≡ suc (min n m) = omega arith in rw (e, take-of_take n m l) refl

-- one text after another
appends_both : (a b c : Option (List ℕ)) (xs ys : List ℕ) → Appends a b xs → Appends b c ys → Appends a c (xs ++ ys)
appends_both None b c xs ys h k = tt
appends_both (Some x) None c xs ys h k = absurd h
appends_both (Some x) (Some y) None xs ys h k = absurd k
appends_both (Some x) (Some y) (Some z) xs ys h k = rw (k, h, append_assoc) refl

-- the front of a text up to a place, and then the piece from there to another place
pub appends_piece : (a b c : Option (List ℕ)) (text : List ℕ) (at end : ℕ) → at ≤ end → Appends a b (take at text) → Appends b c (take (end - at) (drop at text)) → Appends a c (take end text)
appends_piece a b c text at end le h k =
    let e : at + (end - at) ≡ end = omega arith in
    let front : take at text ++ take (end - at) (drop at text) ≡ take end text = sym (take-add at (end - at) text) ∙ ap (λ n. take n text) e in
    subst (Appends a c) front (appends_both a b c _ _ h k)

-- the front of a text up to a place, and then a front of the piece from there on
pub appends_front : (a b c : Option (List ℕ)) (text : List ℕ) (at m : ℕ) → Appends a b (take at text) → AppendsFront b c (take m (drop at text)) → AppendsFront a c text
appends_front a b c text at m h (n, k) =
    let front : take at text ++ take n (take m (drop at text)) ≡ take (at + min n m) text = ap (λ l. take at text ++ l) (take-of_take n m (drop at text)) ∙ sym (take-add at (min n m) text) in
    (at + min n m, subst (Appends a c) front (appends_both a b c _ _ h k))
