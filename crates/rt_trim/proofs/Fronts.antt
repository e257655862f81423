-- Words that begin others, but for loads and stores, by how many letters.
use Rattle.std.proofs.Common.{◌≡◌, ℕ, zero, suc, ◌+◌, ◌<◌, ◌≤◌, List, [], ◌∷◌, map, length, take, get_or, refl, sym, ap, ◌∙◌, arith}
use Rattle.std.proofs.lemmas.List.{take_more, take_all}
use Rattle.rt_base.proofs.Lists.{map-push}
use Rattle.rt_lines.specs.declared.label.Label.{Label}
use Rattle.rt_lines.specs.declared.variable.Dtv.{Dtv}
use Rattle.rt_rules.specs.Rules.{longer}
use Rattle.rt_trim.specs.Idle.{as_load, Begins}
use Rattle.rt_trim.specs.Idle.Begins.{nothing, letter}
use Rattle.rt_trim.specs.Trimming.{front_of, loaded}

first_letter : (a b : Label) (w v : List Label) → ◌≡◌ {A = List Label} (a ∷ w) (b ∷ v) → a ≡ b
first_letter a b w v e = cc

other_letters : (a b : Label) (w v : List Label) → ◌≡◌ {A = List Label} (a ∷ w) (b ∷ v) → w ≡ v
other_letters a b w v e = cc

pub begins_from : (u w : List Label) (n : ℕ) → map as_load u ≡ map as_load (take n w) → Begins u w
begins_from [] w n e = nothing w
begins_from (k ∷ u) [] zero e = absurd (cc)
begins_from (k ∷ u) [] (suc n) e = absurd (cc)
begins_from (k ∷ u) (l ∷ w) zero e = absurd (cc)
begins_from (k ∷ u) (l ∷ w) (suc n) e =
    letter k l u w (first_letter (as_load k) (as_load l) (map as_load u) (map as_load (take n w)) e)
    (begins_from u w n (other_letters (as_load k) (as_load l) (map as_load u) (map as_load (take n w)) e))

pub begins_to : {u w : List Label} → Begins u w → (n : ℕ) × (n ≤ length w) × (map as_load u ≡ map as_load (take n w))
begins_to (nothing w) = (zero, omega arith, refl)
begins_to (letter k l u w e b) =
    let r : (n : ℕ) × (n ≤ length w) × (map as_load u ≡ map as_load (take n w)) = begins_to b in
    let less = r.1 in
    (suc r.0, omega (arith, less), rw (e, r.2) refl)

mapped_length : (w : List Label) → length (map as_load w) ≡ length w
mapped_length [] = refl
mapped_length (l ∷ w) = ap suc (mapped_length w)

taken_length : (n : ℕ) (w : List Label) → n ≤ length w → length (take n w) ≡ n
taken_length zero w h = refl
taken_length (suc n) [] h = absurd (omega (arith, h))
taken_length (suc n) (l ∷ w) h = ap suc (taken_length n w (omega (arith, h)))

-- a front that is not the whole is another variable
pub front_apart : (x : Dtv) (n : ℕ) → n < length x.word → front_of x n ≡ loaded x → ⊥
front_apart x n less e =
    let words : map as_load (take n x.word) ≡ map as_load x.word = ap (λ (v : Dtv). v.word) e in
    let few : length (take n x.word) ≡ length x.word = sym (mapped_length (take n x.word)) ∙ ap length words ∙ mapped_length x.word in
    let count = taken_length n x.word (omega (arith, less)) in
    omega (arith, few, count, less)

abbrev whole : Dtv → List Label → Dtv
whole x w = record { base = x.base; word = map as_load w }

-- all letters
pub front_all : (x : Dtv) (n : ℕ) → length x.word ≤ n → front_of x n ≡ loaded x
front_all x n h = ap (whole x) (take_all n x.word (omega (arith, h)))

abbrev pub worded : Dtv → List Label → Dtv
worded y w = record { base = y.base; word = w }

-- a letter more
pub front_more : (x : Dtv) (n : ℕ) (l : Label) → n < length x.word →
    longer (front_of x n) (as_load (get_or x.word n l)) ≡ front_of x (n + 1)
front_more x n l less =
    ap (worded x) (sym (map-push as_load (take n x.word) (get_or x.word n l)) ∙ ap (map as_load) (sym (take_more x.word n l less)))
