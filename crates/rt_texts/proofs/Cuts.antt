-- Texts cut at a byte.
use Rattle.std.proofs.Common.{◌≡◌, ◌≢◌, ℕ, ◌+◌, ◌<◌, List, [], ◌∷◌, ◌++◌, Option, Some, None, length, take, drop, get_or, refl, add-one, drop-cons}
use Rattle.std.proofs.Math.Seq.{take-suc}
use Rattle.std.proofs.lemmas.List.{append_cancel_left}
use Rattle.rt_texts.specs.Readings.{HasNo, StopsAt, Reads}

pub HasNo-append : (byte : ℕ) (a b : List ℕ) → HasNo byte a → HasNo byte b → HasNo byte (a ++ b)
HasNo-append byte [] b h k = k
HasNo-append byte (x ∷ a) b (h, hs) k = (h, HasNo-append byte a b hs k)

pub HasNo-take_more : (byte : ℕ) (text : List ℕ) (k d : ℕ) → k < length text → get_or text k d ≢ byte → HasNo byte (take k text) → HasNo byte (take (k + 1) text)
HasNo-take_more byte text k d h other clear = rw (add-one k, take-suc text k d h) (HasNo-append byte (take k text) (get_or text k d ∷ []) clear (other, tt))

pub StopsAt-drop : (byte : ℕ) (text : List ℕ) (k d : ℕ) → k < length text → get_or text k d ≡ byte → StopsAt byte (drop k text)
StopsAt-drop byte text k d h here = rw (drop-cons text k d h) here

-- a text is cut at a byte in one way
pub one_cut : (byte : ℕ) (front back front' back' : List ℕ) → front ++ back ≡ front' ++ back' → HasNo byte front → StopsAt byte back → HasNo byte front' → StopsAt byte back' → (front ≡ front') × (back ≡ back')
one_cut byte [] back [] back' e h s h' s' = (refl, e)
one_cut byte [] [] (c ∷ front') back' e h s h' s' = cc
one_cut byte [] (b ∷ back) (c ∷ front') back' e h s h' s' = let same : b ≡ c = cc in absurd (h'.0 (cc))
one_cut byte (c ∷ front) back [] [] e h s h' s' = cc
one_cut byte (c ∷ front) back [] (b ∷ back') e h s h' s' = let same : b ≡ c = cc in absurd (h.0 (cc))
one_cut byte (c ∷ front) back (d ∷ front') back' e h s h' s' =
    let heads : c ≡ d = cc in
    let tails : front ++ back ≡ front' ++ back' = cc in
    let rest = one_cut byte front back front' back' tails h.1 s h'.1 s' in
    (cc (heads, rest.0), rest.1)

-- what is read after a front
pub Reads-after : {X : Type 0} (IsGood : X → Type 0) (text_of : X → List ℕ) (front rest text : List ℕ) (r : Option X) → text ≡ front ++ rest → Reads IsGood text_of rest r → Reads IsGood (λ x. front ++ text_of x) text r
Reads-after IsGood text_of front rest text None e none = λ x good same. none x good (append_cancel_left front (text_of x) rest (cc))
Reads-after IsGood text_of front rest text (Some x) e (good, same) = (good, cc)
