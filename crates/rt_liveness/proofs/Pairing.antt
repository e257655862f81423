-- Lists of what belongs to the items of other lists.
use Rattle.std.proofs.Common.{◌≡◌, ℕ, ◌+◌, ◌<◌, ◌≤◌, ◌⊎◌, inl, inr, List, [], ◌∷◌, ◌++◌, length, get_or, slice_get, Some, sym, ap, subst, ◌∙◌, arith}
use Rattle.std.proofs.lemmas.Bool.{cases_lt}
use Rattle.std.proofs.lemmas.List.{get_or_append_left, length_push}
use Rattle.std.proofs.lemmas.Option.{slice_get-get_or, slice_get_within, get_or_from_slice_get}
use Rattle.std.proofs.Math.Seq.{get_or-append_seam}
use Rattle.rt_liveness.specs.Inside.Found.{ArePaired}

module _ {X Y : Type 0} (P : ℕ → X → Y → Type 0) (firsts : List X) where
  pub no_pair : (seconds : List Y) → seconds ≡ [] → ArePaired P firsts 0 seconds
  no_pair seconds is = record {
    one_each = ap length is;
    each = λ k x y at here. let less = slice_get_within seconds k y here in let none : length seconds ≡ 0 = ap length is in absurd (omega arith);
  }

  -- one pair more
  module _ (count : ℕ) (seconds more : List Y) (y : Y) (is : more ≡ seconds ++ y ∷ []) (x : X) (at : slice_get firsts count ≡ Some x) (paired : ArePaired P firsts count seconds) (p : P count x y) where
    last : (k : ℕ) → (k ≡ length seconds) → (x' : X) (y' : Y) → slice_get firsts k ≡ Some x' → slice_get more k ≡ Some y' → P k x' y'
    last k e x' y' there here =
        let long : k ≡ count = e ∙ paired.one_each in
        let same_first : x' ≡ x =
        let there' : slice_get firsts count ≡ Some x' = subst (λ (n : ℕ). slice_get firsts n ≡ Some x') long there in
        let both : Some x' ≡ Some x = sym there' ∙ at in
        cc
        in
        let read : get_or more k y ≡ y' = get_or_from_slice_get more k y' y here in
        let known : get_or more k y ≡ y = ap (λ (ys : List Y). get_or ys k y) is ∙ (ap (λ (n : ℕ). get_or (seconds ++ y ∷ []) n y) e ∙ get_or-append_seam seconds y [] y) in
        let same_second : y ≡ y' = sym known ∙ read in
        subst (λ (n : ℕ). P n x' y') (sym long) (subst (λ (a : X). P count a y') (sym same_first) (subst (λ (b : Y). P count x b) same_second p))

    before : (k : ℕ) → (k < length seconds) → (x' : X) (y' : Y) → slice_get firsts k ≡ Some x' → slice_get more k ≡ Some y' → P k x' y'
    before k less x' y' there here =
        let read : get_or more k y' ≡ y' = get_or_from_slice_get more k y' y' here in
        let old : get_or more k y' ≡ get_or seconds k y' = ap (λ (ys : List Y). get_or ys k y') is ∙ get_or_append_left seconds (y ∷ []) y' k less in
        paired.each k x' y' there (slice_get-get_or seconds k y' less ∙ ap Some (sym old ∙ read))

    pub next_pair : ArePaired P firsts (count + 1) more
    next_pair = record {
      one_each = ap length is ∙ (length_push seconds y ∙ ap (λ (n : ℕ). n + 1) paired.one_each);
      each = λ k x' y' there here.
          let long : length more ≡ length seconds + 1 = ap length is ∙ length_push seconds y in
          let less : k < length more = slice_get_within more k y' here in
          elim (cases_lt k (length seconds)) [ inl old ↦ before k old x' y' there here | inr le ↦ last k (omega arith) x' y' there here ];
    }

  pub all_pairs : (count : ℕ) (seconds : List Y) → count ≡ length firsts → ArePaired P firsts count seconds → ArePaired P firsts (length firsts) seconds
  all_pairs count seconds whole = subst (λ (n : ℕ). ArePaired P firsts n seconds) whole

-- one pair more, of the next of some items that are those of the first list
pub next_listed : {X Y : Type 0} (P : ℕ → X → Y → Type 0) (firsts items : List X) → items ≡ firsts → (i : ℕ) (d : X) → i < length items → (seconds more : List Y) (y : Y) → more ≡ seconds ++ y ∷ [] → ArePaired P firsts i seconds → P i (get_or items i d) y
    → ArePaired P firsts (i + 1) more
next_listed {X} P firsts items same i d less seconds more y is paired p =
    next_pair P firsts i seconds more y is (get_or items i d) (subst (λ (xs : List X). slice_get xs i ≡ Some (get_or items i d)) same (slice_get-get_or items i d less)) paired p
