-- Structs made one after the other, each of those that were met.
use Rattle.std.proofs.Common.{◌≡◌, ℕ, ◌+◌, ◌<◌, ◌⊎◌, inl, inr, List, [], ◌∷◌, ◌++◌, length, get_or, refl, sym, ap, subst, ◌∙◌, arith, append-nil, append_assoc, length-append}
use Rattle.std.proofs.lemmas.List.{get_or_append_left, get_or_push}
use Rattle.rt_tree.specs.Trees.{Stand}
use Rattle.rt_cdecl.specs.declared.declarations.CStruct.{CStruct}
use Rattle.rt_cdecl.specs.GoodDecls.{IsStruct}
use Rattle.rt_header.specs.Inside.Built.{Forest, Structs, HasMore, IsStructBuilt}
use Rattle.rt_header.specs.Inside.Made.{struct_at, AreMade, AreSearchedTo, HasSearched}
use Rattle.rt_header.specs.Met.{AreSearched, structs_of_fields}
use Rattle.rt_header.proofs.Growing.{more_length, made_more}

abbrev blank : CStruct
blank = record { number = 0; fields = [] }

-- the structs so far, and one more
searched_more : (n before mid after : ℕ) (structs : List CStruct) (struct : CStruct) → AreSearchedTo n before structs mid → n + length structs < mid → Stand mid (structs_of_fields struct.fields) after → AreSearchedTo n before (structs ++ struct ∷ []) after
searched_more n before mid after [] struct h less stand = (omega arith, after, subst (λ k. Stand k (structs_of_fields struct.fields) after) (sym h) stand, refl)
searched_more n before mid after (first ∷ structs) struct h less stand = (h.0, h.1, h.2, searched_more (n + 1) h.1 mid after structs struct h.3 (omega arith) stand)

all_searched : (n before after : ℕ) (structs : List CStruct) → AreSearchedTo n before structs after → after ≡ n + length structs → AreSearched n before structs
all_searched n before after [] h e = let same : before ≡ after = h in omega arith
all_searched n before after (struct ∷ structs) h e = (h.0, h.1, h.2, all_searched (n + 1) h.1 after structs h.3 (omega arith))

pub search_begins : (made : List CStruct) (before : ℕ) → HasSearched made made before before
search_begins made before = record { own = []; behind = sym (append-nil made); searched = refl }

pub search_goes_on : (made now : List CStruct) (before mid after : ℕ) (struct : CStruct) → HasSearched made now before mid → length now < mid → Stand mid (structs_of_fields struct.fields) after → HasSearched made (now ++ struct ∷ []) before after
search_goes_on made now before mid after struct has less stand =
    let count : length now ≡ length made + length has.own = ap length has.behind ∙ length-append made has.own in
    record {
      own = has.own ++ struct ∷ [];
      behind = ap (λ (s : List CStruct). s ++ struct ∷ []) has.behind ∙ append_assoc made has.own (struct ∷ []);
      searched = searched_more (length made) before mid after has.own struct has.searched (omega arith) stand;
    }

pub search_ends : (made now : List CStruct) (before after : ℕ) → HasSearched made now before after → length now ≡ after → (own : List CStruct) × (now ≡ made ++ own) × AreSearched (length made) before own
search_ends made now before after has end =
    let count : length now ≡ length made + length has.own = ap length has.behind ∙ length-append made has.own in
    (has.own, has.behind, all_searched (length made) before after has.own has.searched (omega arith))

-- one struct more is made
pub made_pushed : (forest : Forest) (old new : Structs) (made : List CStruct) (struct : CStruct) → HasMore old new → AreMade forest old made → length made < length old → IsStructBuilt forest new (length made) struct → IsStruct (length new) struct → AreMade forest new (made ++ struct ∷ [])
made_pushed forest old new made struct m are less built good = record {
  few = let le = more_length old new m in let e = length-append made (struct ∷ []) in omega arith;
  built = λ s inside. built_at s (split s (let e = length-append made (struct ∷ []) in omega arith));
  good = λ k d inside. good_at k d (split k (let e = length-append made (struct ∷ []) in omega arith));
}
  where
    are_more : AreMade forest new made
    are_more = made_more forest old new made m are

    split : (s : ℕ) → s < length made + 1 → (s < length made) ⊎ (length made ≡ s)
    split s inside = search arith

    built_at : (s : ℕ) → (s < length made) ⊎ (length made ≡ s) → IsStructBuilt forest new s (struct_at (made ++ struct ∷ []) s)
    built_at s (inl inside) = subst (IsStructBuilt forest new s) (sym (get_or_append_left made (struct ∷ []) blank s inside)) (are_more.built s inside)
    built_at s (inr end) =
        subst (IsStructBuilt forest new s) (sym (get_or_push made struct blank s end)) (subst (λ k. IsStructBuilt forest new k struct) end built)

    good_at : (k : ℕ) (d : CStruct) → (k < length made) ⊎ (length made ≡ k) → IsStruct (length new) (get_or (made ++ struct ∷ []) k d)
    good_at k d (inl inside) = subst (IsStruct (length new)) (sym (get_or_append_left made (struct ∷ []) d k inside)) (are_more.good k d inside)
    good_at k d (inr end) = subst (IsStruct (length new)) (sym (get_or_push made struct d k end)) good
