-- Texts of words and variables, read.
use Rattle.std.proofs.Common.{◌≡◌, ◌≢◌, ℕ, ◌⊎◌, List, [], ◌∷◌, ◌++◌, refl, inl, inr, sym, append_assoc, append-nil, length, false, ◌==◌}
use Rattle.std.proofs.lemmas.List.Elements.{All-nil, All-head, All-tail, All-push}
use Rattle.rt_lines.specs.declared.label.Label.{Label}
use Rattle.rt_lines.specs.declared.variable.Dtv.{Dtv}
use Rattle.rt_lines.specs.Words.{IsLabel}
use Rattle.rt_texts.specs.declared.fault.TextFault.{TextFault}
use Rattle.rt_texts.specs.declared.fault.TextFault.TheVariants.{BadText, Memory}
use Rattle.rt_texts.specs.Goods.{IsBase, IsWord, IsDtv}
use Rattle.rt_texts.specs.Texts.{label_text, base_text, word_text, dtv_text}
use Rattle.rt_texts.specs.Readings.{IsCut, IsNoText}
use Rattle.rt_texts.proofs.Clear.{HasNo-label, HasNo-base, StopsAt-word}
use Rattle.rt_texts.proofs.Cuts.{one_cut}
use Rattle.rt_texts.proofs.WordTexts.{word_text-append}

-- the word was read of the text, and the rest is left: each good word of the text goes on with the rest
pub record IsPartRead (text : List ℕ) (word : List Label) (rest : List ℕ) : Type 0 where
  pub joined : word_text word ++ rest ≡ text
  pub good : IsWord word
  pub goes_on : (v : List Label) → IsWord v → word_text v ≡ text → (u : List Label) × IsWord u × (word_text u ≡ rest)

pub IsPartRead-begins : (text : List ℕ) → IsPartRead text [] text
IsPartRead-begins text = record { joined = refl; good = All-nil IsLabel; goes_on = λ v good same. (v, good, same) }

-- a word whose text goes on with a dot begins with the label up to the next dot
first_label : (after front back : List ℕ) (u : List Label) → IsCut 46 after front back → IsWord u → word_text u ≡ 46 ∷ after → (l : Label) × (w : List Label) × IsLabel l × IsWord w × (label_text l ≡ front) × (word_text w ≡ back)
first_label after front back [] cut good same = cc
first_label after front back (l ∷ w) cut good same =
    let here : IsLabel l = All-head IsLabel l w good in
    let tails : label_text l ++ word_text w ≡ front ++ back = cc (same, cut.joined) in
    let one = one_cut 46 (label_text l) (word_text w) front back tails (HasNo-label 46 l (inl refl) here) (StopsAt-word w) cut.clear cut.stops in
    (l, w, here, All-tail IsLabel l w good, one.0, one.1)

pub IsPartRead-goes_on : (text after front back : List ℕ) (word : List Label) (label : Label) → IsPartRead text word (46 ∷ after) → IsCut 46 after front back → IsLabel label → label_text label ≡ front → IsPartRead text (word ++ label ∷ []) back
IsPartRead-goes_on text after front back word label read cut good same =
    record {
      joined = rw (word_text-append word (label ∷ []), append-nil, same, append_assoc) (cc (read.joined, cut.joined));
      good = All-push IsLabel word label read.good good;
      goes_on = λ v fine is.
          let u = read.goes_on v fine is in
          let first = first_label after front back u.0 cut u.1 u.2 in (first.1, first.3, first.5);
    }

-- a label that was not read
pub no_label : (text after front back : List ℕ) (word : List Label) → IsPartRead text word (46 ∷ after) → IsCut 46 after front back → IsNoText IsLabel label_text front → IsNoText IsWord word_text text
no_label text after front back word read cut none v good same =
    let u = read.goes_on v good same in
    let first = first_label after front back u.0 cut u.1 u.2 in none first.0 first.2 first.4

-- a rest that is not empty and begins with no dot
stuck : (rest : List ℕ) (u : List Label) → false ≡ (length rest == 0) → ((after : List ℕ) → rest ≢ 46 ∷ after) → word_text u ≡ rest → ⊥
stuck [] u more dot same = cc
stuck (b ∷ rest) [] more dot same = cc
stuck (b ∷ rest) (l ∷ w) more dot same = dot (label_text l ++ word_text w) (sym same)

pub no_rest : (text rest : List ℕ) (word : List Label) → IsPartRead text word rest → false ≡ (length rest == 0) → ((after : List ℕ) → rest ≢ 46 ∷ after) → IsNoText IsWord word_text text
no_rest text rest word read more dot v good same = let u = read.goes_on v good same in stuck rest u.0 more dot u.2

-- what a variable's parts are, where its text is cut at the first dot
variable_parts : (text front back : List ℕ) (x : Dtv) → IsCut 46 text front back → IsDtv x → dtv_text x ≡ text → (base_text x.base ≡ front) × (word_text x.word ≡ back)
variable_parts text front back x cut good same =
    let whole : base_text x.base ++ word_text x.word ≡ front ++ back = cc (same, cut.joined) in
    one_cut 46 (base_text x.base) (word_text x.word) front back whole (HasNo-base 46 x.base (inl refl) good.0) (StopsAt-word x.word) cut.clear cut.stops

pub no_base : (text front back : List ℕ) → IsCut 46 text front back → IsNoText IsBase base_text front → IsNoText IsDtv dtv_text text
no_base text front back cut none x good same = none x.base good.0 (variable_parts text front back x cut good same).0

pub no_word : (text front back : List ℕ) → IsCut 46 text front back → IsNoText IsWord word_text back → IsNoText IsDtv dtv_text text
no_word text front back cut none x good same = none x.word good.1 (variable_parts text front back x cut good same).1

pub fault_of_word : (text front back : List ℕ) (fault : TextFault) → IsCut 46 text front back → (fault ≡ Memory) ⊎ ((fault ≡ BadText 0) × IsNoText IsWord word_text back) → (fault ≡ Memory) ⊎ ((fault ≡ BadText 0) × IsNoText IsDtv dtv_text text)
fault_of_word text front back fault cut (inl e) = inl e
fault_of_word text front back fault cut (inr (e, none)) = inr (e, no_word text front back cut none)
