-- Prefixes of variables, one after the other.
use Rattle.std.proofs.Common.{◌≡◌, ℕ, suc, zero, ◌+◌, ◌<◌, ◌≤◌, List, [], ◌∷◌, ◌++◌, length, get_or, take, drop, refl, ap, sym, ◌∙◌, subst, arith, add-one}
use Rattle.std.specs.List.{fold, flat_map}
use Rattle.std.specs.Prelude.{slice_get, Some}
use Rattle.std.proofs.lemmas.Option.{get_or_from_slice_get}
use Rattle.std.proofs.Math.Seq.{take-suc}
use Rattle.std.proofs.lemmas.List.{append-nil, length-map, get_or-map, take-append-drop}
use Rattle.std.proofs.lemmas.Grind.{flat_map-append}
use Rattle.std.proofs.lemmas.List.Sums.{fold-append}
use Rattle.indexmap.specs.IndexSet.{insert_key}
use Rattle.rt_lines.specs.declared.label.Label.{Label}
use Rattle.rt_lines.specs.declared.variable.Dtv.{Dtv}
use Rattle.rt_lines.specs.Equality.{variable_eq}
use Rattle.rt_rules.specs.Rules.{longer, extended}
use Rattle.rt_named.specs.Naming.{word_prefixes, prefixes, with_prefixes}
use Rattle.rt_named.specs.Origins.{no_variable}

-- the prefix of so many letters
abbrev pub prefix_of : Dtv → ℕ → Dtv
prefix_of x i = record { base = x.base; word = take i x.word }

length-word_prefixes : (w : List Label) → length (word_prefixes w) ≡ length w + 1
length-word_prefixes [] = refl
length-word_prefixes (l ∷ w) = omega (arith, length-word_prefixes w, length-map (word_prefixes w) (λ (v : List Label). l ∷ v))

word_prefix_at : (w : List Label) (i : ℕ) (d : List Label) → i ≤ length w → get_or (word_prefixes w) i d ≡ take i w
word_prefix_at [] zero d h = refl
word_prefix_at [] (suc i) d h = absurd (omega arith)
word_prefix_at (l ∷ w) zero d h = refl
word_prefix_at (l ∷ w) (suc i) d h =
    get_or-map (λ (v : List Label). l ∷ v) (word_prefixes w) i d d (omega (arith, length-word_prefixes w)) ∙ ap (λ (v : List Label). l ∷ v) (word_prefix_at w i d (omega arith))

pub length-prefixes : (x : Dtv) → length (prefixes x) ≡ length x.word + 1
length-prefixes x = length-map (word_prefixes x.word) (λ (w : List Label). record { base = x.base; word = w }) ∙ length-word_prefixes x.word

prefix_at : (x : Dtv) (i : ℕ) → i ≤ length x.word → get_or (prefixes x) i no_variable ≡ prefix_of x i
prefix_at x i h =
    get_or-map (λ (w : List Label). record { base = x.base; word = w }) (word_prefixes x.word) i [] no_variable (omega (arith, length-word_prefixes x.word))
    ∙ ap (λ (w : List Label). record { base = x.base; word = w }) (word_prefix_at x.word i [] h)

-- one prefix more
pub prefixes-take : (x : Dtv) (i : ℕ) → i ≤ length x.word → take (i + 1) (prefixes x) ≡ take i (prefixes x) ++ prefix_of x i ∷ []
prefixes-take x i h =
    ap (λ n. take n (prefixes x)) (add-one i) ∙ take-suc (prefixes x) i no_variable (omega (arith, length-prefixes x)) ∙ ap (λ y. take i (prefixes x) ++ y ∷ []) (prefix_at x i h)

abbrev insert : List Dtv → List Dtv → List Dtv
insert known xs = fold (insert_key variable_eq) known xs

pub entered-more : (known : List Dtv) (x : Dtv) (i : ℕ) → i ≤ length x.word → insert known (take (i + 1) (prefixes x)) ≡ insert_key variable_eq (insert known (take i (prefixes x))) (prefix_of x i)
entered-more known x i h = ap (insert known) (prefixes-take x i h) ∙ fold-append (insert_key variable_eq) known (take i (prefixes x)) (prefix_of x i ∷ [])

-- a prefix with its next letter
pub prefix_more : (x : Dtv) (items : List Label) (i : ℕ) (d : Label) → items ≡ x.word → i < length items → longer (prefix_of x i) (get_or items i d) ≡ prefix_of x (i + 1)
prefix_more x items i d e h =
    ap (λ (w : List Label). record { base = x.base; word = w }) (rw e (sym (ap (λ n. take n x.word) (add-one i) ∙ take-suc x.word i d (subst (λ w. i < length w) e h))))

pub prefix_rest : (x : Dtv) (i : ℕ) → extended (prefix_of x i) (drop i x.word) ≡ x
prefix_rest x i = ap (λ (w : List Label). record { base = x.base; word = w }) (take-append-drop i x.word)

pub with_prefixes-one : (known : List Dtv) (x : Dtv) → with_prefixes known (x ∷ []) ≡ insert known (prefixes x)
with_prefixes-one known x = ap (insert known) (append-nil (prefixes x))

pub with_prefixes-append : (known xs ys : List Dtv) → with_prefixes known (xs ++ ys) ≡ with_prefixes (with_prefixes known xs) ys
with_prefixes-append known xs ys = ap (insert known) (flat_map-append prefixes xs ys) ∙ fold-append (insert_key variable_eq) known (flat_map prefixes xs) (flat_map prefixes ys)

-- a number's variable with a letter more
pub next_prefix : (known : List Dtv) (x : Dtv) (items : List Label) (n i : ℕ) (d : Label) → items ≡ x.word → i < length items → slice_get known n ≡ Some (prefix_of x i) →
    longer (get_or known n no_variable) (get_or items i d) ≡ prefix_of x (i + 1)
next_prefix known x items n i d e h f =
    ap (λ (z : Dtv). longer z (get_or items i d)) (get_or_from_slice_get known n (prefix_of x i) no_variable f) ∙ prefix_more x items i d e h
