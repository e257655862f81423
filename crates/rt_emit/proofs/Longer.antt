-- The order of variables with a letter more.
use Rattle.std.proofs.Common.{◌≡◌, ◌≢◌, ℕ, ◌+◌, ◌-◌, ◌<◌, List, [], ◌∷◌, ◌++◌, map, length, true, refl, sym, ap, ◌∙◌, arith}
use Rattle.std.specs.declared.cmp.Ordering.{Ordering}
use Rattle.std.specs.declared.cmp.Ordering.TheVariants.{Less, Equal, Greater}
use Rattle.std.specs.Ordering.{ordering_then, nat_cmp, is_lt, MatchOrdering}
use Rattle.std.specs.Cmp.{nat_cmp_is}
use Rattle.std.specs.Cmp.Lexicographic.{slice_cmp}
use Rattle.std.proofs.lemmas.Cmp.{nat_list_cmp_total, tied_itself, ranked}
use Rattle.std.proofs.lemmas.Map.Lookups.{exact_bytes}
use Rattle.std.proofs.lemmas.List.{length-append, length-map}
use Rattle.rt_lines.specs.declared.label.Label.{Label}
use Rattle.rt_lines.specs.declared.variable.Base.{Base}
use Rattle.rt_lines.specs.declared.variable.Base.TheVariants.{Proc, Global, Exist, Outer}
use Rattle.rt_lines.specs.declared.variable.Dtv.{Dtv}
use Rattle.rt_rules.specs.Rules.{longer}
use Rattle.rt_texts.specs.Texts.{label_text}
use Rattle.rt_reduction.specs.Before.{base_key, label_numbers, level, variable_key, comes_before}
use Rattle.rt_base.proofs.Numbers.{nat_cmp-equal}
use Rattle.rt_base.proofs.Lists.{map-push}
use Rattle.rt_reduction.proofs.Before.{one_base_key}

-- the variable is no procedure itself
abbrev pub IsLettered : Dtv → Type 0
IsLettered x = (n : ℕ) → x.base ≡ Proc n → x.word ≢ []

nat_next : (n : ℕ) → nat_cmp n (n + 1) ≡ Less
nat_next n = sym (nat_cmp_is n (n + 1) Less (omega arith))

nat_both : (m n : ℕ) → nat_cmp (m + 1) (n + 1) ≡ nat_cmp m n
nat_both m n = by (nat_cmp m n) (ranked m n (nat_cmp m n) refl)
  where
    by : (o : Ordering) → MatchOrdering o (m < n) (m ≡ n) (n < m) → nat_cmp (m + 1) (n + 1) ≡ o
    by Less h = sym (nat_cmp_is (m + 1) (n + 1) Less (omega (arith, h)))
    by Equal h = sym (nat_cmp_is (m + 1) (n + 1) Equal (omega (arith, h)))
    by Greater h = sym (nat_cmp_is (m + 1) (n + 1) Greater (omega (arith, h)))

length-end : {X : Type 0} (xs : List X) (x : X) → length (xs ++ x ∷ []) ≡ length xs + 1
length-end xs x = length-append xs (x ∷ [])

level_from : (b : Base) (w : List Label) (l : Label) → ((n : ℕ) → b ≡ Proc n → w ≢ []) → level b (w ++ l ∷ []) ≡ level b w + 1
level_from (Proc n) [] l h = absurd (h n refl refl)
level_from (Proc n) (m ∷ w) l h = ap (λ k. k - 1) (length-end (m ∷ w) l) ∙ omega arith
level_from (Global n) w l h = length-end w l
level_from (Exist n) w l h = length-end w l
level_from (Outer n) w l h = length-end w l

pub level-longer : (x : Dtv) (l : Label) → IsLettered x → level (longer x l).base (longer x l).word ≡ level x.base x.word + 1
level-longer x l h = level_from x.base x.word l h

-- a variable comes before it with a letter more
pub longer_after : (x : Dtv) (l : Label) → IsLettered x → comes_before x (longer x l) ≡ true
longer_after x l h = rw (level-longer x l h, nat_next (level x.base x.word)) refl

then_equal : (o : Ordering) → ordering_then o Equal ≡ o
then_equal Less = refl
then_equal Equal = refl
then_equal Greater = refl

then_chain : (o p q : Ordering) → ordering_then (ordering_then o p) q ≡ ordering_then o (ordering_then p q)
then_chain Less p q = refl
then_chain Equal p q = refl
then_chain Greater p q = refl

module _ {X : Type 0} (R : X → X → Ordering) where
  slice_cmp-append : (a b c d : List X) → length a ≡ length c →
      slice_cmp R (a ++ b) (c ++ d) ≡ ordering_then (slice_cmp R a c) (slice_cmp R b d)
  slice_cmp-append [] b [] d e = refl
  slice_cmp-append [] b (y ∷ c) d e = absurd (omega (arith, e))
  slice_cmp-append (x ∷ a) b [] d e = absurd (omega (arith, e))
  slice_cmp-append (x ∷ a) b (y ∷ c) d e =
      let f : length a ≡ length c = omega (arith, e) in
      ap (ordering_then (R x y)) (slice_cmp-append a b c d f) ∙ sym (then_chain (R x y) (slice_cmp R a c) (slice_cmp R b d))

  slice_cmp-end : (a c : List X) (x : X) → length a ≡ length c → R x x ≡ Equal → slice_cmp R (a ++ x ∷ []) (c ++ x ∷ []) ≡ slice_cmp R a c
  slice_cmp-end a c x e f = slice_cmp-append a (x ∷ []) c (x ∷ []) e ∙
      ap (λ o. ordering_then (slice_cmp R a c) (ordering_then o Equal)) f ∙ then_equal (slice_cmp R a c)

abbrev cmp : List (List ℕ) → List (List ℕ) → Ordering
cmp = slice_cmp (slice_cmp nat_cmp)

self : (ns : List ℕ) → slice_cmp nat_cmp ns ns ≡ Equal
self ns = tied_itself nat_list_cmp_total ns

abbrev words_cmp : List Label → List Label → Ordering
words_cmp u w = cmp (map label_text u ++ map label_numbers u) (map label_text w ++ map label_numbers w)

module _ (u w : List Label) (e : length u ≡ length w) where
  same_length : (f : Label → List ℕ) → length (map f u) ≡ length (map f w)
  same_length f = length-map u f ∙ e ∙ sym (length-map w f)

  -- a letter at the end of both changes nothing
  word_end : (l : Label) → words_cmp (u ++ l ∷ []) (w ++ l ∷ []) ≡ words_cmp u w
  word_end l =
      let texts : cmp (map label_text (u ++ l ∷ [])) (map label_text (w ++ l ∷ [])) ≡ cmp (map label_text u) (map label_text w) =
      (λ i. cmp (map-push label_text u l i) (map-push label_text w l i)) ∙
      slice_cmp-end (slice_cmp nat_cmp) (map label_text u) (map label_text w) (label_text l) (same_length label_text) (self (label_text
      l)) in
      let numbers : cmp (map label_numbers (u ++ l ∷ [])) (map label_numbers (w ++ l ∷ [])) ≡ cmp (map label_numbers u) (map
      label_numbers w) =
      (λ i. cmp (map-push label_numbers u l i) (map-push label_numbers w l i)) ∙
      slice_cmp-end (slice_cmp nat_cmp) (map label_numbers u) (map label_numbers w) (label_numbers l) (same_length label_numbers) (self
      (label_numbers l)) in
      let longer_length : length (map label_text (u ++ l ∷ [])) ≡ length (map label_text (w ++ l ∷ [])) =
      length-map (u ++ l ∷ []) label_text ∙ length-end u l ∙ ap (λ n. n + 1) e ∙ sym (length-end w l) ∙
      sym (length-map (w ++ l ∷ []) label_text) in
      slice_cmp-append (slice_cmp nat_cmp) (map label_text (u ++ l ∷ [])) (map label_numbers (u ++ l ∷ [])) (map label_text (w ++ l ∷ []))
      (map label_numbers (w ++ l ∷ [])) longer_length ∙ (λ i. ordering_then (texts i) (numbers i)) ∙
      sym (slice_cmp-append (slice_cmp nat_cmp) (map label_text u) (map label_numbers u) (map label_text w) (map label_numbers w)
      (same_length label_text))

-- of one level and one base are words of one length
level_length : (b : Base) (u w : List Label) → ((n : ℕ) → b ≡ Proc n → u ≢ []) → ((n : ℕ) → b ≡ Proc n → w ≢ []) →
    level b u ≡ level b w → length u ≡ length w
level_length (Proc n) [] w h k e = absurd (h n refl refl)
level_length (Proc n) (l ∷ u) [] h k e = absurd (k n refl refl)
level_length (Proc n) (l ∷ u) (m ∷ w) h k e = omega (arith, e)
level_length (Global n) u w h k e = e
level_length (Exist n) u w h k e = e
level_length (Outer n) u w h k e = e

-- how two keys compare, part by part
abbrev parts_cmp : ℕ → List ℕ → List Label → ℕ → List ℕ → List Label → Ordering
parts_cmp m a u n b w = ordering_then (ordering_then (nat_cmp m n) Equal) (ordering_then (slice_cmp nat_cmp a b) (words_cmp u w))

parts : (x y : Dtv) → cmp (variable_key x) (variable_key y) ≡
    parts_cmp (level x.base x.word) (base_key x.base) x.word (level y.base y.word) (base_key y.base) y.word
parts x y = refl

module _ (x y : Dtv) (l : Label) (h : IsLettered x) (k : IsLettered y) where
  abbrev m : ℕ
  m = level x.base x.word

  abbrev n : ℕ
  n = level y.base y.word

  abbrev bases : Ordering
  bases = slice_cmp nat_cmp (base_key x.base) (base_key y.base)

  abbrev ends : Ordering
  ends = words_cmp (x.word ++ l ∷ []) (y.word ++ l ∷ [])

  by_base : (o : Ordering) → bases ≡ o → m ≡ n → ordering_then o ends ≡ ordering_then o (words_cmp x.word y.word)
  by_base Less e f = refl
  by_base Greater e f = refl
  by_base Equal e f =
      let g : x.base ≡ y.base = one_base_key x.base y.base (exact_bytes (base_key x.base) (base_key y.base) e) in
      let lettered : (j : ℕ) → x.base ≡ Proc j → y.word ≢ [] = λ j p. k j (sym g ∙ p) in
      let same : length x.word ≡ length y.word =
      level_length x.base x.word y.word h lettered (f ∙ ap (λ b. level b y.word) (sym g)) in
      word_end x.word y.word same l

  by_level : (o : Ordering) → nat_cmp m n ≡ o → ordering_then (ordering_then o Equal) (ordering_then bases ends) ≡
      ordering_then (ordering_then o Equal) (ordering_then bases (words_cmp x.word y.word))
  by_level Less e = refl
  by_level Greater e = refl
  by_level Equal e = by_base bases refl (nat_cmp-equal m n e)

  as_parts : cmp (variable_key (longer x l)) (variable_key (longer y l)) ≡
      ordering_then (ordering_then (nat_cmp (m + 1) (n + 1)) Equal) (ordering_then bases ends)
  as_parts = λ i. parts_cmp (level-longer x l h i) (base_key x.base) (x.word ++ l ∷ []) (level-longer y l k i) (base_key y.base) (y.word
      ++ l ∷ [])

  -- two variables with one letter more stand as without it
  pub before-longer : comes_before (longer x l) (longer y l) ≡ comes_before x y
  before-longer = ap is_lt (as_parts ∙ ap (λ o. ordering_then (ordering_then o Equal) (ordering_then bases ends)) (nat_both m n) ∙
      by_level (nat_cmp m n) refl)
