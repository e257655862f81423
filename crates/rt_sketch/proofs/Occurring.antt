-- Letters of derivable variables are letters of lines.
use Rattle.std.proofs.Common.{◌≡◌, ℕ, ◌+◌, ◌<◌, ◌≤◌, inl, inr, All, Bool, true, false, List, [], ◌∷◌, ◌++◌, Contains, length, get_or, take, refl, sym, ap, subst, ◌∙◌}
use Rattle.std.specs.List.{list_any}
use Rattle.std.proofs.lemmas.Grind.{flat_map-append}
use Rattle.std.proofs.lemmas.List.{append-nil, take_all, take_more}
use Rattle.std.proofs.lemmas.List.Elements.{All-get_or, All-nil, All-push, Contains-append_cases, Contains-append_left, Contains-append_right, Contains-push, Contains-push_cases}
use Rattle.indexmap.specs.IndexSet.{insert_key}
use Rattle.indexmap.proofs.CallerLemmas.{Contains-insert_key}
use Rattle.rt_base.proofs.Lists.{Contains-none, Contains-cons_cases}
use Rattle.rt_lines.specs.declared.label.Label.{Label}
use Rattle.rt_lines.specs.declared.variable.Dtv.{Dtv}
use Rattle.rt_lines.specs.declared.line.Line.{Line}
use Rattle.rt_lines.specs.declared.line.Line.TheVariants.{Var, Same, Sub, Low, Up}
use Rattle.rt_lines.specs.Words.{IsLabel}
use Rattle.rt_lines.specs.Equality.{label_eq}
use Rattle.rt_lines.specs.Orders.{Below}
use Rattle.rt_lines.proofs.Equal.{label_equal}
use Rattle.rt_rules.specs.Rules.{longer, HasSide, Derivable}
use Rattle.rt_rules.specs.Rules.Derivable.{
  named,
  prefix,
  left_side,
  right_side,
  same_letter,
  same_line,
  same_sub,
  same_self,
  same_back,
  same_chain,
  same_longer,
  sub_line,
  sub_self,
  sub_chain,
  sub_co,
  sub_contra,
  sub_pointer,
  low_line,
  up_line,
  low_sub,
  up_sub,
}
use Rattle.rt_sketch.specs.Inside.Letters.{AddsLetters, HasNext, line_letters, words_of}

-- each letter of the variable is one of the letters
abbrev Spelled : List Label → Dtv → Type 0
Spelled letters x = (l : Label) → Contains x.word l → Contains letters l

-- those of a line
abbrev AreSpelled : List Label → Line → Type 0
AreSpelled letters (Var x) = Spelled letters x
AreSpelled letters (Same x y) = Spelled letters x × Spelled letters y
AreSpelled letters (Sub x y) = Spelled letters x × Spelled letters y
AreSpelled letters (Low k x) = Spelled letters x
AreSpelled letters (Up x k) = Spelled letters x

module _ (order : Below) (lines : List Line) (letters : List Label) (has : (line : Line) (x : Dtv) (l : Label) → Contains lines line → HasSide line x → Contains x.word l → Contains letters l) where
  shorter : (x : Dtv) (l : Label) → Spelled letters (longer x l) → Spelled letters x
  shorter x l s k c = s k (Contains-append_left x.word (l ∷ []) k c)

  last : (x : Dtv) (l : Label) → Spelled letters (longer x l) → Contains letters l
  last x l s = s l (Contains-push x.word l)

  with_last : (x : Dtv) (l : Label) → Spelled letters x → Contains letters l → Spelled letters (longer x l)
  with_last x l s h k c = elim (Contains-push_cases x.word l k c) [ inl d ↦ s k d | inr e ↦ subst (Contains letters) e h ]

  side : (line : Line) (x : Dtv) → Contains lines line → HasSide line x → Spelled letters x
  side line x c h l m = has line x l c h m

  spelled : {j : Line} → Derivable order lines j → AreSpelled letters j
  spelled (named line {x} c h) = side line x c h
  spelled (prefix {x} l d) = shorter x l (spelled d)
  spelled (left_side d) = (spelled d).0
  spelled (right_side d) = (spelled d).1
  spelled (same_letter {x} {y} l d e) = with_last y l (spelled d).1 (last x l (spelled e))
  spelled (same_line {x} {y} c) = (side (Same x y) x c (inl refl), side (Same x y) y c (inr refl))
  spelled (same_sub d) = spelled d
  spelled (same_self d) = (spelled d, spelled d)
  spelled (same_back d) = ((spelled d).1, (spelled d).0)
  spelled (same_chain d e) = ((spelled d).0, (spelled e).1)
  spelled (same_longer {x} {y} l d e) = (spelled e, with_last y l (spelled d).1 (last x l (spelled e)))
  spelled (sub_line {x} {y} c) = (side (Sub x y) x c (inl refl), side (Sub x y) y c (inr refl))
  spelled (sub_self d) = (spelled d, spelled d)
  spelled (sub_chain d e) = ((spelled d).0, (spelled e).1)
  spelled (sub_co {x} {y} l d e v) = (with_last x l (spelled d).0 (last y l (spelled e)), spelled e)
  spelled (sub_contra {x} {y} l d e v) = (spelled e, with_last x l (spelled d).0 (last y l (spelled e)))
  spelled (sub_pointer x d e) = (spelled e, spelled d)
  spelled (low_line {k} {x} c) = side (Low k x) x c refl
  spelled (up_line {k} {x} c) = side (Up x k) x c refl
  spelled (low_sub d e h) = (spelled e).1
  spelled (up_sub d e h) = (spelled d).0

  pub next_letter : (x : Dtv) (l : Label) → Derivable order lines (Var (longer x l)) → Contains letters l
  next_letter x l d = last x l (spelled d)

-- letters added one after another
pub insert_keeps : (ks : List Label) (k x : Label) → Contains ks x → Contains (insert_key label_eq ks k) x
insert_keeps ks k x h = by (list_any (label_eq k) ks) refl
  where
    by : (b : Bool) → list_any (label_eq k) ks ≡ b → Contains (insert_key label_eq ks k) x
    by true e = rw e h
    by false e = rw e (Contains-append_left ks (k ∷ []) x h)

pub insert_good : (ks : List Label) (k : Label) → IsLabel k → All IsLabel ks → All IsLabel (insert_key label_eq ks k)
insert_good ks k good all = by (list_any (label_eq k) ks) refl
  where
    by : (b : Bool) → list_any (label_eq k) ks ≡ b → All IsLabel (insert_key label_eq ks k)
    by true e = rw e all
    by false e = rw e (All-push IsLabel ks k all good)

pub adds_none : (word old : List Label) → AddsLetters (take 0 word) old old
adds_none word old = record { kept = λ l c. c; all = λ l c. absurd (Contains-none l c); good = λ h. h }

pub adds_start : (old : List Label) → AddsLetters [] old old
adds_start old = record { kept = λ l c. c; all = λ l c. absurd (Contains-none l c); good = λ h. h }

pub adds_next : (word : List Label) (i : ℕ) (d : Label) (old mid new : List Label) → All IsLabel word → i < length word → AddsLetters (take i word) old mid → new ≡ insert_key label_eq mid (get_or word i d) →
    AddsLetters (take (i + 1) word) old new
adds_next word i d old mid new good h adds e = record {
  kept = λ l c. subst (λ ks. Contains ks l) (sym e) (insert_keeps mid (get_or word i d) l (adds.kept l c));
  all = λ l c. subst (λ ks. Contains ks l) (sym e) (elim (Contains-push_cases (take i word) (get_or word i d) l (subst (λ ks. Contains ks l) (take_more word i d h) c)) [
    | inl m ↦ insert_keeps mid (get_or word i d) l (adds.all l m)
    | inr f ↦ subst (Contains (insert_key label_eq mid (get_or word i d))) f (Contains-insert_key label_eq label_equal mid (get_or word i d))
  ]);
  good = λ a. subst (All IsLabel) (sym e) (insert_good mid (get_or word i d) (All-get_or IsLabel word i d h good) (adds.good a));
}

pub adds_whole : (word items : List Label) (i : ℕ) (old new : List Label) → items ≡ word → length items ≤ i → AddsLetters (take i items) old new → AddsLetters word old new
adds_whole word items i old new e h adds = subst (λ xs. AddsLetters xs old new) (take_all i items h ∙ e) adds

pub adds_both : (u w old mid new : List Label) → AddsLetters u old mid → AddsLetters w mid new → AddsLetters (u ++ w) old new
adds_both u w old mid new a b = record {
  kept = λ l c. b.kept l (a.kept l c);
  all = λ l c. (elim (Contains-append_cases u w l c) [ inl d ↦ b.kept l (a.all l d) | inr d ↦ b.all l d ]);
  good = λ h. b.good (a.good h);
}

pub adds_line : (lines : List Line) (i : ℕ) (d line : Line) (old mid new : List Label) → i < length lines → line ≡ get_or lines i d → AddsLetters (words_of (take i lines)) old mid →
    AddsLetters (line_letters line) mid new → AddsLetters (words_of (take (i + 1) lines)) old new
adds_line lines i d line old mid new h e a b =
    subst (λ xs. AddsLetters xs old new)
    (sym (ap words_of (take_more lines i d h ∙ ap (λ (k : Line). take i lines ++ k ∷ []) (sym e)) ∙ flat_map-append line_letters (take i lines) (line ∷ [])
    ∙ ap (λ (xs : List Label). words_of (take i lines) ++ xs) (append-nil (line_letters line))))
    (adds_both (words_of (take i lines)) (line_letters line) old mid new a b)

joined_has : (lines : List Line) (line : Line) (l : Label) → Contains lines line → Contains (line_letters line) l → Contains (words_of lines) l
joined_has [] line l c d = absurd (Contains-none line c)
joined_has (k ∷ lines) line l c d = elim (Contains-cons_cases k lines line c) [
  | inl e ↦ Contains-append_left (line_letters k) (words_of lines) l (subst (λ j. Contains (line_letters j) l) (sym e) d)
  | inr h ↦ Contains-append_right (line_letters k) (words_of lines) l (joined_has lines line l h d)
]

in_line : (line : Line) (x : Dtv) (l : Label) → HasSide line x → Contains x.word l → Contains (line_letters line) l
in_line (Var y) x l e c = subst (λ (z : Dtv). Contains z.word l) (sym e) c
in_line (Low k y) x l e c = subst (λ (z : Dtv). Contains z.word l) (sym e) c
in_line (Up y k) x l e c = subst (λ (z : Dtv). Contains z.word l) (sym e) c
in_line (Same y z) x l (inl e) c = Contains-append_left y.word z.word l (subst (λ (v : Dtv). Contains v.word l) (sym e) c)
in_line (Same y z) x l (inr e) c = Contains-append_right y.word z.word l (subst (λ (v : Dtv). Contains v.word l) (sym e) c)
in_line (Sub y z) x l (inl e) c = Contains-append_left y.word z.word l (subst (λ (v : Dtv). Contains v.word l) (sym e) c)
in_line (Sub y z) x l (inr e) c = Contains-append_right y.word z.word l (subst (λ (v : Dtv). Contains v.word l) (sym e) c)

pub has_next : (lines : List Line) (old letters : List Label) → AddsLetters (words_of lines) old letters → HasNext lines letters
has_next lines old letters adds order x l d =
    next_letter order lines letters (λ line y k c h m. adds.all k (joined_has lines line k c (in_line line y k h m))) x l d

-- letters that are added to none
pub all_good : (word old new : List Label) → old ≡ [] → AddsLetters word old new → All IsLabel new
all_good word old new e adds = adds.good (subst (All IsLabel) (sym e) (All-nil IsLabel))
