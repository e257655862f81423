-- What a look says where the paths of some calls end, and what an ascending list has.
use Rattle.std.proofs.Common.{◌≡◌, ◌==◌, ℕ, ◌<◌, ◌≤◌, ◌⊎◌, inl, inr, true, false, Option, Result, Ok, Err, is_ok, List, AllPairs, length, get_or, sym, ap, subst, ◌∙◌, arith}
use Rattle.std.specs.List.{list_any}
use Rattle.std.specs.List.Sorted.{IsBinarySearchResult}
use Rattle.std.specs.Ordering.{nat_cmp}
use Rattle.std.proofs.lemmas.Bool.{cases_lt, cases_eq, cases_Bool}
use Rattle.std.proofs.lemmas.List.{get_or_default}
use Rattle.std.proofs.lemmas.Bool.Decides.{nat_tests}
use Rattle.std.proofs.lemmas.List.Folds.{list_any_at, list_any_none}
use Rattle.std.proofs.lemmas.List.Sorted.{searched}
use Rattle.rt_elf.specs.Parts.{Parts as Object}
use Rattle.rt_elf.specs.Object.{IsLinkable}
use Rattle.rt_link.specs.declared.place.Place.{Place}
use Rattle.rt_control.specs.declared.form.Called.{Called}
use Rattle.rt_control.specs.declared.form.Form.{Form}
use Rattle.rt_control.specs.declared.form.Form.TheVariants.{Plain, Call, Tail, Return, Stop}
use Rattle.rt_control.specs.Laws.{IsGoodAfter, IsGoodForm, IsKnownForm, IsLawOfOneForm, IsLawOfPlaces, IsLawOfNames}
use Rattle.rt_control.specs.Sites.{IsAt}
use Rattle.rt_control.proofs.GoodForms.{at-good}
use Rattle.rt_control.proofs.OneForm.{one_at}
use Rattle.rt_proc.specs.Ends.{is_end, after_call, ended, Look, ended_look, IsLookAt}

-- no place of a form is changed, and no name

good-after : (object : Object) (ends : List ℕ) (callee : Called) (after : Option Place) → IsGoodAfter object after → IsGoodAfter object (after_call ends callee after)
good-after object ends callee after h = elim (cases_Bool (is_end ends callee)) [
  | inl over ↦ rw over tt
  | inr on ↦ rw on h
]

good-ended : (object : Object) (ends : List ℕ) (form : Form) → IsGoodForm object form → IsGoodForm object (ended ends form)
good-ended object ends (Plain insn way) h = h
good-ended object ends (Call callee link after) h = (h.0, good-after object ends callee after h.1)
good-ended object ends (Tail leads) h = h
good-ended object ends Return h = h
good-ended object ends Stop h = h

known-ended : (object : Object) (ends : List ℕ) (form : Form) → IsKnownForm object form → IsKnownForm object (ended ends form)
known-ended object ends (Plain insn way) h = h
known-ended object ends (Call callee link after) h = h
known-ended object ends (Tail leads) h = h
known-ended object ends Return h = h
known-ended object ends Stop h = h

-- what the site itself does
abbrev IsFrom : Object → List ℕ → Place → Form → Type 0
IsFrom object ends place form = (found : Form) × IsAt object place (Ok found) × (form ≡ ended ends found)

source-of : (object : Object) (ends : List ℕ) (place : Place) (form : Form) (found : Look) → IsAt object place found → Ok form ≡ ended_look ends found → IsFrom object ends place form
source-of object ends place form (Ok found) is_at e = let f : form ≡ ended ends found = cc in (found, is_at, f)
source-of object ends place form (Err fault) is_at e = cc

source : (object : Object) (ends : List ℕ) (place : Place) (form : Form) → IsLookAt object ends place (Ok form) → IsFrom object ends place form
source object ends place form h = source-of object ends place form h.found h.is_at h.is_ended

-- laws of looks, by those of sites
pub good-look : IsLawOfPlaces → (object : Object) (ends : List ℕ) (place : Place) (form : Form) → IsLookAt object ends place (Ok form) → IsGoodForm object form
good-look law object ends place form h =
    let from = source object ends place form h in
    subst (IsGoodForm object) (sym from.2) (good-ended object ends from.0 (law object place from.0 from.1))

pub known-look : IsLawOfNames → (object : Object) (ends : List ℕ) (place : Place) (form : Form) → IsLinkable object → IsLookAt object ends place (Ok form) → IsKnownForm object form
known-look law object ends place form linkable h =
    let from = source object ends place form h in
    subst (IsKnownForm object) (sym from.2) (known-ended object ends from.0 (law object place from.0 linkable from.1))

pub one_look : IsLawOfOneForm → (object : Object) (ends : List ℕ) (place : Place) (first second : Look) → IsLookAt object ends place first → IsLookAt object ends place second → first ≡ second
one_look law object ends place first second h k = h.is_ended ∙ ap (ended_look ends) (law object place h.found k.found h.is_at k.is_at) ∙ sym k.is_ended

pub same_look : (object : Object) (ends : List ℕ) (place : Place) (first second : Look) → IsLookAt object ends place first → IsLookAt object ends place second → first ≡ second
same_look object ends place first second h k = one_look one_at object ends place first second h k

pub look-good : (object : Object) (ends : List ℕ) (place : Place) (form : Form) → IsLookAt object ends place (Ok form) → IsGoodForm object form
look-good object ends place form h = good-look (λ o p f is_at. at-good o p (Ok f) is_at) object ends place form h

-- looks from what was found
pub look_of : (object : Object) (ends : List ℕ) (place : Place) (found look : Look) → IsAt object place found → look ≡ ended_look ends found → IsLookAt object ends place look
look_of object ends place found look is_at e = record { found = found; is_at = is_at; is_ended = e }

-- what a binary search in an ascending list says

not-above : (xs : List ℕ) → AllPairs ◌<◌ xs → (i j : ℕ) → i ≤ j → j < length xs → get_or xs i 0 ≤ get_or xs j 0
not-above xs ascending i j h within = elim (cases_eq i j) [
  | inl same ↦ rw same (omega arith)
  | inr other ↦ let less : get_or xs i 0 < get_or xs j 0 = ascending i j 0 (omega arith) within in omega arith
]

pub eq-self : (a b : ℕ) → a ≡ b → (a == b) ≡ true
eq-self a b e = grind (arith, nat_tests)

eq-apart : (a b : ℕ) → (a < b) ⊎ (b < a) → (a == b) ≡ false
eq-apart a b (inl h) = grind (arith, nat_tests)
eq-apart a b (inr h) = grind (arith, nat_tests)

pub searched-has : (xs : List ℕ) (x : ℕ) (found : Result ℕ ℕ) → AllPairs ◌<◌ xs → IsBinarySearchResult (λ y. nat_cmp y x) xs found → is_ok found ≡ list_any (λ y. y == x) xs
searched-has xs x (Ok i) ascending is =
    let here = searched xs x (Ok i) is (not-above xs ascending) in
    sym (list_any_at (λ y. y == x) xs i 0 here.0 (eq-self (get_or xs i 0) x here.1))
searched-has xs x (Err i) ascending is =
    let here = searched xs x (Err i) is (not-above xs ascending) in
    sym (list_any_none (λ y. y == x) xs (λ k d within.
    let same : get_or xs k d ≡ get_or xs k 0 = get_or_default xs k d 0 within in
    elim (cases_lt k i) [
      | inl before ↦ rw same (eq-apart (get_or xs k 0) x (inl (here.1 k before)))
      | inr after ↦ rw same (eq-apart (get_or xs k 0) x (inr (here.2 k after within)))
    ]
    ))
