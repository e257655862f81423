-- What is kept with globals and with entries.
use Rattle.std.proofs.Common.{◌≡◌, ℕ, ◌+◌, ◌≤◌, ◌<◌, ◌⊎◌, inl, inr, Bool, true, false, ◌↔◌, IsTrue, get_or, take, take_all, List, [], ◌∷◌, ◌++◌, Option, Some, None, All, Contains, fold, length, nat_eq, refl, ap, sym, subst, ◌∙◌, append-nil}
use Rattle.std.specs.Option.{is_some}
use Rattle.std.proofs.lemmas.List.Sums.{fold-append}
use Rattle.std.proofs.lemmas.List.Elements.{All-append, All-contains, All-map, All-more}
use Rattle.std.proofs.lemmas.Bool.{false≢true}
use Rattle.indexmap.specs.IndexSet.{insert_key}
use Rattle.rt_base.proofs.Lists.{Contains-map, All-front, All-back}
use Rattle.rt_lines.specs.declared.variable.Dtv.{Dtv}
use Rattle.rt_lines.specs.declared.line.Line.{Line}
use Rattle.rt_lines.specs.declared.line.Line.TheVariants.{Var, Same, Sub, Low, Up}
use Rattle.rt_scheme.specs.declared.report.Entry.{Entry}
use Rattle.rt_reports.specs.Globals.{base_globals, line_globals, lines_globals, entries_globals}
use Rattle.rt_reports.specs.GoodReports.{numbers_of}
use Rattle.rt_reports.specs.Inside.Drafts.{all_entries, least_after, AllNamed, IsUnfinished, IsListing, IsDraft}
use Rattle.rt_reports.proofs.Runs.{least-push_global, least-push_entry}
use Rattle.rt_reports.proofs.Drafts.{made, entries_globals-push, numbers_of-push}
use Rattle.rt_reports.proofs.Sets.{numbered_has, numbered_all}

-- equivalences in a row
pub iff_trans : {A B C : Type 0} → A ↔ B → B ↔ C → A ↔ C
iff_trans f g = (λ a. g.0 (f.0 a), λ c. f.1 (g.1 c))

-- a global is listed where its number is kept
pub listed_has : (globals : List (ℕ × List ℕ)) (numbers : List ℕ) (least n : ℕ) (r : Bool) → IsListing globals numbers least → IsTrue r ↔ Contains numbers n → IsTrue r ↔ Contains (numbers_of globals) n
listed_has globals numbers least n r listing test = iff_trans test (numbered_has numbers (numbers_of globals) listing.numbered n)

-- one global more
pub listing_more : (globals : List (ℕ × List ℕ)) (numbers : List ℕ) (least n : ℕ) (name : List ℕ) → IsListing globals numbers least → IsListing (globals ++ (n, name) ∷ []) (insert_key nat_eq numbers n) (n + 1)
listing_more globals numbers least n name listing =
    record {
      numbered = ap (λ s. insert_key nat_eq s n) listing.numbered ∙ (sym (fold-append (insert_key nat_eq) [] (numbers_of globals) (n ∷ [])) ∙ ap (fold (insert_key nat_eq) []) (sym (numbers_of-push globals n name)));
      risen = sym (least-push_global globals n name);
    }

pub listing_pushed : (globals : List (ℕ × List ℕ)) (numbers : List ℕ) (least n : ℕ) (name : List ℕ) (new : List (ℕ × List ℕ)) (kept : List ℕ) (number : ℕ) → IsListing globals numbers least → new ≡ globals ++ (n, name) ∷ [] → kept ≡ insert_key nat_eq numbers n → number ≡ n → IsListing new kept (number + 1)
listing_pushed globals numbers least n name new kept number listing pushed added same =
    let more = listing_more globals numbers least n name listing in
    record {
      numbered = added ∙ (more.numbered ∙ ap (λ s. fold (insert_key nat_eq) [] (numbers_of s)) (sym pushed));
      risen = ap (λ k. k + 1) same ∙ (more.risen ∙ ap (λ s. least_after 0 (numbers_of s)) (sym pushed));
    }

-- globals are among numbers if each is
pub among_not : (globals items : List (ℕ × List ℕ)) (named : List ℕ) (k : ℕ) (item : ℕ × List ℕ) → items ≡ globals → k < length items → item ≡ get_or items k item → IsTrue false ↔ Contains named item.0 → IsTrue false ↔ All (Contains named) (numbers_of globals)
among_not globals items named k item same within is test =
    let there : Contains globals item = subst (λ s. Contains s item) same (k, within, sym is) in (
      λ t. absurd (false≢true t),
      λ all. test.1 (All-contains (Contains named) (numbers_of globals) item.0 all (Contains-map (λ (g : ℕ × List ℕ). g.0) globals item there)),
    )

pub among_all : (globals items : List (ℕ × List ℕ)) (named : List ℕ) (k : ℕ) → items ≡ globals → length items ≤ k → All (λ (g : ℕ × List ℕ). Contains named g.0) (take k globals) → IsTrue true ↔ All (Contains named) (numbers_of globals)
among_all globals items named k same end all =
    let whole : take k globals ≡ globals = take_all k globals (subst (λ s. length s ≤ k) same end) in
    let each : All (Contains named) (numbers_of globals) = All-map (Contains named) (λ (g : ℕ × List ℕ). g.0) globals (subst (All (λ (g : ℕ × List ℕ). Contains named g.0)) whole all) in
    (λ t. each, λ h. refl)

pub among_more : (globals items : List (ℕ × List ℕ)) (named : List ℕ) (k : ℕ) (item : ℕ × List ℕ) → items ≡ globals → k < length items → item ≡ get_or items k item → IsTrue true ↔ Contains named item.0 → All (λ (g : ℕ × List ℕ). Contains named g.0) (take k globals) → All (λ (g : ℕ × List ℕ). Contains named g.0) (take (k + 1) globals)
among_more globals items named k item same within is test all =
    let here : item ≡ get_or globals k item = is ∙ ap (λ s. get_or s k item) same in
    All-more (λ (g : ℕ × List ℕ). Contains named g.0) globals k item (subst (λ s. k < length s) same within) all (subst (λ (g : ℕ × List ℕ). Contains named g.0) here (test.0 refl))

-- an option that is no `Some`
pub none_if : (o : Option Entry) → is_some o ≡ false → o ≡ None
none_if None not = refl
none_if (Some entry) not = absurd (false≢true (sym not))

-- no entry's line is new
pub draft_heading : (entries : List Entry) (named : List ℕ) (least : ℕ) (entry : Entry) → IsDraft entries None named least → entry.lines ≡ [] → IsDraft entries (Some entry) named (entry.number + 1)
draft_heading entries named least entry draft empty =
    let none : entries_globals (entries ++ entry ∷ []) ≡ entries_globals entries = entries_globals-push entries entry ∙ (ap (λ lines. entries_globals entries ++ lines_globals lines) empty ∙ append-nil (entries_globals entries)) in
    record {
      named_are = draft.named_are ∙ ap (fold (insert_key nat_eq) []) (sym none);
      risen = sym (least-push_entry entries entry);
    }

pub draft_begun : (entries : List Entry) (unfinished : Option Entry) (named : List ℕ) (least k : ℕ) (entry : Entry) → unfinished ≡ None → IsDraft entries unfinished named least → entry.lines ≡ [] → k ≡ entry.number → IsDraft entries (Some entry) named (k + 1)
draft_begun entries unfinished named least k entry none draft empty same =
    subst (λ n. IsDraft entries (Some entry) named (n + 1)) (sym same) (draft_heading entries named least entry (subst (λ u. IsDraft entries u named least) none draft) empty)

-- both parts of a list
pub All-both : (P : ℕ → Type 0) (xs ys : List ℕ) → (All P xs × All P ys) ↔ All P (xs ++ ys)
All-both P xs ys = (λ both. All-append P xs ys both.0 both.1, λ all. (All-front P xs ys all, All-back P xs ys all))

-- a line's globals are listed where those of its sides are
one_variable : (line : Line) (x : Dtv) → (line ≡ Var x) ⊎ (((k : ℕ) × (line ≡ Low k x)) ⊎ ((k : ℕ) × (line ≡ Up x k))) → base_globals x.base ≡ line_globals line
one_variable line x (inl is) = ap line_globals (sym is)
one_variable line x (inr (inl (k, is))) = ap line_globals (sym is)
one_variable line x (inr (inr (k, is))) = ap line_globals (sym is)

pub one_side : (P : ℕ → Type 0) (line : Line) (x : Dtv) (r : Bool) → (line ≡ Var x) ⊎ (((k : ℕ) × (line ≡ Low k x)) ⊎ ((k : ℕ) × (line ≡ Up x k))) → IsTrue r ↔ All P (base_globals x.base) → IsTrue r ↔ All P (line_globals line)
one_side P line x r is test = subst (λ s. IsTrue r ↔ All P s) (one_variable line x is) test

two_variables : (line : Line) (x y : Dtv) → (line ≡ Same x y) ⊎ (line ≡ Sub x y) → base_globals x.base ++ base_globals y.base ≡ line_globals line
two_variables line x y (inl is) = ap line_globals (sym is)
two_variables line x y (inr is) = ap line_globals (sym is)

pub two_sides : (P : ℕ → Type 0) (line : Line) (x y : Dtv) (first second : Bool) → (line ≡ Same x y) ⊎ (line ≡ Sub x y) → first ≡ true → IsTrue first ↔ All P (base_globals x.base) → IsTrue second ↔ All P (base_globals y.base) → IsTrue second ↔ All P (line_globals line)
two_sides P line x y first second is true_first left right =
    let both : IsTrue second ↔ (All P (base_globals x.base) × All P (base_globals y.base)) = (λ t. (left.0 true_first, right.0 t), λ all. right.1 all.1) in
    subst (λ s. IsTrue second ↔ All P s) (two_variables line x y is) (iff_trans both (All-both P (base_globals x.base) (base_globals y.base)))

pub not_first : (P : ℕ → Type 0) (line : Line) (x y : Dtv) (first : Bool) → (line ≡ Same x y) ⊎ (line ≡ Sub x y) → first ≡ false → IsTrue first ↔ All P (base_globals x.base) → IsTrue first ↔ All P (line_globals line)
not_first P line x y first is false_first left =
    let none : IsTrue first ↔ All P (base_globals x.base ++ base_globals y.base) =
    (λ t. absurd (false≢true (sym false_first ∙ t)), λ all. left.1 (All-front P (base_globals x.base) (base_globals y.base) all)) in
    subst (λ s. IsTrue first ↔ All P s) (two_variables line x y is) none

-- the lines name each global where each is among the numbers that are kept
pub named_all : (globals : List (ℕ × List ℕ)) (entries : List Entry) (unfinished : Option Entry) (named : List ℕ) (least : ℕ) (r : Bool) → IsDraft entries unfinished named least → IsTrue r ↔ All (Contains named) (numbers_of globals) → IsTrue r ↔ AllNamed (made globals entries unfinished)
named_all globals entries unfinished named least r draft test = iff_trans test (numbered_all named (entries_globals (all_entries entries unfinished)) (numbers_of globals) draft.named_are)

-- a test that fails says that what it tests is not so
pub not_so : {X : Type 0} → IsTrue false ↔ X → X → ⊥
not_so test x = false≢true (test.1 x)

pub begun_if : (o : Option Entry) → is_some o ≡ true → IsUnfinished o
begun_if None is = absurd (false≢true is)
begun_if (Some entry) is = tt
