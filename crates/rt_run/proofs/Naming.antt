-- Which globals lines name, and sets of their numbers.
use Rattle.std.proofs.Common.{◌≡◌, ◌∙◌, ◌⊎◌, Ordering, Ok, Err, Result, ℕ, zero, suc, ◌+◌, ◌<◌, List, [], ◌∷◌, ◌++◌, All, Contains, ap, arith, flat_map, fold, get_or, inl, inr, length, map, refl, subst, sym, take}
use Rattle.std.specs.Prelude.{IfOk, OnOk}
use Rattle.std.specs.BTreeSet.{insert_key}
use Rattle.std.specs.List.Sorted.{IsStrictlyIncreasing}
use Rattle.std.specs.Ordering.{nat_cmp, match_ordering}
use Rattle.std.specs.declared.cmp.Ordering.TheVariants.{Less, Equal, Greater}
use Rattle.std.proofs.lemmas.Map.Lookups.{exact_unsigned}
use Rattle.std.proofs.lemmas.List.Elements.{All-contains, Contains-append_cases, Contains-append_left, Contains-append_right, Contains-get_or}
use Rattle.rt_base.proofs.Lists.{Contains-cons_cases, Contains-flat_map, Contains-flat_map_source, Contains-here, Contains-none, Contains-there}
use Rattle.rt_lines.specs.declared.variable.Base.{Base}
use Rattle.rt_lines.specs.declared.variable.Base.TheVariants.{Proc, Global, Exist, Outer}
use Rattle.rt_lines.specs.declared.variable.Dtv.{Dtv}
use Rattle.rt_lines.specs.declared.line.Line.{Line}
use Rattle.rt_lines.specs.declared.line.Line.TheVariants.{Var, Same, Sub, Low, Up}
use Rattle.rt_rules.specs.Rules.{HasSide}
use Rattle.rt_rules.specs.Laws.{NamesBase}
use Rattle.rt_elf.specs.Parts.{Parts as Object}
use Rattle.rt_scheme.specs.declared.report.Entry.{Entry}
use Rattle.rt_table.specs.Lists.{HasGlobalsOf}
use Rattle.rt_reports.specs.Globals.{base_globals, entries_globals, line_globals, lines_globals}
use Rattle.rt_run.specs.Globals.{AreGlobals, IsNamedIn, global_of}

in_one : {X : Type 0} (y x : X) → Contains (y ∷ []) x → y ≡ x
in_one y x h = elim (Contains-cons_cases y [] x h) [ inl is ↦ is | inr none ↦ absurd (Contains-none x none) ]

-- Sets of numbers.

-- a key put into the rest of the keys, or before it, by how it compares with the first
abbrev put : Ordering → ℕ → ℕ → List ℕ → List ℕ
put order k x ks = match_ordering order (k ∷ x ∷ ks) (x ∷ ks) (x ∷ insert_key nat_cmp ks k)

in_put : (order : Ordering) (k x : ℕ) (ks : List ℕ) (n : ℕ) → (Contains (insert_key nat_cmp ks k) n → Contains ks n ⊎ (k ≡ n)) → Contains (put order k x ks) n → Contains (x ∷ ks) n ⊎ (k ≡ n)
in_put Less k x ks n before h = elim (Contains-cons_cases k (x ∷ ks) n h) [ inl is ↦ inr is | inr rest ↦ inl rest ]
in_put Equal k x ks n before h = inl h
in_put Greater k x ks n before h =
    elim (Contains-cons_cases x (insert_key nat_cmp ks k) n h) [
      | inl is ↦ inl (subst (Contains (x ∷ ks)) is (Contains-here x ks))
      | inr rest ↦ elim (before rest) [ inl old ↦ inl (Contains-there x ks n old) | inr is ↦ inr is ]
    ]

in_inserted : (k : ℕ) (ks : List ℕ) (n : ℕ) → Contains (insert_key nat_cmp ks k) n → Contains ks n ⊎ (k ≡ n)
in_inserted k [] n h = inr (in_one k n h)
in_inserted k (x ∷ ks) n h = in_put (nat_cmp k x) k x ks n (in_inserted k ks n) h

put_own : (order : Ordering) (k x : ℕ) (ks : List ℕ) → nat_cmp k x ≡ order → Contains (insert_key nat_cmp ks k) k → Contains (put order k x ks) k
put_own Less k x ks is before = Contains-here k (x ∷ ks)
put_own Equal k x ks is before = subst (Contains (x ∷ ks)) (sym (exact_unsigned k x is)) (Contains-here x ks)
put_own Greater k x ks is before = Contains-there x (insert_key nat_cmp ks k) k before

inserted_own : (k : ℕ) (ks : List ℕ) → Contains (insert_key nat_cmp ks k) k
inserted_own k [] = Contains-here k []
inserted_own k (x ∷ ks) = put_own (nat_cmp k x) k x ks refl (inserted_own k ks)

put_old : (order : Ordering) (k x : ℕ) (ks : List ℕ) (n : ℕ) → (Contains ks n → Contains (insert_key nat_cmp ks k) n) → Contains (x ∷ ks) n → Contains (put order k x ks) n
put_old Less k x ks n before h = Contains-there k (x ∷ ks) n h
put_old Equal k x ks n before h = h
put_old Greater k x ks n before h =
    elim (Contains-cons_cases x ks n h) [
      | inl is ↦ subst (Contains (x ∷ insert_key nat_cmp ks k)) is (Contains-here x (insert_key nat_cmp ks k))
      | inr rest ↦ Contains-there x (insert_key nat_cmp ks k) n (before rest)
    ]

inserted_old : (k : ℕ) (ks : List ℕ) (n : ℕ) → Contains ks n → Contains (insert_key nat_cmp ks k) n
inserted_old k [] n h = absurd (Contains-none n h)
inserted_old k (x ∷ ks) n h = put_old (nat_cmp k x) k x ks n (inserted_old k ks n) h

in_set : (ns ks : List ℕ) (n : ℕ) → Contains (fold (insert_key nat_cmp) ks ns) n → Contains ks n ⊎ Contains ns n
in_set [] ks n h = inl h
in_set (m ∷ ns) ks n h =
    elim (in_set ns (insert_key nat_cmp ks m) n h) [
      | inl set ↦ elim (in_inserted m ks n set) [ inl old ↦ inl old | inr is ↦ inr (subst (Contains (m ∷ ns)) is (Contains-here m ns)) ]
      | inr rest ↦ inr (Contains-there m ns n rest)
    ]

set_old : (ns ks : List ℕ) (n : ℕ) → Contains ks n → Contains (fold (insert_key nat_cmp) ks ns) n
set_old [] ks n h = h
set_old (m ∷ ns) ks n h = set_old ns (insert_key nat_cmp ks m) n (inserted_old m ks n h)

set_in : (ns ks : List ℕ) (n : ℕ) → Contains ns n → Contains (fold (insert_key nat_cmp) ks ns) n
set_in [] ks n h = absurd (Contains-none n h)
set_in (m ∷ ns) ks n h =
    elim (Contains-cons_cases m ns n h) [
      | inl is ↦ set_old ns (insert_key nat_cmp ks m) n (subst (Contains (insert_key nat_cmp ks m)) is (inserted_own m ks))
      | inr rest ↦ set_in ns (insert_key nat_cmp ks m) n rest
    ]

fold_append : (a b start : List ℕ) → fold (insert_key nat_cmp) start (a ++ b) ≡ fold (insert_key nat_cmp) (fold (insert_key nat_cmp) start a) b
fold_append [] b start = refl
fold_append (n ∷ a) b start = fold_append a b (insert_key nat_cmp start n)

fold_next : {X : Type 0} (f : X → List ℕ) (xs : List X) (i : ℕ) (x : X) (start now new : List ℕ) → i < length xs → x ≡ get_or xs i x → now ≡ fold (insert_key nat_cmp) start (flat_map f (take i xs))
    → new ≡ fold (insert_key nat_cmp) now (f x) → new ≡ fold (insert_key nat_cmp) start (flat_map f (take (suc i) xs))
fold_next f [] i x start now new less is was next = absurd (omega (arith, less))
fold_next f (y ∷ xs) zero x start now new less is was next =
    next ∙ (ap (λ (ks : List ℕ). fold (insert_key nat_cmp) ks (f x)) was ∙ (ap (λ z. fold (insert_key nat_cmp) start (f z)) is ∙ sym (fold_append (f y) [] start)))
fold_next f (y ∷ xs) (suc i) x start now new less is was next =
    fold_next f xs i x (fold (insert_key nat_cmp) start (f y)) now new (omega (arith, less)) is (was ∙ fold_append (f y) (flat_map f (take i xs)) start) next
    ∙ sym (fold_append (f y) (flat_map f (take (suc i) xs)) start)

-- the numbers of one more element are put into the set of those before
pub fold_more : {X : Type 0} (f : X → List ℕ) (xs : List X) (i : ℕ) (x : X) (start now new : List ℕ) → i < length xs → x ≡ get_or xs i x → now ≡ fold (insert_key nat_cmp) start (flat_map f (take i xs))
    → new ≡ fold (insert_key nat_cmp) now (f x) → new ≡ fold (insert_key nat_cmp) start (flat_map f (take (i + 1) xs))
fold_more f xs i x start now new less is was next =
    let e : suc i ≡ i + 1 = omega arith in
    subst (λ n. new ≡ fold (insert_key nat_cmp) start (flat_map f (take n xs))) e (fold_next f xs i x start now new less is was next)

-- Lines.

base_is : (b : Base) (n : ℕ) → Contains (base_globals b) n → b ≡ Global n
base_is (Proc m) n h = absurd (Contains-none n h)
base_is (Global m) n h = ap Global (in_one m n h)
base_is (Exist m) n h = absurd (Contains-none n h)
base_is (Outer m) n h = absurd (Contains-none n h)

base_in : (b : Base) (n : ℕ) → b ≡ Global n → Contains (base_globals b) n
base_in b n is = subst (λ c. Contains (base_globals c) n) (sym is) (Contains-here n [])

-- a side of a line that is of a global
record IsSide (l : Line) (n : ℕ) : Type 0 where
  side : Dtv
  is_side : HasSide l side
  is_global : side.base ≡ Global n

side_of_two : (l : Line) (x y : Dtv) (n : ℕ) → HasSide l x → HasSide l y → Contains (base_globals x.base ++ base_globals y.base) n → IsSide l n
side_of_two l x y n left right h =
    elim (Contains-append_cases (base_globals x.base) (base_globals y.base) n h) [
      | inl own ↦ record { side = x; is_side = left; is_global = base_is x.base n own }
      | inr own ↦ record { side = y; is_side = right; is_global = base_is y.base n own }
    ]

side_of : (l : Line) (n : ℕ) → Contains (line_globals l) n → IsSide l n
side_of (Var x) n h = record { side = x; is_side = refl; is_global = base_is x.base n h }
side_of (Same x y) n h = side_of_two (Same x y) x y n (inl refl) (inr refl) h
side_of (Sub x y) n h = side_of_two (Sub x y) x y n (inl refl) (inr refl) h
side_of (Low k x) n h = record { side = x; is_side = refl; is_global = base_is x.base n h }
side_of (Up x k) n h = record { side = x; is_side = refl; is_global = base_is x.base n h }

one_in : (x z : Dtv) (n : ℕ) → x ≡ z → z.base ≡ Global n → Contains (base_globals x.base) n
one_in x z n is global = base_in x.base n (ap (λ (w : Dtv). w.base) is ∙ global)

two_in : (x y z : Dtv) (n : ℕ) → (x ≡ z) ⊎ (y ≡ z) → z.base ≡ Global n → Contains (base_globals x.base ++ base_globals y.base) n
two_in x y z n (inl is) global = Contains-append_left (base_globals x.base) (base_globals y.base) n (one_in x z n is global)
two_in x y z n (inr is) global = Contains-append_right (base_globals x.base) (base_globals y.base) n (one_in y z n is global)

side_in : (l : Line) (z : Dtv) (n : ℕ) → HasSide l z → z.base ≡ Global n → Contains (line_globals l) n
side_in (Var x) z n is global = one_in x z n is global
side_in (Same x y) z n is global = two_in x y z n is global
side_in (Sub x y) z n is global = two_in x y z n is global
side_in (Low k x) z n is global = one_in x z n is global
side_in (Up x k) z n is global = one_in x z n is global

names_of : (lines : List Line) (n : ℕ) → Contains (lines_globals lines) n → NamesBase lines (Global n)
names_of lines n h =
    let (line, is_line, is_of_it) = Contains-flat_map_source line_globals lines n h in
    let side = side_of line n is_of_it in
    (line, side.side, is_line, side.is_side, side.is_global)

of_names : (lines : List Line) (n : ℕ) → NamesBase lines (Global n) → Contains (lines_globals lines) n
of_names lines n (l, x, is_line, is_side, is_global) = Contains-flat_map line_globals lines l n is_line (side_in l x n is_side is_global)

pub named_in : (entries : List Entry) (n : ℕ) → Contains (entries_globals entries) n → IsNamedIn entries n
named_in entries n h =
    let (entry, is_entry, is_of_it) = Contains-flat_map_source (λ (entry : Entry). lines_globals entry.lines) entries n h in
    record { entry = entry; is_entry = is_entry; names = names_of entry.lines n is_of_it }

pub in_named : (entries : List Entry) (n : ℕ) → IsNamedIn entries n → Contains (entries_globals entries) n
in_named entries n named =
    Contains-flat_map (λ (entry : Entry). lines_globals entry.lines) entries named.entry n named.is_entry (of_names named.entry.lines n named.names)

-- The numbers of the globals of entries.

pub set_named : (entries : List Entry) (keys : List ℕ) (n : ℕ) → keys ≡ fold (insert_key nat_cmp) [] (entries_globals entries) → Contains keys n → IsNamedIn entries n
set_named entries keys n is h =
    elim (in_set (entries_globals entries) [] n (subst (λ ks. Contains ks n) is h)) [
      | inl none ↦ absurd (Contains-none n none)
      | inr named ↦ named_in entries n named
    ]

named_set : (entries : List Entry) (keys : List ℕ) (n : ℕ) → keys ≡ fold (insert_key nat_cmp) [] (entries_globals entries) → IsNamedIn entries n → Contains keys n
named_set entries keys n is named = subst (λ ks. Contains ks n) (sym is) (set_in (entries_globals entries) [] n (in_named entries n named))

-- they are all symbols
pub set_symbols : (object : Object) (entries : List Entry) (keys : List ℕ) → keys ≡ fold (insert_key nat_cmp) [] (entries_globals entries) → All (λ entry. HasGlobalsOf object entry.lines) entries → All (λ n. n < length object.symbols) keys
set_symbols object entries keys is all = λ k d less.
    let named = set_named entries keys (get_or keys k d) is (Contains-get_or keys k d less) in
    All-contains (λ (entry : Entry). HasGlobalsOf object entry.lines) entries named.entry all named.is_entry (get_or keys k d) named.names

pub are_globals : (object : Object) (entries : List Entry) (keys : List ℕ) {E : Type 0} (shown : Result (List (ℕ × List ℕ)) E)
    → keys ≡ fold (insert_key nat_cmp) [] (entries_globals entries) → All (λ entry. HasGlobalsOf object entry.lines) entries
    → IfOk shown (λ globals. globals ≡ map (global_of object) keys) → OnOk shown (IsStrictlyIncreasing keys)
    → IfOk shown (AreGlobals object entries)
are_globals object entries keys (Ok shown) is all is_shown ascending = record {
  numbers = keys;
  ascending = ascending;
  named = λ n. (set_named entries keys n is, named_set entries keys n is);
  symbols = set_symbols object entries keys is all;
  globals = is_shown;
}
are_globals object entries keys (Err e) is all is_shown ascending = tt
