-- Variables that are entered.
use Rattle.std.proofs.Common.{◌≡◌, ℕ, ◌⊎◌, inl, inr, Bool, true, false, Some, List, [], ◌∷◌, ◌++◌, Contains, get_or, fold, zero, suc, refl, sym, ap, subst, ◌∙◌}
use Rattle.std.specs.Prelude.{slice_get}
use Rattle.std.specs.List.{list_any, flat_map}
use Rattle.std.proofs.lemmas.Option.{slice_get-get_or, get_or_from_slice_get, slice_get_within}
use Rattle.indexmap.specs.IndexSet.{insert_key}
use Rattle.rt_base.proofs.Lists.{Contains-none, Contains-read, Contains-cons_cases, slice_get-front}
use Rattle.rt_lines.specs.declared.variable.Dtv.{Dtv}
use Rattle.rt_lines.specs.declared.line.Line.{Line}
use Rattle.rt_lines.specs.declared.line.Line.TheVariants.{Var, Same, Sub}
use Rattle.rt_lines.specs.Equality.{variable_eq}
use Rattle.rt_lines.specs.Orders.{Below}
use Rattle.rt_lines.proofs.Equal.{variable_equal}
use Rattle.rt_lines.proofs.Distinct.{inserted-source, inserted-has}
use Rattle.rt_rules.specs.Rules.{Derivable}
use Rattle.rt_rules.specs.Rules.Derivable.{same_sub}
use Rattle.rt_rules.proofs.Covering.{front}
use Rattle.rt_named.specs.Naming.{prefixes, with_prefixes}
use Rattle.rt_named.specs.Laws.{IsPrefix, IsGiven}
use Rattle.rt_named.specs.Origins.{no_variable}
use Rattle.rt_named.proofs.Contents.{contents_law}
use Rattle.rt_earlier.specs.Inside.Earlier.{AreKept}

insert-keeps : (ks : List Dtv) (k : Dtv) → AreKept ks (insert_key variable_eq ks k)
insert-keeps ks k n x h = by (list_any (variable_eq k) ks) refl
  where
    by : (b : Bool) → list_any (variable_eq k) ks ≡ b → slice_get (insert_key variable_eq ks k) n ≡ Some x
    by true e = rw e h
    by false e = rw e (slice_get-front ks (k ∷ []) n x h)

inserted-keeps : (xs ks : List Dtv) → AreKept ks (fold (insert_key variable_eq) ks xs)
inserted-keeps [] ks n x h = h
inserted-keeps (k ∷ xs) ks n x h = inserted-keeps xs (insert_key variable_eq ks k) n x (insert-keeps ks k n x h)

-- those that are there keep their numbers
pub entered-keeps : (named : List Dtv) (x : Dtv) → AreKept named (with_prefixes named (x ∷ []))
entered-keeps named x = inserted-keeps (flat_map prefixes (x ∷ [])) named

-- what is entered with a variable is a front of it
prefix-source : (x y : Dtv) → Contains (flat_map prefixes (x ∷ [])) y → IsPrefix y x
prefix-source x y c =
    let s : (z : Dtv) × IsGiven [] (x ∷ []) z × IsPrefix y z = (contents_law [] (x ∷ []) y).0 (inserted-has variable_eq variable_equal (flat_map prefixes (x ∷ [])) [] y c) in
    by s.0 s.1 s.2
  where
    only : (z : Dtv) → (x ≡ z) ⊎ Contains [] z → IsPrefix y z → IsPrefix y x
    only z (inl e) p = subst (IsPrefix y) (sym e) p
    only z (inr d) p = absurd (Contains-none z d)

    by : (z : Dtv) → IsGiven [] (x ∷ []) z → IsPrefix y z → IsPrefix y x
    by z (inl (l, d, h)) p = absurd (Contains-none l d)
    by z (inr d) p = only z (Contains-cons_cases x [] z d) p

-- where a variable is there, so is each that is entered with it
pub entered-there : (order : Below) (lines : List Line) (named : List Dtv) (x : Dtv) → ((n : ℕ) (y : Dtv) → slice_get named n ≡ Some y → Derivable order lines (Var y)) → Derivable order lines (Var x) →
    (n : ℕ) (y : Dtv) → slice_get (with_prefixes named (x ∷ [])) n ≡ Some y → Derivable order lines (Var y)
entered-there order lines named x there d n y e = by (inserted-source variable_eq (flat_map prefixes (x ∷ [])) named y here)
  where
    here : Contains (with_prefixes named (x ∷ [])) y
    here = Contains-read (with_prefixes named (x ∷ [])) n no_variable y (slice_get_within (with_prefixes named (x ∷ [])) n y e) (get_or_from_slice_get (with_prefixes named (x ∷ [])) n y no_variable e)

    by : Contains named y ⊎ Contains (flat_map prefixes (x ∷ [])) y → Derivable order lines (Var y)
    by (inl c) = there c.0 y (slice_get-get_or named c.0 y c.1 ∙ ap Some c.2)
    by (inr c) = let p = prefix-source x y c in front order lines y p.0 (subst (λ z. Derivable order lines (Var z)) (sym p.1) d)

-- the sides of a line that says that they have one shape, or that one lies below the other
pub line_same : (order : Below) (lines : List Line) (l : Line) (x y : Dtv) → (l ≡ Same x y) ⊎ (l ≡ Sub x y) → Derivable order lines l → Derivable order lines (Same x y)
line_same order lines l x y (inl e) d = subst (Derivable order lines) e d
line_same order lines l x y (inr e) d = same_sub (subst (Derivable order lines) e d)

-- an empty row more
empty_row : (rows : List (List ℕ)) (r : ℕ) → get_or (rows ++ [] ∷ []) r [] ≡ get_or rows r []
empty_row [] zero = refl
empty_row [] (suc r) = refl
empty_row (row ∷ rows) zero = refl
empty_row (row ∷ rows) (suc r) = empty_row rows r

pub none_more : (rows new : List (List ℕ)) (row : List ℕ) → new ≡ rows ++ row ∷ [] → row ≡ [] → (r n : ℕ) → Contains (get_or new r []) n → Contains (get_or rows r []) n
none_more rows new row e f r n h =
    let grown : new ≡ rows ++ [] ∷ [] = e ∙ ap (λ (none : List ℕ). rows ++ none ∷ []) f in
    subst (λ (ms : List ℕ). Contains ms n) (ap (λ (rs : List (List ℕ)). get_or rs r []) grown ∙ empty_row rows r) h
