-- The names of the first functions at places.
use Rattle.std.proofs.Common.{◌≡◌, ℕ, ◌+◌, ◌<◌, inl, inr, Option, Some, None, List, [], ◌∷◌, ◌++◌, find, length, get_or, take, if◌then◌else◌, refl, sym, ap, ◌∙◌}
use Rattle.std.specs.Option.{option_map, option_or}
use Rattle.std.proofs.lemmas.List.{take_more}
use Rattle.std.proofs.lemmas.List.Folds.{find-append}
use Rattle.rt_elf.specs.Parts.{Parts as Object}
use Rattle.rt_elf.specs.declared.symbol.Symbol.{Symbol}
use Rattle.rt_link.specs.declared.place.Place.{Place}
use Rattle.rt_proc.specs.Procs.{is_function_at, name_there, name_of_first}
use Rattle.std.proofs.lemmas.Bool.{cases_Bool}

mapped : (object : Object) (symbol : Symbol) (place : Place) (o : Option Symbol)
    → option_map (λ (s : Symbol). s.name) (option_or o (if is_function_at object place symbol then Some symbol else None)) ≡ option_or (option_map (λ (s : Symbol). s.name) o) (name_there object symbol place)
mapped object symbol place (Some s) = refl
mapped object symbol place None = elim (cases_Bool (is_function_at object place symbol)) [ inl e ↦ rw e refl | inr e ↦ rw e refl ]

-- one more symbol
pub name_of_first-more : (object : Object) (symbols : List Symbol) (n : ℕ) (symbol : Symbol) (place : Place) → n < length symbols → symbol ≡ get_or symbols n symbol
    → name_of_first object (take (n + 1) symbols) place ≡ option_or (name_of_first object (take n symbols) place) (name_there object symbol place)
name_of_first-more object symbols n symbol place within is =
    let more : take (n + 1) symbols ≡ take n symbols ++ symbol ∷ [] = take_more symbols n symbol within ∙ ap (λ (s : Symbol). take n symbols ++ s ∷ []) (sym is) in
    ap (λ (ss : List Symbol). name_of_first object ss place) more
    ∙ ap (option_map (λ (s : Symbol). s.name)) (find-append (is_function_at object place) (take n symbols) (symbol ∷ []))
    ∙ mapped object symbol place (find (is_function_at object place) (take n symbols))
