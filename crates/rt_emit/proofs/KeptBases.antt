-- The bases that are kept are those that the lines name, so far as they are kept.
use Rattle.std.proofs.Common.{◌≡◌, ℕ, ◌⊎◌, inl, inr, List, [], Contains, fold, refl, sym, subst}
use Rattle.std.specs.List.{flat_map}
use Rattle.indexmap.specs.IndexSet.{insert_key}
use Rattle.rt_base.proofs.Lists.{Contains-none, Contains-here, Contains-cons_cases, Contains-flat_map, Contains-flat_map_source}
use Rattle.rt_lines.specs.declared.label.Variance.TheVariants.{Co, Contra}
use Rattle.rt_lines.specs.declared.variable.Base.{Base}
use Rattle.rt_lines.specs.declared.variable.Base.TheVariants.{Proc, Global, Exist, Outer}
use Rattle.rt_lines.specs.declared.variable.Dtv.{Dtv}
use Rattle.rt_lines.specs.declared.line.Line.{Line}
use Rattle.rt_lines.specs.declared.line.Line.TheVariants.{Var, Same, Sub, Low, Up}
use Rattle.rt_lines.specs.Equality.{base_eq}
use Rattle.rt_lines.specs.Sides.{sides}
use Rattle.rt_lines.specs.Orders.{Below}
use Rattle.rt_lines.proofs.Equal.{base_equal}
use Rattle.rt_lines.proofs.Distinct.{inserted-stays, inserted-source, inserted-has}
use Rattle.rt_rules.specs.Rules.{HasSide}
use Rattle.rt_rules.specs.Laws.{NamesBase}
use Rattle.rt_rules.specs.Put.{HasUse}
use Rattle.rt_rules.proofs.LineSides.{Contains-sides, HasSide-in_sides}
use Rattle.rt_reduction.specs.Emits.{flow_lines, AreOfScheme, IsKept}
use Rattle.rt_reduction.proofs.Flow.{kept_side}
use Rattle.rt_emit.specs.Inside.Bases.{existential_base, fixed_base, existential_bases, fixed_bases, AreKeptBases}

-- the bases of the lines' sides, so far as they are picked
abbrev picked : (Base → List Base) → List Line → List Base
picked pick lines = flat_map (λ l. flat_map (λ x. pick x.base) (sides l)) lines

picked_source : (pick : Base → List Base) (lines : List Line) (b : Base) → Contains (picked pick lines) b →
    (l : Line) × (x : Dtv) × Contains lines l × HasSide l x × Contains (pick x.base) b
picked_source pick lines b c =
    let f = Contains-flat_map_source (λ l. flat_map (λ x. pick x.base) (sides l)) lines b c in
    let g = Contains-flat_map_source (λ x. pick x.base) (sides f.0) b f.2 in
    (f.0, g.0, f.1, HasSide-in_sides f.0 g.0 g.1, g.2)

picked_has : (pick : Base → List Base) (lines : List Line) (l : Line) (x : Dtv) (b : Base) → Contains lines l → HasSide l x →
    Contains (pick x.base) b → Contains (picked pick lines) b
picked_has pick lines l x b c h p =
    Contains-flat_map (λ l. flat_map (λ x. pick x.base) (sides l)) lines l b c
    (Contains-flat_map (λ x. pick x.base) (sides l) x b (Contains-sides l x h) p)

one_only : (a b : Base) → (a ≡ b) ⊎ Contains [] b → a ≡ b
one_only a b (inl e) = e
one_only a b (inr c) = absurd (Contains-none b c)

existential_source : (a b : Base) → Contains (existential_base a) b → a ≡ b
existential_source (Proc n) b c = absurd (Contains-none b c)
existential_source (Global n) b c = absurd (Contains-none b c)
existential_source (Exist n) b c = one_only (Exist n) b (Contains-cons_cases (Exist n) [] b c)
existential_source (Outer n) b c = absurd (Contains-none b c)

module _ (order : Below) (lines : List Line) where
  fixed_kept : (a b : Base) → NamesBase lines a → Contains (fixed_base a) b → IsKept order lines b
  fixed_kept (Proc n) b h c = subst (IsKept order lines) (one_only (Proc n) b (Contains-cons_cases (Proc n) [] b c)) h
  fixed_kept (Global n) b h c = subst (IsKept order lines) (one_only (Global n) b (Contains-cons_cases (Global n) [] b c)) h
  fixed_kept (Exist n) b h c = absurd (Contains-none b c)
  fixed_kept (Outer n) b h c = absurd (Contains-none b c)

-- a use has the existential as the base of a side
abbrev UsedSide : ℕ → Line → Type 0
UsedSide n l = (x : Dtv) × HasSide l x × (x.base ≡ Exist n)

used_side : (n : ℕ) (l : Line) → HasUse Co n l ⊎ HasUse Contra n l → UsedSide n l
used_side n (Var x) (inl h) = absurd h
used_side n (Var x) (inr h) = absurd h
used_side n (Same x y) (inl h) = absurd h
used_side n (Same x y) (inr h) = absurd h
used_side n (Sub x y) (inl (inl (e, f))) = (x, inl refl, e)
used_side n (Sub x y) (inl (inr (e, f))) = (y, inr refl, e)
used_side n (Sub x y) (inr (inl (e, f))) = (x, inl refl, e)
used_side n (Sub x y) (inr (inr (e, f))) = (y, inr refl, e)
used_side n (Low k x) (inl (e, f)) = (x, refl, e)
used_side n (Low k x) (inr (e, f)) = (x, refl, e)
used_side n (Up x k) (inl (e, f)) = (x, refl, e)
used_side n (Up x k) (inr (e, f)) = (x, refl, e)

abbrev used_first : List Line → List Base
used_first lines = fold (insert_key base_eq) [] (picked existential_base (flow_lines lines))

pub kept_are : (lines : List Line) → AreOfScheme lines → AreKeptBases lines
    (fold (insert_key base_eq) (fold (insert_key base_eq) [] (flat_map existential_bases (flow_lines lines))) (flat_map fixed_bases lines))
kept_are lines scheme order b = (to_kept, from_kept b refl)
  where
    by_first : Contains [] b ⊎ Contains (picked existential_base (flow_lines lines)) b → IsKept order lines b
    by_first (inl c) = absurd (Contains-none b c)
    by_first (inr c) =
        let s = picked_source existential_base (flow_lines lines) b c in
        subst (IsKept order lines) (existential_source s.1.base b s.4) (kept_side order lines scheme s.0 s.1 s.2 s.3)

    by_both : Contains (used_first lines) b ⊎ Contains (picked fixed_base lines) b → IsKept order lines b
    by_both (inl c) = by_first (inserted-source base_eq (picked existential_base (flow_lines lines)) [] b c)
    by_both (inr c) =
        let s = picked_source fixed_base lines b c in
        fixed_kept order lines s.1.base b (s.0, s.1, s.2, s.3, refl) s.4

    to_kept : Contains (fold (insert_key base_eq) (used_first lines) (picked fixed_base lines)) b → IsKept order lines b
    to_kept c = by_both (inserted-source base_eq (picked fixed_base lines) (used_first lines) b c)

    in_fixed : (a : Base) → b ≡ a → NamesBase lines a → Contains (fixed_base a) a →
        Contains (fold (insert_key base_eq) (used_first lines) (picked fixed_base lines)) b
    in_fixed a e (l, x, c, h, f) p =
        inserted-has base_eq base_equal (picked fixed_base lines) (used_first lines) b
        (picked_has fixed_base lines l x b c h (subst (λ z. Contains (fixed_base x.base) z) (sym e) (subst (λ z. Contains (fixed_base z)
        a) (sym f) p)))

    from_kept : (a : Base) → b ≡ a → IsKept order lines a →
        Contains (fold (insert_key base_eq) (used_first lines) (picked fixed_base lines)) b
    from_kept (Proc n) e h = in_fixed (Proc n) e h (Contains-here (Proc n) [])
    from_kept (Global n) e h = in_fixed (Global n) e h (Contains-here (Global n) [])
    from_kept (Outer n) e h = absurd h
    from_kept (Exist n) e (l, c, h) =
        let s : UsedSide n l = used_side n l h in
        inserted-stays base_eq (picked fixed_base lines) (used_first lines) b
        (inserted-has base_eq base_equal (picked existential_base (flow_lines lines)) [] b
        (picked_has existential_base (flow_lines lines) l s.0 b c s.1
        (subst (λ z. Contains (existential_base s.0.base) z) (sym e)
        (subst (λ z. Contains (existential_base z) (Exist n)) (sym s.2) (Contains-here (Exist n) [])))))
