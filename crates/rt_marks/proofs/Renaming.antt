-- New names for inside bases, and the way back.
use Rattle.std.proofs.Common.{◌≡◌, ◌⊎◌, inl, inr, List, [], ◌∷◌, map, flat_map, Contains, Bool, true, false, refl, ap, sym, subst, ◌∙◌}
use Rattle.rt_rules.proofs.Renaming.{one_base}
use Rattle.rt_rules.proofs.LineSides.{Contains-sides, HasSide-in_sides}
use Rattle.rt_lines.proofs.LineSides.{map_line-twice}
use Rattle.rt_base.proofs.Lists.{Contains-none, Contains-here, Contains-there, Contains-cons_cases, Contains-map, Contains-map_source, Contains-flat_map, Contains-flat_map_source}
use Rattle.rt_lines.specs.declared.variable.Base.{Base}
use Rattle.rt_lines.specs.declared.variable.Dtv.{Dtv}
use Rattle.rt_lines.specs.declared.line.Line.{Line}
use Rattle.rt_lines.specs.Orders.{Below}
use Rattle.rt_lines.specs.Sides.{sides}
use Rattle.rt_rules.specs.Rules.{HasSide}
use Rattle.rt_loose.specs.Loose.{Loosely}
use Rattle.rt_rules.specs.Alike.{map_line}
use Rattle.rt_marks.specs.Outsides.{LooselyCovers}
use Rattle.rt_rules.specs.Laws.{renamed, NamesBase, IsRenaming}
use Rattle.rt_marks.specs.Laws.{RenamingLaw}
use Rattle.rt_marks.proofs.Carrying.{given}
use Rattle.rt_rules.proofs.Covering.{map_line-fixed}
use Rattle.rt_marks.proofs.Covering.{covers_by}

-- the bases that the lines name
abbrev bases : List Line → List Base
bases lines = map (λ x. x.base) (flat_map sides lines)

Contains-bases : (lines : List Line) (l : Line) (x : Dtv) → Contains lines l → HasSide l x → Contains (bases lines) x.base
Contains-bases lines l x c h = Contains-map (λ y. y.base) (flat_map sides lines) x (Contains-flat_map sides lines l x c (Contains-sides l x h))

NamesBase-bases : (lines : List Line) (b : Base) → Contains (bases lines) b → NamesBase lines b
NamesBase-bases lines b c =
    let s = Contains-map_source (λ y. y.base) (flat_map sides lines) b c in
    let t = Contains-flat_map_source sides lines s.0 s.1 in
    (t.0, s.0, t.1, HasSide-in_sides t.0 s.0 t.2, s.2)

-- the base is one that gets the new name, or the name is no new one
abbrev IsBack : (Base → Base) → List Base → Base → Base → Type 0
IsBack rename olds new old = (Contains olds old × (rename old ≡ new)) ⊎ ((old ≡ new) × ((b : Base) → Contains olds b → rename b ≡ new → ⊥))

found_back : (rename : Base → Base) (a : Base) (olds : List Base) (new : Base) → (rename a ≡ new) ⊎ (rename a ≡ new → ⊥) → (old : Base) × IsBack rename olds new old → (old : Base) × IsBack rename (a ∷ olds) new old
found_back rename a olds new (inl e) later = (a, inl (Contains-here a olds, e))
found_back rename a olds new (inr differs) (old, inl (c, e)) = (old, inl (Contains-there a olds old c, e))
found_back rename a olds new (inr differs) (old, inr (e, none)) = (old, inr (e, λ b c f. by_cases b f (Contains-cons_cases a olds b c)))
  where
    by_cases : (b : Base) → rename b ≡ new → (a ≡ b) ⊎ Contains olds b → ⊥
    by_cases b f (inl g) = differs (subst (λ o. rename o ≡ new) (sym g) f)
    by_cases b f (inr c) = none b c f

look_back : (rename : Base → Base) (olds : List Base) (new : Base) → (old : Base) × IsBack rename olds new old
look_back rename [] new = (new, inr (refl, λ b c e. Contains-none b c))
look_back rename (a ∷ olds) new = found_back rename a olds new (one_base (rename a) new) (look_back rename olds new)

module _ (order : Below) (inside : Base → Bool) (rename : Base → Base) (lines : List Line) (renaming : IsRenaming inside rename lines) where
  -- the old name of a new one
  abbrev back : Base → Base
  back new = (look_back rename (bases lines) new).0

  old_outside : (old : Base) (t : Bool) → inside old ≡ t → inside (rename old) ≡ false → old ≡ rename old
  old_outside old true e f = let g : inside (rename old) ≡ true = renaming.inside_stays old e in cc
  old_outside old false e f = sym (renaming.outside_stays old e)

  back_outside : (new old : Base) → inside new ≡ false → IsBack rename (bases lines) new old → old ≡ new
  back_outside new old e (inl (c, f)) = old_outside old (inside old) refl (subst (λ b. inside b ≡ false) (sym f) e) ∙ f
  back_outside new old e (inr (f, none)) = f

  back_named : (b old : Base) → NamesBase lines b → Contains (bases lines) b → IsBack rename (bases lines) (rename b) old → old ≡ b
  back_named b old n m (inl (c, e)) = renaming.one_to_one old b (NamesBase-bases lines old c) n e
  back_named b old n m (inr (e, none)) = absurd (none b m refl)

  comes_back : (l : Line) → Contains lines l → (x : Dtv) → HasSide l x → renamed back (renamed rename x) ≡ x
  comes_back l c x h =
      let e : back (rename x.base) ≡ x.base = back_named x.base (back (rename x.base)) (l, x, c, h, refl) (Contains-bases lines l x c h) (look_back rename (bases lines) (rename x.base)).1 in
      λ i. record { base = e i; word = x.word }

  line_comes_back : (l : Line) → Contains lines l → map_line (renamed back) (map_line (renamed rename) l) ≡ l
  line_comes_back l c = map_line-twice (renamed back) (renamed rename) l ∙ map_line-fixed (λ x. renamed back (renamed rename x)) l (comes_back l c)

  back_gives : (k : Line) → (l : Line) × Contains lines l × (map_line (renamed rename) l ≡ k) → Loosely order lines (map_line (renamed back) k)
  back_gives k (l, c, e) = subst (Loosely order lines) (sym (line_comes_back l c) ∙ ap (map_line (renamed back)) e) (given order lines l c)

  renamed_forth : LooselyCovers order inside lines (map (map_line (renamed rename)) lines)
  renamed_forth =
      covers_by order inside lines (map (map_line (renamed rename)) lines) (renamed rename) (λ x l. refl)
      (λ x e. λ i. record { base = renaming.outside_stays x.base e i; word = x.word })
      (λ l c. given order (map (map_line (renamed rename)) lines) (map_line (renamed rename) l) (Contains-map (map_line (renamed rename)) lines l c))

  renamed_back : LooselyCovers order inside (map (map_line (renamed rename)) lines) lines
  renamed_back =
      covers_by order inside (map (map_line (renamed rename)) lines) lines (renamed back) (λ x l. refl)
      (λ x e. λ i. record { base = back_outside x.base (back x.base) e (look_back rename (bases lines) x.base).1 i; word = x.word })
      (λ k c. back_gives k (Contains-map_source (map_line (renamed rename)) lines k c))

pub renaming_lem : RenamingLaw
renaming_lem order inside rename lines renaming = (renamed_forth order inside rename lines renaming, renamed_back order inside rename lines renaming)
