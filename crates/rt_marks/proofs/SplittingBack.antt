-- The way back: each new existential stands for its argument or result.
use Rattle.std.proofs.Common.{◌≡◌, ℕ, ◌⊎◌, inl, inr, Bool, true, false, cond, nat_eq, if◌then◌else◌, Option, Some, None, List, [], ◌∷◌, ◌++◌, map, Contains, refl, sym, ap, subst, ◌∙◌, eq-eqb}
use Rattle.std.proofs.lemmas.Bool.{eqb-true}
use Rattle.rt_rules.proofs.LineSides.{Contains-sides}
use Rattle.rt_lines.proofs.LineSides.{map_line-twice}
use Rattle.rt_base.proofs.Lists.{Contains-none, Contains-here, Contains-there, Contains-cons_cases, Contains-map_source, Contains-flat_map}
use Rattle.rt_lines.specs.declared.label.Label.{Label}
use Rattle.rt_lines.specs.declared.variable.Base.{Base}
use Rattle.rt_lines.specs.declared.variable.Base.TheVariants.{Proc, Global, Exist, Outer}
use Rattle.rt_lines.specs.declared.variable.Dtv.{Dtv}
use Rattle.rt_lines.specs.declared.line.Line.{Line}
use Rattle.rt_lines.specs.Orders.{Below}
use Rattle.rt_lines.specs.Sides.{sides}
use Rattle.rt_rules.specs.Rules.{longer, HasSide}
use Rattle.rt_loose.specs.Loose.{Loosely}
use Rattle.rt_rules.specs.Alike.{map_line}
use Rattle.rt_marks.specs.Outsides.{LooselyCovers}
use Rattle.rt_rules.specs.Laws.{NamesBase}
use Rattle.rt_marks.proofs.Carrying.{given}
use Rattle.rt_rules.proofs.Covering.{map_line-fixed}
use Rattle.rt_marks.proofs.Covering.{covers_by}
use Rattle.rt_scheme.specs.declared.interface.Interface.{Interface}
use Rattle.rt_scheme.specs.Splitting.{interface_of, interfaces_of, interfaces, split_side, split_variable, split_line, IsSplitting}
use Rattle.rt_marks.specs.Laws.{SplittingLaw}
use Rattle.rt_marks.proofs.SplittingForth.{there}

-- What of a side of the lines is split is split of the lines.

module _ (is_split : ℕ → Bool) where
  abbrev of_variable : Dtv → List Interface
  of_variable x = interface_of is_split x.base x.word

  pub of_lines : (lines : List Line) (l : Line) (x : Dtv) (a : Interface) → Contains lines l → HasSide l x → Contains (of_variable x) a → Contains (interfaces is_split lines) a
  of_lines lines l x a c h d = Contains-flat_map (interfaces_of is_split) lines l a c (Contains-flat_map of_variable (sides l) x a (Contains-sides l x h) d)

-- What an existential stands for is looked up in a list.

module _ (place : Interface → ℕ) where
  abbrev first_at : List Interface → ℕ → Option Interface
  first_at [] n = None
  first_at (a ∷ found) n = cond (nat_eq (place a) n) (Some a) (first_at found n)

  -- what is found is in the list, and its existential is the one
  at-found : (found : List Interface) (n : ℕ) (a : Interface) → first_at found n ≡ Some a → Contains found a × (place a ≡ n)
  at-found [] n a e = cc
  at-found (b ∷ found) n a e = by (nat_eq (place b) n) refl e (at-found found n a)
    where
      by : (t : Bool) → nat_eq (place b) n ≡ t → cond t (Some b) (first_at found n) ≡ Some a → (first_at found n ≡ Some a → Contains found a × (place a ≡ n)) → Contains (b ∷ found) a × (place a ≡ n)
      by true f g rest = let same : b ≡ a = cc in (subst (Contains (b ∷ found)) same (Contains-here b found), subst (λ c. place c ≡ n) same (eqb-true (place b) n f))
      by false f g rest = let r = rest g in (Contains-there b found a r.0, r.1)

  -- something is found for what is in the list
  at-some : (found : List Interface) (a : Interface) → Contains found a → (b : Interface) × (first_at found (place a) ≡ Some b)
  at-some [] a c = absurd (Contains-none a c)
  at-some (b ∷ found) a c = by (nat_eq (place b) (place a)) refl (Contains-cons_cases b found a c) (at-some found a)
    where
      by : (t : Bool) → nat_eq (place b) (place a) ≡ t → (b ≡ a) ⊎ Contains found a → (Contains found a → (d : Interface) × (first_at found (place a) ≡ Some d)) → (d : Interface) × (cond t (Some b) (first_at found (place a)) ≡ Some d)
      by true f h rest = (b, refl)
      by false f (inl e) rest = let t : nat_eq (place b) (place a) ≡ true = eq-eqb (place b) (place a) (ap place e) in cc
      by false f (inr d) rest = rest d

-- the variable of the existential and the word, with what the existential stands for in its place
abbrev put_back : Option Interface → ℕ → List Label → Dtv
put_back None n w = record { base = Exist n; word = w }
put_back (Some a) n w = record { base = Proc a.procedure; word = a.label ∷ w }

put_back-longer : (found : Option Interface) (n : ℕ) (w : List Label) (l : Label) → put_back found n (w ++ l ∷ []) ≡ longer (put_back found n w) l
put_back-longer None n w l = refl
put_back-longer (Some a) n w l = refl

abbrev back_at : (ℕ → Option Interface) → Base → List Label → Dtv
back_at meant (Proc q) w = record { base = Proc q; word = w }
back_at meant (Global n) w = record { base = Global n; word = w }
back_at meant (Exist n) w = put_back (meant n) n w
back_at meant (Outer n) w = record { base = Outer n; word = w }

abbrev back : (ℕ → Option Interface) → Dtv → Dtv
back meant x = back_at meant x.base x.word

back_at-longer : (meant : ℕ → Option Interface) (b : Base) (w : List Label) (l : Label) → back_at meant b (w ++ l ∷ []) ≡ longer (back_at meant b w) l
back_at-longer meant (Proc q) w l = refl
back_at-longer meant (Global n) w l = refl
back_at-longer meant (Exist n) w l = put_back-longer (meant n) n w l
back_at-longer meant (Outer n) w l = refl

back-longer : (meant : ℕ → Option Interface) (x : Dtv) (l : Label) → back meant (longer x l) ≡ longer (back meant x) l
back-longer meant x l = back_at-longer meant x.base x.word l

none_of : (found : Option Interface) → ((a : Interface) → found ≡ Some a → ⊥) → found ≡ None
none_of None h = refl
none_of (Some a) h = absurd (h a refl)

module _ (inside : Base → Bool) (is_split : ℕ → Bool) (place : Interface → ℕ) (lines : List Line) (splitting : IsSplitting inside is_split place lines) where
  abbrev meant : ℕ → Option Interface
  meant n = first_at place (interfaces is_split lines) n

  abbrev split_lines : List Line
  split_lines = map (split_line is_split place) lines

  meant_inside : (n : ℕ) → inside (Exist n) ≡ false → meant n ≡ None
  meant_inside n out =
      none_of (meant n)
      (λ a e. let f = at-found place (interfaces is_split lines) n a e in
      let t : inside (Exist (place a)) ≡ true = splitting.existential_inside a f.0 in
      let same : place a ≡ n = f.1 in cc)

  fixes_at : (b : Base) (w : List Label) → inside b ≡ false → back_at meant b w ≡ record { base = b; word = w }
  fixes_at (Proc q) w out = refl
  fixes_at (Global n) w out = refl
  fixes_at (Exist n) w out = ap (λ o. put_back o n w) (meant_inside n out)
  fixes_at (Outer n) w out = refl

  -- what has an existential of its own is what this stands for
  meant_place : (a : Interface) → Contains (interfaces is_split lines) a → meant (place a) ≡ Some a
  meant_place a c =
      let s = at-some place (interfaces is_split lines) a c in
      let f = at-found place (interfaces is_split lines) (place a) s.0 s.1 in
      s.1 ∙ ap Some (splitting.one_to_one s.0 a f.0 c f.1)

  -- an existential that the lines name stands for nothing
  meant_none : (n : ℕ) → NamesBase lines (Exist n) → meant n ≡ None
  meant_none n names =
      none_of (meant n)
      (λ a e. let f = at-found place (interfaces is_split lines) n a e in
      splitting.fresh a f.0 (subst (λ m. NamesBase lines (Exist m)) (sym f.1) names))

  comes_back_label : (s : Bool) (q : ℕ) (l : Label) (w : List Label) →
      (s ≡ true → meant (place (record { procedure = q; label = l })) ≡ Some (record { procedure = q; label = l })) →
      back meant (if s then record { base = Exist (place (record { procedure = q; label = l })); word = w } else record { base = Proc q; word = l ∷ w }) ≡ record { base = Proc q; word = l ∷ w }
  comes_back_label true q l w h = ap (λ o. put_back o (place (record { procedure = q; label = l })) w) (h refl)
  comes_back_label false q l w h = refl

  of_split : (s : Bool) (a : Interface) → s ≡ true → Contains (if s then a ∷ [] else []) a
  of_split true a e = Contains-here a []
  of_split false a e = cc

  comes_back_at : (b : Base) (w : List Label) → NamesBase lines b → ((a : Interface) → Contains (interface_of is_split b w) a → Contains (interfaces is_split lines) a) →
      back meant (split_side is_split place b w) ≡ record { base = b; word = w }
  comes_back_at (Proc q) [] names has = refl
  comes_back_at (Proc q) (l ∷ w) names has =
      comes_back_label (is_split q) q l w
      (λ e. meant_place (record { procedure = q; label = l }) (has (record { procedure = q; label = l }) (of_split (is_split q) (record { procedure = q; label = l }) e)))
  comes_back_at (Global n) w names has = refl
  comes_back_at (Exist n) w names has = ap (λ o. put_back o n w) (meant_none n names)
  comes_back_at (Outer n) w names has = refl

  comes_back : (l : Line) → Contains lines l → (x : Dtv) → HasSide l x → back meant (split_variable is_split place x) ≡ x
  comes_back l c x h = comes_back_at x.base x.word (l, x, c, h, refl) (λ a d. of_lines is_split lines l x a c h d)

  line_comes_back : (l : Line) → Contains lines l → map_line (back meant) (split_line is_split place l) ≡ l
  line_comes_back l c = map_line-twice (back meant) (split_variable is_split place) l ∙ map_line-fixed (λ x. back meant (split_variable is_split place x)) l (comes_back l c)

  back_gives : (order : Below) (k : Line) → (l : Line) × Contains lines l × (split_line is_split place l ≡ k) → Loosely order lines (map_line (back meant) k)
  back_gives order k (l, c, e) = subst (Loosely order lines) (sym (line_comes_back l c) ∙ ap (map_line (back meant)) e) (given order lines l c)

  and_back : (order : Below) → LooselyCovers order inside split_lines lines
  and_back order =
      covers_by order inside split_lines lines (back meant) (back-longer meant) (λ x out. fixes_at x.base x.word out)
      (λ k c. back_gives order k (Contains-map_source (split_line is_split place) lines k c))

pub splitting_lem : SplittingLaw
splitting_lem order inside is_split place lines splitting =
    (there is_split place inside splitting.procedure_inside lines splitting.interface order, and_back inside is_split place lines splitting order)
