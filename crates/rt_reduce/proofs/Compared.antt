-- Existentials that equal sides give their places to them, while sides keep their numbers.
use Rattle.std.proofs.Common.{◌≡◌, ◌≢◌, ℕ, suc, ◌<◌, ◌⊎◌, inl, inr, Bool, true, false, cond, List, [], ◌∷◌, map, Contains, All, Option, Some, None, MatchOption}
use Rattle.std.proofs.Common.{length, get_or, refl, sym, ap, subst, ◌∙◌, append-nil, arith}
use Rattle.std.specs.Prelude.{◌↔◌}
use Rattle.std.specs.List.{flat_map}
use Rattle.std.proofs.lemmas.List.{get_or_default, get_or-map}
use Rattle.rt_base.proofs.Lists.{All-from_contains, Contains-none, Contains-map, Contains-map_source, Contains-flat_map, Contains-flat_map_source}
use Rattle.rt_lines.specs.declared.variable.Base.{Base}
use Rattle.rt_lines.specs.declared.variable.Base.TheVariants.{Exist, Proc, Global, Outer}
use Rattle.rt_lines.specs.declared.variable.Dtv.{Dtv}
use Rattle.rt_lines.specs.declared.line.Line.{Line}
use Rattle.rt_lines.specs.declared.line.Line.TheVariants.{Var, Same, Sub, Low, Up}
use Rattle.rt_lines.specs.declared.line.Judge.TheVariants.{Sub as JudgeSub}
use Rattle.rt_lines.specs.Equality.{base_eq, variable_eq}
use Rattle.rt_lines.specs.Orders.{Below}
use Rattle.rt_lines.specs.Sides.{sides}
use Rattle.rt_lines.proofs.Equal.{base_equal, variable_equal}
use Rattle.rt_lines.proofs.Deduplicating.{deduplicated-has, deduplicated-source}
use Rattle.rt_rules.specs.Rules.{HasSide, Derivable}
use Rattle.rt_rules.specs.Rules.Derivable.{named as side_there, sub_chain}
use Rattle.rt_rules.specs.Alike.{Alike, IsOutside, map_line}
use Rattle.rt_rules.specs.Laws.{NamesBase}
use Rattle.rt_rules.specs.Put.{exist, put, put_lines}
use Rattle.rt_rules.proofs.Carry.{HasSide-map}
use Rattle.rt_rules.proofs.Covering.{Alike-trans}
use Rattle.rt_rules.proofs.LineSides.{Contains-sides, HasSide-in_sides, HasSide-map_line_source}
use Rattle.rt_rules.proofs.Renaming.{one_base}
use Rattle.rt_polar.specs.Tidied.{without_self, tidied}
use Rattle.rt_polar.proofs.AlikeTidied.{Alike-tidied}
use Rattle.rt_polar.proofs.Exchanging.{put-apart, put-own}
use Rattle.rt_reduction.specs.Merges.{HasEqual}
use Rattle.rt_reduction.proofs.FromSides.{without_side}
use Rattle.rt_reduction.proofs.Merging.{Alike-equal, near}
use Rattle.rt_reduction.proofs.Naming.{base_named}
use Rattle.rt_named.specs.Naming.{named as named_by}
use Rattle.rt_reduce.specs.Inside.Alike.{AreNumbered, IsAlike, no_side}
use Rattle.rt_reduce.specs.Inside.Compared.{IsCompared}
use Rattle.rt_reduce.specs.Inside.Merging.{IsFirstAmong, IsFirstEqual, IsSide}
use Rattle.rt_equals.specs.Comparing.{AreEquals}
use Rattle.rt_reduce.proofs.Firsts.{first_of_sides}
use Rattle.rt_reduce.proofs.Numbering.{alike_at, own_in}

-- a line that puts a variable beside itself keeps its side
self_side : (l : Line) (x : Dtv) → HasSide l x → HasSide (without_self l) x
self_side (Var y) x h = h
self_side (Low k y) x h = h
self_side (Up y k) x h = h
self_side (Same y z) x h = by (variable_eq y z) refl
  where
    one : variable_eq y z ≡ true → (y ≡ x) ⊎ (z ≡ x) → y ≡ x
    one e (inl f) = f
    one e (inr f) = variable_equal y z e ∙ f

    by : (b : Bool) → variable_eq y z ≡ b → HasSide (cond b (Var y) (Same y z)) x
    by true e = one e h
    by false e = h
self_side (Sub y z) x h = by (variable_eq y z) refl
  where
    one : variable_eq y z ≡ true → (y ≡ x) ⊎ (z ≡ x) → y ≡ x
    one e (inl f) = f
    one e (inr f) = variable_equal y z e ∙ f

    by : (b : Bool) → variable_eq y z ≡ b → HasSide (cond b (Var y) (Sub y z)) x
    by true e = one e h
    by false e = h

none_outside : (inside : Base → Bool) → All (IsOutside inside) []
none_outside inside = All-from_contains (IsOutside inside) [] (λ l c. absurd (Contains-none l c))

length_mapped : (f : Dtv → Dtv) (xs : List Dtv) → length (map f xs) ≡ length xs
length_mapped f [] = refl
length_mapped f (x ∷ xs) = ap suc (length_mapped f xs)

module _ (lines : List Line) (n : ℕ) (z : Dtv) where
  abbrev after : List Line
  after = tidied (put_lines n z lines)

  put_side : (x : Dtv) → IsSide lines x → IsSide after (put n z x)
  put_side x (l, c, h) = (
    without_self (map_line (put n z) l),
    deduplicated-has (map without_self (put_lines n z lines)) (without_self (map_line (put n z) l))
        (Contains-map without_self (put_lines n z lines) (map_line (put n z) l) (Contains-map (map_line (put n z)) lines l c)),
    self_side (map_line (put n z) l) (put n z x) (HasSide-map (put n z) l x h),
  )

  side_put : (y : Dtv) → IsSide after y → (x : Dtv) × IsSide lines x × (put n z x ≡ y)
  side_put y (k, c, h) =
      let t : (m : Line) × Contains (put_lines n z lines) m × (without_self m ≡ k) =
      Contains-map_source without_self (put_lines n z lines) k (deduplicated-source (map without_self (put_lines n z lines)) k c) in
      let l : (l : Line) × Contains lines l × (map_line (put n z) l ≡ t.0) = Contains-map_source (map_line (put n z)) lines t.0 t.1 in
      let g : HasSide t.0 y = without_side t.0 y (subst (λ m. HasSide m y) (sym t.2) h) in
      let s : (x : Dtv) × HasSide l.0 x × (put n z x ≡ y) =
      HasSide-map_line_source (put n z) l.0 y (subst (λ m. HasSide m y) (sym l.2) g) in
      (s.0, (l.0, l.1, s.1), s.2)

  module _ (apart : z.base ≢ Exist n) where
    put_base : (x : Dtv) → (put n z x).base ≢ Exist n
    put_base x = by (one_base x.base (Exist n))
      where
        by : (x.base ≡ Exist n) ⊎ (x.base ≡ Exist n → ⊥) → (put n z x).base ≢ Exist n
        by (inl e) f = apart (sym (ap (λ (v : Dtv). v.base) (put-own n z x e)) ∙ f)
        by (inr m) f = m (sym (ap (λ (v : Dtv). v.base) (put-apart n z x m)) ∙ f)

    -- the existential isn't named any more
    pub gone : (m : ℕ) → NamesBase after (Exist m) → m ≡ n → ⊥
    gone m (l, y, c, h, e) f =
        let s : (x : Dtv) × IsSide lines x × (put n z x ≡ y) = side_put y (l, c, h) in
        put_base s.0 (ap (λ (v : Dtv). v.base) s.2 ∙ e ∙ ap Exist f)

    -- others were named before
    pub was_named : IsSide lines z → (m : ℕ) → NamesBase after (Exist m) → NamesBase lines (Exist m)
    was_named (k, d, g) m (l, y, c, h, e) = by (side_put y (l, c, h))
      where
        by : (x : Dtv) × IsSide lines x × (put n z x ≡ y) → NamesBase lines (Exist m)
        by (x, (j, b, i), f) = at (one_base x.base (Exist n))
          where
            at : (x.base ≡ Exist n) ⊎ (x.base ≡ Exist n → ⊥) → NamesBase lines (Exist m)
            at (inl own) = (k, z, d, g, sym (ap (λ (v : Dtv). v.base) (put-own n z x own)) ∙ ap (λ (v : Dtv). v.base) f ∙ e)
            at (inr other) = (j, x, b, i, sym (ap (λ (v : Dtv). v.base) (put-apart n z x other)) ∙ ap (λ (v : Dtv). v.base) f ∙ e)

    module _ (order : Below) (above : Derivable order lines (Sub (exist n) z)) (below : Derivable order lines (Sub z (exist n))) where
      abbrev only : Base → Bool
      only b = base_eq b (Exist n)

      out : (x : Dtv) → x.base ≢ Exist n → only x.base ≡ false
      out x m = by (only x.base) refl
        where
          by : (b : Bool) → only x.base ≡ b → only x.base ≡ false
          by false e = e
          by true e = absurd (m (base_equal x.base (Exist n) e))

      alike : Alike order only lines after
      alike = Alike-trans order only lines (put_lines n z lines) after (Alike-equal order lines n z above below only itself)
          (Alike-tidied order only (put_lines n z lines))
        where
          itself : base_eq (Exist n) (Exist n) ≡ true
          itself = grind arith

      outside : (x y : Dtv) → x.base ≢ Exist n → y.base ≢ Exist n → IsOutside only (Sub x y)
      outside x y a b v (inl e) = subst (λ (w : Dtv). only w.base ≡ false) e (out x a)
      outside x y a b v (inr e) = subst (λ (w : Dtv). only w.base ≡ false) e (out y b)

      -- other variables lie below each other as before
      pub below_kept : (x y : Dtv) → x.base ≢ Exist n → y.base ≢ Exist n → Derivable order lines (Sub x y) ↔ Derivable order after (Sub x y)
      below_kept x y a b = (
        λ d. subst (λ ls. Derivable order ls (Sub x y)) (append-nil after) (alike.0 [] (JudgeSub x y) (none_outside only) (outside x y a b)
            (subst (λ ls. Derivable order ls (Sub x y)) (sym (append-nil lines)) d)),
        λ d. subst (λ ls. Derivable order ls (Sub x y)) (append-nil lines) (alike.1 [] (JudgeSub x y) (none_outside only) (outside x y a b)
            (subst (λ ls. Derivable order ls (Sub x y)) (sym (append-nil after)) d)),
      )

      near_side : (x : Dtv) → IsSide lines x →
          Derivable order lines (Sub (put n z x) x) × Derivable order lines (Sub x (put n z x))
      near_side x (l, c, h) = near order lines n z above below x (side_there l c h)

      -- what becomes of a side has the equals that the side had
      equals_kept : (m : ℕ) (x : Dtv) → m ≢ n → IsSide lines x → IsAlike order lines m x ↔ IsAlike order after m (put n z x)
      equals_kept m x other side =
          let own : (exist m).base ≢ Exist n = λ e. other (exist_number e) in
          let r = near_side x side in
          let up = below_kept (exist m) (put n z x) own (put_base x) in
          let down = below_kept (put n z x) (exist m) (put_base x) own in (
            λ a. (up.0 (sub_chain a.0 r.1), down.0 (sub_chain r.0 a.1)),
            λ a. (sub_chain (up.1 a.0) r.0, sub_chain r.1 (down.1 a.1)),
          )
        where
          exist_number : Exist m ≡ Exist n → m ≡ n
          exist_number e = cc

      -- whoever has an equal after had one before
      pub had_equal : (m : ℕ) → HasEqual order after m → (m ≢ n) × HasEqual order lines m
      had_equal m (y, equal) = by (side_put y (equal.line, equal.stands, equal.is_side))
        where
          other : m ≢ n
          other f = gone m (base_named order after (Sub (exist m) y) equal.above (exist m) (inl refl)) f

          by : (x : Dtv) × IsSide lines x × (put n z x ≡ y) → (m ≢ n) × HasEqual order lines m
          by (x, (l, c, h), e) =
              let a : IsAlike order lines m x = (equals_kept m x other (l, c, h)).1 (
                subst (λ v. Derivable order after (Sub (exist m) v)) (sym e) equal.above,
                subst (λ v. Derivable order after (Sub v (exist m))) (sym e) equal.below,
              ) in (
                other,
                (
                  x,
                  record {
                    line = l;
                    stands = c;
                    is_side = h;
                    other_base = λ f. equal.other_base (sym (ap (λ (v : Dtv). v.base) (sym (put-apart n z x (λ g. other (exist_number (sym f ∙ g)))) ∙ e)) ∙ f);
                    above = a.0;
                    below = a.1;
                  },
                ),
              )
            where
              exist_number : Exist m ≡ Exist n → m ≡ n
              exist_number g = cc

-- sides keep their numbers
pub compared_next : (lines : List Line) (known : List Dtv) (equals : List ℕ) (all : List Dtv) (numbers : List ℕ) (n : ℕ) (z : Dtv) →
    IsSide lines z → z.base ≢ Exist n →
    ((order : Below) → Derivable order lines (Sub (exist n) z) × Derivable order lines (Sub z (exist n))) →
    IsCompared lines known equals all numbers → IsCompared (tidied (put_lines n z lines)) known equals (map (put n z) all) numbers
compared_next lines known equals all numbers n z side apart equal are = record {
  each = are.each ∙ sym (length_mapped (put n z) all);
  sides_are = λ x. (
    λ c. (let s : (y : Dtv) × Contains all y × (put n z y ≡ x) = Contains-map_source (put n z) all x c in
        subst (IsSide (tidied (put_lines n z lines))) s.2 (put_side lines n z s.0 ((are.sides_are s.0).0 s.1))),
    λ h. (let s : (y : Dtv) × IsSide lines y × (put n z y ≡ x) = side_put lines n z x h in
        subst (Contains (map (put n z) all)) s.2 (Contains-map (put n z) all s.0 ((are.sides_are s.0).1 s.1))),
  );
  is_known = λ m names. are.is_known m (was_named lines n z apart side m names);
  alike = λ order m own names has i h. (
      let less : i < length all = subst (λ k. i < k) (length_mapped (put n z) all) h in
      let x : Dtv = get_or all i no_side in
      let there : IsSide lines x = (are.sides_are x).0 (i, less, get_or_default all i x no_side less) in
      let old = are.alike order m own (was_named lines n z apart side m names) has i less in
      let kept = equals_kept lines n z apart order (equal order).0 (equal order).1 m x (gone lines n z apart m names) there in
      let e : put n z x ≡ get_or (map (put n z) all) i no_side = sym (get_or-map (put n z) all i no_side no_side less) in (
        λ f. subst (IsAlike order (tidied (put_lines n z lines)) m) e (kept.0 (old.0 f)),
        λ a. old.1 (kept.1 (subst (IsAlike order (tidied (put_lines n z lines)) m) (sym e) a)),
      )
      );
}

-- the first of compared sides is the first equal
pub first_compared : (order : Below) (lines : List Line) (known : List Dtv) (equals : List ℕ) (all : List Dtv) (numbers : List ℕ) (n : ℕ)
    (found : Option Dtv) → IsCompared lines known equals all numbers → IsFirstAmong order lines n all found →
    MatchOption found (HasEqual order lines n → ⊥) (λ z. IsFirstEqual order lines n z)
first_compared order lines known equals all numbers n found are first =
    first_of_sides order lines n all found
    (λ x. (λ c. in_sides x ((are.sides_are x).0 c), λ c. (are.sides_are x).1 (of_sides x c))) first
  where
    in_sides : (x : Dtv) → IsSide lines x → Contains (flat_map sides lines) x
    in_sides x (l, c, h) = Contains-flat_map sides lines l x c (Contains-sides l x h)

    of_sides : (x : Dtv) → Contains (flat_map sides lines) x → IsSide lines x
    of_sides x c = (let s : (l : Line) × Contains lines l × Contains (sides l) x = Contains-flat_map_source sides lines x c in
        (s.0, s.1, HasSide-in_sides s.0 x s.2))

-- an existential that isn't known has no equal
pub unknown_none : (order : Below) (lines : List Line) (known : List Dtv) (equals : List ℕ) (all : List Dtv) (numbers : List ℕ) (n : ℕ) →
    IsCompared lines known equals all numbers → (Contains known (exist n) → ⊥) → HasEqual order lines n → ⊥
unknown_none order lines known equals all numbers n are none (z, equal) =
    none (are.is_known n (base_named order lines (Sub (exist n) z) equal.above (exist n) (inl refl)))

-- nor has one that no side has for its base
pub unnamed_none : (order : Below) (lines : List Line) (known : List Dtv) (equals : List ℕ) (all : List Dtv) (numbers : List ℕ) (n : ℕ) →
    IsCompared lines known equals all numbers → ((x : Dtv) × Contains all x × (x.base ≡ Exist n) → ⊥) → HasEqual order lines n → ⊥
unnamed_none order lines known equals all numbers n are none (z, equal) =
    by (base_named order lines (Sub (exist n) z) equal.above (exist n) (inl refl))
  where
    by : NamesBase lines (Exist n) → ⊥
    by (l, x, c, h, e) = none (x, (are.sides_are x).1 (l, c, h), e)

pub named_side : (lines : List Line) (known : List Dtv) (equals : List ℕ) (all : List Dtv) (numbers : List ℕ) (n : ℕ) →
    IsCompared lines known equals all numbers → (x : Dtv) × Contains all x × (x.base ≡ Exist n) → NamesBase lines (Exist n)
named_side lines known equals all numbers n are (x, c, e) = by ((are.sides_are x).0 c)
  where
    by : IsSide lines x → NamesBase lines (Exist n)
    by (l, d, h) = (l, x, d, h, e)

pub base_itself : (a b : Base) → a ≡ b → base_eq a b ≡ true
base_itself (Proc m) b e = subst (λ c. base_eq (Proc m) c ≡ true) e (grind arith)
base_itself (Global m) b e = subst (λ c. base_eq (Global m) c ≡ true) e (grind arith)
base_itself (Exist m) b e = subst (λ c. base_eq (Exist m) c ≡ true) e (grind arith)
base_itself (Outer m) b e = subst (λ c. base_eq (Outer m) c ≡ true) e (grind arith)

-- what is so at first
pub compared_first : (lines : List Line) (known : List Dtv) (equals : List ℕ) (all : List Dtv) (numbers : List ℕ) →
    known ≡ named_by lines [] → AreEquals lines known equals → AreNumbered known equals all numbers → all ≡ flat_map sides lines →
    IsCompared lines known equals all numbers
compared_first lines known equals all numbers e are numbered f = record {
  each = numbered.each;
  sides_are = λ x. (
    λ c. (let s : (l : Line) × Contains lines l × Contains (sides l) x =
        Contains-flat_map_source sides lines x (subst (λ xs. Contains xs x) f c) in (s.0, s.1, HasSide-in_sides s.0 x s.2)),
    λ h. subst (λ xs. Contains xs x) (sym f) (Contains-flat_map sides lines h.0 x h.1 (Contains-sides h.0 x h.2)),
  );
  is_known = λ n names. own_in lines known n e names;
  alike = λ order n own names has. alike_at order lines known equals all numbers n own are numbered has;
}

-- some order, where it doesn't matter which
pub any : Below
any = record { count = 0; cells = [] }

-- the first equal of a found existential
pub found_first : (lines : List Line) (n : ℕ) (found : Option Dtv) (z : Dtv) → found ≡ Some z →
    ((order : Below) → MatchOption found (HasEqual order lines n → ⊥) (λ y. IsFirstEqual order lines n y)) →
    (order : Below) → IsFirstEqual order lines n z
found_first lines n found z e first order =
    subst (λ (o : Option Dtv). MatchOption o (HasEqual order lines n → ⊥) (λ y. IsFirstEqual order lines n y)) e (first order)

pub found_none : (lines : List Line) (n : ℕ) (found : Option Dtv) → found ≡ None →
    ((order : Below) → MatchOption found (HasEqual order lines n → ⊥) (λ y. IsFirstEqual order lines n y)) →
    (order : Below) → HasEqual order lines n → ⊥
found_none lines n found e first order =
    subst (λ (o : Option Dtv). MatchOption o (HasEqual order lines n → ⊥) (λ y. IsFirstEqual order lines n y)) e (first order)
