-- The lines of some lists of rows together are alike to the lines of all rows, each existential with the number of its name.
use Rattle.std.proofs.Common.{◌≡◌, ℕ, inl, inr, Bool, true, false, ◌&&◌, nat_eq, List, [], ◌∷◌, map, flat_map, get_or, Contains, refl}
use Rattle.std.proofs.Common.{sym, ap, subst, ◌∙◌, true≢false}
use Rattle.std.specs.Ordering.{int_eq}
use Rattle.std.proofs.lemmas.Bool.{and_parts, eqb-true}
use Rattle.std.proofs.lemmas.Bool.Decides.{Decides-int_eq}
use Rattle.rt_lines.specs.Equality.{label_eq}
use Rattle.rt_lines.proofs.Equal.{label_equal}
use Rattle.std.proofs.lemmas.List.Elements.{Contains-append_left, Contains-append_right}
use Rattle.rt_base.proofs.Lists.{Contains-here, Contains-there, Contains-map, Contains-map_source, Contains-flat_map}
use Rattle.rt_base.proofs.Lists.{Contains-flat_map_source, get_or-position_or_len}
use Rattle.rt_lines.specs.declared.variable.Base.{Base}
use Rattle.rt_lines.specs.declared.variable.Base.TheVariants as base
use Rattle.rt_lines.specs.declared.variable.Dtv.{Dtv}
use Rattle.rt_lines.specs.declared.line.Line.{Line}
use Rattle.rt_lines.specs.declared.line.Line.TheVariants as line
use Rattle.rt_lines.specs.Numbering.{deduplicated}
use Rattle.rt_lines.specs.Orders.{Below}
use Rattle.rt_lines.specs.Sides.{map_line, renamed}
use Rattle.rt_lines.proofs.Deduplicating.{deduplicated-has, deduplicated-source}
use Rattle.rt_lines.proofs.Distinct.{inserted-has}
use Rattle.rt_rules.specs.Rules.{HasSide}
use Rattle.rt_rules.specs.Alike.{Alike}
use Rattle.rt_rules.specs.Laws.{IsRenaming, NamesBase}
use Rattle.rt_rules.proofs.Carry.{given}
use Rattle.rt_rules.proofs.Covering.{Alike-trans, exchange}
use Rattle.rt_rules.proofs.Renaming.{renaming_lem}
use Rattle.rt_rows.specs.declared.name.Name.{Name}
use Rattle.rt_rows.specs.declared.name.Name.TheVariants as name
use Rattle.rt_rows.specs.declared.row.Root.{Root}
use Rattle.rt_rows.specs.declared.row.Root.TheVariants as root
use Rattle.rt_rows.specs.declared.row.Term.{Term}
use Rattle.rt_rows.specs.declared.row.Row.{Row}
use Rattle.rt_rows.specs.declared.row.Row.TheVariants as row
use Rattle.rt_rows.specs.contracts.name.NameEq.TheImpl.Laws as name_laws
use Rattle.rt_rows.specs.Terms.{HasRoot, group_lines, line_of, lines_by, name_eq, names_of, root_base, root_names, row_names, variable_of}
use Rattle.rt_unfold.proofs.NameNumbers.{number, number-one}
use Rattle.rt_unfold.proofs.InstanceRows.{base_by, line_by, variable_by}

-- Equal names.

abbrev pub of_lists : List (List Row) → List Row
of_lists lists = flat_map (λ (rows : List Row). rows) lists

abbrev pub joined : List (List Line) → List Line
joined lists = flat_map (λ (lines : List Line). lines) lists

name_self : (x : Name) → name_eq x x ≡ true
name_self x = (name_laws.laws-law).refl x

name_equal : (x y : Name) → name_eq x y ≡ true → x ≡ y
name_equal (name.Definition p s r) (name.Definition p' s' r') e =
    let rest0 : (nat_eq p p' ≡ true) × (nat_eq s s' && (nat_eq r r') ≡ true) = and_parts (nat_eq p p') (nat_eq s s' && (nat_eq r r')) e in
    let rest1 : (nat_eq s s' ≡ true) × (nat_eq r r' ≡ true) = and_parts (nat_eq s s') (nat_eq r r') rest0.1 in
    rw (eqb-true p p' rest0.0, eqb-true s s' rest1.0, eqb-true r r' rest1.1) refl
name_equal (name.Merge p s r) (name.Merge p' s' r') e =
    let rest0 : (nat_eq p p' ≡ true) × (nat_eq s s' && (nat_eq r r') ≡ true) = and_parts (nat_eq p p') (nat_eq s s' && (nat_eq r r')) e in
    let rest1 : (nat_eq s s' ≡ true) × (nat_eq r r' ≡ true) = and_parts (nat_eq s s') (nat_eq r r') rest0.1 in
    rw (eqb-true p p' rest0.0, eqb-true s s' rest1.0, eqb-true r r' rest1.1) refl
name_equal (name.Object p k) (name.Object p' k') e =
    let rest0 : (nat_eq p p' ≡ true) × (int_eq k k' ≡ true) = and_parts (nat_eq p p') (int_eq k k') e in
    rw (eqb-true p p' rest0.0, (Decides-int_eq k k').0 rest0.1) refl
name_equal (name.Port p s c l) (name.Port p' s' c' l') e =
    let rest0 : (nat_eq p p' ≡ true) × (nat_eq s s' && (nat_eq c c' && (label_eq l l')) ≡ true) =
    and_parts (nat_eq p p') (nat_eq s s' && (nat_eq c c' && (label_eq l l'))) e in
    let rest1 : (nat_eq s s' ≡ true) × (nat_eq c c' && (label_eq l l') ≡ true) =
    and_parts (nat_eq s s') (nat_eq c c' && (label_eq l l')) rest0.1 in
    let rest2 : (nat_eq c c' ≡ true) × (label_eq l l' ≡ true) = and_parts (nat_eq c c') (label_eq l l') rest1.1 in
    rw (eqb-true p p' rest0.0, eqb-true s s' rest1.0, eqb-true c c' rest2.0, label_equal l l' rest2.1) refl
name_equal (name.Inner p s c n) (name.Inner p' s' c' n') e =
    let rest0 : (nat_eq p p' ≡ true) × (nat_eq s s' && (nat_eq c c' && (nat_eq n n')) ≡ true) =
    and_parts (nat_eq p p') (nat_eq s s' && (nat_eq c c' && (nat_eq n n'))) e in
    let rest1 : (nat_eq s s' ≡ true) × (nat_eq c c' && (nat_eq n n') ≡ true) =
    and_parts (nat_eq s s') (nat_eq c c' && (nat_eq n n')) rest0.1 in
    let rest2 : (nat_eq c c' ≡ true) × (nat_eq n n' ≡ true) = and_parts (nat_eq c c') (nat_eq n n') rest1.1 in
    rw (eqb-true p p' rest0.0, eqb-true s s' rest1.0, eqb-true c c' rest2.0, eqb-true n n' rest2.1) refl
name_equal (name.Result p s c) (name.Result p' s' c') e =
    let rest0 : (nat_eq p p' ≡ true) × (nat_eq s s' && (nat_eq c c') ≡ true) = and_parts (nat_eq p p') (nat_eq s s' && (nat_eq c c')) e in
    let rest1 : (nat_eq s s' ≡ true) × (nat_eq c c' ≡ true) = and_parts (nat_eq s s') (nat_eq c c') rest0.1 in
    rw (eqb-true p p' rest0.0, eqb-true s s' rest1.0, eqb-true c c' rest1.1) refl
name_equal (name.Definition p s r) (name.Merge p' s' r') e = cc
name_equal (name.Definition p s r) (name.Object p' k') e = cc
name_equal (name.Definition p s r) (name.Port p' s' c' l') e = cc
name_equal (name.Definition p s r) (name.Inner p' s' c' n') e = cc
name_equal (name.Definition p s r) (name.Result p' s' c') e = cc
name_equal (name.Merge p s r) (name.Definition p' s' r') e = cc
name_equal (name.Merge p s r) (name.Object p' k') e = cc
name_equal (name.Merge p s r) (name.Port p' s' c' l') e = cc
name_equal (name.Merge p s r) (name.Inner p' s' c' n') e = cc
name_equal (name.Merge p s r) (name.Result p' s' c') e = cc
name_equal (name.Object p k) (name.Definition p' s' r') e = cc
name_equal (name.Object p k) (name.Merge p' s' r') e = cc
name_equal (name.Object p k) (name.Port p' s' c' l') e = cc
name_equal (name.Object p k) (name.Inner p' s' c' n') e = cc
name_equal (name.Object p k) (name.Result p' s' c') e = cc
name_equal (name.Port p s c l) (name.Definition p' s' r') e = cc
name_equal (name.Port p s c l) (name.Merge p' s' r') e = cc
name_equal (name.Port p s c l) (name.Object p' k') e = cc
name_equal (name.Port p s c l) (name.Inner p' s' c' n') e = cc
name_equal (name.Port p s c l) (name.Result p' s' c') e = cc
name_equal (name.Inner p s c n) (name.Definition p' s' r') e = cc
name_equal (name.Inner p s c n) (name.Merge p' s' r') e = cc
name_equal (name.Inner p s c n) (name.Object p' k') e = cc
name_equal (name.Inner p s c n) (name.Port p' s' c' l') e = cc
name_equal (name.Inner p s c n) (name.Result p' s' c') e = cc
name_equal (name.Result p s c) (name.Definition p' s' r') e = cc
name_equal (name.Result p s c) (name.Merge p' s' r') e = cc
name_equal (name.Result p s c) (name.Object p' k') e = cc
name_equal (name.Result p s c) (name.Port p' s' c' l') e = cc
name_equal (name.Result p s c) (name.Inner p' s' c' n') e = cc

module _ (order : Below) (inside : Base → Bool) (all_inside : (n : ℕ) → inside (base.Exist n) ≡ true) (lists : List (List Row)) where
  abbrev names : List Name
  names = names_of (of_lists lists)

  -- The lines of each list are those of all rows.

  abbrev all : List Line
  all = lines_by names (of_lists lists)

  forth : (l : Line) → Contains (joined (group_lines lists)) l → Contains all l
  forth l c =
      let s = Contains-flat_map_source (λ (lines : List Line). lines) (group_lines lists) l c in
      let t = Contains-map_source (λ rows. deduplicated (lines_by names rows)) lists s.0 s.1 in
      let u = deduplicated-source (lines_by names t.0) l (subst (λ lines. Contains lines l) (sym t.2) s.2) in
      let v = Contains-map_source (line_of names) t.0 l u in
      subst (Contains all) v.2 (Contains-map (line_of names) (of_lists lists) v.0
      (Contains-flat_map (λ (rows : List Row). rows) lists t.0 v.0 t.1 v.1))

  back : (l : Line) → Contains all l → Contains (joined (group_lines lists)) l
  back l c =
      let v = Contains-map_source (line_of names) (of_lists lists) l c in
      let s = Contains-flat_map_source (λ (rows : List Row). rows) lists v.0 v.1 in
      let here = deduplicated-has (lines_by names s.0) l
      (subst (Contains (lines_by names s.0)) v.2 (Contains-map (line_of names) s.0 v.0 s.2)) in
      Contains-flat_map (λ (lines : List Line). lines) (group_lines lists) (deduplicated (lines_by names s.0)) l
      (Contains-map (λ rows. deduplicated (lines_by names rows)) lists s.0 s.1) here

  flat : Alike order inside (joined (group_lines lists)) all
  flat = exchange order inside (joined (group_lines lists)) all (λ l c. given order all l (forth l c))
      (λ l c. given order (joined (group_lines lists)) l (back l c))

  -- The number of a name in place of its place.

  abbrev rename : Base → Base
  rename (base.Proc p) = base.Proc p
  rename (base.Global g) = base.Global g
  rename (base.Exist n) = base.Exist (number (get_or names n (name.Result 0 0 0)))
  rename (base.Outer n) = base.Outer n

  named_root : (r : Root) (x : Name) → r ≡ root.Named x → Contains (root_names r) x
  named_root r x e = subst (λ s. Contains (root_names s) x) (sym e) (Contains-here x [])

  named_row : (r : Row) (x : Name) → HasRoot r (root.Named x) → Contains (row_names r) x
  named_row (row.Var y) x h = named_root y.root x h
  named_row (row.Same y z) x (inl h) = Contains-append_left (root_names y.root) (root_names z.root) x (named_root y.root x h)
  named_row (row.Same y z) x (inr h) = Contains-append_right (root_names y.root) (root_names z.root) x (named_root z.root x h)
  named_row (row.Sub y z) x (inl h) = Contains-append_left (root_names y.root) (root_names z.root) x (named_root y.root x h)
  named_row (row.Sub y z) x (inr h) = Contains-append_right (root_names y.root) (root_names z.root) x (named_root z.root x h)
  named_row (row.Low k y) x h = named_root y.root x h
  named_row (row.Up y k) x h = named_root y.root x h

  names-has : (r : Row) (x : Name) → Contains (of_lists lists) r → HasRoot r (root.Named x) → Contains names x
  names-has r x c h = inserted-has name_eq name_equal (flat_map row_names (of_lists lists)) [] x
      (Contains-flat_map row_names (of_lists lists) r x c (named_row r x h))

  rename-root : (s : Root) → ((x : Name) → s ≡ root.Named x → Contains names x) → rename (root_base names s) ≡ base_by s
  rename-root (root.Proc p) h = refl
  rename-root (root.Global g) h = refl
  rename-root (root.Named x) h = ap (λ y. base.Exist (number y))
      (get_or-position_or_len name_eq name_equal name_self names x (name.Result 0 0 0) (h x refl))
  rename-root (root.Outer n) h = refl

  rename-term : (x : Term) → ((y : Name) → x.root ≡ root.Named y → Contains names y) → renamed rename (variable_of names x) ≡ variable_by x
  rename-term x h = λ i. record { base = rename-root x.root h i; word = x.word }

  rename-row : (r : Row) → ((x : Name) → HasRoot r (root.Named x) → Contains names x)
      → map_line (renamed rename) (line_of names r) ≡ line_by r
  rename-row (row.Var x) h = ap line.Var (rename-term x h)
  rename-row (row.Same x y) h = λ i. line.Same (rename-term x (λ z e. h z (inl e)) i) (rename-term y (λ z e. h z (inr e)) i)
  rename-row (row.Sub x y) h = λ i. line.Sub (rename-term x (λ z e. h z (inl e)) i) (rename-term y (λ z e. h z (inr e)) i)
  rename-row (row.Low k x) h = ap (line.Low k) (rename-term x h)
  rename-row (row.Up x k) h = ap (λ y. line.Up y k) (rename-term x h)

  rename-rows : (rows : List Row) → ((r : Row) → Contains rows r → Contains (of_lists lists) r)
      → map (map_line (renamed rename)) (lines_by names rows) ≡ map line_by rows
  rename-rows [] h = refl
  rename-rows (r ∷ rows) h = rw (
    rename-row r (λ x g. names-has r x (h r (Contains-here r rows)) g),
    rename-rows rows
        (λ s c. h s (Contains-there r rows s c)),
  ) refl

  -- No two fall together.

  side_root : (r : Row) (x : Dtv) → HasSide (line_of names r) x → (s : Root) × HasRoot r s × (root_base names s ≡ x.base)
  side_root (row.Var y) x e = (y.root, refl, ap (λ v. v.base) e)
  side_root (row.Same y z) x (inl e) = (y.root, inl refl, ap (λ v. v.base) e)
  side_root (row.Same y z) x (inr e) = (z.root, inr refl, ap (λ v. v.base) e)
  side_root (row.Sub y z) x (inl e) = (y.root, inl refl, ap (λ v. v.base) e)
  side_root (row.Sub y z) x (inr e) = (z.root, inr refl, ap (λ v. v.base) e)
  side_root (row.Low k y) x e = (y.root, refl, ap (λ v. v.base) e)
  side_root (row.Up y k) x e = (y.root, refl, ap (λ v. v.base) e)

  -- a base that the lines name is that of a root of the rows, and becomes that root's
  base_root : (b : Base) → NamesBase all b → (s : Root) × (root_base names s ≡ b) × (rename b ≡ base_by s)
  base_root b (l, x, c, h, e) =
      let s = Contains-map_source (line_of names) (of_lists lists) l c in
      let t = side_root s.0 x (subst (λ m. HasSide m x) (sym s.2) h) in
      (t.0, t.2 ∙ e, ap rename (sym (t.2 ∙ e)) ∙ rename-root t.0 (λ y f. names-has s.0 y s.1 (subst (HasRoot s.0) f t.1)))

  root-one : (r s : Root) → base_by r ≡ base_by s → r ≡ s
  root-one (root.Proc p) (root.Proc q) e = let same : p ≡ q = cc in ap root.Proc same
  root-one (root.Proc p) (root.Global h) e = cc
  root-one (root.Proc p) (root.Named y) e = absurd (other (number y) e)
    where
      other : (n : ℕ) → base.Proc p ≡ base.Exist n → ⊥
      other n f = cc
  root-one (root.Proc p) (root.Outer n) e = cc
  root-one (root.Global g) (root.Proc q) e = cc
  root-one (root.Global g) (root.Global h) e = let same : g ≡ h = cc in ap root.Global same
  root-one (root.Global g) (root.Named y) e = absurd (other (number y) e)
    where
      other : (n : ℕ) → base.Global g ≡ base.Exist n → ⊥
      other n f = cc
  root-one (root.Global g) (root.Outer n) e = cc
  root-one (root.Named x) (root.Proc q) e = absurd (other (number x) e)
    where
      other : (n : ℕ) → base.Exist n ≡ base.Proc q → ⊥
      other n f = cc
  root-one (root.Named x) (root.Global h) e = absurd (other (number x) e)
    where
      other : (n : ℕ) → base.Exist n ≡ base.Global h → ⊥
      other n f = cc
  root-one (root.Named x) (root.Named y) e = ap root.Named (number-one x y (same (number x) (number y) e))
    where
      same : (m n : ℕ) → base.Exist m ≡ base.Exist n → m ≡ n
      same m n f = cc
  root-one (root.Named x) (root.Outer n) e = absurd (other (number x) e)
    where
      other : (m : ℕ) → base.Exist m ≡ base.Outer n → ⊥
      other m f = cc
  root-one (root.Outer m) (root.Proc q) e = cc
  root-one (root.Outer m) (root.Global h) e = cc
  root-one (root.Outer m) (root.Named y) e = absurd (other (number y) e)
    where
      other : (n : ℕ) → base.Outer m ≡ base.Exist n → ⊥
      other n f = cc
  root-one (root.Outer m) (root.Outer n) e = let same : m ≡ n = cc in ap root.Outer same

  one_to_one : (a b : Base) → NamesBase all a → NamesBase all b → rename a ≡ rename b → a ≡ b
  one_to_one a b c d e =
      let s = base_root a c in
      let t = base_root b d in
      sym s.1 ∙ (ap (root_base names) (root-one s.0 t.0 (sym s.2 ∙ (e ∙ t.2))) ∙ t.1)

  outside_stays : (b : Base) → inside b ≡ false → rename b ≡ b
  outside_stays (base.Proc n) e = refl
  outside_stays (base.Global n) e = refl
  outside_stays (base.Exist n) e = absurd (true≢false (sym (all_inside n) ∙ e))
  outside_stays (base.Outer n) e = refl

  inside_stays : (b : Base) → inside b ≡ true → inside (rename b) ≡ true
  inside_stays (base.Proc n) e = e
  inside_stays (base.Global n) e = e
  inside_stays (base.Exist n) e = all_inside (number (get_or names n (name.Result 0 0 0)))
  inside_stays (base.Outer n) e = e

  is_renaming : IsRenaming inside rename all
  is_renaming = record { outside_stays = outside_stays; inside_stays = inside_stays; one_to_one = one_to_one }

  pub one_numbering : Alike order inside (joined (group_lines lists)) (map line_by (of_lists lists))
  one_numbering =
      Alike-trans order inside (joined (group_lines lists)) all (map line_by (of_lists lists)) flat
      (subst (Alike order inside all) (rename-rows (of_lists lists) (λ r c. c)) (renaming_lem order inside rename all is_renaming))
