-- The labels that lines name are those that an instance has ports for.
use Rattle.std.proofs.Common.{◌≡◌, ℕ, ◌+◌, ◌⊎◌, inl, inr, ◌↔◌, Bool, true, false, ◌||◌, ◌&&◌, IsTrue, nat_eq, if◌then◌else◌, List, [], ◌∷◌, flat_map, fold, Contains, refl, sym, ap, subst, ◌∙◌, eq-eqb}
use Rattle.std.specs.List.{list_any}
use Rattle.std.proofs.lemmas.Bool.{and_parts, and_from, or_cases, or_left, or_right, eqb-true, false≢true}
use Rattle.indexmap.specs.IndexSet.{insert_key}
use Rattle.rt_base.proofs.Booleans.{same_truth}
use Rattle.rt_base.proofs.Lists.{Contains-none, Contains-here, Contains-there, Contains-cons_cases, Contains-flat_map, Contains-flat_map_source, list_any-at, list_any-from}
use Rattle.rt_lines.specs.declared.label.Label.{Label}
use Rattle.rt_lines.specs.declared.variable.Base.{Base}
use Rattle.rt_lines.specs.declared.variable.Base.TheVariants.{Proc, Global, Exist, Outer}
use Rattle.rt_lines.specs.declared.variable.Dtv.{Dtv}
use Rattle.rt_lines.specs.declared.line.Line.{Line}
use Rattle.rt_lines.specs.contracts.label.LabelEq.TheImpl.Laws as label_laws
use Rattle.rt_lines.specs.Equality.{label_eq}
use Rattle.rt_lines.specs.Sides.{sides}
use Rattle.rt_lines.proofs.Distinct.{inserted-has, inserted-source}
use Rattle.rt_lines.proofs.Equal.{label_equal}
use Rattle.rt_rules.specs.Rules.{HasSide}
use Rattle.rt_rules.proofs.LineSides.{Contains-sides, HasSide-in_sides}
use Rattle.rt_scheme.specs.declared.origin.Origin.{Origin}
use Rattle.rt_scheme.specs.declared.origin.Origin.TheVariants.{Port, Bound}
use Rattle.rt_scheme.specs.Instances.{origin_eq, origin_of, origins_of, origins, ports_from}
use Rattle.rt_scheme.specs.Ports.{NamesLabel, begins_side, begins_with, has_port, line_names, names_label}
use Rattle.rt_lines.proofs.Same.{label_self}

origin_equal : (a b : Origin) → origin_eq a b ≡ true → a ≡ b
origin_equal (Port l) (Port k) e = ap Port (label_equal l k e)
origin_equal (Bound m) (Bound n) e = ap Bound (eqb-true m n e)
origin_equal (Port l) (Bound n) e = cc
origin_equal (Bound m) (Port k) e = cc

-- What begins with the label.

begins_parts : (own : ℕ) (label : Label) (b : Base) (w : List Label) → begins_side own label b w ≡ true → (v : List Label) × (b ≡ Proc own) × (w ≡ label ∷ v)
begins_parts own label (Proc n) [] t = absurd (false≢true t)
begins_parts own label (Proc n) (l ∷ w) t =
    let parts = and_parts (nat_eq n own) (label_eq l label) t in
    (w, ap Proc (eqb-true n own parts.0), ap (λ k. k ∷ w) (label_equal l label parts.1))
begins_parts own label (Global n) w t = absurd (false≢true t)
begins_parts own label (Exist n) w t = absurd (false≢true t)
begins_parts own label (Outer n) w t = absurd (false≢true t)

begins_own : (own : ℕ) (label : Label) (v : List Label) → begins_side own label (Proc own) (label ∷ v) ≡ true
begins_own own label v = and_from (nat_eq own own) (label_eq label label) (eq-eqb own own refl) (label_self label)

begins_from : (own : ℕ) (label : Label) (b : Base) (w v : List Label) → b ≡ Proc own → w ≡ label ∷ v → begins_side own label b w ≡ true
begins_from own label b w v e f = subst (λ c. begins_side own label c w ≡ true) (sym e) (subst (λ u. begins_side own label (Proc own) u ≡ true) (sym f) (begins_own own label v))

-- the test of all lines says whether they name the label
pub any_names-is : (own : ℕ) (label : Label) (lines : List Line) → (list_any (line_names own label) lines ≡ true) ↔ NamesLabel own lines label
any_names-is own label lines = (forth, back)
  where
    forth : list_any (line_names own label) lines ≡ true → NamesLabel own lines label
    forth t =
        let s = list_any-at (line_names own label) lines t in
        let r = list_any-at (begins_with own label) (sides s.0) s.2 in
        let parts = begins_parts own label (r.0).base (r.0).word r.2 in
        (s.0, r.0, parts.0, s.1, HasSide-in_sides s.0 r.0 r.1, parts.1, parts.2)

    back : NamesLabel own lines label → list_any (line_names own label) lines ≡ true
    back (l, x, w, c, h, e, f) =
        list_any-from (line_names own label) lines l c
        (list_any-from (begins_with own label) (sides l) x (Contains-sides l x h) (begins_from own label x.base x.word w e f))

-- What is instantiated.

origin_if : (t : Bool) (l label : Label) → Contains (if t then Port l ∷ [] else []) (Port label) → (t ≡ true) × (l ≡ label)
origin_if true l label c = (refl, by (Contains-cons_cases (Port l) [] (Port label) c))
  where
    by : (Port l ≡ Port label) ⊎ Contains [] (Port label) → l ≡ label
    by (inl e) = cc
    by (inr none) = absurd (Contains-none (Port label) none)
origin_if false l label c = absurd (Contains-none (Port label) c)

origin-begins : (own : ℕ) (label : Label) (b : Base) (w : List Label) → Contains (origin_of own b w) (Port label) → begins_side own label b w ≡ true
origin-begins own label (Proc n) [] c = absurd (Contains-none (Port label) c)
origin-begins own label (Proc n) (l ∷ w) c =
    let parts = origin_if (nat_eq n own) l label c in
    and_from (nat_eq n own) (label_eq l label) parts.0 (subst (λ k. label_eq l k ≡ true) parts.1 (label_self l))
origin-begins own label (Global n) w c = absurd (Contains-none (Port label) c)
origin-begins own label (Exist n) w c = by (Contains-cons_cases (Bound n) [] (Port label) c)
  where
    by : (Bound n ≡ Port label) ⊎ Contains [] (Port label) → begins_side own label (Exist n) w ≡ true
    by (inl e) = cc
    by (inr none) = absurd (Contains-none (Port label) none)
origin-begins own label (Outer n) w c = absurd (Contains-none (Port label) c)

origin-own : (own : ℕ) (label : Label) (v : List Label) → Contains (origin_of own (Proc own) (label ∷ v)) (Port label)
origin-own own label v = subst (λ t. Contains (if t then Port label ∷ [] else []) (Port label)) (sym (eq-eqb own own refl)) (Contains-here (Port label) [])

origin-has : (own : ℕ) (label : Label) (b : Base) (w v : List Label) → b ≡ Proc own → w ≡ label ∷ v → Contains (origin_of own b w) (Port label)
origin-has own label b w v e f = subst (λ c. Contains (origin_of own c w) (Port label)) (sym e) (subst (λ u. Contains (origin_of own (Proc own) u) (Port label)) (sym f) (origin-own own label v))

-- A label has a port where it is instantiated.

port-source : (first : ℕ) (order : List Origin) (label : Label) → has_port (ports_from first order) label ≡ true → Contains order (Port label)
port-source first [] label t = absurd (false≢true t)
port-source first (Port l ∷ order) label t = by (or_cases (label_eq l label) (has_port (ports_from (first + 1) order) label) t) (port-source (first + 1) order label)
  where
    by : (label_eq l label ≡ true) ⊎ (has_port (ports_from (first + 1) order) label ≡ true) → (has_port (ports_from (first + 1) order) label ≡ true → Contains order (Port label)) → Contains (Port l ∷ order) (Port label)
    by (inl e) rest = subst (λ k. Contains (Port l ∷ order) (Port k)) (label_equal l label e) (Contains-here (Port l) order)
    by (inr e) rest = Contains-there (Port l) order (Port label) (rest e)
port-source first (Bound n ∷ order) label t = Contains-there (Bound n) order (Port label) (port-source (first + 1) order label t)

port-has : (first : ℕ) (order : List Origin) (label : Label) → Contains order (Port label) → has_port (ports_from first order) label ≡ true
port-has first [] label c = absurd (Contains-none (Port label) c)
port-has first (Port l ∷ order) label c = by (Contains-cons_cases (Port l) order (Port label) c) (port-has (first + 1) order label)
  where
    by : (Port l ≡ Port label) ⊎ Contains order (Port label) → (Contains order (Port label) → has_port (ports_from (first + 1) order) label ≡ true) → (label_eq l label || has_port (ports_from (first + 1) order) label) ≡ true
    by (inl e) rest = let same : l ≡ label = cc in or_left (label_eq l label) (has_port (ports_from (first + 1) order) label) (subst (λ k. label_eq l k ≡ true) same (label_self l))
    by (inr d) rest = or_right (label_eq l label) (has_port (ports_from (first + 1) order) label) (rest d)
port-has first (Bound n ∷ order) label c = by (Contains-cons_cases (Bound n) order (Port label) c) (port-has (first + 1) order label)
  where
    by : (Bound n ≡ Port label) ⊎ Contains order (Port label) → (Contains order (Port label) → has_port (ports_from (first + 1) order) label ≡ true) → has_port (ports_from (first + 1) order) label ≡ true
    by (inl e) rest = cc
    by (inr d) rest = rest d

names_label-source : (own : ℕ) (lines : List Line) (label : Label) → names_label own lines label ≡ true → NamesLabel own lines label
names_label-source own lines label t = by (inserted-source origin_eq (flat_map (origins_of own) lines) [] (Port label) (port-source 0 (origins own lines) label t))
  where
    by : Contains [] (Port label) ⊎ Contains (flat_map (origins_of own) lines) (Port label) → NamesLabel own lines label
    by (inl none) = absurd (Contains-none (Port label) none)
    by (inr c) =
        let s = Contains-flat_map_source (origins_of own) lines (Port label) c in
        let r = Contains-flat_map_source (λ x. origin_of own x.base x.word) (sides s.0) (Port label) s.2 in
        let parts = begins_parts own label (r.0).base (r.0).word (origin-begins own label (r.0).base (r.0).word r.2) in
        (s.0, r.0, parts.0, s.1, HasSide-in_sides s.0 r.0 r.1, parts.1, parts.2)

names_label-has : (own : ℕ) (lines : List Line) (label : Label) → NamesLabel own lines label → names_label own lines label ≡ true
names_label-has own lines label (l, x, w, c, h, e, f) =
    port-has 0 (origins own lines) label
    (inserted-has origin_eq origin_equal (flat_map (origins_of own) lines) [] (Port label)
    (Contains-flat_map (origins_of own) lines l (Port label) c
    (Contains-flat_map (λ y. origin_of own y.base y.word) (sides l) x (Port label) (Contains-sides l x h) (origin-has own label x.base x.word w e f))))

-- the two ways to say that lines name a label are one
pub names_label-is : (own : ℕ) (lines : List Line) (label : Label) → list_any (line_names own label) lines ≡ names_label own lines label
names_label-is own lines label =
    same_truth (list_any (line_names own label) lines) (names_label own lines label)
    (λ t. names_label-has own lines label ((any_names-is own label lines).0 t))
    (λ t. (any_names-is own label lines).1 (names_label-source own lines label t))
