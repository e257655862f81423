-- The rows of an instance, as lines, are an instance by ports and new existentials.
use Rattle.std.proofs.Common.{◌≡◌, ℕ, ◌+◌, ◌<◌, ◌⊎◌, inl, inr, Bool, true, false, not, cond, nat_eq, if◌then◌else◌, Some, None, List}
use Rattle.std.proofs.Common.{[], ◌∷◌, ◌++◌, map, flat_map, Contains, refl, sym, ap, subst, ◌∙◌, eq-eqb, arith}
use Rattle.std.specs.List.{position_or_len}
use Rattle.std.proofs.lemmas.Bool.{eqb-true}
use Rattle.std.proofs.lemmas.Bool.Decides.{nat_tests}
use Rattle.rt_base.proofs.Lists.{Contains-none, Contains-here, Contains-cons_cases, Contains-map_source, map-map}
use Rattle.rt_base.proofs.Lists.{Contains-flat_map, position_or_len-one_to_one}
use Rattle.rt_lines.specs.declared.label.Label.{Label}
use Rattle.rt_lines.specs.declared.variable.Base.{Base}
use Rattle.rt_lines.specs.declared.variable.Base.TheVariants as base
use Rattle.rt_lines.specs.declared.variable.Dtv.{Dtv}
use Rattle.rt_lines.specs.declared.line.Line.{Line}
use Rattle.rt_lines.specs.declared.line.Line.TheVariants as line
use Rattle.rt_lines.specs.Orders.{Below}
use Rattle.rt_lines.specs.Sides.{map_line, sides}
use Rattle.rt_lines.proofs.Distinct.{inserted-has}
use Rattle.rt_lines.proofs.Equal.{label_equal}
use Rattle.rt_rules.specs.Rules.{HasSide}
use Rattle.rt_rules.specs.Alike.{Alike, is_inside_for}
use Rattle.rt_rules.specs.Laws.{NamesBase}
use Rattle.rt_rules.proofs.LineSides.{Contains-sides}
use Rattle.rt_scheme.specs.Schemes.{AreSchemeLines}
use Rattle.rt_scheme.specs.declared.origin.Origin.{Origin}
use Rattle.rt_scheme.specs.declared.origin.Origin.TheVariants.{Port, Bound}
use Rattle.rt_scheme.specs.contracts.origin.OriginEq.TheImpl.Laws as origin_laws
use Rattle.rt_scheme.specs.Instances.{instance_lines, instance_ports, instanced, instanced_side, number_of, origin_eq, origin_of}
use Rattle.rt_scheme.specs.Instances.{origins, origins_of, ports_from}
use Rattle.rt_scheme.specs.Ports.{label_at}
use Rattle.rt_rows.specs.declared.name.Name.{Name}
use Rattle.rt_rows.specs.declared.name.Name.TheVariants as name
use Rattle.rt_rows.specs.declared.row.Root.{Root}
use Rattle.rt_rows.specs.declared.row.Root.TheVariants as root
use Rattle.rt_rows.specs.declared.row.Term.{Term}
use Rattle.rt_rows.specs.declared.row.Row.{Row}
use Rattle.rt_rows.specs.declared.row.Row.TheVariants as row
use Rattle.rt_rows.specs.Terms.{HasRoot, NamesRoot}
use Rattle.rt_unfold.specs.Instances.{IsInstancing, instance_by, instance_side, instance_variable}
use Rattle.rt_unfold.specs.Unfolded.{new_name, new_row, new_term, rows_by}
use Rattle.rt_unfold.proofs.Instances.{instance_law}
use Rattle.rt_unfold.proofs.Mapping.{map-same}
use Rattle.rt_unfold.proofs.NameNumbers.{number, number-one}

-- Rows as lines, each existential with the number of its name.

abbrev pub base_by : Root → Base
base_by (root.Proc p) = base.Proc p
base_by (root.Global g) = base.Global g
base_by (root.Named x) = base.Exist (number x)
base_by (root.Outer n) = base.Outer n

abbrev pub variable_by : Term → Dtv
variable_by x = record { base = base_by x.root; word = x.word }

abbrev pub line_by : Row → Line
line_by (row.Var x) = line.Var (variable_by x)
line_by (row.Same x y) = line.Same (variable_by x) (variable_by y)
line_by (row.Sub x y) = line.Sub (variable_by x) (variable_by y)
line_by (row.Low k x) = line.Low k (variable_by x)
line_by (row.Up x k) = line.Up (variable_by x) k

-- a side of a row's line is of a root of the row
side-root : (r : Row) (x : Dtv) → HasSide (line_by r) x → (root : Root) × HasRoot r root × (base_by root ≡ x.base)
side-root (row.Var y) x e = (y.root, refl, ap (λ v. v.base) e)
side-root (row.Same y z) x (inl e) = (y.root, inl refl, ap (λ v. v.base) e)
side-root (row.Same y z) x (inr e) = (z.root, inr refl, ap (λ v. v.base) e)
side-root (row.Sub y z) x (inl e) = (y.root, inl refl, ap (λ v. v.base) e)
side-root (row.Sub y z) x (inr e) = (z.root, inr refl, ap (λ v. v.base) e)
side-root (row.Low k y) x e = (y.root, refl, ap (λ v. v.base) e)
side-root (row.Up y k) x e = (y.root, refl, ap (λ v. v.base) e)

pub base-root : (rows : List Row) (b : Base) → NamesBase (map line_by rows) b → (r : Root) × NamesRoot rows r × (base_by r ≡ b)
base-root rows b (l, x, c, h, e) =
    let s = Contains-map_source line_by rows l c in
    let t = side-root s.0 x (subst (λ m. HasSide m x) (sym s.2) h) in
    (t.0, (s.0, s.1, t.1), t.2 ∙ e)

root-exist : (r : Root) (n : ℕ) → base_by r ≡ base.Exist n → (x : Name) × (r ≡ root.Named x) × (number x ≡ n)
root-exist (root.Proc p) n e = cc
root-exist (root.Global g) n e = cc
root-exist (root.Named x) n e = (x, refl, same (number x) n e)
  where
    same : (m n : ℕ) → base.Exist m ≡ base.Exist n → m ≡ n
    same m n e = cc
root-exist (root.Outer m) n e = cc

root-proc : (r : Root) (p : ℕ) → base_by r ≡ base.Proc p → r ≡ root.Proc p
root-proc (root.Proc q) p e = let same : q ≡ p = cc in ap root.Proc same
root-proc (root.Global g) p e = cc
root-proc (root.Named x) p e = by (number x) e
  where
    by : (m : ℕ) → base.Exist m ≡ base.Proc p → root.Named x ≡ root.Proc p
    by m e = cc
root-proc (root.Outer m) p e = cc

-- Ports of what is instantiated.

pub origin_equal : (a b : Origin) → origin_eq a b ≡ true → a ≡ b
origin_equal (Port l) (Port k) e = ap Port (label_equal l k e)
origin_equal (Bound m) (Bound n) e = ap Bound (eqb-true m n e)
origin_equal (Port l) (Bound n) e = cc
origin_equal (Bound m) (Port k) e = cc

pub origin_self : (a : Origin) → origin_eq a a ≡ true
origin_self a = (origin_laws.laws-law).refl a

apart : (m n : ℕ) → m < n → nat_eq m n ≡ false
apart m n h = grind (arith, nat_tests)

label_at-below : (first : ℕ) (order : List Origin) (n : ℕ) → n < first → label_at (ports_from first order) n ≡ None
label_at-below first [] n h = refl
label_at-below first (Port l ∷ order) n h =
    let other : nat_eq first n ≡ false = grind (arith, nat_tests) in
    rw other (label_at-below (first + 1) order n (omega arith))
label_at-below first (Bound m ∷ order) n h = label_at-below (first + 1) order n (omega arith)

later : (a b : Origin) (order : List Origin) → Contains (b ∷ order) a → origin_eq a b ≡ false → Contains order a
later a b order c e = by (Contains-cons_cases b order a c)
  where
    by : (b ≡ a) ⊎ Contains order a → Contains order a
    by (inl f) = let t : origin_eq a b ≡ true = subst (λ o. origin_eq a o ≡ true) (sym f) (origin_self a) in absurd (let g : true ≡ false
        = sym t ∙ e in cc)
    by (inr d) = d

label_at-port : (first : ℕ) (order : List Origin) (l : Label) → Contains order (Port l)
    → label_at (ports_from first order) (first + position_or_len (origin_eq (Port l)) order) ≡ Some l
label_at-port first [] l c = absurd (Contains-none (Port l) c)
label_at-port first (Port m ∷ order) l c = by (origin_eq (Port l) (Port m)) refl (label_at-port (first + 1) order l)
  where
    by : (t : Bool) → origin_eq (Port l) (Port m) ≡ t
        → (Contains order (Port l) → label_at (ports_from (first + 1) order)
        (first + 1 + position_or_len (origin_eq (Port l)) order) ≡ Some l)
        → label_at ((m, first) ∷ ports_from (first + 1) order)
        (first + cond (not t) (1 + position_or_len (origin_eq (Port l)) order) 0) ≡ Some l
    by true e rest =
        let here : nat_eq first (first + 0) ≡ true = eq-eqb first (first + 0) (omega arith) in
        let same : m ≡ l = sym (label_equal l m e) in
        rw here (ap Some same)
    by false e rest =
        let deeper = rest (later (Port l) (Port m) order c e) in
        let other : nat_eq first (first + (1 + position_or_len (origin_eq (Port l)) order)) ≡ false =
        apart first (first + (1 + position_or_len (origin_eq (Port l)) order)) (omega arith) in
        let place : first + 1 + position_or_len (origin_eq (Port l)) order ≡ first + (1 + position_or_len (origin_eq (Port l)) order) =
        omega arith in
        rw other (subst (λ n. label_at (ports_from (first + 1) order) n ≡ Some l) place deeper)
label_at-port first (Bound m ∷ order) l c = by (origin_eq (Port l) (Bound m)) refl (label_at-port (first + 1) order l)
  where
    by : (t : Bool) → origin_eq (Port l) (Bound m) ≡ t
        → (Contains order (Port l) → label_at (ports_from (first + 1) order)
        (first + 1 + position_or_len (origin_eq (Port l)) order) ≡ Some l)
        → label_at (ports_from (first + 1) order) (first + cond (not t) (1 + position_or_len (origin_eq (Port l)) order) 0) ≡ Some l
    by true e rest = let same : Port l ≡ Bound m = origin_equal (Port l) (Bound m) e in cc
    by false e rest =
        let deeper = rest (later (Port l) (Bound m) order c e) in
        let place : first + 1 + position_or_len (origin_eq (Port l)) order ≡ first + (1 + position_or_len (origin_eq (Port l)) order) =
        omega arith in
        subst (λ n. label_at (ports_from (first + 1) order) n ≡ Some l) place deeper

label_at-bound : (first : ℕ) (order : List Origin) (n : ℕ) → Contains order (Bound n)
    → label_at (ports_from first order) (first + position_or_len (origin_eq (Bound n)) order) ≡ None
label_at-bound first [] n c = absurd (Contains-none (Bound n) c)
label_at-bound first (Port m ∷ order) n c = by (origin_eq (Bound n) (Port m)) refl (label_at-bound (first + 1) order n)
  where
    by : (t : Bool) → origin_eq (Bound n) (Port m) ≡ t
        → (Contains order (Bound n) → label_at (ports_from (first + 1) order)
        (first + 1 + position_or_len (origin_eq (Bound n)) order) ≡ None)
        → label_at ((m, first) ∷ ports_from (first + 1) order)
        (first + cond (not t) (1 + position_or_len (origin_eq (Bound n)) order) 0) ≡ None
    by true e rest = let same : Bound n ≡ Port m = origin_equal (Bound n) (Port m) e in cc
    by false e rest =
        let deeper = rest (later (Bound n) (Port m) order c e) in
        let other : nat_eq first (first + (1 + position_or_len (origin_eq (Bound n)) order)) ≡ false =
        apart first (first + (1 + position_or_len (origin_eq (Bound n)) order)) (omega arith) in
        let place : first + 1 + position_or_len (origin_eq (Bound n)) order ≡ first + (1 + position_or_len (origin_eq (Bound n)) order) =
        omega arith in
        rw other (subst (λ k. label_at (ports_from (first + 1) order) k ≡ None) place deeper)
label_at-bound first (Bound m ∷ order) n c = by (origin_eq (Bound n) (Bound m)) refl (label_at-bound (first + 1) order n)
  where
    by : (t : Bool) → origin_eq (Bound n) (Bound m) ≡ t
        → (Contains order (Bound n) → label_at (ports_from (first + 1) order)
        (first + 1 + position_or_len (origin_eq (Bound n)) order) ≡ None)
        → label_at (ports_from (first + 1) order) (first + cond (not t) (1 + position_or_len (origin_eq (Bound n)) order) 0) ≡ None
    by true e rest = label_at-below (first + 1) order (first + 0) (omega arith)
    by false e rest =
        let deeper = rest (later (Bound n) (Bound m) order c e) in
        let place : first + 1 + position_or_len (origin_eq (Bound n)) order ≡ first + (1 + position_or_len (origin_eq (Bound n)) order) =
        omega arith in
        subst (λ k. label_at (ports_from (first + 1) order) k ≡ None) place deeper

-- The instance by a call.

module _ (procedure site i own : ℕ) (lines : List Line) where
  abbrev order_of : List Origin
  order_of = origins own lines

  abbrev ports : List (Label × ℕ)
  ports = instance_ports own lines 0

  abbrev pub port : Label → ℕ
  port l = number (name.Port procedure site i l)

  abbrev pub new : ℕ → ℕ
  new n = number (name.Inner procedure site i (number_of 0 order_of (Bound n)))

  origins-has : (l : Line) (x : Dtv) (a : Origin) → Contains lines l → HasSide l x → Contains (origin_of own x.base x.word) a
      → Contains order_of a
  origins-has l x a c h d =
      inserted-has origin_eq origin_equal (flat_map (origins_of own) lines) [] a
      (Contains-flat_map (origins_of own) lines l a c
      (Contains-flat_map (λ y. origin_of own y.base y.word) (sides l) x a (Contains-sides l x h) d))

  side_at : (b : Base) (w : List Label) → ((a : Origin) → Contains (origin_of own b w) a → Contains order_of a) →
      variable_by (new_term procedure site i ports (instanced_side own 0 order_of b w)) ≡ instance_side own port new b w
  side_at (base.Proc n) [] h = refl
  side_at (base.Proc n) (l ∷ w) h = by (nat_eq n own) h
    where
      by : (t : Bool) → ((a : Origin) → Contains (if t then Port l ∷ [] else []) a → Contains order_of a) →
          variable_by (new_term procedure site i ports
          (if t then record { base = base.Exist (number_of 0 order_of (Port l)); word = w } else record
          { base = base.Proc n; word = l ∷ w }))
          ≡ (if t then record { base = base.Exist (port l); word = w } else record { base = base.Proc n; word = l ∷ w })
      by true g = ap (λ o. record { base = base.Exist (number (new_name procedure site i (number_of 0 order_of (Port l)) o)); word = w })
          (label_at-port 0 order_of l (g (Port l) (Contains-here (Port l) [])))
      by false g = refl
  side_at (base.Global n) w h = refl
  side_at (base.Exist n) w h = ap (λ o. record
      { base = base.Exist (number (new_name procedure site i (number_of 0 order_of (Bound n)) o)); word = w })
      (label_at-bound 0 order_of n (h (Bound n) (Contains-here (Bound n) [])))
  side_at (base.Outer n) w h = refl

  side : (l : Line) (x : Dtv) → Contains lines l → HasSide l x
      → variable_by (new_term procedure site i ports (instanced own 0 order_of x)) ≡ instance_variable own port new x
  side l x c h = side_at x.base x.word (λ a d. origins-has l x a c h d)

  line_at : (l : Line) → ((x : Dtv) → HasSide l x
      → variable_by (new_term procedure site i ports (instanced own 0 order_of x)) ≡ instance_variable own port new x) →
      line_by (new_row procedure site i ports (map_line (instanced own 0 order_of) l)) ≡ map_line (instance_variable own port new) l
  line_at (line.Var x) h = ap line.Var (h x refl)
  line_at (line.Same x y) h = (λ j. line.Same (h x (inl refl) j) (h y (inr refl) j))
  line_at (line.Sub x y) h = (λ j. line.Sub (h x (inl refl) j) (h y (inr refl) j))
  line_at (line.Low k x) h = ap (line.Low k) (h x refl)
  line_at (line.Up x k) h = ap (λ y. line.Up y k) (h x refl)

  pub rows-are : map line_by (rows_by procedure site i own lines) ≡ instance_by own port new lines
  rows-are =
      map-map (new_row procedure site i ports) line_by (instance_lines own lines 0)
      ∙ (map-map (map_line (instanced own 0 order_of)) (λ l. line_by (new_row procedure site i ports l)) lines
      ∙ map-same (λ l. line_by (new_row procedure site i ports (map_line (instanced own 0 order_of) l)))
      (map_line (instance_variable own port new)) lines (λ l c. line_at l (λ x h. side l x c h)))

  bound-has : (n : ℕ) → NamesBase lines (base.Exist n) → Contains order_of (Bound n)
  bound-has n (l, x, c, h, e) = origins-has l x (Bound n) c h
      (subst (λ b. Contains (origin_of own b x.word) (Bound n)) (sym e) (Contains-here (Bound n) []))

  same_port : (p q s t j k : ℕ) (l m : Label) → name.Port p s j l ≡ name.Port q t k m → l ≡ m
  same_port p q s t j k l m e = cc

  same_inner : (p q s t j k m n : ℕ) → name.Inner p s j m ≡ name.Inner q t k n → m ≡ n
  same_inner p q s t j k m n e = cc

  no_name : (p q s t j k n : ℕ) (l : Label) → name.Inner p s j n ≡ name.Port q t k l → ⊥
  no_name p q s t j k n l e = cc

  same_bound : (m n : ℕ) → Bound m ≡ Bound n → m ≡ n
  same_bound m n e = cc

  -- beside rows that name none of its inner existentials
  pub rows_instancing : (rest : List Row) → ((n : ℕ) → NamesRoot rest (root.Named (name.Inner procedure site i n)) → ⊥)
      → IsInstancing port lines (map line_by rest) new
  rows_instancing rest free = record {
    one_port = λ l m e. same_port procedure procedure site site i i l m
        (number-one (name.Port procedure site i l) (name.Port procedure site i m) e);
    one_new = λ m n c d e.
        let places : number_of 0 order_of (Bound m) ≡ number_of 0 order_of (Bound n) =
        same_inner procedure procedure site site i i (number_of 0 order_of (Bound m)) (number_of 0 order_of (Bound n))
        (number-one (name.Inner procedure site i (number_of 0 order_of (Bound m)))
        (name.Inner procedure site i (number_of 0 order_of (Bound n))) e) in
        same_bound m n (position_or_len-one_to_one origin_eq origin_equal origin_self order_of (Bound m) (Bound n) (bound-has m c)
        (bound-has n d) (omega arith));
    no_port = λ n l c e. no_name procedure procedure site site i i (number_of 0 order_of (Bound n)) l
        (number-one (name.Inner procedure site i (number_of 0 order_of (Bound n))) (name.Port procedure site i l) e);
    unnamed = λ n c d.
        let s = base-root rest (base.Exist (new n)) d in
        let t = root-exist s.0 (new n) s.2 in
        free (number_of 0 order_of (Bound n))
        (subst (NamesRoot rest) (t.1 ∙ ap root.Named
        (number-one t.0 (name.Inner procedure site i (number_of 0 order_of (Bound n))) t.2)) s.1);
  }

-- An instance of one of two lists alike for their procedure may stand for that of the other, beside rows that name neither the procedure
-- nor an inner existential of the instance.
pub exchange_rows : (order : Below) (inside : Base → Bool) (procedure site i own : ℕ) (first second : List Line) (rest : List Row) →
    AreSchemeLines own first → AreSchemeLines own second → Alike order (is_inside_for own) first second →
    inside (base.Proc own) ≡ true → ((n : ℕ) → inside (base.Exist n) ≡ true) → (NamesRoot rest (root.Proc own) → ⊥) →
    ((n : ℕ) → NamesRoot rest (root.Named (name.Inner procedure site i n)) → ⊥) →
    Alike order inside (map line_by rest ++ map line_by (rows_by procedure site i own first))
    (map line_by rest ++ map line_by (rows_by procedure site i own second))
exchange_rows order inside procedure site i own first second rest fit_first fit_second alike own_inside all_inside own_unnamed free =
    subst (λ lines. Alike order inside (map line_by rest ++ lines)
    (map line_by rest ++ map line_by (rows_by procedure site i own second))) (sym (rows-are procedure site i own first))
    (subst (λ lines. Alike order inside
    (map line_by rest ++ instance_by own (port procedure site i own first) (new procedure site i own first) first)
    (map line_by rest ++ lines)) (sym (rows-are procedure site i own second))
    (instance_law order inside own (port procedure site i own first) first second (map line_by rest) (new procedure site i own first)
    (new procedure site i own second) fit_first fit_second alike
    (rows_instancing procedure site i own first rest free) (rows_instancing procedure site i own second rest free) own_inside all_inside
    (λ names. let s = base-root rest (base.Proc own) names in own_unnamed (subst (NamesRoot rest) (root-proc s.0 own s.2) s.1))))
