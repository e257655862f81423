-- What is known of the variables that lines name, and of shapes of lines that say less.
use Rattle.std.proofs.Common.{◌≡◌, ℕ, ◌<◌, ◌≤◌, ◌⊎◌, inl, inr, Bool, true, false, List, [], ◌∷◌, map, Contains, length, refl, sym, ap, subst, ◌∙◌, arith}
use Rattle.std.specs.Prelude.{filter, flat_map, cond}
use Rattle.std.proofs.lemmas.Bool.{cases_eq, cases_lt}
use Rattle.std.proofs.lemmas.List.{get_or_default}
use Rattle.std.proofs.lemmas.List.Elements.{Contains-append_left, Contains-append_right, Contains-append_cases}
use Rattle.rt_base.proofs.Lists.{Contains-none, Contains-here, Contains-there, Contains-cons_cases, Contains-map, Contains-map_source}
use Rattle.rt_lines.specs.declared.label.Label.{Label}
use Rattle.rt_lines.specs.declared.variable.Dtv.{Dtv}
use Rattle.rt_lines.specs.declared.line.Line.{Line}
use Rattle.rt_lines.specs.declared.line.Line.TheVariants.{Var, Same, Sub, Low, Up}
use Rattle.rt_lines.specs.Orders.{Below}
use Rattle.rt_rules.specs.Rules.{longer, HasSide, Derivable}
use Rattle.rt_rules.specs.Rules.Derivable.{named as by_name}
use Rattle.rt_rules.proofs.Carry.{given}
use Rattle.rt_rules.proofs.Covering.{derives_more, extended-nil, extended-cons, front}
use Rattle.rt_named.specs.Naming.{named as all_named}
use Rattle.rt_named.specs.Laws.{IsPrefix, IsGiven}
use Rattle.rt_named.specs.Origins.{no_variable}
use Rattle.rt_named.proofs.Contents.{contents_law, once_law}
use Rattle.rt_loose.specs.Laws.{flat_lines, is_sub}
use Rattle.rt_shape.specs.Graphs.{Graph}
use Rattle.rt_shape.specs.Shapes.{IsShapeOf}
use Rattle.rt_ways.specs.Inside.Frames.{HaveNodes, flattened_line}
use Rattle.rt_ways.specs.Pushes.{AreDistinct, variable_at}
use Rattle.rt_ways.proofs.Entering.{one_line}

pub distinct_named : (lines : List Line) → AreDistinct (all_named lines [])
distinct_named lines m n h k e = by (cases_eq m n) (cases_lt m n)
  where
    by : (m ≡ n) ⊎ (m ≡ n → ⊥) → (m < n) ⊎ (n ≤ m) → m ≡ n
    by (inl f) s = f
    by (inr d) (inl less) = absurd (once_law lines [] m n no_variable less k e)
    by (inr d) (inr more) = absurd (once_law lines [] n m no_variable (omega (arith, d, more)) h (sym e))

pub sides_named : (lines : List Line) (l : Line) (x : Dtv) → Contains lines l → HasSide l x → Contains (all_named lines []) x
sides_named lines l x c h = (contents_law lines [] x).1 (x, inl (l, c, h), ([], extended-nil x))

pub named_derives : (order : Below) (lines : List Line) (x : Dtv) → Contains (all_named lines []) x → Derivable order lines (Var x)
named_derives order lines x c = by ((contents_law lines [] x).0 c)
  where
    by : ((y : Dtv) × IsGiven lines [] y × IsPrefix x y) → Derivable order lines (Var x)
    by s = elim s.1 [
      | inl g ↦ front order lines x s.2.0 (subst (λ v. Derivable order lines (Var v)) (sym s.2.1) (by_name g.0 g.1 g.2))
      | inr d ↦ absurd (Contains-none s.0 d)
    ]

pub named_prefix : (lines : List Line) (x : Dtv) (l : Label) → Contains (all_named lines []) (longer x l) → Contains (all_named lines []) x
named_prefix lines x l c = by ((contents_law lines [] (longer x l)).0 c)
  where
    by : ((y : Dtv) × IsGiven lines [] y × IsPrefix (longer x l) y) → Contains (all_named lines []) x
    by s = (contents_law lines [] x).1 (s.0, s.1, (l ∷ s.2.0, sym (extended-cons x l s.2.0) ∙ s.2.1))

pub number_in : (xs : List Dtv) (x : Dtv) → Contains xs x → (n : ℕ) × (n < length xs) × (variable_at xs n ≡ x)
number_in xs x c = (c.0, c.1, get_or_default xs c.0 no_variable x c.1 ∙ c.2)

pub at_named : (xs : List Dtv) (n : ℕ) → n < length xs → Contains xs (variable_at xs n)
at_named xs n h = (n, h, get_or_default xs n (variable_at xs n) no_variable h)

-- members of filtered and joined lists
filter_has : (p : Line → Bool) (xs : List Line) (x : Line) → Contains xs x → p x ≡ true → Contains (filter p xs) x
filter_has p [] x c e = absurd (Contains-none x c)
filter_has p (y ∷ xs) x c e = by (p y) refl (Contains-cons_cases y xs x c) (λ d. filter_has p xs x d e)
  where
    by : (b : Bool) → p y ≡ b → (y ≡ x) ⊎ Contains xs x → (Contains xs x → Contains (filter p xs) x) → Contains (cond b (y ∷ filter p xs) (filter p xs)) x
    by true f (inl g) more = subst (Contains (y ∷ filter p xs)) g (Contains-here y (filter p xs))
    by true f (inr d) more = Contains-there y (filter p xs) x (more d)
    by false f (inl g) more = absurd (let h : true ≡ false = sym e ∙ ap p (sym g) ∙ f in cc)
    by false f (inr d) more = more d

filter_source : (p : Line → Bool) (xs : List Line) (x : Line) → Contains (filter p xs) x → Contains xs x × (p x ≡ true)
filter_source p [] x c = absurd (Contains-none x c)
filter_source p (y ∷ xs) x c = by (p y) refl c (λ d. (let r : Contains xs x × (p x ≡ true) = filter_source p xs x d in (Contains-there y xs x r.0, r.1)))
  where
    by : (b : Bool) → p y ≡ b → Contains (cond b (y ∷ filter p xs) (filter p xs)) x → (Contains (filter p xs) x → Contains (y ∷ xs) x × (p x ≡ true)) → Contains (y ∷ xs) x × (p x ≡ true)
    by true f d later = elim (Contains-cons_cases y (filter p xs) x d) [ inl g ↦ (subst (Contains (y ∷ xs)) g (Contains-here y xs), ap p (sym g) ∙ f) | inr h ↦ later h ]
    by false f d later = later d

joined_has : (f : Line → List Line) (xs : List Line) (x z : Line) → Contains xs x → Contains (f x) z → Contains (flat_map f xs) z
joined_has f [] x z c d = absurd (Contains-none x c)
joined_has f (y ∷ xs) x z c d = elim (Contains-cons_cases y xs x c) [
  | inl e ↦ Contains-append_left (f y) (flat_map f xs) z (subst (λ v. Contains (f v) z) (sym e) d)
  | inr h ↦ Contains-append_right (f y) (flat_map f xs) z (joined_has f xs x z h d)
]

joined_source : (f : Line → List Line) (xs : List Line) (z : Line) → Contains (flat_map f xs) z → (x : Line) × Contains xs x × Contains (f x) z
joined_source f [] z c = absurd (Contains-none z c)
joined_source f (y ∷ xs) z c = elim (Contains-append_cases (f y) (flat_map f xs) z c) [
  | inl d ↦ (y, Contains-here y xs, d)
  | inr d ↦ let r : (x : Line) × Contains xs x × Contains (f x) z = joined_source f xs z d in (r.0, Contains-there y xs r.0 r.1, r.2)
]

-- what the flat lines say, the lines say
flat_given : (order : Below) (lines : List Line) (l : Line) → Contains (flat_lines lines) l → Derivable order lines l
flat_given order lines l c = elim (Contains-append_cases (filter is_sub lines) (map (λ (x : Dtv). Var x) (all_named lines [])) l c) [
  | inl d ↦ given order lines l (filter_source is_sub lines l d).0
  | inr d ↦ (let s : (x : Dtv) × Contains (all_named lines []) x × (Var x ≡ l) = Contains-map_source (λ (x : Dtv). Var x) (all_named lines []) l d in
      subst (Derivable order lines) s.2 (named_derives order lines s.0 s.1))
]

pub flat_derives : (order : Below) (lines : List Line) {j : Line} → Derivable order (flat_lines lines) j → Derivable order lines j
flat_derives order lines d = derives_more order (flat_lines lines) lines (flat_given order lines) d

-- flattened lines and flat lines say the same
flat_var : (order : Below) (lines : List Line) (x : Dtv) → Contains (all_named lines []) x → Derivable order (flat_lines lines) (Var x)
flat_var order lines x c =
    given order (flat_lines lines) (Var x) (Contains-append_right (filter is_sub lines) (map (λ (y : Dtv). Var y) (all_named lines [])) (Var x) (Contains-map (λ (y : Dtv). Var y) (all_named lines []) x c))

flat_from : (order : Below) (lines : List Line) (k l : Line) → Contains lines k → Contains (flattened_line k) l → Derivable order (flat_lines lines) l
flat_from order lines (Var x) l c d = subst (Derivable order (flat_lines lines)) (one_line (Var x) l d) (flat_var order lines x (sides_named lines (Var x) x c refl))
flat_from order lines (Low k x) l c d = subst (Derivable order (flat_lines lines)) (one_line (Var x) l d) (flat_var order lines x (sides_named lines (Low k x) x c refl))
flat_from order lines (Up x k) l c d = subst (Derivable order (flat_lines lines)) (one_line (Var x) l d) (flat_var order lines x (sides_named lines (Up x k) x c refl))
flat_from order lines (Same x y) l c d = elim (Contains-cons_cases (Var x) (Var y ∷ []) l d) [
  | inl e ↦ subst (Derivable order (flat_lines lines)) e (flat_var order lines x (sides_named lines (Same x y) x c (inl refl)))
  | inr h ↦ subst (Derivable order (flat_lines lines)) (one_line (Var y) l h) (flat_var order lines y (sides_named lines (Same x y) y c (inr refl)))
]
flat_from order lines (Sub x y) l c d =
    subst (Derivable order (flat_lines lines)) (one_line (Sub x y) l d) (given order (flat_lines lines) (Sub x y)
    (Contains-append_left (filter is_sub lines) (map (λ (z : Dtv). Var z) (all_named lines [])) (Sub x y) (filter_has is_sub lines (Sub x y) c refl)))

module _ (order : Below) (lines : List Line) where
  abbrev flattened : List Line
  flattened = flat_map flattened_line lines

  in_flattened : (k l : Line) → Contains lines k → Contains (flattened_line k) l → Contains flattened l
  in_flattened k l c d = joined_has flattened_line lines k l c d

  side_derives : (k : Line) (y : Dtv) → Contains lines k → HasSide k y → Derivable order flattened (Var y)
  side_derives (Var x) y c e = by_name (Var x) (in_flattened (Var x) (Var x) c (Contains-here (Var x) [])) e
  side_derives (Low k x) y c e = by_name (Var x) (in_flattened (Low k x) (Var x) c (Contains-here (Var x) [])) e
  side_derives (Up x k) y c e = by_name (Var x) (in_flattened (Up x k) (Var x) c (Contains-here (Var x) [])) e
  side_derives (Same x z) y c (inl e) = by_name (Var x) (in_flattened (Same x z) (Var x) c (Contains-here (Var x) (Var z ∷ []))) e
  side_derives (Same x z) y c (inr e) = by_name (Var z) (in_flattened (Same x z) (Var z) c (Contains-there (Var x) (Var z ∷ []) (Var z) (Contains-here (Var z) []))) e
  side_derives (Sub x z) y c e = by_name (Sub x z) (in_flattened (Sub x z) (Sub x z) c (Contains-here (Sub x z) [])) e

  sub_in : (l : Line) → Contains lines l → is_sub l ≡ true → Contains flattened l
  sub_in (Var x) c e = absurd (cc)
  sub_in (Same x y) c e = absurd (cc)
  sub_in (Sub x y) c e = in_flattened (Sub x y) (Sub x y) c (Contains-here (Sub x y) [])
  sub_in (Low k x) c e = absurd (cc)
  sub_in (Up x k) c e = absurd (cc)

  var_in : (x : Dtv) → ((y : Dtv) × IsGiven lines [] y × IsPrefix x y) → Derivable order flattened (Var x)
  var_in x s = elim s.1 [
    | inl g ↦ front order flattened x s.2.0 (subst (λ v. Derivable order flattened (Var v)) (sym s.2.1) (side_derives g.0 s.0 g.1 g.2))
    | inr d ↦ absurd (Contains-none s.0 d)
  ]

  flat_to : (l : Line) → Contains (flat_lines lines) l → Derivable order flattened l
  flat_to l c = elim (Contains-append_cases (filter is_sub lines) (map (λ (x : Dtv). Var x) (all_named lines [])) l c) [
    | inl d ↦ (let r : Contains lines l × (is_sub l ≡ true) = filter_source is_sub lines l d in given order flattened l (sub_in l r.0 r.1))
    | inr d ↦ (let s : (x : Dtv) × Contains (all_named lines []) x × (Var x ≡ l) = Contains-map_source (λ (x : Dtv). Var x) (all_named lines []) l d in
        subst (Derivable order flattened) s.2 (var_in s.0 ((contents_law lines [] s.0).0 s.1)))
  ]

  from_flattened : {j : Line} → Derivable order flattened j → Derivable order (flat_lines lines) j
  from_flattened d = derives_more order flattened (flat_lines lines) (λ l c. (let s : (k : Line) × Contains lines k × Contains (flattened_line k) l = joined_source flattened_line lines l c in
      flat_from order lines s.0 l s.1 s.2)) d

  to_flattened : {j : Line} → Derivable order (flat_lines lines) j → Derivable order flattened j
  to_flattened d = derives_more order (flat_lines lines) flattened flat_to d

pub flat_shape : (lines : List Line) (graph : Graph) → IsShapeOf (flat_map flattened_line lines) graph → IsShapeOf (flat_lines lines) graph
flat_shape lines graph shape = record {
  there = λ order x. (λ h. from_flattened order lines ((shape.there order x).0 h), λ d. (shape.there order x).1 (to_flattened order lines d));
  one = λ order x y m n e f. (λ g. from_flattened order lines ((shape.one order x y m n e f).0 g), λ d. (shape.one order x y m n e f).1 (to_flattened order lines d));
}

abbrev pub no_order : Below
no_order = record { count = 0; cells = [] }

-- named variables have nodes
pub nodes_there : (lines : List Line) (graph : Graph) (known : List Dtv) → known ≡ all_named lines [] → IsShapeOf lines graph → HaveNodes graph known
nodes_there lines graph known e shape n h = (shape.there no_order (variable_at known n)).1 (named_derives no_order lines (variable_at known n) (subst (λ xs. Contains xs (variable_at known n)) e (at_named known n h)))

pub flat_nodes_there : (lines : List Line) (graph : Graph) (known : List Dtv) → known ≡ all_named lines [] → IsShapeOf (flat_lines lines) graph → HaveNodes graph known
flat_nodes_there lines graph known e shape n h = (shape.there no_order (variable_at known n)).1 (flat_var no_order lines (variable_at known n) (subst (λ xs. Contains xs (variable_at known n)) e (at_named known n h)))
