-- Items whose instances are filled: whose rows they are, and the exchange of instances, one after the other.
use Rattle.std.proofs.Common.{◌≡◌, ℕ, ◌⊎◌, inl, inr, Bool, true, false, ◌&&◌, ◌||◌, nat_eq, if◌then◌else◌, Option, Some, None, List, []}
use Rattle.std.proofs.Common.{◌∷◌, ◌++◌, map, flat_map, Contains, refl, sym, ap, subst, ◌∙◌, eq-eqb, true≢false}
use Rattle.std.specs.List.{list_any}
use Rattle.std.proofs.lemmas.Bool.{and_from, and_parts, eqb-true, or_left}
use Rattle.std.proofs.lemmas.List.{map-append}
use Rattle.std.proofs.lemmas.List.Elements.{Contains-append_left, Contains-append_right, Contains-append_cases}
use Rattle.rt_base.proofs.Lists.{Contains-none, Contains-here, Contains-there, Contains-cons_cases, Contains-map, Contains-map_source}
use Rattle.rt_base.proofs.Lists.{Contains-flat_map, Contains-flat_map_source, list_any-from}
use Rattle.rt_lines.specs.declared.label.Label.{Label}
use Rattle.rt_lines.specs.declared.variable.Base.{Base}
use Rattle.rt_lines.specs.declared.variable.Base.TheVariants as base
use Rattle.rt_lines.specs.declared.variable.Dtv.{Dtv}
use Rattle.rt_lines.specs.declared.line.Line.{Line}
use Rattle.rt_lines.specs.declared.line.Line.TheVariants as line
use Rattle.rt_lines.specs.Orders.{Below}
use Rattle.rt_lines.specs.Sides.{map_line}
use Rattle.rt_rules.specs.Rules.{HasSide}
use Rattle.rt_rules.specs.Alike.{Alike, is_inside_for}
use Rattle.rt_rules.proofs.Carry.{given}
use Rattle.rt_rules.proofs.Covering.{Alike-refl, Alike-sym, Alike-trans, exchange}
use Rattle.rt_rules.proofs.LineSides.{HasSide-map_line_source}
use Rattle.rt_scheme.specs.Schemes.{AreSchemeLines, is_interface, is_scheme_side}
use Rattle.rt_scheme.specs.declared.origin.Origin.{Origin}
use Rattle.rt_scheme.specs.declared.origin.Origin.TheVariants as origin
use Rattle.rt_scheme.specs.Instances.{instance_lines, instance_ports, instanced, instanced_side, number_of, origins}
use Rattle.rt_scheme.specs.Ports.{label_at}
use Rattle.rt_rows.specs.declared.name.Name.{Name}
use Rattle.rt_rows.specs.declared.name.Name.TheVariants as name
use Rattle.rt_rows.specs.declared.row.Root.{Root}
use Rattle.rt_rows.specs.declared.row.Root.TheVariants as root
use Rattle.rt_rows.specs.declared.row.Row.{Row}
use Rattle.rt_rows.specs.Terms.{HasRoot, NamesRoot}
use Rattle.rt_unfold.specs.Unfolded.{Item, Plain, Instance, Called, Outside, Given, Nothing, Template, called_rows, filled, lines_with}
use Rattle.rt_unfold.specs.Unfolded.{new_name, new_root, new_row, rows_by, template_rows}
use Rattle.rt_unfold.proofs.Instances.{scheme_lines-side}
use Rattle.rt_unfold.proofs.InstanceRows.{exchange_rows, line_by}
use Rattle.rt_unfold.proofs.OneNumbering.{one_numbering}

-- Keys: a call of a procedure's site.

pub record Key : Type 0 where
  pub procedure : ℕ
  pub site : ℕ
  pub call : ℕ

abbrev pub key : ℕ → ℕ → ℕ → Key
key p site i = record { procedure = p; site = site; call = i }

abbrev pub key_eq : Key → Key → Bool
key_eq a b = nat_eq a.procedure b.procedure && (nat_eq a.site b.site && nat_eq a.call b.call)

key_equal : (a b : Key) → key_eq a b ≡ true → a ≡ b
key_equal a b e =
    let first = and_parts (nat_eq a.procedure b.procedure) (nat_eq a.site b.site && nat_eq a.call b.call) e in
    let rest = and_parts (nat_eq a.site b.site) (nat_eq a.call b.call) first.1 in
    let procedures : a.procedure ≡ b.procedure = eqb-true a.procedure b.procedure first.0 in
    let sites : a.site ≡ b.site = eqb-true a.site b.site rest.0 in
    let calls : a.call ≡ b.call = eqb-true a.call b.call rest.1 in
    λ i. record { procedure = procedures i; site = sites i; call = calls i }

key_self : (a : Key) → key_eq a a ≡ true
key_self a =
    and_from (nat_eq a.procedure a.procedure) (nat_eq a.site a.site && nat_eq a.call a.call) (eq-eqb a.procedure a.procedure refl)
    (and_from (nat_eq a.site a.site) (nat_eq a.call a.call) (eq-eqb a.site a.site refl) (eq-eqb a.call a.call refl))

-- The rows of filled items.

pub filled-source : (f : ℕ → ℕ → List Row) (items : List Item) (r : Row) → Contains (filled f items) r →
    Contains items (Plain r) ⊎ ((site : ℕ) × (i : ℕ) × Contains items (Instance site i) × Contains (f site i) r)
filled-source f [] r c = absurd (Contains-none r c)
filled-source f (Plain x ∷ items) r c = by (Contains-cons_cases x (filled f items) r c) (filled-source f items r)
  where
    more : Contains items (Plain r) ⊎ ((site : ℕ) × (i : ℕ) × Contains items (Instance site i) × Contains (f site i) r) →
        Contains (Plain x ∷ items) (Plain r) ⊎ ((site : ℕ) × (i : ℕ) × Contains (Plain x ∷ items) (Instance site i) × Contains (f site i) r)
    more (inl d) = inl (Contains-there (Plain x) items (Plain r) d)
    more (inr (site, i, d, e)) = inr (site, i, Contains-there (Plain x) items (Instance site i) d, e)

    by : (x ≡ r) ⊎ Contains (filled f items) r →
        (Contains (filled f items) r → Contains items (Plain r)
        ⊎ ((site : ℕ) × (i : ℕ) × Contains items (Instance site i) × Contains (f site i) r)) →
        Contains (Plain x ∷ items) (Plain r) ⊎ ((site : ℕ) × (i : ℕ) × Contains (Plain x ∷ items) (Instance site i) × Contains (f site i) r)
    by (inl e) rest = inl (subst (λ y. Contains (Plain x ∷ items) (Plain y)) e (Contains-here (Plain x) items))
    by (inr d) rest = more (rest d)
filled-source f (Instance s j ∷ items) r c = by (Contains-append_cases (f s j) (filled f items) r c) (filled-source f items r)
  where
    more : Contains items (Plain r) ⊎ ((site : ℕ) × (i : ℕ) × Contains items (Instance site i) × Contains (f site i) r) →
        Contains (Instance s j ∷ items) (Plain r)
        ⊎ ((site : ℕ) × (i : ℕ) × Contains (Instance s j ∷ items) (Instance site i) × Contains (f site i) r)
    more (inl d) = inl (Contains-there (Instance s j) items (Plain r) d)
    more (inr (site, i, d, e)) = inr (site, i, Contains-there (Instance s j) items (Instance site i) d, e)

    by : Contains (f s j) r ⊎ Contains (filled f items) r →
        (Contains (filled f items) r → Contains items (Plain r)
        ⊎ ((site : ℕ) × (i : ℕ) × Contains items (Instance site i) × Contains (f site i) r)) →
        Contains (Instance s j ∷ items) (Plain r)
        ⊎ ((site : ℕ) × (i : ℕ) × Contains (Instance s j ∷ items) (Instance site i) × Contains (f site i) r)
    by (inl d) rest = inr (s, j, Contains-here (Instance s j) items, d)
    by (inr d) rest = more (rest d)

same_row : (x r : Row) → Plain x ≡ Plain r → x ≡ r
same_row x r e = by (Plain r) e
  where
    row_of : Item → Row
    row_of (Plain y) = y
    row_of (Instance s j) = x

    by : (item : Item) → Plain x ≡ item → x ≡ row_of item
    by item f = ap row_of f

filled-plain : (f : ℕ → ℕ → List Row) (items : List Item) (r : Row) → Contains items (Plain r) → Contains (filled f items) r
filled-plain f [] r c = absurd (Contains-none (Plain r) c)
filled-plain f (Plain x ∷ items) r c = by (Contains-cons_cases (Plain x) items (Plain r) c) (filled-plain f items r)
  where
    by : (Plain x ≡ Plain r) ⊎ Contains items (Plain r) → (Contains items (Plain r) → Contains (filled f items) r)
        → Contains (x ∷ filled f items) r
    by (inl e) rest = subst (Contains (x ∷ filled f items)) (same_row x r e) (Contains-here x (filled f items))
    by (inr d) rest = Contains-there x (filled f items) r (rest d)
filled-plain f (Instance s j ∷ items) r c = by (Contains-cons_cases (Instance s j) items (Plain r) c) (filled-plain f items r)
  where
    by : (Instance s j ≡ Plain r) ⊎ Contains items (Plain r) → (Contains items (Plain r) → Contains (filled f items) r)
        → Contains (f s j ++ filled f items) r
    by (inl e) rest = cc
    by (inr d) rest = Contains-append_right (f s j) (filled f items) r (rest d)

filled-instance : (f : ℕ → ℕ → List Row) (items : List Item) (site i : ℕ) (r : Row) → Contains items (Instance site i)
    → Contains (f site i) r → Contains (filled f items) r
filled-instance f [] site i r c d = absurd (Contains-none (Instance site i) c)
filled-instance f (Plain x ∷ items) site i r c d =
    by (Contains-cons_cases (Plain x) items (Instance site i) c) (λ e. filled-instance f items site i r e d)
  where
    by : (Plain x ≡ Instance site i) ⊎ Contains items (Instance site i)
        → (Contains items (Instance site i) → Contains (filled f items) r) → Contains (x ∷ filled f items) r
    by (inl e) rest = cc
    by (inr e) rest = Contains-there x (filled f items) r (rest e)
filled-instance f (Instance s j ∷ items) site i r c d =
    by (Contains-cons_cases (Instance s j) items (Instance site i) c) (λ e. filled-instance f items site i r e d)
  where
    by : (Instance s j ≡ Instance site i) ⊎ Contains items (Instance site i)
        → (Contains items (Instance site i) → Contains (filled f items) r) → Contains (f s j ++ filled f items) r
    by (inl e) rest =
        let sites : site ≡ s = cc in
        let calls : i ≡ j = cc in
        Contains-append_left (f s j) (filled f items) r (subst (λ k. Contains (f s k) r) calls (subst (λ t. Contains (f t i) r) sites d))
    by (inr e) rest = Contains-append_right (f s j) (filled f items) r (rest e)

-- The roots of an instance's rows: globals, and names of the instance.

abbrev pub IsInstanceName : ℕ → ℕ → ℕ → Name → Type 0
IsInstanceName p site i (name.Definition q s r) = ⊥
IsInstanceName p site i (name.Merge q s r) = ⊥
IsInstanceName p site i (name.Object q k) = ⊥
IsInstanceName p site i (name.Port q s j l) = (q ≡ p) × (s ≡ site) × (j ≡ i)
IsInstanceName p site i (name.Inner q s j n) = (q ≡ p) × (s ≡ site) × (j ≡ i)
IsInstanceName p site i (name.Result q s j) = ⊥

abbrev pub IsInstanceRoot : ℕ → ℕ → ℕ → Root → Type 0
IsInstanceRoot p site i (root.Proc q) = ⊥
IsInstanceRoot p site i (root.Global g) = Unit {0}
IsInstanceRoot p site i (root.Named x) = IsInstanceName p site i x
IsInstanceRoot p site i (root.Outer n) = ⊥

named-instance : (p site i n : ℕ) (o : Option Label) → IsInstanceRoot p site i (root.Named (new_name p site i n o))
named-instance p site i n (Some l) = (refl, refl, refl)
named-instance p site i n None = (refl, refl, refl)

side_root : (p site i : ℕ) (ports : List (Label × ℕ)) (l : Line) (s : Root) → HasRoot (new_row p site i ports l) s → (x : Dtv)
    × HasSide l x × (new_root p site i ports x.base ≡ s)
side_root p site i ports (line.Var x) s h = (x, refl, h)
side_root p site i ports (line.Same x y) s (inl h) = (x, inl refl, h)
side_root p site i ports (line.Same x y) s (inr h) = (y, inr refl, h)
side_root p site i ports (line.Sub x y) s (inl h) = (x, inl refl, h)
side_root p site i ports (line.Sub x y) s (inr h) = (y, inr refl, h)
side_root p site i ports (line.Low k x) s h = (x, refl, h)
side_root p site i ports (line.Up x k) s h = (x, refl, h)

abbrev base_of : Dtv → Base
base_of x = x.base

scheme_root : (p site i own : ℕ) (ports : List (Label × ℕ)) (order : List Origin) (b : Base) (w : List Label)
    → is_scheme_side own b w ≡ true →
    IsInstanceRoot p site i (new_root p site i ports (instanced_side own 0 order b w).base)
scheme_root p site i own ports order (base.Proc n) [] h = absurd (true≢false (sym (and_parts (nat_eq n own) false h).1))
scheme_root p site i own ports order (base.Proc n) (l ∷ w) h = by (nat_eq n own) (and_parts (nat_eq n own) (is_interface (l ∷ w)) h).0
  where
    by : (t : Bool) → t ≡ true →
        IsInstanceRoot p site i (new_root p site i ports
        (base_of (if t then record { base = base.Exist (number_of 0 order (origin.Port l)); word = w } else record
        { base = base.Proc n; word = l ∷ w })))
    by true e = named-instance p site i (number_of 0 order (origin.Port l)) (label_at ports (number_of 0 order (origin.Port l)))
    by false e = cc
scheme_root p site i own ports order (base.Global n) w h = tt
scheme_root p site i own ports order (base.Exist n) w h =
    named-instance p site i (number_of 0 order (origin.Bound n)) (label_at ports (number_of 0 order (origin.Bound n)))
scheme_root p site i own ports order (base.Outer n) w h = cc

pub instance-root : (p site i own : ℕ) (lines : List Line) (r : Row) (s : Root) → AreSchemeLines own lines
    → Contains (rows_by p site i own lines) r → HasRoot r s → IsInstanceRoot p site i s
instance-root p site i own lines r s fit c h =
    let ports = instance_ports own lines 0 in
    let order = origins own lines in
    let a = Contains-map_source (new_row p site i ports) (instance_lines own lines 0) r c in
    let b = Contains-map_source (map_line (instanced own 0 order)) lines a.0 a.1 in
    let d = side_root p site i ports a.0 s (subst (λ x. HasRoot x s) (sym a.2) h) in
    let e = HasSide-map_line_source (instanced own 0 order) b.0 d.0 (subst (λ l. HasSide l d.0) (sym b.2) d.1) in
    subst (IsInstanceRoot p site i) (ap (λ x. new_root p site i ports x.base) e.2 ∙ d.2)
    (scheme_root p site i own ports order (e.0).base (e.0).word (scheme_lines-side own lines b.0 e.0 fit b.1 e.1))

pub called-root : (lines_of : ℕ → List Line) (p site i : ℕ) (called : Called) (r : Row) (s : Root) →
    ((q : ℕ) → called ≡ Outside q → AreSchemeLines q (lines_of q))
    → ((own : ℕ) (lines : List Line) → called ≡ Given own lines → AreSchemeLines own lines) →
    Contains (called_rows lines_of p site i called) r → HasRoot r s → IsInstanceRoot p site i s
called-root lines_of p site i (Outside q) r s outer given c h = instance-root p site i q (lines_of q) r s (outer q refl) c h
called-root lines_of p site i (Given own lines) r s outer given c h = instance-root p site i own lines r s (given own lines refl) c h
called-root lines_of p site i Nothing r s outer given c h = absurd (Contains-none r c)

-- Keys of items.

abbrev keys_of : ℕ → List Item → List Key
keys_of p [] = []
keys_of p (Plain x ∷ items) = keys_of p items
keys_of p (Instance site i ∷ items) = key p site i ∷ keys_of p items

keys-has : (p : ℕ) (items : List Item) (site i : ℕ) → Contains items (Instance site i) → Contains (keys_of p items) (key p site i)
keys-has p [] site i c = absurd (Contains-none (Instance site i) c)
keys-has p (Plain x ∷ items) site i c = by (Contains-cons_cases (Plain x) items (Instance site i) c) (keys-has p items site i)
  where
    by : (Plain x ≡ Instance site i) ⊎ Contains items (Instance site i)
        → (Contains items (Instance site i) → Contains (keys_of p items) (key p site i)) → Contains (keys_of p items) (key p site i)
    by (inl e) rest = cc
    by (inr d) rest = rest d
keys-has p (Instance s j ∷ items) site i c = by (Contains-cons_cases (Instance s j) items (Instance site i) c) (keys-has p items site i)
  where
    by : (Instance s j ≡ Instance site i) ⊎ Contains items (Instance site i)
        → (Contains items (Instance site i) → Contains (keys_of p items) (key p site i))
        → Contains (key p s j ∷ keys_of p items) (key p site i)
    by (inl e) rest =
        let sites : s ≡ site = cc in
        let calls : j ≡ i = cc in
        subst (λ (k : Key). Contains (key p s j ∷ keys_of p items) k) (λ t. key p (sites t) (calls t))
        (Contains-here (key p s j) (keys_of p items))
    by (inr d) rest = Contains-there (key p s j) (keys_of p items) (key p site i) (rest d)

keys-source : (p : ℕ) (items : List Item) (k : Key) → Contains (keys_of p items) k → (k.procedure ≡ p)
    × Contains items (Instance k.site k.call)
keys-source p [] k c = absurd (Contains-none k c)
keys-source p (Plain x ∷ items) k c = let s = keys-source p items k c in (s.0, Contains-there (Plain x) items (Instance k.site k.call) s.1)
keys-source p (Instance site i ∷ items) k c = by (Contains-cons_cases (key p site i) (keys_of p items) k c) (keys-source p items k)
  where
    by : (key p site i ≡ k) ⊎ Contains (keys_of p items) k
        → (Contains (keys_of p items) k → (k.procedure ≡ p) × Contains items (Instance k.site k.call)) → (k.procedure ≡ p)
        × Contains (Instance site i ∷ items) (Instance k.site k.call)
    by (inl e) rest = subst (λ (j : Key). (j.procedure ≡ p) × Contains (Instance site i ∷ items) (Instance j.site j.call)) e
        (refl, Contains-here (Instance site i) items)
    by (inr d) rest = let s = rest d in (s.0, Contains-there (Instance site i) items (Instance k.site k.call) s.1)

-- some keys before others, in whatever order
abbrev add : List Key → List Key → List Key
add [] done = done
add (k ∷ ks) done = add ks (k ∷ done)

add-keeps : (ks done : List Key) (k : Key) → Contains done k → Contains (add ks done) k
add-keeps [] done k c = c
add-keeps (j ∷ ks) done k c = add-keeps ks (j ∷ done) k (Contains-there j done k c)

add-has : (ks done : List Key) (k : Key) → Contains ks k → Contains (add ks done) k
add-has [] done k c = absurd (Contains-none k c)
add-has (j ∷ ks) done k c = by (Contains-cons_cases j ks k c) (add-has ks (j ∷ done) k)
  where
    by : (j ≡ k) ⊎ Contains ks k → (Contains ks k → Contains (add ks (j ∷ done)) k) → Contains (add ks (j ∷ done)) k
    by (inl e) rest = add-keeps ks (j ∷ done) k (subst (Contains (j ∷ done)) e (Contains-here j done))
    by (inr d) rest = rest d

flat_map-map : {X Y : Type 0} (f : X → List Y) (xs : List X) → flat_map (λ ys. ys) (map f xs) ≡ flat_map f xs
flat_map-map f [] = refl
flat_map-map f (x ∷ xs) = ap (λ ys. f x ++ ys) (flat_map-map f xs)

-- The rows of a group's members.

module _ (templates : ℕ → Template) (group : List ℕ) where
  -- what is in the place of each instance
  abbrev pub Filling : Type 0
  Filling = ℕ → ℕ → ℕ → List Row

  abbrev pub group_rows : Filling → List Row
  group_rows g = flat_map (λ p. filled (g p) (templates p).items) group

  -- a key of one of the instances
  abbrev pub IsKey : Key → Type 0
  IsKey k = Contains group k.procedure × Contains (templates k.procedure).items (Instance k.site k.call)

  abbrev IsPlain : Row → Type 0
  IsPlain r = (p : ℕ) × Contains group p × Contains (templates p).items (Plain r)

  abbrev IsOfInstance : Filling → Row → Type 0
  IsOfInstance g r = (k : Key) × IsKey k × Contains (g k.procedure k.site k.call) r

  rows-source : (g : Filling) (r : Row) → Contains (group_rows g) r → IsPlain r ⊎ IsOfInstance g r
  rows-source g r c =
      let s = Contains-flat_map_source (λ p. filled (g p) (templates p).items) group r c in
      by s.0 s.1 (filled-source (g s.0) (templates s.0).items r s.2)
    where
      by : (p : ℕ) → Contains group p → Contains (templates p).items (Plain r)
          ⊎ ((site : ℕ) × (i : ℕ) × Contains (templates p).items (Instance site i) × Contains (g p site i) r) → IsPlain r ⊎ IsOfInstance g r
      by p d (inl e) = inl (p, d, e)
      by p d (inr (site, i, e, f)) = inr (key p site i, (d, e), f)

  rows-plain : (g : Filling) (r : Row) → IsPlain r → Contains (group_rows g) r
  rows-plain g r (p, d, e) = Contains-flat_map (λ q. filled (g q) (templates q).items) group p r d
      (filled-plain (g p) (templates p).items r e)

  rows-instance : (g : Filling) (r : Row) → IsOfInstance g r → Contains (group_rows g) r
  rows-instance g r (k, (d, e), f) =
      Contains-flat_map (λ q. filled (g q) (templates q).items) group k.procedure r d
      (filled-instance (g k.procedure) (templates k.procedure).items k.site k.call r e f)

  module _ (order : Below) (inside : Base → Bool) where
    abbrev AreAlike : List Row → List Row → Type 0
    AreAlike first second = Alike order inside (map line_by first) (map line_by second)

    covered : (first second : List Row) → ((r : Row) → Contains first r → Contains second r) → (l : Line)
        → Contains (map line_by first) l → Contains (map line_by second) l
    covered first second h l c =
        let s = Contains-map_source line_by first l c in
        subst (Contains (map line_by second)) s.2 (Contains-map line_by second s.0 (h s.0 s.1))

    same_rows : (first second : List Row) → ((r : Row) → Contains first r → Contains second r)
        → ((r : Row) → Contains second r → Contains first r) → AreAlike first second
    same_rows first second forth back =
        exchange order inside (map line_by first) (map line_by second)
        (λ l c. given order (map line_by second) l (covered first second forth l c))
        (λ l c. given order (map line_by first) l (covered second first back l c))

    -- fillings that agree at each instance
    agree : (f g : Filling) → ((k : Key) → IsKey k → f k.procedure k.site k.call ≡ g k.procedure k.site k.call) → (r : Row)
        → Contains (group_rows f) r → Contains (group_rows g) r
    agree f g same r c = by (rows-source f r c)
      where
        by : IsPlain r ⊎ IsOfInstance f r → Contains (group_rows g) r
        by (inl d) = rows-plain g r d
        by (inr (k, d, e)) = rows-instance g r (k, d, subst (λ rows. Contains rows r) (same k d) e)

    same_fillings : (f g : Filling) → ((k : Key) → IsKey k → f k.procedure k.site k.call ≡ g k.procedure k.site k.call)
        → AreAlike (group_rows f) (group_rows g)
    same_fillings f g same = same_rows (group_rows f) (group_rows g) (agree f g same) (agree g f (λ k d. sym (same k d)))

    -- one instance stands apart
    module _ (k : Key) (is_key : IsKey k) (g rest : Filling)
        (off : (p site i : ℕ) → key_eq (key p site i) k ≡ false → g p site i ≡ rest p site i)
        (none : (p site i : ℕ) → key_eq (key p site i) k ≡ true → rest p site i ≡ []) where
      abbrev own_rows : List Row
      own_rows = g k.procedure k.site k.call

      apart_forth : (r : Row) → Contains (group_rows g) r → Contains (group_rows rest ++ own_rows) r
      apart_forth r c = by (rows-source g r c)
        where
          at : (j : Key) → IsKey j → Contains (g j.procedure j.site j.call) r → (t : Bool) → key_eq j k ≡ t
              → Contains (group_rows rest ++ own_rows) r
          at j d e true f = Contains-append_right (group_rows rest) own_rows r
              (subst (λ (m : Key). Contains (g m.procedure m.site m.call) r) (key_equal j k f) e)
          at j d e false f = Contains-append_left (group_rows rest) own_rows r
              (rows-instance rest r (j, d, subst (λ rows. Contains rows r) (off j.procedure j.site j.call f) e))

          by : IsPlain r ⊎ IsOfInstance g r → Contains (group_rows rest ++ own_rows) r
          by (inl d) = Contains-append_left (group_rows rest) own_rows r (rows-plain rest r d)
          by (inr (j, d, e)) = at j d e (key_eq j k) refl

      apart_back : (r : Row) → Contains (group_rows rest ++ own_rows) r → Contains (group_rows g) r
      apart_back r c = by (Contains-append_cases (group_rows rest) own_rows r c)
        where
          at : (j : Key) → IsKey j → Contains (rest j.procedure j.site j.call) r → (t : Bool) → key_eq j k ≡ t → Contains (group_rows g) r
          at j d e true f = absurd (Contains-none r (subst (λ rows. Contains rows r) (none j.procedure j.site j.call f) e))
          at j d e false f = rows-instance g r (j, d, subst (λ rows. Contains rows r) (sym (off j.procedure j.site j.call f)) e)

          of_rest : IsPlain r ⊎ IsOfInstance rest r → Contains (group_rows g) r
          of_rest (inl d) = rows-plain g r d
          of_rest (inr (j, d, e)) = at j d e (key_eq j k) refl

          by : Contains (group_rows rest) r ⊎ Contains own_rows r → Contains (group_rows g) r
          by (inl d) = of_rest (rows-source rest r d)
          by (inr d) = rows-instance g r (k, is_key, d)

      pub apart : AreAlike (group_rows g) (group_rows rest ++ own_rows)
      apart = same_rows (group_rows g) (group_rows rest ++ own_rows) apart_forth apart_back

    -- Where each procedure outside the group has other lines, alike to the first ones.
    module _ (first second : ℕ → List Line)
        (all_inside : (n : ℕ) → inside (base.Exist n) ≡ true)
        (outer_inside : (p site i q : ℕ) → Contains group p → (templates p).called site i ≡ Outside q → inside (base.Proc q) ≡ true)
        (outside : (p site i q : ℕ) → Contains group p → (templates p).called site i ≡ Outside q → Contains group q → ⊥)
        (fit_first : (p site i q : ℕ) → Contains group p → (templates p).called site i ≡ Outside q → AreSchemeLines q (first q))
        (fit_second : (p site i q : ℕ) → Contains group p → (templates p).called site i ≡ Outside q → AreSchemeLines q (second q))
        (alike : (p site i q : ℕ) → Contains group p → (templates p).called site i ≡ Outside q
        → Alike order (is_inside_for q) (first q) (second q))
        (fit_given : (p site i own : ℕ) (lines : List Line) → Contains group p → (templates p).called site i ≡ Given own lines
        → AreSchemeLines own lines)
        (members : (p q : ℕ) (x : Row) → Contains group p → Contains (templates p).items (Plain x) → HasRoot x (root.Proc q)
        → Contains group q)
        (no_inner : (p procedure site i n : ℕ) (x : Row) → Contains group p → Contains (templates p).items (Plain x)
        → HasRoot x (root.Named (name.Inner procedure site i n)) → ⊥) where
      abbrev rows_first : Filling
      rows_first p site i = called_rows first p site i ((templates p).called site i)

      abbrev rows_second : Filling
      rows_second p site i = called_rows second p site i ((templates p).called site i)

      -- the second rows at some keys
      abbrev mixed : List Key → Filling
      mixed done p site i = if list_any (key_eq (key p site i)) done then rows_second p site i else rows_first p site i

      abbrev without : Key → Filling → Filling
      without k g p site i = if key_eq (key p site i) k then [] else g p site i

      without-off : (k : Key) (g : Filling) (p site i : ℕ) → key_eq (key p site i) k ≡ false → g p site i ≡ without k g p site i
      without-off k g p site i e = rw e refl

      without-none : (k : Key) (g : Filling) (p site i : ℕ) → key_eq (key p site i) k ≡ true → without k g p site i ≡ []
      without-none k g p site i e = rw e refl

      mixed-more : (done : List Key) (k : Key) (p site i : ℕ) → key_eq (key p site i) k ≡ false
          → mixed (k ∷ done) p site i ≡ mixed done p site i
      mixed-more done k p site i e = ap
          (λ t. if t || list_any (key_eq (key p site i)) done then rows_second p site i else rows_first p site i) e

      mixed-done : (done : List Key) (k : Key) → list_any (key_eq k) done ≡ true
          → mixed done k.procedure k.site k.call ≡ rows_second k.procedure k.site k.call
      mixed-done done k e = ap (λ t. if t then rows_second k.procedure k.site k.call else rows_first k.procedure k.site k.call) e

      mixed-open : (done : List Key) (k : Key) → list_any (key_eq k) done ≡ false
          → mixed done k.procedure k.site k.call ≡ rows_first k.procedure k.site k.call
      mixed-open done k e = ap (λ t. if t then rows_second k.procedure k.site k.call else rows_first k.procedure k.site k.call) e

      mixed-root : (done : List Key) (k : Key) (r : Row) (s : Root) → IsKey k → Contains (mixed done k.procedure k.site k.call) r
          → HasRoot r s → IsInstanceRoot k.procedure k.site k.call s
      mixed-root done k r s is_key c h = by (list_any (key_eq k) done) c
        where
          by : (t : Bool) → Contains (if t then rows_second k.procedure k.site k.call else rows_first k.procedure k.site k.call) r
              → IsInstanceRoot k.procedure k.site k.call s
          by true d = called-root second k.procedure k.site k.call ((templates k.procedure).called k.site k.call) r s
              (λ q e. fit_second k.procedure k.site k.call q is_key.0 e)
              (λ own lines e. fit_given k.procedure k.site k.call own lines is_key.0 e) d h
          by false d = called-root first k.procedure k.site k.call ((templates k.procedure).called k.site k.call) r s
              (λ q e. fit_first k.procedure k.site k.call q is_key.0 e)
              (λ own lines e. fit_given k.procedure k.site k.call own lines is_key.0 e) d h

      -- The rest beside one instance.

      abbrev rest : Key → List Key → List Row
      rest k done = group_rows (without k (mixed done))

      rest-source : (k : Key) (done : List Key) (r : Row) → Contains (rest k done) r → IsPlain r
          ⊎ ((j : Key) × IsKey j × (key_eq j k ≡ false) × Contains (mixed done j.procedure j.site j.call) r)
      rest-source k done r c = by (rows-source (without k (mixed done)) r c)
        where
          at : (j : Key) → IsKey j → Contains (without k (mixed done) j.procedure j.site j.call) r → (t : Bool) → key_eq j k ≡ t
              → IsPlain r ⊎ ((m : Key) × IsKey m × (key_eq m k ≡ false) × Contains (mixed done m.procedure m.site m.call) r)
          at j d e true f = absurd (Contains-none r
              (subst (λ rows. Contains rows r) (without-none k (mixed done) j.procedure j.site j.call f) e))
          at j d e false f = inr (j, d, f, subst (λ rows. Contains rows r) (sym (without-off k (mixed done) j.procedure j.site j.call f)) e)

          by : IsPlain r ⊎ IsOfInstance (without k (mixed done)) r → IsPlain r
              ⊎ ((m : Key) × IsKey m × (key_eq m k ≡ false) × Contains (mixed done m.procedure m.site m.call) r)
          by (inl d) = inl d
          by (inr (j, d, e)) = at j d e (key_eq j k) refl

      no_outer : (k : Key) (done : List Key) (q : ℕ) → (Contains group q → ⊥) → NamesRoot (rest k done) (root.Proc q) → ⊥
      no_outer k done q out (r, c, h) = by (rest-source k done r c)
        where
          by : IsPlain r ⊎ ((j : Key) × IsKey j × (key_eq j k ≡ false) × Contains (mixed done j.procedure j.site j.call) r) → ⊥
          by (inl (p, d, e)) = out (members p q r d e h)
          by (inr (j, d, e, f)) = mixed-root done j r (root.Proc q) d f h

      no_own_inner : (k : Key) (done : List Key) (n : ℕ) → NamesRoot (rest k done) (root.Named (name.Inner k.procedure k.site k.call n)) → ⊥
      no_own_inner k done n (r, c, h) = by (rest-source k done r c)
        where
          apart_from : (j : Key) → key_eq j k ≡ false → (k.procedure ≡ j.procedure) × (k.site ≡ j.site) × (k.call ≡ j.call) → ⊥
          apart_from j e (a, b, d) = let same : k ≡ j = λ i. record { procedure = a i; site = b i; call = d i } in true≢false
              (sym (key_self k) ∙ (ap (λ m. key_eq m k) same ∙ e))

          by : IsPlain r ⊎ ((j : Key) × IsKey j × (key_eq j k ≡ false) × Contains (mixed done j.procedure j.site j.call) r) → ⊥
          by (inl (p, d, e)) = no_inner p k.procedure k.site k.call n r d e h
          by (inr (j, d, e, f)) = apart_from j e (mixed-root done j r (root.Named (name.Inner k.procedure k.site k.call n)) d f h)

      swap : (k : Key) (done : List Key) → IsKey k →
          Alike order inside (map line_by (rest k done) ++ map line_by (rows_first k.procedure k.site k.call))
          (map line_by (rest k done) ++ map line_by (rows_second k.procedure k.site k.call))
      swap k done is_key = by ((templates k.procedure).called k.site k.call) refl
        where
          by : (called : Called) → (templates k.procedure).called k.site k.call ≡ called →
              Alike order inside (map line_by (rest k done) ++ map line_by (called_rows first k.procedure k.site k.call called))
              (map line_by (rest k done) ++ map line_by (called_rows second k.procedure k.site k.call called))
          by (Outside q) e =
              exchange_rows order inside k.procedure k.site k.call q (first q) (second q) (rest k done)
              (fit_first k.procedure k.site k.call q is_key.0 e) (fit_second k.procedure k.site k.call q is_key.0 e)
              (alike k.procedure k.site k.call q is_key.0 e)
              (outer_inside k.procedure k.site k.call q is_key.0 e) all_inside
              (no_outer k done q (outside k.procedure k.site k.call q is_key.0 e)) (no_own_inner k done)
          by (Given own lines) e = Alike-refl order inside
              (map line_by (rest k done) ++ map line_by (rows_by k.procedure k.site k.call own lines))
          by Nothing e = Alike-refl order inside (map line_by (rest k done) ++ [])

      step : (k : Key) (done : List Key) → IsKey k → AreAlike (group_rows (mixed done)) (group_rows (mixed (k ∷ done)))
      step k done is_key = by (list_any (key_eq k) done) refl
        where
          same_at : list_any (key_eq k) done ≡ true → (j : Key) → (t : Bool) → key_eq j k ≡ t
              → mixed done j.procedure j.site j.call ≡ mixed (k ∷ done) j.procedure j.site j.call
          same_at e j true f =
              let here : list_any (key_eq j) (k ∷ done) ≡ true = or_left (key_eq j k) (list_any (key_eq j) done) f in
              mixed-done done j (subst (λ (m : Key). list_any (key_eq m) done ≡ true) (sym (key_equal j k f)) e)
              ∙ sym (mixed-done (k ∷ done) j here)
          same_at e j false f = sym (mixed-more done k j.procedure j.site j.call f)

          before : list_any (key_eq k) done ≡ false
              → AreAlike (group_rows (mixed done)) (rest k done ++ rows_first k.procedure k.site k.call)
          before e = subst (λ rows. AreAlike (group_rows (mixed done)) (rest k done ++ rows)) (mixed-open done k e)
              (apart k is_key (mixed done) (without k (mixed done)) (without-off k (mixed done)) (without-none k (mixed done)))

          after : AreAlike (group_rows (mixed (k ∷ done))) (rest k done ++ rows_second k.procedure k.site k.call)
          after = subst (λ rows. AreAlike (group_rows (mixed (k ∷ done))) (rest k done ++ rows))
              (mixed-done (k ∷ done) k (or_left (key_eq k k) (list_any (key_eq k) done) (key_self k)))
              (apart k is_key (mixed (k ∷ done)) (without k (mixed done))
              (λ p site i f. mixed-more done k p site i f ∙ without-off k (mixed done) p site i f) (without-none k (mixed done)))

          swapped : AreAlike (rest k done ++ rows_first k.procedure k.site k.call) (rest k done ++ rows_second k.procedure k.site k.call)
          swapped =
              subst (λ lines. Alike order inside lines (map line_by (rest k done ++ rows_second k.procedure k.site k.call)))
              (sym (map-append line_by (rest k done) (rows_first k.procedure k.site k.call)))
              (subst (λ lines. Alike order inside
              (map line_by (rest k done) ++ map line_by (rows_first k.procedure k.site k.call)) lines)
              (sym (map-append line_by (rest k done) (rows_second k.procedure k.site k.call))) (swap k done is_key))

          by : (t : Bool) → list_any (key_eq k) done ≡ t → AreAlike (group_rows (mixed done)) (group_rows (mixed (k ∷ done)))
          by true e = same_fillings (mixed done) (mixed (k ∷ done)) (λ j d. same_at e j (key_eq j k) refl)
          by false e =
              Alike-trans order inside (map line_by (group_rows (mixed done)))
              (map line_by (rest k done ++ rows_first k.procedure k.site k.call)) (map line_by (group_rows (mixed (k ∷ done))))
              (before e)
              (Alike-trans order inside (map line_by (rest k done ++ rows_first k.procedure k.site k.call))
              (map line_by (rest k done ++ rows_second k.procedure k.site k.call)) (map line_by (group_rows (mixed (k ∷ done)))) swapped
              (Alike-sym order inside (map line_by (group_rows (mixed (k ∷ done))))
              (map line_by (rest k done ++ rows_second k.procedure k.site k.call)) after))

      steps : (todo done : List Key) → ((k : Key) → Contains todo k → IsKey k)
          → AreAlike (group_rows (mixed done)) (group_rows (mixed (add todo done)))
      steps [] done h = Alike-refl order inside (map line_by (group_rows (mixed done)))
      steps (k ∷ todo) done h =
          Alike-trans order inside (map line_by (group_rows (mixed done))) (map line_by (group_rows (mixed (k ∷ done))))
          (map line_by (group_rows (mixed (add todo (k ∷ done)))))
          (step k done (h k (Contains-here k todo))) (steps todo (k ∷ done) (λ j c. h j (Contains-there k todo j c)))

      abbrev all_keys : List Key
      all_keys = flat_map (λ p. keys_of p (templates p).items) group

      all_keys-has : (k : Key) → IsKey k → Contains all_keys k
      all_keys-has k (c, d) = Contains-flat_map (λ p. keys_of p (templates p).items) group k.procedure k c
          (keys-has k.procedure (templates k.procedure).items k.site k.call d)

      all_keys-source : (k : Key) → Contains all_keys k → IsKey k
      all_keys-source k c =
          let s = Contains-flat_map_source (λ p. keys_of p (templates p).items) group k c in
          let t = keys-source s.0 (templates s.0).items k s.2 in
          subst (λ p. Contains group p × Contains (templates p).items (Instance k.site k.call)) (sym t.0) (s.1, t.1)

      filled_alike : AreAlike (group_rows rows_first) (group_rows rows_second)
      filled_alike =
          Alike-trans order inside (map line_by (group_rows rows_first)) (map line_by (group_rows (mixed (add all_keys []))))
          (map line_by (group_rows rows_second))
          (steps all_keys [] all_keys-source)
          (same_fillings (mixed (add all_keys [])) rows_second
          (λ k d. mixed-done (add all_keys []) k
          (list_any-from (key_eq k) (add all_keys []) k (add-has all_keys [] k (all_keys-has k d)) (key_self k))))

      numbered_alike : (lines_of : ℕ → List Line)
          → Alike order inside (lines_with lines_of templates group)
          (map line_by (group_rows (λ p site i. called_rows lines_of p site i ((templates p).called site i))))
      numbered_alike lines_of =
          subst (λ rows. Alike order inside (lines_with lines_of templates group) (map line_by rows))
          (flat_map-map (λ p. template_rows lines_of templates p) group)
          (one_numbering order inside all_inside (map (λ p. template_rows lines_of templates p) group))

      pub group_alike : Alike order inside (lines_with first templates group) (lines_with second templates group)
      group_alike =
          Alike-trans order inside (lines_with first templates group) (map line_by (group_rows rows_first))
          (lines_with second templates group) (numbered_alike first)
          (Alike-trans order inside (map line_by (group_rows rows_first)) (map line_by (group_rows rows_second))
          (lines_with second templates group) filled_alike
          (Alike-sym order inside (lines_with second templates group) (map line_by (group_rows rows_second)) (numbered_alike second)))
