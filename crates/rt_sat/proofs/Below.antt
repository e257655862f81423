-- Which named variable lies below which, by a table.
use Rattle.std.proofs.Common.{◌≡◌, ℕ, ◌<◌, inl, inr, Bool, List, [], ◌∷◌, All, Contains, Some, None, length, sym, ap, subst, ◌∙◌}
use Rattle.std.specs.Prelude.{◌↔◌, IsTrue, slice_get}
use Rattle.std.proofs.lemmas.Option.{get_or_from_slice_get, slice_get_within}
use Rattle.rt_lines.specs.declared.label.Variance.TheVariants.{Co}
use Rattle.rt_lines.specs.declared.variable.Dtv.{Dtv}
use Rattle.rt_lines.specs.declared.line.Line.{Line}
use Rattle.rt_lines.specs.declared.line.Line.TheVariants.{Var as VarLine, Same, Sub, Low, Up}
use Rattle.rt_lines.specs.Lines.{HasConstantsBelow}
use Rattle.rt_lines.specs.Orders.{Below, IsAtOrBelow}
use Rattle.rt_lines.specs.OrderFacts.{IsOrder}
use Rattle.rt_rules.specs.Rules.{Derivable}
use Rattle.rt_rules.proofs.Carry.{are_there}
use Rattle.rt_rules.proofs.Lists.{Contains-none, Contains-here, Contains-there, Contains-cons_cases}
use Rattle.rt_bridge.specs.Growing.{dv, vd, Given, S, Der}
use Rattle.rt_bridge.specs.Counted.{st}
use Rattle.rt_bridge.specs.Ways.{Way}
use Rattle.rt_bridge.specs.Laws.{Named, AreNamed, Edge as EdgeOf}
use Rattle.rt_bridge.specs.Bounds.{HasLow, HasUp}
use Rattle.rt_bridge.proofs.Growing.{der, dv-vd}
use Rattle.rt_bridge.proofs.Lawful.{exact_law, low_law, up_law}
use Rattle.rt_bridge.proofs.Tables.{way_bridge}
use Rattle.rt_named.specs.Naming.{named}
use Rattle.rt_named.specs.Origins.{no_variable}
use Rattle.rt_sat.specs.declared.state.Edge.{Edge}
use Rattle.rt_sat.specs.declared.table.Begun.{Begun}
use Rattle.rt_sat.specs.Closings.{IsTableWhere}
use Rattle.rt_sat.specs.Deciding.{is_among, flips_by}
use Rattle.rt_sat.specs.Mattering.{Matters}
use Rattle.rt_sat.specs.Numbered.{at_number, edges_of, AreDistinct, AreWithin}
use Rattle.rt_sat.specs.Pushes.{AreSound, IsFrame}
use Rattle.rt_sat.specs.Searches.{Walk}
use Rattle.rt_shape.specs.Graphs.{Graph, node_of}
use Rattle.rt_shape.specs.Shapes.{IsShapeOf}
use Rattle.rt_sat.specs.Tables.{AreThere, IsTableOf, IsBegun, IsAnswer, BelowLaw, place, HasNought, HasBelow, AreFlagged, AreLows, AreUps}
use Rattle.rt_sat.proofs.Closed.{edge_sound, in_frame, name_at}
use Rattle.rt_sat.proofs.Closings.{closing_law, lines_sound}
use Rattle.rt_sat.proofs.Deciding.{are_named, are_flips}
use Rattle.rt_sat.proofs.Frames.{begun_table, frame_law, named_distinct}
use Rattle.rt_sat.proofs.Mattering.{fewer_where}
use Rattle.rt_sat.proofs.Numbered.{numbered_law}
use Rattle.rt_sat.proofs.Bounded.{lows_within, ups_within}
use Rattle.rt_base.proofs.Options.{none_is}

-- what is named, and what can be read and written through, by an equal list
module _ (L : Given) (extra known : List Dtv) (graph : Graph) (is : known ≡ named L.lines extra) (shape : IsShapeOf L.lines graph) where
  named_by : AreNamed L (is_among known)
  named_by = subst (λ xs. AreNamed L (is_among xs)) (sym is) (are_named L extra graph shape)

  pub frame_by : (flips : List Bool) → AreThere L.lines extra → AreFlagged graph known flips → IsFrame L known flips
  frame_by flips there flagged = subst (λ xs. IsFrame L xs flips) (sym is) (frame_law L extra graph flips shape there (subst (λ xs. AreFlagged graph xs flips) is flagged))

module _ (L : Given) (x y : Dtv) where
  to_der : Derivable L.order L.lines (Sub x y) → Der L (S (vd x) (vd y))
  to_der d = der L (S (vd x) (vd y)) (subst (λ z. Derivable L.order L.lines (Sub z (dv (vd y)))) (sym (dv-vd x)) (subst (λ z. Derivable L.order L.lines (Sub x z)) (sym (dv-vd y)) d))

  pub from_der : Der L (S (vd x) (vd y)) → Derivable L.order L.lines (Sub x y)
  from_der d = subst (λ z. Derivable L.order L.lines (Sub z y)) (dv-vd x) (subst (λ z. Derivable L.order L.lines (Sub (dv (vd x)) z)) (dv-vd y) d.derives)

-- a way of count nought along sound edges
module _ (L : Given) (known : List Dtv) (graph : Graph) (flips : List Bool) (edges : List Edge) (shape : IsShapeOf L.lines graph) (names : AreNamed L (is_among known)) (frames : IsFrame L known flips)
    (sound : AreSound L known edges) (i j : ℕ) (h : i < length known) (k : j < length known) where
  way_below : Way (EdgeOf (edges_of known edges)) (st (vd (at_number known i)) Co) (st (vd (at_number known j)) Co) 0 → Derivable L.order L.lines (Sub (at_number known i) (at_number known j))
  way_below w =
      from_der L (at_number known i) (at_number known j)
      ((exact_law L (is_among known) (flips_by graph) names (are_flips L [] graph shape) (vd (at_number known i)) (vd (at_number known j)) (name_at known i h) (name_at known j k) (frames.there i h)).1
      (way_bridge (EdgeOf (edges_of known edges)) L (Named (is_among known)) names.sides (edge_sound known L flips (in_frame L known flips frames) names.sides edges sound) w (name_at known i h) (frames.there i h)))

  walk_below : AreDistinct known → AreWithin known edges → Walk edges (place i) (place j) 0 → Derivable L.order L.lines (Sub (at_number known i) (at_number known j))
  walk_below apart inside w = way_below ((numbered_law known edges apart inside (place i) (place j) 0 h k).0 w)

module _ (order : Below) (lines : List Line) (extra known : List Dtv) (edges : List Edge) (table : IsTableOf lines extra known edges) where
  abbrev pub L : Given
  L = record { order = order; lines = lines }

  pub distinct : AreDistinct known
  distinct = named_distinct lines extra known table.is_named

  pub named_all : AreNamed L (is_among known)
  named_all = named_by L extra known table.graph table.is_named table.shape

  pub frame : IsFrame L known table.flips
  frame = frame_by L extra known table.graph table.is_named table.shape table.flips table.extra_there table.flagged

  pub within : AreWithin known edges
  within = table.closing.within table.entered.within

  pub where_law : IsTableWhere L (Named (is_among known)) (Matters table.graph table.marks) (EdgeOf (edges_of known edges))
  where_law = closing_law L known table.graph table.marks table.flips table.matters table.first edges named_all distinct frame table.mattering table.entered table.closing

  sound : AreSound L known edges
  sound = table.closing.sound L frame named_all.sides (lines_sound L known table.first table.entered)

  below_way : (i j : ℕ) → i < length known → j < length known → Derivable order lines (Sub (at_number known i) (at_number known j)) → Way (EdgeOf (edges_of known edges)) (st (vd (at_number known i)) Co) (st (vd (at_number known j)) Co) 0
  below_way i j h k d =
      fewer_where L L (is_among known) (EdgeOf (edges_of known edges)) table.graph table.marks table.shape table.marked named_all (λ f e. e) where_law.closed where_law.lines
      (vd (at_number known i)) (vd (at_number known j)) (name_at known i h) (name_at known j k) (to_der L (at_number known i) (at_number known j) d)

  pub below_numbers : (i j : ℕ) → i < length known → j < length known → Derivable order lines (Sub (at_number known i) (at_number known j)) ↔ Walk edges (place i) (place j) 0
  below_numbers i j h k = (
    λ d. (numbered_law known edges distinct within (place i) (place j) 0 h k).1 (below_way i j h k d),
    walk_below L known table.graph table.flips edges table.shape named_all frame sound i j h k distinct within,
  )

pub below_law : BelowLaw
below_law order lines extra known edges table i j h k = below_numbers order lines extra known edges table i j h k

-- what an answer says, between numbers of named variables
module _ (lines : List Line) (extra : List Dtv) (marks : List Bool) (begun : Begun) (is : IsBegun lines extra marks begun) (sources targets : List ℕ) (yes : Bool) (answer : IsAnswer begun sources targets yes) (order : Below) where
  abbrev names : List Dtv
  names = begun.frame.named

  abbrev flips : List Bool
  flips = begun.frame.flips.items

  abbrev given : Given
  given = record { order = order; lines = lines }

  are_names : AreNamed given (is_among names)
  are_names = named_by given extra names is.graph is.is_named is.shape

  is_frame : IsFrame given names flips
  is_frame = frame_by given extra names is.graph is.is_named is.shape flips is.extra_there is.flagged

  inside : AreWithin names answer.edges
  inside = answer.built.within is.entered.within

  are_sound : AreSound given names answer.edges
  are_sound = answer.built.sound given is_frame are_names.sides (lines_sound given names begun.first.items is.entered)

  answered : ((s : ℕ) → Contains sources s → s < length names) → ((t : ℕ) → Contains targets t → t < length names) → IsTrue yes ↔ HasBelow order lines names sources targets
  answered small few = (
    λ h. (let r : HasNought answer.edges sources targets = answer.says.0 h in
        (r.0, r.1, r.2, r.3, walk_below given names is.graph flips answer.edges is.shape are_names is_frame are_sound r.0 r.1 (small r.0 r.2) (few r.1 r.3) is.distinct inside r.4)),
    λ r. (elim answer.whole [
      | inl h ↦ h
      | inr closing ↦ answer.says.1 (r.0, r.1, r.2, r.3, (below_numbers order lines extra names answer.edges (begun_table lines extra marks begun is answer.edges closing) r.0 r.1 (small r.0 r.2) (few r.1 r.3)).0 r.4)
    ]),
  )

both_ways : {A B C : Type 0} → A ↔ B → B ↔ C → A ↔ C
both_ways f g = (λ a. g.0 (f.0 a), λ c. f.1 (g.1 c))

Contains-one : (n m : ℕ) → Contains (n ∷ []) m → m ≡ n
Contains-one n m c = elim (Contains-cons_cases n [] m c) [ inl e ↦ sym e | inr d ↦ absurd (Contains-none m d) ]

-- one variable below another
one_below : (order : Below) (lines : List Line) (known : List Dtv) (x y : Dtv) (i j : ℕ) (sources targets : List ℕ) → slice_get known i ≡ Some x → slice_get known j ≡ Some y → sources ≡ i ∷ [] → targets ≡ j ∷ [] →
    HasBelow order lines known sources targets ↔ Derivable order lines (Sub x y)
one_below order lines known x y i j sources targets e f p q = (
  λ r. (let g : r.0 ≡ i = one i sources r.0 p r.2 in let h : r.1 ≡ j = one j targets r.1 q r.3 in
      subst (λ z. Derivable order lines (Sub z y)) (ap (at_number known) g ∙ at i x e) (subst (λ z. Derivable order lines (Sub (at_number known r.0) z)) (ap (at_number known) h ∙ at j y f) r.4)),
  λ d. (i, j, here i sources p, here j targets q, subst (λ z. Derivable order lines (Sub z (at_number known j))) (sym (at i x e)) (subst (λ z. Derivable order lines (Sub x z)) (sym (at j y f)) d)),
)
  where
    at : (n : ℕ) (z : Dtv) → slice_get known n ≡ Some z → at_number known n ≡ z
    at n z g = get_or_from_slice_get known n z no_variable g

    one : (n : ℕ) (xs : List ℕ) (m : ℕ) → xs ≡ n ∷ [] → Contains xs m → m ≡ n
    one n xs m g c = Contains-one n m (subst (λ ys. Contains ys m) g c)

    here : (n : ℕ) (xs : List ℕ) → xs ≡ n ∷ [] → Contains xs n
    here n xs g = subst (λ ys. Contains ys n) (sym g) (Contains-here n [])

-- a lower bound that lines reach
low_below : (order : Below) (lines : List Line) (known : List Dtv) (k : ℕ) (x : Dtv) (j : ℕ) (sources targets : List ℕ) → AreLows order lines known k sources → slice_get known j ≡ Some x → targets ≡ j ∷ [] →
    HasBelow order lines known sources targets ↔ HasLow order lines k x
low_below order lines known k x j sources targets are f q = (
  λ r. (let s : (bound : ℕ) × (z : Dtv) × Contains lines (Low bound z) × IsAtOrBelow order k bound × (slice_get known r.0 ≡ Some z) = are.only r.0 r.2 in
      record { bound = s.0; variable = s.1; stands = s.2; at = s.3; below = subst (λ z. Derivable order lines (Sub z x)) (at r.0 s.1 s.4) (subst (λ z. Derivable order lines (Sub (at_number known r.0) z)) (ap (at_number known) (one r.1 r.3) ∙ at j x f) r.4) }),
  λ h. (let s : (n : ℕ) × Contains sources n × (slice_get known n ≡ Some h.variable) = are.all h.bound h.variable h.stands h.at in
      (s.0, j, s.1, subst (λ ys. Contains ys j) (sym q) (Contains-here j []), subst (λ z. Derivable order lines (Sub z (at_number known j))) (sym (at s.0 h.variable s.2)) (subst (λ z. Derivable order lines (Sub h.variable z)) (sym (at j x f)) h.below))),
)
  where
    at : (n : ℕ) (z : Dtv) → slice_get known n ≡ Some z → at_number known n ≡ z
    at n z g = get_or_from_slice_get known n z no_variable g

    one : (m : ℕ) → Contains targets m → m ≡ j
    one m c = Contains-one j m (subst (λ ys. Contains ys m) q c)

-- an upper bound that lines reach
up_below : (order : Below) (lines : List Line) (known : List Dtv) (x : Dtv) (k i : ℕ) (sources targets : List ℕ) → AreUps order lines known k targets → slice_get known i ≡ Some x → sources ≡ i ∷ [] →
    HasBelow order lines known sources targets ↔ HasUp order lines x k
up_below order lines known x k i sources targets are f q = (
  λ r. (let s : (bound : ℕ) × (z : Dtv) × Contains lines (Up z bound) × IsAtOrBelow order bound k × (slice_get known r.1 ≡ Some z) = are.only r.1 r.3 in
      record { bound = s.0; variable = s.1; stands = s.2; at = s.3; above = subst (λ z. Derivable order lines (Sub x z)) (at r.1 s.1 s.4) (subst (λ z. Derivable order lines (Sub z (at_number known r.1))) (ap (at_number known) (one r.0 r.2) ∙ at i x f) r.4) }),
  λ h. (let s : (n : ℕ) × Contains targets n × (slice_get known n ≡ Some h.variable) = are.all h.bound h.variable h.stands h.at in
      (i, s.0, subst (λ ys. Contains ys i) (sym q) (Contains-here i []), s.1, subst (λ z. Derivable order lines (Sub z (at_number known s.0))) (sym (at i x f)) (subst (λ z. Derivable order lines (Sub x z)) (sym (at s.0 h.variable s.2)) h.above))),
)
  where
    at : (n : ℕ) (z : Dtv) → slice_get known n ≡ Some z → at_number known n ≡ z
    at n z g = get_or_from_slice_get known n z no_variable g

    one : (m : ℕ) → Contains sources m → m ≡ i
    one m c = Contains-one i m (subst (λ ys. Contains ys m) q c)

-- the numbers in a list of one
one_within : (known : List Dtv) (x : Dtv) (i : ℕ) (numbers : List ℕ) → slice_get known i ≡ Some x → numbers ≡ i ∷ [] → (n : ℕ) → Contains numbers n → n < length known
one_within known x i numbers e p n c = subst (λ m. m < length known) (sym (Contains-one i n (subst (λ ys. Contains ys n) p c))) (slice_get_within known i x e)

pub table_within : (lines : List Line) (extra known : List Dtv) (edges : List Edge) → IsTableOf lines extra known edges → AreWithin known edges
table_within lines extra known edges table = table.closing.within table.entered.within

-- variables that exist
pub there_one : (lines : List Line) (x : Dtv) (extra : List Dtv) → extra ≡ x ∷ [] → ((order : Below) → Derivable order lines (VarLine x)) → AreThere lines extra
there_one lines x extra e there order y c =
    elim (Contains-cons_cases x [] y (subst (λ ys. Contains ys y) e c)) [ inl f ↦ subst (λ z. Derivable order lines (VarLine z)) f (there order) | inr d ↦ absurd (Contains-none y d) ]

pub there_two : (lines : List Line) (x y : Dtv) (extra : List Dtv) → extra ≡ x ∷ y ∷ [] → ((order : Below) → Derivable order lines (Same x y)) → AreThere lines extra
there_two lines x y extra e same order z c =
    let p : Derivable order lines (VarLine x) × Derivable order lines (VarLine y) = are_there order lines (same order) in
    elim (Contains-cons_cases x (y ∷ []) z (subst (λ ys. Contains ys z) e c)) [
      | inl f ↦ subst (λ v. Derivable order lines (VarLine v)) f p.0
      | inr d ↦ (elim (Contains-cons_cases y [] z d) [ inl f ↦ subst (λ v. Derivable order lines (VarLine v)) f p.1 | inr g ↦ absurd (Contains-none z g) ])
    ]

-- what an answer says of one variable below another, and of bounds
module _ (lines : List Line) (extra : List Dtv) (marks : List Bool) (begun : Begun) (is : IsBegun lines extra marks begun) (sources targets : List ℕ) (answer : Bool) (says : IsAnswer begun sources targets answer) where
  pub below_whole : (x y : Dtv) (i j : ℕ) → slice_get begun.frame.named i ≡ Some x → slice_get begun.frame.named j ≡ Some y → sources ≡ i ∷ [] → targets ≡ j ∷ [] → (order : Below) → IsTrue answer ↔ Derivable order lines (Sub x y)
  below_whole x y i j e f p q order =
      let known = begun.frame.named in
      both_ways (answered lines extra marks begun is sources targets answer says order (one_within known x i sources e p) (one_within known y j targets f q))
      (one_below order lines known x y i j sources targets e f p q)

  pub low_whole : (order : Below) (k : ℕ) (x : Dtv) (j : ℕ) → AreLows order lines begun.frame.named k sources → slice_get begun.frame.named j ≡ Some x → targets ≡ j ∷ [] → IsTrue answer ↔ HasLow order lines k x
  low_whole order k x j are f q =
      let known = begun.frame.named in
      both_ways (answered lines extra marks begun is sources targets answer says order (lows_within order known k lines sources are) (one_within known x j targets f q))
      (low_below order lines known k x j sources targets are f q)

  pub up_whole : (order : Below) (x : Dtv) (k i : ℕ) → AreUps order lines begun.frame.named k targets → slice_get begun.frame.named i ≡ Some x → sources ≡ i ∷ [] → IsTrue answer ↔ HasUp order lines x k
  up_whole order x k i are f q =
      let known = begun.frame.named in
      both_ways (answered lines extra marks begun is sources targets answer says order (one_within known x i sources f q) (ups_within order known k lines targets are))
      (up_below order lines known x k i sources targets are f q)

-- where a variable doesn't exist it has no bounds
pub no_low : (order : Below) (lines : List Line) (k : ℕ) (x : Dtv) → (Derivable order lines (VarLine x) → ⊥) → HasLow order lines k x → ⊥
no_low order lines k x none h = none (are_there order lines h.below).1

pub no_up : (order : Below) (lines : List Line) (x : Dtv) (k : ℕ) → (Derivable order lines (VarLine x) → ⊥) → HasUp order lines x k → ⊥
no_up order lines x k none h = none (are_there order lines h.above).0

pub low_derived : (order : Below) (lines : List Line) (k : ℕ) (x : Dtv) (answer : Bool) → IsOrder order → All (HasConstantsBelow order.count) lines →
    IsTrue answer ↔ HasLow order lines k x → IsTrue answer ↔ Derivable order lines (Low k x)
low_derived order lines k x answer is few says =
    let r : Derivable order lines (Low k x) ↔ HasLow order lines k x = low_law order lines k x is few in
    (λ h. r.1 (says.0 h), λ d. says.1 (r.0 d))

pub up_derived : (order : Below) (lines : List Line) (x : Dtv) (k : ℕ) (answer : Bool) → IsOrder order → All (HasConstantsBelow order.count) lines → k < order.count →
    IsTrue answer ↔ HasUp order lines x k → IsTrue answer ↔ Derivable order lines (Up x k)
up_derived order lines x k answer is few h says =
    let r : Derivable order lines (Up x k) ↔ HasUp order lines x k = up_law order lines x k is few h in
    (λ g. r.1 (says.0 g), λ d. says.1 (r.0 d))

-- a variable without a node has no shape
pub no_node : (lines : List Line) (graph : Graph) (order : Below) (x : Dtv) → IsShapeOf lines graph → node_of graph x ≡ None → Derivable order lines (VarLine x) → ⊥
no_node lines graph order x shape e d = none_is (node_of graph x) e ((shape.there order x).1 d)

pub first_in : (x : Dtv) (more extra : List Dtv) → extra ≡ x ∷ more → Contains extra x
first_in x more extra e = subst (λ ys. Contains ys x) (sym e) (Contains-here x more)

pub second_in : (x y : Dtv) (more extra : List Dtv) → extra ≡ x ∷ y ∷ more → Contains extra y
second_in x y more extra e = subst (λ ys. Contains ys y) (sym e) (Contains-there x (y ∷ more) y (Contains-here y more))
