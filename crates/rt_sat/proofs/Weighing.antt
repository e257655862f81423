-- Ways in a table are counted as probes count.
use Rattle.std.proofs.Common.{◌≡◌, ℕ, suc, ℤ, ◌+◌, ◌≤◌, ◌<◌, inl, inr, Bool, true, false, List, [], ◌∷◌, Contains, Option, Some, None, IsSome, length, refl, sym, subst, arith}
use Rattle.std.specs.Prelude.{IsTrue, ◌↔◌, nat_eq, nat_abs, pos}
use Rattle.std.proofs.Common.{eq-eqb}
use Rattle.std.proofs.lemmas.Bool.{eqb-true}
use Rattle.std.proofs.lemmas.List.{get_or_default}
use Rattle.std.proofs.lemmas.List.Elements.{Contains-append_left}
use Rattle.rt_lines.specs.declared.label.Label.{Label}
use Rattle.rt_lines.specs.declared.label.Label.TheVariants.{In, Out, Load, Store, Field}
use Rattle.rt_lines.specs.declared.label.Variance.{Variance}
use Rattle.rt_lines.specs.declared.variable.Dtv.{Dtv}
use Rattle.rt_lines.specs.declared.line.Line.{Line}
use Rattle.rt_lines.specs.declared.line.Line.TheVariants.{Var as VarLine, Sub, Same}
use Rattle.rt_lines.specs.Orders.{Below}
use Rattle.rt_lines.specs.Words.{variance_of_word}
use Rattle.rt_rules.specs.Rules.{longer, extended, HasSide, Derivable}
use Rattle.rt_rules.proofs.Carry.{are_there}
use Rattle.rt_rules.proofs.Lists.{Contains-none, Contains-cons_cases}
use Rattle.rt_bridge.specs.Growing.{Var, dot, dv, rest, vd, Given, V, E, S, Der}
use Rattle.rt_bridge.specs.Counted.{st, Bridge}
use Rattle.rt_bridge.specs.Ways.{Way, WayIn}
use Rattle.rt_bridge.specs.Laws.{Named, IsTable, Edge as EdgeOf}
use Rattle.rt_bridge.proofs.Growing.{der, dv-vd, dv-rest}
use Rattle.rt_bridge.proofs.Bridges.{bridge_even}
use Rattle.rt_bridge.proofs.Lawful.{ways_law}
use Rattle.rt_named.specs.Naming.{named as named_by}
use Rattle.rt_named.specs.Laws.{IsPrefix, IsGiven}
use Rattle.rt_named.specs.Origins.{no_variable}
use Rattle.rt_named.proofs.Contents.{contents_law}
use Rattle.rt_shape.specs.Graphs.{Graph, node_of}
use Rattle.rt_shape.specs.Shapes.{IsShapeOf}
use Rattle.rt_sat.specs.declared.state.Edge.{Edge}
use Rattle.rt_sat.specs.Deciding.{is_among, flips_by}
use Rattle.rt_sat.specs.Numbered.{at_number, edges_of, sign_of, is_contra}
use Rattle.rt_sat.specs.Probe.{IsNew, IsCount, pointer_words, probed}
use Rattle.rt_sat.specs.Pushes.{HasWalk}
use Rattle.rt_sat.specs.Searches.{Walk}
use Rattle.rt_sat.specs.Tables.{IsTableOf, IsWholeTableOf}
use Rattle.rt_sat.specs.Weighing.{signed, CountLaw, RisingLaw}
use Rattle.rt_sat.proofs.Below.{L, distinct, named_all, frame, within, where_law}
use Rattle.rt_sat.proofs.Closed.{name_at}
use Rattle.rt_sat.proofs.Mattering.{all_matter}
use Rattle.rt_sat.proofs.Deciding.{are_flips}
use Rattle.rt_sat.proofs.Frames.{side_named, extra_named}
use Rattle.rt_sat.proofs.Numbered.{numbered_law, sign_contra}
use Rattle.rt_sat.proofs.Probes.{above, ArePointers, pointers-of, pointers-in, part, part-plain}
use Rattle.rt_sat.proofs.Descending.{number, P, Counted, counted}
use Rattle.rt_sat.proofs.Raising.{Spellings, spellings, raised}

-- a number above that of each field's offset
abbrev height : Label → ℕ
height (Field w k) = nat_abs k
height (In a) = 0
height (Out n) = 0
height Load = 0
height Store = 0

abbrev word_height : List Label → ℕ
word_height [] = 0
word_height (l ∷ w) = height l + word_height w

abbrev heights : List Dtv → ℕ
heights [] = 0
heights (x ∷ xs) = word_height x.word + heights xs

word_high : (w : List Label) (l : Label) → Contains w l → height l ≤ word_height w
word_high [] l c = absurd (Contains-none l c)
word_high (o ∷ w) l c = elim (Contains-cons_cases o w l c) [
  | inl e ↦ subst (λ j. height j ≤ height o + word_height w) e (omega arith)
  | inr d ↦ later (word_high w l d)
]
  where
    later : height l ≤ word_height w → height l ≤ height o + word_height w
    later h = omega (arith, h)

all_high : (xs : List Dtv) (x : Dtv) → Contains xs x → word_height x.word ≤ heights xs
all_high [] x c = absurd (Contains-none x c)
all_high (y ∷ xs) x c = elim (Contains-cons_cases y xs x c) [
  | inl e ↦ subst (λ z. word_height z.word ≤ word_height y.word + heights xs) e (omega arith)
  | inr d ↦ later (all_high xs x d)
]
  where
    later : word_height x.word ≤ heights xs → word_height x.word ≤ word_height y.word + heights xs
    later h = omega (arith, h)

new_in : (xs : List Dtv) (x : Dtv) → Contains xs x → Contains x.word (Field 8 (pos (suc (heights xs)))) → ⊥
new_in xs x c d = absurd (omega (arith, word_high x.word (Field 8 (pos (suc (heights xs)))) d, all_high xs x c))

some_new : (lines : List Line) (extra : List Dtv) → IsNew lines extra (pos (suc (heights (named_by lines extra))))
some_new lines extra = record {
  in_lines = λ l x c h d. new_in (named_by lines extra) x (side_named lines extra (named_by lines extra) refl l x c h) d;
  in_extra = λ x c d. new_in (named_by lines extra) x (extra_named lines extra (named_by lines extra) refl x c) d;
}

-- a named variable is above a new probe
named_free : (lines : List Line) (extra : List Dtv) (k : ℤ) (x : Dtv) → IsNew lines extra k → Contains (named_by lines extra) x → Contains x.word (Field 8 k) → ⊥
named_free lines extra k x new c d =
    let s : (y : Dtv) × IsGiven lines extra y × IsPrefix x y = (contents_law lines extra x).0 c in
    let e : Contains s.0.word (Field 8 k) = subst (λ (z : Dtv). Contains z.word (Field 8 k)) s.2.1 (Contains-append_left x.word s.2.0 (Field 8 k) d) in
    elim s.1 [
      | inl g ↦ new.in_lines g.0 s.0 g.1 g.2 e
      | inr g ↦ new.in_extra s.0 g e
    ]

abbrev one_node : Option ℕ → Option ℕ → Bool
one_node None n = false
one_node (Some m) None = false
one_node (Some m) (Some n) = nat_eq m n

node_one : (m n : Option ℕ) → one_node m n ≡ true → (i : ℕ) × (j : ℕ) × (m ≡ Some i) × (n ≡ Some j) × (i ≡ j)
node_one None n e = absurd (cc)
node_one (Some m) None e = absurd (cc)
node_one (Some m) (Some n) e = (m, n, refl, refl, eqb-true m n e)

some_nodes : (m n : Option ℕ) → IsSome m → IsSome n → ((i j : ℕ) → m ≡ Some i → n ≡ Some j → i ≡ j) → one_node m n ≡ true
some_nodes None n s t f = absurd (cc)
some_nodes (Some m) None s t f = absurd (cc)
some_nodes (Some m) (Some n) s t f = eq-eqb m n (f m n refl refl)

same_node : (lines : List Line) (order : Below) (graph : Graph) → IsShapeOf lines graph → (x y : Dtv) → IsTrue (one_node (node_of graph x) (node_of graph y)) ↔ Derivable order lines (Same x y)
same_node lines order graph shape x y = (
  λ e. (let r : (i : ℕ) × (j : ℕ) × (node_of graph x ≡ Some i) × (node_of graph y ≡ Some j) × (i ≡ j) = node_one (node_of graph x) (node_of graph y) e in (shape.one order x y r.0 r.1 r.2 r.3).0 r.4),
  λ d. (let b : Derivable order lines (VarLine x) × Derivable order lines (VarLine y) = are_there order lines d in
      some_nodes (node_of graph x) (node_of graph y) ((shape.there order x).1 b.0) ((shape.there order y).1 b.1) (λ i j e f. (shape.one order x y i j e f).1 d)),
)

module _ (order : Below) (lines : List Line) (extra known : List Dtv) (edges : List Edge) (whole : IsWholeTableOf lines extra known edges) where
  abbrev table : IsTableOf lines extra known edges
  table = whole.table

  abbrev A : Given
  A = L order lines extra known edges table

  is_table : IsTable A (is_among known) (edges_of known edges)
  is_table = record {
    sound = (where_law order lines extra known edges table).sound;
    lines = (where_law order lines extra known edges table).lines;
    closed = λ x y l m a b d k p q v w way push.
        (where_law order lines extra known edges table).closed x y l m a b d k (inr (all_matter A table.graph table.marks table.shape whole.whole (dot x l) v)) p q v w way push;
  }

  module _ (i j : ℕ) (h : i < length known) (g : j < length known) where
    abbrev x : Dtv
    x = at_number known i

    abbrev y : Dtv
    y = at_number known j

    abbrev X : Var
    X = vd x

    abbrev Y : Var
    Y = vd y

    x_named : Contains (named_by lines extra) x
    x_named = subst (λ xs. Contains xs x) table.is_named (i, h, get_or_default known i x no_variable h)

    y_named : Contains (named_by lines extra) y
    y_named = subst (λ xs. Contains xs y) table.is_named (j, g, get_or_default known j y no_variable g)

    exists : Der A (V X)
    exists = (frame order lines extra known edges table).there i h

    walk_bridge : (a b : Variance) (n : ℕ) → Walk edges (signed i a) (signed j b) n → Bridge A (Named (is_among known)) (st X a) (st Y b) n
    walk_bridge a b n w =
        (ways_law A (is_among known) (edges_of known edges) (named_all order lines extra known edges table) is_table (st X a) (st Y b) n).1 (name_at known i h) exists
        (subst (λ s. Way (EdgeOf (edges_of known edges)) (st X s) (st Y b) n) (sign_contra a) (subst (λ s. Way (EdgeOf (edges_of known edges)) (st X (sign_of (is_contra a))) (st Y s) n) (sign_contra b)
        ((numbered_law known edges (distinct order lines extra known edges table) (within order lines extra known edges table) (signed i a) (signed j b) n h g).0 w)))

    bridge_walk : (a b : Variance) (n : ℕ) → Bridge A (Named (is_among known)) (st X a) (st Y b) n → HasWalk edges (signed i a) (signed j b) n
    bridge_walk a b n r =
        let w : WayIn (EdgeOf (edges_of known edges)) (st X a) (st Y b) n = (ways_law A (is_among known) (edges_of known edges) (named_all order lines extra known edges table) is_table (st X a) (st Y b) n).0 r in (
          w.count,
          (numbered_law known edges (distinct order lines extra known edges table) (within order lines extra known edges table) (signed i a) (signed j b) w.count h g).1
              (subst (λ s. Way (EdgeOf (edges_of known edges)) (st X s) (st Y (sign_of (is_contra b))) w.count) (sym (sign_contra a)) (subst (λ s. Way (EdgeOf (edges_of known edges)) (st X a) (st Y s) w.count) (sym (sign_contra b)) w.way)),
          w.few,
        )

    module _ (k : ℤ) (new : IsNew lines extra k) (m : ℕ) where
      free : (l : Line) (z : Dtv) → Contains lines l → HasSide l z → Contains z.word (Field 8 k) → ⊥
      free l z c s d = new.in_lines l z c s d

      x_above : part k X ≡ above
      x_above = part-plain k X (λ d. named_free lines extra k x new x_named (subst (λ (z : Dtv). Contains z.word (Field 8 k)) (dv-vd x) d))

      y_above : part k Y ≡ above
      y_above = part-plain k Y (λ d. named_free lines extra k y new y_named (subst (λ (z : Dtv). Contains z.word (Field 8 k)) (dv-vd y) d))

      abbrev B : Given
      B = P k A X m free exists x_above

      to_probe : (v w : List Label) → Derivable order (probed lines x k m) (Sub (extended (longer x (Field 8 k)) v) (extended (longer y (Field 8 k)) w)) → Der B (S (rest (dot X (Field 8 k)) v) (rest (dot Y (Field 8 k)) w))
      to_probe v w d = der B (S (rest (dot X (Field 8 k)) v) (rest (dot Y (Field 8 k)) w)) (rw (dv-rest v (dot X (Field 8 k)), dv-rest w (dot Y (Field 8 k)), dv-vd x, dv-vd y) d)

      from_probe : (v w : List Label) → Der B (S (rest (dot X (Field 8 k)) v) (rest (dot Y (Field 8 k)) w)) → Derivable order (probed lines x k m) (Sub (extended (longer x (Field 8 k)) v) (extended (longer y (Field 8 k)) w))
      from_probe v w d = rw (dv-rest v (dot X (Field 8 k)), dv-rest w (dot Y (Field 8 k)), dv-vd x, dv-vd y) at d.derives

      seen : (v w : List Label) → Contains (pointer_words m) v → Contains (pointer_words m) w → Derivable order (probed lines x k m) (Sub (extended (longer x (Field 8 k)) v) (extended (longer y (Field 8 k)) w)) →
          Counted k A X m free exists x_above (is_among known) (named_all order lines extra known edges table) Y v w
      seen v w c e d =
          counted k A X m free exists x_above (is_among known) (named_all order lines extra known edges table) Y v w (pointers-of m v c).0 (pointers-of m w e).0 y_above (name_at known i h) (name_at known j g) (to_probe v w d)

      derived : (a b : Variance) (n : ℕ) (v w : List Label) → Bridge A (Named (is_among known)) (st X a) (st Y b) n → ArePointers v → ArePointers w → length v ≡ m → length w ≡ m → variance_of_word v ≡ a → variance_of_word w ≡ b →
          number w ≡ number v + n → Derivable order (probed lines x k m) (Sub (extended (longer x (Field 8 k)) v) (extended (longer y (Field 8 k)) w))
      derived a b n v w r p q s t e f o =
          from_probe v w (raised k A X m free exists x_above (flips_by table.graph) (are_flips A extra table.graph table.shape) (λ z. one_node (node_of table.graph (dv z)) (node_of table.graph (dv X)))
          (λ z. ((λ u. der A (E z X) ((same_node lines order table.graph table.shape (dv z) (dv X)).0 u)), (λ u. (same_node lines order table.graph table.shape (dv z) (dv X)).1 u.derives))) Y a b n v w r p q s t e f o)

    walk_counts : (a b : Variance) (n : ℕ) → Walk edges (signed i a) (signed j b) n → IsCount order lines extra x a y b n
    walk_counts a b n w =
        let r : Bridge A (Named (is_among known)) (st X a) (st Y b) n = walk_bridge a b n w in
        let s : Spellings a b n = spellings a b n (bridge_even A (Named (is_among known)) r) in
        let k : ℤ = pos (suc (heights (named_by lines extra))) in
        record {
          offset = k;
          is_new = some_new lines extra;
          letters = s.letters;
          left = s.left;
          right = s.right;
          left_in = subst (λ m. Contains (pointer_words m) s.left) s.left_size (pointers-in s.left s.left_pointers);
          right_in = subst (λ m. Contains (pointer_words m) s.right) s.right_size (pointers-in s.right s.right_pointers);
          left_sign = s.left_sign;
          right_sign = s.right_sign;
          below = derived k (some_new lines extra) s.letters a b n s.left s.right r s.left_pointers s.right_pointers s.left_size s.right_size s.left_sign s.right_sign s.apart;
          apart = s.apart;
        }

    counts_walk : (a b : Variance) (n : ℕ) → IsCount order lines extra x a y b n → HasWalk edges (signed i a) (signed j b) n
    counts_walk a b n c =
        let o : Counted c.offset A X c.letters (free c.offset c.is_new c.letters) exists (x_above c.offset c.is_new c.letters) (is_among known) (named_all order lines extra known edges table) Y c.left c.right
        = seen c.offset c.is_new c.letters c.left c.right c.left_in c.right_in c.below in
        let r : Bridge A (Named (is_among known)) (st X a) (st Y b) o.count =
        subst (λ s. Bridge A (Named (is_among known)) (st X s) (st Y b) o.count) c.left_sign (subst (λ s. Bridge A (Named (is_among known)) (st X (variance_of_word c.left)) (st Y s) o.count) c.right_sign o.bridge) in
        let w : HasWalk edges (signed i a) (signed j b) o.count = bridge_walk a b o.count r in
        (w.0, w.1, omega (arith, w.2, o.rises, c.apart))

pub count_law : CountLaw
count_law order lines extra known edges table i j a b n h g = (walk_counts order lines extra known edges table i j h g a b n, counts_walk order lines extra known edges table i j h g a b n)

pub rising_law : RisingLaw
rising_law order lines extra known edges table i j h g k m v w new c e d =
    let o : Counted k (A order lines extra known edges table) (vd (at_number known i)) m (free order lines extra known edges table i j h g k new m) (exists order lines extra known edges table i j h g) (x_above order lines extra known edges table i j h g k new m)
    (is_among known) (named_all order lines extra known edges table.table) (vd (at_number known j)) v w = seen order lines extra known edges table i j h g k new m v w c e d in
    omega (arith, o.rises)
