-- Tables of bytes that tell what lines do, and the same with a line more.
use Rattle.std.proofs.Common.{◌≡◌, ℕ, ◌<◌, ◌⊎◌, inl, inr, Bool, true, List, [], ◌∷◌, ◌++◌, Contains, Option, Some, None, length, get_or, refl, sym, ap, subst, ◌∙◌, arith}
use Rattle.std.specs.Prelude.{nat_eq, slice_get}
use Rattle.std.specs.Option.{is_some, MatchOption}
use Rattle.std.proofs.lemmas.List.{get_or_default, get_or_read}
use Rattle.std.proofs.lemmas.List.Elements.{Contains-append_cases, Contains-append_left, Contains-append_right}
use Rattle.std.proofs.lemmas.Option.{get_or_from_slice_get, slice_get_within}
use Rattle.rt_base.proofs.Numbers.{nat_same}
use Rattle.rt_lines.specs.declared.label.Label.TheVariants.{Load, Store}
use Rattle.rt_lines.specs.declared.variable.Dtv.{Dtv}
use Rattle.rt_lines.specs.declared.line.Line.{Line}
use Rattle.rt_lines.specs.declared.line.Line.TheVariants.{Sub}
use Rattle.rt_lines.specs.Orders.{Below}
use Rattle.rt_lines.specs.Sides.{sides}
use Rattle.rt_rules.specs.Rules.{HasSide, Derivable}
use Rattle.rt_rules.proofs.Covering.{derives_left, derives_right}
use Rattle.rt_rules.proofs.LineSides.{Contains-sides}
use Rattle.rt_rules.proofs.Lists.{Contains-none, Contains-cons_cases}
use Rattle.rt_bridge.specs.Growing.{Var, dot, dv, vd, Given, Fact, V, Der, HasSub}
use Rattle.rt_bridge.specs.Counted.{State as Stated, Push, half, kept, Bridge, here, turn, up, down, join, push}
use Rattle.rt_bridge.specs.Laws.{Named}
use Rattle.rt_bridge.proofs.Growing.{der}
use Rattle.rt_grid.specs.Tables.{Table, count_at, row_of, size_of}
use Rattle.rt_grid.proofs.Holding.{holds_by}
use Rattle.rt_named.specs.Origins.{no_variable}
use Rattle.rt_sat.specs.declared.family.Family.{Family}
use Rattle.rt_sat.specs.declared.family.Home.{Home}
use Rattle.rt_sat.specs.declared.increments.GrowingTable.{GrowingTable as Grown}
use Rattle.rt_sat.specs.declared.state.Edge.{Edge}
use Rattle.rt_sat.specs.declared.state.State.{State}
use Rattle.rt_sat.specs.declared.table.Begun.{Begun}
use Rattle.rt_sat.specs.Closings.{AreLineEdges}
use Rattle.rt_sat.specs.Deciding.{is_among}
use Rattle.rt_sat.specs.declared.gathering.Kin.{Kin}
use Rattle.rt_sat.specs.declared.links.Links.{Links}
use Rattle.rt_sat.specs.Inside.Links.{AreLinked, AreReady}
use Rattle.rt_sat.specs.Hints.{grid_of, members_of, no_table, state_at, IsFamily, IsHome, IsTold, IsToldAt, IsToldFamily}
use Rattle.rt_sat.specs.Increments.{named_of, Tells}
use Rattle.rt_sat.specs.Numbered.{at_number}
use Rattle.rt_sat.specs.Pushes.{AreSidesNamed, AreSound, IsInFrame}
use Rattle.rt_sat.specs.Tables.{place, IsBegun}
use Rattle.rt_sat.proofs.Below.{frame_by, from_der}
use Rattle.rt_sat.proofs.Closed.{in_frame}
use Rattle.rt_sat.proofs.Closings.{lines_sound}
use Rattle.rt_sat.proofs.Deciding.{among-from}
use Rattle.rt_sat.proofs.Frames.{side_named}
use Rattle.rt_sat.proofs.Sounding.{nought_derived}

module _ (known : List Dtv) (flips : List Bool) where
  -- a count of nought in the row of a state's place is told
  pub nought_told : (lines : List Edge) (family : Family) (from to : State) (left right : Home) (grid : Table) (row : List ℕ) → IsHome family from left → IsHome family to right → right.class ≡ left.class → length family.grids.items ≡ length family.members.items →
      grid ≡ get_or family.grids.items left.class grid → row ≡ row_of grid.rows left.index → length row ≡ size_of grid → nat_eq (get_or row right.index 0) 0 ≡ true → IsToldFamily known flips lines family → IsTold known flips lines from to 0
  nought_told lines family from to left right grid row at end class each read is long none told =
      let members : List ℕ = members_of family left.class in
      let same : grid ≡ grid_of family left.class = get_or_read family.grids.items left.class grid (subst (λ n. left.class < n) (sym each) at.class) read no_table in
      let less : right.index < length row = subst (λ n. right.index < n) (ap (λ n. size_of (grid_of family n)) class ∙ ap size_of (sym same) ∙ sym long) end.place in
      let count : count_at (row_of (grid_of family left.class).rows left.index) right.index ≡ 0 =
      ap (λ (g : Table). count_at (row_of g.rows left.index) right.index) (sym same) ∙ ap (λ xs. count_at xs right.index) (sym is) ∙ sym (get_or_default row right.index 0 255 less) ∙ nat_same (get_or row right.index 0) 0 none in
      let way : IsTold known flips lines (state_at members left.index) (state_at members right.index) 0 =
      subst (IsTold known flips lines (state_at members left.index) (state_at members right.index)) count
      ((told left.class at.class).rows left.index right.index (subst (λ n. n < 255) (sym count) (omega arith))) in
      subst (λ (s : State). IsTold known flips lines s to 0) at.is
      (subst (λ (s : State). IsTold known flips lines (state_at members left.index) s 0) (ap (λ n. state_at (members_of family n) right.index) (sym class) ∙ end.is) way)

  -- what is told by edges is told by more of them
  told_more : (lines more : List Edge) → ((e : Edge) → Contains lines e → Contains more e) → (s t : State) (k : ℕ) → IsTold known flips lines s t k → IsTold known flips more s t k
  told_more lines more within s t k told L frame sides sound = told L frame sides (λ e c. sound e (within e c))

  family_more : (lines more : List Edge) → ((e : Edge) → Contains lines e → Contains more e) → (family : Family) → IsToldFamily known flips lines family → IsToldFamily known flips more family
  family_more lines more within family told class less =
      let members : List ℕ = members_of family class in
      holds_by (IsToldAt known flips lines members) (IsToldAt known flips more members) (λ i j n. told_more lines more within (state_at members i) (state_at members j) n) (grid_of family class) (told class less)

  links_more : (lines more : List Edge) → ((e : Edge) → Contains lines e → Contains more e) → (links : Links) → AreLinked known flips lines links → AreLinked known flips more links
  links_more lines more within links linked = record {
    before = λ at s h. told_more lines more within s at 0 (linked.before at s h);
    behind = λ at s h. told_more lines more within at s 0 (linked.behind at s h);
  }

-- a number was found of a variable
named_found : (known : List Dtv) (x : Dtv) (found : Option ℕ) → MatchOption found (Contains known x → ⊥) (λ i. slice_get known i ≡ Some x) → is_some found ≡ true → Contains known x
named_found known x (Some i) e h = (i, slice_get_within known i x e, get_or_from_slice_get known i x x e)
named_found known x None n h = absurd (cc)

-- each side is named, or still to come
pub side_more : (known all before after : List Dtv) (side x : Dtv) (found : Option ℕ) → before ≡ side ∷ after → MatchOption found (Contains known side → ⊥) (λ i. slice_get known i ≡ Some side) → is_some found ≡ true →
    (Contains all x → Contains known x ⊎ Contains before x) → Contains all x → Contains known x ⊎ Contains after x
side_more known all before after side x found is at some all_before c = by (all_before c)
  where
    by : Contains known x ⊎ Contains before x → Contains known x ⊎ Contains after x
    by (inl d) = inl d
    by (inr d) = elim (Contains-cons_cases side after x (subst (λ xs. Contains xs x) is d)) [
      | inl e ↦ inl (subst (Contains known) e (named_found known side found at some))
      | inr f ↦ inr f
    ]

pub sides_named : (known : List Dtv) (line : Line) (left : List Dtv) → left ≡ [] → ((x : Dtv) → Contains (sides line) x → Contains known x ⊎ Contains left x) → (x : Dtv) → HasSide line x → Contains known x
sides_named known line left none each x h = by (each x (Contains-sides line x h))
  where
    by : Contains known x ⊎ Contains left x → Contains known x
    by (inl c) = c
    by (inr c) = absurd (Contains-none x (subst (λ xs. Contains xs x) none c))

-- the sides of subtype lines are named
sides_of : (lines : List Line) (known : List Dtv) (order : Below) → ((x y : Dtv) → Contains lines (Sub x y) → Contains known x × Contains known y) → AreSidesNamed (record { order = order; lines = lines }) known
sides_of lines known order sides x y h =
    let c : Contains known (dv x) × Contains known (dv y) = sides (dv x) (dv y) h in
    (among-from known (dv x) c.0, among-from known (dv y) c.1)

-- where it is told that one variable lies below another, it does
pub told_below : (order : Below) (lines : List Line) (grown : Grown) (tells : Tells lines grown) (x y : Dtv) (i j : ℕ) → slice_get (named_of grown) i ≡ Some x → slice_get (named_of grown) j ≡ Some y →
    IsTold (named_of grown) grown.frame.flips.items tells.edges (place i) (place j) 0 → Derivable order lines (Sub x y)
told_below order lines grown tells x y i j e f told =
    let known : List Dtv = named_of grown in
    let L : Given = record { order = order; lines = lines } in
    let frame : IsInFrame L known grown.frame.flips.items = tells.frame order in
    let d : Derivable order lines (Sub (at_number known i) (at_number known j)) =
    from_der L (at_number known i) (at_number known j)
    (nought_derived L (Named (is_among known)) (frame.there i (slice_get_within known i x e)) (told L frame (sides_of lines known order tells.sides) (tells.sound order))) in
    subst (λ z. Derivable order lines (Sub z y)) (get_or_from_slice_get known i x no_variable e)
    (subst (λ z. Derivable order lines (Sub (at_number known i) z)) (get_or_from_slice_get known j y no_variable f) d)

-- what a table begins with tells what the lines do
pub begun_tells : (lines : List Line) (extra : List Dtv) (marks : List Bool) (begun : Begun) (is : IsBegun lines extra marks begun) (grown : Grown) → grown.frame ≡ begun.frame → IsFamily (length begun.frame.named) grown.family →
    AreReady begun.frame.named begun.frame.flips.items grown.family grown.kin.links grown.kin.ready.items → AreLinked begun.frame.named begun.frame.flips.items begun.first.items grown.kin.links → IsToldFamily begun.frame.named begun.frame.flips.items begun.first.items grown.family → Tells lines grown
begun_tells lines extra marks begun is grown same family ready linked told =
    subst (λ f. Tells lines (record { frame = f; family = grown.family; kin = grown.kin })) (sym same) (record {
      edges = begun.first.items;
      distinct = is.distinct;
      frame = λ order. (let L : Given = record { order = order; lines = lines } in
          in_frame L begun.frame.named begun.frame.flips.items (frame_by L extra begun.frame.named is.graph is.is_named is.shape begun.frame.flips.items is.extra_there is.flagged));
      sides = λ x y c. (side_named lines extra begun.frame.named is.is_named (Sub x y) x c (inl refl), side_named lines extra begun.frame.named is.is_named (Sub x y) y c (inr refl));
      sound = λ order. lines_sound (record { order = order; lines = lines }) begun.frame.named begun.first.items is.entered;
      family = family;
      ready = ready;
      linked = linked;
      told = told;
    })

-- counted judgements of lines are those of more lines
module _ (L M : Given) (P : Var → Type 0) (more : (f : Fact) → Der L f → Der M f) (lines : (x y : Var) → HasSub L x y → HasSub M x y) where
  push_more : {x : Var} {l m : _} {d k : ℕ} {a b : _} → Push L x l m d a b k → Push M x l m d a b k
  push_more {x} (half p q f g h e) = half p q (more (V (dot x Load)) f) (more (V (dot x Store)) g) h e
  push_more kept = kept

  bridge_more : {x y : Stated} {k : ℕ} → Bridge L P x y k → Bridge M P x y k
  bridge_more (here {x} a p v) = here a p (more (V x) v)
  bridge_more (turn {x} a p v) = turn a p (more (V x) v)
  bridge_more (up {x} {y} h) = up (lines x y h)
  bridge_more (down {x} {y} h) = down (lines x y h)
  bridge_more (join b c) = join (bridge_more b) (bridge_more c)
  bridge_more (push {x} {y} {l} {m} p q v w b s) = push p q (more (V (dot x l)) v) (more (V (dot y m)) w) (bridge_more b) (push_more s)

module _ (order : Below) (lines more : List Line) where
  abbrev both : Given
  both = record { order = order; lines = lines ++ more }

  der_left : (f : Fact) → Der (record { order = order; lines = lines }) f → Der both f
  der_left f d = der both f (derives_left order lines more d.derives)

  der_right : (f : Fact) → Der (record { order = order; lines = more }) f → Der both f
  der_right f d = der both f (derives_right order lines more d.derives)

  frame_more : (known : List Dtv) (flips : List Bool) → IsInFrame (record { order = order; lines = lines }) known flips → IsInFrame both known flips
  frame_more known flips frame = record {
    there = λ n h. der_left (V (vd (at_number known n))) (frame.there n h);
    flip = λ n h e. (let f = frame.flip n h e in
        (der_left (V (dot (vd (at_number known n)) Load)) f.0, der_left (V (dot (vd (at_number known n)) Store)) f.1));
  }

  sound_more : (known : List Dtv) (old new : List Edge) → AreSound (record { order = order; lines = lines }) known old → AreSound (record { order = order; lines = more }) known new → AreSound both known (old ++ new)
  sound_more known old new a b e c = elim (Contains-append_cases old new e c) [
    | inl d ↦ bridge_more (record { order = order; lines = lines }) both (Named (is_among known)) der_left (λ x y h. Contains-append_left lines more (Sub (dv x) (dv y)) h) (a e d)
    | inr d ↦ bridge_more (record { order = order; lines = more }) both (Named (is_among known)) der_right (λ x y h. Contains-append_right lines more (Sub (dv x) (dv y)) h) (b e d)
  ]

-- lines more, with what their edges tell
pub tells_lines : (lines those : List Line) (old new : Grown) (edges : List Edge) → Tells lines old → ((l : Line) (x : Dtv) → Contains those l → HasSide l x → Contains (named_of old) x) → AreLineEdges those (named_of old) edges → new.frame ≡ old.frame →
    IsFamily (length (named_of old)) new.family → new.kin ≡ old.kin → AreReady (named_of old) old.frame.flips.items new.family new.kin.links new.kin.ready.items →
    ((more : List Edge) → ((e : Edge) → Contains edges e → Contains more e) → AreLinked (named_of old) old.frame.flips.items more old.kin.links → IsToldFamily (named_of old) old.frame.flips.items more old.family → IsToldFamily (named_of old) old.frame.flips.items more new.family) →
    Tells (lines ++ those) new
tells_lines lines those old new edges tells named are same family kin ready told =
    let known : List Dtv = named_of old in
    let flips : List Bool = old.frame.flips.items in
    let linked : AreLinked known flips (tells.edges ++ edges) old.kin.links = links_more known flips tells.edges (tells.edges ++ edges) (Contains-append_left tells.edges edges) old.kin.links tells.linked in
    subst (λ f. Tells (lines ++ those) (record { frame = f; family = new.family; kin = new.kin })) (sym same) (record {
      edges = tells.edges ++ edges;
      distinct = tells.distinct;
      frame = λ order. frame_more order lines those known flips (tells.frame order);
      sides = λ x y c. (elim (Contains-append_cases lines those (Sub x y) c) [
        | inl d ↦ tells.sides x y d
        | inr d ↦ (named (Sub x y) x d (inl refl), named (Sub x y) y d (inr refl))
      ]);
      sound = λ order. sound_more order lines those known tells.edges edges (tells.sound order) (lines_sound (record { order = order; lines = those }) known edges are);
      family = family;
      ready = ready;
      linked = subst (λ (k : Kin). AreLinked known flips (tells.edges ++ edges) k.links) (sym kin) linked;
      told = told (tells.edges ++ edges) (Contains-append_right tells.edges edges) linked (family_more known flips tells.edges (tells.edges ++ edges) (Contains-append_left tells.edges edges) old.family tells.told);
    })

-- a side of the only line
pub sides_one : (known : List Dtv) (line : Line) → ((x : Dtv) → HasSide line x → Contains known x) → (l : Line) (x : Dtv) → Contains (line ∷ []) l → HasSide l x → Contains known x
sides_one known line named l x c h = elim (Contains-cons_cases line [] l c) [
  | inl e ↦ named x (subst (λ (l : Line). HasSide l x) (sym e) h)
  | inr d ↦ absurd (Contains-none l d)
]
