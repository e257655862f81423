-- A base is joined to a procedure or a global exactly if its chains derive that it has the shape of the variable for these.
use Rattle.std.proofs.Common.{◌≡◌, ◌↔◌, ℕ, ◌⊎◌, inl, inr, Option, Some, None, IsSome, List, [], ◌∷◌, ◌++◌, Contains, refl, sym, ap}
use Rattle.std.proofs.Common.{subst, ◌∙◌}
use Rattle.std.proofs.lemmas.List.Elements.{Contains-append_cases, Contains-append_left, Contains-append_right}
use Rattle.rt_base.proofs.Lists.{Contains-none, Contains-here, Contains-there, Contains-cons_cases, Contains-flat_map}
use Rattle.rt_base.proofs.Lists.{Contains-flat_map_source}
use Rattle.rt_lines.specs.declared.label.Label.{Label}
use Rattle.rt_lines.specs.declared.variable.Base.{Base}
use Rattle.rt_lines.specs.declared.variable.Base.TheVariants.{Proc, Global, Exist, Outer}
use Rattle.rt_lines.specs.declared.variable.Dtv.{Dtv}
use Rattle.rt_lines.specs.declared.line.Line.{Line}
use Rattle.rt_lines.specs.declared.line.Line.TheVariants.{Var, Same, Sub, Low, Up}
use Rattle.rt_lines.specs.Orders.{Below}
use Rattle.rt_rules.specs.Rules.{HasSide, Derivable}
use Rattle.rt_rules.specs.Rules.Derivable.{named, prefix, left_side, right_side, same_letter, same_line, same_sub, same_self, same_back}
use Rattle.rt_rules.specs.Rules.Derivable.{same_chain, same_longer, sub_line, sub_self, sub_chain, sub_co, sub_contra, sub_pointer}
use Rattle.rt_rules.specs.Rules.Derivable.{low_line, up_line, low_sub, up_sub}
use Rattle.rt_rules.specs.Laws.{NamesBase}
use Rattle.rt_rules.specs.Reduced.{Joins, IsJoined}
use Rattle.rt_rules.specs.Reduced.IsJoined.{joined_self, joined_line}
use Rattle.rt_rules.proofs.Carry.{are_there}
use Rattle.rt_shape.specs.Graphs.{Graph, bare, node_of}
use Rattle.rt_shape.specs.Shapes.{IsShapeOf}
use Rattle.rt_reduction.specs.Emits.{first_side, IsFixed, IsAnchored, Keeps}
use Rattle.rt_reduction.specs.Emits.Keeps.{ends, stays, goes}
use Rattle.rt_reduction.proofs.Anchoring.{first_is_side}
use Rattle.rt_emit.specs.Inside.Joins.{ground, ground_links, links_of, links, HasNoOuter, IsGrounded, IsKeptOrLeft}
use Rattle.rt_base.proofs.Options.{some_of}

not_empty : (w : List Label) (l : Label) → w ++ l ∷ [] ≡ [] → ⊥
not_empty [] l e = cc
not_empty (m ∷ w) l e = cc

-- no order of constants is needed
abbrev none_below : Below
none_below = record { count = 0; cells = [] }

module _ (lines : List Line) (inner : HasNoOuter lines) where
  abbrev L : Line → Type 0
  L j = Derivable none_below (links lines) j

  abbrev Anchored : Base → Type 0
  Anchored b = (b ≡ Outer 0) ⊎ IsAnchored lines b

  abbrev Together : Dtv → Dtv → Type 0
  Together x y = (x.word ≡ []) × (y.word ≡ []) × (Anchored x.base → Anchored y.base) × (Anchored y.base → Anchored x.base)

  abbrev Means : Line → Type 0
  Means (Var x) = x.word ≡ []
  Means (Same x y) = Together x y
  Means (Sub x y) = Together x y
  Means (Low k x) = x.word ≡ []
  Means (Up x k) = x.word ≡ []

  abbrev IsLink : Line → Type 0
  IsLink l = (x : Dtv) × (y : Dtv) × (l ≡ Same x y) × Together x y

  on_ground : (b : Base) → IsFixed b → Together (bare b) ground
  on_ground b f = (refl, refl, λ h. inl refl, λ h. inr (b, f, joined_self))

  only : (k l : Line) → (k ≡ l) ⊎ Contains [] l → k ≡ l
  only k l (inl e) = e
  only k l (inr c) = absurd (Contains-none l c)

  ground_source : (b : Base) (l : Line) → Contains (ground_links b) l → IsLink l
  ground_source (Proc n) l c = (
    bare (Proc n),
    ground,
    sym (only (Same (bare (Proc n)) ground) l (Contains-cons_cases (Same (bare (Proc n)) ground) [] l c)),
    on_ground (Proc n) tt,
  )
  ground_source (Global n) l c = (
    bare (Global n),
    ground,
    sym (only (Same (bare (Global n)) ground) l (Contains-cons_cases (Same (bare (Global n)) ground) [] l
        c)),
    on_ground (Global n) tt,
  )
  ground_source (Exist n) l c = absurd (Contains-none l c)
  ground_source (Outer n) l c = absurd (Contains-none l c)

  onward : (k : Line) (x y : Dtv) → Contains lines k → HasSide k x → Joins k y.base x.base → Anchored x.base → Anchored y.base
  onward k x y c h j (inl e) = absurd (inner k x 0 c h e)
  onward k x y c h j (inr (b, f, chain)) = inr (b, f, joined_line k c j chain)

  pair_source : (k : Line) (x y : Dtv) (l : Line) → Contains lines k → HasSide k x → HasSide k y → Joins k x.base y.base →
      Joins k y.base x.base →
      Contains (Same (bare x.base) (bare y.base) ∷ ground_links x.base ++ ground_links y.base) l → IsLink l
  pair_source k x y l c h i j j' d = by (Contains-cons_cases (Same (bare x.base) (bare y.base)) (ground_links x.base ++ ground_links
      y.base) l d)
    where
      grounds : Contains (ground_links x.base) l ⊎ Contains (ground_links y.base) l → IsLink l
      grounds (inl e) = ground_source x.base l e
      grounds (inr e) = ground_source y.base l e

      by : (Same (bare x.base) (bare y.base) ≡ l) ⊎ Contains (ground_links x.base ++ ground_links y.base) l → IsLink l
      by (inl e) = (bare x.base, bare y.base, sym e, (refl, refl, onward k x y c h j', onward k y x c i j))
      by (inr e) = grounds (Contains-append_cases (ground_links x.base) (ground_links y.base) l e)

  of_line : (k l : Line) → Contains lines k → Contains (links_of k) l → IsLink l
  of_line (Var x) l c d = ground_source x.base l d
  of_line (Same x y) l c d = pair_source (Same x y) x y l c (inl refl) (inr refl) (inl (refl, refl)) (inr (refl, refl)) d
  of_line (Sub x y) l c d = pair_source (Sub x y) x y l c (inl refl) (inr refl) (inl (refl, refl)) (inr (refl, refl)) d
  of_line (Low k x) l c d = ground_source x.base l d
  of_line (Up x k) l c d = ground_source x.base l d

  is_link : (l : Line) → Contains (links lines) l → IsLink l
  is_link l c = let s = Contains-flat_map_source links_of lines l c in of_line s.0 l s.1 s.2

  link_side : (l : Line) (x : Dtv) → IsLink l → HasSide l x → x.word ≡ []
  link_side l x (u, v, e, t) h = by (subst (λ k. HasSide k x) e h)
    where
      by : (u ≡ x) ⊎ (v ≡ x) → x.word ≡ []
      by (inl f) = subst (λ z. z.word ≡ []) f t.0
      by (inr f) = subst (λ z. z.word ≡ []) f t.1

  means_link : (l : Line) → IsLink l → Means l
  means_link l (u, v, e, t) = subst Means (sym e) t

  back : (x y : Dtv) → Together x y → Together y x
  back x y (e, f, g, h) = (f, e, h, g)

  itself : (x : Dtv) → x.word ≡ [] → Together x x
  itself x e = (e, e, λ h. h, λ h. h)

  chain : (x y z : Dtv) → Together x y → Together y z → Together x z
  chain x y z a b = (a.0, b.1, λ h. b.2 (a.2 h), λ h. a.3 (b.3 h))

  means : {j : Line} → L j → Means j
  means (named l {x = x} c h) = link_side l x (is_link l c) h
  means (prefix {x = x} l d) = absurd (not_empty x.word l (means d))
  means (left_side d) = (means d).0
  means (right_side d) = (means d).1
  means (same_letter {x = x} l d e) = absurd (not_empty x.word l (means e))
  means (same_line {x = x} {y = y} c) = means_link (Same x y) (is_link (Same x y) c)
  means (same_sub d) = means d
  means (same_self {x = x} d) = itself x (means d)
  means (same_back {x = x} {y = y} d) = back x y (means d)
  means (same_chain {x = x} {y = y} {z = z} d e) = chain x y z (means d) (means e)
  means (same_longer {x = x} l d e) = absurd (not_empty x.word l (means e))
  means (sub_line {x = x} {y = y} c) = means_link (Sub x y) (is_link (Sub x y) c)
  means (sub_self {x = x} d) = itself x (means d)
  means (sub_chain {x = x} {y = y} {z = z} d e) = chain x y z (means d) (means e)
  means (sub_co {y = y} l d e s) = absurd (not_empty y.word l (means e))
  means (sub_contra {y = y} l d e s) = absurd (not_empty y.word l (means e))
  means (sub_pointer x d e) = absurd (not_empty x.word _ (means d))
  means (low_line {k = k} {x = x} c) = link_side (Low k x) x (is_link (Low k x) c) refl
  means (up_line {k = k} {x = x} c) = link_side (Up x k) x (is_link (Up x k) c) refl
  means (low_sub d e a) = (means e).1
  means (up_sub d e a) = (means d).0

  -- what a line says of a base of its sides stands among its chains
  in_links : (l k : Line) (x : Dtv) → HasSide l x → Contains (ground_links x.base) k → Contains (links_of l) k
  in_links (Var y) k x h c = subst (λ z. Contains (ground_links z.base) k) (sym h) c
  in_links (Low n y) k x h c = subst (λ z. Contains (ground_links z.base) k) (sym h) c
  in_links (Up y n) k x h c = subst (λ z. Contains (ground_links z.base) k) (sym h) c
  in_links (Same y z) k x (inl h) c = Contains-there (Same (bare y.base) (bare z.base)) (ground_links y.base ++ ground_links z.base) k
      (Contains-append_left (ground_links y.base) (ground_links z.base) k (subst (λ u. Contains (ground_links u.base) k) (sym h) c))
  in_links (Same y z) k x (inr h) c = Contains-there (Same (bare y.base) (bare z.base)) (ground_links y.base ++ ground_links z.base) k
      (Contains-append_right (ground_links y.base) (ground_links z.base) k (subst (λ u. Contains (ground_links u.base) k) (sym h) c))
  in_links (Sub y z) k x (inl h) c = Contains-there (Same (bare y.base) (bare z.base)) (ground_links y.base ++ ground_links z.base) k
      (Contains-append_left (ground_links y.base) (ground_links z.base) k (subst (λ u. Contains (ground_links u.base) k) (sym h) c))
  in_links (Sub y z) k x (inr h) c = Contains-there (Same (bare y.base) (bare z.base)) (ground_links y.base ++ ground_links z.base) k
      (Contains-append_right (ground_links y.base) (ground_links z.base) k (subst (λ u. Contains (ground_links u.base) k) (sym h) c))

  on_fixed : (b : Base) → IsFixed b → Contains (ground_links b) (Same (bare b) ground)
  on_fixed (Proc n) f = Contains-here (Same (bare (Proc n)) ground) []
  on_fixed (Global n) f = Contains-here (Same (bare (Global n)) ground) []
  on_fixed (Exist n) f = absurd f
  on_fixed (Outer n) f = absurd f

  fixed_link : (b : Base) → NamesBase lines b → IsFixed b → L (Same (bare b) ground)
  fixed_link b (l, x, c, h, e) f =
      same_line (Contains-flat_map links_of lines l (Same (bare b) ground) c
      (in_links l (Same (bare b) ground) x h (subst (λ a. Contains (ground_links a) (Same (bare b) ground)) (sym e) (on_fixed b f))))

  pair_link : (l : Line) (x y : Dtv) (a b : Base) → Contains lines l → Contains (links_of l) (Same (bare x.base) (bare y.base)) →
      ((x.base ≡ a) × (y.base ≡ b)) ⊎ ((x.base ≡ b) × (y.base ≡ a)) → L (Same (bare a) (bare b))
  pair_link l x y a b c d (inl (e, f)) =
      subst (λ z. L (Same (bare a) (bare z))) f (subst (λ z. L (Same (bare z) (bare y.base))) e (same_line (Contains-flat_map links_of
      lines l (Same (bare x.base) (bare y.base)) c d)))
  pair_link l x y a b c d (inr (e, f)) =
      same_back (subst (λ z. L (Same (bare b) (bare z))) f (subst (λ z. L (Same (bare z) (bare y.base))) e (same_line (Contains-flat_map
      links_of lines l (Same (bare x.base) (bare y.base)) c d))))

  join_link : (l : Line) (a b : Base) → Contains lines l → Joins l a b → L (Same (bare a) (bare b))
  join_link (Var x) a b c j = absurd j
  join_link (Same x y) a b c j = pair_link (Same x y) x y a b c (Contains-here (Same (bare x.base) (bare y.base)) (ground_links x.base ++
      ground_links y.base)) j
  join_link (Sub x y) a b c j = pair_link (Sub x y) x y a b c (Contains-here (Same (bare x.base) (bare y.base)) (ground_links x.base ++
      ground_links y.base)) j
  join_link (Low k x) a b c j = absurd j
  join_link (Up x k) a b c j = absurd j

  join_named : (l : Line) (a b : Base) → Contains lines l → Joins l a b → NamesBase lines b
  join_named (Var x) a b c j = absurd j
  join_named (Same x y) a b c (inl (e, f)) = (Same x y, y, c, inr refl, f)
  join_named (Same x y) a b c (inr (e, f)) = (Same x y, x, c, inl refl, e)
  join_named (Sub x y) a b c (inl (e, f)) = (Sub x y, y, c, inr refl, f)
  join_named (Sub x y) a b c (inr (e, f)) = (Sub x y, x, c, inl refl, e)
  join_named (Low k x) a b c j = absurd j
  join_named (Up x k) a b c j = absurd j

  joined_ground : {a b : Base} → IsJoined lines a b → NamesBase lines a → IsFixed b → L (Same (bare a) ground)
  joined_ground {a} joined_self h f = fixed_link a h f
  joined_ground (joined_line {a = a} {b = b} l c j rest) h f =
      same_chain (join_link l a b c j) (joined_ground rest (join_named l a b c j) f)

  module _ (graph : Graph) (is_shape : IsShapeOf (links lines) graph) where
    grounded_same : (b : Base) → IsGrounded graph b → L (Same (bare b) ground)
    grounded_same b (n, e, f) = (is_shape.one none_below (bare b) ground n n e f).0 refl

    same_grounded : (b : Base) → L (Same (bare b) ground) → IsGrounded graph b
    same_grounded b d =
        let both : L (Var (bare b)) × L (Var ground) = are_there none_below (links lines) d in
        let m : (n : ℕ) × (node_of graph (bare b) ≡ Some n) =
        some_of (node_of graph (bare b)) ((is_shape.there none_below (bare b)).1 both.0) in
        let n : (n : ℕ) × (node_of graph ground ≡ Some n) = some_of (node_of graph ground) ((is_shape.there none_below ground).1 both.1) in
        let same : m.0 ≡ n.0 = (is_shape.one none_below (bare b) ground m.0 n.0 m.1 n.1).1 d in
        (m.0, m.1, n.1 ∙ ap Some (sym same))

    inner_anchored : (l : Line) (x : Dtv) → Contains lines l → HasSide l x → Anchored x.base → IsAnchored lines x.base
    inner_anchored l x c h (inl e) = absurd (inner l x 0 c h e)
    inner_anchored l x c h (inr a) = a

    -- whether a chain leads from the line to a procedure or a global
    pub decided : (l : Line) → Contains lines l → IsGrounded graph (first_side l).base ↔ IsAnchored lines (first_side l).base
    decided l c = (
      λ g. inner_anchored l (first_side l) c (first_is_side l) ((means (grounded_same (first_side l).base g)).3 (inl refl)),
      λ a. same_grounded (first_side l).base (joined_ground a.2 (l, first_side l, c, first_is_side l, refl) a.1),
    )

module _ (P : Line → Type 0) where
  pub keeps_one : {lines kept : List Line} (l : Line) → Keeps P lines kept → P l → Keeps P (lines ++ l ∷ []) (kept ++ l ∷ [])
  keeps_one l ends p = stays l [] [] p ends
  keeps_one l (stays m lines kept h k) p = stays m (lines ++ l ∷ []) (kept ++ l ∷ []) h (keeps_one l k p)
  keeps_one l (goes m lines kept h k) p = goes m (lines ++ l ∷ []) (kept ++ l ∷ []) h (keeps_one l k p)

  pub loses_one : {lines kept : List Line} (l : Line) → Keeps P lines kept → (P l → ⊥) → Keeps P (lines ++ l ∷ []) kept
  loses_one l ends p = goes l [] [] p ends
  loses_one l (stays m lines kept h k) p = stays m (lines ++ l ∷ []) kept h (loses_one l k p)
  loses_one l (goes m lines kept h k) p = goes m (lines ++ l ∷ []) kept h (loses_one l k p)

-- the line is kept where its base is grounded, and not where it isn't
pub one_kept : (lines : List Line) → HasNoOuter lines → (graph : Graph) → IsShapeOf (links lines) graph →
    (done : List Line) (l : Line) (old new : List Line) →
    Contains lines l → Keeps (λ k. IsAnchored lines (first_side k).base) done old → IsKeptOrLeft graph l old new →
    Keeps (λ k. IsAnchored lines (first_side k).base) (done ++ l ∷ []) new
one_kept lines inner graph is_shape done l old new c k (inl (g, e)) =
    subst (λ ls. Keeps (λ k. IsAnchored lines (first_side k).base) (done ++ l ∷ []) ls) (sym e)
    (keeps_one (λ k. IsAnchored lines (first_side k).base) l k ((decided lines inner graph is_shape l c).0 g))
one_kept lines inner graph is_shape done l old new c k (inr (n, e)) =
    subst (λ ls. Keeps (λ k. IsAnchored lines (first_side k).base) (done ++ l ∷ []) ls) (sym e)
    (loses_one (λ k. IsAnchored lines (first_side k).base) l k (λ a. n ((decided lines inner graph is_shape l c).1 a)))
