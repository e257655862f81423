-- From a grown tree to the sketch.
use Rattle.std.proofs.Common.{◌≡◌, ℕ, ◌<◌, inl, inr, Option, Some, None, IsSome, List, [], ◌∷◌, All, Contains}
use Rattle.std.proofs.Common.{length, refl, sym, ap, subst, ◌∙◌}
use Rattle.std.specs.Prelude.{◌↔◌, MatchOption, slice_get}
use Rattle.std.specs.Option.{option_and_then}
use Rattle.std.proofs.lemmas.List.Elements.{All-contains}
use Rattle.std.proofs.lemmas.Option.{get_or_from_slice_get, slice_get_within}
use Rattle.rt_base.proofs.Lists.{Contains-none}
use Rattle.rt_lines.specs.declared.label.Label.{Label}
use Rattle.rt_lines.specs.declared.variable.Base.TheVariants.{Proc}
use Rattle.rt_lines.specs.declared.variable.Dtv.{Dtv}
use Rattle.rt_lines.specs.declared.line.Line.{Line}
use Rattle.rt_lines.specs.declared.line.Line.TheVariants.{Low, Up, Var}
use Rattle.rt_lines.specs.Lines.{HasConstantsBelow}
use Rattle.rt_lines.specs.Orders.{Below}
use Rattle.rt_lines.specs.OrderFacts.{IsOrder}
use Rattle.rt_rules.specs.Rules.{extended, longer, Derivable}
use Rattle.rt_rules.proofs.Covering.{extended-cons, extended-nil, front}
use Rattle.rt_named.specs.Naming.{named as all_named}
use Rattle.rt_loose.proofs.Known.{known_there}
use Rattle.rt_loose.proofs.Lawful.{start_law}
use Rattle.rt_shape.specs.Graphs.{bare}
use Rattle.rt_lattice.specs.Bounds.{IsBottom, IsTop}
use Rattle.rt_lattice.specs.Lattices.{IsBelow, IsLattice, NamedOrder, size_of}
use Rattle.rt_tree.specs.Trees.{Node, Nodes, AreSame, IsBreadthFirst, IsMinimal, IsTree, leaf, marks_from, marks_of, node_at, step_of, walk}
use Rattle.rt_tree.proofs.Words.{leads, marked, node_of as node_there, walk_in}
use Rattle.rt_ways.specs.Pushes.{variable_at}
use Rattle.rt_sketch.specs.declared.machine.Machine.{Machine}
use Rattle.rt_sketch.specs.declared.state.State.{State}
use Rattle.rt_sketch.specs.Bounds.{AreBelow, IsLow, IsUp}
use Rattle.rt_sketch.specs.Growths.{IsGrown}
use Rattle.rt_sketch.specs.Sketches.{AreMarks, IsAdmitted, IsSketchOf, of_procedure}
use Rattle.rt_sketch.specs.States.{AreSetsOf, Denotes, IsMachineOf, sets_of}
use Rattle.rt_sketch.specs.Unfoldings.{IsUnfolded}
use Rattle.rt_sketch.proofs.Leading.{led_none}
use Rattle.rt_sketch.proofs.Marking.{low_mark, up_mark}
use Rattle.rt_base.proofs.Options.{none_is}

-- the bounds of lines are below a count
pub lows_below : (lines : List Line) (machine : Machine) (count : ℕ) → IsMachineOf lines machine → All (HasConstantsBelow count) lines →
    AreBelow count machine.lows.items
lows_below lines machine count is all n k row =
    let low : IsLow machine.ways.named lines n k = (is.lows.bound n k).0 row in
    All-contains (HasConstantsBelow count) lines (Low k (variable_at machine.ways.named n)) all low.1

pub ups_below : (lines : List Line) (machine : Machine) (count : ℕ) → IsMachineOf lines machine → All (HasConstantsBelow count) lines →
    AreBelow count machine.ups.items
ups_below lines machine count is all n k row =
    let up : IsUp machine.ways.named lines n k = (is.ups.bound n k).0 row in
    All-contains (HasConstantsBelow count) lines (Up (variable_at machine.ways.named n) k) all up.1

module _ (order : Below) (lines : List Line) (machine : Machine) (first : State) (tree : Nodes)
    (grown : IsGrown order lines machine first tree) where
  abbrev At : ℕ → Dtv → Type 0
  At n x = (s : State) × (slice_get grown.states n ≡ Some s) × Denotes lines machine s x

  abbrev Leads : Dtv → Option ℕ → Type 0
  Leads x o = MatchOption o ((order : Below) → Derivable order lines (Var x) → ⊥) (λ n. At n x)

  -- a word leads to a node of what it leads to from what the node denotes
  walked : (w : List Label) (n : ℕ) (x : Dtv) → At n x → Leads (extended x w) (walk tree n w)
  walked [] n x at = subst (λ y. At n y) (sym (extended-nil x)) at
  walked (l ∷ w) n x (s, e, d) =
      subst (λ y. Leads y (option_and_then (λ m. walk tree m w) (step_of tree n l))) (extended-cons x l w)
      (by (λ m at. walked w m (longer x l) at) (step_of tree n l) (grown.growing.steps n l (slice_get_within grown.states n s e) s x e d))
    where
      by : ((m : ℕ) → At m (longer x l) → Leads (extended (longer x l) w) (walk tree m w)) → (o : Option ℕ) →
          Leads (longer x l) o → Leads (extended (longer x l) w) (option_and_then (λ m. walk tree m w) o)
      by rest None not = λ other v. not other (front other lines (longer x l) w v)
      by rest (Some m) at = rest m at

  module _ (is : IsMachineOf lines machine) (own : ℕ) (denotes : Denotes lines machine first (bare (Proc own))) where
    from_root : (w : List Label) → Leads (of_procedure own w) (walk tree 0 w)
    from_root w = walked w 0 (bare (Proc own)) (first, grown.begins, denotes)

    there : (s : State) (x : Dtv) → Denotes lines machine s x → Derivable order lines (Var x)
    there s x d = (is.shape.there order x).0 (subst IsSome (sym d.node) refl)

    grown_words : (w : List Label) → IsSome (walk tree 0 w) ↔ IsAdmitted order lines own w
    grown_words w = (out (walk tree 0 w) (from_root w), back w)
      where
        out : (o : Option ℕ) → Leads (of_procedure own w) o → IsSome o → IsAdmitted order lines own w
        out None not some = absurd (none_is None refl some)
        out (Some n) at some = inr (there at.0 (of_procedure own w) at.2)

        some_there : (u : List Label) (o : Option ℕ) → Leads (of_procedure own u) o →
            Derivable order lines (Var (of_procedure own u)) → IsSome o
        some_there u None not v = absurd (not order v)
        some_there u (Some n) at v = refl

        back : (u : List Label) → IsAdmitted order lines own u → IsSome (walk tree 0 u)
        back u (inl e) = subst (λ v. IsSome (walk tree 0 v)) (sym e) refl
        back u (inr v) = some_there u (walk tree 0 u) (from_root u) v

    grown_marks : (w : List Label) (m : ℕ × ℕ) → marks_from tree 0 w ≡ Some m → AreMarks order lines (of_procedure own w) m
    grown_marks w m e =
        let to = leads tree 0 w m e in
        let at : At to.0 (of_procedure own w) = subst (Leads (of_procedure own w)) to.1 (from_root w) in
        let less : to.0 < length tree = subst (λ n. to.0 < n) (sym grown.growing.each) (slice_get_within grown.states to.0 at.0 at.1) in
        let node = node_there tree to.0 less in
        let same : marks_of node.0 ≡ m = the (sym (marked tree 0 w to.0 node.0 to.1 node.1) ∙ e) in
        subst (AreMarks order lines (of_procedure own w)) (ap marks_of (at_get tree to.0 node.0 node.1) ∙ same)
        (grown.growing.marks to.0 at.0 (of_procedure own w) at.1 at.2)
      where
        the : {a b : ℕ × ℕ} → Some a ≡ Some b → a ≡ b
        the e = cc

        at_get : (t : Nodes) (n : ℕ) (x : Node) → slice_get t n ≡ Some x → node_at t n ≡ x
        at_get t n x e = get_or_from_slice_get t n x (leaf 0 0) e

    -- a grown tree has the words and marks
    pub whole : IsUnfolded order own lines tree
    whole = record { words = grown_words; marks = grown_marks }

-- where there is no such procedure, the root alone has them
module _ (lines : List Line) (machine : Machine) (is : IsMachineOf lines machine) (lattice : NamedOrder)
    (is_lattice : IsLattice lattice) (is_order : IsOrder lattice.order) (constants : All (HasConstantsBelow (size_of lattice)) lines)
    (own : ℕ) (none : (order : Below) → Derivable order lines (Var (bare (Proc own))) → ⊥) where
  nothing : AreSetsOf lines machine.ways None [] [] (bare (Proc own))
  nothing = record {
    below_in = λ n c. absurd (Contains-none n c);
    above_in = λ n c. absurd (Contains-none n c);
    sets = λ order. start_law order lines (Proc own) (sets_of machine.ways None [] [])
        (led_none lines machine.ways is.ways order (λ n. Contains (all_named lines []) n × (bare (Proc own) ≡ n)) [] []
        (λ y p. none order (known_there order lines (bare (Proc own)) (subst (Contains (all_named lines [])) (sym p.1) p.0)))
        (λ w. (λ c. Contains-none w c, λ z. absurd z)) (λ w. (λ c. Contains-none w c, λ z. absurd z)));
  }

  module _ (low up : ℕ) (bottom : IsBottom (IsBelow lattice) (size_of lattice) low)
      (top : IsTop (IsBelow lattice) (size_of lattice) up) where
    root_marks : AreMarks lattice.order lines (bare (Proc own)) (low, up)
    root_marks = record {
      low = low_mark lines machine.ways lattice is_lattice is_order constants (bare (Proc own)) None [] [] nothing machine.lows.items low
          is.lows (lows_below lines machine (size_of lattice) is constants)
          (record { within = bottom.within; above = λ k has. absurd (Contains-none has.0 has.1); least = λ u h all. bottom.below u h });
      up = up_mark lines machine.ways lattice is_lattice is_order constants (bare (Proc own)) None [] [] nothing machine.ups.items up is.ups
          (ups_below lines machine (size_of lattice) is constants)
          (record { within = top.within; below = λ k has. absurd (Contains-none has.0 has.1); greatest = λ u h all. top.above u h });
    }

    pub alone : IsUnfolded lattice.order own lines (leaf low up ∷ [])
    alone = record { words = words; marks = marks }
      where
        words : (w : List Label) → IsSome (walk (leaf low up ∷ []) 0 w) ↔ IsAdmitted lattice.order lines own w
        words [] = (λ s. inl refl, λ a. refl)
        words (l ∷ w) = (λ some. absurd (none_is None refl some), back)
          where
            back : IsAdmitted lattice.order lines own (l ∷ w) → IsSome (walk (leaf low up ∷ []) 0 (l ∷ w))
            back (inl e) = cc
            back (inr v) = absurd (none lattice.order (front lattice.order lines (bare (Proc own)) (l ∷ w) v))

        marks : (w : List Label) (m : ℕ × ℕ) → marks_from (leaf low up ∷ []) 0 w ≡ Some m →
            AreMarks lattice.order lines (of_procedure own w) m
        marks [] m e = subst (AreMarks lattice.order lines (bare (Proc own))) (the e) root_marks
          where
            the : ◌≡◌ {A = Option (ℕ × ℕ)} (Some (low, up)) (Some m) → (low, up) ≡ m
            the e = cc
        marks (l ∷ w) m e = absurd (not_none e)
          where
            not_none : ◌≡◌ {A = Option (ℕ × ℕ)} None (Some m) → ⊥
            not_none e = cc

-- of two trees with the same words and marks the one has them where the other has
module _ (order : Below) (own : ℕ) (lines : List Line) (tree least : Nodes) (is_tree : IsTree tree)
    (is_least : IsTree least) (same : AreSame tree least) where
  passed : (a b : Nodes) → IsTree a → AreSame a b → (w : List Label) → IsSome (walk a 0 w) → IsSome (walk b 0 w)
  passed a b is alike w some =
      let to : (n : ℕ) × (walk a 0 w ≡ Some n) = the (walk a 0 w) some in
      let node = node_there a to.0 (walk_in a is.nodes 0 w to.0 is.rooted to.1) in
      let other = leads b 0 w (marks_of node.0) (sym (alike w) ∙ marked a 0 w to.0 node.0 to.1 node.1) in
      subst IsSome (sym other.1) refl
    where
      the : (o : Option ℕ) → IsSome o → (n : ℕ) × (o ≡ Some n)
      the None e = cc
      the (Some n) e = (n, refl)

  pub least_unfolded : IsUnfolded order own lines tree → IsUnfolded order own lines least
  least_unfolded u = record {
    words = λ w. (
      λ some. (u.words w).0 (passed least tree is_least (λ v. sym (same v)) w some),
      λ admitted. passed tree least is_tree same w ((u.words w).1 admitted),
    );
    marks = λ w m e. u.marks w m (same w ∙ e);
  }

  -- the least tree of those that have them is the sketch
  pub sketched : IsUnfolded order own lines tree → IsMinimal least → IsBreadthFirst least → IsSketchOf order own lines least
  sketched u minimal numbered =
      let v : IsUnfolded order own lines least = least_unfolded u in
      record { words = v.words; marks = v.marks; minimal = minimal; numbered = numbered }
