-- Marks of what states denote.
use Rattle.std.proofs.Common.{◌≡◌, ℕ, ◌<◌, inl, Option, List, [], All, Contains, length, refl, sym, subst}
use Rattle.rt_lines.specs.declared.variable.Dtv.{Dtv}
use Rattle.rt_lines.specs.declared.line.Line.{Line}
use Rattle.rt_lines.specs.declared.line.Line.TheVariants.{Low, Up}
use Rattle.rt_lines.specs.Lines.{HasConstantsBelow}
use Rattle.rt_lines.specs.Orders.{IsAtOrBelow}
use Rattle.rt_lines.specs.OrderFacts.{IsOrder}
use Rattle.rt_rules.specs.Rules.{HasSide}
use Rattle.rt_named.specs.Naming.{named as all_named}
use Rattle.rt_loose.specs.Loose.{IsLoose}
use Rattle.rt_loose.specs.Laws.{HasLowIn, HasUpIn}
use Rattle.rt_loose.proofs.Lawful.{low_law, up_law}
use Rattle.rt_lattice.specs.Lattices.{IsBelow, IsLattice, NamedOrder, size_of}
use Rattle.rt_ways.specs.Nets.{Net}
use Rattle.rt_ways.specs.Pushes.{variable_at}
use Rattle.rt_ways.proofs.Knowing.{sides_named}
use Rattle.rt_sketch.specs.Bounds.{AreBelow, AreBoundsOf, IsBoundOf, IsGreatestUnder, IsLeastOver, IsLow, IsUp}
use Rattle.rt_sketch.specs.Sketches.{IsJoinOf, IsMeetOf}
use Rattle.rt_sketch.specs.States.{AreSetsOf, sets_of, variables}
use Rattle.rt_sketch.proofs.Joining.{transitive}
use Rattle.rt_sketch.proofs.Members.{variable_has, variable_source}

pub sides_in : (lines : List Line) (known : List Dtv) → known ≡ all_named lines [] → (l : Line) (x : Dtv) → Contains lines l → HasSide l x → Contains known x
sides_in lines known e l x c h = subst (λ ys. Contains ys x) (sym e) (sides_named lines l x c h)

module _ (lines : List Line) (net : Net) (lattice : NamedOrder) (is : IsLattice lattice) (order : IsOrder lattice.order) (constants : All (HasConstantsBelow (size_of lattice)) lines)
    (x : Dtv) (class : Option ℕ) (below above : List ℕ) (d : AreSetsOf lines net class below above x) where
  fits : All (HasConstantsBelow lattice.order.count) lines
  fits = subst (λ n. All (HasConstantsBelow n) lines) (sym is.counted) constants

  sized : (k : ℕ) → k < lattice.order.count → k < size_of lattice
  sized k h = subst (λ n. k < n) is.counted h

  counted : (k : ℕ) → k < size_of lattice → k < lattice.order.count
  counted k h = subst (λ n. k < n) (sym is.counted) h

  low_in : (lows : List (List ℕ)) → AreBoundsOf (length net.named) (IsLow net.named lines) lows → (k : ℕ) → k < lattice.order.count → IsLoose lattice.order lines (Low k x) →
      (b : ℕ) × IsBoundOf lows below b × IsAtOrBelow lattice.order k b
  low_in lows rows k h loose =
      let has : HasLowIn lattice.order lines k (variables net below) = (low_law lattice.order lines x (sets_of net class below above) k order fits (d.sets lattice.order) h).0 loose in
      let v : (n : ℕ) × Contains below n × (variable_at net.named n ≡ has.variable) = variable_source net below has.variable has.among in
      (has.bound, (v.0, v.1, (rows.bound v.0 has.bound).1 (d.below_in v.0 v.1, subst (λ z. Contains lines (Low has.bound z)) (sym v.2) has.stands)), has.at)

  low_from : (lows : List (List ℕ)) → AreBoundsOf (length net.named) (IsLow net.named lines) lows → (b : ℕ) → b < lattice.order.count → IsBoundOf lows below b → IsLoose lattice.order lines (Low b x)
  low_from lows rows b h has =
      let p = (rows.bound has.0 b).0 has.2 in
      (low_law lattice.order lines x (sets_of net class below above) b order fits (d.sets lattice.order) h).1
      (record { bound = b; variable = variable_at net.named has.0; stands = p.1; at = inl refl; among = variable_has net below has.0 has.1 })

  pub low_mark : (lows : List (List ℕ)) (low : ℕ) → AreBoundsOf (length net.named) (IsLow net.named lines) lows → AreBelow (size_of lattice) lows →
      IsLeastOver (IsBelow lattice) (size_of lattice) (IsBoundOf lows below) low → IsJoinOf lattice.order (λ k. IsLoose lattice.order lines (Low k x)) low
  low_mark lows low rows small least = record {
    within = counted low least.within;
    above = λ k h loose. (let r : (b : ℕ) × IsBoundOf lows below b × IsAtOrBelow lattice.order k b = low_in lows rows k h loose in
        transitive lattice is k r.0 low (sized k h) (small r.1.0 r.0 r.1.2) least.within r.2 (least.above r.0 r.1));
    least = λ u h all. least.least u (sized u h) (λ b has. (let c : b < lattice.order.count = counted b (small has.0 b has.2) in all b c (low_from lows rows b c has)));
  }

  up_in : (ups : List (List ℕ)) → AreBoundsOf (length net.named) (IsUp net.named lines) ups → (k : ℕ) → k < lattice.order.count → IsLoose lattice.order lines (Up x k) →
      (b : ℕ) × IsBoundOf ups above b × IsAtOrBelow lattice.order b k
  up_in ups rows k h loose =
      let has : HasUpIn lattice.order lines k (variables net above) = (up_law lattice.order lines x (sets_of net class below above) k order fits (d.sets lattice.order) h).0 loose in
      let v : (n : ℕ) × Contains above n × (variable_at net.named n ≡ has.variable) = variable_source net above has.variable has.among in
      (has.bound, (v.0, v.1, (rows.bound v.0 has.bound).1 (d.above_in v.0 v.1, subst (λ z. Contains lines (Up z has.bound)) (sym v.2) has.stands)), has.at)

  up_from : (ups : List (List ℕ)) → AreBoundsOf (length net.named) (IsUp net.named lines) ups → (b : ℕ) → b < lattice.order.count → IsBoundOf ups above b → IsLoose lattice.order lines (Up x b)
  up_from ups rows b h has =
      let p = (rows.bound has.0 b).0 has.2 in
      (up_law lattice.order lines x (sets_of net class below above) b order fits (d.sets lattice.order) h).1
      (record { bound = b; variable = variable_at net.named has.0; stands = p.1; at = inl refl; among = variable_has net above has.0 has.1 })

  pub up_mark : (ups : List (List ℕ)) (up : ℕ) → AreBoundsOf (length net.named) (IsUp net.named lines) ups → AreBelow (size_of lattice) ups →
      IsGreatestUnder (IsBelow lattice) (size_of lattice) (IsBoundOf ups above) up → IsMeetOf lattice.order (λ k. IsLoose lattice.order lines (Up x k)) up
  up_mark ups up rows small greatest = record {
    within = counted up greatest.within;
    below = λ k h loose. (let r : (b : ℕ) × IsBoundOf ups above b × IsAtOrBelow lattice.order b k = up_in ups rows k h loose in
        transitive lattice is up r.0 k greatest.within (small r.1.0 r.0 r.1.2) (sized k h) (greatest.below r.0 r.1) r.2);
    greatest = λ u h all. greatest.greatest u (sized u h) (λ b has. (let c : b < lattice.order.count = counted b (small has.0 b has.2) in all b c (up_from ups rows b c has)));
  }
