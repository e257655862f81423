use Rattle.std.proofs.Common.{◌≡◌, ◌+◌, ◌-◌, ◌<◌, ◌/◌, true, false, length, sym, ◌∙◌, refl, arith}
use Rattle.std.specs.Bool.{◌==◌}
use Rattle.std.specs.Ordering.{ordering_index}
use Rattle.std.specs.declared.cmp.Ordering.{Ordering}
use Rattle.std.specs.declared.cmp.Ordering.TheVariants.{Less, Equal, Greater}
use Rattle.std.proofs.lemmas.Option.{slice_get-get_or}
use Rattle.rt_tree.proofs.Edges.{place-le, place_before, place_past}
use Rattle.rt_tree.proofs.entry.place_of.Goals as goal

is_less : (o : Ordering) → true ≡ (ordering_index o == 0) → o ≡ Less
is_less Less e = refl
is_less Equal e = cc
is_less Greater e = cc

is_not_less : (o : Ordering) → false ≡ (ordering_index o == 0) → o ≡ Less → ⊥
is_not_less Less e f = cc
is_not_less Equal e f = cc
is_not_less Greater e f = cc

pub loop-low-init : goal.loop-low-init
loop-low-init c =
    let le = place-le c.args.label c.args.edges.now in
    record { low = omega arith; high = le; within = omega arith }

pub loop-low-preserved-then-eq : goal.loop-low-preserved-then-eq
loop-low-preserved-then-eq c =
    let edges = c.args.edges.now in
    let middle = c.loop-low.low + (c.loop-low.high - c.loop-low.low) / 2 in
    let test = c.loop-low-test.true in
    let within = c.loop-low.invariant.within in
    let less : middle < length edges = omega arith in
    let at = slice_get-get_or edges middle _ less in
    record {
      low = c.loop-low.invariant.low;
      high = place_before c.args.label edges middle _ at (sym c.compare.ensures ∙ is_less c.compare.result c.if-eq.ensures);
      within = omega arith;
    }

pub loop-low-preserved : goal.loop-low-preserved
loop-low-preserved c =
    let edges = c.args.edges.now in
    let middle = c.loop-low.low + (c.loop-low.high - c.loop-low.low) / 2 in
    let test = c.loop-low-test.true in
    let within = c.loop-low.invariant.within in
    let less : middle < length edges = omega arith in
    let at = slice_get-get_or edges middle _ less in
    let past = place_past c.args.label edges c.requires.ordered middle _ at (λ e. is_not_less c.compare.result c.if-eq.ensures (c.compare.ensures ∙ e)) in
    record { low = omega arith; high = c.loop-low.invariant.high; within = within }
