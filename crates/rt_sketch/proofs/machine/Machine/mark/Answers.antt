use Rattle.std.proofs.Common.{List, ℕ, subst, sym}
use Rattle.rt_lattice.specs.Lattices.{IsBelow, size_of}
use Rattle.rt_sketch.specs.Bounds.{AreBelow, IsBoundOf, IsGreatestUnder, IsLeastOver}
use Rattle.rt_sketch.proofs.Marking.{low_mark, up_mark}
use Rattle.rt_sketch.proofs.machine.Machine.mark.Goals as goal

pub joined-low-requires-clause-bounds : goal.joined-low-requires-clause-bounds
joined-low-requires-clause-bounds c = subst (λ (xs : List (List ℕ)). AreBelow (size_of c.args.lattice.now) xs) (sym c.deref.ensures.value) c.requires.lows

pub met-up-requires-clause-bounds : goal.met-up-requires-clause-bounds
met-up-requires-clause-bounds c = subst (λ (xs : List (List ℕ)). AreBelow (size_of c.args.lattice.now) xs) (sym c.deref-3.ensures.value) c.requires.ups

pub returns : goal.returns
returns c = λ lines x is constants d.
    let lattice = c.args.lattice.now in
    let state = c.args.state.now in
    let machine = c.args.self.now in record {
      low = low_mark lines machine.ways lattice c.requires.lattice c.requires.order constants x state.class state.below.items state.above.items d.sets machine.lows.items c.joined-low.result is.lows c.requires.lows
          (subst (λ (xs : List (List ℕ)). IsLeastOver (IsBelow lattice) (size_of lattice) (IsBoundOf xs state.below.items) c.joined-low.result) c.deref.ensures.value
          (subst (λ (ns : List ℕ). IsLeastOver (IsBelow lattice) (size_of lattice) (IsBoundOf c.deref.result.now ns) c.joined-low.result) c.deref-2.ensures.value c.joined-low.ensures));
      up = up_mark lines machine.ways lattice c.requires.lattice c.requires.order constants x state.class state.below.items state.above.items d.sets machine.ups.items c.met-up.result is.ups c.requires.ups
          (subst (λ (xs : List (List ℕ)). IsGreatestUnder (IsBelow lattice) (size_of lattice) (IsBoundOf xs state.above.items) c.met-up.result) c.deref-3.ensures.value
          (subst (λ (ns : List ℕ). IsGreatestUnder (IsBelow lattice) (size_of lattice) (IsBoundOf c.deref-3.result.now ns) c.met-up.result) c.deref-4.ensures.value c.met-up.ensures));
    }
