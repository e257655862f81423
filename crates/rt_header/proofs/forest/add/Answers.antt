use Rattle.std.proofs.Common.{sym, subst}
use Rattle.rt_erase.specs.declared.extremes.Extremes.{Extremes}
use Rattle.rt_erase.specs.Erasures.{HasNamesAt}
use Rattle.rt_header.proofs.Planting.{names_at}
use Rattle.rt_header.proofs.forest.add.Goals as goal

pub add-requires : goal.add-requires
add-requires c = names_at c.args.erasure.now.extremes.count c.args.tree.now c.size-size.ensures.reached c.requires

pub returns-clause-erased : goal.returns-clause-erased
returns-clause-erased c = record {
  whole = c.size-size.ensures.tree;
  names =
      subst (λ (e : Extremes). HasNamesAt e.count c.args.tree.now) (sym c.in_ok-start.ensures.extremes)
      (names_at c.args.erasure.now.extremes.count c.args.tree.now c.size-size.ensures.reached c.requires);
  stands = c.in_ok-start.ensures.erased;
}
