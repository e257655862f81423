use Rattle.std.proofs.Common.{◌≡◌, ◌≤◌, ℕ, ℤ, pos, to_z, of_z, w64, List, length, subst, arith}
use Rattle.std.specs.Prelude.{slice_index_or}
use Rattle.std.proofs.lemmas.Int.{to_z-of_z}
use Rattle.rt_flow.proofs.Grouping.{IsNoted, starts, goes_on, ends}
use Rattle.rt_flow.proofs.locations.grouped.Goals as goal

pub loop-site-init : goal.loop-site-init
loop-site-init c = record {
  items = c.defs-site-items.ensures.value;
  grouped = starts c.args.graph.now c.new-groups.result.entries c.new-groups.ensures.empty;
}

pub loop-site-preserved : goal.loop-site-preserved
loop-site-preserved c =
    let def = slice_index_or c.defs-site-items.result.now c.loop-site.site-index (0, pos 0) in
    let same : to_z w64 (of_z w64 def.1) ≡ def.1 = grind (arith, to_z-of_z) in
    record {
      items = c.loop-site.invariant.items;
      grouped = goes_on c.args.graph.now c.loop-site.site-index c.loop-site.groups.entries c.note.new.groups.entries c.loop-site.invariant.grouped c.defs-site-items.result.now c.loop-site.invariant.items c.loop-site-test.true (0, pos 0)
          (subst (λ (z : ℤ). IsNoted c.loop-site.groups.entries c.note.new.groups.entries def.0 z) same c.in_ok-note.ensures);
    }

pub returns : goal.returns
returns c =
    ends c.args.graph.now c.loop-site.site-index c.loop-site.groups.entries c.loop-site.invariant.grouped (subst (λ (ds : List (ℕ × ℤ)). length ds ≤ c.loop-site.site-index) c.loop-site.invariant.items c.loop-site-test.false)
