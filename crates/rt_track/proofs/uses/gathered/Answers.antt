use Rattle.std.proofs.Common.{◌+◌, arith, sym, subst, take}
use Rattle.std.specs.Prelude.{slice_index_or}
use Rattle.std.proofs.lemmas.List.{take_more}
use Rattle.rt_flow.specs.declared.def.Def.TheVariants.{Entry}
use Rattle.rt_track.specs.declared.nodes.Input.TheVariants.{Node}
use Rattle.rt_track.specs.Inside.Inputs.{Gathers}
use Rattle.rt_track.specs.Inside.Inputs.Gathers.{none}
use Rattle.rt_track.proofs.Using.{keeps_itself, keeps_on, keeps_more, gathers_more}
use Rattle.rt_track.proofs.uses.gathered.Goals as goal

pub loop-def-init : goal.loop-def-init
loop-def-init c = record { gathers = none; keeps = keeps_itself c.args.joins.now.items }

pub overflow_add-number : goal.overflow_add-number
overflow_add-number c = let s = c.loop-def.joins.small in let o = c.loop-def.joins.ok in let t = c.count.ensures.few in let l = c.len.ensures in omega (arith, s, o.0, o.1, t, l)

pub loop-def-preserved : goal.loop-def-preserved
loop-def-preserved c = record {
  gathers = subst (λ ds. Gathers c.args.ops.now c.push.new.self.items c.args.reg (Node (c.count.result + c.len.result)) ds) (sym (take_more c.args.defs.now c.loop-def.def-index Entry c.loop-def-test.true))
      (gathers_more c.args.ops.now c.args.reg c.loop-def.joins.items c.push.new.self.items (take c.loop-def.def-index c.args.defs.now) (slice_index_or c.args.defs.now c.loop-def.def-index Entry) c.loop-def.all c.loop-def.invariant.gathers c.def_input.result c.def_input.ensures c.in_ok-push.ensures.items
      (c.count.result + c.len.result) (omega (arith, c.count.ensures.value, c.len.ensures, c.loop-def.joins.ok.0)));
  keeps = keeps_on c.args.joins.now.items c.loop-def.joins.items c.push.new.self.items c.loop-def.invariant.keeps (keeps_more c.loop-def.joins.items c.push.new.self.items (c.loop-def.all, c.def_input.result) c.in_ok-push.ensures.items);
}
