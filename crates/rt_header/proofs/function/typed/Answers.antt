use Rattle.std.proofs.Common.{◌+◌, List, length, sym, subst}
use Rattle.rt_lines.specs.declared.label.Loc.{Loc}
use Rattle.rt_tree.specs.Trees.{Stand}
use Rattle.rt_cdecl.specs.declared.declarations.CType.{CType}
use Rattle.rt_header.specs.Inside.Ports.{AreTyped, structs_of_arguments}
use Rattle.rt_header.proofs.Growing.{more_chain}
use Rattle.rt_header.proofs.Typing.{arguments_stand, typed_next}
use Rattle.rt_header.proofs.function.typed.Goals as goal

pub loop-index-preserved : goal.loop-index-preserved
loop-index-preserved c =
    let forest = c.args.forest.now in
    let i = c.args.i in
    let nodes = c.args.nodes.now in
    let k = c.loop-index.index in
    let old = c.args.making.now.structs.items in
    let mid = c.loop-index.making.structs.items in
    let new = c.port_type.new.making.structs.items in
    let args = c.loop-index.args.items in
    let kind = c.in_ok-kind.kind in
    let more = c.in_ok-kind.ensures.more in
    let good = c.in_ok-kind.ensures.good in
    let items = c.in_ok-push.ensures.items in
    record {
      making = c.in_ok-kind.ensures.making;
      more = more_chain old mid new c.loop-index.invariant.more more;
      typed = subst (AreTyped forest new i nodes (k + 1)) (sym items)
          (typed_next forest mid new i nodes k args c.place.result kind more c.loop-index.invariant.typed c.place.ensures c.in_ok-kind.ensures.is good.0 good.1);
      stands = subst (λ (args : List (Loc × CType)). Stand (length old) (structs_of_arguments args) (length new)) (sym items)
          (arguments_stand (length old) (length mid) (length new) args c.place.result kind c.loop-index.invariant.stands c.in_ok-kind.ensures.stands);
    }
