use Rattle.std.proofs.Common.{◌≡◌, ℕ, ◌∙◌, List, Option, length, sym, ap, subst}
use Rattle.rt_lines.specs.declared.label.Loc.{Loc}
use Rattle.rt_lines.specs.declared.label.Label.{Label}
use Rattle.rt_tree.specs.Trees.{Nodes, Stand, node_at}
use Rattle.rt_cdecl.specs.declared.declarations.CType.{CType}
use Rattle.rt_cdecl.specs.declared.declarations.CFunction.{CFunction}
use Rattle.rt_header.specs.Inside.Built.{tree_of}
use Rattle.rt_header.specs.Inside.Ports.{AreArguments, AreTyped, structs_of_arguments}
use Rattle.rt_header.proofs.Growing.{more_chain}
use Rattle.rt_header.proofs.Typing.{function_built, function_good, function_stands, nodes_are, result_is}
use Rattle.rt_header.proofs.function.function_of.Goals as goal

pub typed-requires-clause-nodes : goal.typed-requires-clause-nodes
typed-requires-clause-nodes c =
    let are : c.edges-edges.result.now ≡ (node_at (tree_of c.args.forest.now c.args.i) 0).edges = c.edges-edges.ensures ∙ ap (λ (t : Nodes). (node_at t 0).edges) c.tree.ensures.tree in
    nodes_are c.args.forest.now c.tree.ensures.forest c.args.i c.requires.tree c.edges-edges.result.now are c.deref.result.now
    (subst (AreArguments c.edges-edges.result.now) (sym c.deref.ensures.value) c.in_ok-nodes.ensures)

pub port_type-requires-clause-node : goal.port_type-requires-clause-node
port_type-requires-clause-node c =
    let are : c.edges-edges.result.now ≡ (node_at (tree_of c.args.forest.now c.args.i) 0).edges = c.edges-edges.ensures ∙ ap (λ (t : Nodes). (node_at t 0).edges) c.tree.ensures.tree in
    result_is c.args.forest.now c.tree.ensures.forest c.args.i c.requires.tree c.edges-edges.result.now are c.result_node.result 0 c.result_node.ensures

pub port_type-requires-2-clause-node : goal.port_type-requires-2-clause-node
port_type-requires-2-clause-node c =
    let are : c.edges-edges.result.now ≡ (node_at (tree_of c.args.forest.now c.args.i) 0).edges = c.edges-edges.ensures ∙ ap (λ (t : Nodes). (node_at t 0).edges) c.tree.ensures.tree in
    result_is c.args.forest.now c.tree.ensures.forest c.args.i c.requires.tree c.edges-edges.result.now are c.result_node-2.result 1 c.result_node-2.ensures

pub returns-clause-built : goal.returns-clause-built
returns-clause-built c =
    let forest = c.args.forest.now in
    let i = c.args.i in
    let edges = c.edges-edges.result.now in
    let are : edges ≡ (node_at (tree_of forest i) 0).edges = c.edges-edges.ensures ∙ ap (λ (t : Nodes). (node_at t 0).edges) c.tree.ensures.tree in
    let nodes = c.deref.result.now in
    let first = c.typed.new.making.structs.items in
    let second = c.port_type.new.making.structs.items in
    let last = c.port_type-2.new.making.structs.items in
    let f : CFunction = record { number = c.args.number; args = c.from_vec.result; out0 = c.in_ok-out0.out0; out1 = c.in_ok-out1.out1 } in
    function_built forest c.tree.ensures.forest i c.requires.tree edges are first second last nodes f c.result_node.result c.result_node-2.result
    (subst (AreArguments edges) (sym c.deref.ensures.value) c.in_ok-nodes.ensures)
    (subst (AreTyped forest first i nodes (length nodes)) (sym c.from_vec.ensures) c.in_ok-args.ensures.typed)
    (more_chain first second last c.in_ok-out0.ensures.more c.in_ok-out1.ensures.more)
    c.result_node.ensures c.in_ok-out0.ensures.is c.in_ok-out1.ensures.more
    c.result_node-2.ensures c.in_ok-out1.ensures.is

pub returns-clause-good : goal.returns-clause-good
returns-clause-good c =
    let forest = c.args.forest.now in
    let i = c.args.i in
    let edges = c.edges-edges.result.now in
    let are : edges ≡ (node_at (tree_of forest i) 0).edges = c.edges-edges.ensures ∙ ap (λ (t : Nodes). (node_at t 0).edges) c.tree.ensures.tree in
    let nodes = c.deref.result.now in
    let first = c.typed.new.making.structs.items in
    let second = c.port_type.new.making.structs.items in
    let last = c.port_type-2.new.making.structs.items in
    let f : CFunction = record { number = c.args.number; args = c.from_vec.result; out0 = c.in_ok-out0.out0; out1 = c.in_ok-out1.out1 } in
    function_good forest c.tree.ensures.forest i c.requires.tree edges are first second last nodes f
    (subst (AreArguments edges) (sym c.deref.ensures.value) c.in_ok-nodes.ensures) c.ranges.number.fits
    (subst (AreTyped forest first i nodes (length nodes)) (sym c.from_vec.ensures) c.in_ok-args.ensures.typed)
    (more_chain first second last c.in_ok-out0.ensures.more c.in_ok-out1.ensures.more)
    c.in_ok-out0.ensures.good.0 c.in_ok-out0.ensures.good.1 c.in_ok-out1.ensures.more c.in_ok-out1.ensures.good.0 c.in_ok-out1.ensures.good.1

pub returns-clause-stands : goal.returns-clause-stands
returns-clause-stands c =
    let old = c.args.making.now.structs.items in
    let first = c.typed.new.making.structs.items in
    let second = c.port_type.new.making.structs.items in
    let last = c.port_type-2.new.making.structs.items in
    let f : CFunction = record { number = c.args.number; args = c.from_vec.result; out0 = c.in_ok-out0.out0; out1 = c.in_ok-out1.out1 } in
    function_stands (length old) (length first) (length second) (length last) f
    (subst (λ (args : List (Loc × CType)). Stand (length old) (structs_of_arguments args) (length first)) (sym c.from_vec.ensures) c.in_ok-args.ensures.stands)
    c.in_ok-out0.ensures.stands c.in_ok-out1.ensures.stands
