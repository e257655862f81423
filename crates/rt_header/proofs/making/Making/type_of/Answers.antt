use Rattle.std.proofs.Common.{◌≡◌, sym, subst}
use Rattle.std.specs.Prelude.{slice_index_or, []}
use Rattle.std.proofs.lemmas.Result.{IfOk-weaker}
use Rattle.rt_tree.specs.Trees.{node_at}
use Rattle.rt_erase.specs.Rows.{scalar_number}
use Rattle.rt_cdecl.specs.declared.declarations.CType.{CType}
use Rattle.rt_cdecl.specs.declared.declarations.CType.TheVariants.{Scalar}
use Rattle.rt_header.specs.Inside.Built.{IsTypeOf, tree_of}
use Rattle.rt_header.proofs.making.Making.type_of.Goals as goal

pub returns-in_ok-number_of-in-Some-clause-is : goal.returns-in_ok-number_of-in-Some-clause-is
returns-in_ok-number_of-in-Some-clause-is c =
    let to = c.in-Some.ensures in
    IsTypeOf.pointer c.in-Some.to c.in_ok-number_of-in-Some.field-0 to.wide to.pointee c.in_ok-number_of-in-Some.ensures.number.is

pub returns-in-None-clause-is : goal.returns-in-None-clause-is
returns-in-None-clause-is c =
    let forest = c.args.forest.now in
    let extremes = forest.erased.extremes in
    let name = slice_index_or forest.names (scalar_number extremes.top extremes.bottom (node_at (tree_of forest c.args.i) c.args.node)) [] in
    let Is = λ (t : CType). IsTypeOf forest c.args.self.now.structs.items c.args.i c.args.bits c.args.node t in
    IfOk-weaker c.scalar_at.result (λ (t : CType). t ≡ Scalar name c.args.bits) Is (λ t e. subst Is (sym e) (IsTypeOf.scalar c.in-None.ensures)) c.scalar_at.ensures.is
