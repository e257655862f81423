use Rattle.rt_lines.specs.declared.label.Loc.{Loc}
use Rattle.rt_cdecl.specs.declared.declarations.CType.{CType}
use Rattle.rt_cdecl.specs.Inside.Drafts.{IsListed}
use Rattle.rt_cdecl.specs.Inside.Steps.{parts_of}
use Rattle.rt_cdecl.proofs.KindSets.{all_args, all_not, all_end, all_more}
use Rattle.rt_cdecl.proofs.draft.Draft.lists_args.Goals as goal

pub returns-then-not-lists : goal.returns-then-not-lists
returns-then-not-lists c =
    all_args (IsListed (parts_of c.args.self.now)) _ _ (all_not (λ (arg : Loc × CType). IsListed (parts_of c.args.self.now) arg.1) _ _ _ c.loop-kind-test.true c.loop-kind-item.is c.if-not-lists.ensures)

pub returns : goal.returns
returns c = all_args (IsListed (parts_of c.args.self.now)) _ _ (all_end (λ (arg : Loc × CType). IsListed (parts_of c.args.self.now) arg.1) _ _ c.loop-kind-test.false c.loop-kind.invariant)

pub loop-kind-preserved : goal.loop-kind-preserved
loop-kind-preserved c =
    all_more (λ (arg : Loc × CType). IsListed (parts_of c.args.self.now) arg.1) _ _ _ c.loop-kind-test.true c.loop-kind-item.is c.if-not-lists.ensures c.loop-kind.invariant
