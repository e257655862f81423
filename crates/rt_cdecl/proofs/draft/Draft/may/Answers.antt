use Rattle.std.proofs.Common.{refl}
use Rattle.rt_cdecl.specs.Inside.Steps.{parts_of}
use Rattle.rt_cdecl.proofs.Moved.{half_may, stated_may}
use Rattle.rt_cdecl.proofs.draft.Draft.may.Goals as goal

pub returns-then-may_half : goal.returns-then-may_half
returns-then-may_half c = half_may (parts_of c.args.self.now) c.args.row.now c.in-Half.r c.in-Half.kind _ c.in-Half.is (c.if-may_half.ensures.0 refl) c.lists-then-may_half.ensures

pub returns-then-may_return : goal.returns-then-may_return
returns-then-may_return c =
    stated_may (parts_of c.args.self.now) c.args.row.now c.in-Stated.returns c.in-Stated.number c.in-Stated.args c.items.result.now c.lists_args.result c.in-Stated.is c.items.ensures
    (c.if-may_return.ensures.0 refl) c.lists_args.ensures
