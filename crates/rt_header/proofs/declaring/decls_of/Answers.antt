use Rattle.rt_header.proofs.Joined.{with_typedefs}
use Rattle.rt_header.proofs.declaring.decls_of.Goals as goal

pub returns-clause-typedefs : goal.returns-clause-typedefs
returns-clause-typedefs c =
    let e = c.in_ok-typedefs.ensures in
    with_typedefs c.in_ok-typedefs.typedefs c.args.parts.structs c.items.result.now c.args.parts.functions c.items-2.result.now
    e.each e.rise e.exact c.items.ensures c.items-2.ensures
