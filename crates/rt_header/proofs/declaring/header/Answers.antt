use Rattle.rt_header.proofs.Joined.{headed, typed_whole}
use Rattle.rt_header.proofs.declaring.header.Goals as goal

pub decls_of-requires : goal.decls_of-requires
decls_of-requires c = typed_whole c.in_ok-forest.forest c.in_ok-parts.parts.structs c.in_ok-parts.parts.functions c.in_ok-parts.ensures.whole

pub returns-clause-good : goal.returns-clause-good
returns-clause-good c =
    let f = c.in_ok-forest.ensures in
    let p = c.in_ok-parts.ensures in
    let d = c.in_ok-decls.ensures in
    (headed c.in_ok-forest.forest c.args.lattice.now c.args.sketches.now c.in_ok-decls.decls c.in_ok-parts.parts.structs c.in_ok-parts.parts.functions
    p.whole d.structs d.functions d.typedefs f.forest f.names f.trees f.top f.bottom f.lattice c.requires.ascending p.numbers).good

pub returns-clause-header : goal.returns-clause-header
returns-clause-header c =
    let f = c.in_ok-forest.ensures in
    let p = c.in_ok-parts.ensures in
    let d = c.in_ok-decls.ensures in
    (headed c.in_ok-forest.forest c.args.lattice.now c.args.sketches.now c.in_ok-decls.decls c.in_ok-parts.parts.structs c.in_ok-parts.parts.functions
    p.whole d.structs d.functions d.typedefs f.forest f.names f.trees f.top f.bottom f.lattice c.requires.ascending p.numbers).header
