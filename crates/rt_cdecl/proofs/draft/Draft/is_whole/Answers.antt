use Rattle.std.proofs.Common.{rules}
use Rattle.rt_cdecl.specs.Inside.Steps.{parts_of}
use Rattle.rt_cdecl.proofs.Moved.{whole_is}
use Rattle.rt_cdecl.proofs.draft.Draft.is_whole.Goals as goal

pub returns-then-len-self : goal.returns-then-len-self
returns-then-len-self c = whole_is (parts_of c.args.self.now) c.args.self.now.left _ (c.is_idle.ensures.0 (search rules)) (search rules) c.requires c.is_empty.ensures
