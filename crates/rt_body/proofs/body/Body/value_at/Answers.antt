use Rattle.std.proofs.Common.{sym, ◌∙◌}
use Rattle.rt_body.proofs.Asked.{use_within}
use Rattle.rt_body.proofs.body.Body.value_at.Goals as goal

pub returns : goal.returns
returns c = c.at.ensures ∙ sym (use_within c.args.self.now c.args.site c.args.register c.requires.site c.requires.register)
