use Rattle.std.proofs.Common.{sym, ◌∙◌}
use Rattle.rt_body.proofs.Asked.{definition_within}
use Rattle.rt_body.proofs.body.Body.value_of.Goals as goal

pub returns : goal.returns
returns c = c.of.ensures ∙ sym (definition_within c.args.self.now c.args.site c.args.register c.requires.site c.requires.register)
