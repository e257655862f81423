use Rattle.std.proofs.Common.{◌∙◌, ap, sym}
use Rattle.std.specs.Option.{option_copied}
use Rattle.rt_sigs.proofs.Finding.{args-none, args-some}
use Rattle.rt_sigs.proofs.sigs.Sigs.args.Goals as goal

pub returns-in-Some : goal.returns-in-Some
returns-in-Some c = args-some c.args.self.now c.args.name.now c.in-Some.prototype.now (ap option_copied (sym c.in-Some.is) ∙ c.prototype.ensures)

pub returns-in-None : goal.returns-in-None
returns-in-None c = args-none c.args.self.now c.args.name.now (ap option_copied (sym c.in-None.is) ∙ c.prototype.ensures)
