use Rattle.std.proofs.Common.{◌∙◌, ap, sym}
use Rattle.std.specs.Option.{option_copied}
use Rattle.rt_sigs.proofs.Finding.{found-none, found-some, scheme-none, scheme-some}
use Rattle.rt_sigs.proofs.sigs.Sigs.find.Goals as goal

pub returns-in-Some : goal.returns-in-Some
returns-in-Some c =
    let is = ap option_copied (sym c.in-Some.is) ∙ c.prototype.ensures in
    record { found = found-some c.args.self.now c.args.name.now c.in-Some.prototype.now is; first = scheme-some c.args.self.now c.args.name.now c.in-Some.prototype.now is }

pub returns-in-None : goal.returns-in-None
returns-in-None c =
    let is = ap option_copied (sym c.in-None.is) ∙ c.prototype.ensures in
    record { found = found-none c.args.self.now c.args.name.now is; first = scheme-none c.args.self.now c.args.name.now is }
