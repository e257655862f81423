use Rattle.std.proofs.Common.{◌≡◌, map, take}
use Rattle.rt_elf.specs.Parts.{Parts as Object}
use Rattle.rt_link.specs.Links.{AreLinksOf}
use Rattle.rt_body.specs.Actions.{site_action}
use Rattle.rt_body.specs.Lowest.{AreSymbolsOf}
use Rattle.rt_body.proofs.actions.actions.Given as goal

abbrev pub invariant-loop-site : goal.invariant-loop-site
invariant-loop-site l = (object : Object) → AreLinksOf object l.links → AreSymbolsOf object l.symbols → l.actions ≡ map (site_action object) (take l.site-index l.sites)
