use Rattle.std.proofs.Common.{◌≡◌, true, Some, sym, ap, subst, ◌∙◌}
use Rattle.rt_outline.specs.Arcs.{Leads}
use Rattle.rt_outline.proofs.Told.{whole_more}
use Rattle.rt_outline.proofs.turning.note.Goals as goal

pub returns-in_ok-parents-in-Some-None : goal.returns-in_ok-parents-in-Some-None
returns-in_ok-parents-in-Some-None c =
    whole_more c.args.frame.now.origins.items (Leads c.args.frame.now.arcs.items c.args.stands.now true) c.args.known.now.items c.args.parent
    c.in_ok-parents-in-Some-None.parents c.requires.known c.in_ok-parents-in-Some-None.ensures.whole
