use Rattle.std.proofs.Common.{◌∙◌}
use Rattle.rt_body.proofs.Read.{parts_made}
use Rattle.rt_body.proofs.parts.parts.Goals as goal

pub returns-clause-parts : goal.returns-clause-parts
returns-clause-parts c =
    let object = c.args.object.now in
    parts_made object c.args.proc.now c.items-sites.result.now c.in_ok-actions.actions c.deref.result.now c.deref-2.result.now c.number_at-entry.result c.in_ok-edges.edges c.requires.readable c.items-sites.ensures (c.in_ok-actions.ensures object c.requires.links c.requires.symbols)
    (c.deref.ensures.value ∙ c.in_ok-places.ensures) (c.deref-2.ensures.value ∙ c.in_ok-places.ensures) c.number_at-entry.ensures c.in_ok-edges.ensures
