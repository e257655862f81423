use Rattle.std.proofs.Common.{◌≡◌, ◌<◌, ◌+◌, List, length, get_or, sym, subst, ap, ◌∙◌}
use Rattle.rt_tree.specs.declared.links.Link.{Link}
use Rattle.rt_tree.specs.Inside.Splits.{AreInto, IsIn, links_of}
use Rattle.rt_tree.proofs.Items.{into_within, links_ends}
use Rattle.rt_tree.proofs.splitting.told.Goals as goal

pub into_of-requires-clause-ends : goal.into_of-requires-clause-ends
into_of-requires-clause-ends c = λ k d less.
    let nodes = c.args.nodes.now in
    let links : c.deref.result.now ≡ links_of nodes = c.deref.ensures.value ∙ c.in_ok-links.ensures in
    subst (λ (ls : List Link). ((get_or ls k d).from < length nodes) × ((get_or ls k d).to < length nodes)) (sym links)
    (links_ends nodes c.requires.nodes k d (subst (λ (ls : List Link). k < length ls) links less))

pub split-requires-clause-within : goal.split-requires-clause-within
split-requires-clause-within c = λ u x h.
    let nodes = c.args.nodes.now in
    let links : c.deref.result.now ≡ links_of nodes = c.deref.ensures.value ∙ c.in_ok-links.ensures in
    let into : AreInto (length nodes) (links_of nodes) c.in_ok-into.into.items =
    subst (λ ls. AreInto (length nodes) ls c.in_ok-into.into.items) links c.in_ok-into.ensures in
    let inside = into_within nodes c.requires.nodes c.in_ok-into.into.items into u x (subst (λ rows. IsIn rows u x) c.deref-3.ensures.value h) in
    let each : length c.in_ok-first.first.items ≡ length nodes + length (links_of nodes) =
    c.in_ok-first.ensures.each ∙ ap (λ (ls : List Link). length nodes + length ls) (c.deref-2.ensures.value ∙ c.in_ok-links.ensures) in
    subst (λ n. x < n) (sym each) inside
