use Rattle.std.proofs.Common.{◌≡◌, refl, rules}
use Rattle.rt_body.specs.Told.{reading_of}
use Rattle.rt_frame.specs.Frames.{Layout, frame_body}
use Rattle.rt_frame.proofs.Framed.{within_sites, sites_framed, framed}
use Rattle.rt_frame.proofs.frame.Frame.of.Goals as goal

pub invariant_of-result : goal.invariant_of-result
invariant_of-result c =
    let graph = c.in_ok-graph.graph in
    let is = c.in_ok-reach.ensures in
    record {
      taken_ascending = c.in_ok-taken-2.ensures.ascending;
      saved_ascending = c.in_ok-saved-2.ensures.ascending;
      within = within_sites graph c.in_ok-reach.reach is (c.sites-sites.ensures.reaching graph is);
    }

pub returns-clause-sites : goal.returns-clause-sites
returns-clause-sites c =
    let graph = c.in_ok-graph.graph in
    let is = c.in_ok-reach.ensures in
    let reading = reading_of c.args.body.now in
    let layout : Layout = record { taken = c.in_ok-taken-2.taken; saved = c.in_ok-saved-2.saved } in
    let graph_is : graph ≡ frame_body reading layout = search rules in
    sites_framed graph c.in_ok-reach.reach is (c.sites-sites.ensures.reaching graph is) reading layout graph_is

pub returns-clause-of : goal.returns-clause-of
returns-clause-of c =
    let graph = c.in_ok-graph.graph in
    let is = c.in_ok-reach.ensures in
    let reading = reading_of c.args.body.now in
    let layout : Layout = record { taken = c.in_ok-taken-2.taken; saved = c.in_ok-saved-2.saved } in
    let graph_is : graph ≡ frame_body reading layout = search rules in
    framed graph c.in_ok-reach.reach is (c.sites-sites.ensures.reaching graph is) reading c.args.calls.now layout c.in_ok-taken.field-0 c.in_ok-saved.field-0 graph_is refl
    c.in_ok-taken-2.ensures.same c.in_ok-taken-2.ensures.ascending c.in_ok-taken.ensures
    c.in_ok-saved-2.ensures.same c.in_ok-saved-2.ensures.ascending c.in_ok-saved.ensures
