use Rattle.std.proofs.Common.{◌++◌, map, sym, ap, ◌∙◌}
use Rattle.rt_link.specs.declared.place.Place.{Place}
use Rattle.std.specs.Prelude.{List, ℕ}
use Rattle.rt_body.specs.Readings.{number_at}
use Rattle.rt_body.proofs.Numbering.{edges_more}
use Rattle.rt_body.proofs.numbers.edges.Goals as goal

pub loop-number-preserved : goal.loop-number-preserved
loop-number-preserved c =
    let places = c.args.places.now in
    let site = c.index-sites-number.result in
    let number = c.loop-number.number in
    c.in_ok-add_edges.ensures
    ∙ ap (λ (next : List Place). c.loop-number.edges ++ map (λ to. (number, number_at places to)) next) c.items.ensures
    ∙ ap (λ (edges : List (ℕ × ℕ)). edges ++ map (λ to. (number, number_at places to)) site.next) c.loop-number.invariant
    ∙ sym (edges_more places c.args.sites.now number site c.loop-number-test.true c.index-sites-number.is)
