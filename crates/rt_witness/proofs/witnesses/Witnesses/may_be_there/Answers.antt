use Rattle.std.proofs.Common.{◌≡◌, ◌<◌, List, ℕ, [], Contains, length, get_or, sym, ap, subst, ◌∙◌}
use Rattle.std.proofs.lemmas.List.{get_or_read}
use Rattle.rt_witness.proofs.Numbers.{none_there}
use Rattle.rt_witness.proofs.witnesses.Witnesses.may_be_there.Goals as goal

pub returns : goal.returns
returns c = λ e order lines some is are d.
    let rows = c.args.self.now.noted.items in
    let node = c.in-Some.node in
    let row = c.in-Some-get.row.now in
    let at : row ≡ get_or rows node row =
    c.in-Some-get.ensures.lookup.1 ∙ ap (λ (rs : List (List ℕ)). get_or rs node row) c.deref.ensures.value in
    let less : node < length rows =
    subst (λ (rs : List (List ℕ)). node < length rs) c.deref.ensures.value c.in-Some-get.ensures.lookup.3.0 in
    none_there order lines some c.args.stands.now c.args.self.now.shape rows c.args.x.now node is.shape is.noted are (sym c.in-Some.ensures)
    less
    (λ i k. c.have_standing.ensures.none e i
    (subst (λ (ks : List ℕ). Contains ks i) (sym (get_or_read rows node row less at []) ∙ sym c.items.ensures) k)) d
