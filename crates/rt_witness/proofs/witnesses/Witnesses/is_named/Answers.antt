use Rattle.std.proofs.Common.{◌≡◌, ◌<◌, List, ℕ, [], Contains, true, false, length, get_or, slice_index_or, ap, subst, ◌∙◌}
use Rattle.std.proofs.lemmas.List.{get_or_read}
use Rattle.rt_witness.proofs.Names.{IsNamed-row}
use Rattle.rt_witness.proofs.witnesses.Witnesses.is_named.Goals as goal

pub returns : goal.returns
returns c = λ e lines left are is.
    let rows = c.args.self.now.naming.items in
    let number = c.in-Some.number in
    let row = c.in-Some-get.row.now in
    let at : row ≡ get_or rows number row =
    c.in-Some-get.ensures.lookup.1 ∙ ap (λ (rs : List (List ℕ)). get_or rs number row) c.deref.ensures.value in
    let less : number < length rows =
    subst (λ (rs : List (List ℕ)). number < length rs) c.deref.ensures.value c.in-Some-get.ensures.lookup.3.0 in
    let found : (i : ℕ) × Contains c.items.result.now i × (slice_index_or c.args.stands.now i false ≡ true) = c.have_standing.ensures.some e in
    IsNamed-row lines left c.args.stands.now c.args.self.now.named rows c.args.x.now number found.0 are.naming is c.in-Some.ensures
    (subst (λ (ks : List ℕ). Contains ks found.0) (c.items.ensures ∙ get_or_read rows number row less at []) found.1) found.2
