-- One scheme is chosen.
use Rattle.std.proofs.Common.{◌≡◌, ℕ, List, sym, subst, ◌∙◌}
use Rattle.rt_lines.specs.declared.line.Line.{Line}
use Rattle.rt_lines.specs.Numbering.{numbered}
use Rattle.rt_lines.specs.Orders.{Below}
use Rattle.rt_scheme.specs.SplitExistentials.{split_for}
use Rattle.rt_reduction.proofs.Rounds.{one_form_lem}
use Rattle.rt_settle.specs.Chosen.{AreInOrder, IsSettled, IsChosenFrom, OneChoice}
use Rattle.rt_settle.specs.Chosen.IsChosenFrom.{as_they_stand, split}
use Rattle.rt_settle.proofs.OneOrder.{one_order}

one_settled : (order : Below) (lines first second : List Line) → IsSettled order lines first → IsSettled order lines second →
    first ≡ second
one_settled order lines first second a b =
    let form : b.reduced ≡ a.reduced = one_form_lem order lines b.reduced a.reduced b.is_reduced a.is_reduced in
    one_order (numbered a.reduced) first second a.in_order (subst (λ l. AreInOrder (numbered l) second) form b.in_order)

one_from : (order : Below) (own : ℕ) (settled first second : List Line) → IsChosenFrom order own settled first →
    IsChosenFrom order own settled second → first ≡ second
one_from order own settled first second (as_they_stand scheme e) (as_they_stand scheme' e') = e ∙ sym e'
one_from order own settled first second (as_they_stand scheme e) (split none is) = absurd (none scheme)
one_from order own settled first second (split none is) (as_they_stand scheme e) = absurd (none scheme)
one_from order own settled first second (split none is) (split none' is') =
    one_settled order (split_for own settled) first second is is'

pub one_choice : OneChoice
one_choice order own lines first second a b =
    let settled = one_settled order lines a.settled b.settled a.is_settled b.is_settled in
    one_from order own a.settled first second a.is_chosen (subst (λ l. IsChosenFrom order own l second) (sym settled) b.is_chosen)
