use Rattle.std.proofs.Common.{◌≡◌, ◌+◌, ◌∷◌, drop, refl, ◌∙◌, ap, sym}
use Rattle.std.proofs.lemmas.List.{take_more, drop_more}
use Rattle.rt_lattice.specs.Closures.{first_unknown, names_in}
use Rattle.rt_lattice.proofs.Closing.{closes_none, closes_more}
use Rattle.rt_lattice.proofs.Known.{unknown_passed}
use Rattle.rt_lattice.proofs.closure.order_of.Goals as goal

pub loop-pair-init : goal.loop-pair-init
loop-pair-init c = record { closes = closes_none _ _ (rw c.items.ensures.names at c.in_ok-order.ensures); known = refl }

pub loop-pair-preserved : goal.loop-pair-preserved
loop-pair-preserved c =
    let names = c.args.file.now.names in
    let pair = c.pair-item.result in
    let pairs = c.items-pair-items.result.now in
    let i = c.loop-pair.pair-index in
    let rest : drop i pairs ≡ pair ∷ drop (i + 1) pairs = rw (← c.pair-item.is) at (drop_more pairs i pair c.loop-pair-test.true) in
    record {
      closes = rw (take_more pairs i pair c.loop-pair-test.true, ← c.pair-item.is) (closes_more _ _ _ _ _ c.items.ensures.good c.loop-pair.invariant.closes c.in_ok-add_pair.ensures.ok);
      known =
          sym (unknown_passed names pair (drop (i + 1) pairs) c.in_ok-add_pair.ensures.known)
          ∙ sym (ap (λ ps. first_unknown names (names_in ps)) rest) ∙ c.loop-pair.invariant.known;
    }
