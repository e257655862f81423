use Rattle.std.proofs.Common.{List, Contains, sym, subst}
use Rattle.rt_lines.specs.declared.variable.Dtv.{Dtv}
use Rattle.rt_reduce.specs.Inside.Bases.{IsAloneAt}
use Rattle.rt_reduce.proofs.Firsts.{equal_side}
use Rattle.rt_reduce.proofs.Numbering.{alone_none}
use Rattle.rt_reduce.proofs.merging.pending_of.Goals as goal

pub noted-requires : goal.noted-requires
noted-requires c = c.requires.numbers.each

pub pending-requires : goal.pending-requires
pending-requires c = c.requires.equals.each

pub returns : goal.returns
returns c = λ order n has.
    let lines = c.args.comparison.now.lines in
    let known = c.args.comparison.now.named in
    let equals = c.args.equals.now in
    let all = c.args.sides.now in
    let s = equal_side order lines n has in
    c.in_ok-pending.ensures n s.0 (subst (λ (xs : List Dtv). Contains xs s.0) (sym c.requires.sides) s.1) s.2
    (λ alone. alone_none lines known equals all c.args.numbers.now c.in_ok-bases.bases.items n c.requires.equals c.requires.numbers
    c.requires.sides c.in_ok-bases.ensures (subst (λ bs. IsAloneAt known equals bs n) c.deref.ensures.value alone) order has)
