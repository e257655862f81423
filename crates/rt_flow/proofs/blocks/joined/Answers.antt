use Rattle.std.proofs.Common.{sym, ◌∙◌}
use Rattle.rt_flow.proofs.blocks.joined.Goals as goal

pub returns-clause-joined : goal.returns-clause-joined
returns-clause-joined c = λ t set.
    let parted = c.part.ensures.parted t set in
    record {
      not_entry = λ e. parted.1 (e ∙ sym c.entry.ensures.value);
      after = c.in_ok-joined.ensures.after t (c.part_others.ensures.kept t parted.0);
      only = λ a b. c.part_others.ensures.only t a b parted.0;
    }
