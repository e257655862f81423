use Rattle.rt_reduce.proofs.reducing.reduce.Goals as goal

pub returns : goal.returns
returns c =
    let start = c.in_ok-start.ensures.start in
    record {
      ready = start.ready;
      start = c.in_ok-start.start;
      is_ready = start.is_ready;
      is_start = start.is_start;
      is_form = c.in_ok-form.ensures;
    }
