use Rattle.rt_run.proofs.Lined.{section_after}
use Rattle.rt_run.proofs.refusal.push_section.Goals as goal

pub returns : goal.returns
returns c = section_after _ _ _ _ _ c.in_ok-print_number.ensures.ok c.in_ok-extend_from_slice.ensures.items c.from.ensures
