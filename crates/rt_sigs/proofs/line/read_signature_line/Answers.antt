use Rattle.rt_sigs.proofs.Constants.{no_signature_line}
use Rattle.rt_sigs.proofs.line.read_signature_line.Goals as goal

pub fault_of-requires : goal.fault_of-requires
fault_of-requires c =
    no_signature_line _ _ _ _ c.items-names.ensures.good c.in-Ok.ensures.0 c.in-Ok.ensures.1 c.is_signature_line.ensures c.if-not-is_signature_line.true
