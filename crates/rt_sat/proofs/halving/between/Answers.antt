use Rattle.std.proofs.Common.{◌≡◌}
use Rattle.rt_lines.specs.Words.{label_variance, times}
use Rattle.rt_sat.specs.Numbered.{is_contra, sign_of}
use Rattle.rt_sat.proofs.ToldPushes.{half_pushed}
use Rattle.rt_sat.proofs.halving.between.Goals as goal

pub returns-then-is_pointer-2-clause-push : goal.returns-then-is_pointer-2-clause-push
returns-then-is_pointer-2-clause-push c =
    let left : c.turns.result ≡ is_contra (times (label_variance c.args.first) (sign_of c.args.a)) = cc in
    let right : c.turns-then-is_pointer-2.result ≡ is_contra (times (label_variance c.args.second) (sign_of c.args.b)) = cc in
    half_pushed c.args.flip c.args.first c.args.second c.args.count c.half-half.result c.args.a c.args.b c.turns.result c.turns-then-is_pointer-2.result c.if-flip.true
    (c.is_pointer.ensures.0 c.if-is_pointer.true) (c.is_pointer-then-is_pointer.ensures.0 c.if-is_pointer-2.true) left right c.half-half.ensures.enough c.half-half.ensures.parity
