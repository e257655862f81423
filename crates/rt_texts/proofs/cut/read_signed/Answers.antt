use Rattle.std.proofs.Common.{sym}
use Rattle.rt_texts.proofs.Numbers.{IsUtf8-signed, refused_signed, reprinted_signed}
use Rattle.rt_texts.proofs.cut.read_signed.Goals as goal

pub returns-in_default : goal.returns-in_default
returns-in_default c = λ n h e. c.in_default.ensures.cases.0 (IsUtf8-signed n _ h e)

pub returns-in_default-parse : goal.returns-in_default-parse
returns-in_default-parse c =
    λ n h e. refused_signed n _ _ c.parse.result _ h e c.in-Ok.ensures.cases.0 c.parse.ensures.value.0 c.in_default-parse.is

pub returns-else-eq : goal.returns-else-eq
returns-else-eq c =
    λ n h e. reprinted_signed n c.in-Ok-parse.n _ _ c.as_bytes.result.now c.parse.result h e c.in-Ok.ensures.cases.0 c.parse.ensures.value.0 c.in-Ok-parse.is (cc (c.as_bytes.ensures.value, c.format.ensures.text)) (sym c.if-eq.ensures)
