use Rattle.std.proofs.Common.{sym}
use Rattle.rt_texts.proofs.Numbers.{IsUtf8-number, refused_number, reprinted_number}
use Rattle.rt_texts.proofs.cut.read_number.Goals as goal

pub returns-in_default : goal.returns-in_default
returns-in_default c = λ n h e. c.in_default.ensures.cases.0 (IsUtf8-number n _ h e)

pub returns-in_default-parse : goal.returns-in_default-parse
returns-in_default-parse c =
    λ n h e. refused_number n _ _ c.parse.result _ h e c.in-Ok.ensures.cases.0 c.parse.ensures.value.0 c.in_default-parse.is

pub returns-else-eq : goal.returns-else-eq
returns-else-eq c =
    λ n h e. reprinted_number n c.in-Ok-parse.n _ _ c.as_bytes.result.now c.parse.result h e c.in-Ok.ensures.cases.0 c.parse.ensures.value.0 c.in-Ok-parse.is (cc (c.as_bytes.ensures.value, c.format.ensures.text)) (sym c.if-eq.ensures)
