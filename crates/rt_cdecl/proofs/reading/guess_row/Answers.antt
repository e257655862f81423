use Rattle.std.proofs.lemmas.Bool.{false≢true}
use Rattle.rt_cdecl.specs.Inside.Guesses.{Gives}
use Rattle.rt_cdecl.specs.Rows.{Row}
use Rattle.rt_cdecl.proofs.RowGuesses.{field_row, struct_row, stated_row_of}
use Rattle.rt_cdecl.proofs.reading.guess_row.Goals as goal

pub returns-in-Some-after_front-2 : goal.returns-in-Some-after_front-2
returns-in-Some-after_front-2 c =
    λ row good same.
    field_row (λ (r : Row). Gives r c.guess_field.result) row _ _ c.in-Some-after_front-2.ensures c.in_default-after_front.ensures good same c.guess_field.ensures.member c.guess_field.ensures.half

pub returns-in-Some-read_struct_line : goal.returns-in-Some-read_struct_line
returns-in-Some-read_struct_line c = λ row good same. struct_row row _ _ c.in-Some-read_struct_line.ensures good same

pub returns-in-None : goal.returns-in-None
returns-in-None c =
    λ row good same.
    stated_row_of (λ (r : Row). Gives r c.guess_stated.result) row _ (λ e. false≢true (c.if-is_text.ensures.1 e)) c.in_default.ensures c.in_default-after_front-2.ensures c.in-None.ensures good same c.guess_stated.ensures
