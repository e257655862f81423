use Rattle.std.proofs.Common.{refl}
use Rattle.std.proofs.lemmas.Bool.{false≢true}
use Rattle.rt_cdecl.proofs.RowGuesses.{scalar_line_of, unused_line, no_rest, no_semicolon, typedef_is, typedef_fault}
use Rattle.rt_cdecl.proofs.reading.guess_typedef.Goals as goal

pub returns-then-is_text : goal.returns-then-is_text
returns-then-is_text c = λ t good same. unused_line t _ (c.if-is_text.ensures.0 refl) good same

pub returns-in_default : goal.returns-in_default
returns-in_default c =
    λ t good same. absurd (no_rest t _ (scalar_line_of t _ _ _ (λ e. false≢true (c.if-is_text.ensures.1 e)) c.split_before.ensures good same) c.in_default.ensures)

pub returns-in_default-before_back : goal.returns-in_default-before_back
returns-in_default-before_back c =
    λ t good same. absurd (no_semicolon t _ _ (scalar_line_of t _ _ _ (λ e. false≢true (c.if-is_text.ensures.1 e)) c.split_before.ensures good same) c.in-Some.ensures c.in_default-before_back.ensures)

pub returns-in-Ok : goal.returns-in-Ok
returns-in-Ok c =
    λ t good same. typedef_is t _ _ _ _ (scalar_line_of t _ _ _ (λ e. false≢true (c.if-is_text.ensures.1 e)) c.split_before.ensures good same) c.in-Some.ensures c.in-Some-before_back.ensures c.in-Ok.ensures

pub returns-in-Err : goal.returns-in-Err
returns-in-Err c =
    λ t good same. typedef_fault t _ _ _ (scalar_line_of t _ _ _ (λ e. false≢true (c.if-is_text.ensures.1 e)) c.split_before.ensures good same) c.in-Some.ensures c.in-Some-before_back.ensures c.in-Err.ensures
