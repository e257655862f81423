use Rattle.std.proofs.lemmas.Bool.{false≢true}
use Rattle.std.proofs.Common.{◌∙◌, List, refl}
use Rattle.rt_lines.specs.declared.label.Loc.{Loc}
use Rattle.rt_cdecl.specs.declared.declarations.CType.{CType}
use Rattle.rt_cdecl.specs.Inside.Guesses.{Gives}
use Rattle.rt_cdecl.proofs.ArgTexts.{none_is, some_are}
use Rattle.rt_cdecl.proofs.reading.guess_args.Goals as goal

pub returns-then-is_text : goal.returns-then-is_text
returns-then-is_text c = λ args good same. c.new.ensures ∙ none_is args _ (c.if-is_text.ensures.0 refl) same

pub returns : goal.returns
returns c = λ args good same. some_are (λ (x : List (Loc × CType)). Gives x c.take_args.result) args _ (λ e. false≢true (c.if-is_text.ensures.1 e)) c.take_args.ensures good same
