use Rattle.std.proofs.Common.{◌++◌, codes, refl}
use Rattle.rt_cdecl.specs.Rows.{args_text}
use Rattle.rt_cdecl.proofs.OneRow.{stated_tail}
use Rattle.rt_cdecl.proofs.RowGuesses.{stated_number, stated_reads, stated_is}
use Rattle.rt_cdecl.proofs.reading.guess_stated.Goals as goal

pub returns-in-Err : goal.returns-in-Err
returns-in-Err c = λ returns n args good same. c.in-Err.ensures returns n (stated_tail n args) good.0 good.1 same

pub returns-in_default : goal.returns-in_default
returns-in_default c = λ returns n args good same. absurd (c.in_default.ensures _ (c.in-Ok.ensures returns n (stated_tail n args) good.0 good.1 same).1)

pub returns-in_default-take_number : goal.returns-in_default-take_number
returns-in_default-take_number c =
    λ returns n args good same.
    absurd (c.in_default-take_number.ensures n (codes "(" ++ (args_text args ++ codes ");")) good.1 refl (stated_number n args _ _ (c.in-Ok.ensures returns n (stated_tail n args) good.0 good.1 same).1 c.in-Some.ensures))

pub returns-in_default-after_front : goal.returns-in_default-after_front
returns-in_default-after_front c =
    λ returns n args good same.
    absurd (c.in_default-after_front.ensures _ (c.in-Some-take_number.ensures n (codes "(" ++ (args_text args ++ codes ");")) good.1 refl (stated_number n args _ _ (c.in-Ok.ensures returns n (stated_tail n args) good.0 good.1 same).1 c.in-Some.ensures)).1)

pub returns-in-Ok-guess_args : goal.returns-in-Ok-guess_args
returns-in-Ok-guess_args c =
    λ returns n args good same.
    let s = stated_reads c.args.text.now _ _ _ _ _ _ c.in-Ok.ensures c.in-Some.ensures c.in-Some-take_number.ensures c.in-Some-after_front.ensures returns n args good same in
    stated_is _ _ _ _ _ _ s.0 s.1 (c.in-Ok-guess_args.ensures args good.2 s.2)

pub returns-in-Err-guess_args : goal.returns-in-Err-guess_args
returns-in-Err-guess_args c =
    λ returns n args good same.
    let s = stated_reads c.args.text.now _ _ _ _ _ _ c.in-Ok.ensures c.in-Some.ensures c.in-Some-take_number.ensures c.in-Some-after_front.ensures returns n args good same in
    c.in-Err-guess_args.ensures args good.2 s.2
