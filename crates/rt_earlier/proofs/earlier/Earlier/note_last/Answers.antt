use Rattle.std.proofs.Common.{◌≡◌, ◌<◌, Some, length, get_or, ap, ◌∙◌, arith}
use Rattle.std.specs.Prelude.{slice_get}
use Rattle.std.proofs.lemmas.Option.{slice_get-get_or}
use Rattle.rt_rules.specs.Rules.{longer}
use Rattle.rt_named.specs.Origins.{no_variable}
use Rattle.rt_earlier.proofs.Reaching.{leads_last}
use Rattle.rt_earlier.proofs.earlier.Earlier.note_last.Goals as goal

pub returns-in_ok-note-clause-sound : goal.returns-in_ok-note-clause-sound
returns-in_ok-note-clause-sound c = λ order lines sound.
    let named = c.args.self.now.named in
    let parent = c.in-Longer.parent in
    let label = c.in-Longer.label in
    let less : c.args.number < length named = c.requires in
    let before : parent < length named = omega (arith, c.in-Longer.ensures.below) in
    let p = get_or named parent no_variable in
    let at : slice_get named parent ≡ Some p = slice_get-get_or named parent no_variable before in
    let here : slice_get named c.args.number ≡ Some (longer p label) = slice_get-get_or named c.args.number no_variable less ∙ ap Some c.in-Longer.ensures.made in
    c.in_ok-note.ensures.sound order lines sound
    (leads_last order lines named p parent c.class_of-class.result label c.args.number at here (sound.there c.args.number (longer p label) here) (c.class_of-class.ensures order lines p sound at))
