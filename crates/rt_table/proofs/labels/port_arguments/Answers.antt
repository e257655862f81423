use Rattle.std.proofs.Common.{All, sym, subst}
use Rattle.std.proofs.lemmas.List.Elements.{All-append}
use Rattle.rt_table.specs.Inside.Parts.{IsPassed}
use Rattle.rt_table.specs.Table.{stack_arguments}
use Rattle.rt_table.proofs.Labelling.{registers-passed, words-passed}
use Rattle.rt_table.proofs.labels.port_arguments.Goals as goal

pub returns-clause-passed : goal.returns-clause-passed
returns-clause-passed c =
    let words = c.deref.result.now in
    subst (All IsPassed) (sym c.in_ok-push_words.ensures)
    (All-append IsPassed c.in_ok-labels.labels.items (stack_arguments words)
    (subst (All IsPassed) (sym c.in_ok-labels.ensures) (registers-passed c.args.ports.now c.args.covered)) (words-passed words))
