use Rattle.std.proofs.Common.{All, sym, subst, ◌∙◌}
use Rattle.std.proofs.lemmas.List.Elements.{All-append}
use Rattle.rt_lines.specs.Words.{IsLabel}
use Rattle.rt_table.specs.Table.{stack_arguments}
use Rattle.rt_table.proofs.Labelling.{words-labels}
use Rattle.rt_table.proofs.context.Context.member_rows.Goals as goal

pub passed-requires-clause-labels : goal.passed-requires-clause-labels
passed-requires-clause-labels c =
    subst (All IsLabel) (sym (c.deref.ensures.value ∙ c.in_ok-push_words.ensures))
    (All-append IsLabel c.in_ok-labels.labels.items (stack_arguments c.args.words.now) c.in_ok-labels.ensures.good (words-labels c.args.words.now c.requires.words))
