use Rattle.std.proofs.Common.{◌++◌, ap, ◌∙◌, w32}
use Rattle.std.proofs.lemmas.Int.{to_z-of_z}
use Rattle.std.proofs.lemmas.Result.{on_ok_weaker}
use Rattle.rt_table.specs.Table.{load_word}
use Rattle.rt_table.specs.Inside.Told.{context_of}
use Rattle.rt_table.proofs.context.Context.load_in_frame.Goals as goal

pub returns-in-Word : goal.returns-in-Word
returns-in-Word c =
    rw c.in-Word.is
    (on_ok_weaker c.load_word.result
    (λ e. e ∙ ap (λ k. c.args.rows.now ++ load_word (context_of c.args.self.now) c.args.site c.args.to k) (to_z-of_z w32 c.args.offset c.ranges.offset))
    c.load_word.ensures)
