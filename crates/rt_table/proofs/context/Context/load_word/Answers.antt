use Rattle.std.proofs.Common.{◌++◌, ap, ◌∙◌, of_z, to_z, w32}
use Rattle.std.proofs.lemmas.Int.{to_z-of_z}
use Rattle.std.proofs.lemmas.Result.{on_ok_weaker}
use Rattle.rt_table.specs.Table.{load_word}
use Rattle.rt_table.specs.Inside.Told.{context_of}
use Rattle.rt_table.proofs.Loading.{load_word-is}
use Rattle.rt_table.proofs.context.Context.load_word.Goals as goal

pub returns : goal.returns
returns c =
    let context = context_of c.args.self.now in
    on_ok_weaker c.word_flows.result
    (λ e. e ∙ load_word-is context c.args.site c.args.to (to_z w32 (of_z w32 c.args.offset)) c.definition-read.result c.args.rows.now c.if-to-eq0.false c.definition-read.ensures
    ∙ ap (λ k. c.args.rows.now ++ load_word context c.args.site c.args.to k) (to_z-of_z w32 c.args.offset c.ranges.offset))
    c.word_flows.ensures
