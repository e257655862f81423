use Rattle.std.proofs.Common.{◌∙◌, ap, drop, map}
use Rattle.std.specs.String.{string_bytes}
use Rattle.rt_run.specs.Words.{report_of}
use Rattle.rt_run.specs.Inside.Meant.{options_of}
use Rattle.rt_run.proofs.Wording.{left_all, two_first}
use Rattle.rt_run.proofs.words.read_report.Goals as goal

pub returns-in-None : goal.returns-in-None
returns-in-None c =
    let told = two_first string_bytes c.loop-rest.rest.now _ _ c.as_str.result.now c.as_str-in-len2-up.result.now c.in-len2-up.len_at_least c.word-item.is c.file-item.is c.as_str.ensures.value c.as_str-in-len2-up.ensures.value in
    c.loop-rest.invariant ∙ ap (report_of c.args.content (options_of c.loop-rest.options)) told ∙ c.in-None.ensures c.args.content (map string_bytes (drop 2 c.loop-rest.rest.now))

pub loop-rest-preserved : goal.loop-rest-preserved
loop-rest-preserved c =
    let told = two_first string_bytes c.loop-rest.rest.now _ _ c.as_str.result.now c.as_str-in-len2-up.result.now c.in-len2-up.len_at_least c.word-item.is c.file-item.is c.as_str.ensures.value c.as_str-in-len2-up.ensures.value in
    rw left_all (c.loop-rest.invariant ∙ ap (report_of c.args.content (options_of c.loop-rest.options)) told ∙ c.in-Some.ensures c.args.content (map string_bytes (drop 2 c.loop-rest.rest.now)))
