use Rattle.std.proofs.lemmas.Result.{err_from_is_err_and}
use Rattle.rt_cdecl.proofs.Headers.{refused_by}
use Rattle.rt_cdecl.proofs.reader.read.Goals as goal

pub returns-in_err-read_lines-clause-refused : goal.returns-in_err-read_lines-clause-refused
returns-in_err-read_lines-clause-refused c =
    let p = err_from_is_err_and c.from_residual.result c.from_residual.ensures.1 in
    rw (p.1, p.2) (refused_by c.args.text.now _ c.in_err-read_lines.ensures.place)
