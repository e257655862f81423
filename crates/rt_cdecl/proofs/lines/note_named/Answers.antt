use Rattle.std.proofs.Common.{rules}
use Rattle.rt_cdecl.proofs.Noting.{gains_one}
use Rattle.rt_cdecl.proofs.lines.note_named.Goals as goal

pub returns : goal.returns
returns c = gains_one c.args.lines.now c.insert.new.self c.push_typedef_text.new.out c.args.kind.now c.in_ok-copy_of.field-0 c.in_ok-copy_of.ensures (search rules) c.in_ok-insert.ensures.entries
