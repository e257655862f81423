use Rattle.std.proofs.Common.{rules}
use Rattle.rt_sketch.specs.Inside.Letters.{words_of}
use Rattle.rt_sketch.proofs.Occurring.{all_good, has_next}
use Rattle.rt_sketch.proofs.letters.letters_of.Goals as goal

pub returns-clause-next : goal.returns-clause-next
returns-clause-next c = has_next c.args.lines.now _ c.enter_lines.new.letters.keys c.in_ok-enter_lines.ensures

pub returns-clause-good : goal.returns-clause-good
returns-clause-good c = all_good (words_of c.args.lines.now) c.new-letters.result.keys c.enter_lines.new.letters.keys (search rules) c.in_ok-enter_lines.ensures
