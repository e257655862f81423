use Rattle.rt_sketch.proofs.Occurring.{adds_both}
use Rattle.rt_sketch.proofs.letters.enter_words.Goals as goal

pub returns : goal.returns
returns c = adds_both c.args.x.now.word c.args.y.now.word c.args.letters.now.keys c.enter_word.new.letters.keys c.enter_word-2.new.letters.keys c.in_ok-enter_word.ensures c.in_ok-enter_word-2.ensures
