use Rattle.std.proofs.Common.{◌≡◌, take, set, get_or}
use Rattle.rt_lines.specs.declared.label.Label.TheVariants.{Load}
use Rattle.rt_chain.specs.Inside.Letters.{other}
use Rattle.rt_chain.proofs.letters.exchanged.Given as goal

abbrev pub invariant-loop-i : goal.invariant-loop-i
invariant-loop-i l = record {
  letters : l.letters ≡ l.word;
  spelling : l.spelling ≡ take l.i (set l.word l.place (other (get_or l.word l.place Load)));
}
