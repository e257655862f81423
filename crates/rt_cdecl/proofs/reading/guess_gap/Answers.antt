use Rattle.std.proofs.Common.{codes, decimal, ◌++◌, refl}
use Rattle.rt_cdecl.proofs.RowGuesses.{gap_is}
use Rattle.rt_cdecl.proofs.reading.guess_gap.Goals as goal

pub returns-in-Some-number_before : goal.returns-in-Some-number_before
returns-in-Some-number_before c =
    λ k n small less same.
    gap_is k n _ _ c.args.text.now _ _ less (c.in-Some.ensures k (codes "[" ++ (decimal n ++ codes "];")) small refl same) c.in-Some-after_front.ensures c.in-Some-number_before.ensures
