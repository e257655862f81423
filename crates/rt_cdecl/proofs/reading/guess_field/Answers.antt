use Rattle.std.proofs.Common.{codes, decimal, ◌++◌}
use Rattle.rt_cdecl.proofs.RowGuesses.{member_is, half_is}
use Rattle.rt_cdecl.proofs.reading.guess_field.Goals as goal

pub returns-in-Some-clause-member : goal.returns-in-Some-clause-member
returns-in-Some-clause-member c =
    λ field good same. member_is field _ _ _ good (c.in-Ok.ensures field.kind (codes "m" ++ (decimal field.offset ++ codes ";")) good.0 same) c.in-Some.ensures

pub returns-in-Some-number_between-clause-half : goal.returns-in-Some-number_between-clause-half
returns-in-Some-number_between-clause-half c =
    λ r t good same. half_is r _ t _ _ good.0 (c.in-Ok.ensures t (codes "a" ++ (decimal r ++ codes ";")) good.1.0 same) c.in-Some-number_between.ensures
