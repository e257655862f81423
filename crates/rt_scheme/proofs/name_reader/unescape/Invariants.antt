use Rattle.std.proofs.Common.{◌≡◌, ◌++◌, length}
use Rattle.rt_scheme.specs.NameReadings.{AreBytes, unescaped}
use Rattle.rt_scheme.proofs.name_reader.unescape.Given as goal

abbrev pub invariant-loop-byte : goal.invariant-loop-byte
invariant-loop-byte l =
    record { value : unescaped l.text ≡ l.bytes.items ++ unescaped l.rest; bytes : AreBytes l.bytes.items }

abbrev pub decreases-loop-byte : goal.decreases-loop-byte
decreases-loop-byte l = length l.rest
