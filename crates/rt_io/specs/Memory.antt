-- Files and sinks in memory.
use Rattle.std.specs.Prelude.{◌≡◌, ◌⊎◌, ℕ, ◌+◌, ◌-◌, ◌<◌, ◌≤◌, nat_lt, nat_eq, min, Option, Some, None, is_none, Contains}
use Rattle.std.specs.Prelude.{List, [], ◌∷◌, ◌++◌, length, take, if◌then◌else◌}
use lib.Pointwise.{pointwise}

-- names with their contents, the numbers of the reads that fail, and how many reads there were
pub record FileList : Type 0 where
  pub contents : List (List ℕ × List ℕ)
  pub fails : List ℕ
  pub reads : ℕ

-- the content of the first pair with the name
abbrev pub content_of : List (List ℕ × List ℕ) → List ℕ → Option (List ℕ)
content_of [] name = None
content_of (pair ∷ pairs) name = if pointwise nat_eq pair.0 name then Some pair.1 else content_of pairs name

-- how many of the listed calls are below a number
abbrev pub failed_below : List ℕ → ℕ → ℕ
failed_below [] number = 0
failed_below (k ∷ fails) number = (if nat_lt k number then 1 else 0) + failed_below fails number

-- how often reads of the name have failed: a name that isn't there fails at each read
abbrev pub faults_of : FileList → List ℕ → ℕ
faults_of files name =
    failed_below files.fails files.reads + (if is_none (content_of files.contents name) then files.reads else 0)

-- A read of the name fails: its number is listed, or the name isn't there.
abbrev pub FailsToRead : FileList → List ℕ → Type 0
FailsToRead files name = Contains files.fails files.reads ⊎ (content_of files.contents name ≡ None)

-- a count of 64 bits with one more, which stays at its end
abbrev pub counted : ℕ → ℕ
counted n = min (n + 1) 18446744073709551615

-- the files after a read, of whatever name
abbrev pub after_read : FileList → FileList
after_read files = record { contents = files.contents; fails = files.fails; reads = counted files.reads }

-- what a sink holds, how many bytes more fit into it, the numbers of the puts that fail, how many bytes of their pieces such puts keep,
-- how many puts have failed, and how many there were
pub record Kept : Type 0 where
  pub written : List ℕ
  pub left : ℕ
  pub fails : List ℕ
  pub keeps : ℕ
  pub faults : ℕ
  pub puts : ℕ

-- the sink after a put that kept these bytes, with so many faults
abbrev pub after_put : Kept → List ℕ → ℕ → Kept
after_put sink kept faults = record {
  written = sink.written ++ kept;
  left = sink.left - length kept;
  fails = sink.fails;
  keeps = sink.keeps;
  faults = faults;
  puts = counted sink.puts;
}

-- A put takes the piece: it fits and the put's number isn't listed. The piece is kept whole.
pub record Takes (sink : Kept) (piece : List ℕ) (after : Kept) : Type 0 where
  pub fits : length piece ≤ sink.left
  pub unlisted : Contains sink.fails sink.puts → ⊥
  pub is_after : after ≡ after_put sink piece sink.faults

-- A put refuses the piece: it doesn't fit, and nothing of it is kept, or it fits and the put's number is listed, and its first bytes are.
pub data Refuses (sink : Kept) (piece : List ℕ) (after : Kept) : Type 0 where
  too_long : sink.left < length piece → after ≡ after_put sink [] (counted sink.faults) → Refuses sink piece after
  listed : length piece ≤ sink.left → Contains sink.fails sink.puts
      → after ≡ after_put sink (take sink.keeps piece) (counted sink.faults) → Refuses sink piece after
