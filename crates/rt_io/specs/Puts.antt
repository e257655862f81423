-- Texts that are put in pieces.
use Rattle.std.specs.Prelude.{◌≡◌, ◌⊎◌, ◌↔◌, ℕ, zero, suc, ◌*◌, ◌<◌, Option, List, length, take, drop}
use Rattle.std.specs.Io.KnownBytes.{Appends}
use Rattle.rt_base.specs.Outside.{AppendsFront, Tells}

-- the piece of a text of a number, from 0: 4,096 bytes, or what is left
abbrev pub piece_of : List ℕ → ℕ → List ℕ
piece_of text n = take 4096 (drop (n * 4096) text)

-- The first pieces of a text were put, so many of them, one after the other. `Takes` says what a put that writes its piece whole can make
-- of a sink.
abbrev pub ArePut : {S : Type 0} → (S → List ℕ → S → Type 0) → List ℕ → ℕ → S → S → Type 0
ArePut Takes text zero old new = new ≡ old
ArePut {S} Takes text (suc n) old new = (middle : S) × ArePut Takes text n old middle × Takes middle (piece_of text n) new

-- A text was put in its pieces: as many as begin in it, so an empty text in none.
pub record IsPut {S : Type 0} (Takes : S → List ℕ → S → Type 0) (text : List ℕ) (old new : S) : Type 0 where
  pub pieces : ℕ
  pub all : (n : ℕ) → n < pieces ↔ n * 4096 < length text
  pub put : ArePut Takes text pieces old new

-- A text was put up to one of its pieces, whose put failed. `Refuses` says what such a put can make of a sink.
pub record IsPutUpTo {S : Type 0} (Takes Refuses : S → List ℕ → S → Type 0) (text : List ℕ) (old new : S) : Type 0 where
  pub pieces : ℕ
  pub within : pieces * 4096 < length text
  pub middle : S
  pub put : ArePut Takes text pieces old middle
  pub refused : Refuses middle (piece_of text pieces) new

-- A text was put: it was appended to what the sink holds, where that is told, in its pieces.
pub record PutsText {S : Type 0} (written : S → Option (List ℕ)) (Takes : S → List ℕ → S → Type 0) (old new : S)
    (text : List ℕ) : Type 0 where
  pub appended : Appends (written old) (written new) text
  pub put : IsPut Takes text old new

-- A put failed: a prefix of the text was appended, in its pieces up to the one that failed.
pub record PutsFront {S : Type 0} (written : S → Option (List ℕ)) (Takes Refuses : S → List ℕ → S → Type 0) (old new : S)
    (text : List ℕ) : Type 0 where
  pub appended : AppendsFront (written old) (written new) text
  pub put : IsPutUpTo Takes Refuses text old new

-- A line was put whole, in one put: it was appended, unless that put failed.
pub record PutsLine {S : Type 0} (written : S → Option (List ℕ)) (faults : S → ℕ)
    (Takes Refuses : S → List ℕ → S → Type 0) (old new : S) (line : List ℕ) : Type 0 where
  pub told : Tells (faults old) (faults new) (written old) (written new) line
  pub put : Takes old line new ⊎ Refuses old line new
