-- Pieces of a text, as they are put.
use Rattle.std.proofs.Common.{◌≡◌, ℕ, suc, ◌+◌, ◌-◌, ◌*◌, ◌<◌, List, take, drop, length, min, subst, ◌∙◌, ap, arith, length-drop}
use Rattle.std.proofs.lemmas.List.{take_min}
use Rattle.rt_io.specs.Puts.{piece_of, ArePut}

-- the bytes from one place of a text to the next are the piece of the first place's number
piece_is : (text : List ℕ) (pieces at end : ℕ) → at < length text → at ≡ min (pieces * 4096) (length text) → end ≡ min (length text) (at + 4096) → take (end - at) (drop at text) ≡ piece_of text pieces
piece_is text pieces at end less is ends =
    let place : at ≡ pieces * 4096 = omega arith in
    let many : end - at ≡ min 4096 (length (drop at text)) = rw (length-drop at text) (omega arith) in
    ap (λ n. take n (drop at text)) many ∙ (take_min 4096 (drop at text) ∙ ap (λ n. take 4096 (drop n text)) place)

module _ {S : Type 0} (Puts : S → List ℕ → S → Type 0) (text : List ℕ) (pieces at end : ℕ) where
  -- what holds of a put of the bytes between two places holds of that of the piece
  pub put_there : (middle new : S) → at < length text → at ≡ min (pieces * 4096) (length text) → end ≡ min (length text) (at + 4096) → Puts middle (take (end - at) (drop at text)) new → Puts middle (piece_of text pieces) new
  put_there middle new less is ends put = subst (λ piece. Puts middle piece new) (piece_is text pieces at end less is ends) put

  pub put_next : (old middle new : S) → at < length text → at ≡ min (pieces * 4096) (length text) → end ≡ min (length text) (at + 4096) → ArePut Puts text pieces old middle → Puts middle (take (end - at) (drop at text)) new → ArePut Puts text (suc pieces) old new
  put_next old middle new less is ends before put = (middle, before, put_there middle new less is ends put)
