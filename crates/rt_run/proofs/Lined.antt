-- Lines that are put together.
use Rattle.std.proofs.Common.{◌≡◌, ◌++◌, ℕ, List, append_assoc, refl}
use Rattle.std.specs.Prelude.{codes, decimal}
use Rattle.rt_run.specs.Errors.{section_text}

pub section_after : (line said new : List ℕ) (section number : ℕ) → new ≡ said ++ decimal number → said ≡ line ++ codes " at section " → number ≡ section → new ≡ line ++ section_text section
unfolding section_text
section_after line said new section number is_new is_said is_number = rw (is_new, is_said, is_number, append_assoc) refl
