-- What signatures name and count.
use Rattle.std.specs.Prelude.{◌≡◌, ◌<◌, ℕ, ◌==◌, ◌||◌, nat_lt, Bool, false, Option, Some, None, List, get_or, slice_get, length}
use Rattle.rt_lines.specs.declared.label.Loc.TheVariants.{Arg}
use Rattle.rt_lines.specs.declared.label.Label.TheVariants.{In, Out}
use Rattle.rt_elf.specs.Parts.{Parts as Object}
use Rattle.rt_body.specs.Symbols.{symbol_of}
use Rattle.rt_scheme.specs.declared.scheme.Scheme.{Scheme}
use Rattle.rt_scheme.specs.Ports.{names_label}
use Rattle.rt_sigs.specs.Signatures.{Signature, signature_of, args_of}
use Rattle.rt_liveness.specs.declared.named.Named.{Named}

-- whether a signature names the argument of a number
abbrev pub names_argument : Option Scheme → ℕ → Bool
names_argument None n = false
names_argument (Some scheme) n = names_label scheme.base scheme.lines (In (Arg n))

-- whether it counts that argument among the registers that the function takes
abbrev pub counts_argument : Option ℕ → ℕ → Bool
counts_argument None n = false
counts_argument (Some count) n = nat_lt n count

-- whether it names the result of a number; where there is none, the result is in a0
abbrev pub names_result : Option Scheme → ℕ → Bool
names_result None r = r == 0
names_result (Some scheme) r = names_label scheme.base scheme.lines (Out r)

-- what a signature names, and of arguments also what it counts
pub record IsNamedBy (signature : Option Scheme) (args : Option ℕ) (named : Named) : Type 0 where
  pub takes : (n : ℕ) → n < 8 → get_or named.takes n false ≡ (names_argument signature n || counts_argument args n)
  pub gives : (r : ℕ) → r < 2 → get_or named.gives r false ≡ names_result signature r

-- what the signatures of an object's symbols name
pub record AreNamed (object : Object) (signatures : List Signature) (named : List Named) : Type 0 where
  pub one_each : length named ≡ length object.symbols
  pub each : (symbol : ℕ) (one : Named) → slice_get named symbol ≡ Some one
      → IsNamedBy (signature_of signatures (symbol_of object symbol).name) (args_of signatures (symbol_of object symbol).name) one
