-- What the code's parts tell together.
use Rattle.std.specs.Prelude.{List, map}
use Rattle.rt_elf.specs.Parts.{Parts as Object}
use Rattle.rt_proc.specs.declared.proc.Proc.{Proc}
use Rattle.rt_body.specs.declared.body.Body.{Body}
use Rattle.rt_body.specs.Told.{reading_of}
use Rattle.rt_sigs.specs.Signatures.{Signature}
use Rattle.rt_liveness.specs.Programs.{Program}

-- an object, its procedures, their bodies and signatures
abbrev pub program_of : Object → List Proc → List Body → List Signature → Program
program_of object procs bodies signatures = record {
  object = object;
  procs = procs;
  readings = map reading_of bodies;
  signatures = signatures;
}
