-- What is known of an object's procedures.
use Rattle.std.specs.Prelude.{◌≡◌, ◌↔◌, ℕ, zero, suc, pos, ◌+ℤ◌, ◌<◌, Some, true, List, [], ◌∷◌, length, get_or, slice_get, Contains}
use Rattle.std.specs.List.Sorted.{IsStrictlyIncreasing}
use Rattle.rt_elf.specs.Parts.{Parts as Object}
use Rattle.rt_elf.specs.Object.{IsLinkable}
use Rattle.rt_proc.specs.declared.proc.Proc.{Proc}
use Rattle.rt_flow.specs.declared.def.Def.TheVariants.{Entry}
use Rattle.rt_track.specs.declared.value.Value.TheVariants as value
use Rattle.rt_body.specs.declared.action.Action.TheVariants as action
use Rattle.rt_body.specs.declared.action.Address.{Address}
use Rattle.rt_body.specs.declared.action.Loaded.TheVariants as loaded
use Rattle.rt_body.specs.declared.body.Body.{Body}
use Rattle.rt_body.specs.Readings.{Reading, action_at}
use Rattle.rt_body.specs.Told.{reading_of}
use Rattle.rt_liveness.specs.declared.call.Call.{Call}
use Rattle.rt_liveness.specs.Programs.{Program, IsProgram}
use Rattle.rt_liveness.specs.Calls.{AreCallsIn}
use Rattle.rt_liveness.specs.Told.{program_of}
use Rattle.rt_sigs.specs.Signatures.{Signature}
use Rattle.rt_frame.specs.declared.spot.Spot.TheVariants as spot
use Rattle.rt_frame.specs.Frames.{Frame, IsFrameOf, spot_at, byte_at}
use Rattle.rt_frame.specs.Questions.{address_value}
use Rattle.rt_frame.specs.Told.{frame_of}
use Rattle.rt_table.specs.Table.{is_stack_word}
use Rattle.rt_table.specs.declared.facts.Facts.{Facts}
use Rattle.rt_table.specs.declared.facts.Framed.{Framed}

-- what is known of a procedure: its registers, the calls of its sites, its frame, and the offsets of the words of the stack that it takes
-- as arguments
pub record Knowledge : Type 0 where
  pub reading : Reading
  pub calls : List (List Call)
  pub frame : Frame
  pub words : List ℕ

-- a procedure takes the word of the stack at an offset: it loads a word there, on no object of its frame, of which a byte may be as the
-- caller left it
pub record TakesWord (reading : Reading) (frame : Frame) (k : ℕ) : Type 0 where
  pub is_word : is_stack_word (pos k) ≡ true
  pub site : ℕ
  pub within : site < length reading.actions
  pub to : ℕ
  pub address : Address
  pub loads : action_at reading.actions site ≡ action.Load loaded.Word to address
  pub there : address_value reading site address ≡ value.Frame (pos k)
  pub in_frame : spot_at frame.layout (pos k) ≡ spot.Location (pos k)
  pub byte : ℕ
  pub is_byte : byte < 4
  pub passed : Contains (frame.reaching site (byte_at (pos k +ℤ pos byte))) Entry

-- it is what is true of the procedure of a number
pub record IsKnown (program : Program) (q : ℕ) (proc : Proc) (known : Knowledge) : Type 0 where
  pub reading : slice_get program.readings q ≡ Some known.reading
  pub calls : AreCallsIn program q proc known.calls
  pub frame : IsFrameOf known.reading known.calls known.frame
  pub words_ascending : IsStrictlyIncreasing known.words
  pub words : (k : ℕ) → Contains known.words k ↔ TakesWord known.reading known.frame k

-- it is what is true of each procedure, in their order
pub record AreKnown (program : Program) (known : List Knowledge) : Type 0 where
  pub is_program : IsProgram program
  pub one_each : length known ≡ length program.procs
  pub each : (q : ℕ) (proc : Proc) (knowledge : Knowledge) → q < length known
      → IsKnown program q (get_or program.procs q proc) (get_or known q knowledge)

-- what is known of each procedure, by its body, its calls and its frame
abbrev pub knowledge_of : List Body → List (List (List Call)) → List Framed → List Knowledge
knowledge_of [] calls frames = []
knowledge_of (body ∷ bodies) [] frames = []
knowledge_of (body ∷ bodies) (here ∷ calls) [] = []
knowledge_of (body ∷ bodies) (here ∷ calls) (framed ∷ frames) =
    record { reading = reading_of body; calls = here; frame = frame_of framed.frame; words = framed.words }
    ∷ knowledge_of bodies calls frames

-- the facts are those of an object, its procedures and signatures; the relocations of the object are about its symbols
pub record IsFactsOf (object : Object) (procs : List Proc) (signatures : List Signature) (facts : Facts) : Type 0 where
  pub linkable : IsLinkable object
  pub object_is : facts.object.now ≡ object
  pub procs_is : facts.procs.now ≡ procs
  pub signatures_are : facts.sigs.now ≡ signatures
  pub are_known : AreKnown (program_of object procs facts.bodies.items signatures)
      (knowledge_of facts.bodies.items facts.calls facts.frames.items)
