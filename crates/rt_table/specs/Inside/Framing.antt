-- Bodies and frames of procedures, one for each.
use Rattle.std.specs.Prelude.{◌≡◌, ◌↔◌, ℕ, ◌<◌, List, [], Contains, get_or, length}
use Rattle.std.specs.List.Sorted.{IsStrictlyIncreasing}
use Rattle.rt_elf.specs.Parts.{Parts as Object}
use Rattle.rt_proc.specs.declared.proc.Proc.{Proc}
use Rattle.rt_body.specs.declared.body.Body.{Body}
use Rattle.rt_body.specs.Right.{IsReading}
use Rattle.rt_body.specs.Told.{reading_of, sites_in}
use Rattle.rt_liveness.specs.declared.call.Call.{Call}
use Rattle.rt_frame.specs.Frames.{IsFrameOf}
use Rattle.rt_frame.specs.Told.{frame_of, frame_sites}
use Rattle.rt_table.specs.declared.facts.Framed.{Framed}
use Rattle.rt_table.specs.Facts.{TakesWord}

-- the bodies tell what is true of procedures
pub record AreReadings (object : Object) (procs : List Proc) (bodies : List Body) : Type 0 where
  pub one_each : length bodies ≡ length procs
  pub each : (q : ℕ) (proc : Proc) (body : Body) → q < length procs
      → IsReading object (get_or procs q proc) (reading_of (get_or bodies q body))

-- the frame of a procedure of which a body tells, with these calls at its sites, and the words of the stack that it takes
pub record IsFramed (body : Body) (calls : List (List Call)) (framed : Framed) : Type 0 where
  pub sites : frame_sites framed.frame ≡ sites_in body
  pub frame : IsFrameOf (reading_of body) calls (frame_of framed.frame)
  pub words_ascending : IsStrictlyIncreasing framed.words
  pub words : (k : ℕ) → Contains framed.words k ↔ TakesWord (reading_of body) (frame_of framed.frame) k

-- so are those of procedures
pub record AreFramed (bodies : List Body) (calls : List (List (List Call))) (frames : List Framed) : Type 0 where
  pub one_each : length frames ≡ length bodies
  pub each : (q : ℕ) (body : Body) (framed : Framed) → q < length bodies
      → IsFramed (get_or bodies q body) (get_or calls q []) (get_or frames q framed)
