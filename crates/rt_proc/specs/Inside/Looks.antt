-- What a look at a place finds: what the site there does, or its fault.
use Rattle.std.specs.Prelude.{◌≡◌, ℕ, Option, Some, IsSome, Ok, Err, List, [], ◌++◌}
use Rattle.std.specs.BTreeMap.{get}
use Rattle.rt_elf.specs.Parts.{Parts as Object}
use Rattle.rt_link.specs.declared.place.Place.{Place}
use Rattle.rt_proc.specs.Ends.{Look, IsLookAt}
use Rattle.rt_link.specs.Links.{place_cmp}
use Rattle.rt_proc.specs.declared.look.Looks.{Looks}
use Rattle.rt_proc.specs.Entries.{IsReached}
use Rattle.rt_proc.specs.Sites.{next_of}
use Rattle.rt_proc.specs.Steps.{steps, callees}

-- the places that a site leads to, by steps and by calls: none of one with a fault
abbrev pub led_by : Look → List Place
led_by (Ok form) = steps form ++ callees form
led_by (Err fault) = []

-- the places that it calls
abbrev pub called_by : Look → List Place
called_by (Ok form) = callees form
called_by (Err fault) = []

-- the places that it steps to in the body that is entered at `own`
abbrev pub stepped_by : List Place → Place → Look → List Place
stepped_by entries own (Ok form) = next_of entries own form
stepped_by entries own (Err fault) = []

-- the look that is kept for a place
abbrev pub look_in : Looks → Place → Option Look
look_in looks place = get place_cmp looks.entries place

-- the looks that are kept are those at places of an object, and one is kept for each place that is reached
pub record AreLooksOf (object : Object) (ends : List ℕ) (looks : Looks) : Type 0 where
  pub sound : (place : Place) (look : Look) → look_in looks place ≡ Some look → IsLookAt object ends place look
  pub complete : (place : Place) → IsReached object ends place → IsSome (look_in looks place)
