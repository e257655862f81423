-- Where control goes from a site.
use Rattle.std.specs.Prelude.{List, [], ◌∷◌, if◌then◌else◌}
use Rattle.std.specs.Option.{option_to_list}
use Rattle.rt_link.specs.Effects.{is_place}
use Rattle.rt_link.specs.declared.place.Place.{Place}
use Rattle.rt_control.specs.declared.form.Called.{Called}
use Rattle.rt_control.specs.declared.form.Called.TheVariants as called
use Rattle.rt_control.specs.declared.form.Form.{Form}
use Rattle.rt_control.specs.declared.form.Form.TheVariants.{Plain, Call, Tail, Return, Stop}
use Rattle.rt_control.specs.declared.form.Target.{Target}
use Rattle.rt_control.specs.declared.form.Target.TheVariants as target
use Rattle.rt_control.specs.declared.form.Way.{Way}
use Rattle.rt_control.specs.declared.form.Way.TheVariants.{On, Jump, Branch, Leave, Table}

-- the places that an instruction leads to, a target before a continuation, those of a table in its order, each once
abbrev pub way_steps : Way → List Place
way_steps (On after) = after ∷ []
way_steps (Jump place) = place ∷ []
way_steps (Branch place after) = if is_place place after then place ∷ [] else place ∷ after ∷ []
way_steps (Leave symbol) = []
way_steps (Table places) = places

-- the places that a site steps to: a call to its continuation, if that is good
abbrev pub steps : Form → List Place
steps (Plain insn way) = way_steps way
steps (Call callee link after) = option_to_list after
steps (Tail leads) = []
steps Return = []
steps Stop = []

-- the code that a call calls
abbrev pub called_code : Called → List Place
called_code (called.Code place) = place ∷ []
called_code (called.Outside symbol) = []
called_code (called.Register register) = []

-- the code that a tail call goes on in
abbrev pub target_code : Target → List Place
target_code (target.Code place) = place ∷ []
target_code (target.Outside symbol) = []

-- the code that a site calls, or goes on in by a far call that keeps no return address
abbrev pub callees : Form → List Place
callees (Plain insn way) = []
callees (Call callee link after) = called_code callee
callees (Tail leads) = target_code leads
callees Return = []
callees Stop = []
