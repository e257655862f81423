use Rattle.std.proofs.Common.{◌∙◌, sym}
use Rattle.rt_sketch.specs.Inside.Steps.{rows_of}
use Rattle.rt_sketch.proofs.Numbered.{lead_note, lead_none}
use Rattle.rt_sketch.proofs.machine.Machine.lead.Goals as goal

pub returns-in_ok-note_all-in-Some : goal.returns-in_ok-note_all-in-Some
returns-in_ok-note_all-in-Some c =
    lead_note c.args.self.now.ways (rows_of c.args.self.now.ways c.args.side) c.args.label c.args.number c.in-Some.next c.row.result.now c.args.found.now c.note_all.new.self (sym c.step.ensures ∙ c.in-Some.is) c.row.ensures c.in_ok-note_all-in-Some.ensures

pub returns-in-None : goal.returns-in-None
returns-in-None c = lead_none c.args.self.now.ways (rows_of c.args.self.now.ways c.args.side) c.args.label c.args.number c.args.found.now (sym c.step.ensures ∙ c.in-None.is)
