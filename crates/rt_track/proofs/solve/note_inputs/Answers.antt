use Rattle.std.proofs.Common.{subst, sym}
use Rattle.std.specs.Prelude.{OnOk}
use Rattle.rt_track.specs.Inside.Nodes.{NotesNode}
use Rattle.rt_track.specs.declared.nodes.Node.TheVariants as node
use Rattle.rt_track.proofs.Noting.{both_of}
use Rattle.rt_track.proofs.solve.note_inputs.Goals as goal

pub returns-in-Join : goal.returns-in-Join
returns-in-Join c =
    subst (λ n. OnOk c.note_both.result (NotesNode c.args.readers.now.items n c.args.reader c.note_both.new.readers.items)) (sym c.in-Join.is)
    (both_of c.note_both.result c.args.readers.now.items c.note_both.new.readers.items (node.Join c.in-Join.left c.in-Join.right) c.in-Join.left c.in-Join.right c.args.reader (λ y t. t) c.note_both.ensures)

pub returns-in-Add : goal.returns-in-Add
returns-in-Add c =
    subst (λ n. OnOk c.note_both-in-Add.result (NotesNode c.args.readers.now.items n c.args.reader c.note_both-in-Add.new.readers.items)) (sym c.in-Add.is)
    (both_of c.note_both-in-Add.result c.args.readers.now.items c.note_both-in-Add.new.readers.items (node.Add c.in-Add.left c.in-Add.right c.in-Add.field-2 c.in-Add.field-3) c.in-Add.left c.in-Add.right c.args.reader (λ y t. t) c.note_both-in-Add.ensures)
