use Rattle.std.proofs.Common.{[], ◌∷◌, ◌∙◌, arith, option_copied, refl}
use Rattle.rt_run.specs.Words.{Command, Report}
use Rattle.rt_run.specs.Inside.Meant.{options_of}
use Rattle.rt_run.specs.Status.{AreInputs, IsInputRefused}
use Rattle.rt_run.proofs.Refusing.{object_too_large, stops_with}
use Rattle.rt_run.proofs.Stopping.{are_inputs, stops_at_input, stops_at_lattice, stops_at_signatures, stops_for}
use Rattle.rt_run.proofs.top.report.Goals as goal

pub returns-in-Err : goal.returns-in-Err
returns-in-Err g c =
    stops_at_lattice (Report c.args.content (options_of c.args.options) c.args.object.now) (g.F.Files.content c.args.files.now) (g.F.Files.faults c.args.files.now) (g.F.Files.faults c.lattice_for.new.files)
    (option_copied c.args.options.lattice) c.in-Err.stop refl c.in-Err.ensures.stopped

pub returns-in-Err-signatures_for : goal.returns-in-Err-signatures_for
returns-in-Err-signatures_for g c =
    stops_at_signatures (Report c.args.content (options_of c.args.options) c.args.object.now) (g.F.Files.content c.args.files.now) (g.F.Files.content c.lattice_for.new.files)
    (g.F.Files.faults c.args.files.now) (g.F.Files.faults c.lattice_for.new.files) (g.F.Files.faults c.signatures_for.new.files)
    (option_copied c.args.options.signatures) c.in-Ok.lattice c.names.result.now c.in-Err-signatures_for.stop c.in-Ok.ensures.same c.in-Ok.ensures.counted c.in-Ok.ensures.lattice refl c.names.ensures.names
    c.in-Err-signatures_for.ensures.stopped

pub returns-in-Err-content_of : goal.returns-in-Err-content_of
returns-in-Err-content_of g c =
    let command : Command = Report c.args.content (options_of c.args.options) c.args.object.now in
    let inputs : AreInputs command (g.F.Files.content c.args.files.now) c.in-Ok.lattice c.in-Ok-signatures_for.sigs =
    are_inputs command (g.F.Files.content c.args.files.now) (g.F.Files.content c.lattice_for.new.files) c.in-Ok.lattice c.names.result.now c.in-Ok-signatures_for.sigs
    c.in-Ok.ensures.same c.names.ensures.names c.in-Ok.ensures.lattice c.in-Ok-signatures_for.ensures.signatures in
    stops_at_input command (g.F.Files.content c.args.files.now) (g.F.Files.content c.signatures_for.new.files)
    (g.F.Files.faults c.args.files.now) (g.F.Files.faults c.signatures_for.new.files) (g.F.Files.faults c.content_of.new.files) c.in-Ok.lattice c.in-Ok-signatures_for.sigs c.args.object.now
    c.in-Err-content_of.stop refl (λ n. c.in-Ok-signatures_for.ensures.same n ∙ c.in-Ok.ensures.same n) (λ n. omega (arith, c.in-Ok-signatures_for.ensures.counted n, c.in-Ok.ensures.counted n)) inputs
    (stops_with _ (λ bytes. IsInputRefused command c.in-Ok.lattice c.in-Ok-signatures_for.sigs (bytes ∷ [])) (g.F.Files.content c.signatures_for.new.files) (g.F.Files.faults c.signatures_for.new.files) (g.F.Files.faults c.content_of.new.files) c.args.object.now
    c.in-Err-content_of.stop (object_too_large c.in-Ok-signatures_for.sigs) c.in-Err-content_of.ensures.stopped)

pub returns : goal.returns
returns g c =
    let command : Command = Report c.args.content (options_of c.args.options) c.args.object.now in
    let inputs : AreInputs command (g.F.Files.content c.args.files.now) c.in-Ok.lattice c.in-Ok-signatures_for.sigs =
    are_inputs command (g.F.Files.content c.args.files.now) (g.F.Files.content c.lattice_for.new.files) c.in-Ok.lattice c.names.result.now c.in-Ok-signatures_for.sigs
    c.in-Ok.ensures.same c.names.ensures.names c.in-Ok.ensures.lattice c.in-Ok-signatures_for.ensures.signatures in
    stops_for command (g.F.Files.content c.args.files.now) (g.F.Files.content c.signatures_for.new.files) (g.F.Files.faults c.args.files.now) (g.F.Files.faults c.content_of.new.files)
    c.in-Ok.lattice c.in-Ok-signatures_for.sigs c.args.object.now c.in-Ok-content_of.bytes.items c.as_slice.result.now c.in-Err-object_text.why c.stop_of.result
    refl (λ n. c.in-Ok-signatures_for.ensures.same n ∙ c.in-Ok.ensures.same n) inputs c.in-Ok-content_of.ensures.found c.as_slice.ensures.value c.in-Err-object_text.ensures.refused c.stop_of.ensures
