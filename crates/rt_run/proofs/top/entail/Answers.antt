use Rattle.std.proofs.Common.{[], ◌∷◌, option_copied, refl, subst}
use Rattle.rt_run.specs.Words.{Command, Entail}
use Rattle.rt_run.specs.Inside.NoTexts.{IsNoText}
use Rattle.rt_run.specs.Entails.{IsEntailRefused}
use Rattle.rt_run.specs.Status.{AreInputs, IsInputRefused}
use Rattle.rt_run.proofs.Refusing.{stops_with, text_too_large}
use Rattle.rt_run.proofs.Stopping.{stops_at_input, stops_at_lattice, stops_for}
use Rattle.rt_run.proofs.top.entail.Goals as goal

pub returns-in-Err : goal.returns-in-Err
returns-in-Err g c =
    stops_at_lattice (Entail (option_copied c.args.lattice) c.args.file.now c.args.judgement.now) (g.F.Files.content c.args.files.now) (g.F.Files.faults c.args.files.now) (g.F.Files.faults c.lattice_for.new.files)
    (option_copied c.args.lattice) c.in-Err.stop refl c.in-Err.ensures.stopped

pub returns-in-Err-content_of : goal.returns-in-Err-content_of
returns-in-Err-content_of g c =
    let command : Command = Entail (option_copied c.args.lattice) c.args.file.now c.args.judgement.now in
    let inputs : AreInputs command (g.F.Files.content c.args.files.now) c.in-Ok.lattice [] = record { is_lattice = c.in-Ok.ensures.lattice; are_signatures = refl } in
    stops_at_input command (g.F.Files.content c.args.files.now) (g.F.Files.content c.lattice_for.new.files)
    (g.F.Files.faults c.args.files.now) (g.F.Files.faults c.lattice_for.new.files) (g.F.Files.faults c.content_of.new.files) c.in-Ok.lattice [] c.args.file.now c.in-Err-content_of.stop
    refl c.in-Ok.ensures.same c.in-Ok.ensures.counted inputs
    (stops_with _ (λ text. IsInputRefused command c.in-Ok.lattice [] (text ∷ [])) (g.F.Files.content c.lattice_for.new.files) (g.F.Files.faults c.lattice_for.new.files) (g.F.Files.faults c.content_of.new.files) c.args.file.now
    c.in-Err-content_of.stop (text_too_large c.in-Ok.lattice.names c.args.judgement.now) c.in-Err-content_of.ensures.stopped)

pub returns : goal.returns
returns g c =
    let command : Command = Entail (option_copied c.args.lattice) c.args.file.now c.args.judgement.now in
    let inputs : AreInputs command (g.F.Files.content c.args.files.now) c.in-Ok.lattice [] = record { is_lattice = c.in-Ok.ensures.lattice; are_signatures = refl } in
    stops_for command (g.F.Files.content c.args.files.now) (g.F.Files.content c.lattice_for.new.files) (g.F.Files.faults c.args.files.now) (g.F.Files.faults c.content_of.new.files)
    c.in-Ok.lattice [] c.args.file.now c.in-Ok-content_of.bytes.items c.as_slice.result.now c.in-Err-entail_text.why c.stop_of.result
    refl c.in-Ok.ensures.same inputs c.in-Ok-content_of.ensures.found c.as_slice.ensures.value
    (subst (λ judgement. IsNoText (IsEntailRefused c.in-Ok.lattice.names judgement c.as_slice.result.now) c.in-Err-entail_text.why) c.as_bytes.ensures.value c.in-Err-entail_text.ensures.refused) c.stop_of.ensures
