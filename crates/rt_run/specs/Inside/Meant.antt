-- What a request means.
use Rattle.std.specs.Prelude.{option_copied}
use Rattle.rt_run.specs.declared.words.Options.{Options as Chosen}
use Rattle.rt_run.specs.declared.words.Request.{Request}
use Rattle.rt_run.specs.declared.words.Request.TheVariants.{Report as ReportOf, Entail as EntailOf}
use Rattle.rt_run.specs.Words.{Options, Command, Report, Entail}

-- the files that options name
abbrev pub options_of : Chosen → Options
options_of chosen = record { lattice = option_copied chosen.lattice; signatures = option_copied chosen.signatures }

-- the command of a request
abbrev pub meaning : Request → Command
meaning (ReportOf content options object) = Report content (options_of options) object.now
meaning (EntailOf lattice file judgement) = Entail (option_copied lattice) file.now judgement.now
