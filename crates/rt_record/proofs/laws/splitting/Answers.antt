use Rattle.rt_record.proofs.Splitting.{splits_alike_lem}
use Rattle.rt_record.proofs.Numbered.{parts_lem, one_split_lem}
use Rattle.rt_record.proofs.Naming.{splits_names_lem}
use Rattle.rt_record.proofs.laws.splitting.Goals as goal

pub returns-clause-alike : goal.returns-clause-alike
returns-clause-alike c = splits_alike_lem

pub returns-clause-parts : goal.returns-clause-parts
returns-clause-parts c = parts_lem

pub returns-clause-one : goal.returns-clause-one
returns-clause-one c = one_split_lem

pub returns-clause-names : goal.returns-clause-names
returns-clause-names c = splits_names_lem
