use Rattle.std.proofs.Common.{ℕ, List, Bool}
use Rattle.rt_lines.specs.declared.label.Variance.{Variance}
use Rattle.rt_lines.specs.declared.label.Variance.TheVariants.{Co, Contra}
use Rattle.rt_lines.specs.declared.variable.Dtv.{Dtv}
use Rattle.rt_lines.specs.declared.line.Line.{Line}
use Rattle.rt_polar.specs.Polar.{HasNoSole, IsCandidate}
use Rattle.rt_polar.specs.Polar.IsCandidate.{defines, consumes}
use Rattle.rt_polar.proofs.choosing.candidate.Goals as goal

pub returns-in-Some : goal.returns-in-Some
returns-in-Some c = let f = c.in-Some.ensures in (Co, f.0, defines f.0 c.in-Some.line f.1)

pub returns-in-Some-sole : goal.returns-in-Some-sole
returns-in-Some-sole c = let f = c.in-Some-sole.ensures in (Contra, f.0, consumes f.0 c.in-Some-sole.line c.in_default.ensures f.1)

none : (n : ℕ) (lines : List Line) {sign : Variance} {place : ℕ} {left : Bool} {z : Dtv} → HasNoSole Co n lines → HasNoSole Contra n lines → IsCandidate n lines sign place left z → ⊥
none n lines a b (defines z place s) = a z place s
none n lines a b (consumes z place e s) = b z place s

pub returns : goal.returns
returns c h = none c.args.v c.args.lines.now c.in_default.ensures c.in_default-sole.ensures h.is
