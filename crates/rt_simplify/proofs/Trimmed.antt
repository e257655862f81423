-- What trimming found.
use Rattle.std.proofs.Common.{◌≡◌, ◌<◌, List, Option, Some, None, MatchOption, subst}
use Rattle.std.specs.Option.{IfSome}
use Rattle.rt_lines.specs.declared.line.Line.{Line}
use Rattle.rt_lines.specs.FlowCounts.{flow_count}
use Rattle.rt_trim.specs.Trimming.{HasNoneIdle, IsTrimmed}

pub none_idle : (found : Option (List Line)) (lines : List Line) → found ≡ None →
    MatchOption found (HasNoneIdle lines) (IsTrimmed lines) → HasNoneIdle lines
none_idle found lines e h = subst (λ (o : Option (List Line)). MatchOption o (HasNoneIdle lines) (IsTrimmed lines)) e h

pub some_idle : (found : Option (List Line)) (lines left : List Line) → found ≡ Some left →
    MatchOption found (HasNoneIdle lines) (IsTrimmed lines) → IsTrimmed lines left
some_idle found lines left e h = subst (λ (o : Option (List Line)). MatchOption o (HasNoneIdle lines) (IsTrimmed lines)) e h

pub some_fewer : (found : Option (List Line)) (lines left : List Line) → found ≡ Some left →
    IfSome found (λ ls. flow_count ls < flow_count lines) → flow_count left < flow_count lines
some_fewer found lines left e h = subst (λ (o : Option (List Line)). IfSome o (λ ls. flow_count ls < flow_count lines)) e h
