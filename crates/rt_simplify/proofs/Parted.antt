-- What splitting found.
use Rattle.std.proofs.Common.{◌≡◌, ◌<◌, List, Option, Some, None, MatchOption, subst, arith}
use Rattle.std.specs.Option.{IfSome}
use Rattle.rt_lines.specs.declared.line.Line.{Line}
use Rattle.rt_lines.specs.FlowCounts.{flow_count}
use Rattle.rt_record.specs.Slots.{HasNoneSplit, IsSplit, letters}
use Rattle.rt_polar.specs.Tidied.{tidied}
use Rattle.rt_reduction.specs.Rounds.{Prepares}
use Rattle.rt_simplify.proofs.Bounding.{splits_of, falls, tidied-lowers, prepares-lowers}

pub none_parted : (found : Option (List Line)) (lines : List Line) → found ≡ None →
    MatchOption found (HasNoneSplit lines) (IsSplit lines) → HasNoneSplit lines
none_parted found lines e h = subst (λ (o : Option (List Line)). MatchOption o (HasNoneSplit lines) (IsSplit lines)) e h

pub some_parted : (found : Option (List Line)) (lines parted : List Line) → found ≡ Some parted →
    MatchOption found (HasNoneSplit lines) (IsSplit lines) → IsSplit lines parted
some_parted found lines parted e h = subst (λ (o : Option (List Line)). MatchOption o (HasNoneSplit lines) (IsSplit lines)) e h

-- fewer splits are left, when what splitting found was tidied and prepared
pub fewer_left : (found : Option (List Line)) (lines parted ready : List Line) → found ≡ Some parted →
    IfSome found (λ ls. flow_count ls ≡ flow_count lines) → IfSome found (λ ls. letters ls < letters lines) →
    Prepares ready (tidied parted) → splits_of ready < splits_of lines
fewer_left found lines parted ready e count smaller p =
    let as_many : flow_count parted ≡ flow_count lines =
    subst (λ (o : Option (List Line)). IfSome o (λ ls. flow_count ls ≡ flow_count lines)) e count in
    let shorter : letters parted < letters lines =
    subst (λ (o : Option (List Line)). IfSome o (λ ls. letters ls < letters lines)) e smaller in
    omega (arith, falls parted lines as_many shorter, tidied-lowers parted, prepares-lowers ready (tidied parted) p)
