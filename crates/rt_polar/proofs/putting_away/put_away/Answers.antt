use Rattle.std.proofs.Common.{◌≡◌, List, Result, Ok, Err, IfOk, sym, subst}
use Rattle.rt_lines.specs.declared.line.Line.{Line}
use Rattle.rt_polar.specs.Inside.Places.{lines_of}
use Rattle.rt_polar.specs.Puts.{Puts}
use Rattle.rt_polar.specs.Tidied.{tidied}
use Rattle.rt_polar.proofs.putting_away.put_away.Goals as goal

-- what holds of a value holds of one that it equals
if_ok : {E : Type 0} (P : List Line → Type 0) (r : Result (List Line) E) (lines : List Line) → P lines → IfOk r (λ ls. ls ≡ lines) → IfOk r P
if_ok P (Ok ls) lines p e = subst P (sym e) p
if_ok P (Err e) lines p h = tt

pub returns : goal.returns
returns c =
    let left = lines_of c.give_all.new.places.slots.items in
    if_ok (λ ls. Puts ls (tidied c.args.lines)) c.gathered.result left (subst (Puts left) c.in_ok-places.ensures.lines c.in_ok-give_all.ensures) c.gathered.ensures
