use Rattle.std.proofs.Common.{◌≡◌, ◌≢◌, ℕ, List, get_or, sym, ap, ◌∙◌}
use Rattle.rt_lines.specs.declared.label.Variance.{Variance}
use Rattle.rt_lines.specs.declared.variable.Base.TheVariants.{Exist}
use Rattle.rt_lines.specs.declared.variable.Dtv.{Dtv}
use Rattle.rt_lines.specs.declared.line.Line.{Line}
use Rattle.rt_lines.specs.declared.line.Line.TheVariants.{Var}
use Rattle.rt_rules.specs.Put.{exist, use_of}
use Rattle.rt_polar.specs.Polar.{HasNoSole, IsOnlyPlace}
use Rattle.rt_polar.proofs.Cuts.{sole_at, sole_line, sole_place}
use Rattle.rt_polar.proofs.choosing.sole.Goals as goal

-- no line alone has a use
none_alone : (sign : Variance) (n : ℕ) (lines : List Line) → ((place : ℕ) → IsOnlyPlace sign n lines place → ⊥) → HasNoSole sign n lines
none_alone sign n lines none z place s = none place (sole_place sign n z lines place s)

-- the line that alone has a use is of another form
other_form : (sign : Variance) (n : ℕ) (lines : List Line) (place : ℕ) (line : Line) → IsOnlyPlace sign n lines place → line ≡ get_or lines place line → ((z : Dtv) → z.base ≢ Exist n → line ≡ use_of sign n z → ⊥) → HasNoSole sign n lines
other_form sign n lines place line only is form z there s =
    let a : IsOnlyPlace sign n lines there = sole_place sign n z lines there s in
    let e : there ≡ place = only.only there (Var (exist n)) a.within (a.uses (Var (exist n))) in
    form z s.other_base (is ∙ ap (λ k. get_or lines k line) (sym e) ∙ sole_line sign n z lines there line s)

pub returns-in_default : goal.returns-in_default
returns-in_default c = none_alone c.args.sign c.args.v c.args.lines.now c.in_default.ensures

pub returns-in-Some-beside : goal.returns-in-Some-beside
returns-in-Some-beside c =
    let f = c.in-Some-beside.ensures in
    (c.in-Some-beside.field-0.now, sole_at c.args.sign c.args.v c.in-Some-beside.field-0.now c.args.lines.now c.in-Some.place c.index-lines-place.result c.in-Some.ensures f.0 (sym c.index-lines-place.is ∙ f.1))

pub returns-in-None : goal.returns-in-None
returns-in-None c = other_form c.args.sign c.args.v c.args.lines.now c.in-Some.place c.index-lines-place.result c.in-Some.ensures c.index-lines-place.is c.in-None.ensures
