-- Arcs from outside of the lines that are left.
use Rattle.std.proofs.Common.{◌≡◌, Bool, true, List, [], ◌++◌, Contains, Option, Some, None, length, replicate, sym, ap, subst, ◌∙◌}
use Rattle.std.specs.Prelude.{IfSome}
use Rattle.rt_lines.specs.declared.variable.Dtv.{Dtv}
use Rattle.rt_lines.specs.declared.line.Line.{Line}
use Rattle.rt_lines.specs.Sides.{sides as sides_of}
use Rattle.rt_named.specs.Naming.{named as named_by}
use Rattle.rt_sat.proofs.Frames.{extra_named, side_named}
use Rattle.rt_outline.specs.Lines.{Lined, standing}
use Rattle.rt_outline.proofs.Standing.{all_set, standing_whole}
use Rattle.rt_reduce.specs.Inside.Deciding.{IsOuterFor, IsUpperWith}
use Rattle.rt_rules.proofs.LineSides.{Contains-sides}

-- between the variables that lines and the sides of another one name
pub upper_of : (lines : List Line) (line : Line) (none sides given : List Dtv) (outer : Lined) → none ≡ [] → sides ≡ none ++ sides_of line →
    given ≡ sides → outer ≡ record { lines = lines; named = named_by lines given } → IsUpperWith lines line outer
upper_of lines line none sides given outer start e same is = record {
  own = ap (λ (l : Lined). l.lines) is;
  sides = side_named lines given outer.named (ap (λ (l : Lined). l.named) is);
  line_sides = λ x h. extra_named lines given outer.named (ap (λ (l : Lined). l.named) is) x
      (subst (λ xs. Contains xs x) (sym (same ∙ e ∙ ap (λ xs. xs ++ sides_of line) start)) (Contains-sides line x h));
}

-- if there are such arcs
pub upper_found : (lines : List Line) (line : Line) (none sides given : List Dtv) (found : Option Lined) → none ≡ [] → sides ≡ none ++ sides_of line →
    given ≡ sides → IfSome found (λ outer. outer ≡ record { lines = lines; named = named_by lines given }) →
    IfSome found (IsUpperWith lines line)
upper_found lines line none sides given None start e same is = tt
upper_found lines line none sides given (Some outer) start e same is = upper_of lines line none sides given outer start e same is

-- all lines stand
pub all_stand : (left : List Line) (line : Line) (flags given : List Bool) (outer : Lined) → flags ≡ replicate (length left) true →
    given ≡ flags → IsUpperWith left line outer → IsOuterFor left given line outer
all_stand left line flags given outer set same is = record {
  left_are = sym (ap (λ ls. standing ls given) is.own ∙ standing_whole left given (all_set given (length left) (same ∙ set)));
  sides = is.sides;
  line_sides = is.line_sides;
}
