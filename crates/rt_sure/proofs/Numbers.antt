-- Which variable lies below which, by variables and by their numbers.
use Rattle.std.proofs.Common.{◌≡◌, ℕ, ◌<◌, List, Bool, true, Contains, length, replicate, sym, ap, subst, ◌∙◌}
use Rattle.std.proofs.lemmas.Option.{slice_get_within}
use Rattle.rt_lines.specs.declared.variable.Dtv.{Dtv}
use Rattle.rt_lines.specs.declared.line.Line.{Line}
use Rattle.rt_lines.specs.Orders.{Below}
use Rattle.rt_outline.specs.Lines.{AreNumbers, IsNumber, Lined, standing}
use Rattle.rt_outline.specs.Lines.{HasBelow as HasVariableBelow}
use Rattle.rt_outline.proofs.Standing.{all_set, standing_whole}
use Rattle.rt_sat.specs.Tables.{HasBelow}
use Rattle.rt_sure.proofs.Leading.{from_numbers, to_numbers}

-- the numbers are those of the variables of a view, too
pub numbers_in : (lines : List Line) (named : List Dtv) (view : Lined) → record { lines = lines; named = named } ≡ view →
    (variables : List Dtv) (numbers given : List ℕ) → given ≡ numbers → AreNumbers named variables numbers →
    AreNumbers view.named variables given
numbers_in lines named view is variables numbers given e are =
    subst (λ (v : Lined). AreNumbers v.named variables given) is (subst (AreNumbers named variables) (sym e) are)

pub numbers_within : (named variables : List Dtv) (numbers : List ℕ) → AreNumbers named variables numbers → (n : ℕ) → Contains numbers n →
    n < length named
numbers_within named variables numbers are n c =
    let r : (x : Dtv) × Contains variables x × IsNumber named n x = are.only n c in slice_get_within named n r.0 r.2

-- all lines stand
pub all_stand : (lines : List Line) (named : List Dtv) (view : Lined) → record { lines = lines; named = named } ≡ view →
    (flags given : List Bool) (count : ℕ) → given ≡ flags → flags ≡ replicate count true → count ≡ length lines →
    standing view.lines given ≡ view.lines
all_stand lines named view is flags given count e f many =
    subst (λ (v : Lined). standing v.lines given ≡ v.lines) is
    (standing_whole lines given (all_set given (length lines) (e ∙ f ∙ ap (λ n. replicate n true) many)))

module _ (order : Below) (lines : List Line) (named from to : List Dtv) (sources targets : List ℕ)
    (first : AreNumbers named from sources) (second : AreNumbers named to targets) where
  pub by_numbers : HasVariableBelow order lines from to → HasBelow order lines named sources targets
  by_numbers (x, y, c, d, below) =
      let s : (n : ℕ) × Contains sources n × IsNumber named n x = first.all x c in
      let t : (n : ℕ) × Contains targets n × IsNumber named n y = second.all y d in
      (s.0, t.0, s.1, t.1, to_numbers order lines named s.0 t.0 x y s.2 t.2 below)

  pub by_variables : HasBelow order lines named sources targets → HasVariableBelow order lines from to
  by_variables (s, t, c, d, below) =
      let x : (z : Dtv) × Contains from z × IsNumber named s z = first.only s c in
      let y : (z : Dtv) × Contains to z × IsNumber named t z = second.only t d in
      (x.0, y.0, x.1, y.1, from_numbers order lines named s t x.0 y.0 x.2 y.2 below)
