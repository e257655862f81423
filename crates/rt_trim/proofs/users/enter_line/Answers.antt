use Rattle.std.proofs.Common.{◌≡◌, sym, subst}
use Rattle.rt_lines.specs.declared.variable.Dtv.{Dtv}
use Rattle.rt_lines.specs.declared.line.Line.{Line}
use Rattle.rt_lines.specs.declared.line.Line.TheVariants.{Sub}
use Rattle.rt_trim.specs.Trimming.{AreEntered, HasLoaded, loaded}
use Rattle.rt_trim.proofs.Entering.{entered_chain, sub_first, sub_loaded, sub_second}
use Rattle.rt_trim.proofs.users.enter_line.Goals as goal

pub returns-in_ok-enter-in-Sub-2 : goal.returns-in_ok-enter-in-Sub-2
returns-in_ok-enter-in-Sub-2 c =
    let x = c.in-Sub.x in
    let y = c.in-Sub.y in
    subst (λ (l : Line). AreEntered (HasLoaded l) c.args.i c.args.users.now.entries c.enter-in-Sub.new.users.entries) (sym c.in-Sub.is)
    (entered_chain (λ (z : Dtv). loaded x ≡ z) (λ (z : Dtv). loaded y ≡ z) (HasLoaded (Sub x y)) c.args.i c.args.users.now.entries
    c.enter.new.users.entries c.enter-in-Sub.new.users.entries (sub_loaded x y) (sub_first x y) (sub_second x y) c.in_ok-enter-in-Sub.ensures
    c.in_ok-enter-in-Sub-2.ensures)
