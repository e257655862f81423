use Rattle.std.proofs.Common.{◌≡◌, List, Some, length, Contains, sym, subst}
use Rattle.std.specs.Prelude.{slice_get}
use Rattle.rt_lines.specs.declared.label.Label.{Label}
use Rattle.rt_rules.specs.Rules.{extended}
use Rattle.rt_named.specs.Origins.{made, variables, IsBelow}
use Rattle.rt_named.proofs.Making.{find_some, find_none}
use Rattle.rt_named.proofs.named.Named.find.Goals as goal

pub returns-in-Some : goal.returns-in-Some
returns-in-Some c =
    let keys = c.self.inside.origins.keys in
    subst (λ vs. slice_get vs c.in-Some.number ≡ Some (made vs c.args.origin)) c.self.view_is
    (find_some keys (variables keys) c.self.invariant c.args.origin c.in-Some.number (sym c.in-Some.ensures.index))

pub returns-in-None : goal.returns-in-None
returns-in-None c =
    let keys = c.self.inside.origins.keys in
    let below : IsBelow c.args.origin (length (variables keys)) = subst (λ vs. IsBelow c.args.origin (length vs)) (sym c.self.view_is) c.requires in
    subst (λ vs. (w : List Label) → Contains vs (extended (made vs c.args.origin) w) → ⊥) c.self.view_is
    (find_none keys (variables keys) c.self.invariant c.args.origin below (sym c.in-None.ensures.found))
