use Rattle.std.proofs.Common.{◌<◌, ◌≤◌, arith, inl, inr, refl, length, None, Some, sym, ap, subst, ◌∙◌}
use Rattle.std.proofs.lemmas.Option.{slice_get_within, slice_get_read}
use Rattle.rt_lines.specs.declared.line.Line.TheVariants.{Sub}
use Rattle.rt_base.proofs.Lists.{Contains-read}
use Rattle.rt_outline.specs.Arcs.{IsAdded}
use Rattle.rt_outline.proofs.Entered.{lines_more, lines_other}
use Rattle.rt_outline.proofs.entering.enter_line.Goals as goal

pub number-from-requires : goal.number-from-requires
number-from-requires c = c.requires.sides (Sub c.in-Sub.x c.in-Sub.y) c.in-Sub.x (Contains-read c.args.lines.now c.args.i c.index-lines-i.result (Sub c.in-Sub.x c.in-Sub.y) c.requires.index (sym c.index-lines-i.is ∙ c.in-Sub.is)) (inl refl)

pub number-requires : goal.number-requires
number-requires c = c.requires.sides (Sub c.in-Sub.x c.in-Sub.y) c.in-Sub.y (Contains-read c.args.lines.now c.args.i c.index-lines-i.result (Sub c.in-Sub.x c.in-Sub.y) c.requires.index (sym c.index-lines-i.is ∙ c.in-Sub.is)) (inr refl)

pub join-requires-clause-from : goal.join-requires-clause-from
join-requires-clause-from c = let h : c.number-from.result < length c.args.named.now = slice_get_within c.args.named.now c.number-from.result c.in-Sub.x c.number-from.ensures in let n : length c.args.named.now ≤ length c.args.frame.now.origins.items = c.requires.nodes in omega (arith, h, n)

pub join-requires-clause-to : goal.join-requires-clause-to
join-requires-clause-to c = let h : c.number.result < length c.args.named.now = slice_get_within c.args.named.now c.number.result c.in-Sub.y c.number.ensures in let n : length c.args.named.now ≤ length c.args.frame.now.origins.items = c.requires.nodes in omega (arith, h, n)

pub returns-in_ok-join-in-Sub-clause-arcs : goal.returns-in_ok-join-in-Sub-clause-arcs
returns-in_ok-join-in-Sub-clause-arcs c =
    lines_more c.args.lines.now c.args.named.now c.args.i c.in-Sub.x c.in-Sub.y c.number-from.result c.number.result c.args.frame.now.arcs.items c.join.new.self.arcs.items
    (slice_get_read c.args.lines.now (length c.args.lines.now) c.args.i c.index-lines-i.result refl c.requires.index c.index-lines-i.is ∙ ap Some c.in-Sub.is) c.number-from.ensures c.number.ensures
    (subst (λ n. IsAdded c.number-from.result (record { to = c.number.result; line = Some n }) c.args.frame.now.arcs.items c.join.new.self.arcs.items) c.in_ok-line_at-in-Sub.ensures c.in_ok-join-in-Sub.ensures.added) c.requires.arcs

pub returns-in_ok-join-in-Sub-clause-pushed : goal.returns-in_ok-join-in-Sub-clause-pushed
returns-in_ok-join-in-Sub-clause-pushed c = λ v w h. (elim (c.in_ok-join-in-Sub.ensures.added.only v w None h) [ inl d ↦ d | inr e ↦ absurd (let f = e.2 in cc) ])

pub returns-in-Var-clause-arcs : goal.returns-in-Var-clause-arcs
returns-in-Var-clause-arcs c = lines_other c.args.lines.now c.args.named.now c.args.i c.index-lines-i.result c.args.frame.now.arcs.items (slice_get_read c.args.lines.now (length c.args.lines.now) c.args.i c.index-lines-i.result refl c.requires.index c.index-lines-i.is) (λ x y e. (let f = e ∙ c.in-Var.is in cc)) c.requires.arcs

pub returns-in-Same-clause-arcs : goal.returns-in-Same-clause-arcs
returns-in-Same-clause-arcs c = lines_other c.args.lines.now c.args.named.now c.args.i c.index-lines-i.result c.args.frame.now.arcs.items (slice_get_read c.args.lines.now (length c.args.lines.now) c.args.i c.index-lines-i.result refl c.requires.index c.index-lines-i.is) (λ x y e. (let f = e ∙ c.in-Same.is in cc)) c.requires.arcs

pub returns-in-Low-clause-arcs : goal.returns-in-Low-clause-arcs
returns-in-Low-clause-arcs c = lines_other c.args.lines.now c.args.named.now c.args.i c.index-lines-i.result c.args.frame.now.arcs.items (slice_get_read c.args.lines.now (length c.args.lines.now) c.args.i c.index-lines-i.result refl c.requires.index c.index-lines-i.is) (λ x y e. (let f = e ∙ c.in-Low.is in cc)) c.requires.arcs

pub returns-in-Up-clause-arcs : goal.returns-in-Up-clause-arcs
returns-in-Up-clause-arcs c = lines_other c.args.lines.now c.args.named.now c.args.i c.index-lines-i.result c.args.frame.now.arcs.items (slice_get_read c.args.lines.now (length c.args.lines.now) c.args.i c.index-lines-i.result refl c.requires.index c.index-lines-i.is) (λ x y e. (let f = e ∙ c.in-Up.is in cc)) c.requires.arcs
