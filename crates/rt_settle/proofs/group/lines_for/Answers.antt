use Rattle.std.proofs.Common.{◌≡◌, All, sym, ap, subst, ◌∙◌}
use Rattle.std.proofs.lemmas.Bool.{both_ways}
use Rattle.std.proofs.lemmas.Result.{IfOk-weaker}
use Rattle.rt_lines.specs.Lines.{HasConstantsBelow}
use Rattle.rt_scheme.specs.Schemes.{AreSchemeLines}
use Rattle.rt_scheme.specs.SplitExistentials.{split_for}
use Rattle.rt_settle.specs.Chosen.{IsChosenFrom, IsSettled}
use Rattle.rt_settle.specs.Chosen.IsChosenFrom.{as_they_stand, split}
use Rattle.rt_settle.specs.Groups.{TellsOutside}
use Rattle.rt_settle.proofs.Grouping.{TellsOutside-refl, TellsOutside-trans}
use Rattle.rt_settle.proofs.Settled.{interfaces_of_scheme, scheme_interfaces}
use Rattle.rt_settle.proofs.group.lines_for.Goals as goal

pub settle-requires-clause-scheme : goal.settle-requires-clause-scheme
settle-requires-clause-scheme c =
    interfaces_of_scheme c.in_ok-split.split (scheme_interfaces c.args.own c.in_ok-split.split c.in_ok-split.ensures.scheme)

pub settle-requires-clause-constants : goal.settle-requires-clause-constants
settle-requires-clause-constants c =
    c.in_ok-split.ensures.constants c.args.order.now.count
    (subst (All (HasConstantsBelow c.args.order.now.count)) (sym c.items-2.ensures) c.requires.constants)

pub returns-then-are_scheme_lines-clause-tells : goal.returns-then-are_scheme_lines-clause-tells
returns-then-are_scheme_lines-clause-tells c =
    IfOk-weaker c.copy.result _ (λ lines. TellsOutside c.args.order.now c.args.own c.args.settled.now lines)
    (λ r e. subst (λ lines. TellsOutside c.args.order.now c.args.own c.args.settled.now lines) (sym e)
    (TellsOutside-refl c.args.order.now c.args.own c.args.settled.now)) c.copy.ensures

pub returns-clause-bases : goal.returns-clause-bases
returns-clause-bases c =
    IfOk-weaker c.settle.result _ (AreSchemeLines c.args.own) (λ r stays. stays c.args.own c.in_ok-split.ensures.scheme)
    c.settle.ensures.schemes

pub returns-clause-tells : goal.returns-clause-tells
returns-clause-tells c =
    IfOk-weaker c.settle.result _ (λ lines. TellsOutside c.args.order.now c.args.own c.args.settled.now lines)
    (λ r told. TellsOutside-trans c.args.order.now c.args.own c.args.settled.now c.in_ok-split.split r
    (subst (λ lines. TellsOutside c.args.order.now c.args.own lines c.in_ok-split.split) c.items-2.ensures
    (record {
      alike = c.in_ok-split.ensures.alike c.args.order.now;
      constants = c.in_ok-split.ensures.constants;
      globals = c.in_ok-split.ensures.globals;
    })) (told c.args.own))
    c.settle.ensures.tells

pub returns-then-are_scheme_lines-clause-chosen : goal.returns-then-are_scheme_lines-clause-chosen
returns-then-are_scheme_lines-clause-chosen c =
    let scheme : AreSchemeLines c.args.own c.args.settled.now = subst (AreSchemeLines c.args.own) c.items.ensures
    (c.are_scheme_lines.ensures.0 c.if-are_scheme_lines.true) in
    IfOk-weaker c.copy.result _ (λ lines. IsChosenFrom c.args.order.now c.args.own c.args.settled.now lines)
    (λ r e. as_they_stand scheme e) c.copy.ensures

pub returns-clause-chosen : goal.returns-clause-chosen
returns-clause-chosen c =
    let other : AreSchemeLines c.args.own c.args.settled.now → ⊥ =
    λ scheme. both_ways c.are_scheme_lines.result c.if-are_scheme_lines.false
    (c.are_scheme_lines.ensures.1 (subst (AreSchemeLines c.args.own) (sym c.items.ensures) scheme)) in
    let exact : c.in_ok-split.split ≡ split_for c.args.own c.args.settled.now =
    c.in_ok-split.ensures.exact ∙ ap (split_for c.args.own) c.items-2.ensures in
    IfOk-weaker c.settle.result (λ r. IsSettled c.args.order.now c.in_ok-split.split r)
    (λ lines. IsChosenFrom c.args.order.now c.args.own c.args.settled.now lines)
    (λ r settled. split other (subst (λ lines. IsSettled c.args.order.now lines r) exact settled)) c.settle.ensures.settled
