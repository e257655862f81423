use Rattle.std.proofs.Common.{◌≡◌, ◌<◌, ◌++◌, Contains, List, Bool, Some, true, length, get_or, sym, ap, subst, ◌∙◌}
use Rattle.std.specs.Prelude.{slice_get}
use Rattle.std.proofs.lemmas.Option.{slice_get-get_or}
use Rattle.rt_lines.specs.declared.line.Line.{Line}
use Rattle.rt_lines.specs.declared.line.Line.TheVariants.{Sub}
use Rattle.rt_rules.specs.Rules.{Derivable}
use Rattle.rt_sure.specs.Fates.{flag_at, AreSure, HasBefore}
use Rattle.rt_sure.specs.Grounds.{Grounded, HasFlagged, IsGround}
use Rattle.rt_sure.proofs.Fating.{ground_derives}
use Rattle.rt_sure.proofs.ground.Ground.is_derived.Goals as goal

pub returns : goal.returns
returns c = λ e order l at left has before stand all.
    let lines : List Line = c.self.inside.known.lines.items in
    let stays : List Bool = c.self.inside.known.stays.items in
    let joined : List Bool = c.self.inside.known.joined.items in
    let place = c.args.place in
    let view : record { lines = lines; stays = stays } ≡ c.args.self.now = c.self.view_is in
    let is : IsGround lines stays joined c.self.inside.table.base c.self.inside.table.growing = c.self.invariant.0 in
    let line : Line = c.in-Some-Sub.field-0.now in
    let more : List Line = c.in_ok-more.more.items in
    let small : place < length lines =
    subst (λ (ls : List Line). place < length ls) c.deref.ensures.value c.in-Some-Sub.ensures.lookup.3.0 in
    let read : line ≡ get_or lines place line =
    c.in-Some-Sub.ensures.lookup.1 ∙ ap (λ (ls : List Line). get_or ls place line) c.deref.ensures.value in
    let here : slice_get lines place ≡ Some line = slice_get-get_or lines place line small ∙ ap Some (sym read) in
    let shape : line ≡ Sub c.in-Some-Sub.x c.in-Some-Sub.y = c.in-Some-Sub.field-0-is in
    let there : slice_get lines place ≡ Some l =
    subst (λ (v : Grounded). slice_get v.lines place ≡ Some l) (sym view) at in
    let same : line ≡ l = (let h : Some line ≡ Some l = sym here ∙ there in cc) in
    let flag : flag_at joined place ≡ true =
    subst (λ (fs : List Bool). flag_at fs place ≡ true) c.deref-2.ensures.value (sym c.is_set.ensures ∙ c.if-not-is_set.false) in
    let derived : Derivable order (is.told ++ c.deref-5.result.now) (Sub c.in-Some-Sub.x c.in-Some-Sub.y) =
    c.in_ok-yes.ensures e order is.told is.tells in
    let sure : AreSure lines c.args.stands.now more =
    subst (λ (ls : List Line). AreSure ls c.args.stands.now more) c.deref-3.ensures.value c.in_ok-more.ensures in
    ground_derives order lines stays joined c.args.stands.now c.self.inside.table.base c.self.inside.table.growing is more place l left sure
    there (c.in-Some-Sub.x, c.in-Some-Sub.y, sym same ∙ shape) flag
    (subst (λ (ls : List Line). Derivable order (is.told ++ ls) l) c.deref-5.ensures.value
    (subst (Derivable order (is.told ++ c.deref-5.result.now)) (sym shape ∙ same) derived))
    (subst (λ (v : Grounded). HasFlagged v.lines v.stays left) (sym view) has)
    (subst (λ (v : Grounded). HasBefore v.lines place left) (sym view) before)
    (subst (λ (v : Grounded). HasFlagged v.lines c.args.stands.now left) (sym view) stand)
    (λ m h. all m (subst (λ (v : Grounded). Contains v.lines m) view h))
