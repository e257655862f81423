use Rattle.std.proofs.Common.{◌≡◌, ◌<◌, ◌∷◌, ◌++◌, ℕ, [], List, length, subst, ap, sym, ◌∙◌, arith}
use Rattle.std.proofs.lemmas.List.{get_or_default}
use Rattle.std.proofs.lemmas.List.Elements.{All-get_or, All-push, All-set}
use Rattle.rt_sat.specs.declared.gathering.Group.{Group}
use Rattle.rt_sat.specs.Hints.{AreGroups, IsGroup, IsKid}
use Rattle.rt_sat.proofs.Families.{group_more, group_one}
use Rattle.rt_sat.proofs.hints.put_kid.Goals as goal

pub returns-then-index-class : goal.returns-then-index-class
returns-then-index-class c = λ family is all. (
    let groups : List Group = c.args.groups.now.items in
    let place : ℕ = c.in-Some.place.now in
    let old : Group = c.index_mut.result.now in
    let less : place < length groups = omega (arith, c.len.ensures, c.if-place-len.true) in
    let same : c.index.result.now ≡ old = c.index.ensures ∙ get_or_default groups place c.index.result.now old less ∙ sym c.index_mut.ensures.value in
    let here : IsGroup family old = subst (IsGroup family) (sym c.index_mut.ensures.value) (All-get_or (IsGroup family) groups place old less all) in
    let kid : IsKid family old.class c.args.kid = subst (λ n. IsKid family n c.args.kid) (sym c.if-index-class.true ∙ ap (λ (g : Group). g.class) same) is in
    All-set (IsGroup family) groups place c.join.new.group (group_more family old c.join.new.group c.args.kid c.in_ok-join.ensures.class c.in_ok-join.ensures.kids kid here) all)

pub returns : goal.returns
returns c = λ family is all.
    subst (AreGroups family) (sym c.in_ok-push-2.ensures.items)
    (All-push (IsGroup family) c.args.groups.now.items (record { class = c.args.class; kids = c.push.new.self }) all
    (subst (λ kids. IsGroup family (record { class = c.args.class; kids = kids })) (sym (c.in_ok-push.ensures.ok ∙ ap (λ (xs : List _). xs ++ c.args.kid ∷ []) c.new-kids.ensures)) (group_one family c.args.class c.args.kid is)))
