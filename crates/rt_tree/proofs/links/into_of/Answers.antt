use Rattle.std.proofs.Common.{◌≡◌, ℕ, ◌<◌, ◌+◌, ◌++◌, ◌∷◌, [], List, length, set, get_or, subst, ap, ◌∙◌, arith, rules}
use Rattle.std.proofs.Math.ListN.{length-set}
use Rattle.std.proofs.lemmas.List.{get_or_read}
use Rattle.std.proofs.lemmas.Option.{slice_get-get_or}
use Rattle.rt_lines.specs.declared.label.Loc.TheVariants.{Arg}
use Rattle.rt_lines.specs.declared.label.Label.TheVariants.{In}
use Rattle.rt_tree.specs.declared.links.Link.{Link}
use Rattle.rt_tree.specs.Inside.Splits.{AreIntoTo}
use Rattle.rt_tree.proofs.Items.{into_more}
use Rattle.rt_tree.proofs.links.into_of.Goals as goal

pub loop-j-preserved : goal.loop-j-preserved
loop-j-preserved c =
    let count = c.args.count in
    let links = c.args.links.now in
    let into = c.loop-j.into.items in
    let j = c.loop-j.j in
    let d : Link = record { from = 0; label = In (Arg 0); to = 0 } in
    let link : Link = get_or links j d in
    let less : j < length links = search rules in
    let ends = c.requires.ends j d less in
    let each : length into ≡ count + length links = c.loop-j.invariant.each in
    let first = c.push.new.self in
    let row : c.index_mut.result.now ≡ get_or into link.to [] =
    get_or_read into link.to c.index_mut.result.now (let h : link.to < count = ends.1 in omega arith) c.index_mut.ensures.value [] in
    let long = length-set into link.to first in
    let row' : c.index_mut-in-loop-j.result.now ≡ get_or (set into link.to first) (count + j) [] =
    get_or_read (set into link.to first) (count + j) c.index_mut-in-loop-j.result.now (omega arith) c.index_mut-in-loop-j.ensures.value [] in
    into_more count links j into c.loop-j.invariant link (slice_get-get_or links j d less) ends.1 ends.0 first c.push-in-loop-j.new.self
    (c.in_ok-push.ensures.ok ∙ ap (λ (r : List ℕ). r ++ (count + j) ∷ []) row)
    (c.in_ok-push-2.ensures.ok ∙ ap (λ (r : List ℕ). r ++ link.from ∷ []) row')

pub returns : goal.returns
returns c =
    let links = c.args.links.now in
    let all : c.loop-j.j ≡ length links = search rules in
    subst (λ n. AreIntoTo c.args.count links n c.loop-j.into.items) all c.loop-j.invariant
