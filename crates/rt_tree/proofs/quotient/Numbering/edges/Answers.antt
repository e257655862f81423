use Rattle.std.proofs.Common.{ℕ, ◌+◌, ◌<◌, List, ◌∷◌, [], ◌++◌, map, take, length, get_or, sym, subst, ◌∙◌, rules}
use Rattle.std.proofs.lemmas.List.{take_more}
use Rattle.rt_lines.specs.declared.label.Loc.TheVariants.{Arg}
use Rattle.rt_lines.specs.declared.label.Label.{Label}
use Rattle.rt_lines.specs.declared.label.Label.TheVariants.{In}
use Rattle.rt_tree.specs.Trees.{IsEdge, Stand}
use Rattle.rt_tree.specs.Pairs.{ArePaired}
use Rattle.rt_tree.specs.Inside.Quotients.{IsEndOf}
use Rattle.rt_tree.proofs.Edges.{each_at}
use Rattle.rt_tree.proofs.Numbers.{extends_more, image_more, stand_more, number_stands}
use Rattle.rt_tree.proofs.quotient.Numbering.edges.Goals as goal
use Rattle.rt_base.proofs.Lists.{map-push}

pub loop-label-preserved : goal.loop-label-preserved
loop-label-preserved c =
    let class = c.args.class.now in
    let edges = c.args.edges.now in
    let old = c.args.self.now.order.items in
    let mid = c.loop-label.self.order.items in
    let new = c.number_of.new.self.order.items in
    let ends = c.loop-label.ends.items in
    let k = c.loop-label.label-index in
    let n = c.in_ok-end.end in
    let d : Label × ℕ = (In (Arg 0), 0) in
    let edge : Label × ℕ = get_or edges k d in
    let less : k < length edges = search rules in
    let inside : edge.1 < length class = (each_at (IsEdge (length class)) edges k d less c.requires.ends).1 in
    let image : ArePaired (IsEndOf new class) (ends ++ (edge.0, n) ∷ []) (take k edges ++ edge ∷ []) =
    image_more class mid new ends (take k edges) edge.0 n edge.1 c.loop-label.invariant.image c.in_ok-end.ensures.number in
    let stand : Stand (length old) (map (λ (e : Label × ℕ). e.1) ends ++ n ∷ []) (length new) =
    stand_more (length old) (length mid) (length new) (map (λ (e : Label × ℕ). e.1) ends) n c.loop-label.invariant.stand (number_stands mid new (get_or class edge.1 0) n c.in_ok-end.ensures.number) in
    record {
      numbers = c.in_ok-end.ensures.numbers;
      each = c.in_ok-end.ensures.each ∙ c.loop-label.invariant.each;
      longer = extends_more class old mid new edge.1 n c.loop-label.invariant.longer inside c.in_ok-end.ensures.number;
      image =
          subst (λ es. ArePaired (IsEndOf new class) es (take (k + 1) edges)) (sym c.in_ok-push.ensures.items)
          (subst (ArePaired (IsEndOf new class) (ends ++ (edge.0, n) ∷ [])) (sym (take_more edges k d less)) image);
      stand =
          subst (λ (es : List (Label × ℕ)). Stand (length old) (map (λ (e : Label × ℕ). e.1) es) (length new)) (sym c.in_ok-push.ensures.items)
          (subst (λ ns. Stand (length old) ns (length new)) (sym (map-push (λ (e : Label × ℕ). e.1) ends (edge.0, n))) stand);
    }
