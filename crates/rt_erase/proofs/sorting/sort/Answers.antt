use Rattle.std.proofs.Common.{ℕ, ◌+◌, ◌<◌, drop, get_or, length, sym, ap, subst, ◌∙◌, rules}
use Rattle.std.specs.List.{flat_map}
use Rattle.std.proofs.lemmas.List.{drop_more}
use Rattle.rt_lines.specs.declared.label.Loc.TheVariants.{Arg}
use Rattle.rt_lines.specs.declared.label.Label.{Label}
use Rattle.rt_lines.specs.declared.label.Label.TheVariants.{In}
use Rattle.rt_erase.specs.Rows.{row_of, sorted_with}
use Rattle.rt_erase.proofs.Entering.{AreNext, next_more, next_others, none_yet, sorted_more}
use Rattle.rt_erase.proofs.sorting.sort.Goals as goal

pub loop-label-init : goal.loop-label-init
loop-label-init c =
    let edges = c.args.edges.now in
    record {
      next = subst (λ rows. AreNext rows edges) (sym c.new-sorted.ensures) (none_yet edges c.requires);
      sorted = ap (λ rows. sorted_with rows (flat_map row_of edges)) c.new-sorted.ensures;
    }

pub enter-requires : goal.enter-requires
enter-requires c =
    let edges = c.args.edges.now in
    let rows = c.loop-label.sorted in
    let k = c.loop-label.label-index in
    let d : Label × ℕ = (In (Arg 0), 0) in
    let less : k < length edges = search rules in
    next_others rows (get_or edges k d) (drop (k + 1) edges) (subst (AreNext rows) (drop_more edges k d less) c.loop-label.invariant.next)

pub loop-label-preserved : goal.loop-label-preserved
loop-label-preserved c =
    let edges = c.args.edges.now in
    let rows = c.loop-label.sorted in
    let k = c.loop-label.label-index in
    let d : Label × ℕ = (In (Arg 0), 0) in
    let less : k < length edges = search rules in
    let edge : Label × ℕ = get_or edges k d in
    let rest = drop (k + 1) edges in
    let more = drop_more edges k d less in
    record {
      next = subst (λ now. AreNext now rest) (sym c.in_ok-enter.ensures) (next_more rows edge rest (subst (AreNext rows) more c.loop-label.invariant.next));
      sorted =
          ap (λ now. sorted_with now (flat_map row_of rest)) c.in_ok-enter.ensures
          ∙ (sym (sorted_more rows edge rest) ∙ (ap (λ es. sorted_with rows (flat_map row_of es)) (sym more) ∙ c.loop-label.invariant.sorted));
    }
