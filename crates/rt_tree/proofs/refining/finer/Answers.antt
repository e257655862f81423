use Rattle.std.proofs.Common.{◌≡◌, ℕ, ◌+◌, ◌<◌, List, Some, cond, length, sym, ap, subst, ◌∙◌, rules}
use Rattle.std.specs.Prelude.{slice_index, unwrap_or}
use Rattle.std.specs.Str.{bytes_eq}
use Rattle.std.proofs.lemmas.List.{get_or_read}
use Rattle.rt_tree.specs.Trees.{leaf}
use Rattle.rt_tree.specs.Partitions.{row_of, row_at, number_at}
use Rattle.rt_tree.proofs.Firsts.{AreFirsts, more_firsts, firsts_finer}
use Rattle.rt_tree.proofs.refining.finer.Goals as goal

pub loop-x-preserved : goal.loop-x-preserved
loop-x-preserved c =
    let nodes = c.args.nodes.now in
    let class = c.args.class.now in
    let x = c.loop-x.x in
    let f = c.in_ok-first_with.field-0 in
    let less : x < length nodes = search rules in
    let row : c.in_ok-row.row.items ≡ row_at class nodes x = c.in_ok-row.ensures ∙ ap (row_of class (slice_index class x)) (get_or_read nodes x c.index-nodes-x.result less c.index-nodes-x.is (leaf 0 0)) in
    let is : f ≡ unwrap_or (number_at c.loop-x.rows (row_at class nodes x)) x = subst (λ r. f ≡ unwrap_or (number_at c.loop-x.rows r) x) row c.in_ok-first_with.ensures.first in
    let noted : (other : List ℕ) → number_at c.first_with.new.rows other ≡ cond (bytes_eq (row_at class nodes x) other) (Some f) (number_at c.loop-x.rows other) =
    subst (λ r. (other : List ℕ) → number_at c.first_with.new.rows other ≡ cond (bytes_eq r other) (Some f) (number_at c.loop-x.rows other)) row c.in_ok-first_with.ensures.noted in
    subst (λ (items : List ℕ). AreFirsts (number_at c.first_with.new.rows) (row_at class nodes) items (x + 1)) (sym c.in_ok-push.ensures.items)
    (more_firsts (number_at c.loop-x.rows) (number_at c.first_with.new.rows) (row_at class nodes) c.loop-x.finer.items x f c.loop-x.invariant is noted)

pub returns : goal.returns
returns c =
    let nodes = c.args.nodes.now in
    let class = c.args.class.now in
    let all : c.loop-x.x ≡ length nodes = search rules in
    firsts_finer nodes c.requires.nodes class c.loop-x.finer.items (number_at c.loop-x.rows)
    (subst (AreFirsts (number_at c.loop-x.rows) (row_at class nodes) c.loop-x.finer.items) all c.loop-x.invariant)
