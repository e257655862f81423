use Rattle.std.proofs.Common.{◌≡◌, ℕ, ◌+◌, List, Some, cond, length, sym, subst, rules}
use Rattle.std.specs.Prelude.{unwrap_or}
use Rattle.std.specs.Str.{bytes_eq}
use Rattle.rt_tree.specs.Partitions.{number_at}
use Rattle.rt_tree.proofs.EdgeLists.{firsts_labels, label_row_at}
use Rattle.rt_tree.proofs.Firsts.{AreFirsts, more_firsts}
use Rattle.rt_tree.proofs.links.first_labels.Goals as goal

pub loop-j-preserved : goal.loop-j-preserved
loop-j-preserved c =
    let links = c.args.links.now in
    let j = c.loop-j.j in
    let f = c.in_ok-first_with.field-0 in
    let row : c.in_ok-row.row.items ≡ label_row_at links j = c.in_ok-row.ensures in
    let is : f ≡ unwrap_or (number_at c.loop-j.rows (label_row_at links j)) j = subst (λ r. f ≡ unwrap_or (number_at c.loop-j.rows r) j) row c.in_ok-first_with.ensures.first in
    let noted : (other : List ℕ) → number_at c.first_with.new.rows other ≡ cond (bytes_eq (label_row_at links j) other) (Some f) (number_at c.loop-j.rows other) =
    subst (λ r. (other : List ℕ) → number_at c.first_with.new.rows other ≡ cond (bytes_eq r other) (Some f) (number_at c.loop-j.rows other)) row c.in_ok-first_with.ensures.noted in
    subst (λ (items : List ℕ). AreFirsts (number_at c.first_with.new.rows) (label_row_at links) items (j + 1)) (sym c.in_ok-push.ensures.items)
    (more_firsts (number_at c.loop-j.rows) (number_at c.first_with.new.rows) (label_row_at links) c.loop-j.first.items j f c.loop-j.invariant is noted)

pub returns : goal.returns
returns c =
    let links = c.args.links.now in
    let all : c.loop-j.j ≡ length links = search rules in
    firsts_labels links c.loop-j.first.items (number_at c.loop-j.rows) (subst (AreFirsts (number_at c.loop-j.rows) (label_row_at links) c.loop-j.first.items) all c.loop-j.invariant)
