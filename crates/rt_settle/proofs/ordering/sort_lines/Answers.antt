use Rattle.std.proofs.Common.{◌≡◌, map, sym, is_lt, nat_cmp, rules}
use Rattle.std.specs.Cmp.Lexicographic.{slice_cmp, nat_list_cmp_total}
use Rattle.std.specs.List.Sorted.{IsSortedBy, IsStableBy}
use Rattle.std.proofs.lemmas.List.Sorted.{IsPermutation-map, All-permutation, ranks_by, answers_always}
use Rattle.rt_settle.specs.declared.ordering.Written.{Written}
use Rattle.rt_settle.specs.Sorted.{sort_names}
use Rattle.rt_texts.specs.Texts.{line_text}
use Rattle.rt_settle.proofs.Sorting.{sorted_texts}
use Rattle.rt_settle.proofs.Stable.{stable_lines}
use Rattle.rt_settle.proofs.ordering.sort_lines.Goals as goal

pub returns-clause-same : goal.returns-clause-same
returns-clause-same c =
    let e : c.from_vec.result ≡ map (λ (w : Written). w.line) c.sort_by.new.self.items = search rules in
    rw (e, sym c.in_ok-written.ensures.lines) (IsPermutation-map (λ (w : Written). w.line) c.in_ok-written.written.items c.sort_by.new.self.items c.in_ok-sort_by.ensures.permutation)

pub returns-clause-in_order : goal.returns-clause-in_order
returns-clause-in_order c =
    let before = λ (a b : Written). is_lt (slice_cmp nat_cmp a.text.items b.text.items) in
    let written = c.in_ok-written.written.items in
    let sorted = c.sort_by.new.self.items in
    let moved = c.in_ok-sort_by.ensures.permutation in
    let texts = c.in_ok-written.ensures.texts in
    let e : c.from_vec.result ≡ map (λ (w : Written). w.line) sorted = search rules in
    let rises : IsSortedBy before sorted = c.in_ok-sort_by.ensures.sorted before (ranks_by nat_list_cmp_total (λ w. w.text.items)) (answers_always _ _ _ (λ f a r f' k. search rules)) in
    let stable : IsStableBy before written sorted = c.in_ok-sort_by.ensures.stable before (ranks_by nat_list_cmp_total (λ w. w.text.items)) (answers_always _ _ _ (λ f a r f' k. search rules)) in
    rw (e, sym c.in_ok-written.ensures.lines) (record {
      are_sorted = sorted_texts sorted (All-permutation (λ (w : Written). w.text.items ≡ line_text sort_names w.line) written sorted moved texts) rises;
      stable = stable_lines written sorted moved texts stable;
    })
