use Rattle.std.proofs.Common.{◌≡◌, map, All}
use Rattle.rt_texts.specs.Texts.{line_text}
use Rattle.rt_settle.specs.Sorted.{sort_names}
use Rattle.rt_settle.proofs.ordering.with_texts.Given as goal

abbrev pub invariant-loop-line : goal.invariant-loop-line
invariant-loop-line l =
    (map (λ w. w.line) l.written.items ≡ l.yielded) × All (λ w. w.text.items ≡ line_text sort_names w.line) l.written.items
