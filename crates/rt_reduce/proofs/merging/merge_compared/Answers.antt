use Rattle.std.proofs.Common.{◌≡◌, ℕ, List, [], sym, ap, subst, ◌∙◌}
use Rattle.rt_lines.specs.declared.line.Line.{Line}
use Rattle.rt_named.specs.Naming.{named as named_by}
use Rattle.rt_equals.specs.Comparing.{AreEquals, Lined}
use Rattle.rt_sat.specs.Increments.{Tells}
use Rattle.rt_reduce.specs.Inside.Deciding.{IsTableAbout}
use Rattle.rt_reduce.proofs.Tabled.{merged_about, some_more}
use Rattle.rt_reduce.proofs.merging.merge_compared.Goals as goal

pub equals-requires : goal.equals-requires
equals-requires c =
    let lines : c.args.outer.now.lines ≡ c.in_ok-comparison.comparison.lines =
    c.requires.outer.0 ∙ sym (ap (λ (t : Lined). t.lines) c.in_ok-comparison.ensures) in
    let named : c.args.outer.now.named ≡ named_by c.in_ok-comparison.comparison.lines [] =
    c.requires.outer.1 ∙ ap (λ (ls : List Line). named_by ls []) (sym (ap (λ (t : Lined). t.lines) c.in_ok-comparison.ensures)) in
    λ i. record { lines = lines i; named = named i }

pub merge_numbered-requires-clause-own : goal.merge_numbered-requires-clause-own
merge_numbered-requires-clause-own c = ap (λ (t : Lined). t.lines) c.in_ok-comparison.ensures

pub merge_numbered-requires-clause-named : goal.merge_numbered-requires-clause-named
merge_numbered-requires-clause-named c = ap (λ (t : Lined). t.named) c.in_ok-comparison.ensures

pub merge_numbered-requires-clause-equals : goal.merge_numbered-requires-clause-equals
merge_numbered-requires-clause-equals c =
    let known = c.in_ok-comparison.comparison.named in
    subst (λ (xs : List ℕ). AreEquals c.args.lines.now known xs) (sym c.deref.ensures.value)
    (subst (λ (ls : List Line). AreEquals ls known c.in_ok-compared.compared.numbers.items) (ap (λ (t : Lined). t.lines) c.in_ok-comparison.ensures)
    c.in_ok-compared.ensures.numbers)

pub returns-clause-table : goal.returns-clause-table
returns-clause-table c =
    let lines = c.args.lines.now in
    let left = c.in_ok-left.left in
    some_more c.in_ok-compared.compared.table (Tells c.in_ok-comparison.comparison.lines) (IsTableAbout left)
    (λ g t. merged_about lines left g c.in_ok-left.ensures.merges
    (subst (λ (ls : List Line). Tells ls g) (ap (λ (t : Lined). t.lines) c.in_ok-comparison.ensures) t))
    c.in_ok-compared.ensures.table
