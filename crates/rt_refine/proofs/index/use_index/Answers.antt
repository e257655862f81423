use Rattle.std.proofs.Common.{◌≡◌, ℕ, ◌≤◌, List, length, subst, arith}
use Rattle.std.specs.BTreeMap.{get}
use Rattle.std.specs.BTreeSet.{contains}
use Rattle.std.specs.Ordering.{nat_cmp}
use Rattle.std.proofs.lemmas.List.{take_all}
use Rattle.rt_lines.specs.declared.line.Line.{Line}
use Rattle.rt_polar.specs.Index.{has}
use Rattle.rt_refine.specs.Groups.{class_of}
use Rattle.rt_refine.specs.Ranks.{rank_cmp}
use Rattle.rt_refine.specs.Numbers.{HasNumber, IsIndexOf, IsUseIndex}
use Rattle.rt_refine.proofs.Indexing.{index_whole}
use Rattle.rt_refine.proofs.index.use_index.Goals as goal

pub returns : goal.returns
returns c =
    let lines = c.args.lines.now in
    let class = class_of (get nat_cmp c.args.classes.now) in
    let numbers = HasNumber rank_cmp c.loop-i.numbers in
    let e : c.loop-i.i ≡ length c.args.lines.now = omega arith in
    let h : length c.args.lines.now ≤ c.loop-i.i = omega arith in
    let wanted = contains nat_cmp c.args.wanted.now in
    subst (λ (bound : ℕ). IsUseIndex c.args.side lines class wanted bound (has c.loop-i.index)) e
    (index_whole c.args.side lines class wanted c.loop-i.i numbers (has c.loop-i.index)
    (subst (λ (ls : List Line). IsIndexOf c.args.side ls class wanted c.loop-i.i numbers (has c.loop-i.index)) (take_all c.loop-i.i lines h)
    c.loop-i.invariant))
