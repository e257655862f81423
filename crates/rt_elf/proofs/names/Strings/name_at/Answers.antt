use Rattle.std.proofs.Common.{◌≡◌, ℕ, ◌<◌, ◌≤◌, List, length, slice_index, ap, ◌∙◌, arith}
use Rattle.std.specs.List.{slice_range}
use Rattle.std.proofs.lemmas.Bool.{ne_eqb}
use Rattle.std.proofs.lemmas.List.{get_or_default}
use Rattle.rt_elf.specs.Names.{name_at}
use Rattle.rt_elf.proofs.Ends.{end-within, range-name}
use Rattle.rt_elf.proofs.names.Strings.name_at.Goals as goal

pub in_block-requires-2-clause-within : goal.in_block-requires-2-clause-within
in_block-requires-2-clause-within c =
    let strings = c.self.inside.block.value in
    let ends = c.self.inside.ends.items in
    let there : c.args.offset ≤ length strings = rw c.self.view_is c.requires in
    let within : c.args.offset < length ends = omega (arith, there, c.self.invariant.len) in
    let index : c.index.result.now ≡ slice_index ends c.args.offset = c.index.ensures ∙ get_or_default ends c.args.offset c.index.result.now 0 within in
    rw index (end-within strings ends c.args.offset c.self.invariant there)

pub returns : goal.returns
returns c =
    let strings = c.self.inside.block.value in
    let ends = c.self.inside.ends.items in
    let there : c.args.offset ≤ length strings = rw c.self.view_is c.requires in
    let within : c.args.offset < length ends = omega (arith, there, c.self.invariant.len) in
    let index : c.index.result.now ≡ slice_index ends c.args.offset = c.index.ensures ∙ get_or_default ends c.args.offset c.index.result.now 0 within in
    let name : slice_range strings c.args.offset c.index.result.now ≡ name_at c.args.self.now c.args.offset =
    ap (λ (end : ℕ). slice_range strings c.args.offset end) index ∙ range-name strings ends c.args.offset c.self.invariant there (ne_eqb c.args.offset 0 c.if-offset-eq0.false)
    ∙ ap (λ (s : List ℕ). name_at s c.args.offset) c.self.view_is in
    rw name at c.in_block-2.ensures
