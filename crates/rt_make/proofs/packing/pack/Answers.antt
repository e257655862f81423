use Rattle.std.proofs.Common.{◌≡◌, length, ap, ◌∙◌, arith}
use Rattle.std.proofs.lemmas.Grind.{common_steps}
use Rattle.rt_make.specs.Packed.{packed, packed_parts}
use Rattle.rt_make.proofs.Lengths.{length-packed}
use Rattle.rt_make.proofs.packing.pack.Goals as goal

pub invariant_of-layout : goal.invariant_of-layout
invariant_of-layout c = record { fits = omega (arith, ap length c.in_ok-strings.ensures, c.in_ok-strings.strings.ok.0, c.len.ensures) }

pub returns-clause-len : goal.returns-clause-len
unfolding packed packed_parts
returns-clause-len c =
    let whole : c.push_section_headers.new.out.items ≡ packed c.args.code.now c.args.symbols.now c.args.relocs.now = grind (arith, common_steps) in
    ap length whole ∙ length-packed c.args.code.now c.args.symbols.now c.args.relocs.now
