use Rattle.std.proofs.Common.{length, ap, ◌∙◌, arith}
use Rattle.rt_base.proofs.Entries.{goes_on, ends}
use Rattle.rt_elf.specs.Header.{section_count}
use Rattle.rt_elf.specs.Sections.{section_by}
use Rattle.rt_elf.proofs.Booleans.{checked-ok}
use Rattle.rt_elf.proofs.Lists.{length-entries}
use Rattle.rt_elf.proofs.Reading.{sections-within}
use Rattle.rt_elf.proofs.sections.read_sections.Goals as goal

pub loop-index-preserved : goal.loop-index-preserved
loop-index-preserved c =
    rw (c.in_ok-push.ensures.ok, c.section_at.ensures, c.header_place-place.ensures)
    (goes_on _ _ _ c.loop-index.index c.loop-index.sections _ _ c.loop-index.invariant (omega arith) (checked-ok _ _ (rw c.header_place-place.ensures at c.in_ok-check_section.ensures)))

pub returns-clause-len : goal.returns-clause-len
returns-clause-len c =
    (let all = ends _ _ _ _ _ _ _ c.loop-index.invariant (omega arith) in ap length all.1) ∙ length-entries (section_by c.args.bytes.now) 0 (section_count c.args.bytes.now)

pub returns-clause-few : goal.returns-clause-few
returns-clause-few c =
    let all = ends _ _ _ _ _ _ _ c.loop-index.invariant (omega arith) in
    omega (arith, ap length all.1, length-entries (section_by c.args.bytes.now) 0 (section_count c.args.bytes.now))

pub returns-clause-within : goal.returns-clause-within
returns-clause-within c =
    sections-within c.args.bytes.now (ends _ _ _ _ _ _ _ c.loop-index.invariant (omega arith)).0
