use Rattle.std.proofs.Common.{◌≡◌, get_or, sym, ap, ◌∙◌}
use Rattle.rt_link.specs.Checks.{no_reloc}
use Rattle.rt_link.specs.Effects.{place_of}
use Rattle.rt_link.specs.Links.{link_held, named_by}
use Rattle.rt_link.proofs.Naming.{named-added, named-kept}
use Rattle.rt_link.proofs.named.named_of.Goals as goal
use Rattle.rt_link.proofs.named.named_of.Goals.{in-Some+in_ok-insert, in_default}

pub loop-reloc-preserved : goal.loop-reloc-preserved
loop-reloc-preserved c =
    let symbols = c.args.object.now.symbols in
    let heads = c.args.heads.now in
    let relocs = c.args.relocs.now in
    let n = c.loop-reloc.reloc-index in
    let found : c.named_by.result ≡ named_by symbols (link_held heads (place_of (get_or relocs n no_reloc))) =
    c.named_by.ensures ∙ ap (named_by symbols) (c.link.ensures ∙ ap (link_held heads) c.place_of.ensures) in
    elim c.match-named_by.branch [
      | in-Some+in_ok-insert w ↦
          rw w.named-is
          (named-added symbols heads relocs n c.loop-reloc.named w.insert.new.self w.in-Some.place c.loop-reloc-test.true (sym found ∙ w.in-Some.is)
          w.in_ok-insert.ensures.updates.0 c.loop-reloc.invariant)
      | in_default w ↦
          rw w.named-is
          (named-kept symbols heads relocs n c.loop-reloc.named c.loop-reloc-test.true (sym found ∙ w.in_default.is) c.loop-reloc.invariant)
    ]
