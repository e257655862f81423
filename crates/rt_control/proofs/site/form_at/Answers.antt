use Rattle.std.proofs.Common.{◌<◌, Option, List, All, Ok, Err, length, sym, ap, subst, ◌∙◌}
use Rattle.rt_link.specs.declared.link.Link.{Link}
use Rattle.rt_link.specs.declared.pointers.Pointer.{Pointer}
use Rattle.rt_link.specs.Laws.{IsAboutSymbol}
use Rattle.rt_link.proofs.Linked.{link_about}
use Rattle.rt_control.specs.Tables.{table_register, outcome_of}
use Rattle.rt_control.proofs.GoodForms.{at-good}
use Rattle.rt_control.proofs.KnownForms.{at-known}
use Rattle.rt_control.proofs.OneForm.{at_of, one_at, bad_answer}
use Rattle.rt_control.proofs.Tabled.{jump-known}
use Rattle.rt_control.proofs.site.form_at.Goals as goal

pub outcome_of-requires : goal.outcome_of-requires
outcome_of-requires c =
    subst (λ (entries : List Pointer). All (λ (entry : Pointer). entry.symbol < length c.args.object.now.symbols) entries) (sym c.deref.ensures.value)
    (jump-known c.args.object.now c.args.place (table_register c.insn_at-insn.result) c.in_ok-entries.entries.items c.relocs-relocs.ensures.sound.linkable c.in_ok-entries.ensures)

pub form_of-requires-clause-symbol : goal.form_of-requires-clause-symbol
form_of-requires-clause-symbol c =
    subst (λ (link : Option Link). IsAboutSymbol c.args.object.now link) (sym (c.at-link.ensures ∙ c.requires.links.same c.args.place.section c.args.place.offset))
    (link_about c.args.object.now c.args.place c.relocs-relocs.ensures.sound.linkable)

pub returns-clause-good : goal.returns-clause-good
returns-clause-good c =
    at-good c.args.object.now c.args.place (Ok c.in_ok-form_of.field-0)
    (at_of c.args.object.now c.args.place c.at-link.result c.insn_at-insn.result c.in_ok-entries.entries.items c.in_ok-outcome.outcome (Ok c.in_ok-form_of.field-0)
    c.insn_at-insn.ensures.found c.in_ok-entries.ensures (c.at-link.ensures ∙ c.requires.links.same c.args.place.section c.args.place.offset)
    (c.in_ok-outcome.ensures ∙ ap (λ (entries : List Pointer). outcome_of c.args.object.now entries) c.deref.ensures.value) (sym c.in_ok-form_of.was ∙ c.form_of.ensures))

pub returns-clause-known : goal.returns-clause-known
returns-clause-known c =
    at-known c.args.object.now c.args.place (Ok c.in_ok-form_of.field-0) c.relocs-relocs.ensures.sound.linkable
    (at_of c.args.object.now c.args.place c.at-link.result c.insn_at-insn.result c.in_ok-entries.entries.items c.in_ok-outcome.outcome (Ok c.in_ok-form_of.field-0)
    c.insn_at-insn.ensures.found c.in_ok-entries.ensures (c.at-link.ensures ∙ c.requires.links.same c.args.place.section c.args.place.offset)
    (c.in_ok-outcome.ensures ∙ ap (λ (entries : List Pointer). outcome_of c.args.object.now entries) c.deref.ensures.value) (sym c.in_ok-form_of.was ∙ c.form_of.ensures))

pub returns-clause-only : goal.returns-clause-only
returns-clause-only c = λ other is.
    one_at c.args.object.now c.args.place other (Ok c.in_ok-form_of.field-0) is
    (at_of c.args.object.now c.args.place c.at-link.result c.insn_at-insn.result c.in_ok-entries.entries.items c.in_ok-outcome.outcome (Ok c.in_ok-form_of.field-0)
    c.insn_at-insn.ensures.found c.in_ok-entries.ensures (c.at-link.ensures ∙ c.requires.links.same c.args.place.section c.args.place.offset)
    (c.in_ok-outcome.ensures ∙ ap (λ (entries : List Pointer). outcome_of c.args.object.now entries) c.deref.ensures.value) (sym c.in_ok-form_of.was ∙ c.form_of.ensures))

pub returns-in_err-form_of-clause-only : goal.returns-in_err-form_of-clause-only
returns-in_err-form_of-clause-only c = λ other is.
    bad_answer c.from_residual-in_err-form_of.result c.in_err-form_of.field-0.0 other c.from_residual-in_err-form_of.ensures.1
    (one_at c.args.object.now c.args.place other (Err c.in_err-form_of.field-0.0) is
    (at_of c.args.object.now c.args.place c.at-link.result c.insn_at-insn.result c.in_ok-entries.entries.items c.in_ok-outcome.outcome (Err c.in_err-form_of.field-0.0)
    c.insn_at-insn.ensures.found c.in_ok-entries.ensures (c.at-link.ensures ∙ c.requires.links.same c.args.place.section c.args.place.offset)
    (c.in_ok-outcome.ensures ∙ ap (λ (entries : List Pointer). outcome_of c.args.object.now entries) c.deref.ensures.value) c.in_err-form_of.ensures))
