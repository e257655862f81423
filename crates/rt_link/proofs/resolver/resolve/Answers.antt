use Rattle.std.proofs.Common.{◌≡◌, ◌∙◌, Option, subst, sym}
use Rattle.rt_link.specs.declared.link.Link.{Link}
use Rattle.rt_link.specs.Effects.{code_relocs}
use Rattle.rt_link.specs.Laws.{IsAboutSymbol}
use Rattle.rt_link.specs.Links.{HoldAll}
use Rattle.rt_link.proofs.Held.{link-held}
use Rattle.rt_link.proofs.Linked.{of_about}
use Rattle.rt_link.proofs.Naming.{are_links}
use Rattle.rt_link.proofs.resolver.resolve.Goals as goal

pub named_of-requires : goal.named_of-requires
named_of-requires c =
    let object = c.args.object.now in
    let relocs : c.deref.result.now ≡ code_relocs object = c.deref.ensures.value ∙ c.in_ok-relocs.ensures.list in
    let all : HoldAll object.symbols (code_relocs object) c.in_ok-heads.heads = rw relocs at c.in_ok-heads.ensures.all in
    λ place. subst (λ (l : Option Link). IsAboutSymbol object l) (sym (link-held object.symbols (code_relocs object) c.in_ok-heads.heads place all)) (of_about object (code_relocs object) place (rw c.in_ok-relocs.ensures.list at c.in_ok-relocs.ensures.known))

pub returns-clause-found : goal.returns-clause-found
returns-clause-found c =
    let object = c.args.object.now in
    let first : c.deref.result.now ≡ code_relocs object = c.deref.ensures.value ∙ c.in_ok-relocs.ensures.list in
    let second : c.deref-2.result.now ≡ code_relocs object = c.deref-2.ensures.value ∙ c.in_ok-relocs.ensures.list in
    let third : c.deref-3.result.now ≡ code_relocs object = c.deref-3.ensures.value ∙ c.in_ok-relocs.ensures.list in
    are_links object _ (rw first at c.in_ok-heads.ensures.all) (rw second at c.in_ok-check_partners.ensures.none) c.in_ok-pointers.ensures
    (rw third at c.in_ok-named.ensures)
