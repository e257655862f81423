use Rattle.std.proofs.Common.{◌≡◌, ℕ, Vec, Global, List, [], ◌∷◌, ◌++◌, ap, subst, sym, ◌∙◌}
use Rattle.indexmap.proofs.CallerLemmas.{insert_entry-new}
use Rattle.rt_sigs.specs.Signatures.{Signature, HasNamed}
use Rattle.rt_sigs.proofs.Finding.{absent, lookup-prototype, view-push}
use Rattle.rt_sigs.proofs.sigs.Sigs.push.Goals as goal

pub returns : goal.returns
returns c =
    let name = c.args.name in
    let entries = c.self.inside.prototypes.entries in
    let new = subst (λ (s : List Signature). HasNamed s name.items → ⊥) (sym c.self.view_is) c.requires in
    let none = lookup-prototype {K = Vec ℕ Global} (λ k. k.items) name.items entries ∙ absent _ name.items new in
    let grown : c.insert.new.self.entries ≡ entries ++ (name, c.args.prototype) ∷ [] =
    c.in_ok-insert.ensures.entries ∙ insert_entry-new _ c.self.inside.prototypes name c.args.prototype none
    in
    view-push (λ k. k.items) entries c.insert.new.self.entries name c.args.prototype grown ∙ ap (λ (s : List Signature). s ++ (name.items, c.args.prototype) ∷ []) c.self.view_is
