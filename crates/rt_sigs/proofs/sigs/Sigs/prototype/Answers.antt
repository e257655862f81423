use Rattle.std.proofs.Common.{◌∙◌, ℕ, Vec, Global, List, ap}
use Rattle.rt_sigs.specs.Signatures.{Signature, prototype_of}
use Rattle.rt_sigs.proofs.Finding.{lookup-prototype}
use Rattle.rt_sigs.proofs.sigs.Sigs.prototype.Goals as goal

pub returns : goal.returns
returns c =
    let name = c.args.name.now in
    c.get.ensures.value ∙ (lookup-prototype {K = Vec ℕ Global} (λ k. k.items) name c.self.inside.prototypes.entries ∙ ap (λ (s : List Signature). prototype_of s name) c.self.view_is)
