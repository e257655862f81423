use Rattle.std.proofs.Common.{rules, ◌≡◌, ℕ, List, Option, [], ◌∷◌, ◌++◌, unwrap_or, sym, ap, subst, ◌∙◌}
use Rattle.rt_lines.specs.declared.label.Label.{Label}
use Rattle.rt_outline.specs.Inside.Beside.{list_at, AreKeptIn}
use Rattle.rt_outline.proofs.Listing.{noted_added, noted_kept}
use Rattle.rt_outline.proofs.beside.note.Goals as goal

pub returns-in_ok-push-in-Some-clause-kept : goal.returns-in_ok-push-in-Some-clause-kept
returns-in_ok-push-in-Some-clause-kept c =
    let written = (c.get_mut.follows.holds c.push.new.self).3 (search rules) in
    noted_kept c.args.lists.now.entries (c.get_mut.follows.lender c.push.new.self).entries c.args.node c.args.key c.push.new.self
    (c.in_ok-push-in-Some.ensures.ok ∙ ap (λ (o : Option (List ℕ)). unwrap_or o [] ++ c.args.node ∷ []) c.in-Some.ensures.value) written.0

pub returns-in_ok-push-in-Some-clause-added : goal.returns-in_ok-push-in-Some-clause-added
returns-in_ok-push-in-Some-clause-added c =
    let written = (c.get_mut.follows.holds c.push.new.self).3 (search rules) in
    noted_added c.args.lists.now.entries (c.get_mut.follows.lender c.push.new.self).entries c.args.node c.args.key c.push.new.self
    (c.in_ok-push-in-Some.ensures.ok ∙ ap (λ (o : Option (List ℕ)). unwrap_or o [] ++ c.args.node ∷ []) c.in-Some.ensures.value) written.0

pub returns-in_ok-insert-in-None-clause-kept : goal.returns-in_ok-insert-in-None-clause-kept
returns-in_ok-insert-in-None-clause-kept c =
    let same : c.get_mut.follows.lender-at-none.entries ≡ c.args.lists.now.entries = search rules in
    subst (λ (xs : List ((ℕ × Label) × List ℕ)). AreKeptIn xs c.insert.new.self.entries) same
    (noted_kept c.get_mut.follows.lender-at-none.entries c.insert.new.self.entries c.args.node c.args.key c.push-in-None.new.self
    (c.in_ok-push-in-None.ensures.ok ∙ ap (λ (xs : List ℕ). xs ++ c.args.node ∷ []) c.new-nodes.ensures ∙ ap (λ (o : Option (List ℕ)). unwrap_or o [] ++ c.args.node ∷ []) c.in-None.ensures.value
    ∙ ap (λ (xs : List ((ℕ × Label) × List ℕ)). list_at xs c.args.key ++ c.args.node ∷ []) (sym same)) c.in_ok-insert-in-None.ensures.updates.0)
