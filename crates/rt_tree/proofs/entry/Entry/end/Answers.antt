use Rattle.std.proofs.Common.{◌≡◌, ℕ, ◌-◌, ◌<◌, List, Some, ap, get_or, length, sym, subst, ◌∙◌, arith}
use Rattle.std.specs.List.{AllByRecursion, slice_get}
use Rattle.std.proofs.lemmas.Option.{slice_get-get_or}
use Rattle.rt_lines.specs.declared.label.Label.{Label}
use Rattle.rt_lines.specs.Words.{IsLabel}
use Rattle.rt_tree.specs.Trees.{Node, place_in}
use Rattle.rt_tree.proofs.Edges.{found_label, found_none, found_other, found_unlike, labels_of, place-le}
use Rattle.rt_tree.proofs.entry.Entry.end.Goals as goal

-- what an index gave of a list that is another
there : (items edges : List (Label × ℕ)) → items ≡ edges → (k : ℕ) (edge : Label × ℕ) → k < length items → edge ≡ get_or items k edge → slice_get edges k ≡ Some edge
there items edges same k edge less is = sym (ap (λ (es : List (Label × ℕ)). slice_get es k) same) ∙ (slice_get-get_or items k edge less ∙ ap Some (sym is))

pub returns-then-not-is_label : goal.returns-then-not-is_label
returns-then-not-is_label c =
    sym (found_unlike c.args.label c.requires.0 c.args.self.now.edges c.requires.1 (λ is. let h = c.if-not-is_label.ensures.1 is in cc))

pub place_of-place-requires-clause-edges : goal.place_of-place-requires-clause-edges
place_of-place-requires-clause-edges c =
    subst (λ (es : List (Label × ℕ)). AllByRecursion (λ (edge : Label × ℕ). IsLabel edge.0) es)
    (sym (ap (λ (n : Node). n.edges) c.self.view_is) ∙ sym c.deref.ensures.value) (labels_of c.requires.0 c.args.self.now.edges c.requires.1)

pub returns-then-place-eq0 : goal.returns-then-place-eq0
returns-then-place-eq0 c =
    let edges = c.args.self.now.edges in
    let same : c.deref.result.now ≡ edges = c.deref.ensures.value ∙ ap (λ (n : Node). n.edges) c.self.view_is in
    sym (found_none c.args.label edges c.requires.1.ordered (sym (ap (place_in c.args.label) same) ∙ (sym c.place_of-place.ensures ∙ c.if-place-eq0.true)))

pub index-requires : goal.index-requires
index-requires c =
    let le = place-le c.args.label c.deref.result.now in
    let is = c.place_of-place.ensures in
    let some = c.if-place-eq0.false in
    let len = c.deref.ensures.len in
    omega arith

pub returns-then-eq : goal.returns-then-eq
returns-then-eq c =
    let edges = c.args.self.now.edges in
    let items = c.self.inside.edges.items in
    let k = c.place_of-place.result - 1 in
    let view : items ≡ edges = ap (λ (n : Node). n.edges) c.self.view_is in
    let same : c.deref.result.now ≡ edges = c.deref.ensures.value ∙ view in
    let some = c.if-place-eq0.false in
    let is : c.place_of-place.result ≡ place_in c.args.label edges = c.place_of-place.ensures ∙ ap (place_in c.args.label) same in
    let le = place-le c.args.label edges in
    let long = ap length view in
    let less : k < length items = omega arith in
    let at : slice_get edges k ≡ Some c.index.result.now = there items edges view k c.index.result.now less c.index.ensures in
    sym (found_label c.args.label edges c.requires.1.ordered k c.index.result.now (omega arith) at (sym c.if-eq.ensures))

pub returns-else-eq : goal.returns-else-eq
returns-else-eq c =
    let edges = c.args.self.now.edges in
    let items = c.self.inside.edges.items in
    let k = c.place_of-place.result - 1 in
    let view : items ≡ edges = ap (λ (n : Node). n.edges) c.self.view_is in
    let same : c.deref.result.now ≡ edges = c.deref.ensures.value ∙ view in
    let some = c.if-place-eq0.false in
    let is : c.place_of-place.result ≡ place_in c.args.label edges = c.place_of-place.ensures ∙ ap (place_in c.args.label) same in
    let le = place-le c.args.label edges in
    let long = ap length view in
    let less : k < length items = omega arith in
    let at : slice_get edges k ≡ Some c.index.result.now = there items edges view k c.index.result.now less c.index.ensures in
    sym (found_other c.args.label edges c.requires.1.ordered k c.index.result.now (omega arith) at (sym c.if-eq.ensures))
