-- Marks that each edge of a graph keeps to.
use Rattle.std.proofs.Common.{◌≡◌, ℕ, ◌<◌, ◌⊎◌, Bool, true, List, Some, length, sym, subst}
use Rattle.std.specs.Prelude.{nat_eq, slice_get}
use Rattle.std.proofs.lemmas.Bool.{eqb-true, and_parts}
use Rattle.std.proofs.lemmas.Option.{slice_get_within}
use Rattle.std.proofs.lemmas.Map.Entries.{place_from_lookup}
use Rattle.rt_lines.specs.declared.label.Label.{Label}
use Rattle.rt_lines.specs.Equality.{label_eq}
use Rattle.rt_shape.specs.Graphs.{Graph, letter_eq}
use Rattle.rt_named.specs.Nodes.{flips_at}
use Rattle.rt_sat.specs.Mattering.{mark_at, AreMarked, IsKeptAt}

pub kept_all : (graph : Graph) (marks : List Bool) → ((i : ℕ) → i < length graph.edges → IsKeptAt graph marks i) → AreMarked graph marks
kept_all graph marks kept n m l e o =
    let p : (i : ℕ) × (t : ℕ × Label) × (slice_get graph.edges i ≡ Some (t, m)) × (letter_eq (n, l) t ≡ true) = place_from_lookup (letter_eq (n, l)) graph.edges m e in
    let q : n ≡ p.1.0 = eqb-true n p.1.0 (and_parts (nat_eq n p.1.0) (label_eq l p.1.1) p.3).0 in
    subst (λ z. mark_at marks (Some z) ≡ true) (sym q)
    (kept p.0 (slice_get_within graph.edges p.0 (p.1, m) p.2) p.1.0 m p.1.1 p.2 (subst (λ z. (flips_at graph (Some z) ≡ true) ⊎ (mark_at marks (Some m) ≡ true)) q o))
