-- The order of what stands beside an existential, by ranks of kinds, letters and bases.
use Rattle.std.specs.Prelude.{ℕ, ℤ, pos, List, [], ◌∷◌, ◌++◌, map}
use Rattle.std.specs.Ordering.{nat_cmp, int_cmp, ordering_then}
use Rattle.std.specs.declared.cmp.Ordering.{Ordering}
use Rattle.rt_lines.specs.declared.label.Loc.TheVariants.{Arg, Stack}
use Rattle.rt_lines.specs.declared.label.Label.{Label}
use Rattle.rt_lines.specs.declared.label.Label.TheVariants.{In, Out, Load, Store, Field}
use Rattle.rt_lines.specs.declared.variable.Base.{Base}
use Rattle.rt_lines.specs.declared.variable.Base.TheVariants.{Proc, Global, Exist, Outer}
use Rattle.rt_lines.specs.declared.variable.Dtv.{Dtv}
use Rattle.rt_refine.specs.Uses.{Use, Variable, Constant}

-- a kind, a number or width, and an offset
abbrev pub Rank : Type 0
Rank = ℕ × ℕ × ℤ

abbrev pub label_rank : Label → Rank
label_rank (In (Arg n)) = (0, n, pos 0)
label_rank (In (Stack k)) = (1, k, pos 0)
label_rank (Out n) = (2, n, pos 0)
label_rank Load = (3, 0, pos 0)
label_rank Store = (4, 0, pos 0)
label_rank (Field w k) = (5, w, k)

abbrev pub base_rank : Base → Rank
base_rank (Proc n) = (6, n, pos 0)
base_rank (Global n) = (7, n, pos 0)
base_rank (Exist n) = (8, n, pos 0)
base_rank (Outer n) = (9, n, pos 0)

-- the order of ranks, part by part
abbrev pub rank_cmp : Rank → Rank → Ordering
rank_cmp a b = ordering_then (ordering_then (nat_cmp a.0 b.0) (nat_cmp a.1 b.1)) (int_cmp a.2 b.2)

-- those of a word's letters, and of the variable or the constant on the other side
abbrev pub pair_ranks : List Label → Dtv → List Rank
pair_ranks w z = map label_rank w ++ base_rank z.base ∷ map label_rank z.word

abbrev pub bound_ranks : List Label → ℕ → List Rank
bound_ranks w k = map label_rank w ++ (10, k, pos 0) ∷ []

abbrev pub use_ranks : Use → List Rank
use_ranks (w, Variable z) = pair_ranks w z
use_ranks (w, Constant k) = bound_ranks w k
