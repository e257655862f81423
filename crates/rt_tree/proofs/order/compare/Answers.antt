use Rattle.std.proofs.Common.{◌≡◌, ℕ, ℤ, sym, ap, ◌∙◌, refl, w32, to_z, of_z}
use Rattle.std.proofs.lemmas.Int.{to_z-of_z}
use Rattle.std.specs.Fmt.{signed_decimal}
use Rattle.std.specs.Ordering.{nat_cmp, ordering_then}
use Rattle.std.specs.Cmp.Lexicographic.{slice_cmp}
use Rattle.std.specs.declared.cmp.Ordering.{Ordering}
use Rattle.std.specs.declared.cmp.Ordering.TheVariants.{Less, Equal, Greater}
use Rattle.rt_lines.specs.declared.label.Label.{Label}
use Rattle.rt_lines.specs.Words.{IsLabel}
use Rattle.rt_tree.specs.Labels.{label_cmp}
use Rattle.rt_tree.specs.Kinds.{rank_of, number_of}
use Rattle.rt_tree.proofs.Comparing.{compared, number_fits}
use Rattle.rt_tree.proofs.order.compare.Goals as goal

by_numbers : (k l : Label) → IsLabel k → IsLabel l → (r s : ℕ) (o : Ordering) (y z : ℤ) (found : Ordering) → r ≡ rank_of k → s ≡ rank_of l → o ≡ nat_cmp r s → o ≡ Equal → y ≡ number_of k → z ≡ number_of l → found ≡ slice_cmp nat_cmp (signed_decimal y) (signed_decimal z) → found ≡ label_cmp k l
by_numbers k l good good' r s o y z found er es eo is ey ez ef =
    let ranks : nat_cmp (rank_of k) (rank_of l) ≡ Equal = sym (eo ∙ (ap (λ n. nat_cmp n s) er ∙ ap (nat_cmp (rank_of k)) es)) ∙ is in
    let numbers : found ≡ slice_cmp nat_cmp (signed_decimal (number_of k)) (signed_decimal (number_of l)) =
    ef ∙ (ap (λ n. slice_cmp nat_cmp (signed_decimal n) (signed_decimal z)) ey ∙ ap (λ n. slice_cmp nat_cmp (signed_decimal (number_of k)) (signed_decimal n)) ez) in
    numbers ∙ sym (compared k l good good' ∙ ap (λ p. ordering_then p (slice_cmp nat_cmp (signed_decimal (number_of k)) (signed_decimal (number_of l)))) ranks)

then_first : (o p : Ordering) → (o ≡ Equal → ⊥) → ordering_then o p ≡ o
then_first Less p differ = refl
then_first Equal p differ = absurd (differ refl)
then_first Greater p differ = refl

by_ranks : (k l : Label) → IsLabel k → IsLabel l → (r s : ℕ) (o : Ordering) → r ≡ rank_of k → s ≡ rank_of l → o ≡ nat_cmp r s → (o ≡ Equal → ⊥) → o ≡ label_cmp k l
by_ranks k l good good' r s o er es eo differ =
    let ranks : o ≡ nat_cmp (rank_of k) (rank_of l) = eo ∙ (ap (λ n. nat_cmp n s) er ∙ ap (nat_cmp (rank_of k)) es) in
    let numbers = slice_cmp nat_cmp (signed_decimal (number_of k)) (signed_decimal (number_of l)) in
    sym (compared k l good good' ∙ (ap (λ p. ordering_then p numbers) (sym ranks) ∙ then_first o numbers differ))

-- a label's number as the machine passes it
passed : (l : Label) → IsLabel l → (z : ℤ) → z ≡ number_of l → to_z w32 (of_z w32 z) ≡ number_of l
passed l good z e = ap (λ y. to_z w32 (of_z w32 y)) e ∙ to_z-of_z w32 (number_of l) (number_fits l good)

pub returns-in-Equal : goal.returns-in-Equal
returns-in-Equal c =
    by_numbers c.args.a c.args.b c.requires.a c.requires.b c.rank.result c.rank-2.result c.cmp.result (to_z w32 (of_z w32 c.number.result)) (to_z w32 (of_z w32 c.number-in-Equal.result)) c.compare_numbers.result c.rank.ensures c.rank-2.ensures c.cmp.ensures c.in-Equal.is (passed c.args.a c.requires.a c.number.result c.number.ensures) (passed c.args.b c.requires.b c.number-in-Equal.result c.number-in-Equal.ensures) c.compare_numbers.ensures

pub returns-in_default : goal.returns-in_default
returns-in_default c =
    by_ranks c.args.a c.args.b c.requires.a c.requires.b c.rank.result c.rank-2.result c.cmp.result c.rank.ensures c.rank-2.ensures c.cmp.ensures (λ e. c.in_default.not-Equal e)
