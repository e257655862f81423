-- Places given away and twins made one, in turn: one answer, and alike.
use Rattle.std.proofs.Common.{◌≡◌, ◌≢◌, ℕ, List, Bool, true, refl, ap, subst, ◌∙◌}
use Rattle.rt_lines.specs.declared.label.Variance.{Variance}
use Rattle.rt_lines.specs.declared.label.Variance.TheVariants.{Co, Contra}
use Rattle.rt_lines.specs.declared.variable.Base.{Base}
use Rattle.rt_lines.specs.declared.variable.Base.TheVariants.{Exist}
use Rattle.rt_lines.specs.declared.line.Line.{Line}
use Rattle.rt_lines.specs.Orders.{Below}
use Rattle.rt_rules.specs.Alike.{Alike}
use Rattle.rt_rules.proofs.Covering.{Alike-trans}
use Rattle.rt_refine.specs.Refinements.{refined}
use Rattle.rt_twins.specs.Twinnings.{IsCoarsestTwinning}
use Rattle.rt_twins.proofs.OneTwinning.{one_twinned_lem}
use Rattle.rt_twins.proofs.Twinning.{twinned_alike_lem}
use Rattle.rt_polar.specs.Puts.{Puts}
use Rattle.rt_polar.specs.Tidied.{tidied}
use Rattle.rt_polar.proofs.AlikeTidied.{Alike-tidied}
use Rattle.rt_polar.proofs.Exchanging.{putting_lem}
use Rattle.rt_polar.proofs.OneAnswer.{one_answer_lem}
use Rattle.rt_reduction.specs.Laws.{SimplifiesAlikeLaw, OneSimpleLaw}
use Rattle.rt_reduction.specs.Simplifies.{HasNoTwins, IsTurnOf, of_consumers, Simplifies, simple, twins_go}

abbrev pub twinned_lines : (ℕ → ℕ) → List Line → List Line
twinned_lines class lines = tidied (refined class lines)

-- where an existential isn't the least of its class, there are twins
some_twins : (sign : Variance) (lines : List Line) (class : ℕ → ℕ) (w : ℕ) → IsCoarsestTwinning sign lines class → class w ≢ w →
    HasNoTwins sign lines → ⊥
some_twins sign lines class w c apart none = apart (none class c.twins w)

one_sign : (lines : List Line) (s t : Variance) (p q : ℕ → ℕ) (v w : ℕ) → IsTurnOf s lines → IsTurnOf t lines →
    IsCoarsestTwinning s lines p → IsCoarsestTwinning t lines q → p v ≢ v → q w ≢ w → s ≡ t
one_sign lines Co Co p q v w a b c d e f = refl
one_sign lines Contra Contra p q v w a b c d e f = refl
one_sign lines Co Contra p q v w a (of_consumers _ none) c d e f = absurd (some_twins Co lines p v c e none)
one_sign lines Contra Co p q v w (of_consumers _ none) b c d e f = absurd (some_twins Co lines q w d f none)

no_turn : (lines : List Line) (s : Variance) (class : ℕ → ℕ) (w : ℕ) → IsCoarsestTwinning s lines class → class w ≢ w →
    HasNoTwins Co lines → HasNoTwins Contra lines → ⊥
no_turn lines Co class w c apart none none' = some_twins Co lines class w c apart none
no_turn lines Contra class w c apart none none' = some_twins Contra lines class w c apart none'

-- one step
data Steps (left lines : List Line) : Type 0 where
  ends_here : Puts left lines → HasNoTwins Co left → HasNoTwins Contra left → Steps left lines
  goes_on : (between : List Line) (sign : Variance) (class : ℕ → ℕ) (w : ℕ) → Puts between lines → IsTurnOf sign between →
      IsCoarsestTwinning sign between class → class w ≢ w → Simplifies left (twinned_lines class between) → Steps left lines

steps : {left lines : List Line} → Simplifies left lines → Steps left lines
steps (simple lines p none none') = ends_here p none none'
steps (twins_go lines between sign class w p turn c apart rest) = goes_on between sign class w p turn c apart rest

pub one_simple : (left other start : List Line) → Simplifies left start → Simplifies other start → left ≡ other
one_simple left other start (simple _ p none none') b = by (steps b)
  where
    by : Steps other start → left ≡ other
    by (ends_here q co contra) = one_answer_lem start left other p q
    by (goes_on between sign class w q turn c apart rest) =
        let same : between ≡ left = one_answer_lem start between left q p in
        absurd (no_turn left sign class w (subst (λ ls. IsCoarsestTwinning sign ls class) same c) apart none none')
one_simple left other start (twins_go _ between sign class w p turn c apart rest) b =
    by (steps b) (one_simple left other (twinned_lines class between) rest)
  where
    by : Steps other start → (Simplifies other (twinned_lines class between) → left ≡ other) → left ≡ other
    by (ends_here q none none') induction =
        let same : between ≡ other = one_answer_lem start between other p q in
        absurd (no_turn other sign class w (subst (λ ls. IsCoarsestTwinning sign ls class) same c) apart none none')
    by (goes_on between' sign' class' w' q turn' c' apart' rest') induction =
        let same : between' ≡ between = one_answer_lem start between' between q p in
        let turn'' : IsTurnOf sign' between = subst (IsTurnOf sign') same turn' in
        let c'' : IsCoarsestTwinning sign' between class' = subst (λ ls. IsCoarsestTwinning sign' ls class') same c' in
        let sign_same : sign' ≡ sign = one_sign between sign' sign class' class w' w turn'' turn c'' c apart' apart in
        let lines_same : refined class' between ≡ refined class between = one_twinned_lem sign between class' class
        (subst (λ s. IsCoarsestTwinning s between class') sign_same c'') c in
        induction (subst (Simplifies other) (ap (twinned_lines class') same ∙ ap tidied lines_same) rest')

pub one_simple_lem : OneSimpleLaw
one_simple_lem lines left other = one_simple left other lines

pub simple_alike : (order : Below) (inside : Base → Bool) (left start : List Line) → ((n : ℕ) → inside (Exist n) ≡ true) →
    Simplifies left start → Alike order inside start left
simple_alike order inside left start inner (simple _ p none none') = putting_lem order inside start left inner p
simple_alike order inside left start inner (twins_go _ between sign class w p turn c apart rest) =
    Alike-trans order inside start between left (putting_lem order inside start between inner p)
    (Alike-trans order inside between (refined class between) left
    (twinned_alike_lem order inside between sign class inner c.twins)
    (Alike-trans order inside (refined class between) (twinned_lines class between) left
    (Alike-tidied order inside (refined class between))
    (simple_alike order inside left (twinned_lines class between) inner rest)))

pub simplifies_alike_lem : SimplifiesAlikeLaw
simplifies_alike_lem order inside lines left inner s = simple_alike order inside left lines inner s
