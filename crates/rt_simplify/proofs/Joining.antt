-- Twins become one, if there are any.
use Rattle.std.proofs.Common.{◌≡◌, ℕ, ◌⊎◌, inl, inr, List, Option, Some, None, MatchOption, sym, subst, ◌∙◌}
use Rattle.std.proofs.lemmas.Bool.{cases_eq}
use Rattle.rt_lines.specs.declared.label.Variance.{Variance}
use Rattle.rt_lines.specs.declared.variable.Base.TheVariants.{Exist}
use Rattle.rt_lines.specs.declared.line.Line.{Line}
use Rattle.rt_rules.specs.Laws.{NamesBase}
use Rattle.rt_refine.specs.Refinements.{refined}
use Rattle.rt_twins.specs.Twinnings.{IsTwinning, IsCoarsestTwinning}
use Rattle.rt_twins.proofs.OneTwinning.{twinned_loses_lem}
use Rattle.rt_polar.specs.Puts.{Puts}
use Rattle.rt_polar.specs.Tidied.{tidied}
use Rattle.rt_reduction.specs.Simplifies.{HasNoTwins, IsTurnOf, Simplifies, twins_go}
use Rattle.rt_reduction.proofs.Refined.{HaveMoved, lines_move}
use Rattle.rt_simplify.specs.Inside.Twins.{BecomeOne}

-- where the lines stay as they are, each existential is the least of its class
stays_alone : (sign : Variance) (lines : List Line) (class : ℕ → ℕ) → IsTwinning sign lines class → refined class lines ≡ lines →
    (n : ℕ) → class n ≡ n
stays_alone sign lines class is same n = by (cases_eq (class n) n)
  where
    by : (class n ≡ n) ⊎ (class n ≡ n → ⊥) → class n ≡ n
    by (inl e) = e
    by (inr apart) =
        let (names, gone) = twinned_loses_lem sign lines class n is apart in
        absurd (gone (subst (λ ls. NamesBase ls (Exist n)) (sym same) names))

-- and so in each twinning
none_left : (sign : Variance) (lines : List Line) (class : ℕ → ℕ) → IsCoarsestTwinning sign lines class → refined class lines ≡ lines →
    HasNoTwins sign lines
none_left sign lines class c same other t n =
    sym (stays_alone sign lines class c.twins same (other n)) ∙ c.widest other t (other n) n (t.own n)
    ∙ stays_alone sign lines class c.twins same n

-- the lines with the least of each class in the place of the others
abbrev pub AreTwinned : Variance → List Line → List Line → Type 0
AreTwinned sign lines merged = (class : ℕ → ℕ) × IsCoarsestTwinning sign lines class × (merged ≡ refined class lines)

pub no_twins : (sign : Variance) (lines merged : List Line) → AreTwinned sign lines merged → merged ≡ lines → HasNoTwins sign lines
no_twins sign lines merged (class, c, is) same = none_left sign lines class c (sym is ∙ same)

pub become_one : (sign : Variance) (lines merged : List Line) → AreTwinned sign lines merged → IsTurnOf sign lines →
    (merged ≡ lines → ⊥) → BecomeOne lines merged
become_one sign lines merged (class, c, is) turn other = by (lines_move class lines)
  where
    by : (refined class lines ≡ lines) ⊎ HaveMoved class lines → BecomeOne lines merged
    by (inl g) = absurd (other (is ∙ g))
    by (inr (l, d, (x, h, (n, g, apart)))) = record {
      sign = sign;
      class = class;
      w = n;
      turn = turn;
      coarsest = c;
      some = apart;
      is = is;
    }

-- one turn more
pub turn_more : (lines before merged left : List Line) → Puts lines before → BecomeOne lines merged → Simplifies left (tidied merged) →
    Simplifies left before
turn_more lines before merged left p b s =
    twins_go before lines b.sign b.class b.w p b.turn b.coarsest b.some (subst (λ (ls : List Line). Simplifies left (tidied ls)) b.is s)

-- what the merged lines are, and that there are none
pub merged_some : (found : Option (List Line)) (lines merged : List Line) (N : Type 0) → found ≡ Some merged →
    MatchOption found N (BecomeOne lines) → BecomeOne lines merged
merged_some found lines merged N e h = subst (λ (o : Option (List Line)). MatchOption o N (BecomeOne lines)) e h

pub merged_none : (found : Option (List Line)) (lines : List Line) (N : Type 0) → found ≡ None → MatchOption found N (BecomeOne lines) → N
merged_none found lines N e h = subst (λ (o : Option (List Line)). MatchOption o N (BecomeOne lines)) e h
