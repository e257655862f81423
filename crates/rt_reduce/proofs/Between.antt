-- Rounds until nothing is left to do.
use Rattle.std.proofs.Common.{◌≡◌, ◌<◌, ◌⊎◌, inl, inr, List, Bool, true, false, MatchBool, refl, sym, subst}
use Rattle.rt_lines.specs.declared.label.Variance.TheVariants.{Co, Contra}
use Rattle.rt_lines.specs.declared.variable.Base.TheVariants.{Exist}
use Rattle.rt_lines.specs.declared.line.Line.{Line}
use Rattle.rt_lines.specs.Orders.{Below}
use Rattle.rt_polar.specs.Tidied.{tidied}
use Rattle.rt_reduction.specs.Emits.{AreOfScheme}
use Rattle.rt_reduction.specs.Rounds.{IsRound, IsDone, IsUnfinished, of_candidate, of_twins, of_unused, of_unjoined}
use Rattle.rt_reduction.specs.Rounds.{Reduces, done, again}
use Rattle.rt_reduction.proofs.Losing.{round_loses_lem, round_names_lem}
use Rattle.rt_reduction.proofs.NamesFrom.{named_from, names_tidied}
use Rattle.rt_simplify.proofs.Staying.{round_tidied_lem}
use Rattle.rt_reduce.specs.Inside.Settling.{AreUsed, IsSimplified}
use Rattle.rt_reduce.proofs.Falling.{AreOfNumbers, named_count, named_falls, number_of}
use Rattle.rt_reduce.proofs.Joined.{round_anchored}

-- where something is left, not everything is done
pub unfinished_undone : (lines : List Line) → IsUnfinished lines → IsDone lines → ⊥
unfinished_undone lines (of_candidate n has) d = d.no_candidate n has
unfinished_undone lines (of_twins Co class n is apart) d = apart (d.no_twins.0 class is n)
unfinished_undone lines (of_twins Contra class n is apart) d = apart (d.no_twins.1 class is n)
unfinished_undone lines (of_unused n names unused) d = let (l, c, u) = d.used n names in unused l c u
unfinished_undone lines (of_unjoined n names unjoined) d = unjoined (d.joined n names)

-- what a round left may be what rounds leave, or is reduced further
abbrev pub Ends : Below → List Line → List Line → Type 0
Ends order now form = (IsDone now × (form ≡ now)) ⊎ ((IsDone now → ⊥) × Reduces order form now)

module _ (order : Below) where
  one_round : (before now form : List Line) → IsRound order before now → Ends order now form → Reduces order form before
  one_round before now form r (inl (d, e)) = subst (λ ls. Reduces order ls before) (sym e) (done before r d)
  one_round before now form r (inr (undone, rest)) = again before now r undone rest

  -- between two rounds over lines
  pub record IsBetween (lines now : List Line) : Type 0 where
    pub before : List Line
    pub round : IsRound order before now
    pub numbers : AreOfNumbers lines now
    pub ends : (form : List Line) → Ends order now form → Reduces order form (tidied lines)

  pub first_round : (lines now : List Line) → IsRound order (tidied lines) now → IsBetween lines now
  first_round lines now r = record {
    before = tidied lines;
    round = r;
    numbers = λ n h. number_of lines n
        (named_from lines (tidied lines) (names_tidied lines) (Exist n) (round_names_lem order (tidied lines) now r (Exist n) h));
    ends = λ form e. one_round (tidied lines) now form r e;
  }

  module _ (lines now after : List Line) (between : IsBetween lines now) (r : IsRound order (tidied now) after)
      (left : IsUnfinished now) where
    same : IsRound order now after
    same = subst (λ ls. IsRound order ls after) (round_tidied_lem order between.before now between.round) r

    pub next_round : IsBetween lines after
    next_round = record {
      before = now;
      round = same;
      numbers = λ n h. between.numbers n (round_names_lem order now after same (Exist n) h);
      ends = λ form e. between.ends form (inr (unfinished_undone now left, one_round now after form same e));
    }

    pub round_falls : AreOfScheme now → named_count lines after < named_count lines now
    round_falls scheme =
        let (n, names, gone) = round_loses_lem order now after scheme same left in
        named_falls lines now after (λ m h. round_names_lem order now after same (Exist m) h) n (between.numbers n names) names gone

  pub last_round : (lines now : List Line) → IsBetween lines now → IsSimplified now × AreUsed now →
      Reduces order now (tidied lines)
  last_round lines now between (simple, used) = between.ends now (inl (whole, refl))
    where
      whole : IsDone now
      whole = record {
        no_candidate = simple.no_candidate;
        no_twins = simple.no_twins;
        used = used;
        joined = round_anchored order between.before now between.round;
      }

  pub between_tidied : (lines now : List Line) → IsBetween lines now → tidied now ≡ now
  between_tidied lines now between = round_tidied_lem order between.before now between.round

-- what the test of lines told
abbrev pub IsTold : Bool → List Line → Type 0
IsTold settled now = MatchBool settled (IsSimplified now × AreUsed now) (IsUnfinished now)

pub told_false : (settled : Bool) (read now : List Line) → read ≡ now → settled ≡ false → IsTold settled read → IsUnfinished now
told_false settled read now e f told = subst IsUnfinished e (subst (λ t. IsTold t read) f told)

pub told_true : (settled : Bool) (read now : List Line) → read ≡ now → settled ≡ true → IsTold settled read → IsSimplified now × AreUsed now
told_true settled read now e f told = subst (λ ls. IsSimplified ls × AreUsed ls) e (subst (λ t. IsTold t read) f told)
