-- Rounds: one answer, alike, and nothing to spare at their end.
use Rattle.std.proofs.Common.{◌≡◌, ℕ, ◌⊎◌, inl, inr, List, [], Contains, Bool, true, refl, ap, subst}
use Rattle.rt_lines.specs.declared.variable.Base.{Base}
use Rattle.rt_lines.specs.declared.variable.Base.TheVariants.{Proc, Global, Exist, Outer}
use Rattle.rt_lines.specs.declared.line.Line.{Line}
use Rattle.rt_lines.specs.declared.line.Line.TheVariants.{Var, Same, Sub, Low, Up}
use Rattle.rt_lines.specs.Orders.{Below}
use Rattle.rt_rules.specs.Rules.{Derivable}
use Rattle.rt_rules.specs.Alike.{Alike}
use Rattle.rt_rules.specs.Laws.{NamesBase}
use Rattle.rt_rules.specs.Reduced.{Joins, IsJoined, IsAnchor, IsReduced}
use Rattle.rt_rules.specs.Reduced.IsJoined.{joined_self, joined_line}
use Rattle.rt_rules.proofs.Carry.{given}
use Rattle.rt_rules.proofs.Covering.{derives_more, Alike-trans}
use Rattle.rt_polar.specs.Puts.Puts.{none_left}
use Rattle.rt_polar.specs.Tidied.{tidied}
use Rattle.rt_polar.proofs.AlikeTidied.{Alike-tidied}
use Rattle.rt_polar.proofs.OneAnswer.{none_left_lem}
use Rattle.rt_reduction.specs.Emits.{AreOfScheme, IsFixed, IsEmitted}
use Rattle.rt_reduction.specs.Merges.{Merges}
use Rattle.rt_reduction.specs.Drops.{Drops}
use Rattle.rt_reduction.specs.Rounds.{Splits, IsRound, IsDone, Reduces, done, again, IsReducedForm}
use Rattle.rt_reduction.specs.Laws.{OneFormLaw, FormAlikeLaw, FormSidesLaw, FormReducedLaw}
use Rattle.rt_reduction.proofs.Dropping.{one_drop_lem, kept_lem, drops_alike_lem, none_to_spare_lem}
use Rattle.rt_reduction.proofs.Merging.{merges_alike_lem, one_merge_lem, no_equal_lem, merges_no_self_lem}
use Rattle.rt_reduction.proofs.Emitting.{emits_alike_lem, one_emit_lem, emits_no_self_lem, from_emitted}
use Rattle.rt_reduction.proofs.Prepared.{one_prepares, prepares_alike, from_prepares}
use Rattle.rt_reduction.proofs.Split.{one_splits, splits_alike, from_splits}
use Rattle.rt_reduction.proofs.FromSides.{AreFrom, from_chain, from_scheme, from_procedure, from_fewer, from_tidied, from_merges}

-- a round leaves one list
one_round : (order : Below) (lines first second : List Line) → IsRound order lines first → IsRound order lines second → first ≡ second
one_round order lines first second a b =
    let simple : b.simple ≡ a.simple = one_prepares b.simple a.simple lines b.is_simple a.is_simple in
    let emitted : b.emitted ≡ a.emitted = one_emit_lem order a.simple b.emitted a.emitted
    (subst (λ ls. IsEmitted order ls b.emitted) simple b.is_emitted) a.is_emitted in
    let merged : b.merged ≡ a.merged = one_merge_lem order a.emitted b.merged a.merged (subst (Merges order b.merged) emitted b.is_merged)
    a.is_merged in
    one_drop_lem order a.merged first second a.is_dropped (subst (λ ls. Drops order [] ls second) merged b.is_dropped)

-- one step
data Steps (order : Below) (reduced lines : List Line) : Type 0 where
  ends_here : IsRound order lines reduced → IsDone reduced → Steps order reduced lines
  goes_on : (between : List Line) → IsRound order lines between → (IsDone between → ⊥) → Reduces order reduced between →
      Steps order reduced lines

steps : {order : Below} {reduced lines : List Line} → Reduces order reduced lines → Steps order reduced lines
steps (done lines r d) = ends_here r d
steps (again lines between r n rest) = goes_on between r n rest

one_reduced : (order : Below) (reduced other start : List Line) → Reduces order reduced start → Reduces order other start → reduced ≡ other
one_reduced order reduced other start (done _ r d) b = by (steps b)
  where
    by : Steps order other start → reduced ≡ other
    by (ends_here r' d') = one_round order start reduced other r r'
    by (goes_on between r' n rest) = absurd (n (subst IsDone (one_round order start reduced between r r') d))
one_reduced order reduced other start (again _ between r n rest) b = by (steps b) (one_reduced order reduced other between rest)
  where
    by : Steps order other start → (Reduces order other between → reduced ≡ other) → reduced ≡ other
    by (ends_here r' d') induction = absurd (n (subst IsDone (one_round order start other between r' r) d'))
    by (goes_on between' r' n' rest') induction = induction (subst (Reduces order other) (one_round order start between' between r' r)
        rest')

pub one_form_lem : OneFormLaw
one_form_lem order lines first second a b =
    let ready : b.ready ≡ a.ready = one_prepares b.ready a.ready (tidied lines) b.is_ready a.is_ready in
    let start : b.start ≡ a.start = one_splits b.start a.start a.ready (subst (Splits b.start) ready b.is_start) a.is_start in
    one_reduced order first second (tidied a.start) a.is_form (subst (λ ls. Reduces order second (tidied ls)) start b.is_form)

-- sides come from sides
from_dropped : (order : Below) (lines kept : List Line) → Drops order [] lines kept → AreFrom lines kept
from_dropped order lines kept d = from_fewer lines kept (kept_lem order lines kept d)

from_round : (order : Below) (lines after : List Line) → IsRound order lines after → AreFrom lines after
from_round order lines after r =
    from_chain lines r.simple after (from_prepares r.simple lines r.is_simple)
    (from_chain r.simple r.emitted after (from_emitted order r.simple r.emitted r.is_emitted)
    (from_chain r.emitted r.merged after (from_merges order r.merged r.emitted r.is_merged)
    (from_dropped order r.merged after r.is_dropped)))

from_reduced : (order : Below) (reduced start : List Line) → Reduces order reduced start → AreFrom start reduced
from_reduced order reduced start (done _ r d) = from_round order start reduced r
from_reduced order reduced start (again _ between r n rest) =
    from_chain start between reduced (from_round order start between r) (from_reduced order reduced between rest)

-- what the rounds begin with
from_start : (order : Below) (lines form : List Line) (r : IsReducedForm order lines form) → AreFrom lines (tidied r.start)
from_start order lines form r =
    from_chain lines (tidied lines) (tidied r.start) (from_tidied lines)
    (from_chain (tidied lines) r.ready (tidied r.start) (from_prepares r.ready (tidied lines) r.is_ready)
    (from_chain r.ready r.start (tidied r.start) (from_splits r.start r.ready r.is_start) (from_tidied r.start)))

-- sides of the reduced form come from sides
pub from_form : (order : Below) (lines form : List Line) → IsReducedForm order lines form → AreFrom lines form
from_form order lines form r =
    from_chain lines (tidied r.start) form (from_start order lines form r) (from_reduced order form (tidied r.start) r.is_form)

pub form_sides_lem : FormSidesLaw
form_sides_lem order lines form scheme r =
    let from : AreFrom lines form = from_form order lines form r in
    (from_scheme lines form from scheme, from_procedure lines form from)

module _ (order : Below) (inside : Base → Bool) (inner : (n : ℕ) → inside (Exist n) ≡ true) where
  round_alike : (lines after : List Line) → AreOfScheme lines → IsRound order lines after → Alike order inside lines after
  round_alike lines after scheme r =
      Alike-trans order inside lines r.simple after (prepares_alike order inside r.simple lines inner r.is_simple)
      (Alike-trans order inside r.simple r.emitted after
      (emits_alike_lem order inside r.simple r.emitted inner
      (from_scheme lines r.simple (from_prepares r.simple lines r.is_simple) scheme) r.is_emitted)
      (Alike-trans order inside r.emitted r.merged after (merges_alike_lem order inside r.emitted r.merged inner r.is_merged)
      (drops_alike_lem order inside r.merged after r.is_dropped)))

  reduced_alike : (reduced start : List Line) → AreOfScheme start → Reduces order reduced start → Alike order inside start reduced
  reduced_alike reduced start scheme (done _ r d) = round_alike start reduced scheme r
  reduced_alike reduced start scheme (again _ between r n rest) =
      Alike-trans order inside start between reduced (round_alike start between scheme r)
      (reduced_alike reduced between (from_scheme start between (from_round order start between r) scheme) rest)

pub form_alike_lem : FormAlikeLaw
form_alike_lem order inside lines form inner scheme r =
    Alike-trans order inside lines (tidied lines) form (Alike-tidied order inside lines)
    (Alike-trans order inside (tidied lines) r.ready form (prepares_alike order inside r.ready (tidied lines) inner r.is_ready)
    (Alike-trans order inside r.ready r.start form (splits_alike order inside r.start r.ready inner r.is_start)
    (Alike-trans order inside r.start (tidied r.start) form (Alike-tidied order inside r.start)
    (reduced_alike order inside inner form (tidied r.start)
    (from_scheme lines (tidied r.start) (from_start order lines form r) scheme) r.is_form))))

-- the last round, after which nothing is left to do
record IsLast (order : Below) (form : List Line) : Type 0 where
  start : List Line
  round : IsRound order start form
  is_done : IsDone form

last_round : (order : Below) (reduced start : List Line) → Reduces order reduced start → IsLast order reduced
last_round order reduced start (done _ r d) = record { start = start; round = r; is_done = d }
last_round order reduced start (again _ between r n rest) = last_round order reduced between rest

-- each base of a chain is the first one, or named
joined_named : (lines : List Line) {a b : Base} → IsJoined lines a b → (a ≡ b) ⊎ NamesBase lines b
joined_named lines joined_self = inl refl
joined_named lines (joined_line {a = a} {b = m} {c = b} l c j rest) = by (joined_named lines rest)
  where
    named_by : (l : Line) → Contains lines l → Joins l a m → NamesBase lines m
    named_by (Same x y) c (inl (e, f)) = (Same x y, y, c, inr refl, f)
    named_by (Same x y) c (inr (e, f)) = (Same x y, x, c, inl refl, e)
    named_by (Sub x y) c (inl (e, f)) = (Sub x y, y, c, inr refl, f)
    named_by (Sub x y) c (inr (e, f)) = (Sub x y, x, c, inl refl, e)
    named_by (Var x) c j = absurd j
    named_by (Low k x) c j = absurd j
    named_by (Up x k) c j = absurd j

    by : (m ≡ b) ⊎ NamesBase lines b → (a ≡ b) ⊎ NamesBase lines b
    by (inl e) = inr (subst (NamesBase lines) e (named_by l c j))
    by (inr names) = inr names

module _ (order : Below) (own : ℕ) (form : List Line) (owned : (n : ℕ) → NamesBase form (Proc n) → n ≡ own) (last : IsLast order form) where
  abbrev round : IsRound order last.start form
  round = last.round

  stood : (l : Line) → Contains form l → Contains round.merged l
  stood l c = kept_lem order round.merged form round.is_dropped l c

  anchor : (n : ℕ) (b : Base) → IsFixed b → (Exist n ≡ b) ⊎ NamesBase form b → IsAnchor (Proc own) b
  anchor n (Global m) f o = tt
  anchor n (Proc m) f (inl e) = absurd (cc)
  anchor n (Proc m) f (inr names) = ap Proc (owned m names)
  anchor n (Exist m) f o = absurd f
  anchor n (Outer m) f o = absurd f

  joined_own : (n : ℕ) → NamesBase form (Exist n) → (b : Base) × IsAnchor (Proc own) b × IsJoined form (Exist n) b
  joined_own n names =
      let r : (b : Base) × IsFixed b × IsJoined form (Exist n) b = last.is_done.joined n names in
      (r.0, anchor n r.0 r.1 (joined_named form r.2), r.2)

  more : {j : Line} → Derivable order form j → Derivable order round.merged j
  more d = derives_more order form round.merged (λ l c. given order round.merged l (stood l c)) d

  nothing_to_spare : IsReduced order (Proc own) form
  nothing_to_spare = record {
    used = last.is_done.used;
    needed = λ before after l cut d. none_to_spare_lem order round.merged form round.is_dropped before after l cut d;
    no_single_use = λ sign n z before after other cut alone. none_left_lem form form (none_left last.is_done.no_candidate) sign n z before
        after other cut alone;
    no_equal = λ n z l c h apart above below. no_equal_lem order round.emitted round.merged round.is_merged n z l (stood l c) h apart
        (more above) (more below);
    joined = joined_own;
    no_self_sub = λ x c. (merges_no_self_lem order round.emitted round.merged round.is_merged
        (emits_no_self_lem order round.simple round.emitted round.is_emitted) x).0 (stood (Sub x x) c);
    no_self_same = λ x c. (merges_no_self_lem order round.emitted round.merged round.is_merged
        (emits_no_self_lem order round.simple round.emitted round.is_emitted) x).1 (stood (Same x x) c);
  }

pub form_reduced_lem : FormReducedLaw
form_reduced_lem order own lines form owned r = nothing_to_spare order own form owned (last_round order form (tidied r.start) r.is_form)
