-- What is pushed from ways that tables tell.
use Rattle.std.proofs.Common.{◌≡◌, ℕ, ◌+◌, ◌*◌, ◌/◌, ◌%◌, ◌<◌, ◌≤◌, ◌⊎◌, inl, inr, Bool, not, true, false, Option, Some, None, List, [], ◌∷◌, ◌++◌, Contains, length, get_or, set, refl, sym, ap, subst, ◌∙◌, arith}
use Rattle.std.specs.Prelude.{nat_eq}
use Rattle.std.specs.Bool.{beq}
use Rattle.std.proofs.lemmas.List.{get_or_default, get_or_read}
use Rattle.std.proofs.lemmas.List.Elements.{All-weaker, Contains-push_cases}
use Rattle.rt_lines.specs.declared.label.Label.{Label}
use Rattle.rt_lines.specs.declared.label.Label.TheVariants.{In}
use Rattle.rt_lines.specs.declared.label.Loc.TheVariants.{Arg}
use Rattle.rt_lines.specs.declared.label.Variance.{Variance}
use Rattle.rt_lines.specs.declared.label.Variance.TheVariants.{Co, Contra}
use Rattle.rt_lines.specs.declared.variable.Dtv.{Dtv}
use Rattle.rt_lines.specs.Words.{label_variance, times}
use Rattle.rt_bridge.specs.Growing.{Var, dot, vd}
use Rattle.rt_bridge.specs.Counted.{bit, differ, st, Bridge, IsPointer}
use Rattle.rt_bridge.specs.Counted.Bridge.{push}
use Rattle.rt_bridge.specs.Laws.{Named}
use Rattle.rt_grid.specs.declared.grid.Step.{Step}
use Rattle.rt_grid.specs.Tables.{count_at, row_of, Holds, Made, Says, SaysOr, SaysWith, Table}
use Rattle.rt_grid.specs.Tables.Made.{told}
use Rattle.rt_grid.proofs.Holding.{add_holds, holds_by, made_chain, made_ways, says_holds, says_ways}
use Rattle.rt_sat.specs.declared.family.Family.{Family}
use Rattle.rt_sat.specs.declared.family.Home.{Home}
use Rattle.rt_sat.specs.declared.gathering.End.{End}
use Rattle.rt_sat.specs.declared.gathering.Ready.{Ready}
use Rattle.rt_sat.specs.declared.links.Links.{Links}
use Rattle.rt_sat.specs.declared.state.State.{State}
use Rattle.rt_sat.specs.declared.state.Edge.{Edge}
use Rattle.rt_sat.specs.Counts.{digit_of}
use Rattle.rt_sat.specs.Deciding.{is_among}
use Rattle.rt_sat.specs.Hints.{bit_of, grid_of, members_of, no_table, state_at, AreEnds, AreSameMembers, AreToldSteps, IsAtOrBehind, IsEnd, IsFamily, IsHome, IsPassedOn, IsTold, IsToldAt, IsToldFamily, IsToldRow}
use Rattle.rt_sat.specs.Inside.Links.{AreReady, IsReady}
use Rattle.rt_sat.specs.Numbered.{at_number, is_contra, sign_of, state_of}
use Rattle.rt_sat.specs.Pushes.{flip_at, IsChildOf, PushBy}
use Rattle.rt_sat.proofs.Closed.{child_state, named_child, parent_state, push_of, there_child}
use Rattle.rt_sat.proofs.Families.{told_changed}
use Rattle.rt_sat.proofs.Telling.{told_chain, told_join}

pub half_of : (p : ℕ) (b : Bool) → (2 * p + digit_of b) / 2 ≡ p
half_of p true = omega arith
half_of p false = omega arith

pub odd_of : (p : ℕ) (b : Bool) → nat_eq ((2 * p + digit_of b) % 2) 1 ≡ b
odd_of p true = let e : (2 * p + 1) % 2 ≡ 1 = omega arith in ap (λ n. nat_eq n 1) e
odd_of p false = let e : (2 * p + 0) % 2 ≡ 0 = omega arith in ap (λ n. nat_eq n 1) e

-- the state at the place of a member's state
pub state_placed : (members : List ℕ) (p : ℕ) (b : Bool) → state_at members (2 * p + digit_of b) ≡ record { variable = get_or members p 0; contra = b }
state_placed members p b = λ k. record { variable = get_or members (half_of p b k) 0; contra = odd_of p b k }

-- the list that stands in a place
pub list_read : {X : Type 0} (xs : List (List X)) (i : ℕ) (items x : List X) → i < length xs → items ≡ x → x ≡ get_or xs i x → items ≡ get_or xs i []
list_read xs i items x less is read = is ∙ get_or_read xs i x less read []

-- a state stands where it stood, and an end is one, where the classes have the same members
home_same : (count : ℕ) (old new : Family) (state : State) (home : Home) → AreSameMembers old new → IsFamily count old → IsFamily count new → IsHome old state home → IsHome new state home
home_same count old new state home same before after stands =
    let less : home.class < length new.members.items = subst (λ (xs : List (List ℕ)). home.class < length xs) (sym same) stands.class in
    record {
      class = less;
      place = subst (λ n. home.index < n) (before.sizes home.class stands.class ∙ ap (λ (xs : List (List ℕ)). 2 * length (get_or xs home.class [])) (sym same) ∙ sym (after.sizes home.class less)) stands.place;
      is = ap (λ (xs : List (List ℕ)). state_at (get_or xs home.class []) home.index) same ∙ stands.is;
    }

pub ends_same : (known : List Dtv) (flips : List Bool) (members : List ℕ) (count : ℕ) (old new : Family) (ends : List End) → AreSameMembers old new → IsFamily count old → IsFamily count new → AreEnds known flips members old ends → AreEnds known flips members new ends
ends_same known flips members count old new ends same before after are end c =
    let is : IsEnd known flips members old end = are end c in
    record { inside = is.inside; root = is.root; root_flip = is.root_flip; parent = is.parent; child = is.child; home = home_same count old new end.stand end.home same before after is.home; flip = is.flip }

-- the ends of a group stay what they are where the classes have the same members
pub ready_same : (known : List Dtv) (flips : List Bool) (count : ℕ) (old new : Family) (links : Links) (ready : Ready) → AreSameMembers old new → IsFamily count old → IsFamily count new → IsReady known flips old links ready → IsReady known flips new links ready
ready_same known flips count old new links ready same before after is = record {
  class = subst (λ (xs : List (List ℕ)). ready.class < length xs) (sym same) is.class;
  leading = (moved ready.sources.items is.leading.0, moved ready.leading.items is.leading.1);
  others = (moved ready.sources.items is.others.0, moved ready.others.items is.others.1);
  before = is.before;
  ahead = is.ahead;
  aside = is.aside;
}
  where
    moved : (ends : List End) → AreEnds known flips (members_of old ready.class) old ends → AreEnds known flips (members_of new ready.class) new ends
    moved ends are = subst (λ (xs : List (List ℕ)). AreEnds known flips (get_or xs ready.class []) new ends) (sym same) (ends_same known flips (members_of old ready.class) count old new ends same before after are)

-- so do those of all groups
pub all_ready_same : (known : List Dtv) (flips : List Bool) (count : ℕ) (old new : Family) (links : Links) (all : List Ready) → AreSameMembers old new → IsFamily count old → IsFamily count new → AreReady known flips old links all → AreReady known flips new links all
all_ready_same known flips count old new links all same before after =
    All-weaker (IsReady known flips old links) (IsReady known flips new links) (λ ready. ready_same known flips count old new links ready same before after) all

-- what was read of ends, that stay what they are where the classes have the same members
pub ends_kept : (known : List Dtv) (flips : List Bool) (members now : List ℕ) (count : ℕ) (old new : Family) (ends items : List End) → now ≡ members → items ≡ ends → AreSameMembers old new → IsFamily count old → IsFamily count new →
    AreEnds known flips now old ends → AreEnds known flips members new items
ends_kept known flips members now count old new ends items each read same before after are =
    subst (AreEnds known flips members new) (sym read) (ends_same known flips members count old new ends same before after (subst (λ xs. AreEnds known flips xs old ends) each are))

-- what stands where no end does
abbrev pub no_end : End
no_end = record { place = 0; root = record { variable = 0; contra = false }; pointed = None; root_flip = false; parent = record { variable = 0; contra = false }; child = record { variable = 0; contra = false }; letter = In (Arg 0); stand = record { variable = 0; contra = false }; home = record { class = 0; index = 0 }; flip = false; matters = false; pointer = false; turned = false; leads_on = false }

-- an end more
pub ends_more : (known : List Dtv) (flips : List Bool) (members : List ℕ) (into : Family) (ends more : List End) (end : End) → AreEnds known flips members into ends → IsEnd known flips members into end → more ≡ ends ++ end ∷ [] → AreEnds known flips members into more
ends_more known flips members into ends more end are here e other c = elim (Contains-push_cases ends end other (subst (λ xs. Contains xs other) e c)) [
  | inl h ↦ are other h
  | inr f ↦ subst (IsEnd known flips members into) f here
]

pub digit_small : (b : Bool) → digit_of b < 2
digit_small true = omega arith
digit_small false = omega arith

-- a table to which no step was added
pub with_none : (table : Table) (from to count : ℕ) → Holds (Made (SaysWith table from to count)) table
with_none table from to count = holds_by (Says table) (Made (SaysWith table from to count)) (λ i j n w. told (inl w)) table (says_holds table)

bit_turned : (v : Variance) → bit_of (is_contra v) ≡ bit v
bit_turned Co = refl
bit_turned Contra = refl

digit_differs : (a b : Bool) → digit_of (not (beq a b)) ≡ differ (sign_of a) (sign_of b)
digit_differs true true = refl
digit_differs true false = refl
digit_differs false true = refl
digit_differs false false = refl

-- a half push, by bits
pub half_pushed : (flip : Bool) (l m : Label) (d k : ℕ) (a b left right : Bool) → flip ≡ true → IsPointer l → IsPointer m → left ≡ is_contra (times (label_variance l) (sign_of a)) → right ≡ is_contra (times (label_variance m) (sign_of b)) →
    d + bit_of left ≤ (k + k) + bit_of right → (k + digit_of (not (beq a b))) % 2 ≡ 0 → PushBy flip l m d (sign_of a) (sign_of b) k
half_pushed flip l m d k a b left right flips p q e f enough parity = inl (record {
  flips = flips;
  left = p;
  right = q;
  enough = subst (λ n. d + n ≤ (k + k) + bit (times (label_variance m) (sign_of b))) (ap bit_of e ∙ bit_turned (times (label_variance l) (sign_of a)))
      (subst (λ n. d + bit_of left ≤ (k + k) + n) (ap bit_of f ∙ bit_turned (times (label_variance m) (sign_of b))) enough);
  parity = subst (λ n. (k + n) % 2 ≡ 0) (digit_differs a b) parity;
})

-- what is added to a table, the least counts first
module _ (from : ℕ) (found : List Step) where
  pub entered_none : (table : Table) → Holds (Made (SaysOr table from found)) table
  entered_none table = holds_by (Says table) (Made (SaysOr table from found)) (λ i j n w. told (inl w)) table (says_holds table)

  pub entered_more : (old mid new : Table) (step : Step) → Contains found step → Holds (Made (SaysOr old from found)) mid → Holds (Made (SaysWith mid from step.to step.count)) new → Holds (Made (SaysOr old from found)) new
  entered_more old mid new step c = add_holds (Made (SaysOr old from found)) mid new from step.to step.count (made_chain (SaysOr old from found)) (told (inr (refl, c)))

  pub entered_after : (old mid new : Table) → Holds (Made (SaysOr old from found)) mid → Holds (Made (SaysOr mid from found)) new → Holds (Made (SaysOr old from found)) new
  entered_after old mid new before = holds_by (Made (SaysOr mid from found)) (Made (SaysOr old from found)) (λ i j n w. made_ways (SaysOr mid from found) (Made (SaysOr old from found)) (made_chain (SaysOr old from found)) by w) new
    where
      by : (i j n : ℕ) → SaysOr mid from found i j n → Made (SaysOr old from found) i j n
      by i j n (inl w) = says_ways (Made (SaysOr old from found)) mid before i j n w
      by i j n (inr w) = told (inr w)

module _ (known : List Dtv) (flips : List Bool) (lines : List Edge) where
  -- what is pushed from a told count
  pub told_push : (child parent end other : State) (l m : Label) (d k : ℕ) → IsTold known flips lines parent other d → IsChildOf known child parent l → IsChildOf known end other m →
      PushBy (flip_at flips parent.variable) l m d (sign_of child.contra) (sign_of end.contra) k → IsTold known flips lines child end k
  told_push child parent end other l m d k way left right by L frame sides sound =
      let M : Var → Type 0 = Named (is_among known) in
      let x : Var = vd (at_number known parent.variable) in
      let y : Var = vd (at_number known other.variable) in
      let placed : Bridge L M (st x (times (label_variance l) (sign_of child.contra))) (st y (times (label_variance m) (sign_of end.contra))) d =
      subst (λ z. Bridge L M z (st y (times (label_variance m) (sign_of end.contra))) d) (parent_state known child parent l left)
      (subst (λ z. Bridge L M (state_of known parent) z d) (parent_state known end other m right) (way L frame sides sound)) in
      subst (λ z. Bridge L M z (state_of known end) k) (sym (child_state known child parent l left))
      (subst (λ z. Bridge L M (st (dot x l) (sign_of child.contra)) z k) (sym (child_state known end other m right))
      (push (named_child known L flips frame child parent l left) (named_child known L flips frame end other m right) (there_child known L flips frame child parent l left) (there_child known L flips frame end other m right) placed
      (push_of known L flips frame parent.variable l m d (sign_of child.contra) (sign_of end.contra) k left.above by)))

  -- what is passed on from a told count
  told_passed : (root parent other end : State) (p q : Option Label) (d k : ℕ) → IsAtOrBehind known root parent p → IsAtOrBehind known other end q → IsTold known flips lines root other d →
      IsPassedOn (flip_at flips root.variable) p q d (sign_of parent.contra) (sign_of end.contra) k → IsTold known flips lines parent end k
  told_passed root parent other end None None d k a b way is =
      subst (IsTold known flips lines parent end) (sym is) (subst (λ s. IsTold known flips lines s end d) (sym a) (subst (λ s. IsTold known flips lines root s d) (sym b) way))
  told_passed root parent other end (Some l) (Some m) d k a b way is = told_push parent root end other l m d k way a b is
  told_passed root parent other end None (Some m) d k a b way is = absurd is
  told_passed root parent other end (Some l) None d k a b way is = absurd is

  -- what is pushed from the count of a row between the roots of ends is told
  pub end_told : (members row : List ℕ) (into : Family) (source target : End) (rooted way k : ℕ) → IsEnd known flips members into source → IsEnd known flips members into target → IsTold known flips lines source.stand source.child 0 → IsTold known flips lines target.child target.stand 0 →
      target.home.class ≡ source.home.class → IsToldRow known flips lines source.root members row →
      target.place < length row → rooted ≡ get_or row target.place 0 → rooted < 255 →
      IsPassedOn source.root_flip source.pointed target.pointed rooted (sign_of source.parent.contra) (sign_of target.parent.contra) way →
      PushBy source.flip source.letter target.letter way (sign_of source.child.contra) (sign_of target.child.contra) k →
      IsTold known flips lines source.stand (state_at (members_of into source.home.class) target.home.index) k
  end_told members row into source target rooted way k from to first last class are less read few passed by =
      let e : rooted ≡ count_at row target.place = read ∙ get_or_default row target.place 0 255 less in
      let below : IsTold known flips lines source.root target.root rooted =
      subst (λ t. IsTold known flips lines source.root t rooted) (sym to.root)
      (subst (IsTold known flips lines source.root (state_at members target.place)) (sym e) (are target.place less (subst (λ n. n < 255) e few))) in
      let there : IsTold known flips lines source.parent target.parent way =
      told_passed source.root source.parent target.root target.parent source.pointed target.pointed rooted way from.parent to.parent below
      (subst (λ f. IsPassedOn f source.pointed target.pointed rooted (sign_of source.parent.contra) (sign_of target.parent.contra) way) from.root_flip passed) in
      let pushed : PushBy (flip_at flips source.parent.variable) source.letter target.letter way (sign_of source.child.contra) (sign_of target.child.contra) k =
      subst (λ f. PushBy f source.letter target.letter way (sign_of source.child.contra) (sign_of target.child.contra) k) from.flip by in
      let middle : IsTold known flips lines source.child target.child k =
      told_push source.child source.parent target.child target.parent source.letter target.letter way k there from.child to.child pushed in
      let through : IsTold known flips lines source.stand target.stand (0 + (k + 0)) =
      told_join known flips lines source.stand source.child target.stand 0 (k + 0) first (told_join known flips lines source.child target.child target.stand k 0 middle last) in
      let count : 0 + (k + 0) ≡ k = omega arith in
      subst (λ s. IsTold known flips lines source.stand s k) (sym (ap (λ n. state_at (members_of into n) target.home.index) (sym class) ∙ to.home.is))
      (subst (IsTold known flips lines source.stand target.stand) count through)

  -- a step more that is told
  pub steps_more : (child : State) (family : Family) (class : ℕ) (steps more : List Step) (step : Step) → AreToldSteps known flips lines child family class steps → IsTold known flips lines child (state_at (members_of family class) step.to) step.count → more ≡ steps ++ step ∷ [] →
      AreToldSteps known flips lines child family class more
  steps_more child family class steps more step are here e s c = by (Contains-push_cases steps step s (subst (λ xs. Contains xs s) e c))
    where
      by : Contains steps s ⊎ (step ≡ s) → IsTold known flips lines child (state_at (members_of family class) s.to) s.count
      by (inl h) = are s h
      by (inr f) = subst (λ (t : Step). IsTold known flips lines child (state_at (members_of family class) t.to) t.count) f here

  -- what steps are added to from the place of a state is told, if they are
  pub entered_told : (members : List ℕ) (old new : Table) (from : ℕ) (child : State) (found : List Step) → state_at members from ≡ child → Holds (IsToldAt known flips lines members) old →
      ((s : Step) → Contains found s → IsTold known flips lines child (state_at members s.to) s.count) → Holds (Made (SaysOr old from found)) new → Holds (IsToldAt known flips lines members) new
  entered_told members old new from child found is before steps = holds_by (Made (SaysOr old from found)) (IsToldAt known flips lines members) (λ i j n w. made_ways (SaysOr old from found) (IsToldAt known flips lines members) (told_chain known flips lines members) by w) new
    where
      by : (i j n : ℕ) → SaysOr old from found i j n → IsToldAt known flips lines members i j n
      by i j n (inl w) = says_ways (IsToldAt known flips lines members) old before i j n w
      by i j n (inr (e, c)) = subst (λ h. IsToldAt known flips lines members h j n) (sym e) (subst (λ s. IsTold known flips lines s (state_at members j) n) (sym is) (steps (record { to = j; count = n }) c))

  -- what grids say is told, where steps that are told were added from the place of a state
  pub told_put : (old new : Family) (home : Home) (child : State) (was grid : Table) (found steps : List Step) → new.members.items ≡ old.members.items → new.grids.items ≡ set old.grids.items home.class grid → length old.grids.items ≡ length old.members.items →
      IsHome old child home → was ≡ get_or old.grids.items home.class was → steps ≡ found → Holds (Made (SaysOr was home.index steps)) grid → AreToldSteps known flips lines child old home.class found → IsToldFamily known flips lines old → IsToldFamily known flips lines new
  told_put old new home child was grid found steps same is each at read these holds are before =
      let less : home.class < length old.grids.items = subst (λ n. home.class < n) (sym each) at.class in
      told_changed old new home.class grid at.class same is known flips lines each
      (entered_told (members_of old home.class) was grid home.index child steps at.is
      (subst (Holds (IsToldAt known flips lines (members_of old home.class))) (sym (get_or_read old.grids.items home.class was less read no_table)) (before home.class at.class))
      (λ s h. are s (subst (λ xs. Contains xs s) these h)) holds) before

  -- what was read of the row of a place is told of its state
  pub told_read : (family : Family) (class place : ℕ) (row : List ℕ) (grid : Table) → class < length family.members.items → length family.grids.items ≡ length family.members.items → grid ≡ get_or family.grids.items class grid → row ≡ row_of grid.rows place →
      IsToldFamily known flips lines family → IsToldRow known flips lines (state_at (members_of family class) place) (members_of family class) row
  told_read family class place row grid less each read is are =
      let long : class < length family.grids.items = subst (λ n. class < n) (sym each) less in
      let rows : row ≡ row_of (grid_of family class).rows place = is ∙ ap (λ (g : Table). row_of g.rows place) (get_or_read family.grids.items class grid long read no_table) in
      subst (IsToldRow known flips lines (state_at (members_of family class) place) (members_of family class)) (sym rows) (λ j long few. (are class less).rows place j few)
