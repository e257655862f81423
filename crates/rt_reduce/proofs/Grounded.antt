-- What is known of what is left, of which lines that stay are asked with those that stand.
use Rattle.std.proofs.Common.{◌≡◌, ℕ, ◌+◌, ◌<◌, List, Bool, true, false, Contains, Bor, Option, Some, length, get_or, set, sym, ap, subst, ◌∙◌, arith}
use Rattle.std.specs.List.{remove}
use Rattle.std.specs.Option.{IfSome}
use Rattle.std.specs.Prelude.{slice_get}
use Rattle.std.proofs.lemmas.List.{get_or-set_other}
use Rattle.std.proofs.lemmas.Option.{get_or_from_slice_get, slice_get-get_or, IfSome_then}
use Rattle.rt_lines.specs.declared.line.Line.{Line}
use Rattle.rt_lines.specs.Orders.{Below}
use Rattle.rt_outline.specs.Lines.{standing}
use Rattle.rt_sure.specs.declared.fate.Fate.{Fate}
use Rattle.rt_sure.specs.declared.fate.Fate.TheVariants.{Stays, Open}
use Rattle.rt_sure.specs.Fates.{fate_at, DoStay, HasBefore}
use Rattle.rt_sure.specs.Grounds.{Grounded, HasFlagged}
use Rattle.rt_reduce.specs.Inside.Deciding.{AreWitnessed, IsGroundAt, IsGroundFor, IsInnerFor, IsOwnGround}
use Rattle.rt_reduce.specs.Inside.Dropping.{AreFated}
use Rattle.rt_reduce.proofs.Fated.{named_lines}
use Rattle.rt_reduce.proofs.Flags.{standing_at, standing_gone, standing_has}
use Rattle.rt_reduce.proofs.Made.{inner_out}

-- at a place of the lines
pub ground_here : (order : Below) (lines left : List Line) (stands : List Bool) (place : ℕ) (fates : List Fate) (ground : Grounded) →
    IsOwnGround lines fates ground → AreFated order lines stands fates → AreWitnessed lines left stands (place + 1) →
    IsInnerFor order left (named_lines lines) → (fate : Fate) → fate ≡ fate_at fates place → IsGroundAt order fate left stands place ground
ground_here order lines left stands place fates ground own fated are made fate is = record {
  stand = subst (λ (ls : List Line). AreWitnessed ls left stands (place + 1)) (sym own.own) are;
  staying = λ i h. fated.stand i (own.staying i h);
  known = λ h. is ∙ own.staying place h;
  made = subst (λ (ls : List Line). IsInnerFor order left (named_lines ls)) (sym own.own) made;
}

-- where more lines are known to stay
pub more_grounded : (lines : List Line) (fates now : List Fate) (ground : Grounded) →
    ((i : ℕ) → fate_at fates i ≡ Stays → fate_at now i ≡ Stays) → IsOwnGround lines fates ground → IsOwnGround lines now ground
more_grounded lines fates now ground kept own = record { own = own.own; staying = λ i h. kept i (own.staying i h) }

-- the ground of what was found out of lines
pub own_ground : (lines : List Line) (stays : List Bool) (fates : List Fate) (ground : Grounded) → DoStay stays fates →
    (ground.lines ≡ lines) × (ground.stays ≡ stays) → IsOwnGround lines fates ground
own_ground lines stays fates ground known is = record {
  own = is.0;
  staying = λ i h. (known i).1 (ap (λ (fs : List Bool). get_or fs i false) (sym is.1) ∙ h);
}

-- if the line doesn't stay, nothing is known of it
pub ground_open : (order : Below) (fate : Fate) (left : List Line) (stands : List Bool) (place : ℕ) (ground : Grounded) →
    (fate ≡ Stays → ⊥) → IsGroundAt order fate left stands place ground → IsGroundAt order Open left stands place ground
ground_open order fate left stands place ground apart is =
    record { stand = is.stand; staying = is.staying; known = λ h. absurd (apart (is.known h)); made = is.made }

module _ (order : Below) (left : List Line) (stands : List Bool) (place : ℕ) (ground : Grounded)
    (is : IsGroundAt order Open left stands place ground) where
  others : remove left place ≡ standing ground.lines (set stands place false)
  others = (standing_gone left stands place (named_lines ground.lines) is.stand).left_are

  has : (j : ℕ) (m : Line) → slice_get ground.lines j ≡ Some m → (j ≡ place → ⊥) → get_or stands j false ≡ true → Contains (remove left place) m
  has j m at other flag =
      subst (λ ls. Contains ls m) (sym others)
      (standing_has ground.lines (set stands place false) j m at (get_or-set_other stands place j false false other ∙ flag))

  -- one that stays isn't the one that is asked about
  elsewhere : (j : ℕ) → get_or ground.stays j false ≡ true → j ≡ place → ⊥
  elsewhere j h e =
      let f : Open ≡ Stays = is.known (ap (λ i. get_or ground.stays i false) (sym e) ∙ h) in absurd (cc)

  -- what is left without the line has those that stay
  pub has_staying : HasFlagged ground.lines ground.stays (remove left place)
  has_staying = λ j m at flag. has j m at (elsewhere j flag) (is.staying j flag)

  has_before : HasBefore ground.lines place (remove left place)
  has_before = λ j m h at. has j m at (λ e. omega (arith, e, h)) (is.stand.before j (omega (arith, h)))

  has_standing : HasFlagged ground.lines (set stands place false) (remove left place)
  has_standing = λ j m at flag. subst (λ ls. Contains ls m) (sym others) (standing_has ground.lines (set stands place false) j m at flag)

  -- what is left without the line
  pub ground_for : (line : Line) → slice_get left place ≡ Some line → place < length left →
      IsGroundFor order (remove left place) (set stands place false) line place ground
  ground_for line at within = record {
    here = sym (standing_at ground.lines stands place is.stand.before) ∙ sym (ap (λ ls. slice_get ls place) is.stand.left_are) ∙ at;
    staying = has_staying;
    before = has_before;
    stand = has_standing;
    derived =
        (inner_out order left place (named_lines ground.lines) is.made line within (sym (get_or_from_slice_get left place line line at))).derived;
  }

-- what is left without the line, where there is a ground
pub grounds : (left : List Line) (stands : List Bool) (place : ℕ) (line : Line) (order : Below) (ground : Option (Bor Grounded))
    (flags : List Bool) → flags ≡ set stands place false → place < length left → line ≡ get_or left place line →
    IfSome ground (λ g. IsGroundAt order Open left stands place g.now) →
    IfSome ground (λ g. IsGroundFor order (remove left place) flags line place g.now)
grounds left stands place line order ground flags same within at is =
    IfSome_then ground is (λ g here.
    subst (λ (fs : List Bool). IsGroundFor order (remove left place) fs line place g.now) (sym same)
    (ground_for order left stands place g.now here line (slice_get-get_or left place line within ∙ ap Some (sym at)) within))

-- it has those that stay, where there is a ground
pub grounds_staying : (order : Below) (left now : List Line) (stands : List Bool) (place : ℕ) (ground : Option (Bor Grounded)) →
    now ≡ remove left place → IfSome ground (λ g. IsGroundAt order Open left stands place g.now) →
    IfSome ground (λ g. HasFlagged g.now.lines g.now.stays now)
grounds_staying order left now stands place ground are is =
    IfSome_then ground is (λ g here.
    subst (λ (ls : List Line). HasFlagged g.now.lines g.now.stays ls) (sym are) (has_staying order left stands place g.now here))
