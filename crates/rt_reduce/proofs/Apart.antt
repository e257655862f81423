-- `<=` lines whose sides no others join.
use Rattle.std.proofs.Common.{◌≡◌, ◌≢◌, ℕ, ◌+◌, ◌<◌, inl, List, [], ◌∷◌, ◌++◌, Contains, Bool, true, false, not, Some, length, get_or, set, replicate}
use Rattle.std.proofs.Common.{refl, sym, ap, subst, ◌∙◌, below_more}
use Rattle.std.specs.Prelude.{◌↔◌, IsTrue, slice_get}
use Rattle.std.proofs.lemmas.List.Elements.{Contains-append_left, Contains-append_right}
use Rattle.std.proofs.lemmas.Option.{get_or_from_slice_get, slice_get_within}
use Rattle.rt_base.proofs.Lists.{Contains-here}
use Rattle.rt_lines.specs.declared.variable.Dtv.{Dtv}
use Rattle.rt_lines.specs.declared.line.Line.{Line}
use Rattle.rt_lines.specs.declared.line.Line.TheVariants.{Var, Same, Sub}
use Rattle.rt_lines.specs.Orders.{Below}
use Rattle.rt_rules.specs.Rules.{Derivable}
use Rattle.rt_rules.specs.Rules.Derivable.{named}
use Rattle.rt_rules.proofs.Covering.{derives_more}
use Rattle.rt_rules.proofs.Carry.{given}
use Rattle.rt_sure.specs.Fates.{flag_at}
use Rattle.rt_outline.specs.Lines.{standing}
use Rattle.rt_reduce.specs.Inside.Dropping.{IsStaying}
use Rattle.rt_reduce.specs.Inside.Parting.{pointed, AreAdded, AreJoins}
use Rattle.rt_outline.proofs.Standing.{Stands, standing_line}
use Rattle.rt_reduce.proofs.Cleared.{set_at}
use Rattle.rt_reduce.proofs.Parted.{below_one}

pub added_one : (left right : Dtv) (are_one : Bool) (old new : List Line) → new ≡ old ++ Same left right ∷ [] →
    AreAdded left right are_one old new
added_one left right are_one old new e = record {
  kept = λ m c. subst (λ ls. Contains ls m) (sym e) (Contains-append_left old (Same left right ∷ []) m c);
  joined = λ yes. last;
  there = λ order. named (Same left right) last (inl refl);
}
  where
    last : Contains new (Same left right)
    last = subst (λ ls. Contains ls (Same left right)) (sym e)
        (Contains-append_right old (Same left right ∷ []) (Same left right) (Contains-here (Same left right) []))

pub added_both : (left right : Dtv) (are_one : Bool) (old middle new : List Line) → are_one ≡ false → middle ≡ old ++ Var left ∷ [] →
    new ≡ middle ++ Var right ∷ [] → AreAdded left right are_one old new
added_both left right are_one old middle new clear e f = record {
  kept = λ m c. more m (subst (λ ls. Contains ls m) (sym e) (Contains-append_left old (Var left ∷ []) m c));
  joined = λ yes. absurd (cc);
  there = λ order. named (Var left) (more (Var left) first) refl;
}
  where
    more : (m : Line) → Contains middle m → Contains new m
    more m c = subst (λ ls. Contains ls m) (sym f) (Contains-append_left middle (Var right ∷ []) m c)

    first : Contains middle (Var left)
    first = subst (λ ls. Contains ls (Var left)) (sym e)
        (Contains-append_right old (Var left ∷ []) (Var left) (Contains-here (Var left) []))

-- what is said of a line at an index
pub record IsJoined (lines : List Line) (flags : List Bool) (joins : List Line) (i : ℕ) : Type 0 where
  pub joined : (x y : Dtv) → slice_get lines i ≡ Some (Sub x y) → flag_at flags i ≡ true → Contains joins (Same (pointed x) (pointed y))
  pub there : (x y : Dtv) → slice_get lines i ≡ Some (Sub x y) → (order : Below) → Derivable order joins (Var (pointed x))

-- of the lines before an index
abbrev pub AreJoinedTo : List Line → List Bool → List Line → ℕ → Type 0
AreJoinedTo lines flags joins count = (i : ℕ) → i < count → IsJoined lines flags joins i

kept_joined : (lines : List Line) (flags : List Bool) (old new : List Line) (i : ℕ) → ((m : Line) → Contains old m → Contains new m) →
    IsJoined lines flags old i → IsJoined lines flags new i
kept_joined lines flags old new i kept is = record {
  joined = λ x y at yes. kept (Same (pointed x) (pointed y)) (is.joined x y at yes);
  there = λ x y at order. derives_more order old new (λ m c. given order new m (kept m c)) (is.there x y at order);
}

-- the next line is a `<=` line
pub next_joined : (lines : List Line) (flags : List Bool) (old new : List Line) (i : ℕ) (line : Line) (x y : Dtv) →
    line ≡ get_or lines i line → line ≡ Sub x y → AreAdded (pointed x) (pointed y) (flag_at flags i) old new → AreJoinedTo lines flags old i → AreJoinedTo lines flags new (i + 1)
next_joined lines flags old new i line x y at is added are =
    below_more (IsJoined lines flags new) i (λ j h. kept_joined lines flags old new j added.kept (are j h)) (record {
      joined = λ a b e yes. (let s : Sub x y ≡ Sub a b = same a b e in
          let p : x ≡ a = cc in
          let q : y ≡ b = cc in
          subst (λ v. Contains new (Same (pointed v) (pointed b))) p
          (subst (λ v. Contains new (Same (pointed x) (pointed v))) q
          (added.joined yes)));
      there = λ a b e order. (let s : Sub x y ≡ Sub a b = same a b e in
          let p : x ≡ a = cc in
          subst (λ v. Derivable order new (Var (pointed v))) p (added.there order));
    })
  where
    same : (a b : Dtv) → slice_get lines i ≡ Some (Sub a b) → Sub x y ≡ Sub a b
    same a b e = sym is ∙ at ∙ get_or_from_slice_get lines i (Sub a b) line e

-- it is another one
pub next_other : (lines : List Line) (flags : List Bool) (joins : List Line) (i : ℕ) (line : Line) → line ≡ get_or lines i line →
    ((x y : Dtv) → line ≡ Sub x y → ⊥) → AreJoinedTo lines flags joins i → AreJoinedTo lines flags joins (i + 1)
next_other lines flags joins i line at other are = below_more (IsJoined lines flags joins) i are (record {
  joined = λ a b e yes. absurd (other a b (at ∙ get_or_from_slice_get lines i (Sub a b) line e));
  there = λ a b e order. absurd (other a b (at ∙ get_or_from_slice_get lines i (Sub a b) line e));
})

pub all_joined : (lines : List Line) (flags : List Bool) (joins : List Line) → AreJoinedTo lines flags joins (length lines) →
    AreJoins lines flags joins
all_joined lines flags joins are = record {
  joined = λ i x y at yes. (are i (slice_get_within lines i (Sub x y) at)).joined x y at yes;
  there = λ i x y at order. (are i (slice_get_within lines i (Sub x y) at)).there x y at order;
}

-- a line whose sides the others don't join stays
pub stays_apart : (order : Below) (lines : List Line) (i : ℕ) (flags : List Bool) (joins : List Line) (line : Line) (x y : Dtv) →
    flags ≡ set (replicate (length lines) true) i false → AreJoins lines flags joins → line ≡ get_or lines i line → line ≡ Sub x y →
    (Derivable order joins (Same (pointed x) (pointed y)) → ⊥) → IsStaying order lines i
stays_apart order lines i flags joins line x y e are at is apart l there stands cleared d =
    apart ((below_one order joins (standing lines stands) all below).of_left
    (are.there i x y (subst (λ m. slice_get lines i ≡ Some m) same there) order))
  where
    same : l ≡ Sub x y
    same = sym (at ∙ get_or_from_slice_get lines i l line there) ∙ is

    below : Derivable order (standing lines stands) (Sub x y)
    below = subst (Derivable order (standing lines stands)) same d

    all : (a b : Dtv) → Contains (standing lines stands) (Sub a b) → Contains joins (Same (pointed a) (pointed b))
    all a b c =
        let r : (j : ℕ) × Stands lines stands j (Sub a b) = standing_line lines stands (Sub a b) c in
        let other : r.0 ≢ i = λ f. (let g : get_or stands r.0 false ≡ get_or stands i false = ap (λ n. get_or stands n false) f in
        let k : get_or stands r.0 false ≡ true = r.1.1 in cc) in
        are.joined r.0 a b r.1.0 (set_at (length lines) i r.0 flags e other (slice_get_within lines r.0 (Sub a b) r.1.0))

-- what is told apart doesn't have one shape
pub not_one : (order : Below) (joins : List Line) (are_one : Bool) (left right x y : Dtv) → not are_one ≡ true → left ≡ pointed x →
    right ≡ pointed y → (IsTrue are_one ↔ Derivable order joins (Same left right)) →
    Derivable order joins (Same (pointed x) (pointed y)) → ⊥
not_one order joins true left right x y apart e f told d = absurd (cc)
not_one order joins false left right x y apart e f told d =
    let one : IsTrue false =
    told.1 (subst (λ v. Derivable order joins (Same v right)) (sym e)
    (subst (λ v. Derivable order joins (Same (pointed x) v)) (sym f) d)) in
    absurd (cc)
