-- Lines dropped one after another, from the end.
use Rattle.std.proofs.Common.{◌≡◌, ℕ, suc, ◌+◌, ◌<◌, ◌≤◌, ◌⊎◌, inl, inr, List, [], ◌∷◌, ◌++◌, take, drop, get_or, length, All, Contains}
use Rattle.std.proofs.Common.{sym, ap, subst, ◌∙◌, append_assoc, drop-cons, arith}
use Rattle.std.specs.List.{remove}
use Rattle.std.proofs.lemmas.List.Elements.{All-contains}
use Rattle.rt_base.proofs.Lists.{All-from_contains}
use Rattle.std.proofs.lemmas.List.Edits.{length-remove}
use Rattle.std.proofs.lemmas.List.{append-nil, take_more, take_all, drop_all, length-take-le}
use Rattle.rt_lines.specs.declared.line.Line.{Line}
use Rattle.rt_lines.specs.declared.line.Line.TheVariants.{Var}
use Rattle.rt_lines.specs.Orders.{Below}
use Rattle.rt_rules.specs.Rules.{Derivable}
use Rattle.rt_rules.specs.Put.{exist}
use Rattle.rt_reduction.specs.Drops.{Drops}
use Rattle.rt_reduction.specs.Drops.Drops.{ends, goes, stays}
use Rattle.rt_reduce.specs.Inside.Dropping.{AreLeft, Decides, IsKeptOrGone}
use Rattle.rt_reduce.proofs.Places.{remove_middle, get_or_middle, All-removed}

-- before the first step
pub AreLeft-all : (order : Below) (lines : List Line) (place : ℕ) → place ≡ length lines → AreLeft order lines place lines
AreLeft-all order lines place e =
    let h : length lines ≤ place = omega (arith, e) in
    record {
      kept = [];
      within = omega (arith, e);
      stand = sym (take_all place lines h) ∙ sym (append-nil (take place lines));
      drops = subst (λ ls. Drops order (take place lines) ls []) (sym (drop_all place lines h)) (ends (take place lines));
    }

module _ (order : Below) (lines : List Line) (place : ℕ) (within : place < length lines) where
  abbrev line : Line
  line = get_or lines place (Var (exist 0))

  abbrev before : List Line
  before = take place lines

  abbrev after : List Line
  after = drop (suc place) lines

  next : suc place ≡ place + 1
  next = omega arith

  more : take (suc place) lines ≡ before ++ line ∷ []
  more = ap (λ k. take k lines) next ∙ take_more lines place (Var (exist 0)) within

  rest : drop place lines ≡ line ∷ after
  rest = drop-cons lines place (Var (exist 0)) within

  long : length before ≡ place
  long = length-take-le place lines (omega (arith, within))

  module _ (left kept : List Line) (stand : left ≡ take (suc place) lines ++ kept)
      (drops : Drops order (take (suc place) lines) after kept) where
    cut : left ≡ before ++ line ∷ kept
    cut = stand ∙ ap (λ ls. ls ++ kept) more ∙ append_assoc before (line ∷ []) kept

    removed : remove left place ≡ before ++ kept
    removed = ap (λ ls. remove ls place) cut ∙ remove_middle before line kept place long

    read : line ≡ get_or left place line
    read = sym (ap (λ ls. get_or ls place line) cut ∙ get_or_middle before line kept place line long)

    dropped : Drops order (before ++ line ∷ []) after kept
    dropped = subst (λ ls. Drops order ls after kept) more drops

    step : (now : List Line) → Decides order left place now → AreLeft order lines place now
    step now decides = by (decides line read)
      where
        by : (Derivable order (remove left place) line × (now ≡ remove left place))
            ⊎ ((Derivable order (remove left place) line → ⊥) × (now ≡ left)) → AreLeft order lines place now
        by (inl (d, e)) = record {
          kept = kept;
          within = omega (arith, within);
          stand = e ∙ removed;
          drops = subst (λ ls. Drops order before ls kept) (sym rest)
              (goes before after kept line dropped (subst (λ ls. Derivable order ls line) removed d));
        }
        by (inr (none, e)) = record {
          kept = line ∷ kept;
          within = omega (arith, within);
          stand = e ∙ cut;
          drops = subst (λ ls. Drops order before ls (line ∷ kept)) (sym rest)
              (stays before after kept line dropped (λ d. none (subst (λ ls. Derivable order ls line) (sym removed) d)));
        }

-- a step
pub AreLeft-step : (order : Below) (lines left now : List Line) (place : ℕ) → AreLeft order lines (suc place) left →
    Decides order left place now → AreLeft order lines place now
AreLeft-step order lines left now place are decides =
    step order lines place (omega (arith, are.within)) left are.kept are.stand are.drops now decides

-- and in numbers as code has them
pub AreLeft-next : (order : Below) (lines left now : List Line) (place next : ℕ) → place ≡ suc next → AreLeft order lines place left →
    Decides order left next now → AreLeft order lines next now
AreLeft-next order lines left now place next e are decides =
    AreLeft-step order lines left now next (subst (λ k. AreLeft order lines k left) e are) decides

-- the place stays among what is left
pub left_long : (left now : List Line) (place : ℕ) → place < length left → IsKeptOrGone left place now → place ≤ length now
left_long left now place h (inl e) = let f : length now ≡ length left = ap length e in omega (arith, f, h)
left_long left now place h (inr e) =
    let f : length now ≡ length (remove left place) = ap length e in
    omega (arith, f, h, length-remove left place h)

pub left_below : (P : Line → Type 0) (left now : List Line) (place : ℕ) → All P left → IsKeptOrGone left place now → All P now
left_below P left now place h (inl e) = subst (All P) (sym e) h
left_below P left now place h (inr e) = subst (All P) (sym e) (All-removed P left place h)

-- what is left stood there before
pub left_stood : (left now : List Line) (place : ℕ) → IsKeptOrGone left place now → (l : Line) → Contains now l → Contains left l
left_stood left now place h l c =
    All-contains (Contains left) now l (left_below (Contains left) left now place (All-from_contains (Contains left) left (λ m d. d)) h) c

-- after the last step
pub AreLeft-none : (order : Below) (lines left : List Line) (place : ℕ) → place ≡ 0 → AreLeft order lines place left →
    Drops order [] lines left
AreLeft-none order lines left place e are = by (subst (λ k. AreLeft order lines k left) e are)
  where
    by : AreLeft order lines 0 left → Drops order [] lines left
    by none = subst (Drops order [] lines) (sym none.stand) none.drops
