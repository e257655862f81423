-- The rows of closed arcs, and what they say of ways.
use Rattle.std.proofs.Common.{ℕ, ◌<◌, inl, inr, List, [], Contains, length, sym, subst}
use Rattle.std.proofs.lemmas.List.{get_or_past}
use Rattle.rt_base.proofs.Lists.{Contains-none}
use Rattle.rt_lines.specs.declared.line.Line.{Line}
use Rattle.rt_loose.specs.Laws.{FlexibleLaw, TurnedLaw}
use Rattle.rt_ways.specs.declared.frame.Frame.{Frame}
use Rattle.rt_ways.specs.Arcs.{AreTurned, IsInRow}
use Rattle.rt_ways.specs.Inside.Frames.{AreFirst, IsFrameOf, net_of}
use Rattle.rt_ways.specs.Nets.{AreWaysOf, IsSized}
use Rattle.rt_ways.specs.Pushes.{AreClosure}
use Rattle.rt_ways.proofs.Meaning.{closure_right, flex, meaning}
use Rattle.std.proofs.lemmas.Bool.{cases_lt}

row_there : (rows : List (List ℕ)) (v w : ℕ) → IsInRow rows v w → v < length rows
row_there rows v w c = elim (cases_lt v (length rows)) [ inl h ↦ h | inr h ↦ absurd (Contains-none w (subst (λ xs. Contains xs w) (get_or_past rows v [] h) c)) ]

module _ (lines : List Line) (frame : Frame) (arcs above : List (List ℕ)) (is : IsFrameOf lines frame) (first : AreFirst lines frame arcs) (are : AreClosure frame.named (IsInRow arcs) above)
    (flexible_law : FlexibleLaw) (turned_law : TurnedLaw) where
  left : (v w : ℕ) → IsInRow above v w → v < length frame.named
  left v w c = subst (λ n. v < n) are.each (row_there above v w c)

  right : (v w : ℕ) → IsInRow above v w → w < length frame.named
  right v w c = let h : v < length frame.named = left v w c in
      closure_right lines frame arcs is first flexible_law turned_law (record { count = 0; cells = [] }) h ((are.row v w h).0 c)

  pub rows_within : (v w : ℕ) → IsInRow above v w → w < length above
  rows_within v w c = subst (λ n. w < n) (sym are.each) (right v w c)

  pub sized_of : (back : List (List ℕ)) → IsSized (net_of frame above back)
  sized_of back = record {
    classes = is.classes.nodes.each;
    behind = λ c n l e. subst (λ k. n < k) (sym is.classes.nodes.each) (is.behind.found c n l e).1.within;
  }

  pub ways_of : (back : List (List ℕ)) → AreTurned above back → AreWaysOf lines (net_of frame above back)
  ways_of back turned = record {
    named = is.named;
    few = is.few;
    distinct = is.distinct;
    sized = sized_of back;
    steps = is.steps;
    classes = λ order i j h k. flex lines frame arcs is first flexible_law turned_law order i j h k;
    behind_found = is.behind.found;
    behind_all = λ n p l m. is.behind.all n p l m.within m;
    above = λ order i j h k. (let m = meaning lines frame arcs is first flexible_law turned_law order i j h k in
        (λ c. m.0 ((are.row i j h).0 c), λ w. (are.row i j h).1 (m.1 w)));
    below = λ order i j h k. (let m = meaning lines frame arcs is first flexible_law turned_law order i j h k in
        (λ c. m.0 ((are.row i j h).0 (turned.from i j c)), λ w. turned.to i j ((are.row i j h).1 (m.1 w))));
    above_within = λ i j c. right i j c;
    below_within = λ i j c. left j i (turned.from j i c);
  }
