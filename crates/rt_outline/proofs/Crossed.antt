-- Hubs of any nodes entered one by one, and arcs that are closed with them.
use Rattle.std.proofs.Common.{◌≡◌, ℕ, ◌<◌, ◌≤◌, List, Bool, true, Option, Some, None, Result, Ok, Err, IfOk, IfSome, [], length, arith, ap, append-nil, ◌++◌, sym, subst, ◌∙◌}
use Rattle.std.specs.Prelude.{slice_get}
use Rattle.std.proofs.lemmas.List.{append_assoc}
use Rattle.rt_lines.specs.declared.variable.Dtv.{Dtv}
use Rattle.rt_lines.specs.declared.line.Line.{Line}
use Rattle.rt_outline.specs.declared.arc.Arc.{Arc}
use Rattle.rt_outline.specs.declared.frame.Frame.{Frame}
use Rattle.rt_outline.specs.Built.{IsCrossed, IsLaid}
use Rattle.rt_outline.specs.Frames.{Origins, IsClosed, IsPushedMore, IsStepped, AreOriginsOf, AreKept, AreMore, HavePointers, IsPointerPair}
use Rattle.rt_outline.specs.Hubs.{HasLowest, IsGrownBy}
use Rattle.rt_outline.specs.Lines.{AreLineArcs}
use Rattle.rt_outline.proofs.Built.{grown_length, lines_kept, pointers_lines, pointers_kept}
use Rattle.rt_outline.proofs.Lowest.{lowest_kept}

-- nodes alone more
pub grown_stepped : (old new : Origins) (arcs next : List (List Arc)) → IsStepped old arcs new next → IsGrownBy old arcs new next
grown_stepped old new arcs next m = record { more = m.more; behind = m.behind; kept = m.kept; lines = λ v w i h. m.same v w (Some i) h }

-- a node stays one
pub node_kept : (old new : Origins) (arcs next : List (List Arc)) → IsGrownBy old arcs new next → (n : ℕ) → n < length old → n < length new
node_kept old new arcs next m n h =
    let k : length old ≤ length new = grown_length old new m.more m.behind in
    omega (arith, h, k)

-- what the steps of building give, with the hubs that are there first
pub laid_by : (lines : List Line) (known : List Dtv) (flips : List Bool) (first lined pointed hubbed stepped last : Origins)
    (entered opened some wide next : List (List Arc)) → AreOriginsOf known first →
    lined ≡ first → AreLineArcs lines (length lines) known entered →
    pointed ≡ lined → AreKept entered opened → AreMore (IsPointerPair lined) entered opened →
    IsGrownBy pointed opened hubbed some → IsStepped hubbed some stepped wide →
    ((n : ℕ) → slice_get flips n ≡ Some true → HasLowest stepped wide n) →
    last ≡ stepped → AreKept wide next → HavePointers last next → AreMore (IsPointerPair stepped) wide next →
    IsLaid lines known flips last next
laid_by lines known flips first lined pointed hubbed stepped last entered opened some wide next are
    same_lined are_lines same_pointed kept only grown steps lowest same_last kept_next pointers only_next = record {
      first = first;
      more = grown.more ++ steps.more;
      are = are;
      behind = same_last ∙ steps.behind ∙ ap (λ (xs : Origins). xs ++ steps.more) (grown.behind ∙ ap (λ (xs : Origins). xs ++ grown.more) (same_pointed ∙ same_lined))
          ∙ append_assoc first grown.more steps.more;
      lowest = λ n f. subst (λ (os : Origins). HasLowest os next n) (sym same_last) (lowest_kept stepped stepped wide next pointed_grown n (lowest n f));
      lines_all =
          lines_kept lines (length lines) known entered next
          (λ v w line h. kept_next v w line (steps.kept v w line (grown.kept v w line (kept v w line h))))
          (λ v w i h. pointers_lines lined entered opened only v w i (grown.lines v w i (steps.same v w (Some i) (pointers_lines stepped wide next only_next v w i h))))
          are_lines;
      pointers = pointers;
    }
  where
    pointed_grown : IsGrownBy stepped wide stepped next
    pointed_grown = record {
      more = [];
      behind = sym (append-nil stepped);
      kept = kept_next;
      lines = pointers_lines stepped wide next only_next;
    }

-- nodes and arcs more
pub laid_grown : (lines : List Line) (known : List Dtv) (flips : List Bool) (old new : Origins) (arcs next : List (List Arc)) →
    IsGrownBy old arcs new next → HavePointers new next → IsLaid lines known flips old arcs → IsLaid lines known flips new next
laid_grown lines known flips old new arcs next grown pointers is = record {
  first = is.first;
  more = is.more ++ grown.more;
  are = is.are;
  behind = grown.behind ∙ ap (λ (xs : Origins). xs ++ grown.more) is.behind ∙ append_assoc is.first is.more grown.more;
  lowest = λ n f. lowest_kept old new arcs next grown n (is.lowest n f);
  lines_all = lines_kept lines (length lines) known arcs next grown.kept grown.lines is.lines_all;
  pointers = pointers;
}

-- arcs that are pushed more
pub laid_pushed : (lines : List Line) (known : List Dtv) (flips stands : List Bool) (old new : Origins) (arcs next : List (List Arc)) →
    new ≡ old → IsPushedMore old stands arcs next → IsLaid lines known flips old arcs → IsLaid lines known flips new next
laid_pushed lines known flips stands old new arcs next same pushed is = record {
  first = is.first;
  more = is.more;
  are = is.are;
  behind = same ∙ is.behind;
  lowest = λ n f. subst (λ (os : Origins). HasLowest os next n) (sym same) (lowest_kept old old arcs next pushed_grown n (is.lowest n f));
  lines_all = lines_kept lines (length lines) known arcs next pushed.kept pushed.lines is.lines_all;
  pointers = subst (λ (os : Origins). HavePointers os next) (sym same) (pointers_kept old arcs next pushed.kept is.pointers);
}
  where
    pushed_grown : IsGrownBy old arcs old next
    pushed_grown = record { more = []; behind = sym (append-nil old); kept = pushed.kept; lines = pushed.lines }

-- the same nodes and arcs
pub crossed_same : (lines : List Line) (known : List Dtv) (flips stands : List Bool) (old new : Origins) (arcs next : List (List Arc)) →
    new ≡ old → next ≡ arcs → IsLaid lines known flips new next → IsClosed old arcs stands → IsCrossed lines known flips stands new next
crossed_same lines known flips stands old new arcs next e f laid closed = record {
  laid = laid;
  closed = subst (λ (os : Origins). IsClosed os next stands) (sym e) (subst (λ (xs : List (List Arc)). IsClosed old xs stands) (sym f) closed);
}

-- of what is found, if it is the same frame
pub crossed_if : {E : Type 0} (lines : List Line) (known : List Dtv) (flips stands : List Bool) (frame : Frame) (result : Result (Option Frame) E) →
    IsCrossed lines known flips stands frame.origins.items frame.arcs.items → IfOk result (λ found. IfSome found (λ same. same ≡ frame)) →
    IfOk result (λ found. IfSome found (λ f. IsCrossed lines known flips stands f.origins.items f.arcs.items))
crossed_if lines known flips stands frame (Err e) is same = tt
crossed_if lines known flips stands frame (Ok None) is same = tt
crossed_if lines known flips stands frame (Ok (Some f)) is same =
    subst (λ (g : Frame). IsCrossed lines known flips stands g.origins.items g.arcs.items) (sym same) is
