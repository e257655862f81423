use Rattle.std.proofs.Common.{◌≡◌, ◌+◌, List, Bool, true, length, ap, sym, subst, ◌∙◌, arith}
use Rattle.std.proofs.lemmas.List.{length_push}
use Rattle.rt_sat.specs.Pushes.{is_done, pushed_of, AreDone}
use Rattle.rt_sat.proofs.Apart.{none_done, done_more, still_more, still_all}
use Rattle.rt_sat.proofs.Growing.{all_none, all_more}
use Rattle.rt_sat.proofs.closing.pass.Goals as goal

pub push_open-requires-clause-indexed : goal.push_open-requires-clause-indexed
push_open-requires-clause-indexed c = c.loop-number.invariant.grown.indexed c.requires.indexed

pub loop-number-init : goal.loop-number-init
loop-number-init c = record {
  grown = all_none c.args.frame.now.named c.args.frame.now.flips.items c.args.layers.now;
  long = ap length c.new-next.ensures.items;
  still = λ h i less. absurd (omega (arith, less));
  done = none_done c.args.frame.now.named c.args.frame.now.flips.items c.args.frame.now.matters.items c.args.layers.now.edges.items (pushed_of c.args.layers.now) c.new-next.result.items c.new-next.ensures.items;
}

pub loop-number-preserved : goal.loop-number-preserved
loop-number-preserved c =
    let known = c.args.frame.now.named in
    let flips = c.args.frame.now.flips.items in
    let matters = c.args.frame.now.matters.items in
    let grown = c.loop-number.invariant.grown in
    let more = c.in_ok-yes.ensures.grown in
    let next = c.loop-number.next.items in
    let yes = c.in_ok-yes.yes in
    record {
      grown = all_more known flips c.args.layers.now c.loop-number.layers c.push_open.new.layers grown more;
      long = ap length c.in_ok-push.ensures.items ∙ length_push next yes ∙ ap (λ n. n + 1) c.loop-number.invariant.long;
      still = λ h i less.
          subst (λ (xs : List Bool). is_done xs i ≡ true) (sym c.in_ok-push.ensures.items)
          (still_more known flips matters c.args.layers.now c.loop-number.layers c.push_open.new.layers next c.loop-number.number yes grown more c.loop-number.invariant.long
          c.in_ok-yes.ensures.still c.loop-number.invariant.still h i less);
      done = subst (λ (xs : List Bool). AreDone known flips matters c.args.layers.now.edges.items (pushed_of c.push_open.new.layers) xs) (sym c.in_ok-push.ensures.items)
          (done_more known flips matters c.args.layers.now c.loop-number.layers c.push_open.new.layers next c.loop-number.number yes grown more c.loop-number.invariant.long
          c.args.done.now c.requires.indexed.few c.requires.done c.in_ok-yes.ensures.done c.loop-number.invariant.done);
    }

pub returns-clause-all : goal.returns-clause-all
returns-clause-all c = λ still.
    still_all c.args.frame.now.named c.args.frame.now.flips.items c.args.frame.now.matters.items c.args.layers.now c.loop-number.layers c.loop-number.next.items c.loop-number.invariant.grown
    (λ i less. c.loop-number.invariant.still still i (omega (arith, less, c.loop-number-test.false, c.len-number-end.ensures.count)))
    c.loop-number.invariant.done still
