use Rattle.std.proofs.Common.{drop, length, ap, subst, sym, ◌∙◌}
use Rattle.std.proofs.lemmas.List.{take_rest}
use Rattle.rt_sat.specs.Inside.Checks.{AreComplete, AreWalked}
use Rattle.rt_sat.specs.Hints.{IsFamily}
use Rattle.rt_sat.specs.Pushes.{pushed_of}
use Rattle.rt_sat.proofs.checking.checked.Goals as goal
use Rattle.rt_sat.proofs.checking.checked.Goals.{in-Some+in_ok-ways-in-Some, in-None+in_ok-ways-in-None}

pub flags-requires-clause-ways : goal.flags-requires-clause-ways
flags-requires-clause-ways c =
    elim c.match-family.branch [
      | in-Some+in_ok-ways-in-Some w ↦ subst (λ n. IsFamily n c.match-family.ways) c.requires.nodes
          (subst (IsFamily (length c.args.frame.now.nodes.items)) (sym w.ways-is) w.in_ok-ways-in-Some.ensures)
      | in-None+in_ok-ways-in-None w ↦ subst (λ n. IsFamily n c.match-family.ways) (ap length w.deref-in-None.ensures.value ∙ c.requires.nodes)
          (subst (IsFamily (length w.deref-in-None.result.now)) (sym w.ways-is) w.in_ok-ways-in-None.ensures.family)
    ]

pub returns : goal.returns
returns c =
    let layers = c.args.layers.now in
    let complete : AreComplete c.match-family.ways layers.edges.items =
    subst (AreComplete c.match-family.ways) c.deref-2.ensures.value (c.is_complete.ensures c.if-not-is_complete.false) in
    let walked : AreWalked c.in_ok-pushed.pushed (pushed_of layers) =
    subst (AreWalked c.in_ok-pushed.pushed)
    (take_rest c.deref-5.result.now layers.lines ∙ ap (drop layers.lines) c.deref-5.ensures.value) c.in_ok-pushed.ensures.walked in
    c.in_ok-done.ensures layers.edges.items (pushed_of layers) complete walked
