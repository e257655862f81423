-- What is tidied already.
use Rattle.std.proofs.Common.{◌≡◌, ◌≢◌, suc, List, [], ◌++◌, length, take, drop, get_or, AllPairs, Contains}
use Rattle.std.proofs.Common.{subst, ◌∙◌, arith}
use Rattle.std.proofs.lemmas.List.{get_or-take}
use Rattle.std.proofs.lemmas.List.Elements.{Contains-append_left, Contains-get_or}
use Rattle.rt_lines.specs.declared.line.Line.{Line}
use Rattle.rt_lines.specs.declared.line.Line.TheVariants.{Same, Sub}
use Rattle.rt_lines.specs.Orders.{Below}
use Rattle.rt_rules.proofs.Carry.{given}
use Rattle.rt_polar.proofs.Cuts.{cut_here, take_length}
use Rattle.rt_reduction.specs.Drops.{Drops}
use Rattle.rt_reduction.specs.Laws.{HasNoSelf}
use Rattle.rt_reduction.proofs.Dropping.{kept_lem, none_to_spare_lem}
use Rattle.rt_reduction.proofs.Emitting.{emits_no_self_lem}
use Rattle.rt_reduction.proofs.Merging.{merges_no_self_lem}
use Rattle.rt_reduction.proofs.Tidying.{stays, tidied_twice}
use Rattle.rt_simplify.specs.Laws.{TidiedTwiceLaw, RoundTidiedLaw}

pub tidied_twice_lem : TidiedTwiceLaw
tidied_twice_lem lines = tidied_twice lines

-- lines of which none is derivable from the others are distinct
spared_distinct : (order : Below) (lines kept : List Line) → Drops order [] lines kept → AllPairs (λ a b. a ≢ b) kept
spared_distinct order lines kept drops i j d less lt same =
    let short : length (take j kept) ≡ j = take_length kept j lt in
    let before : Contains (take j kept) (get_or (take j kept) i d) = Contains-get_or (take j kept) i d (omega (arith, short, less)) in
    let there : Contains (take j kept) (get_or kept j d) =
    subst (Contains (take j kept)) (get_or-take j kept i d less ∙ same) before in
    none_to_spare_lem order lines kept drops (take j kept) (drop (suc j) kept) (get_or kept j d) (cut_here kept j d lt)
    (given order (take j kept ++ drop (suc j) kept) (get_or kept j d)
    (Contains-append_left (take j kept) (drop (suc j) kept) (get_or kept j d) there))

pub round_tidied_lem : RoundTidiedLaw
round_tidied_lem order lines after r = stays after (spared_distinct order r.merged after r.is_dropped) none
  where
    merged_none : HasNoSelf r.merged
    merged_none = merges_no_self_lem order r.emitted r.merged r.is_merged (emits_no_self_lem order r.simple r.emitted r.is_emitted)

    none : HasNoSelf after
    none x = (
      λ c. (merged_none x).0 (kept_lem order r.merged after r.is_dropped (Sub x x) c),
      λ c. (merged_none x).1 (kept_lem order r.merged after r.is_dropped (Same x x) c),
    )
