use Rattle.std.proofs.Common.{◌≡◌, ◌++◌, ◌∷◌, ℕ, [], List, length, get_or, ap, ◌∙◌, arith}
use Rattle.std.proofs.lemmas.List.{get_or_default}
use Rattle.rt_sat.proofs.Families.{members_more}
use Rattle.rt_sat.proofs.family.settle.Goals as goal

pub returns-in_ok-push-clause-members : goal.returns-in_ok-push-clause-members
returns-in_ok-push-clause-members c count less are =
    let members : List (List ℕ) = c.args.members.now.items in
    let long : length c.index.result.now ≡ length (get_or members c.args.class []) = ap length (c.index.ensures ∙ get_or_default members c.args.class _ [] c.requires) in
    members_more count c.args.number c.args.class members c.push.new.self c.requires less (omega (arith, c.if-len-lt-MOST.true, c.len.ensures, long))
    (c.in_ok-push.ensures.ok ∙ ap (λ (xs : List ℕ). xs ++ c.args.number ∷ []) (c.index_mut.ensures.value ∙ get_or_default members c.args.class _ [] c.requires)) are
