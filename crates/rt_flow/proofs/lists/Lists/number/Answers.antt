use Rattle.std.proofs.Common.{[], map, sym, ap, ◌∙◌}
use Rattle.std.specs.Prelude.{slice_index_or}
use Rattle.std.specs.Cmp.Lexicographic.{pointwise}
use Rattle.rt_flow.proofs.Numbered.{pointwise_equal, listed_at, added}
use Rattle.rt_flow.proofs.lists.Lists.number.Goals as goal

pub returns-clause-found : goal.returns-clause-found
returns-clause-found g c = λ exact.
    let stored = c.in_ok-number.ensures.stored in
    ap (λ n. slice_index_or (map (λ v. v.items) c.insert_full.new.self.keys) n []) c.in-Ok.ensures.1
    ∙ listed_at (λ v. v.items) c.insert_full.new.self.keys c.in_ok-number.number stored.0 stored.1 ∙ sym (pointwise_equal g.T.PartialEq.eq exact c.args.list.items stored.0.items stored.2)

pub returns-clause-added : goal.returns-clause-added
returns-clause-added g c =
    added (λ v. v.items) (λ x y. pointwise g.T.PartialEq.eq x.items y.items) c.self.inside.set.keys c.insert_full.new.self.keys c.args.list c.args.self.now c.in_ok-number.ensures.keys c.self.view_is
