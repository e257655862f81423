use Rattle.std.proofs.Common.{◌≡◌, ℕ, ◌-◌, ◌<◌, List, [], ◌∷◌, ◌++◌, length, slice_index, take, Contains, sym, ap, subst, ◌∙◌, arith}
use Rattle.std.proofs.lemmas.Bool.{true≢false}
use Rattle.std.proofs.lemmas.List.{get_or_read, with_items_is}
use Rattle.std.proofs.lemmas.List.Elements.{Contains-push}
use Rattle.rt_components.specs.Inside.Walks.{state_of, AreOnPath, IsClosedFrom, IsPath, AreWhole, MayLeave}
use Rattle.rt_components.specs.declared.walk.Walk.{Walk}
use Rattle.rt_components.proofs.Numbers.{split_last}
use Rattle.rt_components.proofs.Leaving.{on_path_of, left_path, back_unseen, closed_path, closed_whole}
use Rattle.rt_components.proofs.walk.Walk.leave.Goals as goal

last_of : (graph : List (List ℕ)) (w : Walk) (place : ℕ) → MayLeave graph w place → (rest : List ℕ) → rest ≡ take (w.pending.len - 1) w.pending.items → w.pending.items ≡ rest ++ place ∷ []
last_of graph w place may rest e = split_last w.pending.items rest place w.pending.len may.may_step.last w.pending.ok.0 e

place_in_path : (graph : List (List ℕ)) (w : Walk) (place : ℕ) → MayLeave graph w place → (rest : List ℕ) → w.pending.items ≡ rest ++ place ∷ [] → place < length w.path.items
place_in_path graph w place may rest last = may.may_step.is_walk.on_path.pending_in place (subst (λ xs. Contains xs place) (sym last) (Contains-push rest place))

pub index-requires : goal.index-requires
index-requires g c =
    let w = c.args.self.now in
    let less : c.args.place < length w.path.items = place_in_path g.graph w c.args.place c.requires c.pop.new.self.items (last_of g.graph w c.args.place c.requires c.pop.new.self.items c.pop.ensures.rest) in
    subst (λ n. c.args.place < n) (sym w.path.ok.0) less

pub close-requires-clause-places : goal.close-requires-clause-places
close-requires-clause-places g c =
    let w = c.args.self.now in
    subst (λ s. AreOnPath s c.deref.result.now) (sym c.deref_mut.ensures.value) (subst (AreOnPath w.state.items) (sym c.deref.ensures.value)
    (on_path_of g.graph w.state.items w.followed.items w.path.items w.starts.items w.pending.items c.requires.may_step.is_walk.on_path))

pub close-requires-clause-within : goal.close-requires-clause-within
close-requires-clause-within g c =
    let w = c.args.self.now in
    let less : c.args.place < length w.path.items = place_in_path g.graph w c.args.place c.requires c.pop.new.self.items (last_of g.graph w c.args.place c.requires c.pop.new.self.items c.pop.ensures.rest) in
    let same : length c.deref.result.now ≡ length w.path.items = ap length c.deref.ensures.value in
    omega arith

pub returns-in_ok-push-clause-walk : goal.returns-in_ok-push-clause-walk
returns-in_ok-push-clause-walk g c =
    let w = c.args.self.now in
    let walk = c.requires.may_step.is_walk in
    let place = c.args.place in
    let rest = c.pop.new.self.items in
    let last = last_of g.graph w place c.requires rest c.pop.ensures.rest in
    let others = c.pop-then-begins_last.new.self.items in
    let begins = split_last w.starts.items others place w.starts.len (c.begins_last.ensures.0 c.if-begins_last.true) w.starts.ok.0 c.pop-then-begins_last.ensures.rest in
    let after = c.close.new.state in
    let closed : IsClosedFrom w.state.items after place c.len-class.result = subst (λ s. IsClosedFrom s after place c.len-class.result) c.deref_mut.ensures.value c.close.ensures in
    let state_is = with_items_is w.state after (closed.each ∙ sym w.state.ok.0) in
    let number : c.len-class.result ≡ length w.heads.items = c.len-class.ensures ∙ w.heads.ok.0 in
    let less : place < length w.path.items = place_in_path g.graph w place c.requires rest last in
    let head : c.index.result.now ≡ slice_index w.path.items place = get_or_read w.path.items place c.index.result.now less c.index.ensures 0 in
    let more : c.push.new.self.items ≡ w.heads.items ++ slice_index w.path.items place ∷ [] = c.in_ok-push.ensures.items ∙ ap (λ h. w.heads.items ++ h ∷ []) head in
    record {
      on_path =
          subst (λ s. IsPath g.graph s w.followed.items c.truncate.new.self.items others rest) (sym state_is) (subst (λ p. IsPath g.graph after w.followed.items p others rest) (sym c.truncate.ensures.items)
          (closed_path g.graph w.state.items w.followed.items w.path.items w.starts.items w.pending.items rest walk.on_path place last c.requires.spent others begins after c.len-class.result closed));
      whole =
          subst (λ s. AreWhole g.graph s c.push.new.self.items) (sym state_is)
          (closed_whole g.graph w.state.items w.followed.items w.path.items w.starts.items w.pending.items rest walk.on_path place last c.requires.spent others begins after c.len-class.result closed
          w.heads.items c.push.new.self.items walk.whole number more);
    }

pub returns-in_ok-push-clause-seen : goal.returns-in_ok-push-clause-seen
returns-in_ok-push-clause-seen g c =
    let w = c.args.self.now in
    let walk = c.requires.may_step.is_walk in
    let place = c.args.place in
    let rest = c.pop.new.self.items in
    let last = last_of g.graph w place c.requires rest c.pop.ensures.rest in
    let others = c.pop-then-begins_last.new.self.items in
    let begins = split_last w.starts.items others place w.starts.len (c.begins_last.ensures.0 c.if-begins_last.true) w.starts.ok.0 c.pop-then-begins_last.ensures.rest in
    let after = c.close.new.state in
    let closed : IsClosedFrom w.state.items after place c.len-class.result = subst (λ s. IsClosedFrom s after place c.len-class.result) c.deref_mut.ensures.value c.close.ensures in
    let state_is = with_items_is w.state after (closed.each ∙ sym w.state.ok.0) in
    λ a u. back_unseen g.graph w.state.items w.followed.items w.path.items w.starts.items w.pending.items rest walk.on_path place last c.requires.spent others begins after c.len-class.result closed a
    (sym (ap (λ s. state_of s a) state_is) ∙ u)

pub returns-else-begins_last-clause-walk : goal.returns-else-begins_last-clause-walk
returns-else-begins_last-clause-walk g c =
    let w = c.args.self.now in
    let walk = c.requires.may_step.is_walk in
    let rest = c.pop.new.self.items in
    record {
      on_path =
          left_path g.graph w.state.items w.followed.items w.path.items w.starts.items w.pending.items rest walk.on_path c.args.place (last_of g.graph w c.args.place c.requires rest c.pop.ensures.rest) c.requires.spent
          (λ l. true≢false (sym (c.begins_last.ensures.1 l) ∙ c.if-begins_last.false));
      whole = walk.whole;
    }
