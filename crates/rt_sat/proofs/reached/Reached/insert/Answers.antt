use Rattle.std.proofs.Common.{◌≡◌, ℕ, ◌<◌, List, Some, None, cond, length, get_or, set, refl, sym, ap, subst, ◌∙◌, arith}
use Rattle.std.specs.Map.{lookup}
use Rattle.rt_sat.specs.declared.state.State.{State}
use Rattle.rt_sat.specs.Reached.{key_of, ArePlaces}
use Rattle.rt_sat.specs.Searches.{state_eq}
use Rattle.rt_sat.proofs.Places.{placed_wide, placed_push, updates_push, updates_set}
use Rattle.rt_sat.proofs.reached.Reached.insert.Goals as goal

pub returns-in-Some : goal.returns-in-Some
returns-in-Some c =
    let es = c.self.inside.counts.items in
    let at : (c.in-Some.place < length c.self.inside.counts.items) × ((e : State × ℕ) → (get_or c.self.inside.counts.items c.in-Some.place e).0 ≡ c.args.state) =
    subst (λ (xs : List (State × ℕ)). (c.in-Some.place < length xs) × ((e : State × ℕ) → (get_or xs c.in-Some.place e).0 ≡ c.args.state)) (sym c.self.view_is) c.in-Some.ensures.some in
    λ q. updates_set c.self.inside.places.items es c.self.invariant c.args.state c.args.count c.in-Some.place at.0 at.1 q
    ∙ ap (λ (xs : List (State × ℕ)). cond (state_eq c.args.state q) (Some c.args.count) (lookup (state_eq q) xs)) c.self.view_is

pub invariant_of-self-in_err-push : goal.invariant_of-self-in_err-push
invariant_of-self-in_err-push c =
    let es = c.self.inside.counts.items in
    let none : lookup (state_eq c.args.state) c.self.inside.counts.items ≡ None = subst (λ xs. lookup (state_eq c.args.state) xs ≡ None) (sym c.self.view_is) (c.in_default.ensures.none refl) in
    let room : key_of c.args.state < length c.widen.new.places.items = subst (λ n. n < length c.widen.new.places.items) c.key-key.ensures c.in_ok-widen.ensures.room in
    let size : c.len.result ≡ length c.self.inside.counts.items = omega (arith, c.len.ensures) in
    subst (λ n. ArePlaces (set c.widen.new.places.items c.key-key.result n) c.push.new.self.items) (sym size)
    (subst (λ n. ArePlaces (set c.widen.new.places.items n (length es)) c.push.new.self.items) (sym c.key-key.ensures)
    (subst (λ xs. ArePlaces (set c.widen.new.places.items (key_of c.args.state) (length es)) xs) (sym c.in_err-push.ensures.items)
    (placed_wide c.self.inside.places.items c.widen.new.places.items es c.self.invariant c.widen.ensures.same c.args.state room none)))

pub invariant_of-self-2 : goal.invariant_of-self-2
invariant_of-self-2 c =
    let es = c.self.inside.counts.items in
    let none : lookup (state_eq c.args.state) c.self.inside.counts.items ≡ None = subst (λ xs. lookup (state_eq c.args.state) xs ≡ None) (sym c.self.view_is) (c.in_default.ensures.none refl) in
    let room : key_of c.args.state < length c.widen.new.places.items = subst (λ n. n < length c.widen.new.places.items) c.key-key.ensures c.in_ok-widen.ensures.room in
    let size : c.len.result ≡ length c.self.inside.counts.items = omega (arith, c.len.ensures) in
    subst (λ n. ArePlaces (set c.widen.new.places.items c.key-key.result n) c.push.new.self.items) (sym size)
    (subst (λ n. ArePlaces (set c.widen.new.places.items n (length es)) c.push.new.self.items) (sym c.key-key.ensures)
    (subst (λ xs. ArePlaces (set c.widen.new.places.items (key_of c.args.state) (length es)) xs) (sym c.in_ok-push.ensures.items)
    (placed_push c.self.inside.places.items c.widen.new.places.items es c.self.invariant c.widen.ensures.same c.args.state room none c.args.count)))

pub returns : goal.returns
returns c =
    let es = c.self.inside.counts.items in
    let none : lookup (state_eq c.args.state) c.self.inside.counts.items ≡ None = subst (λ xs. lookup (state_eq c.args.state) xs ≡ None) (sym c.self.view_is) (c.in_default.ensures.none refl) in
    let room : key_of c.args.state < length c.widen.new.places.items = subst (λ n. n < length c.widen.new.places.items) c.key-key.ensures c.in_ok-widen.ensures.room in
    λ q. ap (lookup (state_eq q)) c.in_ok-push.ensures.items
    ∙ updates_push c.self.inside.places.items c.widen.new.places.items es c.self.invariant c.widen.ensures.same c.args.state room none c.args.count q
    ∙ ap (λ (xs : List (State × ℕ)). cond (state_eq c.args.state q) (Some c.args.count) (lookup (state_eq q) xs)) c.self.view_is
