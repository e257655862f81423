use Rattle.std.proofs.Common.{◌≡◌, ◌∷◌, string_bytes, arith}
use Rattle.std.proofs.lemmas.Grind.{common_steps}
use Rattle.rt_lattice.proofs.Gathering.{roles_more}
use Rattle.rt_lattice.proofs.document.role_names_of.Goals as goal

pub loop-key-preserved : goal.loop-key-preserved
loop-key-preserved c =
    let iter : c.loop-key.key-iterator ≡ (c.in-Some.key.now, c.in-Some.value.now) ∷ c.next.new.self = grind (arith, common_steps) in
    let key : c.in_ok-key.key ≡ string_bytes c.in-Some.key.now = grind (arith, common_steps) in (
      tt,
      tt,
      rw (c.in_ok-push.ensures.ok, key, c.in_ok-name.ensures)
          (roles_more _ c.in-Some.key.now c.in-Some.value.now _ _ _ c.in-Some-as_str.ensures (rw iter at c.loop-key.invariant.2)),
    )
