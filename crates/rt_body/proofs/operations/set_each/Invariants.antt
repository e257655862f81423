use Rattle.std.proofs.Common.{◌≡◌, ℕ, take}
use Rattle.std.specs.Prelude.{Contains}
use Rattle.rt_track.specs.Operations.{op_in, ops_sites}
use Rattle.rt_body.proofs.operations.set_each.Given as goal

abbrev pub invariant-loop-register : goal.invariant-loop-register
invariant-loop-register l = record {
  sites : ops_sites l.ops ≡ ops_sites l.fn.ops;
  given : (r : ℕ) → Contains (take l.register-index l.registers) r → op_in l.ops l.site r ≡ l.op;
  rest : (r : ℕ) → (Contains (take l.register-index l.registers) r → ⊥) → op_in l.ops l.site r ≡ op_in l.fn.ops l.site r;
  others : (s r : ℕ) → (s ≡ l.site → ⊥) → op_in l.ops s r ≡ op_in l.fn.ops s r;
}
