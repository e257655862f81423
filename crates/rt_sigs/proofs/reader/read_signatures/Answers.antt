use Rattle.std.proofs.Common.{arith, subst, sym, refl}
use Rattle.rt_sigs.specs.Signatures.{HasNamed}
use Rattle.rt_sigs.proofs.Files.{between-step, between_begun, heading-long, inside_fault}
use Rattle.rt_sigs.proofs.reader.read_signatures.Goals as goal

pub loop-rest-init : goal.loop-rest-init
loop-rest-init c = record {
  at = between_begun _ _ _ _ _ _ c.empty-sigs.ensures c.read_version-begun.ensures;
  bounded = c.read_version-begun.ensures.bounded;
}

pub returns-in-Err-read_body : goal.returns-in-Err-read_body
returns-in-Err-read_body c =
    inside_fault _ _ _ _ _ _ _ _ c.read_remarks-remarks.result c.loop-rest.invariant.at c.in-Ok.ensures c.read_remarks-remarks.ensures _ c.requires c.in-Err-read_body.ensures

pub push-requires : goal.push-requires
push-requires c = subst (λ n. HasNamed c.loop-rest.sigs n → ⊥) (sym c.into_vec.ensures) c.in-Ok.ensures.new

pub loop-rest-preserved : goal.loop-rest-preserved
loop-rest-preserved c = record {
  at =
      between-step _ _ _ _ _ _ _ _ c.read_remarks-remarks.result c.loop-rest.invariant.at c.in-Ok.ensures c.read_remarks-remarks.ensures _ c.in-Ok-read_body.body _ _ c.into_vec.ensures refl refl refl
      c.in-Ok-push.ensures c.in-Ok-read_body.ensures;
  bounded =
      let long = heading-long _ _ _ _ c.in-Ok.ensures in
      let said = c.read_remarks-remarks.ensures.bounded in
      let most = c.in-Ok-read_body.ensures.bounded in
      omega (arith, long, said, most);
}
