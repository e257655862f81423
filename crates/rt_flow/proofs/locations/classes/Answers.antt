use Rattle.std.proofs.Common.{rules, ◌≡◌, ◌≤◌, ℕ, ℤ, pos, to_z, of_z, w64, List, Some, length, refl, sym, ap, subst, ◌∙◌, arith}
use Rattle.std.specs.Prelude.{slice_index_or}
use Rattle.std.proofs.lemmas.Bool.{eqb-true}
use Rattle.std.proofs.lemmas.Int.{to_z-of_z}
use Rattle.rt_flow.proofs.Classing.{has_class, has_sites, gets_class, ends}
use Rattle.rt_flow.proofs.locations.classes.Goals as goal

pub loop-site-preserved-then-contains_key : goal.loop-site-preserved-then-contains_key
loop-site-preserved-then-contains_key c =
    let def = slice_index_or c.defs-site-items.result.now c.loop-site._site-index (0, pos 0) in
    record {
      items = c.loop-site.invariant.items;
      classing = has_class c.args.graph.now c.loop-site._site-index c.loop-site.known.entries c.in_ok-none.none c.loop-site.classes c.loop-site.invariant.classing c.defs-site-items.result.now c.loop-site.invariant.items c.loop-site-test.true (0, pos 0)
          def.1 refl (sym c.contains_key.ensures ∙ c.if-contains_key.true);
    }

pub loop-site-preserved-in_default : goal.loop-site-preserved-in_default
loop-site-preserved-in_default c =
    let def = slice_index_or c.defs-site-items.result.now c.loop-site._site-index (0, pos 0) in
    absurd (has_sites c.args.graph.now c.loop-site._site-index c.loop-site.known.entries c.in_ok-none.none c.loop-site.classes c.loop-site.invariant.classing c.defs-site-items.result.now c.loop-site.invariant.items c.loop-site-test.true (0, pos 0)
    c.in_ok-groups.groups.entries c.in_ok-groups.ensures def.1 refl (sym c.in_default.ensures.value))

pub loop-site-preserved : goal.loop-site-preserved
loop-site-preserved c =
    let def = slice_index_or c.defs-site-items.result.now c.loop-site._site-index (0, pos 0) in
    let same : to_z w64 (of_z w64 def.1) ≡ def.1 = grind (arith, to_z-of_z) in
    let copied : c.in_ok-sites.sites.items ≡ c.in-Some.sites.now = search rules in
    record {
      items = c.loop-site.invariant.items;
      classing = gets_class c.args.graph.now c.loop-site._site-index c.loop-site.known.entries c.in_ok-none.none c.loop-site.classes c.loop-site.invariant.classing c.defs-site-items.result.now c.loop-site.invariant.items c.loop-site-test.true (0, pos 0)
          c.in_ok-groups.groups.entries c.in_ok-groups.ensures def.1 refl c.in_ok-sites.sites.items (sym c.in-Some.ensures.value ∙ ap Some (sym copied)) c.ascending.result.items c.ascending.ensures.ascending c.ascending.ensures.same
          c.number-in-loop-site.new.self c.in_ok-class.ensures.added c.in_ok-class.class c.in_ok-class.ensures.within (c.in_ok-class.ensures.found eqb-true) c.insert.new.self.entries _ same c.in_ok-insert.ensures.updates.0;
    }

pub returns-clause-classes : goal.returns-clause-classes
returns-clause-classes c =
    ends c.args.graph.now c.loop-site._site-index c.loop-site.known.entries c.in_ok-none.none c.loop-site.classes c.loop-site.invariant.classing (subst (λ (ds : List (ℕ × ℤ)). length ds ≤ c.loop-site._site-index) c.loop-site.invariant.items c.loop-site-test.false)
