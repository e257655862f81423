use Rattle.std.proofs.Common.{rules, ◌≡◌, List, None, length, Option, ap, refl, sym, subst, ℕ, ◌∙◌}
use Rattle.std.specs.Prelude.{pos, slice_index_or}
use Rattle.rt_flow.specs.Sources.{shared_count_of, source_in}
use Rattle.rt_track.specs.declared.nodes.Input.{Input}
use Rattle.rt_track.proofs.Using.{IsChanging, none_known, no_changes, unchanged, changed, all_changes}
use Rattle.rt_track.proofs.uses.changes.Goals as goal

pub loop-site-init : goal.loop-site-init
loop-site-init c =
    let e = c.in_ok-known.ensures.items_if_clones_equal (search rules) in
    let each : length c.in_ok-known.known.items ≡ shared_count_of c.args.reach.now = search rules in
    subst (λ (cs : List (ℕ × Input)). IsChanging c.args.reach.now c.args.ops.now c.args.reg c.args.joins.now.items 0 c.args.joins.now.items c.in_ok-known.known.items cs None) (sym c.new-changes.ensures.items)
    (no_changes c.args.reach.now c.args.ops.now c.args.reg c.args.joins.now.items c.in_ok-known.known.items each (λ n. ap (λ (ks : List (Option Input)). slice_index_or ks n None) e ∙ none_known c.shared_count.result n))

pub loop-site-preserved-then-is_last : goal.loop-site-preserved-then-is_last
loop-site-preserved-then-is_last c =
    let source : c.source-source.result ≡ source_in c.args.reach.now c.loop-site.site (pos c.args.reg) = search rules in
    unchanged c.args.reach.now c.args.ops.now c.args.reg c.args.joins.now.items c.loop-site.site c.loop-site.joins.items c.loop-site.known.items c.loop-site.changes.items c.loop-site.last c.loop-site.invariant
    c.source-source.result source (c.is_last.ensures.0 c.if-is_last.true)

pub loop-site-preserved : goal.loop-site-preserved
loop-site-preserved c =
    let source : c.source-source.result ≡ source_in c.args.reach.now c.loop-site.site (pos c.args.reg) = search rules in
    changed c.args.reach.now c.args.ops.now c.args.reg c.args.joins.now.items c.loop-site.site c.loop-site.joins.items c.loop-site.known.items c.loop-site.changes.items c.loop-site.last c.loop-site.invariant
    c.source-source.result source c.source_input.new.joins.items c.source_input.new.known.items c.in_ok-input.input c.in_ok-input.ensures c.push.new.self.items c.in_ok-push.ensures.items _ refl

pub returns : goal.returns
returns c = record {
  uses = all_changes c.args.reach.now c.args.ops.now c.args.reg c.args.joins.now.items c.loop-site.site c.loop-site.joins.items c.loop-site.known.items c.loop-site.changes.items c.loop-site.last c.loop-site.invariant (search rules) c.requires;
  keeps = c.loop-site.invariant.keeps;
}
