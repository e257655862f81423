-- A frame is that of its body.
use Rattle.std.proofs.Common.{◌≡◌, ◌<◌, ◌≤◌, ◌↔◌, ℕ, ℤ, List, [], cond, length, sym, ap, subst, ◌∙◌, arith}
use Rattle.std.specs.Prelude.{Contains}
use Rattle.std.proofs.lemmas.Bool.{le-ltb, lt-ltb}
use Rattle.std.proofs.lemmas.List.Elements.{All-contains}
use Rattle.rt_flow.specs.declared.def.Def.TheVariants.{At}
use Rattle.rt_flow.specs.declared.reach.Reach.{Reach}
use Rattle.rt_flow.specs.Bodies.{Body, AreReaching}
use Rattle.rt_flow.specs.Reaching.{IsReachOf, sites_of}
use Rattle.rt_flow.specs.Sources.{defs_in}
use Rattle.rt_body.specs.Readings.{Reading}
use Rattle.rt_liveness.specs.declared.call.Call.{Call}
use Rattle.rt_frame.specs.Frames.{AreAscending, Layout, IsFrameOf, IsSaved, IsTaken, frame_body}
use Rattle.rt_frame.specs.Told.{reaching_site}

module _ (reach : Reach) (site : ℕ) (loc : ℤ) where
  pub reaching_at : site < sites_of reach → reaching_site reach site loc ≡ defs_in reach site loc
  unfolding reaching_site
  reaching_at less = ap (λ b. cond b (defs_in reach site loc) []) (lt-ltb site (sites_of reach) less)

  reaching_past : sites_of reach ≤ site → reaching_site reach site loc ≡ []
  unfolding reaching_site
  reaching_past past = ap (λ b. cond b (defs_in reach site loc) []) (le-ltb site (sites_of reach) past)

module _ (graph : Body) (reach : Reach) (is : IsReachOf graph reach) (told : (site : ℕ) (loc : ℤ) → site < sites_of reach → AreReaching graph loc site (defs_in reach site loc)) where
  pub within_sites : (site d : ℕ) (loc : ℤ) → site < sites_of reach → Contains (defs_in reach site loc) (At d) → d < sites_of reach
  within_sites site d loc less in_list =
      let reaches = ((told site loc less).reaching (At d)).0 in_list in
      let below : d < graph.sites = All-contains (λ (e : ℕ × ℤ). e.0 < graph.sites) graph.defs (d, loc) is.is_body.defs_in reaches.0 in
      subst (λ n. d < n) (sym is.sites) below

  pub sites_framed : (reading : Reading) (layout : Layout) → graph ≡ frame_body reading layout → sites_of reach ≡ reading.body.sites
  sites_framed reading layout graph_is = is.sites ∙ ap (λ (g : Body). g.sites) graph_is

  pub framed : (reading : Reading) (calls : List (List Call)) (layout : Layout) (taken saved : List ℤ) → graph ≡ frame_body reading layout → reading.body.sites ≡ length reading.actions
      → layout.taken ≡ taken → AreAscending layout.taken → ((k : ℤ) → Contains taken k ↔ IsTaken reading calls k)
      → layout.saved ≡ saved → AreAscending layout.saved → ((k : ℤ) → Contains saved k ↔ IsSaved reading k)
      → IsFrameOf reading calls (record { layout = layout; reaching = λ site loc. reaching_site reach site loc })
  framed reading calls layout taken saved graph_is sites taken_is taken_ascending are_taken saved_is saved_ascending are_saved = record {
    taken_ascending = taken_ascending;
    taken = λ k. subst (λ xs. Contains xs k ↔ IsTaken reading calls k) (sym taken_is) (are_taken k);
    saved_ascending = saved_ascending;
    saved = λ k. subst (λ xs. Contains xs k ↔ IsSaved reading k) (sym saved_is) (are_saved k);
    reaching = λ site loc less.
        subst (λ g. AreReaching g loc site (reaching_site reach site loc)) graph_is
        (subst (AreReaching graph loc site) (sym (reaching_at reach site loc (inside site less))) (told site loc (inside site less)));
    reaching_else = λ site loc past. reaching_past reach site loc (omega (arith, past, sites_framed reading layout graph_is));
  }
    where
      inside : (site : ℕ) → site < length reading.actions → site < sites_of reach
      inside site less = omega (arith, sites_framed reading layout graph_is)
