-- Elements of lists, re-exported.
pub use Rattle.rt_base.proofs.Lists.{Contains-none, Contains-here, Contains-there, Contains-cons_cases, Contains-map, Contains-map_source, All-from_contains}
