use Rattle.std.proofs.Common.{◌≡◌, ◌∙◌, ℕ, List, [], Contains, Option, ap, subst, sym}
use Rattle.std.specs.Prelude.{◌↔◌, unwrap_or}
use Rattle.rt_link.specs.declared.place.Place.{Place}
use Rattle.rt_proc.specs.Bodies.{IsInBody}
use Rattle.rt_proc.specs.Order.{AreAscending}
use Rattle.rt_proc.specs.Procs.{places_of}
use Rattle.rt_proc.proofs.finder.proc_at.Goals as goal

pub returns-clause-found : goal.returns-clause-found
returns-clause-found c =
    let same : places_of c.in_ok-sites.sites ≡ c.in_ok-body.body.items = c.in_ok-sites.ensures.places ∙ c.deref.ensures.value in
    record {
      name = c.in_ok-name.ensures ∙ ap (λ (o : Option (List ℕ)). unwrap_or o []) (c.requires.names c.args.own);
      ascending = subst AreAscending (sym same) c.in_ok-body.ensures.ascending;
      body = λ place. subst (λ (ps : List Place). Contains ps place ↔ IsInBody c.args.code.now.source.object.now c.args.code.now.source.ends.now c.args.own place) (sym same) (c.in_ok-body.ensures.found place);
      sites = c.in_ok-sites.ensures.found;
    }
