-- What is known of links that were resolved.
use Rattle.std.specs.Prelude.{◌≡◌, None}
use Rattle.rt_elf.specs.Parts.{Parts as Object}
use Rattle.rt_link.specs.declared.links.Links.{Links}
use Rattle.rt_link.specs.Checks.{link_fault}
use Rattle.rt_link.specs.Links.{AreLinksOf}

-- the links are those of the object, and have no fault
pub record AreReady (object : Object) (links : Links) : Type 0 where
  pub are_links : AreLinksOf object links
  pub linked : link_fault object ≡ None
