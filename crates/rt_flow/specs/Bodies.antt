-- Bodies of sites, their walks, and which definitions reach a site.
use Rattle.std.specs.Prelude.{◌<◌, ◌^◌, ◌↔◌, ℕ, ℤ, List, [], ◌∷◌, All, AllPairs, Contains}
use Rattle.std.specs.List.{AllByRecursion}
use Rattle.rt_flow.specs.declared.def.Def.{Def}
use Rattle.rt_flow.specs.declared.def.Def.TheVariants.{Entry, At}

-- a body: how many sites it has, which of them is the entry, its edges from site to site, and which site defines which location
pub record Body : Type 0 where
  pub sites : ℕ
  pub entry : ℕ
  pub edges : List (ℕ × ℕ)
  pub defs : List (ℕ × ℤ)

-- the entry, and the sites of edges and definitions, are sites of the body, which are as few as u32 can name
pub record IsBody (body : Body) : Type 0 where
  pub few : body.sites < 2 ^ 32
  pub entry_in : body.entry < body.sites
  pub edges_in : All (λ e. (e.0 < body.sites) × (e.1 < body.sites)) body.edges
  pub defs_in : All (λ d. d.0 < body.sites) body.defs

-- an edge leads from a site to a site
abbrev pub Steps : Body → ℕ → ℕ → Type 0
Steps body s t = Contains body.edges (s, t)

-- a site defines a location
abbrev pub Defines : Body → ℕ → ℤ → Type 0
Defines body s loc = Contains body.defs (s, loc)

-- a walk of the body from a site to a site, and the sites that it passes before the last one, in order
pub data Walk (body : Body) : ℕ → List ℕ → ℕ → Type 0 where
  stays : {s : ℕ} → Walk body s [] s
  goes : {s m t : ℕ} {passed : List ℕ} → Steps body s m → Walk body m passed t → Walk body s (s ∷ passed) t

-- none of the sites defines the location
abbrev pub NoneDefines : Body → ℤ → List ℕ → Type 0
NoneDefines body loc sites = AllByRecursion (λ s. Defines body s loc → ⊥) sites

-- Entry, which stands before the entry site, reaches a site by a walk from the entry site that passes no definition of the
-- location; the definition at a site reaches one by a walk from its site that passes no other
abbrev pub Reaches : Body → ℤ → Def → ℕ → Type 0
Reaches body loc Entry s = (passed : List ℕ) × Walk body body.entry passed s × NoneDefines body loc passed
Reaches body loc (At d) s = Defines body d loc × ((passed : List ℕ) × Walk body d (d ∷ passed) s × NoneDefines body loc passed)

-- the order of definitions: Entry first, then sites ascending
abbrev pub Precedes : Def → Def → Type 0
Precedes x Entry = ⊥
Precedes Entry (At d) = Unit {0}
Precedes (At c) (At d) = c < d

-- exactly the definitions of the location that reach the site, each once, in order
pub record AreReaching (body : Body) (loc : ℤ) (site : ℕ) (defs : List Def) : Type 0 where
  pub reaching : (x : Def) → Contains defs x ↔ Reaches body loc x site
  pub in_order : AllPairs Precedes defs
