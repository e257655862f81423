-- What a line makes of a draft, which is a header that is read in part.
use Rattle.std.specs.Prelude.{◌≡◌, ℕ, List, All, length}
use Rattle.rt_cdecl.specs.declared.declarations.CType.{CType}
use Rattle.rt_cdecl.specs.declared.draft.Draft.{Draft}
use Rattle.rt_cdecl.specs.Rows.{Row, Typedef, row_text, rows_text}
use Rattle.rt_cdecl.specs.GoodDecls.{named_types}
use Rattle.rt_cdecl.specs.Inside.GoodRows.{IsRow}
use Rattle.rt_cdecl.specs.Inside.Drafts.{Parts, no_parts, with_row, Fits, Accepts, Adds}
use Rattle.rt_cdecl.specs.Inside.Endings.{AreLeft, CanEnd, Drops, row_types}

-- what was read, without the types that are left
abbrev pub parts_of : Draft → Parts
parts_of draft = record {
  typedefs = draft.typedefs;
  named = draft.named;
  structs = draft.structs;
  functions = draft.functions;
  stage = draft.stage;
}

-- the types that are left are those that are listed and not used
abbrev pub IsSound : Draft → Type 0
IsSound draft = AreLeft draft.left (parts_of draft)

-- what a line does to the types that are left
abbrev pub Leaves : List CType → Row → List CType → Type 0
Leaves old (Typedef t) new = Adds old (named_types t) new
Leaves old row new = Drops old (row_types row) new

-- a draft with a line more
abbrev pub HasMore : Draft → Row → Draft → Type 0
HasMore old row new = (parts_of new ≡ with_row (parts_of old) row) × Leaves old.left row new.left

-- the parts of lines that may each follow those before them, which are so many bytes
pub record IsReachedAt (parts : Parts) (place : ℕ) : Type 0 where
  pub rows : List Row
  pub good : All IsRow rows
  pub accepted : Accepts no_parts rows parts
  pub placed : length (rows_text rows) ≡ place

-- a line with which a header's text goes on
pub record IsAllowed (parts : Parts) (line : List ℕ) : Type 0 where
  pub row : Row
  pub good : IsRow row
  pub is : row_text row ≡ line
  pub fits : Fits parts row
  pub can : CanEnd (with_row parts row)

-- such a line was read
pub record IsTaken (old : Draft) (line : List ℕ) (new : Draft) : Type 0 where
  pub allowed : IsAllowed (parts_of old) line
  pub parts : parts_of new ≡ with_row (parts_of old) allowed.row
  pub sound : IsSound new
