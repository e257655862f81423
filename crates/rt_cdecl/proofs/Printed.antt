-- Lines as they are printed one after another.
use Rattle.std.proofs.Common.{codes, ◌≡◌, ℕ, List, [], ◌∷◌, ◌++◌, drop, append_assoc}
use Rattle.std.proofs.lemmas.Grind.{flat_map-append}
use Rattle.rt_cdecl.specs.declared.declarations.CField.{CField}
use Rattle.rt_cdecl.specs.Rows.{Row, row_text, rows_text}
use Rattle.rt_cdecl.specs.Texts.{fields_rows}
use Rattle.rt_cdecl.specs.GoodDecls.{FitFrom}

-- the text of some lines and of others
pub rows_text-append : (rows more : List Row) → rows_text (rows ++ more) ≡ rows_text rows ++ rows_text more
rows_text-append rows more = flat_map-append (λ (row : Row). row_text row ++ 10 ∷ []) rows more

-- fields of which so many are printed, from the end of these on
pub record AreBegun (fields : List CField) (k from : ℕ) (before now : List ℕ) : Type 0 where
  pub fit : FitFrom from (drop k fields)
  pub same : now ++ rows_text (fields_rows from (drop k fields)) ≡ before ++ rows_text (fields_rows 0 fields)

-- the line of a scalar, in parts
pub scalar_line : (before one two three carried scalar : List ℕ) → one ≡ before ++ (codes "typedef unsigned " ++ (carried ++ codes " ")) → two ≡ one ++ scalar → three ≡ two ++ codes ";" → three ≡ before ++ (codes "typedef unsigned " ++ (carried ++ (codes " " ++ (scalar ++ codes ";"))))
scalar_line before one two three carried scalar h1 h2 h3 = rw (h3, h2, h1) (simp append_assoc)
