-- Fields in a map, by offset and by width falling.
use Rattle.std.proofs.Common.{◌≡◌, ℕ, pos, ◌==◌, ◌&&◌, ◌||◌, nat_lt, Bool, true, false, cond, List, [], ◌∷◌, refl, sym, ap, ◌∙◌}
use Rattle.std.specs.BTreeMap.{insert_entry}
use Rattle.std.specs.Ordering.{is_lt, match_ordering, nat_cmp, ordering_then}
use Rattle.std.specs.declared.cmp.Ordering.{Ordering}
use Rattle.std.specs.declared.cmp.Ordering.TheVariants.{Less, Equal, Greater}
use Rattle.std.specs.declared.cmp.Reverse.{Reverse}
use Rattle.std.proofs.lemmas.Cmp.{ranked}
use Rattle.rt_lines.specs.declared.label.Label.TheVariants.{Field}
use Rattle.rt_erase.specs.declared.row.Row.{Row}
use Rattle.rt_erase.specs.Rows.{comes_before, label_of, with_row}
use Rattle.rt_erase.specs.Inside.Sorting.{Entry, row_in, rows_in, AreOthers}
use Rattle.rt_base.proofs.Numbers.{nat_cmp-equal, then-equal}

-- how two keys compare
abbrev pub key_cmp : ℕ × Reverse ℕ → ℕ × Reverse ℕ → Ordering
key_cmp x y = ordering_then (nat_cmp x.0 y.0) (nat_cmp y.1.0 x.1.0)

abbrev pub key_of : Row → ℕ × Reverse ℕ
key_of row = (row.offset, record { 0 = row.bits })

before_is : (less same shorter equal : Bool) → is_lt (ordering_then (cond less Less (cond same Equal Greater)) (cond shorter Less (cond equal Equal Greater))) ≡ (less || (same && shorter))
before_is true same shorter equal = refl
before_is false true true equal = refl
before_is false true false true = refl
before_is false true false false = refl
before_is false false shorter equal = refl

-- fields with one key have one label
one_label : (row : Row) (entry : Entry) → key_cmp (key_of row) entry.0 ≡ Equal → label_of (row_in entry) ≡ label_of row
one_label row entry e =
    let parts = then-equal (nat_cmp row.offset entry.0.0) (nat_cmp entry.0.1.0 row.bits) e in
    let offset : row.offset ≡ entry.0.0 = nat_cmp-equal row.offset entry.0.0 parts.0 in
    let bits : entry.0.1.0 ≡ row.bits = nat_cmp-equal entry.0.1.0 row.bits parts.1 in
    let place : entry.0.0 ≡ row.offset = sym offset in
    λ i. Field (bits i) (pos (place i))

-- a map has one field more, where none had its key
pub inserted : (row : Row) (entries : List Entry) → AreOthers (label_of row) (rows_in entries) → rows_in (insert_entry key_cmp entries (key_of row) row.node) ≡ with_row (rows_in entries) row
inserted row [] others = refl
inserted row (entry ∷ entries) others =
    by (key_cmp (key_of row) entry.0) refl (comes_before row (row_in entry)) (before_is (nat_lt row.offset entry.0.0) (row.offset == entry.0.0) (nat_lt entry.0.1.0 row.bits) (entry.0.1.0 == row.bits)) (inserted row entries others.1)
  where
    by : (o : Ordering) → key_cmp (key_of row) entry.0 ≡ o → (b : Bool) → is_lt (key_cmp (key_of row) entry.0) ≡ b →
        rows_in (insert_entry key_cmp entries (key_of row) row.node) ≡ with_row (rows_in entries) row →
        rows_in (match_ordering o ((key_of row, row.node) ∷ entry ∷ entries) ((entry.0, row.node) ∷ entries) (entry ∷ insert_entry key_cmp entries (key_of row) row.node))
        ≡ cond b (row ∷ row_in entry ∷ rows_in entries) (row_in entry ∷ with_row (rows_in entries) row)
    by Less e true f rest = refl
    by Less e false f rest = let clash : true ≡ false = sym (ap is_lt e) ∙ f in cc
    by Equal e b f rest = absurd (others.0 (one_label row entry e))
    by Greater e true f rest = let clash : false ≡ true = sym (ap is_lt e) ∙ f in cc
    by Greater e false f rest = ap (λ rows. row_in entry ∷ rows) rest
