-- Lines as they are read.
use Rattle.std.proofs.Common.{◌≡◌, ◌≢◌, ℕ, ◌≤◌, ◌↔◌, List, [], ◌∷◌, ◌++◌, Bool, IsTrue, get_or, refl, ap, sym, subst, ◌∙◌, arith, codes, decimal}
use Rattle.std.proofs.lemmas.Fmt.{decimal_injective}
use Rattle.std.proofs.lemmas.List.{append_cancel_left, append_cancel_right}
use Rattle.rt_lines.specs.declared.label.Loc.{Loc}
use Rattle.rt_texts.specs.declared.fault.TextFault.{TextFault}
use Rattle.rt_texts.specs.declared.fault.TextFault.TheVariants.{BadText, Memory}
use Rattle.rt_texts.specs.Goods.{IsNumber}
use Rattle.rt_texts.specs.Readings.{IsNoText, IsCut}
use Rattle.rt_texts.proofs.Cuts.{one_cut}
use Rattle.rt_cdecl.specs.declared.declarations.CType.{CType}
use Rattle.rt_cdecl.specs.declared.declarations.CType.TheVariants.{Unused, Scalar, Pointer}
use Rattle.rt_cdecl.specs.declared.declarations.CField.{CField}
use Rattle.rt_cdecl.specs.Types.{IsType, IsWidth, IsTypedef, IsWide, IsField}
use Rattle.rt_cdecl.specs.Rows.{Row, Typedef, Named, Opened, Gap, Member, Closed, Pair, Half, Stated, Returns, carrier_text, typedef_text, type_text, args_text, returns_text, row_text}
use Rattle.rt_cdecl.specs.Inside.GoodRows.{IsReturned, IsRow, IsStructLine}
use Rattle.rt_cdecl.specs.Inside.Guesses.{StopsDigits}
use Rattle.rt_cdecl.proofs.OneRow.{clear_carrier, typedef_tail, stated_tail, group_of, byte_group, row_group, one_typedef, one_row, no_gap}

-- a number before a fixed text
pub number_one : (n m : ℕ) (back text : List ℕ) → IsNumber n → decimal n ++ back ≡ text → IsNumber m × (decimal m ++ back ≡ text) → m ≡ n
number_one n m back text small same (less, is) = decimal_injective m n (omega arith) (omega arith) (append_cancel_right (decimal m) (decimal n) back (is ∙ sym same))

pub number_in : (front : List ℕ) (n m : ℕ) (back text : List ℕ) → IsNumber n → front ++ (decimal n ++ back) ≡ text → IsNumber m × (front ++ (decimal m ++ back) ≡ text) → m ≡ n
number_in front n m back text small same (less, is) = number_one n m back (decimal n ++ back) small refl (less, append_cancel_left front (decimal m ++ back) (decimal n ++ back) (is ∙ sym same))

-- a scalar's line, of what stands after `typedef unsigned `
pub record IsScalarLine (t : CType) (back : List ℕ) : Type 0 where
  pub name : List ℕ
  pub bits : ℕ
  pub good : IsType (Scalar name bits)
  pub is : Scalar name bits ≡ t
  pub back_is : back ≡ codes " rt_" ++ ((name ++ 95 ∷ decimal bits) ++ codes ";")

pub scalar_line_of : (t : CType) (text front back : List ℕ) → (text ≡ codes "int rt_unused;" → ⊥) → IsCut 32 text front back → IsTypedef t → typedef_text t ≡ codes "typedef unsigned " ++ text → IsScalarLine t back
scalar_line_of Unused text front back off cut good same = absurd (off (sym (append_cancel_left (codes "typedef unsigned ") (codes "int rt_unused;") text same)))
scalar_line_of (Pointer n) text front back off cut good same = absurd good
scalar_line_of (Scalar name bits) text front back off cut good same =
    let whole : carrier_text bits ++ 32 ∷ typedef_tail name bits ≡ text = append_cancel_left (codes "typedef unsigned ") (carrier_text bits ++ 32 ∷ typedef_tail name bits) text same in
    let parts = one_cut 32 (carrier_text bits) (32 ∷ typedef_tail name bits) front back (whole ∙ cut.joined) (clear_carrier bits good.1) refl cut.clear cut.stops in
    record { name = name; bits = bits; good = good; is = refl; back_is = sym parts.1 }

pub unused_line : (t : CType) (text : List ℕ) → text ≡ codes "int rt_unused;" → IsTypedef t → typedef_text t ≡ codes "typedef unsigned " ++ text → Typedef Unused ≡ Typedef t
unused_line t text is good same =
    let one : Unused ≡ t = one_typedef Unused t tt good (sym (same ∙ ap (λ s. codes "typedef unsigned " ++ s) is)) in
    λ i. Typedef (one i)

pub named_of : (t : CType) (back rest named : List ℕ) (line : IsScalarLine t back) → back ≡ codes " rt_" ++ rest → rest ≡ named ++ codes ";" → line.name ++ 95 ∷ decimal line.bits ≡ named
named_of t back rest named line is ends =
    append_cancel_right (line.name ++ 95 ∷ decimal line.bits) named (codes ";")
    (append_cancel_left (codes " rt_") ((line.name ++ 95 ∷ decimal line.bits) ++ codes ";") rest (sym line.back_is ∙ is) ∙ ends)

pub no_rest : (t : CType) (back : List ℕ) → IsScalarLine t back → ((rest : List ℕ) → back ≢ codes " rt_" ++ rest) → ⊥
no_rest t back line off = off ((line.name ++ 95 ∷ decimal line.bits) ++ codes ";") line.back_is

pub no_semicolon : (t : CType) (back rest : List ℕ) → IsScalarLine t back → back ≡ codes " rt_" ++ rest → ((front : List ℕ) → rest ≢ front ++ codes ";") → ⊥
no_semicolon t back rest line is off =
    off (line.name ++ 95 ∷ decimal line.bits) (sym (append_cancel_left (codes " rt_") ((line.name ++ 95 ∷ decimal line.bits) ++ codes ";") rest (sym line.back_is ∙ is)))

pub typedef_is : (t : CType) (back rest named : List ℕ) (kind : CType) → IsScalarLine t back → back ≡ codes " rt_" ++ rest → rest ≡ named ++ codes ";" → ((name : List ℕ) (bits : ℕ) → IsWidth bits → name ++ 95 ∷ decimal bits ≡ named → kind ≡ Scalar name bits) → Typedef kind ≡ Typedef t
typedef_is t back rest named kind line is ends reads =
    let one : kind ≡ t = reads line.name line.bits line.good.1 (named_of t back rest named line is ends) ∙ line.is in
    λ i. Typedef (one i)

pub typedef_fault : {X : Type 0} (t : CType) (back rest named : List ℕ) → IsScalarLine t back → back ≡ codes " rt_" ++ rest → rest ≡ named ++ codes ";" → ((name : List ℕ) (bits : ℕ) → IsWidth bits → name ++ 95 ∷ decimal bits ≡ named → X) → X
typedef_fault t back rest named line is ends reads = reads line.name line.bits line.good.1 (named_of t back rest named line is ends)

-- a gap
pub gap_is : (k n from count : ℕ) (text back rest : List ℕ) → IsNumber n → (from ≡ k) × (back ≡ codes "[" ++ (decimal n ++ codes "];")) → back ≡ codes "[" ++ rest → IsNumber count × (decimal count ++ codes "];" ≡ rest) → Gap from count ≡ Gap k n
gap_is k n from count text back rest small (one, goes) is read =
    let two : count ≡ n = number_one n count (codes "];") rest small (append_cancel_left (codes "[") (decimal n ++ codes "];") rest (sym goes ∙ is)) read in
    λ i. Gap (one i) (two i)

pub no_count : (k n from : ℕ) (back rest : List ℕ) → IsNumber n → (from ≡ k) × (back ≡ codes "[" ++ (decimal n ++ codes "];")) → back ≡ codes "[" ++ rest → IsNoText IsNumber (λ m. decimal m ++ codes "];") rest → ⊥
no_count k n from back rest small (one, goes) is none = none n small (append_cancel_left (codes "[") (decimal n ++ codes "];") rest (sym goes ∙ is))

-- a field, and a result in a pair
pub member_is : (field : CField) (kind : CType) (offset : ℕ) (rest : List ℕ) → IsField field → (kind ≡ field.kind) × (rest ≡ codes "m" ++ (decimal field.offset ++ codes ";")) → IsNumber offset × (codes "m" ++ (decimal offset ++ codes ";") ≡ rest) → Member (record { offset = offset; kind = kind }) ≡ Member field
member_is field kind offset rest good (one, goes) read =
    let two : offset ≡ field.offset = number_in (codes "m") field.offset offset (codes ";") rest (let low = good.2 in omega arith) (sym goes) read in
    λ i. Member (record { offset = two i; kind = one i })

pub half_is : (r s : ℕ) (t kind : CType) (rest : List ℕ) → r ≤ 1 → (kind ≡ t) × (rest ≡ codes "a" ++ (decimal r ++ codes ";")) → IsNumber s × (codes "a" ++ (decimal s ++ codes ";") ≡ rest) → Half s kind ≡ Half r t
half_is r s t kind rest low (one, goes) read =
    let two : s ≡ r = number_in (codes "a") r s (codes ";") rest (omega arith) (sym goes) read in
    λ i. Half (two i) (one i)

-- a function
pub stated_number : (n : ℕ) (args : List (Loc × CType)) (rest numbered : List ℕ) → rest ≡ stated_tail n args → rest ≡ codes "f" ++ numbered → decimal n ++ (codes "(" ++ (args_text args ++ codes ");")) ≡ numbered
stated_number n args rest numbered is begins = append_cancel_left (codes "f") (decimal n ++ (codes "(" ++ (args_text args ++ codes ");"))) numbered (sym is ∙ begins)

-- what the parts that were read tell
abbrev ReturnsTaken : List ℕ → Returns → List ℕ → Type 0
ReturnsTaken text gives rest = (returns : Returns) (n : ℕ) (more : List ℕ) → IsReturned returns → IsNumber n → returns_text n returns ++ more ≡ text → (gives ≡ returns) × (rest ≡ more)

abbrev NumberTaken : List ℕ → ℕ → List ℕ → Type 0
NumberTaken text m rest = (n : ℕ) (more : List ℕ) → IsNumber n → StopsDigits more → decimal n ++ more ≡ text → (m ≡ n) × (rest ≡ more)

pub stated_reads : (text : List ℕ) (gives : Returns) (m : ℕ) (rest numbered back listed : List ℕ) → ReturnsTaken text gives rest → rest ≡ codes "f" ++ numbered → NumberTaken numbered m back → back ≡ codes "(" ++ listed → (returns : Returns) (n : ℕ) (args : List (Loc × CType)) → IsRow (Stated returns n args) → row_text (Stated returns n args) ≡ text → (gives ≡ returns) × (m ≡ n) × (args_text args ++ codes ");" ≡ listed)
stated_reads text gives m rest numbered back listed returned begins number opens returns n args good same =
    let first = returned returns n (stated_tail n args) good.0 good.1 same in
    let second = number n (codes "(" ++ (args_text args ++ codes ");")) good.1 refl (stated_number n args rest numbered first.1 begins) in
    (first.0, second.0, append_cancel_left (codes "(") (args_text args ++ codes ");") listed (sym second.1 ∙ opens))

pub stated_is : (returns gives : Returns) (n m : ℕ) (args more : List (Loc × CType)) → gives ≡ returns → m ≡ n → more ≡ args → Stated gives m more ≡ Stated returns n args
stated_is returns gives n m args more a b c = λ i. Stated (a i) (b i) (c i)

-- which lines begin so
group_is : (row : Row) (b : ℕ) (text : List ℕ) → IsRow row → row_text row ≡ text → get_or text 0 0 ≡ b → byte_group b ≡ group_of row
group_is row b text good same begins = ap byte_group (sym begins) ∙ (ap (λ s. byte_group (get_or s 0 0)) (sym same) ∙ row_group row good)

pub typedef_row : (R : Row → Type 0) (row : Row) (text rest : List ℕ) → text ≡ codes "typedef unsigned " ++ rest → IsRow row → row_text row ≡ text → ((t : CType) → IsTypedef t → typedef_text t ≡ codes "typedef unsigned " ++ rest → R (Typedef t)) → R row
typedef_row R row text rest is good same reads = by row good same (group_is row 116 text good same (ap (λ s. get_or s 0 0) is))
  where
    by : (row : Row) → IsRow row → row_text row ≡ text → 0 ≡ group_of row → R row
    by (Typedef t) g s e = reads t g (s ∙ is)
    by (Named n) g s e = absurd (omega arith)
    by (Opened n) g s e = absurd (omega arith)
    by (Gap k n) g s e = absurd (omega arith)
    by (Member field) g s e = absurd (omega arith)
    by Closed g s e = absurd (omega arith)
    by (Pair n) g s e = absurd (omega arith)
    by (Half r t) g s e = absurd (omega arith)
    by (Stated returns n args) g s e = absurd (omega arith)

pub gap_row : (R : Row → Type 0) (row : Row) (text rest : List ℕ) → text ≡ codes "  unsigned char p" ++ rest → IsRow row → row_text row ≡ text → ((k n : ℕ) → IsNumber k → IsNumber n → decimal k ++ (codes "[" ++ (decimal n ++ codes "];")) ≡ rest → R (Gap k n)) → R row
gap_row R row text rest is good same reads = by row good same (group_is row 32 text good same (ap (λ s. get_or s 0 0) is))
  where
    by : (row : Row) → IsRow row → row_text row ≡ text → 2 ≡ group_of row → R row
    by (Typedef t) g s e = absurd (omega arith)
    by (Named n) g s e = absurd (omega arith)
    by (Opened n) g s e = absurd (omega arith)
    by (Gap k n) g s e = reads k n g.0 g.1 (append_cancel_left (codes "  unsigned char p") _ rest (s ∙ is))
    by (Member field) g s e = absurd (no_gap field.kind _ rest (s ∙ is))
    by Closed g s e = absurd (omega arith)
    by (Pair n) g s e = absurd (omega arith)
    by (Half r t) g s e = absurd (no_gap t _ rest (s ∙ is))
    by (Stated returns n args) g s e = absurd (omega arith)

pub field_row : (R : Row → Type 0) (row : Row) (text rest : List ℕ) → text ≡ codes "  " ++ rest → ((more : List ℕ) → text ≢ codes "  unsigned char p" ++ more) → IsRow row → row_text row ≡ text → ((field : CField) → IsField field → type_text field.kind ++ (codes "m" ++ (decimal field.offset ++ codes ";")) ≡ rest → R (Member field)) → ((r : ℕ) (t : CType) → (r ≤ 1) × IsWide t → type_text t ++ (codes "a" ++ (decimal r ++ codes ";")) ≡ rest → R (Half r t)) → R row
field_row R row text rest is off good same reads halves = by row good same (group_is row 32 text good same (ap (λ s. get_or s 0 0) is))
  where
    by : (row : Row) → IsRow row → row_text row ≡ text → 2 ≡ group_of row → R row
    by (Typedef t) g s e = absurd (omega arith)
    by (Named n) g s e = absurd (omega arith)
    by (Opened n) g s e = absurd (omega arith)
    by (Gap k n) g s e = absurd (off (decimal k ++ (codes "[" ++ (decimal n ++ codes "];"))) (sym s))
    by (Member field) g s e = reads field g (append_cancel_left (codes "  ") _ rest (s ∙ is))
    by Closed g s e = absurd (omega arith)
    by (Pair n) g s e = absurd (omega arith)
    by (Half r t) g s e = halves r t g (append_cancel_left (codes "  ") _ rest (s ∙ is))
    by (Stated returns n args) g s e = absurd (omega arith)

struct_row-good : (row : Row) → IsStructLine row → IsRow row
struct_row-good (Named n) good = good
struct_row-good (Opened n) good = good
struct_row-good (Pair n) good = good
struct_row-good (Typedef t) good = absurd good
struct_row-good (Gap k n) good = absurd good
struct_row-good (Member field) good = absurd good
struct_row-good Closed good = absurd good
struct_row-good (Half r t) good = absurd good
struct_row-good (Stated returns n args) good = absurd good

pub struct_row : (row other : Row) (text : List ℕ) → IsStructLine other × (row_text other ≡ text) → IsRow row → row_text row ≡ text → other ≡ row
struct_row row other text (line, is) good same = one_row other row (struct_row-good other line) good (is ∙ sym same)

pub closed_row : (row : Row) (text : List ℕ) → text ≡ codes "};" → IsRow row → row_text row ≡ text → Closed ≡ row
closed_row row text is good same = one_row Closed row tt good (sym (same ∙ is))

no_typedef : (t : CType) (text : List ℕ) → IsTypedef t → typedef_text t ≡ text → ((rest : List ℕ) → text ≢ codes "typedef unsigned " ++ rest) → ⊥
no_typedef Unused text good same off = off (codes "int rt_unused;") (sym same)
no_typedef (Scalar name bits) text good same off = off (carrier_text bits ++ 32 ∷ typedef_tail name bits) (sym same)
no_typedef (Pointer n) text good same off = absurd good

pub stated_row_of : (R : Row → Type 0) (row : Row) (text : List ℕ) → (text ≡ codes "};" → ⊥) → ((rest : List ℕ) → text ≢ codes "typedef unsigned " ++ rest) → ((rest : List ℕ) → text ≢ codes "  " ++ rest) → IsNoText IsStructLine row_text text → IsRow row → row_text row ≡ text → ((returns : Returns) (n : ℕ) (args : List (Loc × CType)) → IsRow (Stated returns n args) → row_text (Stated returns n args) ≡ text → R (Stated returns n args)) → R row
stated_row_of R (Typedef t) text a b c d good same reads = absurd (no_typedef t text good same b)
stated_row_of R (Named n) text a b c d good same reads = absurd (d (Named n) good same)
stated_row_of R (Opened n) text a b c d good same reads = absurd (d (Opened n) good same)
stated_row_of R (Gap k n) text a b c d good same reads = absurd (c (codes "unsigned char p" ++ (decimal k ++ (codes "[" ++ (decimal n ++ codes "];")))) (sym same))
stated_row_of R (Member field) text a b c d good same reads = absurd (c (type_text field.kind ++ (codes "m" ++ (decimal field.offset ++ codes ";"))) (sym same))
stated_row_of R Closed text a b c d good same reads = absurd (a (sym same))
stated_row_of R (Pair n) text a b c d good same reads = absurd (d (Pair n) good same)
stated_row_of R (Half r t) text a b c d good same reads = absurd (c (type_text t ++ (codes "a" ++ (decimal r ++ codes ";"))) (sym same))
stated_row_of R (Stated returns n args) text a b c d good same reads = reads returns n args good same

-- a line that is printed again
pub printed_is : (row : Row) (text printed front : List ℕ) (b : Bool) → printed ≡ [] ++ (row_text row ++ 10 ∷ []) → printed ≡ front ++ codes "\n" → IsTrue b ↔ (front ≡ text) → IsTrue b ↔ (row_text row ≡ text)
printed_is row text printed front b is ends tells =
    let one : front ≡ row_text row = append_cancel_right front (row_text row) (10 ∷ []) (sym ends ∙ is) in
    (λ h. sym one ∙ tells.0 h, λ h. tells.1 (one ∙ h))

pub no_printed : (row : Row) (printed : List ℕ) → printed ≡ [] ++ (row_text row ++ 10 ∷ []) → ((front : List ℕ) → printed ≢ front ++ codes "\n") → ⊥
no_printed row printed is off = off (row_text row) is

-- a text whose line is none
pub guess_fault : (text : List ℕ) (fault : TextFault) → ((row : Row) → IsRow row → row_text row ≡ text → fault ≡ Memory) → (fault ≡ BadText 0 → IsNoText IsRow row_text text)
guess_fault text fault reads is row good same = let clash : BadText 0 ≡ Memory = sym is ∙ reads row good same in cc

pub not_row : (guess : Row) (text : List ℕ) → ((row : Row) → IsRow row → row_text row ≡ text → guess ≡ row) → (IsRow guess → ⊥) → IsNoText IsRow row_text text
not_row guess text reads off row good same = off (subst IsRow (sym (reads row good same)) good)

pub other_text : (guess : Row) (text : List ℕ) → ((row : Row) → IsRow row → row_text row ≡ text → guess ≡ row) → (row_text guess ≡ text → ⊥) → IsNoText IsRow row_text text
other_text guess text reads off row good same = off (ap row_text (reads row good same) ∙ same)
