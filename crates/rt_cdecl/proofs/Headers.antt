-- Texts of headers that are read line by line.
use Rattle.std.proofs.Common.{◌≡◌, ◌≢◌, ◌↔◌, IsTrue, ℕ, suc, Bool, true, false, ◌+◌, ◌*◌, ◌<◌, ◌≤◌, ◌^◌, ◌⊎◌, inl, inr, List, [], ◌∷◌, ◌++◌, All, map, fold, length, refl, ap, sym, subst, ◌∙◌, arith, append_assoc, append-nil, length-append, Contains}
use Rattle.std.specs.List.{flat_map}
use Rattle.std.specs.Bool.{◌==◌}
use Rattle.std.proofs.lemmas.Bool.{false≢true}
use Rattle.std.proofs.lemmas.Bool.Decides.{nat_tests}
use Rattle.std.proofs.lemmas.Grind.{flat_map-append}
use Rattle.std.proofs.lemmas.List.{append_cancel_left, length_push}
use Rattle.std.proofs.lemmas.List.Folds.{flat_map-map}
use Rattle.std.proofs.lemmas.List.Elements.{All-nil, All-head, All-tail, All-map, All-push, All-append, All-contains}
use Rattle.rt_base.specs.First.{entries}
use Rattle.rt_base.proofs.Lists.{All-from_contains, All-back, map-map}
use Rattle.rt_texts.specs.declared.fault.TextFault.{TextFault}
use Rattle.rt_texts.specs.declared.fault.TextFault.TheVariants.{BadText, Memory}
use Rattle.rt_texts.specs.Readings.{IsNoText, HasNo, IsCut}
use Rattle.rt_texts.proofs.Cuts.{one_cut}
use Rattle.rt_cdecl.specs.declared.declarations.CType.{CType}
use Rattle.rt_cdecl.specs.declared.declarations.CType.TheVariants.{Unused, Scalar, Pointer}
use Rattle.rt_cdecl.specs.Types.{IsTypedef}
use Rattle.rt_cdecl.specs.declared.declarations.CStruct.{CStruct}
use Rattle.rt_cdecl.specs.declared.declarations.CFunction.{CFunction}
use Rattle.rt_cdecl.specs.declared.declarations.Decls.{Decls}
use Rattle.rt_cdecl.specs.Rows.{Row, Typedef, Named, Opened, Gap, Member, Closed, Pair, Half, Stated, Nothing, Value, Both, row_text, rows_text, typedef_text}
use Rattle.rt_cdecl.specs.Texts.{struct_rows, function_rows, decls_rows, decls_text}
use Rattle.rt_cdecl.specs.GoodDecls.{IsGoodDecls, IsStruct, IsFunction, used_types, struct_numbers, function_numbers}
use Rattle.rt_cdecl.specs.Inside.GoodRows.{IsRow}
use Rattle.rt_cdecl.specs.HeaderReadings.{with_ends, IsFront, IsNoHeader, IsBadLine, IsFault}
use Rattle.rt_cdecl.specs.Inside.Endings.{CanEnd, IsReached}
use Rattle.rt_cdecl.specs.Inside.Drafts.{Stage, Idle, Parts, no_parts, with_row, Fits, IsWhole, decls_of, Accepts}
use Rattle.rt_cdecl.specs.Inside.Steps.{IsReachedAt, IsAllowed}
use Rattle.rt_cdecl.proofs.Clear.{row_clear}
use Rattle.rt_cdecl.proofs.OneRow.{one_row}
use Rattle.rt_cdecl.proofs.OneDecls.{decls_rows-good}
use Rattle.rt_cdecl.proofs.Ascending.{RisesFrom-increasing}
use Rattle.rt_cdecl.proofs.Runs.{accept_decls, ended}
use Rattle.rt_cdecl.proofs.Sound.{GivesSome, parts_rows, kept_start, accepted_rows, made}
use Rattle.rt_cdecl.proofs.Kept.{IsGood, good_start, good_all}

-- a text of lines that begins with lines goes on with a line
record IsNext (first rows : List Row) (line : List ℕ) : Type 0 where
  row : Row
  more : List Row
  good : IsRow row
  is : row_text row ≡ line
  whole : rows ≡ first ++ row ∷ more

no_empty : (a b : List ℕ) → a ++ 10 ∷ b ≡ [] → ⊥
no_empty [] b same = cc
no_empty (x ∷ a) b same = cc

no_end_in : (a b : List ℕ) → HasNo 10 (a ++ 10 ∷ b) → ⊥
no_end_in [] b clear = clear.0 refl
no_end_in (x ∷ a) b clear = no_end_in a b clear.1

rows_text-more : (row : Row) (rows : List Row) (rest : List ℕ) → rows_text (row ∷ rows) ++ rest ≡ row_text row ++ 10 ∷ (rows_text rows ++ rest)
rows_text-more row rows rest =
    append_assoc (row_text row ++ 10 ∷ []) (rows_text rows) rest ∙ append_assoc (row_text row) (10 ∷ []) (rows_text rows ++ rest)

one_first : (q r : Row) (a b : List ℕ) → IsRow q → IsRow r → row_text q ++ 10 ∷ a ≡ row_text r ++ 10 ∷ b → (q ≡ r) × (a ≡ b)
one_first q r a b g h same =
    let cut = one_cut 10 (row_text q) (10 ∷ a) (row_text r) (10 ∷ b) same (row_clear q g) refl (row_clear r h) refl in
    (one_row q r g h cut.0, append_cancel_left (10 ∷ []) a b cut.1)

next_row : (first rows : List Row) (line rest : List ℕ) → All IsRow first → All IsRow rows → HasNo 10 line → rows_text first ++ (line ++ 10 ∷ rest) ≡ rows_text rows → IsNext first rows line
next_row [] [] line rest g h clear same = absurd (no_empty line rest same)
next_row [] (r ∷ rows) line rest g h clear same =
    let good : IsRow r = All-head IsRow r rows h in
    let whole : line ++ 10 ∷ rest ≡ row_text r ++ 10 ∷ rows_text rows = same ∙ append_assoc (row_text r) (10 ∷ []) (rows_text rows) in
    let cut = one_cut 10 line (10 ∷ rest) (row_text r) (10 ∷ rows_text rows) whole clear refl (row_clear r good) refl in
    record { row = r; more = rows; good = good; is = sym cut.0; whole = refl }
next_row (q ∷ first) [] line rest g h clear same =
    absurd (no_empty (row_text q) (rows_text first ++ (line ++ 10 ∷ rest)) (sym (rows_text-more q first (line ++ 10 ∷ rest)) ∙ same))
next_row (q ∷ first) (r ∷ rows) line rest g h clear same =
    let whole : row_text q ++ 10 ∷ (rows_text first ++ (line ++ 10 ∷ rest)) ≡ row_text r ++ 10 ∷ rows_text rows = sym (rows_text-more q first (line ++ 10 ∷ rest)) ∙ (same ∙ append_assoc (row_text r) (10 ∷ []) (rows_text rows)) in
    let one = one_first q r (rows_text first ++ (line ++ 10 ∷ rest)) (rows_text rows) (All-head IsRow q first g) (All-head IsRow r rows h) whole in
    let next = next_row first rows line rest (All-tail IsRow q first g) (All-tail IsRow r rows h) clear one.1 in
    let both : r ∷ rows ≡ q ∷ (first ++ next.row ∷ next.more) = λ i. sym one.0 i ∷ next.whole i in
    record { row = next.row; more = next.more; good = next.good; is = next.is; whole = both }

-- a text of lines that begins with lines and goes on without a line end has just these lines
same_rows : (first rows : List Row) (rest : List ℕ) → All IsRow first → All IsRow rows → HasNo 10 rest → rows_text first ++ rest ≡ rows_text rows → (rest ≡ []) × (rows ≡ first)
same_rows [] [] rest g h clear same = (same, refl)
same_rows [] (r ∷ rows) rest g h clear same =
    absurd (no_end_in (row_text r) (rows_text rows) (subst (HasNo 10) (same ∙ append_assoc (row_text r) (10 ∷ []) (rows_text rows)) clear))
same_rows (q ∷ first) [] rest g h clear same =
    absurd (no_empty (row_text q) (rows_text first ++ rest) (sym (rows_text-more q first rest) ∙ same))
same_rows (q ∷ first) (r ∷ rows) rest g h clear same =
    let whole : row_text q ++ 10 ∷ (rows_text first ++ rest) ≡ row_text r ++ 10 ∷ rows_text rows = sym (rows_text-more q first rest) ∙ (same ∙ append_assoc (row_text r) (10 ∷ []) (rows_text rows)) in
    let one = one_first q r (rows_text first ++ rest) (rows_text rows) (All-head IsRow q first g) (All-head IsRow r rows h) whole in
    let tails = same_rows first rows rest (All-tail IsRow q first g) (All-tail IsRow r rows h) clear one.1 in
    let both : r ∷ rows ≡ q ∷ first = λ i. sym one.0 i ∷ tails.1 i in
    (tails.0, both)

-- lines that may follow one another
Accepts-row : (parts : Parts) (first : List Row) (row : Row) (more : List Row) (last : Parts) → Accepts parts (first ++ row ∷ more) last → Fits (fold with_row parts first) row
Accepts-row parts [] row more last all = all.0
Accepts-row parts (r ∷ first) row more last all = Accepts-row (with_row parts r) first row more last all.1

Accepts-last : (parts : Parts) (rows : List Row) (last : Parts) → Accepts parts rows last → fold with_row parts rows ≡ last
Accepts-last parts [] last all = all
Accepts-last parts (r ∷ rows) last all = Accepts-last (with_row parts r) rows last all.1

Accepts-push : (parts : Parts) (rows : List Row) (last : Parts) (row : Row) → Accepts parts rows last → Fits last row → Accepts parts (rows ++ row ∷ []) (with_row last row)
Accepts-push parts [] last row all fits = (subst (λ p. Fits p row) (sym all) fits, ap (λ p. with_row p row) all)
Accepts-push parts (r ∷ rows) last row all fits = (all.0, Accepts-push (with_row parts r) rows last row all.1 fits)

Accepts-rest : (parts : Parts) (first : List Row) (row : Row) (more : List Row) (last : Parts) → Accepts parts (first ++ row ∷ more) last → Accepts (with_row (fold with_row parts first) row) more last
Accepts-rest parts [] row more last all = all.1
Accepts-rest parts (r ∷ first) row more last all = Accepts-rest (with_row parts r) first row more last all.1

Accepts-append : (parts : Parts) (first : List Row) (mid : Parts) (rows : List Row) (last : Parts) → Accepts parts first mid → Accepts mid rows last → Accepts parts (first ++ rows) last
Accepts-append parts [] mid rows last all more = subst (λ p. Accepts p rows last) (sym all) more
Accepts-append parts (r ∷ first) mid rows last all more = (all.0, Accepts-append (with_row parts r) first mid rows last all.1 more)

-- lines stand before the rest of a text, which begins at this byte, and can be ended
pub record IsRead (text : List ℕ) (parts : Parts) (rest : List ℕ) (place : ℕ) : Type 0 where
  pub rows : List Row
  pub fine : All IsRow rows
  pub accepted : Accepts no_parts rows parts
  pub can : CanEnd parts
  pub joined : rows_text rows ++ rest ≡ text
  pub placed : length (rows_text rows) ≡ place

can_whole : (parts : Parts) → IsWhole parts → CanEnd parts
can_whole parts whole = record { rows = []; good = All-nil IsRow; last = parts; accepted = refl; whole = whole }

pub read_start : (text : List ℕ) → IsRead text no_parts text 0
read_start text = record { rows = []; fine = All-nil IsRow; accepted = refl; can = can_whole no_parts (refl, refl, All-nil (Contains [])); joined = refl; placed = refl }

rows_text-push : (rows : List Row) (row : Row) (rest : List ℕ) → rows_text (rows ++ row ∷ []) ++ rest ≡ rows_text rows ++ (row_text row ++ 10 ∷ rest)
rows_text-push rows row rest =
    ap (λ s. s ++ rest) (flat_map-append (λ (r : Row). row_text r ++ 10 ∷ []) rows (row ∷ []) ∙ ap (λ s. rows_text rows ++ s) (append-nil (row_text row ++ 10 ∷ [])))
    ∙ (append_assoc (rows_text rows) (row_text row ++ 10 ∷ []) rest ∙ ap (λ s. rows_text rows ++ s) (append_assoc (row_text row) (10 ∷ []) rest))

read_more : (text : List ℕ) (parts : Parts) (rest : List ℕ) (place : ℕ) (row : Row) (line more : List ℕ) → IsRead text parts rest place → IsCut 10 rest line (10 ∷ more) → IsRow row → row_text row ≡ line → Fits parts row → CanEnd (with_row parts row) → IsRead text (with_row parts row) more (place + length line + 1)
read_more text parts rest place row line more read cut good is fits can =
    let here : row_text row ++ 10 ∷ more ≡ rest = ap (λ s. s ++ 10 ∷ more) is ∙ sym cut.joined in
    let joined : rows_text (read.rows ++ row ∷ []) ++ more ≡ text = rows_text-push read.rows row more ∙ (ap (λ s. rows_text read.rows ++ s) here ∙ read.joined) in
    let all : length (rows_text (read.rows ++ row ∷ [])) + length more ≡ length text = sym (length-append (rows_text (read.rows ++ row ∷ [])) more) ∙ ap length joined in
    let old : length (rows_text read.rows) + length rest ≡ length text = sym (length-append (rows_text read.rows) rest) ∙ ap length read.joined in
    let this : length rest ≡ length line + suc (length more) = ap length cut.joined ∙ length-append line (10 ∷ more) in
    record {
      rows = read.rows ++ row ∷ [];
      fine = All-push IsRow read.rows row read.fine good;
      accepted = Accepts-push no_parts read.rows parts row read.accepted fits;
      can = can;
      joined = joined;
      placed = omega (arith, all, old, this, read.placed);
    }

-- with a line with which a header's text goes on
pub read_on : (text : List ℕ) (parts : Parts) (rest : List ℕ) (place : ℕ) (line more : List ℕ) (now : Parts) (next : ℕ) → IsRead text parts rest place → IsCut 10 rest line (10 ∷ more) → (allowed : IsAllowed parts line) → now ≡ with_row parts allowed.row → next ≡ place + length line + 1 → IsRead text now more next
read_on text parts rest place line more now next read cut allowed made after =
    subst (λ p. IsRead text p more next) (sym made)
    (subst (IsRead text (with_row parts allowed.row) more) (sym after)
    (read_more text parts rest place allowed.row line more read cut allowed.good allowed.is allowed.fits allowed.can))

-- the parts that lines make, with a line more
pub reached_at : (text : List ℕ) (parts : Parts) (rest : List ℕ) (place : ℕ) → IsRead text parts rest place → IsReachedAt parts place
reached_at text parts rest place read = record { rows = read.rows; good = read.fine; accepted = read.accepted; placed = read.placed }

pub reached_by : (parts : Parts) (place : ℕ) → IsReachedAt parts place → IsReached parts
reached_by parts place reached = record { rows = reached.rows; good = reached.good; accepted = reached.accepted }

pub reached_more : (parts : Parts) (place : ℕ) (row : Row) → IsReachedAt parts place → IsRow row → Fits parts row → IsReached (with_row parts row)
reached_more parts place row reached good fits =
    record { rows = reached.rows ++ row ∷ []; good = All-push IsRow reached.rows row reached.good good; accepted = Accepts-push no_parts reached.rows parts row reached.accepted fits }

-- the line of a type is longer than 3 bytes, so there are less than 2^30 types where the place is a u32
typedef_long : (t : CType) → IsTypedef t → 4 ≤ length (typedef_text t ++ 10 ∷ [])
typedef_long Unused good = omega arith
typedef_long (Pointer n) good = absurd good
typedef_long (Scalar name bits) good = omega arith

types_few : (parts : Parts) (row : Row) → IsRow row → 4 * length (with_row parts row).typedefs ≤ 4 * length parts.typedefs + length (row_text row ++ 10 ∷ [])
types_few parts (Typedef t) good = let long = typedef_long t good in let more : length (parts.typedefs ++ t ∷ []) ≡ length parts.typedefs + 1 = length_push parts.typedefs t in omega (arith, long, more)
types_few parts (Named n) good = omega arith
types_few parts (Opened n) good = omega arith
types_few parts (Gap k n) good = omega arith
types_few parts (Member field) good = omega arith
types_few parts Closed good = omega arith
types_few parts (Pair n) good = omega arith
types_few parts (Half r t) good = omega arith
types_few parts (Stated returns n args) good = omega arith

all_few : (parts : Parts) (rows : List Row) (last : Parts) → All IsRow rows → Accepts parts rows last → 4 * length last.typedefs ≤ 4 * length parts.typedefs + length (rows_text rows)
all_few parts [] last good all = let same : length parts.typedefs ≡ length last.typedefs = ap (λ (p : Parts). length p.typedefs) all in omega (arith, same)
all_few parts (row ∷ rows) last good all =
    let here = types_few parts row (All-head IsRow row rows good) in
    let rest = all_few (with_row parts row) rows last (All-tail IsRow row rows good) all.1 in
    let whole : length (rows_text (row ∷ rows)) ≡ length (row_text row ++ 10 ∷ []) + length (rows_text rows) = length-append (row_text row ++ 10 ∷ []) (rows_text rows) in
    omega (arith, here, rest, whole)

pub few_more : (parts : Parts) (place : ℕ) (row : Row) (line : List ℕ) (next : ℕ) → IsReachedAt parts place → IsRow row → row_text row ≡ line → next ≡ place + length line + 1 → next < 2 ^ 32 → length (with_row parts row).typedefs ≤ 2 ^ 30
few_more parts place row line next reached good is at small =
    let here = types_few parts row good in
    let before = all_few no_parts reached.rows parts reached.good reached.accepted in
    let placed : length (rows_text reached.rows) ≡ place = reached.placed in
    let long : length (row_text row ++ 10 ∷ []) ≡ length line + 1 = length_push (row_text row) 10 ∙ ap (λ l. length l + 1) is in
    omega (arith, here, before, placed, long, at, small)

-- the parts that declarations end with are whole
ended_whole : (decls : Decls) → IsGoodDecls decls → IsWhole (ended decls)
ended_whole decls good = (refl, refl, All-from_contains (Contains (used_types decls.structs decls.functions)) decls.typedefs (λ t. (good.exact t).0))

before_text : (rows : List Row) → with_ends (map row_text rows) ≡ rows_text rows
before_text rows = flat_map-map (λ (line : List ℕ). line ++ 10 ∷ []) row_text rows

with_ends-push : (lines : List (List ℕ)) (line rest : List ℕ) → with_ends (lines ++ line ∷ []) ++ rest ≡ with_ends lines ++ (line ++ 10 ∷ rest)
with_ends-push lines line rest =
    ap (λ s. s ++ rest) (flat_map-append (λ (l : List ℕ). l ++ 10 ∷ []) lines (line ∷ []) ∙ ap (λ s. with_ends lines ++ s) (append-nil (line ++ 10 ∷ [])))
    ∙ (append_assoc (with_ends lines) (line ++ 10 ∷ []) rest ∙ ap (λ s. with_ends lines ++ s) (append_assoc line (10 ∷ []) rest))

front_allowed : (text : List ℕ) (parts : Parts) (rest : List ℕ) (place : ℕ) (line : List ℕ) (read : IsRead text parts rest place) → HasNo 10 line → IsFront (with_ends (map row_text read.rows ++ line ∷ [])) → IsAllowed parts line
front_allowed text parts rest place line read clear front =
    let whole : rows_text read.rows ++ (line ++ 10 ∷ front.rest) ≡ rows_text (decls_rows front.decls) =
    ap (λ s. s ++ (line ++ 10 ∷ front.rest)) (sym (before_text read.rows)) ∙ (sym (with_ends-push (map row_text read.rows) line front.rest) ∙ front.joined) in
    let next = next_row read.rows (decls_rows front.decls) line front.rest read.fine (decls_rows-good front.decls front.good) clear whole in
    let all = subst (λ rows. Accepts no_parts rows (ended front.decls)) next.whole (accept_decls front.decls front.good) in
    let fits : Fits (fold with_row no_parts read.rows) next.row = Accepts-row no_parts read.rows next.row next.more (ended front.decls) all in
    let more : Accepts (with_row (fold with_row no_parts read.rows) next.row) next.more (ended front.decls) = Accepts-rest no_parts read.rows next.row next.more (ended front.decls) all in
    let goods : All IsRow (next.row ∷ next.more) = All-back IsRow read.rows (next.row ∷ next.more) (subst (All IsRow) next.whole (decls_rows-good front.decls front.good)) in
    let at : fold with_row no_parts read.rows ≡ parts = Accepts-last no_parts read.rows parts read.accepted in
    record {
      row = next.row;
      good = next.good;
      is = next.is;
      fits = subst (λ p. Fits p next.row) at fits;
      can = record {
        rows = next.more;
        good = All-tail IsRow next.row next.more goods;
        last = ended front.decls;
        accepted = subst (λ p. Accepts (with_row p next.row) next.more (ended front.decls)) at more;
        whole = ended_whole front.decls front.good;
      };
    }

-- a text that was read to its end
some_given : (row : Row) → IsRow row → GivesSome row
some_given (Typedef t) good = tt
some_given (Named n) good = tt
some_given (Opened n) good = tt
some_given (Gap k n) good = tt
some_given (Member field) good = tt
some_given Closed good = tt
some_given (Pair n) good = tt
some_given (Half r t) good = tt
some_given (Stated Nothing n args) good = tt
some_given (Stated (Value t) n args) good = good.0.1
some_given (Stated Both n args) good = tt

all_given : (rows : List Row) → All IsRow rows → All GivesSome rows
all_given rows fine k d lt = some_given _ (fine k d lt)

whole_good : (ts : List CType) (named : ℕ) (ss : List CStruct) (fs : List CFunction) → IsGood (made ts named ss fs Idle) → length ss ≡ named → All (Contains (used_types ss fs)) ts → IsGoodDecls (record { typedefs = ts; structs = ss; functions = fs })
whole_good ts named ss fs good count used =
    record {
      typedefs = good.typedefs;
      typedefs_rise = good.typedefs_rise;
      exact = λ t. (λ h. All-contains (Contains (used_types ss fs)) ts t used h, λ h. All-contains (Contains ts) (used_types ss fs) t good.listed h);
      structs = subst (λ n. All (IsStruct n) ss) (sym count) good.structs;
      numbered = good.numbered;
      few = subst (λ n. n ≤ 2 ^ 32) (sym count) good.small;
      functions = subst (λ n. All (IsFunction n) fs) (sym count) good.functions;
      functions_rise = RisesFrom-increasing 0 (function_numbers fs) good.functions_rise;
    }

whole_rows : (ts : List CType) (named : ℕ) (ss : List CStruct) (fs : List CFunction) → struct_numbers ss ≡ entries (λ n. n) 0 (length ss) → length ss ≡ named → parts_rows (made ts named ss fs Idle) ≡ decls_rows (record { typedefs = ts; structs = ss; functions = fs })
whole_rows ts named ss fs numbered count =
    let names : map Named (entries (λ n. n) 0 named) ≡ map (λ (s : CStruct). Named s.number) ss =
    ap (λ n. map Named (entries (λ k. k) 0 n)) (sym count) ∙ (ap (map Named) (sym numbered) ∙ map-map (λ (s : CStruct). s.number) Named ss) in
    ap (λ r. map Typedef ts ++ (map Named (entries (λ n. n) 0 named) ++ (flat_map struct_rows ss ++ r))) (append-nil (flat_map function_rows fs))
    ∙ ap (λ r. map Typedef ts ++ (r ++ (flat_map struct_rows ss ++ flat_map function_rows fs))) names

whole_made : (text : List ℕ) (ts : List CType) (named : ℕ) (ss : List CStruct) (fs : List CFunction) (stage : Stage) (place : ℕ) → IsRead text (made ts named ss fs stage) [] place → IsWhole (made ts named ss fs stage) → IsGoodDecls (record { typedefs = ts; structs = ss; functions = fs }) × (decls_text (record { typedefs = ts; structs = ss; functions = fs }) ≡ text)
whole_made text ts named ss fs stage place read whole =
    let idle : Accepts no_parts read.rows (made ts named ss fs Idle) = subst (λ s. Accepts no_parts read.rows (made ts named ss fs s)) whole.0 read.accepted in
    let good : IsGood (made ts named ss fs Idle) = good_all no_parts read.rows (made ts named ss fs Idle) good_start read.fine idle in
    let rows : parts_rows (made ts named ss fs Idle) ≡ read.rows = accepted_rows no_parts read.rows (made ts named ss fs Idle) kept_start (all_given read.rows read.fine) idle in
    (whole_good ts named ss fs good whole.1 whole.2, ap rows_text (sym (whole_rows ts named ss fs good.numbered whole.1) ∙ rows) ∙ (sym (append-nil (rows_text read.rows)) ∙ read.joined))

pub whole_text : (text : List ℕ) (parts : Parts) (rest : List ℕ) (place : ℕ) → IsRead text parts rest place → rest ≡ [] → IsWhole parts → IsGoodDecls (decls_of parts) × (decls_text (decls_of parts) ≡ text)
whole_text text parts rest place read none whole =
    whole_made text parts.typedefs parts.named parts.structs parts.functions parts.stage place (subst (λ r. IsRead text parts r place) none read) whole

-- lines that can be ended begin a header's text
front_read : (text : List ℕ) (parts : Parts) (rest : List ℕ) (place : ℕ) (read : IsRead text parts rest place) → IsFront (with_ends (map row_text read.rows))
front_read text parts rest place read =
    let can = read.can in
    let rows : List Row = read.rows ++ can.rows in
    let all : IsRead (rows_text rows) can.last [] (length (rows_text rows)) = record {
      rows = rows;
      fine = All-append IsRow read.rows can.rows read.fine can.good;
      accepted = Accepts-append no_parts read.rows parts can.rows can.last read.accepted can.accepted;
      can = can_whole can.last can.whole;
      joined = append-nil (rows_text rows);
      placed = refl;
    } in
    let made = whole_text (rows_text rows) can.last [] (length (rows_text rows)) all refl can.whole in
    record {
      decls = decls_of can.last;
      good = made.0;
      rest = rows_text can.rows;
      joined = ap (λ s. s ++ rows_text can.rows) (before_text read.rows) ∙ (sym (flat_map-append (λ (r : Row). row_text r ++ 10 ∷ []) read.rows can.rows) ∙ sym made.1);
    }

-- a line that is bad
bad_line : (text : List ℕ) (parts : Parts) (rest : List ℕ) (place : ℕ) (line more : List ℕ) → IsRead text parts rest place → IsCut 10 rest line (10 ∷ more) → (IsAllowed parts line → ⊥) → IsBadLine text place
bad_line text parts rest place line more read cut bad =
    record {
      before = map row_text read.rows;
      rest = rest;
      each = All-map (HasNo 10) row_text read.rows (λ k d lt. row_clear _ (read.fine k d lt));
      joined = ap (λ s. s ++ rest) (before_text read.rows) ∙ read.joined;
      placed = ap length (before_text read.rows) ∙ read.placed;
      begins = front_read text parts rest place read;
      bad = inr (line, more, cut, λ front. bad (front_allowed text parts rest place line read cut.clear front));
    }

pub fault_of : (text : List ℕ) (parts : Parts) (rest : List ℕ) (place : ℕ) (line more : List ℕ) (fault : TextFault) → IsRead text parts rest place → IsCut 10 rest line (10 ∷ more) → (fault ≡ Memory) ⊎ ((fault ≡ BadText place) × (IsAllowed parts line → ⊥)) → IsFault text fault
fault_of text parts rest place line more fault read cut why = elim why [
  | inl memory ↦ subst (IsFault text) (sym memory) tt
  | inr told ↦ subst (IsFault text) (sym told.0) (bad_line text parts rest place line more read cut told.1)
]

-- a line with which no header's text goes on
pub unread_line : (parts : Parts) (line : List ℕ) → IsNoText IsRow row_text line → IsAllowed parts line → ⊥
unread_line parts line none allowed = none allowed.row allowed.good allowed.is

pub refused_line : (parts : Parts) (line : List ℕ) (row : Row) → IsRow row → row_text row ≡ line → (Fits parts row → ⊥) → IsAllowed parts line → ⊥
refused_line parts line row good is refused allowed =
    refused (subst (Fits parts) (one_row allowed.row row allowed.good good (allowed.is ∙ sym is)) allowed.fits)

pub unended_line : (parts : Parts) (line : List ℕ) (row : Row) (now : Parts) → IsRow row → row_text row ≡ line → now ≡ with_row parts row → (CanEnd now → ⊥) → IsAllowed parts line → ⊥
unended_line parts line row now good is made never allowed =
    never (subst CanEnd (sym made) (subst (λ r. CanEnd (with_row parts r)) (one_row allowed.row row allowed.good good (allowed.is ∙ sym is)) allowed.can))

-- a text whose end is bad
ends_whole : (text : List ℕ) (parts : Parts) (rest : List ℕ) (place : ℕ) (decls : Decls) → IsRead text parts rest place → HasNo 10 rest → IsGoodDecls decls → decls_text decls ≡ text → (rest ≡ []) × IsWhole parts
ends_whole text parts rest place decls read clear good is =
    let same = same_rows read.rows (decls_rows decls) rest read.fine (decls_rows-good decls good) clear (read.joined ∙ sym is) in
    let last : fold with_row no_parts (decls_rows decls) ≡ ended decls = Accepts-last no_parts (decls_rows decls) (ended decls) (accept_decls decls good) in
    let are : ended decls ≡ parts = sym last ∙ (ap (fold with_row no_parts) same.1 ∙ Accepts-last no_parts read.rows parts read.accepted) in
    (same.0, subst IsWhole are (ended_whole decls good))

bad_end : (text : List ℕ) (parts : Parts) (rest : List ℕ) (place : ℕ) → IsRead text parts rest place → HasNo 10 rest → ((rest ≡ []) × IsWhole parts → ⊥) → IsBadLine text place
bad_end text parts rest place read clear bad =
    record {
      before = map row_text read.rows;
      rest = rest;
      each = All-map (HasNo 10) row_text read.rows (λ k d lt. row_clear _ (read.fine k d lt));
      joined = ap (λ s. s ++ rest) (before_text read.rows) ∙ read.joined;
      placed = ap length (before_text read.rows) ∙ read.placed;
      begins = front_read text parts rest place read;
      bad = inl (clear, λ decls good is. bad (ends_whole text parts rest place decls read clear good is));
    }

pub cut_line : (text : List ℕ) (parts : Parts) (rest : List ℕ) (place : ℕ) → IsRead text parts rest place → HasNo 10 rest → rest ≢ [] → IsBadLine text place
cut_line text parts rest place read clear some = bad_end text parts rest place read clear (λ (w : (rest ≡ []) × IsWhole parts). some w.0)

pub unfinished_text : (text : List ℕ) (parts : Parts) (rest : List ℕ) (place : ℕ) → IsRead text parts rest place → HasNo 10 rest → (IsWhole parts → ⊥) → IsBadLine text place
unfinished_text text parts rest place read clear part = bad_end text parts rest place read clear (λ (w : (rest ≡ []) × IsWhole parts). part w.1)

-- a text with a bad line is no header's
no_header : (text : List ℕ) (place : ℕ) → IsBadLine text place → IsNoHeader text
no_header text place bad = by bad.bad
  where
    by : (HasNo 10 bad.rest × IsNoHeader text) ⊎ ((line more : List ℕ) × IsCut 10 bad.rest line (10 ∷ more) × (IsFront (with_ends (bad.before ++ line ∷ [])) → ⊥)) → IsNoHeader text
    by (inl end) = end.1
    by (inr (line, more, cut, off)) = λ decls good is. off (record {
      decls = decls;
      good = good;
      rest = more;
      joined = with_ends-push bad.before line more ∙ (ap (λ s. with_ends bad.before ++ s) (sym cut.joined) ∙ (bad.joined ∙ sym is));
    })

pub refused_by : (text : List ℕ) (fault : TextFault) → IsFault text fault → (fault ≡ Memory) ⊎ IsNoHeader text
refused_by text (BadText place) bad = inr (no_header text place bad)
refused_by text Memory bad = inl refl

-- a fault of a line that isn't out of memory tells why
pub told_bad : {X : Type 0} (fault : TextFault) (n : ℕ) → fault ≡ BadText n → (fault ≡ Memory) ⊎ ((fault ≡ BadText 0) × X) → X
told_bad fault n is (inl memory) = let clash : BadText n ≡ Memory = sym is ∙ memory in cc
told_bad fault n is (inr told) = told.1

-- a text's rest by the test of its length
some_length : (n : ℕ) → false ≡ (n == 0) → n ≡ 0 → ⊥
some_length n test zero_is = grind (arith, nat_tests)

no_length : (n : ℕ) → true ≡ (n == 0) → n ≡ 0
no_length n test = grind (arith, nat_tests)

pub some_rest : (rest : List ℕ) → false ≡ (length rest == 0) → rest ≢ []
some_rest rest test none = some_length (length rest) test (ap length none)

pub no_rest : (rest : List ℕ) → true ≡ (length rest == 0) → rest ≡ []
no_rest [] test = refl
no_rest (b ∷ rest) test = let none : length (b ∷ rest) ≡ 0 = no_length (length (b ∷ rest)) test in absurd (omega (arith, none))

-- what a test told
pub told_yes : {P : Type 0} (b : Bool) → b ≡ true → IsTrue b ↔ P → P
told_yes b test both = both.0 test

pub told_no : {P : Type 0} (b : Bool) → b ≡ false → IsTrue b ↔ P → P → ⊥
told_no b test both p = false≢true (sym test ∙ both.1 p)
