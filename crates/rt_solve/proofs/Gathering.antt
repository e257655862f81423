-- What holds of the lines of each list holds of the lines of all lists.
use Rattle.std.proofs.Common.{◌≡◌, zero, suc, ◌<◌, ◌⊎◌, inl, inr, List, [], ◌∷◌, ◌++◌, All, Contains, length, sym, subst, arith}
use Rattle.std.proofs.lemmas.List.Concat.{flat_map-cons}
use Rattle.std.proofs.lemmas.List.Elements.{All-append, Contains-append_cases}
use Rattle.rt_lines.specs.declared.variable.Base.TheVariants.{Global}
use Rattle.rt_lines.specs.declared.line.Line.{Line}
use Rattle.rt_elf.specs.Parts.{Parts as Object}
use Rattle.rt_rules.specs.Laws.{NamesBase}
use Rattle.rt_table.specs.Lists.{HasGlobalsOf}
use Rattle.rt_settle.specs.Groups.{joined}

joined-cons : (list : List Line) (lists : List (List Line)) → joined (list ∷ lists) ≡ list ++ joined lists
joined-cons list lists = flat_map-cons (λ l. l) list lists

pub All-joined : (P : Line → Type 0) (lists : List (List Line)) → All (All P) lists → All P (joined lists)
All-joined P [] all = λ k d lt. absurd (omega arith)
All-joined P (list ∷ lists) all =
    subst (All P) (sym (joined-cons list lists)) (All-append P list (joined lists) (all zero list (omega arith)) (All-joined P lists (λ k d lt. all (suc k) d (omega arith))))

pub globals-joined : (object : Object) (lists : List (List Line)) → All (HasGlobalsOf object) lists → HasGlobalsOf object (joined lists)
globals-joined object [] all number (l, x, (k, lt, e), side, base) = absurd (omega arith)
globals-joined object (list ∷ lists) all number (l, x, stands, side, base) =
    by (globals-joined object lists (λ k d lt. all (suc k) d (omega arith)) number)
    (Contains-append_cases list (joined lists) l (subst (λ lines. Contains lines l) (joined-cons list lists) stands))
  where
    by : (NamesBase (joined lists) (Global number) → number < length object.symbols) → Contains list l ⊎ Contains (joined lists) l → number < length object.symbols
    by rest (inl c) = all zero list (omega arith) number (l, x, c, side, base)
    by rest (inr c) = rest (l, x, c, side, base)
