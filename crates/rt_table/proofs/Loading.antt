-- What the definitions of a word of the frame itself bring.
use Rattle.std.proofs.Common.{◌≡◌, ◌≢◌, ◌≤◌, ℕ, ℤ, Bool, true, false, cond, nat_eq, List, [], ◌++◌, length, take, flat_map, refl, sym, ap, ◌∙◌, arith}
use Rattle.std.proofs.lemmas.List.{take_all}
use Rattle.std.proofs.lemmas.Bool.Decides.{nat_tests}
use Rattle.rt_flow.specs.declared.def.Def.{Def}
use Rattle.rt_rows.specs.declared.row.Row.{Row}
use Rattle.rt_rows.specs.declared.row.Term.{Term}
use Rattle.rt_table.specs.Table.{Context, definition, load_word, word_defs, word_flow}

-- those of all definitions that reach it
pub word_flows-end : (context : Context) (site : ℕ) (k : ℤ) (y : Term) (old rows : List Row) (defs items : List Def) (n : ℕ)
    → defs ≡ word_defs context site k → items ≡ defs → length items ≤ n → rows ≡ old ++ flat_map (word_flow context k y) (take n items)
    → rows ≡ old ++ flat_map (word_flow context k y) (word_defs context site k)
word_flows-end context site k y old rows defs items n e f all h = h ∙ ap (λ ds. old ++ flat_map (word_flow context k y) ds) (take_all n items all ∙ f ∙ e)

-- they are the rows of a load into a register but x0
pub load_word-is : (context : Context) (site to : ℕ) (k : ℤ) (y : Term) (old : List Row) → to ≢ 0 → y ≡ definition context site to
    → old ++ flat_map (word_flow context k y) (word_defs context site k) ≡ old ++ load_word context site to k
load_word-is context site to k y old some e =
    ap (λ x. old ++ flat_map (word_flow context k x) (word_defs context site k)) e
    ∙ ap (λ b. old ++ cond b [] (flat_map (word_flow context k (definition context site to)) (word_defs context site k))) (sym not_zero)
  where
    not_zero : nat_eq to 0 ≡ false
    not_zero = grind (arith, nat_tests)
