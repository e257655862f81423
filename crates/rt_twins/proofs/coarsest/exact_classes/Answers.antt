use Rattle.std.proofs.Common.{◌≡◌, ℕ, List, unwrap_or, sym, ap, subst, ◌∙◌}
use Rattle.std.specs.BTreeMap.{get}
use Rattle.std.specs.Map.{lookup}
use Rattle.std.specs.Ordering.{is_eq, nat_cmp}
use Rattle.rt_lines.specs.declared.line.Line.{Line}
use Rattle.rt_refine.specs.declared.uses.Side.TheVariants.{Left, Right}
use Rattle.rt_refine.specs.Groups.{AreListed, class_of}
use Rattle.rt_refine.specs.Splits.{IsSplit}
use Rattle.rt_twins.specs.declared.parts.Part.TheVariants.{Both}
use Rattle.rt_twins.specs.Inside.Parts.{part_of}
use Rattle.rt_twins.proofs.Turning.{exact_first}
use Rattle.rt_twins.proofs.coarsest.exact_classes.Goals as goal

pub split-requires : goal.split-requires
split-requires c =
    subst (λ (lines : List Line). AreListed lines c.deref.result.now) (c.items.ensures ∙ sym c.items-2.ensures)
    (subst (λ (named : List ℕ). AreListed c.items.result.now named) (sym c.deref.ensures.value) c.in_ok-named.ensures)

pub split-requires-2 : goal.split-requires-2
split-requires-2 c =
    subst (λ (lines : List Line). AreListed lines c.deref-2.result.now) (c.items.ensures ∙ sym c.items-3.ensures)
    (subst (λ (named : List ℕ). AreListed c.items.result.now named) (sym c.deref-2.ensures.value) c.in_ok-named.ensures)

pub returns : goal.returns
returns c =
    let old = class_of (get nat_cmp c.args.classes.now) in
    let mid = class_of (get nat_cmp c.in_ok-lefts.lefts) in
    let new = class_of (get nat_cmp c.in_ok-rights.rights) in
    let both = part_of c.args.sign Both c.args.lines.now in
    let none = class_of (get nat_cmp c.new-none.result) in
    let alone : none ≡ (λ n. n) =
    λ i n. ap (λ (es : List (ℕ × ℕ)). unwrap_or (lookup (λ (k : ℕ). is_eq (nat_cmp n k)) es) n) c.new-none.ensures.empty i in
    exact_first c.args.sign c.args.lines.now old mid new c.in_ok-lefts.field-0-1 c.in_ok-rights.field-0-1 c.requires
    (subst (λ (m : ℕ → ℕ). IsSplit Left both m old mid c.in_ok-lefts.field-0-1) alone
    (subst (λ (ls : List Line). IsSplit Left ls none old mid c.in_ok-lefts.field-0-1) (c.items-2.ensures ∙ c.in_ok-both.ensures) c.in_ok-lefts.ensures))
    (subst (λ (m : ℕ → ℕ). IsSplit Right both m mid new c.in_ok-rights.field-0-1) alone
    (subst (λ (ls : List Line). IsSplit Right ls none mid new c.in_ok-rights.field-0-1) (c.items-3.ensures ∙ c.in_ok-both.ensures) c.in_ok-rights.ensures))
