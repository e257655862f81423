use Rattle.std.proofs.Common.{◌+◌, ◌<◌, List, All, [], ◌∷◌, ◌++◌, length, get_or, take, refl, sym, subst, rules}
use Rattle.std.proofs.lemmas.List.{take_more}
use Rattle.std.proofs.lemmas.List.Elements.{All-push}
use Rattle.rt_tree.specs.Trees.{Stand}
use Rattle.rt_erase.specs.declared.row.Row.{Row}
use Rattle.rt_cdecl.specs.declared.declarations.CField.{CField}
use Rattle.rt_cdecl.specs.Types.{IsField}
use Rattle.rt_header.specs.Inside.Built.{AreFieldsOf}
use Rattle.rt_header.specs.Met.{structs_of_fields}
use Rattle.rt_header.proofs.Growing.{more_chain, fields_more}
use Rattle.rt_header.proofs.Fields.{fields_pushed, fields_stand}
use Rattle.rt_header.proofs.structs.fields_of.Goals as goal

pub loop-row-preserved : goal.loop-row-preserved
loop-row-preserved c =
    let forest = c.args.forest.now in
    let rows = c.args.rows.now in
    let i = c.args.i in
    let k = c.loop-row.row-index in
    let old = c.args.making.now.structs.items in
    let mid = c.loop-row.making.structs.items in
    let new = c.type_of.new.self.structs.items in
    let fields = c.loop-row.fields.items in
    let d : Row = record { offset = 0; bits = 0; node = 0 } in
    let row : Row = get_or rows k d in
    let field : CField = record { offset = row.offset; kind = c.in_ok-kind.kind } in
    let less : k < length rows = search rules in
    let good = c.in_ok-kind.ensures.good in
    let is_row = c.requires.rows k d less in
    let items = c.in_ok-push.ensures.items in
    record {
      making = c.in_ok-kind.ensures.making;
      more = more_chain old mid new c.loop-row.invariant.more c.in_ok-kind.ensures.more;
      built =
          subst (AreFieldsOf forest new i (take (k + 1) rows)) (sym items)
          (subst (λ (rs : List Row). AreFieldsOf forest new i rs (fields ++ field ∷ [])) (sym (take_more rows k d less))
          (fields_pushed forest new i (take k rows) fields row field
          (fields_more forest mid new i (take k rows) fields c.in_ok-kind.ensures.more c.loop-row.invariant.built) refl c.in_ok-kind.ensures.is));
      good =
          subst (λ (fs : List CField). All IsField fs) (sym items)
          (All-push IsField fields field c.loop-row.invariant.good (good.0, good.1, is_row.offset));
      stands =
          subst (λ (fs : List CField). Stand (length old) (structs_of_fields fs) (length new)) (sym items)
          (fields_stand (length old) (length mid) (length new) fields field c.loop-row.invariant.stands c.in_ok-kind.ensures.stands);
    }
