use Rattle.std.proofs.Common.{◌≡◌, ◌<◌, ◌++◌, ◌∷◌, [], Some, None, length, set, get_or, sym, subst, ◌∙◌, arith, rules}
use Rattle.std.proofs.lemmas.List.{get_or_read}
use Rattle.rt_header.specs.Inside.Built.{Structs, IsMaking, class_of}
use Rattle.rt_header.specs.Inside.Made.{IsNumberOf}
use Rattle.rt_header.proofs.Numbering.{known_number, more_making, next_number}
use Rattle.rt_header.proofs.making.Making.number_of.Goals as goal

pub returns-in-Some-clause-number : goal.returns-in-Some-clause-number
returns-in-Some-clause-number c =
    let numbers = c.args.self.now.numbers.items in
    let class = c.class-class.result in
    let within : class < length numbers = let each = c.requires.making.numbered.each in let inside = c.class-class.ensures.within in omega arith in
    let read : get_or numbers class None ≡ Some c.in-Some.number = sym (get_or_read numbers class c.index.result.now within c.index.ensures None) ∙ c.in-Some.is in
    let at : get_or numbers (class_of c.args.forest.now c.args.i c.args.node) None ≡ Some c.in-Some.number =
    subst (λ k. get_or numbers k None ≡ Some c.in-Some.number) c.class-class.ensures.class read in
    known_number c.args.forest.now c.args.self.now.structs.items numbers c.args.i c.args.node c.in-Some.number c.requires.making at

pub returns-clause-making : goal.returns-clause-making
returns-clause-making c =
    let forest = c.args.forest.now in
    let structs = c.args.self.now.structs.items in
    let numbers = c.args.self.now.numbers.items in
    let i = c.args.i in
    let node = c.args.node in
    let class = c.class-class.result in
    let number = c.len-number.result in
    let inside : class < length forest.erased.graph = c.class-class.ensures.within in
    let within : class < length numbers = let each = c.requires.making.numbered.each in omega arith in
    let free : get_or numbers class None ≡ None = sym (get_or_read numbers class c.index.result.now within c.index.ensures None) ∙ c.in_default.is in
    let same = c.class-class.ensures.class in
    let count : number ≡ length structs = search rules in
    let few : length structs < 4294967295 = let most = c.requires.making.few in let end = c.if-number.false in omega arith in
    let New : Structs = structs ++ (i, node) ∷ [] in
    subst (λ (s : Structs). IsMaking forest s (set numbers class (Some number))) (sym c.in_ok-push.ensures.items)
    (subst (λ k. IsMaking forest New (set numbers k (Some number))) (sym same)
    (subst (λ m. IsMaking forest New (set numbers (class_of forest i node) (Some m))) (sym count)
    (more_making forest structs numbers i node c.requires.making c.requires.node
    (subst (λ k. k < length forest.erased.graph) same inside)
    (subst (λ k. get_or numbers k None ≡ None) same free) few)))

pub returns-clause-number : goal.returns-clause-number
returns-clause-number c =
    let forest = c.args.forest.now in
    let structs = c.args.self.now.structs.items in
    let numbers = c.args.self.now.numbers.items in
    let i = c.args.i in
    let node = c.args.node in
    let class = c.class-class.result in
    let inside : class < length forest.erased.graph = c.class-class.ensures.within in
    let within : class < length numbers = let each = c.requires.making.numbered.each in omega arith in
    let free : get_or numbers class None ≡ None = sym (get_or_read numbers class c.index.result.now within c.index.ensures None) ∙ c.in_default.is in
    let same = c.class-class.ensures.class in
    let count : c.len-number.result ≡ length structs = search rules in
    subst (λ (s : Structs). IsNumberOf forest structs s i node c.len-number.result) (sym c.in_ok-push.ensures.items)
    (subst (IsNumberOf forest structs (structs ++ (i, node) ∷ []) i node) (sym count)
    (next_number forest structs numbers i node c.requires.making c.requires.node
    (subst (λ k. k < length forest.erased.graph) same inside)
    (subst (λ k. get_or numbers k None ≡ None) same free)))
