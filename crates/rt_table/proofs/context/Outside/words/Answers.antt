use Rattle.std.proofs.Common.{◌≡◌, length, get_or, sym, ap, subst, ◌∙◌, ◌<◌, ◌≤◌}
use Rattle.rt_table.proofs.Telling.{words-at, words-past}
use Rattle.rt_table.proofs.context.Outside.words.Goals as goal

pub returns-in-Some-clause-words : goal.returns-in-Some-clause-words
returns-in-Some-clause-words c =
    let facts = c.args.self.now.facts.now in
    let frames = facts.frames.items in
    let number = c.args.procedure in
    let framed = c.in-Some.framed.now in
    let is : framed ≡ get_or frames number framed = c.in-Some.ensures.lookup.1 ∙ ap (λ fs. get_or fs number framed) c.deref.ensures.value in
    let less : number < length frames = subst (λ fs. number < length fs) c.deref.ensures.value c.in-Some.ensures.lookup.3.0 in
    c.items.ensures ∙ ap (λ f. f.words) is
    ∙ sym (words-at facts.bodies.items facts.calls frames number framed facts.bodies_each facts.calls_each less)

pub returns-in-None-clause-words : goal.returns-in-None-clause-words
returns-in-None-clause-words c =
    let facts = c.args.self.now.facts.now in
    let frames = facts.frames.items in
    let past : length frames ≤ c.args.procedure = subst (λ fs. length fs ≤ c.args.procedure) c.deref.ensures.value c.in-None.ensures.lookup.3 in
    sym (words-past facts.bodies.items facts.calls frames c.args.procedure past)
