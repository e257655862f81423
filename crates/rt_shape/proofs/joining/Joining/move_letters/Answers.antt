use Rattle.std.proofs.Common.{◌≡◌, ℕ, ◌+◌, ◌-◌, ◌<◌, List, [], length, get_or, set, Contains, sym, ap, subst, ◌∙◌, arith}
use Rattle.std.specs.Prelude.{sum_by}
use Rattle.std.proofs.lemmas.List.Sums.{sum_by-set}
use Rattle.std.proofs.lemmas.List.Elements.{Contains-get_or}
use Rattle.rt_lines.specs.declared.label.Label.TheVariants.{In}
use Rattle.rt_lines.specs.declared.label.Loc.TheVariants.{Arg}
use Rattle.rt_shape.specs.Inside.Joins.{IsSound, work}
use Rattle.rt_shape.proofs.Sound.{taken, none_in, leads_on, sound-letters, sound-remove}
use Rattle.rt_shape.proofs.joining.Joining.move_letters.Goals as goal

-- a list taken out of a list of lists takes its length along
less_length : {X : Type 0} (xs : List (List X)) (c : ℕ) (ys out : List X) (n : ℕ) → ys ≡ [] → out ≡ get_or xs c [] → c < length xs → (n + sum_by length (set xs c ys)) + (length out - 0) ≡ n + sum_by length xs
less_length xs c ys out n e f less =
    let summed = sum_by-set length xs c ys [] less in
    let none : length ys ≡ 0 = ap length e in
    let all : length out ≡ length (get_or xs c []) = ap length f in
    omega arith

step : (new old n i whole : ℕ) → new ≡ old + 1 → old + (n - i) ≡ whole → i < n → new + (n - (i + 1)) ≡ whole
step new old n i whole e f less = omega arith

pub loop-letter-init : goal.loop-letter-init
loop-letter-init c =
    let s = c.args.self.now in
    let r = c.requires in
    let moved : c.items-letter-items.result.now ≡ get_or s.letters.items c.args.from [] =
    taken s.letters.items c.args.from r.0.count c.items-letter-items.result.now c.replace-moved.result c.index_mut.result.now c.items-letter-items.ensures c.replace-moved.ensures.value c.index_mut.ensures.value r.3 (sym r.2.letters_each) in
    let empty : c.replace-moved.new.dest ≡ [] = c.replace-moved.ensures.after ∙ c.new.ensures in
    record {
      moved = moved;
      sound = λ graph pairs sound one. sound-letters graph pairs s.class.items s.members.items s.letters.items s.first.entries s.todo.items sound c.args.from c.replace-moved.new.dest (λ l t h. absurd (none_in c.replace-moved.new.dest (l, t) empty h));
      work = less_length s.letters.items c.args.from c.replace-moved.new.dest c.items-letter-items.result.now (length s.todo.items) empty moved (subst (λ n. c.args.from < n) (sym r.2.letters_each) r.3);
    }

pub enter-requires : goal.enter-requires
enter-requires c =
    let r = c.requires in
    let s = c.loop-letter.self in
    let e = get_or c.items-letter-items.result.now c.loop-letter.letter-index (In (Arg 0), 0) in
    let here : Contains c.items-letter-items.result.now e = Contains-get_or c.items-letter-items.result.now c.loop-letter.letter-index (In (Arg 0), 0) (omega arith) in
    let there : Contains (get_or c.args.self.now.letters.items c.args.from []) e = subst (λ xs. Contains xs e) c.loop-letter.invariant.moved here in
    let now : IsSound r.0 r.1 s = c.loop-letter.invariant.sound r.0 r.1 r.2 r.5 in (
      r.0,
      r.1,
      sound-remove r.0 r.1 s.class.items s.members.items s.letters.items s.first.entries s.todo.items now c.args.from e.0 c.remove.new.self.entries c.remove.ensures.updates.0,
      r.4,
      leads_on r.0 r.1 c.args.from c.args.to e.0 e.1 r.5 (r.2.letters_lead c.args.from e.0 e.1 there),
    )

pub loop-letter-preserved : goal.loop-letter-preserved
loop-letter-preserved c =
    let s = c.loop-letter.self in
    let e = get_or c.items-letter-items.result.now c.loop-letter.letter-index (In (Arg 0), 0) in
    let here : Contains c.items-letter-items.result.now e = Contains-get_or c.items-letter-items.result.now c.loop-letter.letter-index (In (Arg 0), 0) (omega arith) in
    let there : Contains (get_or c.args.self.now.letters.items c.args.from []) e = subst (λ xs. Contains xs e) c.loop-letter.invariant.moved here in
    let more : work c.enter.new.self ≡ work s + 1 = c.in_ok-enter.ensures.work in
    let before : work s + (length c.items-letter-items.result.now - c.loop-letter.letter-index) ≡ work c.args.self.now = c.loop-letter.invariant.work in
    record {
      moved = c.loop-letter.invariant.moved;
      sound = λ graph pairs sound one.
          let now : IsSound graph pairs s = c.loop-letter.invariant.sound graph pairs sound one in
          let removed = sound-remove graph pairs s.class.items s.members.items s.letters.items s.first.entries s.todo.items now c.args.from e.0 c.remove.new.self.entries c.remove.ensures.updates.0 in
          c.in_ok-enter.ensures.sound graph pairs removed (leads_on graph pairs c.args.from c.args.to e.0 e.1 one (sound.letters_lead c.args.from e.0 e.1 there));
      work = step (work c.enter.new.self) (work s) (length c.items-letter-items.result.now) c.loop-letter.letter-index (work c.args.self.now) more before (omega arith);
    }
