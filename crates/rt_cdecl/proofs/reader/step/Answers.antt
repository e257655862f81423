use Rattle.std.proofs.Common.{rules, ◌≤◌, ◌^◌, length, inr, refl, subst, sym}
use Rattle.std.proofs.lemmas.Bool.{false≢true}
use Rattle.rt_cdecl.specs.Inside.Drafts.{Parts, Fits}
use Rattle.rt_cdecl.specs.Inside.Endings.{CanEnd, IsReached}
use Rattle.rt_cdecl.specs.Inside.Steps.{IsAllowed, parts_of}
use Rattle.rt_cdecl.proofs.Left.{sound_more}
use Rattle.rt_cdecl.proofs.Headers.{unread_line, refused_line, unended_line, reached_by, reached_more, few_more, told_bad, told_yes, told_no}
use Rattle.rt_cdecl.proofs.reader.step.Goals as goal

pub returns-in-Err-BadText-clause-refused : goal.returns-in-Err-BadText-clause-refused
returns-in-Err-BadText-clause-refused c =
    inr (refl, unread_line (parts_of c.args.draft.now) c.args.line.now (told_bad c.in-Err-BadText.field-0 _ c.in-Err-BadText.field-0-is c.in-Err-BadText.ensures))

pub returns-in-Ok-false-clause-refused : goal.returns-in-Ok-false-clause-refused
returns-in-Ok-false-clause-refused c =
    inr (
      refl,
      refused_line (parts_of c.args.draft.now) c.args.line.now c.in-Ok.row c.in-Ok.ensures.0 c.in-Ok.ensures.1
          (told_no {P = Fits (parts_of c.args.draft.now) c.in-Ok.row} c.in-Ok-false.field-0 c.in-Ok-false.field-0-test c.in-Ok-false.ensures),
    )

pub can_end-requires-clause-sound : goal.can_end-requires-clause-sound
can_end-requires-clause-sound c =
    sound_more c.args.draft.now c.in-Ok.row c.add.new.self (reached_by (parts_of c.args.draft.now) c.args.place c.requires.reached) c.in-Ok.ensures.0
    (told_yes {P = Fits (parts_of c.args.draft.now) c.in-Ok.row} c.in-Ok-true.field-0 c.in-Ok-true.field-0-test c.in-Ok-true.ensures)
    c.requires.sound c.in-Ok-add.ensures

pub can_end-requires-clause-reached : goal.can_end-requires-clause-reached
can_end-requires-clause-reached c =
    subst IsReached (sym c.in-Ok-add.ensures.0)
    (reached_more (parts_of c.args.draft.now) c.args.place c.in-Ok.row c.requires.reached c.in-Ok.ensures.0
    (told_yes {P = Fits (parts_of c.args.draft.now) c.in-Ok.row} c.in-Ok-true.field-0 c.in-Ok-true.field-0-test c.in-Ok-true.ensures))

pub can_end-requires-clause-few : goal.can_end-requires-clause-few
can_end-requires-clause-few c =
    subst (λ (p : Parts). length p.typedefs ≤ 2 ^ 30) (sym c.in-Ok-add.ensures.0)
    (few_more (parts_of c.args.draft.now) c.args.place c.in-Ok.row c.args.line.now c.in-Some.next c.requires.reached c.in-Ok.ensures.0 c.in-Ok.ensures.1 c.in-Some.ensures (search rules))

pub returns-then-not-can_end-clause-refused : goal.returns-then-not-can_end-clause-refused
returns-then-not-can_end-clause-refused c =
    inr (
      refl,
      unended_line (parts_of c.args.draft.now) c.args.line.now c.in-Ok.row (parts_of c.add.new.self) c.in-Ok.ensures.0 c.in-Ok.ensures.1 c.in-Ok-add.ensures.0
          (λ can. false≢true (c.if-not-can_end.ensures.1 can)),
    )

pub returns-clause-taken : goal.returns-clause-taken
returns-clause-taken c =
    let fits : Fits (parts_of c.args.draft.now) c.in-Ok.row = told_yes {P = Fits (parts_of c.args.draft.now) c.in-Ok.row} c.in-Ok-true.field-0 c.in-Ok-true.field-0-test c.in-Ok-true.ensures in
    let allowed : IsAllowed (parts_of c.args.draft.now) c.args.line.now = record {
      row = c.in-Ok.row;
      good = c.in-Ok.ensures.0;
      is = c.in-Ok.ensures.1;
      fits = fits;
      can = subst CanEnd c.in-Ok-add.ensures.0 (c.if-not-can_end.ensures.0 refl);
    } in
    record {
      allowed = allowed;
      parts = c.in-Ok-add.ensures.0;
      sound = sound_more c.args.draft.now c.in-Ok.row c.add.new.self (reached_by (parts_of c.args.draft.now) c.args.place c.requires.reached) c.in-Ok.ensures.0 fits c.requires.sound c.in-Ok-add.ensures;
    }
