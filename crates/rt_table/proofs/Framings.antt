-- What is known of the procedures of an object, by their bodies, calls and frames.
use Rattle.std.proofs.Common.{◌≡◌, ◌<◌, ◌≤◌, ◌+◌, ◌↔◌, ◌⊎◌, inl, inr, ℕ, zero, suc, Option, Some, None, List, [], ◌∷◌, ◌++◌, length, map, get_or, refl, sym, ap, subst, ◌∙◌, arith}
use Rattle.std.specs.Prelude.{All, Contains, slice_get}
use Rattle.std.proofs.lemmas.Bool.{cases_lt}
use Rattle.std.proofs.lemmas.List.{get_or-map, get_or_append_left, get_or_default, get_or_push, length-map}
use Rattle.rt_elf.specs.Parts.{Parts as Object}
use Rattle.rt_proc.specs.declared.proc.Proc.{Proc}
use Rattle.rt_body.specs.declared.body.Body.{Body}
use Rattle.rt_body.specs.Readings.{Reading}
use Rattle.rt_body.specs.Right.{IsReading}
use Rattle.rt_body.specs.Told.{reading_of, sites_in}
use Rattle.rt_liveness.specs.declared.call.Call.{Call}
use Rattle.rt_liveness.specs.Calls.{AreCallsOf}
use Rattle.rt_liveness.specs.Programs.{Program, IsProgram}
use Rattle.rt_liveness.specs.Told.{program_of}
use Rattle.rt_sigs.specs.Signatures.{Signature}
use Rattle.rt_frame.specs.Told.{frame_of, frame_sites}
use Rattle.rt_table.specs.declared.facts.Framed.{Framed}
use Rattle.rt_table.specs.Facts.{AreKnown, IsKnown, Knowledge, knowledge_of}
use Rattle.rt_table.specs.Inside.Framing.{AreFramed, AreReadings, IsFramed}
use Rattle.std.proofs.lemmas.Option.{slice_get-get_or}

-- what is known by a body, the calls of its sites and its frame
abbrev pub known_by : Body → List (List Call) → Framed → Knowledge
known_by body here framed = record { reading = reading_of body; calls = here; frame = frame_of framed.frame; words = framed.words }

pub knowledge-at : (bodies : List Body) (calls : List (List (List Call))) (frames : List Framed) (q : ℕ) (known : Knowledge) (body : Body) (framed : Framed)
    → q < length bodies → length calls ≡ length bodies → length frames ≡ length bodies
    → get_or (knowledge_of bodies calls frames) q known ≡ known_by (get_or bodies q body) (get_or calls q []) (get_or frames q framed)
knowledge-at [] calls frames q known body framed less c f = absurd (omega arith)
knowledge-at (b ∷ bodies) [] frames q known body framed less c f = absurd (omega arith)
knowledge-at (b ∷ bodies) (here ∷ calls) [] q known body framed less c f = absurd (omega arith)
knowledge-at (b ∷ bodies) (here ∷ calls) (g ∷ frames) zero known body framed less c f = refl
knowledge-at (b ∷ bodies) (here ∷ calls) (g ∷ frames) (suc q) known body framed less c f =
    knowledge-at bodies calls frames q known body framed (omega arith) (omega arith) (omega arith)

pub length-knowledge : (bodies : List Body) (calls : List (List (List Call))) (frames : List Framed) → length calls ≡ length bodies → length frames ≡ length bodies
    → length (knowledge_of bodies calls frames) ≡ length bodies
length-knowledge [] calls frames c f = refl
length-knowledge (b ∷ bodies) [] frames c f = absurd (omega arith)
length-knowledge (b ∷ bodies) (here ∷ calls) [] c f = absurd (omega arith)
length-knowledge (b ∷ bodies) (here ∷ calls) (g ∷ frames) c f = ap suc (length-knowledge bodies calls frames (omega arith) (omega arith))

-- what is known of the procedure of a number
pub knowledge-here : (bodies : List Body) (calls : List (List (List Call))) (frames : List Framed) (q : ℕ) (body : Body) (here d : List (List Call)) (framed : Framed)
    → q < length bodies → length calls ≡ length bodies → length frames ≡ length bodies → body ≡ get_or bodies q body → here ≡ get_or calls q d → framed ≡ get_or frames q framed
    → slice_get (knowledge_of bodies calls frames) q ≡ Some (known_by body here framed)
knowledge-here bodies calls frames q body here d framed less c f body_is here_is framed_is =
    let known = known_by body here framed in
    slice_get-get_or (knowledge_of bodies calls frames) q known (omega (arith, length-knowledge bodies calls frames c f))
    ∙ ap Some (knowledge-at bodies calls frames q known body framed less c f
    ∙ ap (λ b. known_by b (get_or calls q []) (get_or frames q framed)) (sym body_is)
    ∙ ap (λ h. known_by body h (get_or frames q framed)) (get_or_default calls q [] d (omega (arith, c)) ∙ sym here_is)
    ∙ ap (λ g. known_by body here g) (sym framed_is))

-- an element of a list that has one at a place
pub element : {X : Type 0} (xs : List X) (i : ℕ) → i < length xs → X
element [] i less = absurd (omega arith)
element (x ∷ xs) i less = x

-- the bodies make a program
pub readings-program : (object : Object) (procs : List Proc) (bodies : List Body) (signatures : List Signature) → AreReadings object procs bodies → IsProgram (program_of object procs bodies signatures)
readings-program object procs bodies signatures are = record {
  one_each = length-map bodies reading_of ∙ are.one_each;
  readings = λ q proc reading less.
      let within : q < length bodies = omega (arith, are.one_each) in
      let body = element bodies q within in
      subst (IsReading object (get_or procs q proc)) (sym (get_or-map reading_of bodies q body reading within)) (are.each q proc body less);
}

module _ (object : Object) (procs : List Proc) (bodies : List Body) (calls : List (List (List Call))) (signatures : List Signature) where
  abbrev program : Program
  program = program_of object procs bodies signatures

  module _ (frames : List Framed) (told : AreCallsOf program calls) (framed : AreFramed bodies calls frames) (readings : AreReadings object procs bodies) where
    calls_each : length calls ≡ length bodies
    calls_each = told.one_each ∙ sym readings.one_each

    -- what is known of each procedure
    pub are-known : AreKnown program (knowledge_of bodies calls frames)
    are-known = record {
      is_program = readings-program object procs bodies signatures readings;
      one_each = length-knowledge bodies calls frames calls_each framed.one_each ∙ readings.one_each;
      each = λ q proc knowledge less. known_at q proc knowledge (omega (arith, length-knowledge bodies calls frames calls_each framed.one_each));
    }
      where
        known_at : (q : ℕ) (proc : Proc) (knowledge : Knowledge) → q < length bodies → IsKnown program q (get_or procs q proc) (get_or (knowledge_of bodies calls frames) q knowledge)
        known_at q proc knowledge within =
            let body = element bodies q within in
            let frame = element frames q (omega (arith, framed.one_each)) in
            let here = framed.each q body frame within in
            subst (IsKnown program q (get_or procs q proc)) (sym (knowledge-at bodies calls frames q knowledge body frame within calls_each framed.one_each))
            (record {
              reading = slice_get-get_or (map reading_of bodies) q (reading_of body) (omega (arith, length-map bodies reading_of)) ∙ ap Some (get_or-map reading_of bodies q body (reading_of body) within);
              calls = told.each q proc (omega (arith, calls_each));
              frame = here.frame;
              words_ascending = here.words_ascending;
              words = here.words;
            })

-- One more, of one for each.

-- a procedure more
pub each-more : {X Y : Type 0} (P : X → Y → Type 0) (xs : List X) (items new : List Y) (i : ℕ) (x : X) (one : Y) → i < length xs → x ≡ get_or xs i x → length items ≡ i
    → ((k : ℕ) (p : X) (q : Y) → k < i → P (get_or xs k p) (get_or items k q)) → P x one → new ≡ items ++ one ∷ []
    → (k : ℕ) (p : X) (q : Y) → k < i + 1 → P (get_or xs k p) (get_or new k q)
each-more {X} {Y} P xs items new i x one less at long before now new_is k p q under =
    subst (λ ys. P (get_or xs k p) (get_or ys k q)) (sym new_is) (by (cases_lt k i))
  where
    by : (k < i) ⊎ (i ≤ k) → P (get_or xs k p) (get_or (items ++ one ∷ []) k q)
    by (inl h) = subst (λ y. P (get_or xs k p) y) (sym (get_or_append_left items (one ∷ []) q k (omega arith))) (before k p q h)
    by (inr h) =
        let same : k ≡ i = omega arith in
        let here : get_or xs i p ≡ x = get_or_default xs i p x less ∙ sym at in
        subst (λ n. P (get_or xs n p) (get_or (items ++ one ∷ []) n q)) (sym same)
        (subst (λ y. P (get_or xs i p) y) (sym (get_or_push items one q i long)) (subst (λ y. P y one) (sym here) now))

-- a frame more
pub framed-more : (bodies : List Body) (calls : List (List (List Call))) (frames new : List Framed) (i : ℕ) (body : Body) (here : List (List Call)) (framed : Framed)
    → i < length bodies → i < length calls → body ≡ get_or bodies i body → here ≡ get_or calls i here → length frames ≡ i
    → ((k : ℕ) (b : Body) (f : Framed) → k < i → IsFramed (get_or bodies k b) (get_or calls k []) (get_or frames k f)) → IsFramed body here framed → new ≡ frames ++ framed ∷ []
    → (k : ℕ) (b : Body) (f : Framed) → k < i + 1 → IsFramed (get_or bodies k b) (get_or calls k []) (get_or new k f)
framed-more bodies calls frames new i body here framed less less_c at at_c long before now new_is k b f under =
    subst (λ fs. IsFramed (get_or bodies k b) (get_or calls k []) (get_or fs k f)) (sym new_is) (by (cases_lt k i))
  where
    by : (k < i) ⊎ (i ≤ k) → IsFramed (get_or bodies k b) (get_or calls k []) (get_or (frames ++ framed ∷ []) k f)
    by (inl h) = subst (IsFramed (get_or bodies k b) (get_or calls k [])) (sym (get_or_append_left frames (framed ∷ []) f k (omega arith))) (before k b f h)
    by (inr h) =
        let same : k ≡ i = omega arith in
        let body_is : get_or bodies i b ≡ body = get_or_default bodies i b body less ∙ sym at in
        let calls_are : get_or calls i [] ≡ here = get_or_default calls i [] here less_c ∙ sym at_c in
        subst (λ n. IsFramed (get_or bodies n b) (get_or calls n []) (get_or (frames ++ framed ∷ []) n f)) (sym same)
        (subst (IsFramed (get_or bodies i b) (get_or calls i [])) (sym (get_or_push frames framed f i long))
        (subst (λ y. IsFramed y (get_or calls i []) framed) (sym body_is) (subst (λ cs. IsFramed body cs framed) (sym calls_are) now)))

-- one number for each, the same
pub maps-same : {X Y : Type 0} (f : X → ℕ) (g : Y → ℕ) (xs : List X) (ys : List Y) → length xs ≡ length ys
    → ((q : ℕ) (x : X) (y : Y) → q < length ys → f (get_or xs q x) ≡ g (get_or ys q y)) → map f xs ≡ map g ys
maps-same f g [] [] e h = refl
maps-same f g [] (y ∷ ys) e h = absurd (omega arith)
maps-same f g (x ∷ xs) [] e h = absurd (omega arith)
maps-same f g (x ∷ xs) (y ∷ ys) e h =
    ap (λ n. n ∷ map f xs) (h 0 x y (omega arith)) ∙ ap (λ ns. g y ∷ ns) (maps-same f g xs ys (omega arith) (λ q a b less. h (suc q) a b (omega arith)))

pub maps-at : {X Y : Type 0} (f : X → ℕ) (g : Y → ℕ) (xs : List X) (ys : List Y) (q : ℕ) (x : X) (y : Y) → map f xs ≡ map g ys → q < length xs → q < length ys
    → x ≡ get_or xs q x → y ≡ get_or ys q y → f x ≡ g y
maps-at f g xs ys q x y e less_x less_y at_x at_y =
    ap f at_x ∙ sym (get_or-map f xs q x 0 less_x) ∙ ap (λ ns. get_or ns q 0) e ∙ get_or-map g ys q y 0 less_y ∙ ap g (sym at_y)
