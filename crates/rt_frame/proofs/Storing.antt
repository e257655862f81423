-- Bytes that stores define.
use Rattle.std.proofs.Common.{◌≡◌, ◌+◌, ◌<◌, ℕ, zero, suc, ℤ, pos, ◌+ℤ◌, List, [], ◌∷◌, ◌++◌, map, take, length, sym, ap, ◌∙◌, add-one, append_assoc, append-nil, arith}
use Rattle.std.proofs.lemmas.Int.{ints}
use Rattle.std.proofs.lemmas.List.{map-append, take_more, length-take-le}
use Rattle.rt_flow.specs.Bodies.{Body}
use Rattle.rt_body.specs.declared.action.Action.{Action}
use Rattle.rt_body.specs.declared.action.Action.TheVariants as action
use Rattle.rt_body.specs.Readings.{Reading, action_at}
use Rattle.rt_frame.specs.Frames.{Layout, byte_at, bytes_from, bytes_defined, frame_definitions_from}

bytes_snoc : (k : ℤ) (n : ℕ) → bytes_from k (suc n) ≡ bytes_from k n ++ byte_at (k +ℤ pos n) ∷ []
bytes_snoc k zero =
    let same : k ≡ k +ℤ pos 0 = omega (arith, ints) in
    ap (λ a. byte_at a ∷ []) same
bytes_snoc k (suc n) =
    let same : (k +ℤ pos 1) +ℤ pos n ≡ k +ℤ pos (suc n) = omega (arith, ints) in
    ap (λ bytes. byte_at k ∷ bytes) (bytes_snoc (k +ℤ pos 1) n ∙ ap (λ a. bytes_from (k +ℤ pos 1) n ++ byte_at a ∷ []) same)

-- after one more definition of a site
more : (site : ℕ) (g g0 new : Body) (bytes : List ℤ) (loc : ℤ) → g ≡ record g0 { defs = g0.defs ++ map (λ byte. (site, byte)) bytes }
    → new ≡ record g { defs = g.defs ++ (site, loc) ∷ [] } → new ≡ record g0 { defs = g0.defs ++ map (λ byte. (site, byte)) (bytes ++ loc ∷ []) }
more site g g0 new bytes loc before step =
    let defs : (g0.defs ++ map (λ byte. (site, byte)) bytes) ++ (site, loc) ∷ [] ≡ g0.defs ++ map (λ byte. (site, byte)) (bytes ++ loc ∷ []) = append_assoc g0.defs (map (λ byte. (site, byte)) bytes) ((site, loc) ∷ []) ∙ ap (λ more. g0.defs ++ more) (sym (map-append (λ byte. (site, byte)) bytes (loc ∷ []))) in
    step ∙ (ap (λ (b : Body). record b { defs = b.defs ++ (site, loc) ∷ [] }) before ∙ ap (λ defs. record g0 { defs = defs }) defs)

pub bytes_more : (site : ℕ) (g g0 new : Body) (k loc : ℤ) (i : ℕ) → g ≡ record g0 { defs = g0.defs ++ map (λ byte. (site, byte)) (bytes_from k i) }
    → new ≡ record g { defs = g.defs ++ (site, loc) ∷ [] } → loc ≡ byte_at (k +ℤ pos i)
    → new ≡ record g0 { defs = g0.defs ++ map (λ byte. (site, byte)) (bytes_from k (i + 1)) }
bytes_more site g g0 new k loc i before step at =
    let grown : bytes_from k i ++ loc ∷ [] ≡ bytes_from k (i + 1) = ap (λ a. bytes_from k i ++ a ∷ []) at ∙ (sym (bytes_snoc k i) ∙ ap (bytes_from k) (sym (add-one i))) in
    more site g g0 new (bytes_from k i) loc before step ∙ ap (λ bytes. record g0 { defs = g0.defs ++ map (λ byte. (site, byte)) bytes }) grown

module _ (reading : Reading) (layout : Layout) where
  defined : ℕ → Action → List (ℕ × ℤ)
  defined site act = map (λ byte. (site, byte)) (bytes_defined reading layout site act)

  snoc : (j : ℕ) (xs : List Action) (x : Action) → frame_definitions_from reading layout j (xs ++ x ∷ []) ≡ frame_definitions_from reading layout j xs ++ defined (j + length xs) x
  unfolding defined
  snoc j [] x =
      let same : j ≡ j + 0 = omega arith in
      append-nil (defined j x) ∙ ap (λ site. defined site x) same
  snoc j (y ∷ xs) x =
      let same : (j + 1) + length xs ≡ j + suc (length xs) = omega arith in
      let rest = snoc (j + 1) xs x ∙ ap (λ site. frame_definitions_from reading layout (j + 1) xs ++ defined site x) same in
      ap (λ more. defined j y ++ more) rest
      ∙ sym (append_assoc (defined j y) (frame_definitions_from reading layout (j + 1) xs) (defined (j + suc (length xs)) x))

  pub site_more : (body g new : Body) (actions : List Action) (site : ℕ) → site < length actions
      → g ≡ record body { defs = frame_definitions_from reading layout 0 (take site actions) }
      → new ≡ record g { defs = g.defs ++ map (λ byte. (site, byte)) (bytes_defined reading layout site (action_at actions site)) }
      → new ≡ record body { defs = frame_definitions_from reading layout 0 (take (site + 1) actions) }
  unfolding defined
  site_more body g new actions site less before step =
      let act = action_at actions site in
      let length_is : length (take site actions) ≡ site = length-take-le site actions (omega arith) in
      let one_more : take (site + 1) actions ≡ take site actions ++ act ∷ [] = take_more actions site action.Pass less in
      let defs : frame_definitions_from reading layout 0 (take site actions) ++ defined site act ≡ frame_definitions_from reading layout 0 (take (site + 1) actions) =
      ap (λ n. frame_definitions_from reading layout 0 (take site actions) ++ defined n act) (sym length_is ∙ zero)
      ∙ (sym (snoc 0 (take site actions) act) ∙ ap (frame_definitions_from reading layout 0) (sym one_more)) in
      step ∙ (ap (λ (b : Body). record b { defs = b.defs ++ defined site act }) before ∙ ap (λ defs. record body { defs = defs }) defs)
    where
      zero : length (take site actions) ≡ 0 + length (take site actions)
      zero = omega arith
