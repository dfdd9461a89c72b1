-- A list that is seen from its end.
use Rattle.std.proofs.Common.{true, ◌≡◌, ℕ, ◌+◌, ◌<◌, ◌≤◌, None, List, [], ◌∷◌, ◌++◌, length, get_or, set, take, reverse, refl, sym, ap, ◌∙◌, arith}
use Rattle.std.specs.Option.{is_some}
use Rattle.std.proofs.lemmas.Grind.{take_at_read, take-set_at}
use Rattle.std.proofs.lemmas.List.{reverse-append, take_all, length-set}
use Rattle.std.proofs.lemmas.Option.{slice_get_past, slice_get-get_or}
use Rattle.ink_base.specs.declared.value.Value.TheVariants.{Empty}
use Rattle.ink_code.specs.declared.frame.Frame.{Frame}
use Rattle.ink_code.specs.Process.{register}

-- what is put at the end stands in front
pub front-push : {X : Type 0} (xs : List X) (x : X) → reverse (xs ++ x ∷ []) ≡ x ∷ reverse xs
front-push xs x = reverse-append xs (x ∷ [])

-- the last one stands in front
pub front-last : {X : Type 0} (xs : List X) (index : ℕ) (x : X) → index + 1 ≡ length xs → x ≡ get_or xs index x → reverse xs ≡ x ∷ reverse (take index xs)
front-last xs index x end is =
    let split : take (index + 1) xs ≡ take index xs ++ get_or xs index x ∷ [] = (take_at_read xs index x (omega arith)).1 in
    let whole : take (index + 1) xs ≡ xs = take_all (index + 1) xs (omega arith) in
    ap reverse (sym whole ∙ split) ∙ front-push (take index xs) (get_or xs index x) ∙ ap (λ y. y ∷ reverse (take index xs)) (sym is)

-- another one at the last index stands in front
pub front-set : {X : Type 0} (xs : List X) (index : ℕ) (y : X) → index + 1 ≡ length xs → reverse (set xs index y) ≡ y ∷ reverse (take index xs)
front-set xs index y end =
    let whole : take (index + 1) (set xs index y) ≡ set xs index y = take_all (index + 1) (set xs index y) (omega (arith, length-set xs index y)) in
    ap reverse (sym whole ∙ take-set_at xs index (index + 1) y refl (omega arith)) ∙ front-push (take index xs) y

-- a register past the end
pub register_past : (items seen : List Frame) → reverse items ≡ seen → (index number : ℕ) (frame : Frame) → index + 1 ≡ length items → frame ≡ get_or items index frame → length frame.registers ≤ number → register seen number ≡ None
unfolding register
register_past items seen view index number frame end is past =
    ap (λ frames. register frames number) (sym view ∙ front-last items index frame end is) ∙ slice_get_past frame.registers number past

-- a register that is there
pub register_there : (items seen : List Frame) → reverse items ≡ seen → (index number : ℕ) (frame : Frame) → index + 1 ≡ length items → frame ≡ get_or items index frame → number < length frame.registers → is_some (register seen number) ≡ true
unfolding register
register_there items seen view index number frame end is low =
    ap (λ frames. is_some (register frames number)) (sym view ∙ front-last items index frame end is) ∙ ap is_some (slice_get-get_or frame.registers number Empty low)

pub ruleset front = (front-push, front-last, front-set)
