use Rattle.std.proofs.Common.{◌≡◌, ℕ, Bool, List, [], ◌∷◌, map, refl, ap, ◌∙◌, Bor, ◌||◌}
use Rattle.std.specs.List.{list_any}
use Rattle.std.specs.Str.{bytes_eq}
use Rattle.ink_shapes.specs.Marks.{is_written}
use Rattle.ink_shapes.proofs.mark.is_written.Goals as goal

-- a test of what references show
list_any-now : (p : List ℕ → Bool) → (refs : List (Bor (List ℕ))) →
    list_any (λ ref. p ref.now) refs ≡ list_any p (map (λ ref. ref.now) refs)
list_any-now p [] = refl
list_any-now p (ref ∷ refs) = ap (λ rest. p ref.now || rest) (list_any-now p refs)

pub returns : goal.returns
unfolding is_written
returns c =
    let written = c.args.written.now in
    c.contains.ensures.value
    ∙ list_any-now (λ text. bytes_eq text written) c.texts.result.now
    ∙ ap (list_any (λ text. bytes_eq text written)) c.texts.ensures
