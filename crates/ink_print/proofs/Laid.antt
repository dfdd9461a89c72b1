-- What a turn of the layout does to the bytes that are still to come.
use Rattle.std.proofs.Common.{◌≡◌, ℕ, ◌+◌, ◌*◌, ◌<◌, List, [], ◌∷◌, ◌++◌, length, drop, replicate, sym, ap, ◌∙◌, arith}
use Rattle.std.proofs.Common.{get_or, suc, ◌≤◌}
use Rattle.std.proofs.Math.Seq.{drop-cons}
use Rattle.ink_print.specs.declared.class.Class.TheVariants as class
use Rattle.std.proofs.lemmas.List.{append_assoc, append-nil, replicate-append-replicate}
use Rattle.ink_print.specs.declared.class.Class.{Class}
use Rattle.ink_print.specs.declared.step.Piece.{Piece}
use Rattle.ink_print.specs.Layout.{class_of, gap, depth_at, depth_behind, piece_text, laid}

-- two more blanks
pub indented : (before now : List ℕ) (k : ℕ) → now ≡ before ++ replicate (2 * k) 32 → now ++ 32 ∷ 32 ∷ [] ≡ before ++ replicate (2 * (k + 1)) 32
indented before now k e =
    let n : 2 * k + 2 ≡ 2 * (k + 1) = omega arith in
    ap (λ y. y ++ 32 ∷ 32 ∷ []) e ∙ append_assoc before (replicate (2 * k) 32) (32 ∷ 32 ∷ [])
    ∙ ap (λ y. before ++ y) (replicate-append-replicate (2 * k) 2 32 ∙ ap (λ y. replicate y 32) n)

-- no pieces have no bytes
pub laid_end : (source text whole : List ℕ) (ps : List Piece) (depth : ℕ) (before : Class) → ps ≡ [] → text ++ laid source ps depth before ≡ whole → text ≡ whole
unfolding laid
laid_end source text whole ps depth before e h = sym (append-nil text) ∙ ap (λ y. text ++ y) (sym (ap (λ y. laid source y depth before) e)) ∙ h

-- a piece is written
pub laid_on : (source whole text spaced more : List ℕ) (ps rest : List Piece) (p : Piece) (depth : ℕ) (before : Class) → ps ≡ p ∷ rest
    → spaced ≡ text ++ gap (depth_at (class_of p) depth) before (class_of p) → more ≡ spaced ++ piece_text source p
    → text ++ laid source ps depth before ≡ whole → more ++ laid source rest (depth_behind (class_of p) (depth_at (class_of p) depth)) (class_of p) ≡ whole
unfolding laid
laid_on source whole text spaced more ps rest p depth before e f g h =
    let blanks : List ℕ = gap (depth_at (class_of p) depth) before (class_of p) in
    let tail : List ℕ = laid source rest (depth_behind (class_of p) (depth_at (class_of p) depth)) (class_of p) in
    ap (λ y. y ++ tail) (g ∙ ap (λ y. y ++ piece_text source p) f)
    ∙ append_assoc (text ++ blanks) (piece_text source p) tail ∙ append_assoc text blanks (piece_text source p ++ tail)
    ∙ ap (λ y. text ++ y) (sym (ap (λ y. laid source y depth before) e)) ∙ h

-- a piece opens one block at most
deeper : (k : Class) (depth : ℕ) → depth_behind k (depth_at k depth) ≤ depth + 1
deeper class.Line depth = omega arith
deeper class.Word depth = omega arith
deeper class.Keyword depth = omega arith
deeper class.Operator depth = omega arith
deeper class.Separator depth = omega arith
deeper class.Dot depth = omega arith
deeper class.Opening depth = omega arith
deeper class.Closing depth = omega arith
deeper class.ImportOpening depth = omega arith
deeper class.BlockOpening depth = omega arith
deeper class.BlockClosing depth = omega arith
deeper class.PatternOpening depth = omega arith
deeper class.PatternClosing depth = omega arith

pub few_on : (k : Class) (depth here now i : ℕ) → here ≡ depth_at k depth → now ≡ depth_behind k here → depth ≤ i → now ≤ i + 1
few_on k depth here now i e f h = let g : now ≡ depth_behind k (depth_at k depth) = f ∙ ap (λ y. depth_behind k y) e in omega (arith, deeper k depth)

-- the piece of this number is written
pub piece_on : (source whole text spaced more bytes : List ℕ) (ps : List Piece) (i : ℕ) (other : Piece) (depth here now : ℕ) (before k : Class) → i < length ps
    → k ≡ class_of (get_or ps i other) → here ≡ depth_at k depth → spaced ≡ text ++ gap here before k → bytes ≡ piece_text source (get_or ps i other) → more ≡ spaced ++ bytes → now ≡ depth_behind k here
    → text ++ laid source (drop i ps) depth before ≡ whole → more ++ laid source (drop (i + 1) ps) now k ≡ whole
piece_on source whole text spaced more bytes ps i other depth here now before k l e f g b m n h =
    let p : Piece = get_or ps i other in
    let at : here ≡ depth_at (class_of p) depth = f ∙ ap (λ y. depth_at y depth) e in
    let next : i + 1 ≡ suc i = omega arith in
    let behind : now ≡ depth_behind (class_of p) (depth_at (class_of p) depth) = n ∙ ap (λ y. depth_behind y here) e ∙ ap (λ y. depth_behind (class_of p) y) at in
    ap (λ y. more ++ laid source (drop y ps) now k) next ∙ ap (λ y. more ++ laid source (drop (suc i) ps) y k) behind
    ∙ ap (λ y. more ++ laid source (drop (suc i) ps) (depth_behind (class_of p) (depth_at (class_of p) depth)) y) e
    ∙ laid_on source whole text spaced more (drop i ps) (drop (suc i) ps) p depth before (drop-cons ps i other l)
    (g ∙ ap (λ y. text ++ gap y before k) at ∙ ap (λ y. text ++ gap (depth_at (class_of p) depth) before y) e)
    (m ∙ ap (λ y. spaced ++ y) b) h
