-- What is written piece by piece is the text of the whole.
use Rattle.std.proofs.Common.{◌≡◌, ℕ, ◌+◌, ◌<◌, List, [], ◌∷◌, ◌++◌, length, get_or, take, ap, sym, ◌∙◌, append_assoc, arith}
use Rattle.std.proofs.lemmas.List.{append-nil, take_more, length-take-le}
use Rattle.std.proofs.lemmas.List.Concat.{flat_map-append}
use Rattle.std.specs.List.{flat_map}
use Rattle.ink_code.specs.declared.method.Method.{Method}
use Rattle.ink_code.specs.declared.instr.Instr.{Instr}
use Rattle.ink_code.specs.Listing.{number_text, numbers_text, instr_text, body_text, method_text}

pub numbers_text-append : (xs ys : List ℕ) → numbers_text (xs ++ ys) ≡ numbers_text xs ++ numbers_text ys
unfolding numbers_text
numbers_text-append xs ys = flat_map-append number_text xs ys

pub numbers_text-one : (number : ℕ) → numbers_text (number ∷ []) ≡ number_text number
unfolding numbers_text
numbers_text-one number = append-nil (number_text number)

-- nothing is written of no numbers
pub no_numbers : (out : List ℕ) → out ≡ out ++ numbers_text []
unfolding numbers_text
no_numbers out = sym (append-nil out)

-- the number at a place is written behind those before it
pub next_number : (before out after : List ℕ) (numbers : List ℕ) (i : ℕ) → i < length numbers → out ≡ before ++ numbers_text (take i numbers) → after ≡ out ++ number_text (get_or numbers i 0) → after ≡ before ++ numbers_text (take (i + 1) numbers)
next_number before out after numbers i within so_far written =
    let longer : numbers_text (take (i + 1) numbers) ≡ numbers_text (take i numbers) ++ number_text (get_or numbers i 0) =
    ap numbers_text (take_more numbers i 0 within) ∙ numbers_text-append (take i numbers) (get_or numbers i 0 ∷ []) ∙ ap (λ text. numbers_text (take i numbers) ++ text) (numbers_text-one (get_or numbers i 0)) in
    written ∙ ap (λ text. text ++ number_text (get_or numbers i 0)) so_far ∙ append_assoc before _ _ ∙ ap (λ text. before ++ text) (sym longer)

-- some numbers and then others
pub both_written : (before out after : List ℕ) (xs ys : List ℕ) → out ≡ before ++ numbers_text xs → after ≡ out ++ numbers_text ys → after ≡ before ++ numbers_text (xs ++ ys)
both_written before out after xs ys first second =
    second ∙ ap (λ text. text ++ numbers_text ys) first ∙ append_assoc before _ _ ∙ ap (λ text. before ++ text) (sym (numbers_text-append xs ys))

-- a front that is within a list is as long as it says
length-take_within : {X : Type 0} (i : ℕ) (xs : List X) → i < length xs → length (take i xs) ≡ i
length-take_within i xs within = length-take-le i xs (omega arith)

-- numbers and then one more
pub one_more_written : (before out after : List ℕ) (xs : List ℕ) (x : ℕ) → out ≡ before ++ numbers_text xs → after ≡ out ++ number_text x → after ≡ before ++ numbers_text (xs ++ x ∷ [])
one_more_written before out after xs x first second =
    both_written before out after xs (x ∷ []) first (second ∙ ap (λ text. out ++ text) (sym (numbers_text-one x)))

pub body_text-push : (place : ℕ) (xs : List Instr) (x : Instr) → body_text place (xs ++ x ∷ []) ≡ body_text place xs ++ instr_text (place + length xs) x
unfolding body_text
body_text-push place [] x = append-nil _ ∙ ap (λ n. instr_text n x) (omega arith)
body_text-push place (y ∷ ys) x =
    ap (λ text. instr_text place y ++ text) (body_text-push (place + 1) ys x ∙ ap (λ n. body_text (place + 1) ys ++ instr_text n x) (omega arith))
    ∙ sym (append_assoc (instr_text place y) (body_text (place + 1) ys) _)

-- nothing is written of no instructions
pub no_instrs : (out : List ℕ) → out ≡ out ++ body_text 0 []
unfolding body_text
no_instrs out = sym (append-nil out)

-- the instruction at a place is written behind those before it
pub next_instr : (before out after : List ℕ) (body : List Instr) (i : ℕ) (x : Instr) → i < length body → x ≡ get_or body i x → out ≡ before ++ body_text 0 (take i body) → after ≡ out ++ instr_text i x → after ≡ before ++ body_text 0 (take (i + 1) body)
next_instr before out after body i x within stands so_far written =
    let longer : take (i + 1) body ≡ take i body ++ x ∷ [] = take_more body i x within ∙ ap (λ y. take i body ++ y ∷ []) (sym stands) in
    let count : length (take i body) ≡ i = length-take_within i body within in
    let text : body_text 0 (take (i + 1) body) ≡ body_text 0 (take i body) ++ instr_text i x =
    ap (body_text 0) longer ∙ body_text-push 0 (take i body) x ∙ ap (λ n. body_text 0 (take i body) ++ instr_text n x) (omega arith) in
    written ∙ ap (λ front. front ++ instr_text i x) so_far ∙ append_assoc before _ _ ∙ ap (λ rest. before ++ rest) (sym text)

-- the method at a place is written behind those before it
pub next_method : (out after : List ℕ) (methods : List Method) (i : ℕ) (x : Method) → i < length methods → x ≡ get_or methods i x → out ≡ flat_map method_text (take i methods) → after ≡ out ++ method_text x → after ≡ flat_map method_text (take (i + 1) methods)
next_method out after methods i x within stands so_far written =
    let longer : take (i + 1) methods ≡ take i methods ++ x ∷ [] = take_more methods i x within ∙ ap (λ y. take i methods ++ y ∷ []) (sym stands) in
    let text : flat_map method_text (take (i + 1) methods) ≡ flat_map method_text (take i methods) ++ method_text x =
    ap (flat_map method_text) longer ∙ flat_map-append method_text (take i methods) (x ∷ []) ∙ ap (λ rest. flat_map method_text (take i methods) ++ rest) (append-nil (method_text x)) in
    written ∙ ap (λ front. front ++ method_text x) so_far ∙ sym text
