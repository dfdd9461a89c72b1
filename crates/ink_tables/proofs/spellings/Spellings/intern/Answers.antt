use Rattle.std.proofs.Common.{◌≡◌, ◌++◌, ◌∷◌, [], None, map, if◌then◌else◌, sym, ap, ◌∙◌}
use Rattle.std.specs.List.{position_from, list_any}
use Rattle.std.specs.Str.{bytes_eq}
use Rattle.std.proofs.lemmas.Cmp.{nat_list_eq_equiv}
use Rattle.ink_tables.proofs.Numbering.{stays, taken}
use Rattle.ink_tables.proofs.spellings.Spellings.intern.Goals as goal

pub returns-in-Some-clause-added : goal.returns-in-Some-clause-added
returns-in-Some-clause-added c = stays (bytes_eq c.args.bytes.now) c.args.self.now _ c.in-Some.number (sym c.in-Some.ensures.number)

pub returns-clause-number : goal.returns-clause-number
returns-clause-number c =
    let bytes = c.args.bytes.now in
    let keys = c.self.inside.set.keys in
    let spelling = c.in_ok-spelling.spelling in
    let fresh : position_from (bytes_eq bytes) 0 (map (λ v. v.items) keys) ≡ None =
    ap (λ xs. position_from (bytes_eq bytes) 0 xs) c.self.view_is ∙ sym c.in_default.ensures.number in
    (taken (bytes_eq bytes) (λ v. v.items) keys c.insert.new.self.keys spelling bytes c.len-number.result (nat_list_eq_equiv.refl bytes) c.in_ok-spelling.ensures.items
    c.len-number.ensures.len fresh
    (c.in_ok-insert.ensures.keys ∙ ap (λ b. if list_any (λ y. bytes_eq b y.items) keys then keys else keys ++ spelling ∷ []) c.in_ok-spelling.ensures.items)).numbered

pub returns-clause-added : goal.returns-clause-added
returns-clause-added c =
    let bytes = c.args.bytes.now in
    let keys = c.self.inside.set.keys in
    let spelling = c.in_ok-spelling.spelling in
    let fresh : position_from (bytes_eq bytes) 0 (map (λ v. v.items) keys) ≡ None =
    ap (λ xs. position_from (bytes_eq bytes) 0 xs) c.self.view_is ∙ sym c.in_default.ensures.number in
    (taken (bytes_eq bytes) (λ v. v.items) keys c.insert.new.self.keys spelling bytes c.len-number.result (nat_list_eq_equiv.refl bytes) c.in_ok-spelling.ensures.items
    c.len-number.ensures.len fresh
    (c.in_ok-insert.ensures.keys ∙ ap (λ b. if list_any (λ y. bytes_eq b y.items) keys then keys else keys ++ spelling ∷ []) c.in_ok-spelling.ensures.items)).grown
    ∙ ap (λ xs. if list_any (bytes_eq bytes) xs then xs else xs ++ bytes ∷ []) c.self.view_is
