-- What the bytes up to a place have told.
use Rattle.std.proofs.Common.{◌≡◌, ◌↔◌, ◌∙◌, ℕ, ◌+◌, ◌<◌, List, [], ◌∷◌, ◌++◌, length, take, refl, sym, ap, subst, arith, append_assoc, append-nil, option_to_list, Option}
use Rattle.std.proofs.lemmas.List.{take_all}
use Rattle.ink_journal.specs.File.{file, IsFile, Begins, Leaves}
use Rattle.ink_journal.specs.Reading.{Goes, IsOpen, Leads, LeadsNowhere}
use Rattle.ink_journal.specs.declared.step.Awaited.{Awaited}
use Rattle.ink_journal.specs.declared.step.Awaited.TheVariants as awaited

-- the bytes read so far lead here, with these entries, whatever follows; and something can follow
pub record Reaches (most : ℕ) (read : List ℕ) (here : Awaited) (told : List ℕ) : Type 0 where
  pub leads : (bytes entries : List ℕ) → IsFile most (read ++ bytes) entries
      ↔ ((more : List ℕ) × (entries ≡ told ++ more) × Goes most here bytes more)
  pub goes : IsOpen most here

pub reaches_start : (most : ℕ) → Reaches most [] (awaited.Front 0) []
reaches_start most = record {
  leads = λ bytes entries. (
    λ is. (entries, refl, (omega arith, is.0, is.1)),
    λ b. subst (λ es. IsFile most bytes es) (sym b.1) (b.2.1, b.2.2),
  );
  goes = (file [], [], (omega arith, (omega arith, tt), refl));
}

pub reaches_next : (most : ℕ) (read more : List ℕ) (byte : ℕ) (here next : Awaited) (told all : List ℕ) (ended : Option ℕ)
    → Reaches most read here told → Leads most here byte next ended → IsOpen most next → more ≡ read ++ byte ∷ [] → all ≡ told ++ option_to_list ended
    → Reaches most more next all
reaches_next most read more byte here next told all ended reaches leads goes is all_is =
    let further : (bytes : List ℕ) → more ++ bytes ≡ read ++ byte ∷ bytes = λ bytes. ap (λ m. m ++ bytes) is ∙ append_assoc read (byte ∷ []) bytes in
    record {
      leads = λ bytes entries. (
        λ whole.
            let first = (reaches.leads (byte ∷ bytes) entries).0 (subst (λ (bs : List ℕ). IsFile most bs entries) (further bytes) whole) in
            let second = (leads bytes first.0).0 first.2 in
            let e : entries ≡ all ++ second.0 = first.1 ∙ ap (λ m. told ++ m) second.1 ∙ sym (append_assoc told (option_to_list ended) second.0) ∙ ap (λ m. m ++ second.0) (sym all_is) in
            (second.0, e, second.2),
        λ rest.
            let behind = (leads bytes (option_to_list ended ++ rest.0)).1 (rest.0, refl, rest.2) in
            let e : entries ≡ told ++ (option_to_list ended ++ rest.0) = rest.1 ∙ ap (λ m. m ++ rest.0) all_is ∙ append_assoc told (option_to_list ended) rest.0 in
            subst (λ (bs : List ℕ). IsFile most bs entries) (sym (further bytes)) ((reaches.leads (byte ∷ bytes) entries).1 (option_to_list ended ++ rest.0, e, behind)),
      );
      goes = goes;
    }

-- what is read can go on to a file
pub begins : (most : ℕ) (read : List ℕ) (here : Awaited) (told : List ℕ) → Reaches most read here told → Begins most read
begins most read here told reaches =
    (reaches.goes.0, told ++ reaches.goes.1, (reaches.leads reaches.goes.0 (told ++ reaches.goes.1)).1 (reaches.goes.1, refl, reaches.goes.2))

pub wrong_byte : (most : ℕ) (bytes : List ℕ) (right : ℕ) (byte : ℕ) (here : Awaited) (told : List ℕ) → Reaches most (take right bytes) here told
    → right < length bytes → take (right + 1) bytes ≡ take right bytes ++ byte ∷ [] → LeadsNowhere most here byte → Leaves most bytes right
wrong_byte most bytes right byte here told reaches inside is nowhere = record {
  within = omega (arith, inside);
  before = begins most (take right bytes) here told reaches;
  wrong = λ _ b.
      let e : take (right + 1) bytes ++ b.0 ≡ take right bytes ++ byte ∷ b.0 = ap (λ m. m ++ b.0) is ∙ append_assoc (take right bytes) (byte ∷ []) b.0 in
      let on = (reaches.leads (byte ∷ b.0) b.1).0 (subst (λ (bs : List ℕ). IsFile most bs b.1) e b.2) in
      nowhere b.0 on.0 on.2;
  missing = λ end entries is. omega (arith, inside, end);
}

-- at the end of the bytes
at_end : (most : ℕ) (bytes : List ℕ) (right : ℕ) (here : Awaited) (told : List ℕ) → (right < length bytes → ⊥)
    → Reaches most (take right bytes) here told → Reaches most bytes here told
at_end most bytes right here told end reaches = subst (λ (bs : List ℕ). Reaches most bs here told) (take_all right bytes (omega (arith, end))) reaches

ends_as : (most : ℕ) (bytes : List ℕ) (here : Awaited) (told entries : List ℕ) → Reaches most bytes here told → IsFile most bytes entries
    → (more : List ℕ) × (entries ≡ told ++ more) × Goes most here [] more
ends_as most bytes here told entries reaches is = (reaches.leads [] entries).0 (subst (λ (bs : List ℕ). IsFile most bs entries) (sym (append-nil bytes)) is)

pub whole : (most : ℕ) (bytes : List ℕ) (right : ℕ) (here : Awaited) (told : List ℕ) → (right < length bytes → ⊥)
    → Reaches most (take right bytes) here told → Goes most here [] [] → IsFile most bytes told
whole most bytes right here told end reaches goes =
    let is = ((at_end most bytes right here told end reaches).leads [] told).1 ([], sym (append-nil told), goes) in
    subst (λ (bs : List ℕ). IsFile most bs told) (append-nil bytes) is

pub only : (most : ℕ) (bytes : List ℕ) (right : ℕ) (here : Awaited) (told : List ℕ) → (right < length bytes → ⊥)
    → Reaches most (take right bytes) here told → ((more : List ℕ) → Goes most here [] more → more ≡ [])
    → (entries : List ℕ) → IsFile most bytes entries → entries ≡ told
only most bytes right here told end reaches ends entries is =
    let end_is = ends_as most bytes here told entries (at_end most bytes right here told end reaches) is in
    end_is.1 ∙ ap (λ m. told ++ m) (ends end_is.0 end_is.2) ∙ append-nil told

pub missing_bytes : (most : ℕ) (bytes : List ℕ) (right : ℕ) (here : Awaited) (told : List ℕ) → (right < length bytes → ⊥)
    → Reaches most (take right bytes) here told → ((more : List ℕ) → Goes most here [] more → ⊥) → Leaves most bytes (length bytes)
missing_bytes most bytes right here told end reaches never =
    let there = at_end most bytes right here told end reaches in record {
      within = omega arith;
      before = subst (λ (bs : List ℕ). Begins most bs) (sym (take_all (length bytes) bytes (omega arith))) (begins most bytes here told there);
      wrong = λ inside _. omega (arith, inside);
      missing = λ _ entries is. let end_is = ends_as most bytes here told entries there is in never end_is.0 end_is.2;
    }
