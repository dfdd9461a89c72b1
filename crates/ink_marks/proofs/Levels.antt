-- Levels after a word was put behind one of them, and after a number was marked.
use Rattle.std.proofs.Common.{◌≡◌, ◌≢◌, ℕ, zero, suc, ◌*◌, ◌/◌, ◌%◌, ◌≤◌, ◌^◌, true, false, eqb, not, cond, List, [], ◌∷◌, ◌++◌, length, refl, sym, ap, ◌∙◌, ⊎_elim, arith}
use Rattle.std.proofs.lemmas.Bool.{cases_eq}
use Rattle.std.specs.Int.{bit_at}
use Rattle.ink_marks.specs.Marks.{word, is_marked, is_some, AreLevels}

pub word_pushed : (words : List ℕ) (k : ℕ) → word (words ++ 0 ∷ []) k ≡ word words k
word_pushed [] zero = refl
word_pushed [] (suc k) = refl
word_pushed (w ∷ words) zero = refl
word_pushed (w ∷ words) (suc k) = word_pushed words k

abbrev pub AreSame : List ℕ → List ℕ → Type 0
AreSame new old = (k : ℕ) → word new k ≡ word old k

pub same_marks : (new old : List ℕ) → AreSame new old → (n : ℕ) → is_marked new n ≡ is_marked old n
same_marks new old same n = ap (λ w. eqb (bit_at w (n % 64)) 1) (same (n / 64))

same_some : (new old : List ℕ) → AreSame new old → (n : ℕ) → is_some new n ≡ is_some old n
same_some new old same n = ap (λ w. not (eqb w 0)) (same n)

-- words were put behind
pub levels_grown : (bits blocks groups bits' blocks' groups' : List ℕ) → AreLevels bits blocks groups → AreSame bits' bits → AreSame blocks' blocks → AreSame groups' groups → length bits' ≤ 64 * length blocks' → length blocks' ≤ 64 * length groups' → length bits' ≤ 2 ^ 26 → length blocks' ≤ 2 ^ 26 → length groups' ≤ 2 ^ 26 → AreLevels bits' blocks' groups'
levels_grown bits blocks groups bits' blocks' groups' old same_bits same_blocks same_groups room more few few_blocks few_groups =
    record {
      in_bits = λ k. same_marks blocks' blocks same_blocks k ∙ old.in_bits k ∙ sym (same_some bits' bits same_bits k);
      in_blocks = λ k. same_marks groups' groups same_groups k ∙ old.in_blocks k ∙ sym (same_some blocks' blocks same_blocks k);
      room = room;
      more = more;
      few = few;
      few_blocks = few_blocks;
      few_groups = few_groups;
    }

-- a number was put into a level, and whether its word has a mark then into the one above
above : (lower lower' upper upper' : List ℕ) (place : ℕ) → ((k : ℕ) → is_marked upper k ≡ is_some lower k) → ((k : ℕ) → k ≢ place → word lower' k ≡ word lower k) → ((n : ℕ) → is_marked upper' n ≡ cond (eqb n place) (is_some lower' place) (is_marked upper n)) → (k : ℕ) → is_marked upper' k ≡ is_some lower' k
above lower lower' upper upper' place old others marks k =
    ⊎_elim
    (λ e. marks k ∙ ap (λ b. cond b (is_some lower' place) (is_marked upper k)) (equal k place e) ∙ sym (ap (is_some lower') e))
    (λ differ. marks k ∙ ap (λ b. cond b (is_some lower' place) (is_marked upper k)) (unequal k place differ) ∙ old k ∙ sym (ap (λ w. not (eqb w 0)) (others k differ)))
    (cases_eq k place)
  where
    equal : (n m : ℕ) → n ≡ m → eqb n m ≡ true
    equal n m e = grind arith

    unequal : (n m : ℕ) → n ≢ m → eqb n m ≡ false
    unequal n m differ = grind arith

pub levels_put : (bits blocks groups bits' blocks' groups' : List ℕ) (block group : ℕ) → AreLevels bits blocks groups → length bits' ≡ length bits → length blocks' ≡ length blocks → length groups' ≡ length groups → ((k : ℕ) → k ≢ block → word bits' k ≡ word bits k) → ((n : ℕ) → is_marked blocks' n ≡ cond (eqb n block) (is_some bits' block) (is_marked blocks n)) → ((k : ℕ) → k ≢ group → word blocks' k ≡ word blocks k) → ((n : ℕ) → is_marked groups' n ≡ cond (eqb n group) (is_some blocks' group) (is_marked groups n)) → AreLevels bits' blocks' groups'
levels_put bits blocks groups bits' blocks' groups' block group old same_bits same_blocks same_groups bits_others blocks_marks blocks_others groups_marks =
    record {
      in_bits = above bits bits' blocks blocks' block old.in_bits bits_others blocks_marks;
      in_blocks = above blocks blocks' groups groups' group old.in_blocks blocks_others groups_marks;
      room = let r : length bits ≤ 64 * length blocks = old.room in omega arith;
      more = let r : length blocks ≤ 64 * length groups = old.more in omega arith;
      few = let r : length bits ≤ 2 ^ 26 = old.few in omega arith;
      few_blocks = let r : length blocks ≤ 2 ^ 26 = old.few_blocks in omega arith;
      few_groups = let r : length groups ≤ 2 ^ 26 = old.few_groups in omega arith;
    }

pub same_pushed : (new old : List ℕ) → new ≡ old ++ 0 ∷ [] → AreSame new old
same_pushed new old e k = ap (λ words. word words k) e ∙ word_pushed old k

pub same_kept : (new old : List ℕ) → new ≡ old → AreSame new old
same_kept new old e k = ap (λ words. word words k) e
