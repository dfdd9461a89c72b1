-- Nothing is too high exactly where the greatest height is within the limit.
use Rattle.std.proofs.Common.{◌≡◌, ℕ, ◌+◌, ◌-◌, ◌<◌, ◌≤◌, ◌↔◌, max, nat_lt, Bool, true, false, Option, Some, None, refl, sym, subst, arith}
use Rattle.std.proofs.lemmas.Bool.{ltb-true, ltb-false}
use Rattle.std.specs.Prelude.{if◌then◌else◌}
use Rattle.ink_grammar.proofs.Bools.{by_cases}
use Rattle.ink_grammar.specs.declared.token.Shape.{Shape}
use Rattle.ink_grammar.specs.declared.tree.TwoChildren.{TwoChildren}
use Rattle.ink_grammar.specs.declared.tree.ThreeChildren.{ThreeChildren}
use Rattle.ink_grammar.specs.declared.tree.FourChildren.{FourChildren}
use Rattle.ink_grammar.specs.declared.tree.FiveChildren.{FiveChildren}
use Rattle.ink_grammar.specs.Tree.{Tree, Missing, Leaf, Empty, One, Two, Three, Four, Five}
use Rattle.ink_heights.specs.declared.counted.Kind.{Kind}
use Rattle.ink_heights.specs.declared.counted.Kind.TheVariants as kind
use Rattle.ink_heights.specs.declared.measure.Measure.{Measure}
use Rattle.ink_heights.specs.Counted.{is_text_part, kind_of_two, first_of_two, second_of_two, is_node_of_three, first_of_three, second_of_three, third_of_three, is_node_of_four, second_of_four, third_of_four, fourth_of_five}
use Rattle.ink_heights.specs.Measures.{nothing, leaf, least, over, part, place_of, node, node_or_plain, text, alternatives, choices, prefixed, list, two_by, three, four, five}
use Rattle.ink_heights.specs.Heights.{measure, height, first_too_high}
use Rattle.ink_heights.proofs.SameLemmas.{same-measure}

-- no place is told where the height is within the limit, and one where it isn't
pub record Tells (most : ℕ) (a : Measure) : Type 0 where
  pub low : a.place ≡ None → a.height ≤ most
  pub high : (byte : ℕ) → a.place ≡ Some byte → most < a.height
  pub within : (byte : ℕ) → a.inside ≡ Some byte → most < a.height
  pub parts : a.is_choice ≡ true → (byte : ℕ) → a.inside ≡ Some byte → most < a.height - 1

-- a place is told of a height over the limit alone
abbrev Tops : ℕ → Option ℕ → ℕ → Type 0
Tops most place height = (byte : ℕ) → place ≡ Some byte → most < height

tops-least : (most : ℕ) (p q : Option ℕ) (h k : ℕ) → Tops most p h → Tops most q k → Tops most (least p q) (max h k)
unfolding least
tops-least most None q h k first second = λ byte is. let high : most < k = second byte is in omega arith
tops-least most (Some a) None h k first second = λ byte is. let high : most < h = first a refl in omega arith
tops-least most (Some a) (Some b) h k first second = λ byte is. let high : most < h = first a refl in omega arith

least-none : (p q : Option ℕ) → least p q ≡ None → (p ≡ None) × (q ≡ None)
unfolding least
least-none None None is = (refl, refl)
least-none None (Some b) is = let no : ⊥ = cc in absurd no
least-none (Some a) None is = let no : ⊥ = cc in absurd no
least-none (Some a) (Some b) is = let no : ⊥ = cc in absurd no

place-none : (most : ℕ) (inside : Option ℕ) (h start : ℕ) → place_of most inside h start ≡ None → h ≤ most
unfolding place_of
place-none most (Some p) h start is = let no : ⊥ = cc in absurd no
place-none most None h start is =
    by_cases (nat_lt most h)
    (λ above. let told : Some start ≡ None = subst (λ b. (if b then Some start else None) ≡ None) above is in
    let no : ⊥ = cc in absurd no)
    (λ below. ltb-false most h below)

place-some : (most : ℕ) (inside : Option ℕ) (h start byte : ℕ) → Tops most inside h → place_of most inside h start ≡ Some byte → most < h
unfolding place_of
place-some most (Some p) h start byte tops is = tops p refl
place-some most None h start byte tops is =
    by_cases (nat_lt most h) (λ above. ltb-true most h above)
    (λ below. let told : None ≡ Some byte = subst (λ b. (if b then Some start else None) ≡ Some byte) below is in
    let no : ⊥ = cc in absurd no)

tells-nothing : (most : ℕ) → Tells most nothing
tells-nothing most = record {
  low = λ is. omega arith;
  high = λ byte is. let no : ⊥ = cc in absurd no;
  within = λ byte is. let no : ⊥ = cc in absurd no;
  parts = λ choice byte is. let no : ⊥ = cc in absurd no;
}

tells-leaf : (most : ℕ) (shape : Shape) → 1 ≤ most → Tells most (leaf shape)
unfolding leaf
tells-leaf most shape some =
    by_cases (is_text_part shape)
    (λ e. subst (λ b. Tells most (if b then nothing else record { height = 1; items = 0; is_choice = false; inside = None; place = None })) (sym e) (tells-nothing most))
    (λ e. subst (λ b. Tells most (if b then nothing else record { height = 1; items = 0; is_choice = false; inside = None; place = None })) (sym e)
    (record {
      low = λ is. some;
      high = λ byte is. let no : ⊥ = cc in absurd no;
      within = λ byte is. let no : ⊥ = cc in absurd no;
      parts = λ choice byte is. let no : ⊥ = cc in absurd no;
    }))

tells-over : (most : ℕ) (a b : Measure) → Tells most a → Tells most b → Tells most (over a b)
unfolding over
tells-over most a b first second =
    let tops = tops-least most a.place b.place a.height b.height first.high second.high in
    record {
      low = λ none.
          let both = least-none a.place b.place none in
          let one : a.height ≤ most = first.low both.0 in
          let other : b.height ≤ most = second.low both.1 in omega arith;
      high = tops;
      within = tops;
      parts = λ choice byte is. let no : ⊥ = cc in absurd no;
    }

tells-part : (most : ℕ) (counts : Bool) (a : Measure) → Tells most a → Tells most (part counts a)
unfolding part
tells-part most true a tells = tells
tells-part most false a tells = tells-nothing most

tells-node : (most start : ℕ) (w : Measure) → Tops most w.place w.height → Tells most (node most start w)
unfolding node
tells-node most start w tops = record {
  low = λ none. place-none most w.place (w.height + 1) start none;
  high = λ byte is.
      place-some most w.place (w.height + 1) start byte
      (λ at there. let high : most < w.height = tops at there in omega arith) is;
  within = λ byte is. let high : most < w.height = tops byte is in omega arith;
  parts = λ choice byte is. let no : ⊥ = cc in absurd no;
}

tells-node_or_plain : (most : ℕ) (is_node : Bool) (start : ℕ) (w : Measure) → Tells most w → Tells most (node_or_plain most is_node start w)
unfolding node_or_plain
tells-node_or_plain most true start w tells = tells-node most start w tells.high
tells-node_or_plain most false start w tells = tells

-- a place is told of the alternatives together where one of them is over the limit
tops-choices : (most : ℕ) (choice : Bool) (a : Measure) → a.is_choice ≡ choice → Tells most a →
    let parts = if choice then record a { height = a.height - 1; place = a.inside } else a in Tops most parts.place parts.height
tops-choices most true a is tells = tells.parts is
tops-choices most false a is tells = tells.high

tells-alternatives : (most start : ℕ) (a b : Measure) → Tells most a → Tells most b → Tells most (alternatives most start a b)
unfolding alternatives choices node over
tells-alternatives most start a b first second =
    let before = choices a in
    let h = max before.height b.height in
    let tops : Tops most (least before.place b.place) h =
    tops-least most before.place b.place before.height b.height (tops-choices most a.is_choice a refl first) second.high in
    record {
      low = λ none. place-none most (least before.place b.place) (h + 1) start none;
      high = λ byte is. place-some most (least before.place b.place) (h + 1) start byte (λ at there. let high : most < h = tops at there in omega arith) is;
      within = λ byte is. let high : most < h = tops byte is in omega arith;
      parts = λ choice byte is. let high : most < h = tops byte is in omega arith;
    }

tells-within : (most : ℕ) (form : TwoChildren) (a b : Measure) → Tells most a → Tells most b →
    Tells most (over (part (first_of_two form) a) (part (second_of_two form) b))
tells-within most form a b first second =
    tells-over most (part (first_of_two form) a) (part (second_of_two form) b) (tells-part most (first_of_two form) a first)
    (tells-part most (second_of_two form) b second)

tells-two : (most : ℕ) (kind : Kind) (form : TwoChildren) (start : ℕ) (a b : Measure) → Tells most a → Tells most b →
    Tells most (two_by kind most form start a b)
unfolding two_by text prefixed list
tells-two most kind.List form start a b first second =
    let tells = tells-over most a b first second in
    record { low = tells.low; high = tells.high; within = tells.within; parts = tells.parts }
tells-two most kind.Text form start a b first second =
    tells-node most start (record b { height = b.height + b.items })
    (λ byte is. let high : most < b.height = second.high byte is in omega arith)
tells-two most kind.Alternatives form start a b first second = tells-alternatives most start a b first second
tells-two most kind.Prefixed form start a b first second = record {
  low = λ none. place-none most b.inside b.height start none;
  high = λ byte is. place-some most b.inside b.height start byte second.within is;
  within = second.within;
  parts = second.parts;
}
tells-two most kind.Node form start a b first second =
    tells-node most start (over (part (first_of_two form) a) (part (second_of_two form) b)) (tells-within most form a b first second).high
tells-two most kind.Plain form start a b first second = tells-within most form a b first second

tells-three : (most : ℕ) (form : ThreeChildren) (start : ℕ) (a b c : Measure) → Tells most a → Tells most b → Tells most c →
    Tells most (three most form start a b c)
unfolding three
tells-three most form start a b c first second third =
    tells-node_or_plain most (is_node_of_three form) start _
    (tells-over most _ _
    (tells-over most _ _ (tells-part most (first_of_three form) a first) (tells-part most (second_of_three form) b second))
    (tells-part most (third_of_three form) c third))

tells-four : (most : ℕ) (form : FourChildren) (start : ℕ) (a b c : Measure) → Tells most a → Tells most b → Tells most c →
    Tells most (four most form start a b c)
unfolding four
tells-four most form start a b c first second third =
    tells-node_or_plain most (is_node_of_four form) start _
    (tells-over most _ _
    (tells-over most _ _ (tells-part most (second_of_four form) a first) (tells-part most (third_of_four form) b second)) third)

tells-five : (most : ℕ) (form : FiveChildren) (a b : Measure) → Tells most a → Tells most b → Tells most (five form a b)
unfolding five
tells-five most form a b first second = tells-over most _ _ (tells-part most (fourth_of_five form) a first) second

tells-measure : (most : ℕ) (tree : Tree) → 1 ≤ most → Tells most (measure most tree)
tells-measure most Missing some = tells-nothing most
tells-measure most (Leaf token) some = tells-leaf most token.shape some
tells-measure most Empty some = tells-nothing most
tells-measure most (One form start a) some = tells-measure most a some
tells-measure most (Two form start a b) some =
    tells-two most (kind_of_two form) form start _ _ (tells-measure most a some) (tells-measure most b some)
tells-measure most (Three form start a b c) some =
    tells-three most form start _ _ _ (tells-measure most a some) (tells-measure most b some) (tells-measure most c some)
tells-measure most (Four form start a b c d) some =
    tells-four most form start _ _ _ (tells-measure most b some) (tells-measure most c some) (tells-measure most d some)
tells-measure most (Five form start a b c d e) some =
    tells-five most form _ _ (tells-measure most d some) (tells-measure most e some)

none-told : (place : Option ℕ) → ((byte : ℕ) → place ≡ Some byte → ⊥) → place ≡ None
none-told None never = refl
none-told (Some byte) never = absurd (never byte refl)

-- nothing is too high exactly where the greatest height is within the limit
pub none-too_high : (most : ℕ) (tree : Tree) → 1 ≤ most → (first_too_high most tree ≡ None) ↔ (height tree ≤ most)
none-too_high most tree some =
    let tells = tells-measure most tree some in
    let same : (measure 0 tree).height ≡ (measure most tree).height = (same-measure 0 most tree).height in (
      λ none. let low : (measure most tree).height ≤ most = tells.low none in omega arith,
      λ low. none-told (measure most tree).place (λ byte is. let high : most < (measure most tree).height = tells.high byte is in omega arith),
    )

pub told-none : (most : ℕ) (tree : Tree) (place : Option ℕ) → place ≡ first_too_high most tree → 1 ≤ most →
    (place ≡ None) ↔ (height tree ≤ most)
told-none most tree place is some = subst (λ p. (p ≡ None) ↔ (height tree ≤ most)) (sym is) (none-too_high most tree some)
