-- What is known of a node, by what is known of its children.
use Rattle.std.specs.Prelude.{ℕ, ◌+◌, ◌-◌, Bool, true, false, nat_lt, min, max, if◌then◌else◌, Option, None, Some}
use Rattle.ink_grammar.specs.declared.token.Shape.{Shape}
use Rattle.ink_grammar.specs.declared.tree.TwoChildren.{TwoChildren}
use Rattle.ink_grammar.specs.declared.tree.ThreeChildren.{ThreeChildren}
use Rattle.ink_grammar.specs.declared.tree.FourChildren.{FourChildren}
use Rattle.ink_grammar.specs.declared.tree.FiveChildren.{FiveChildren}
use Rattle.ink_heights.specs.declared.counted.Kind.{Kind}
use Rattle.ink_heights.specs.declared.counted.Kind.TheVariants as kind
use Rattle.ink_heights.specs.declared.measure.Measure.{Measure}
use Rattle.ink_heights.specs.Counted.{is_text_part, kind_of_two, first_of_two, second_of_two, is_node_of_three, first_of_three, second_of_three, third_of_three, is_node_of_four, second_of_four, third_of_four, fourth_of_five}

-- of nothing
abbrev pub nothing : Measure
nothing = record { height = 0; items = 0; is_choice = false; inside = None; place = None }

-- of a token: one that is kept is of height 1, but for the part of a text
unfoldable pub leaf : Shape → Measure
leaf shape =
    if is_text_part shape then nothing
    else record { height = 1; items = 0; is_choice = false; inside = None; place = None }

-- the lesser of two places
unfoldable pub least : Option ℕ → Option ℕ → Option ℕ
least None other = other
least (Some one) None = Some one
least (Some one) (Some other) = Some (min one other)

-- of two that stand in one: the greater height and the first place
unfoldable pub over : Measure → Measure → Measure
over one other =
    let height = max one.height other.height in
    let place = least one.place other.place in
    record { height = height; items = 0; is_choice = false; inside = place; place = place }

-- of a child, if it counts
unfoldable pub part : Bool → Measure → Measure
part counts child = if counts then child else nothing

-- the place of a node of this height: where something in it is too high, that, else its own if it is too high itself
unfoldable pub place_of : ℕ → Option ℕ → ℕ → ℕ → Option ℕ
place_of most (Some place) height start = Some place
place_of most None height start = if nat_lt most height then Some start else None

-- of an expression, a pattern or a type, by what stands in it: one higher
unfoldable pub node : ℕ → ℕ → Measure → Measure
node most start within =
    let height = within.height + 1 in
    record {
      height = height;
      items = 0;
      is_choice = false;
      inside = within.place;
      place = place_of most within.place height start;
    }

-- of a node that may be none of these
unfoldable pub node_or_plain : ℕ → Bool → ℕ → Measure → Measure
node_or_plain most is_node start within = if is_node then node most start within else within

-- of a text: one higher than what stands in it, and its parts and embedded expressions added
unfoldable pub text : ℕ → ℕ → Measure → Measure
text most start items = node most start (record items { height = items.height + items.items })

-- of the alternatives of a pattern together: of the pattern itself, where it has one
unfoldable pub choices : Measure → Measure
choices a = if a.is_choice then record a { height = a.height - 1; place = a.inside } else a

-- of a pattern with one alternative more: one higher than the highest of all its alternatives, of which no part is a node
unfoldable pub alternatives : ℕ → ℕ → Measure → Measure → Measure
alternatives most start before next = record (node most start (over (choices before) next)) { is_choice = true }

-- of a type behind a word: it is one type with the word, and begins there
unfoldable pub prefixed : ℕ → ℕ → Measure → Measure
prefixed most start bare = record bare { place = place_of most bare.inside bare.height start }

-- of a list with one item more
unfoldable pub list : Measure → Measure → Measure
list before item = record (over before item) { items = before.items + 1 }

-- of a node of two children, by its kind
unfoldable pub two_by : Kind → ℕ → TwoChildren → ℕ → Measure → Measure → Measure
two_by kind.List most form start a b = list a b
two_by kind.Text most form start a b = text most start b
two_by kind.Alternatives most form start a b = alternatives most start a b
two_by kind.Prefixed most form start a b = prefixed most start b
two_by kind.Node most form start a b = node most start (over (part (first_of_two form) a) (part (second_of_two form) b))
two_by kind.Plain most form start a b = over (part (first_of_two form) a) (part (second_of_two form) b)

-- of a node of two children
abbrev pub two : ℕ → TwoChildren → ℕ → Measure → Measure → Measure
two most form start a b = two_by (kind_of_two form) most form start a b

-- of a node of three children
unfoldable pub three : ℕ → ThreeChildren → ℕ → Measure → Measure → Measure → Measure
three most form start a b c =
    node_or_plain most (is_node_of_three form) start
    (over (over (part (first_of_three form) a) (part (second_of_three form) b)) (part (third_of_three form) c))

-- of a node of four children
unfoldable pub four : ℕ → FourChildren → ℕ → Measure → Measure → Measure → Measure
four most form start b c d =
    node_or_plain most (is_node_of_four form) start
    (over (over (part (second_of_four form) b) (part (third_of_four form) c)) d)

-- of a node of five children
unfoldable pub five : FiveChildren → Measure → Measure → Measure
five form d e = over (part (fourth_of_five form) d) e
