-- Heights don't depend on the limit.
use Rattle.std.proofs.Common.{◌≡◌, ℕ, ◌+◌, ◌-◌, max, Bool, true, false, refl}
use Rattle.std.specs.Prelude.{if◌then◌else◌}
use Rattle.ink_grammar.specs.declared.tree.TwoChildren.{TwoChildren}
use Rattle.ink_grammar.specs.declared.tree.ThreeChildren.{ThreeChildren}
use Rattle.ink_grammar.specs.declared.tree.FourChildren.{FourChildren}
use Rattle.ink_grammar.specs.declared.tree.FiveChildren.{FiveChildren}
use Rattle.ink_grammar.specs.Tree.{Tree, Missing, Leaf, Empty, One, Two, Three, Four, Five}
use Rattle.ink_heights.specs.declared.counted.Kind.{Kind}
use Rattle.ink_heights.specs.declared.counted.Kind.TheVariants as kind
use Rattle.ink_heights.specs.declared.measure.Measure.{Measure}
use Rattle.ink_heights.specs.Counted.{kind_of_two, first_of_two, second_of_two, is_node_of_three, first_of_three, second_of_three, third_of_three, is_node_of_four, second_of_four, third_of_four, fourth_of_five}
use Rattle.ink_heights.specs.Measures.{nothing, leaf, over, part, node, node_or_plain, text, alternatives, choices, prefixed, list, two_by, three, four, five}
use Rattle.ink_heights.specs.Heights.{measure}

-- two measures of the same heights
pub record Alike (a b : Measure) : Type 0 where
  pub height : a.height ≡ b.height
  pub items : a.items ≡ b.items
  pub is_choice : a.is_choice ≡ b.is_choice

same : (a : Measure) → Alike a a
same a = record { height = refl; items = refl; is_choice = refl }

same-over : (a b c d : Measure) → Alike a b → Alike c d → Alike (over a c) (over b d)
unfolding over
same-over a b c d first second =
    let height : max a.height c.height ≡ max b.height d.height = cc (first.height, second.height) in
    record { height = height; items = refl; is_choice = refl }

same-part : (counts : Bool) (a b : Measure) → Alike a b → Alike (part counts a) (part counts b)
unfolding part
same-part true a b alike = alike
same-part false a b alike = same nothing

same-node : (m n start : ℕ) (a b : Measure) → a.height ≡ b.height → Alike (node m start a) (node n start b)
unfolding node
same-node m n start a b is =
    let height : a.height + 1 ≡ b.height + 1 = cc in
    record { height = height; items = refl; is_choice = refl }

same-node_or_plain : (m n : ℕ) (is_node : Bool) (start : ℕ) (a b : Measure) → Alike a b →
    Alike (node_or_plain m is_node start a) (node_or_plain n is_node start b)
unfolding node_or_plain
same-node_or_plain m n true start a b alike = same-node m n start a b alike.height
same-node_or_plain m n false start a b alike = alike

-- the height of the alternatives together
same-choices : (p q : Bool) (a b : Measure) → p ≡ q → a.height ≡ b.height →
    (if p then record a { height = a.height - 1; place = a.inside } else a).height ≡ (if q then record b { height = b.height - 1; place = b.inside } else b).height
same-choices true true a b choice height = cc
same-choices true false a b choice height = cc
same-choices false true a b choice height = cc
same-choices false false a b choice height = height

same-two : (m n : ℕ) (kind : Kind) (form : TwoChildren) (start : ℕ) (a b c d : Measure) → Alike a b → Alike c d →
    Alike (two_by kind m form start a c) (two_by kind n form start b d)
unfolding two_by text alternatives choices prefixed list over node
same-two m n kind.List form start a b c d first second =
    record {
      height = cc (first.height, second.height);
      items = cc (first.items);
      is_choice = refl;
    }
same-two m n kind.Text form start a b c d first second =
    record { height = cc (second.height, second.items); items = refl; is_choice = refl }
same-two m n kind.Alternatives form start a b c d first second =
    record {
      height = cc (same-choices a.is_choice b.is_choice a b first.is_choice first.height, second.height);
      items = refl;
      is_choice = refl;
    }
same-two m n kind.Prefixed form start a b c d first second =
    record { height = second.height; items = second.items; is_choice = second.is_choice }
same-two m n kind.Node form start a b c d first second =
    let within = same-over (part (first_of_two form) a) (part (first_of_two form) b) (part (second_of_two form) c) (part (second_of_two form) d)
    (same-part (first_of_two form) a b first) (same-part (second_of_two form) c d second) in
    record { height = cc (within.height); items = refl; is_choice = refl }
same-two m n kind.Plain form start a b c d first second =
    same-over (part (first_of_two form) a) (part (first_of_two form) b) (part (second_of_two form) c) (part (second_of_two form) d)
    (same-part (first_of_two form) a b first) (same-part (second_of_two form) c d second)

same-three : (m n : ℕ) (form : ThreeChildren) (start : ℕ) (a b c d e f : Measure) → Alike a b → Alike c d → Alike e f →
    Alike (three m form start a c e) (three n form start b d f)
unfolding three
same-three m n form start a b c d e f first second third =
    same-node_or_plain m n (is_node_of_three form) start _ _
    (same-over _ _ _ _ (same-over _ _ _ _ (same-part (first_of_three form) a b first) (same-part (second_of_three form) c d second))
    (same-part (third_of_three form) e f third))

same-four : (m n : ℕ) (form : FourChildren) (start : ℕ) (a b c d e f : Measure) → Alike a b → Alike c d → Alike e f →
    Alike (four m form start a c e) (four n form start b d f)
unfolding four
same-four m n form start a b c d e f first second third =
    same-node_or_plain m n (is_node_of_four form) start _ _
    (same-over _ _ _ _ (same-over _ _ _ _ (same-part (second_of_four form) a b first) (same-part (third_of_four form) c d second)) third)

same-five : (form : FiveChildren) (a b c d : Measure) → Alike a b → Alike c d → Alike (five form a c) (five form b d)
unfolding five
same-five form a b c d first second = same-over _ _ _ _ (same-part (fourth_of_five form) a b first) second

pub same-measure : (m n : ℕ) (tree : Tree) → Alike (measure m tree) (measure n tree)
same-measure m n Missing = same nothing
same-measure m n (Leaf token) = same (leaf token.shape)
same-measure m n Empty = same nothing
same-measure m n (One form start a) = same-measure m n a
same-measure m n (Two form start a b) =
    same-two m n (kind_of_two form) form start _ _ _ _ (same-measure m n a) (same-measure m n b)
same-measure m n (Three form start a b c) =
    same-three m n form start _ _ _ _ _ _ (same-measure m n a) (same-measure m n b) (same-measure m n c)
same-measure m n (Four form start a b c d) =
    same-four m n form start _ _ _ _ _ _ (same-measure m n b) (same-measure m n c) (same-measure m n d)
same-measure m n (Five form start a b c d e) = same-five form _ _ _ _ (same-measure m n d) (same-measure m n e)
