-- Which nodes are expressions, patterns or types, and which of their children count for the height.
use Rattle.std.specs.Prelude.{Bool, true, false}
use Rattle.ink_grammar.specs.declared.token.Shape.{Shape}
use Rattle.ink_grammar.specs.declared.token.Shape.TheVariants.{TextPart}
use Rattle.ink_grammar.specs.declared.tree.TwoChildren.{TwoChildren}
use Rattle.ink_grammar.specs.declared.tree.TwoChildren.TheVariants as two
use Rattle.ink_grammar.specs.declared.tree.ThreeChildren.{ThreeChildren}
use Rattle.ink_grammar.specs.declared.tree.ThreeChildren.TheVariants as three
use Rattle.ink_grammar.specs.declared.tree.FourChildren.{FourChildren}
use Rattle.ink_grammar.specs.declared.tree.FourChildren.TheVariants as four
use Rattle.ink_grammar.specs.declared.tree.FiveChildren.{FiveChildren}
use Rattle.ink_grammar.specs.declared.tree.FiveChildren.TheVariants as five
use Rattle.ink_heights.specs.declared.counted.Kind.{Kind}
use Rattle.ink_heights.specs.declared.counted.Kind.TheVariants as kind

-- a part of a text is no expression by itself
abbrev pub is_text_part : Shape → Bool
is_text_part TextPart = true
is_text_part _ = false

-- what a node of two children is for the height
abbrev pub kind_of_two : TwoChildren → Kind
kind_of_two two.More = kind.List
kind_of_two two.Text = kind.Text
kind_of_two two.Either = kind.Alternatives
kind_of_two two.PrefixedType = kind.Prefixed
kind_of_two two.Module = kind.Plain
kind_of_two two.TypeParameter = kind.Plain
kind_of_two two.Parameter = kind.Plain
kind_of_two two.Named = kind.Plain
kind_of_two two.FieldPattern = kind.Plain
kind_of_two _ = kind.Node

-- whether the first of two children counts: it is no word, mark or name
abbrev pub first_of_two : TwoChildren → Bool
first_of_two two.Module = true
first_of_two two.Member = true
first_of_two two.TupleItem = true
first_of_two _ = false

-- whether the second of two children counts
abbrev pub second_of_two : TwoChildren → Bool
second_of_two two.Member = false
second_of_two two.TupleItem = false
second_of_two two.Qualified = false
second_of_two two.MutableName = false
second_of_two _ = true

-- whether a node of three children is an expression, a pattern or a type
abbrev pub is_node_of_three : ThreeChildren → Bool
is_node_of_three three.Import = false
is_node_of_three three.Constructor = false
is_node_of_three three.Block = false
is_node_of_three _ = true

-- whether the first of three children counts
abbrev pub first_of_three : ThreeChildren → Bool
first_of_three three.Assign = true
first_of_three three.Binary = true
first_of_three three.MemberCall = true
first_of_three _ = false

-- whether the second of three children counts
abbrev pub second_of_three : ThreeChildren → Bool
second_of_three three.Block = true
second_of_three three.While = true
second_of_three three.Match = true
second_of_three three.Pair = true
second_of_three three.PairPattern = true
second_of_three three.PairType = true
second_of_three _ = false

-- whether the third of three children counts
abbrev pub third_of_three : ThreeChildren → Bool
third_of_three three.Import = false
third_of_three three.Block = false
third_of_three _ = true

-- whether a node of four children is an expression, a pattern or a type
abbrev pub is_node_of_four : FourChildren → Bool
is_node_of_four four.If = true
is_node_of_four four.Triple = true
is_node_of_four four.TriplePattern = true
is_node_of_four four.TripleType = true
is_node_of_four _ = false

-- whether the second of four children counts: the first never does
abbrev pub second_of_four : FourChildren → Bool
second_of_four four.If = true
second_of_four four.Arm = true
second_of_four four.Triple = true
second_of_four four.TriplePattern = true
second_of_four four.TripleType = true
second_of_four _ = false

-- whether the third of four children counts: the fourth always does
abbrev pub third_of_four : FourChildren → Bool
third_of_four four.FieldDeclaration = false
third_of_four four.Trait = false
third_of_four four.Implementation = false
third_of_four _ = true

-- whether the fourth of five children counts: the fifth always does, and none before
abbrev pub fourth_of_five : FiveChildren → Bool
fourth_of_five five.Let = true
fourth_of_five five.TraitMethod = true
fourth_of_five _ = false
