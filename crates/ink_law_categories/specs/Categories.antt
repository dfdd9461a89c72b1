-- Which trees are what: the trees of each category, by cases, whatever the source was laid out like.
use Rattle.std.specs.Prelude.{◌≡◌, ◌⊎◌, ℕ, Bool, true, false, List}
use Rattle.ink_grammar.specs.declared.token.Keyword.TheVariants as keyword
use Rattle.ink_grammar.specs.declared.token.Mark.TheVariants as mark
use Rattle.ink_grammar.specs.declared.token.Shape.{Shape}
use Rattle.ink_grammar.specs.declared.token.Shape.TheVariants as shape
use Rattle.ink_grammar.specs.declared.token.Terminal.{Terminal}
use Rattle.ink_grammar.specs.declared.symbol.Wanted.{Wanted}
use Rattle.ink_grammar.specs.declared.symbol.Wanted.TheVariants as wanted
use Rattle.ink_grammar.specs.declared.tree.OneChild.TheVariants as one_of
use Rattle.ink_grammar.specs.declared.tree.TwoChildren.TheVariants as two_of
use Rattle.ink_grammar.specs.declared.tree.ThreeChildren.TheVariants as three_of
use Rattle.ink_grammar.specs.declared.tree.FourChildren.TheVariants as four_of
use Rattle.ink_grammar.specs.declared.tree.FiveChildren.TheVariants as five_of
use Rattle.ink_grammar.specs.Tree.{Tree, Missing, Leaf, Empty, One, Two, Three, Four, Five}
use Rattle.ink_law_categories.specs.Written.{IsToken, IsWanted, IsQuote, IsPartOf}

-- What a tree can be.
pub data Category : Type 0 where
  -- a kept token of a shape, one that is wanted so, and an opening or closing bracket
  Word : Shape → Category
  Wants : Wanted → Category
  Bracket : Shape → Category
  -- a list, one with an item at least, and something or nothing
  ListOf : Category → Category
  SomeOf : Category → Category
  Maybe : Category → Category
  -- imports, declarations and their members
  Module : Category
  Import : Category
  ImportName : Category
  Declaration : Category
  ObjectMember : Category
  EnumMember : Category
  Method : Category
  Signature : Category
  TraitMethod : Category
  Parameter : Category
  TypeParameter : Category
  -- the words behind `let`, `type`, `fn` and `trait`
  PubWord : Category
  PubMutWords : Category
  PubAsyncWords : Category
  MethodWords : Category
  TraitMethodWords : Category
  -- types
  FullType : Category
  BareType : Category
  -- blocks, statements and expressions
  Block : Category
  Statement : Category
  LetName : Category
  Place : Category
  Expression : Category
  -- an expression that counts as a statement: a condition, a value, the right operand of `and` or `or`
  Counted : Category
  Recovered : Category
  Branch : Category
  Conditional : Category
  Arm : Category
  ArmValue : Category
  -- what may stand between a quote and what closes it: with its last item a part, or not
  TextItems : Terminal → Bool → Category
  PartItems : Terminal → Bool → Category
  Constructed : Category
  ConstructorArguments : Category
  Named : Category
  -- patterns
  Pattern : Category
  Alternative : Category
  FieldPattern : Category

-- a word of a method that isn't async: how `self` is taken
abbrev pub IsMethodKind : List ℕ → Terminal → Type 0
IsMethodKind source t = IsToken source (shape.Keyword keyword.Mut) t ⊎ IsToken source (shape.Keyword keyword.Move) t ⊎ IsToken source (shape.Keyword keyword.Static) t

-- the same in a trait
abbrev pub IsTraitMethodKind : List ℕ → Terminal → Type 0
IsTraitMethodKind source t = IsToken source (shape.Keyword keyword.Mut) t ⊎ IsToken source (shape.Keyword keyword.Move) t

-- A tree of a category. Where a node begins doesn't count.
pub data IsA (source : List ℕ) : Category → Tree → Type 0 where
  -- tokens
  word : {x : Shape} {t : Terminal} → IsToken source x t → IsA source (Word x) (Leaf t)
  wants : {w : Wanted} {t : Terminal} → IsWanted source w t → IsA source (Wants w) (Leaf t)
  bracket : {x : Shape} {t : Terminal} → t.shape ≡ x → IsA source (Bracket x) (Leaf t)
  -- lists, and what may be left out
  list_empty : {item : Category} → IsA source (ListOf item) Empty
  list_more : {item : Category} {s : ℕ} {a b : Tree} → IsA source (ListOf item) a → IsA source item b → IsA source (ListOf item) (Two two_of.More s a b)
  some_more : {item : Category} {s : ℕ} {a b : Tree} → IsA source (ListOf item) a → IsA source item b → IsA source (SomeOf item) (Two two_of.More s a b)
  maybe_missing : {category : Category} → IsA source (Maybe category) Missing
  maybe_there : {category : Category} {a : Tree} → IsA source category a → IsA source (Maybe category) a
  -- imports, declarations and their members
  a_module : {s : ℕ} {a b : Tree} → IsA source (ListOf Import) a → IsA source (ListOf Declaration) b → IsA source Module (Two two_of.Module s a b)
  an_import : {s : ℕ} {a b c : Tree} → IsA source (Word (shape.Keyword keyword.Import)) a → IsA source (SomeOf (Word shape.Name)) b → IsA source (Maybe (SomeOf ImportName)) c → IsA source Import (Three three_of.Import s a b c)
  import_name : {a : Tree} → IsA source (Word shape.Name) a → IsA source ImportName a
  import_constant : {a : Tree} → IsA source (Word shape.Constant) a → IsA source ImportName a
  a_type : {s : ℕ} {a b c d e : Tree} → IsA source (Word (shape.Keyword keyword.Type)) a → IsA source PubAsyncWords b → IsA source (Word shape.Constant) c → IsA source (Maybe (SomeOf TypeParameter)) d → IsA source (ListOf ObjectMember) e → IsA source Declaration (Five five_of.TypeDeclaration s a b c d e)
  an_enum : {s : ℕ} {a b c d e : Tree} → IsA source (Word (shape.Keyword keyword.Type)) a → IsA source PubWord b → IsA source (Word shape.Constant) c → IsA source (Maybe (SomeOf TypeParameter)) d → IsA source (ListOf EnumMember) e → IsA source Declaration (Five five_of.EnumDeclaration s a b c d e)
  a_trait : {s : ℕ} {a b c d : Tree} → IsA source (Word (shape.Keyword keyword.Trait)) a → IsA source PubWord b → IsA source (Word shape.Constant) c → IsA source (ListOf TraitMethod) d → IsA source Declaration (Four four_of.Trait s a b c d)
  an_implementation : {s : ℕ} {a b c d : Tree} → IsA source (Word (shape.Keyword keyword.Impl)) a → IsA source (Word shape.Constant) b → IsA source (Maybe (Word shape.Constant)) c → IsA source (ListOf Method) d → IsA source Declaration (Four four_of.Implementation s a b c d)
  a_module_method : {a : Tree} → IsA source Method a → IsA source Declaration a
  a_field : {s : ℕ} {a b c d : Tree} → IsA source (Word (shape.Keyword keyword.Let)) a → IsA source PubMutWords b → IsA source (Word shape.Field) c → IsA source FullType d → IsA source ObjectMember (Four four_of.FieldDeclaration s a b c d)
  an_object_method : {a : Tree} → IsA source Method a → IsA source ObjectMember a
  a_constructor : {s : ℕ} {a b c : Tree} → IsA source (Word (shape.Keyword keyword.Case)) a → IsA source (Word shape.Constant) b → IsA source (Maybe (SomeOf FullType)) c → IsA source EnumMember (Three three_of.Constructor s a b c)
  an_enum_method : {a : Tree} → IsA source Method a → IsA source EnumMember a
  a_method : {s : ℕ} {a b c d : Tree} → IsA source (Word (shape.Keyword keyword.Fn)) a → IsA source MethodWords b → IsA source Signature c → IsA source Block d → IsA source Method (Four four_of.Method s a b c d)
  a_signature : {s : ℕ} {a b c d : Tree} → IsA source (Word shape.Name) a → IsA source (Maybe (SomeOf TypeParameter)) b → IsA source (Maybe (ListOf Parameter)) c → IsA source (Maybe FullType) d → IsA source Signature (Four four_of.Signature s a b c d)
  a_trait_method : {s : ℕ} {a b c d e : Tree} → IsA source (Word (shape.Keyword keyword.Fn)) a → IsA source TraitMethodWords b → IsA source (Word shape.Name) c → IsA source (Maybe (ListOf Parameter)) d → IsA source (Maybe FullType) e → IsA source TraitMethod (Five five_of.TraitMethod s a b c d e)
  a_parameter : {s : ℕ} {a b : Tree} → IsA source (Word shape.Name) a → IsA source FullType b → IsA source Parameter (Two two_of.Parameter s a b)
  a_type_parameter : {s : ℕ} {a b : Tree} → IsA source (Word shape.Constant) a → IsA source (Maybe (SomeOf (Word shape.Constant))) b → IsA source TypeParameter (Two two_of.TypeParameter s a b)
  -- words behind `let`, `type`, `fn` and `trait`
  no_pub : IsA source PubWord Empty
  with_pub : {s : ℕ} {t : Terminal} → IsToken source (shape.Keyword keyword.Pub) t → IsA source PubWord (Two two_of.More s Empty (Leaf t))
  no_mut : {a : Tree} → IsA source PubWord a → IsA source PubMutWords a
  with_mut : {s : ℕ} {a : Tree} {t : Terminal} → IsA source PubWord a → IsToken source (shape.Keyword keyword.Mut) t → IsA source PubMutWords (Two two_of.More s a (Leaf t))
  no_async : {a : Tree} → IsA source PubWord a → IsA source PubAsyncWords a
  with_async : {s : ℕ} {a : Tree} {t : Terminal} → IsA source PubWord a → IsToken source (shape.Keyword keyword.Async) t → IsA source PubAsyncWords (Two two_of.More s a (Leaf t))
  no_kind : {a : Tree} → IsA source PubAsyncWords a → IsA source MethodWords a
  with_kind : {s : ℕ} {a : Tree} {t : Terminal} → IsA source PubAsyncWords a → IsMethodKind source t → IsA source MethodWords (Two two_of.More s a (Leaf t))
  no_trait_kind : {a : Tree} → IsA source PubWord a → IsA source TraitMethodWords a
  with_trait_kind : {s : ℕ} {a : Tree} {t : Terminal} → IsA source PubWord a → IsTraitMethodKind source t → IsA source TraitMethodWords (Two two_of.More s a (Leaf t))
  -- types
  a_prefixed_type : {s : ℕ} {a b : Tree} → IsA source (Wants wanted.TypePrefix) a → IsA source BareType b → IsA source FullType (Two two_of.PrefixedType s a b)
  a_plain_type : {a : Tree} → IsA source BareType a → IsA source FullType a
  a_named_type : {s : ℕ} {a b : Tree} → IsA source (Word shape.Constant) a → IsA source (Maybe (SomeOf FullType)) b → IsA source BareType (Two two_of.NamedType s a b)
  a_pair_type : {s : ℕ} {a b c : Tree} → IsA source (Bracket (shape.Mark mark.LeftParen)) a → IsA source FullType b → IsA source FullType c → IsA source BareType (Three three_of.PairType s a b c)
  a_triple_type : {s : ℕ} {a b c d : Tree} → IsA source (Bracket (shape.Mark mark.LeftParen)) a → IsA source FullType b → IsA source FullType c → IsA source FullType d → IsA source BareType (Four four_of.TripleType s a b c d)
  -- blocks and statements
  a_block : {s : ℕ} {a b c : Tree} → IsA source (Bracket (shape.Mark mark.LeftBrace)) a → IsA source (ListOf Statement) b → IsA source (Bracket (shape.Mark mark.RightBrace)) c → IsA source Block (Three three_of.Block s a b c)
  a_let : {s : ℕ} {a b c d e : Tree} → IsA source (Word (shape.Keyword keyword.Let)) a → IsA source (Maybe (Word (shape.Keyword keyword.Mut))) b → IsA source LetName c → IsA source (Maybe FullType) d → IsA source Expression e → IsA source Statement (Five five_of.Let s a b c d e)
  a_value_statement : {s : ℕ} {a : Tree} → IsA source Expression a → IsA source Statement (One one_of.Statement s a)
  a_let_name : {a : Tree} → IsA source (Word shape.Name) a → IsA source LetName a
  a_let_underscore : {a : Tree} → IsA source (Word shape.Underscore) a → IsA source LetName a
  a_counted : {s : ℕ} {a : Tree} → IsA source Expression a → IsA source Counted (One one_of.Statement s a)
  -- jumps, assignments and chains
  a_return : {s : ℕ} {a b : Tree} → IsA source (Word (shape.Keyword keyword.Return)) a → IsA source (Maybe Expression) b → IsA source Expression (Two two_of.Return s a b)
  a_throw : {s : ℕ} {a b : Tree} → IsA source (Word (shape.Keyword keyword.Throw)) a → IsA source Expression b → IsA source Expression (Two two_of.Throw s a b)
  a_loop_jump : {a : Tree} → IsA source (Wants wanted.LoopJump) a → IsA source Expression a
  an_assignment : {s : ℕ} {a b c : Tree} → IsA source Place a → IsA source (Wants wanted.Setter) b → IsA source Expression c → IsA source Expression (Three three_of.Assign s a b c)
  a_chain : {s : ℕ} {a b c : Tree} → IsA source Expression a → IsA source (Wants wanted.Operator) b → IsA source Expression c → IsA source Expression (Three three_of.Binary s a b c)
  a_logical_chain : {s : ℕ} {a b c : Tree} → IsA source Expression a → IsA source (Wants wanted.Logical) b → IsA source Counted c → IsA source Expression (Three three_of.Binary s a b c)
  a_place : {a : Tree} → IsA source Place a → IsA source Expression a
  a_place_name : {a : Tree} → IsA source (Word shape.Name) a → IsA source Place a
  a_place_field : {a : Tree} → IsA source (Word shape.Field) a → IsA source Place a
  a_member : {s : ℕ} {a b : Tree} → IsA source Expression a → IsA source (Wants wanted.LinkName) b → IsA source Place (Two two_of.Member s a b)
  -- operands
  a_borrow : {s : ℕ} {a b : Tree} → IsA source (Wants wanted.BorrowWord) a → IsA source Expression b → IsA source Expression (Two two_of.Borrow s a b)
  a_try : {s : ℕ} {a b : Tree} → IsA source (Word (shape.Keyword keyword.Try)) a → IsA source Expression b → IsA source Expression (Two two_of.Try s a b)
  a_recover : {s : ℕ} {a b : Tree} → IsA source (Word (shape.Keyword keyword.Recover)) a → IsA source Recovered b → IsA source Expression (Two two_of.Recover s a b)
  a_recovered_block : {a : Tree} → IsA source Block a → IsA source Recovered a
  a_recovered_value : {a : Tree} → IsA source Counted a → IsA source Recovered a
  a_member_call : {s : ℕ} {a b c : Tree} → IsA source Expression a → IsA source (Wants wanted.LinkName) b → IsA source (ListOf Expression) c → IsA source Expression (Three three_of.MemberCall s a b c)
  a_tuple_item : {s : ℕ} {a b : Tree} → IsA source Expression a → IsA source (Word shape.Integer) b → IsA source Expression (Two two_of.TupleItem s a b)
  -- primaries
  an_atom : {a : Tree} → IsA source (Wants wanted.Atom) a → IsA source Expression a
  a_text : {s : ℕ} {t : Terminal} {b : Tree} {ends : Bool} → t.shape ≡ shape.Quote → IsQuote source t → IsA source (TextItems t ends) b → IsA source Expression (Two two_of.Text s (Leaf t) b)
  a_call : {s : ℕ} {a b : Tree} → IsA source (Word shape.Name) a → IsA source (ListOf Expression) b → IsA source Expression (Two two_of.Call s a b)
  a_constructed : {a : Tree} → IsA source Constructed a → IsA source Expression a
  a_construction : {s : ℕ} {a b : Tree} → IsA source Constructed a → IsA source ConstructorArguments b → IsA source Expression (Two two_of.Construct s a b)
  a_constant : {a : Tree} → IsA source (Word shape.Constant) a → IsA source Constructed a
  a_qualified : {s : ℕ} {a b : Tree} → IsA source (Word shape.Constant) a → IsA source (Word shape.Constant) b → IsA source Constructed (Two two_of.Qualified s a b)
  unnamed_arguments : {a : Tree} → IsA source (ListOf Expression) a → IsA source ConstructorArguments a
  named_arguments : {a : Tree} → IsA source (SomeOf Named) a → IsA source ConstructorArguments a
  a_named : {s : ℕ} {a b : Tree} → IsA source (Word shape.Name) a → IsA source Expression b → IsA source Named (Two two_of.Named s a b)
  a_pair : {s : ℕ} {a b c : Tree} → IsA source (Bracket (shape.Mark mark.LeftParen)) a → IsA source Expression b → IsA source Expression c → IsA source Expression (Three three_of.Pair s a b c)
  a_triple : {s : ℕ} {a b c d : Tree} → IsA source (Bracket (shape.Mark mark.LeftParen)) a → IsA source Expression b → IsA source Expression c → IsA source Expression d → IsA source Expression (Four four_of.Triple s a b c d)
  an_array : {s : ℕ} {a b : Tree} → IsA source (Bracket (shape.Mark mark.LeftBracket)) a → IsA source (ListOf Expression) b → IsA source Expression (Two two_of.Array s a b)
  a_conditional : {a : Tree} → IsA source Conditional a → IsA source Expression a
  an_if : {s : ℕ} {a b c d : Tree} → IsA source (Word (shape.Keyword keyword.If)) a → IsA source Counted b → IsA source Block c → IsA source (Maybe Branch) d → IsA source Conditional (Four four_of.If s a b c d)
  a_block_branch : {a : Tree} → IsA source Block a → IsA source Branch a
  a_conditional_branch : {a : Tree} → IsA source Conditional a → IsA source Branch a
  a_while : {s : ℕ} {a b c : Tree} → IsA source (Word (shape.Keyword keyword.While)) a → IsA source Counted b → IsA source Block c → IsA source Expression (Three three_of.While s a b c)
  a_loop : {s : ℕ} {a b : Tree} → IsA source (Word (shape.Keyword keyword.Loop)) a → IsA source Block b → IsA source Expression (Two two_of.Loop s a b)
  a_match : {s : ℕ} {a b c : Tree} → IsA source (Word (shape.Keyword keyword.Match)) a → IsA source Counted b → IsA source (SomeOf Arm) c → IsA source Expression (Three three_of.Match s a b c)
  an_arm : {s : ℕ} {a b c d : Tree} → IsA source (Word (shape.Keyword keyword.Case)) a → IsA source Pattern b → IsA source (Maybe Counted) c → IsA source ArmValue d → IsA source Arm (Four four_of.Arm s a b c d)
  an_arm_block : {a : Tree} → IsA source Block a → IsA source ArmValue a
  an_arm_value : {a : Tree} → IsA source Counted a → IsA source ArmValue a
  -- what stands in a text: no part is followed by a part
  no_text : {quote : Terminal} → IsA source (TextItems quote false) Empty
  text_part : {quote : Terminal} {s : ℕ} {a : Tree} {t : Terminal} → IsA source (TextItems quote false) a → t.shape ≡ shape.TextPart → IsPartOf source quote t → IsA source (TextItems quote true) (Two two_of.More s a (Leaf t))
  text_value : {quote : Terminal} {ends : Bool} {s : ℕ} {a b : Tree} → IsA source (TextItems quote ends) a → IsA source Expression b → IsA source (TextItems quote false) (Two two_of.More s a b)
  no_pattern_text : {quote : Terminal} → IsA source (PartItems quote false) Empty
  pattern_text_part : {quote : Terminal} {s : ℕ} {a : Tree} {t : Terminal} → IsA source (PartItems quote false) a → t.shape ≡ shape.TextPart → IsPartOf source quote t → IsA source (PartItems quote true) (Two two_of.More s a (Leaf t))
  -- patterns
  an_alternative : {a : Tree} → IsA source Alternative a → IsA source Pattern a
  alternatives : {s : ℕ} {a b : Tree} → IsA source Pattern a → IsA source Alternative b → IsA source Pattern (Two two_of.Either s a b)
  a_pattern_atom : {a : Tree} → IsA source (Wants wanted.PatternAtom) a → IsA source Alternative a
  a_pattern_text : {s : ℕ} {t : Terminal} {b : Tree} {ends : Bool} → t.shape ≡ shape.Quote → IsQuote source t → IsA source (PartItems t ends) b → IsA source Alternative (Two two_of.Text s (Leaf t) b)
  a_mutable_name : {s : ℕ} {a b : Tree} → IsA source (Word (shape.Keyword keyword.Mut)) a → IsA source (Word shape.Name) b → IsA source Alternative (Two two_of.MutableName s a b)
  a_constant_pattern : {a : Tree} → IsA source (Word shape.Constant) a → IsA source Alternative a
  a_constructor_pattern : {s : ℕ} {a b : Tree} → IsA source (Word shape.Constant) a → IsA source (SomeOf Pattern) b → IsA source Alternative (Two two_of.ConstructorPattern s a b)
  a_pair_pattern : {s : ℕ} {a b c : Tree} → IsA source (Bracket (shape.Mark mark.LeftParen)) a → IsA source Pattern b → IsA source Pattern c → IsA source Alternative (Three three_of.PairPattern s a b c)
  a_triple_pattern : {s : ℕ} {a b c d : Tree} → IsA source (Bracket (shape.Mark mark.LeftParen)) a → IsA source Pattern b → IsA source Pattern c → IsA source Pattern d → IsA source Alternative (Four four_of.TriplePattern s a b c d)
  field_patterns : {s : ℕ} {a b : Tree} → IsA source (Bracket (shape.Mark mark.LeftBrace)) a → IsA source (SomeOf FieldPattern) b → IsA source Alternative (Two two_of.FieldPatterns s a b)
  a_field_pattern : {s : ℕ} {a b : Tree} → IsA source (Word shape.Field) a → IsA source Pattern b → IsA source FieldPattern (Two two_of.FieldPattern s a b)
