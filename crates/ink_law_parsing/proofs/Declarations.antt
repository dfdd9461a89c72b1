-- Imports, declarations and their members, and the module.
use Rattle.std.proofs.Common.{◌≡◌, ◌⊎◌, ℕ, Bool, true, false, List, [], ◌∷◌, ◌++◌, Some, inl, inr, sym, subst, ◌∙◌, append-nil}
use Rattle.std.proofs.lemmas.List.{append_assoc}
use Rattle.ink_grammar.specs.declared.token.Keyword.TheVariants as keyword
use Rattle.ink_grammar.specs.declared.token.Mark.TheVariants as mark
use Rattle.ink_grammar.specs.declared.token.Shape.{Shape}
use Rattle.ink_grammar.specs.declared.token.Shape.TheVariants as shape
use Rattle.ink_grammar.specs.declared.token.Terminal.{Terminal}
use Rattle.ink_grammar.specs.declared.symbol.Nonterminal.{Nonterminal}
use Rattle.ink_grammar.specs.declared.tree.TwoChildren.TheVariants as two_of
use Rattle.ink_grammar.specs.declared.tree.ThreeChildren.TheVariants as three_of
use Rattle.ink_grammar.specs.declared.tree.FourChildren.TheVariants as four_of
use Rattle.ink_grammar.specs.declared.tree.FiveChildren.TheVariants as five_of
use Rattle.ink_grammar.specs.Shapes.{same}
use Rattle.ink_grammar.specs.Tree.{Tree, Leaf, Two, Three, Four, Five, Found, leaf, no_items, node_two, node_three, node_four, node_five}
use Rattle.ink_grammar.specs.Parts.{Module, Imports, Import, ImportPath, ImportNames, ImportName, ImportNamesRest, Declarations, Declaration, TypeForm, ObjectForm, ObjectMembers, EnumMembers, FieldDeclaration, Constructor, TraitMethods, TraitMethod, ImplementedTrait, OptionalAsync, Methods, Method, FullType, TypeParameters, TypeParameter, ConstructorTypes, ConstructorTypesRest}
use Rattle.ink_grammar.specs.Productions.{Is, is_module, is_imports_1, is_imports_2, is_import, is_import_path_1, is_import_path_2, is_import_names_1, is_import_names_2, is_import_name_1, is_import_name_2, is_import_names_rest_1, is_import_names_rest_2, is_import_names_more_2, is_declarations_1, is_declarations_2, is_declaration_1, is_declaration_2, is_declaration_3, is_declaration_4, is_type_form_1, is_type_form_2, is_type_form_3, is_object_form, is_object_members_1, is_object_members_2, is_object_members_3, is_enum_members_1, is_enum_members_2, is_enum_members_3, is_field_declaration, is_constructor, is_trait_methods_1, is_trait_methods_2, is_implemented_trait_1, is_implemented_trait_2, is_optional_async_1, is_optional_async_2, is_methods_1, is_methods_2, is_constructor_types_1, is_constructor_types_2, is_constructor_types_rest_1, is_constructor_types_rest_2, is_constructor_types_more_2}
use Rattle.ink_print.specs.declared.context.Context.TheVariants as context
use Rattle.ink_print.specs.declared.step.Piece.TheVariants as piece
use Rattle.ink_print.specs.declared.step.Sign.TheVariants as sign
use Rattle.ink_print.specs.declared.step.Step.TheVariants as step
use Rattle.ink_print.specs.Table.{first, second, third, fourth, first_as, second_as, third_as, fourth_as, fifth_as}
use Rattle.ink_print.specs.Printed.{printed}
use Rattle.ink_law_categories.specs.Spells.{Spells, a_sign}
use Rattle.ink_law_categories.specs.Spells as spells
use Rattle.ink_law_categories.specs.Alike as alike
use Rattle.ink_law_parsing.proofs.Steps.{Stepped, stop, put, last, next, two_children, three_children, four_children, five_children, step_two, step_three, step_four, step_five}
use Rattle.ink_law_parsing.proofs.Words.{has, has_sign, Kept, kept, TokenAt, token_at, word_read}
use Rattle.ink_law_parsing.proofs.Lists.{Each, EachOfSome, with_item, Perhaps, left_out, there, ReadAs, Items, item, Again, Behind, behind, sequence, listed, dots, widened, read_missing, parenthesised, import_parens, enclosed_or_none, body_of_each, lines_of_each, Reading}
use Rattle.ink_law_parsing.proofs.Types.{Typed, TypeItem, type_read}
use Rattle.ink_law_parsing.proofs.Methods.{WordsTree, PubKind, MutKind, AsyncKind, WordItem, word_item_read, type_parameters, mut_kind, async_kind, word_item}

-- the path of an import
abbrev IsName : Shape → Type 0
IsName y = y ≡ shape.Name

abbrev PathBehind : Found → List Terminal → Found → Type 0
PathBehind a us v = Is ImportPath (a ∷ []) us v

more_path : Again (WordItem IsName) PathBehind (shape.Mark mark.Dot)
more_path a t w y e (item (word_item u f) r) = is_import_path_1 t u _ _ e (has f) r

path_of : {source print : List ℕ} {line end : Bool} {s : ℕ} {a b : Tree} {us : List Terminal} → Each (Kept IsName) a → Kept IsName b → Stepped source print (two_children a b) line (first_as context.BeforeDot ∷ second ∷ []) us end
    → ReadAs source print (Items (WordItem IsName) PathBehind line no_items) (Two two_of.More s a b) us
path_of {source = source} {print = print} {line = line} e g (next h (last m)) = let r = sequence word_item_read (listed word_item_read (dots source print) more_path e h) g m in
    record { value = r.value; kind = subst (λ z. Items (WordItem IsName) PathBehind line no_items z r.value) (append-nil _) (r.kind [] r.value is_import_path_2); alike = r.alike }

path : {source print : List ℕ} {line end : Bool} {a : Tree} {us : List Terminal} → EachOfSome (Kept IsName) a → Spells source print line (printed a context.Dotted) us end → ReadAs source print (Items (WordItem IsName) PathBehind line no_items) a us
path (with_item {s = s} {a = a} {b = b} e g) h = path_of e g (step_two two_of.More s a b context.Dotted h)

-- the names of an import
abbrev pub ImportWord : Shape → Type 0
ImportWord y = (y ≡ shape.Name) ⊎ (y ≡ shape.Constant)

import_word : {u : Terminal} → ImportWord u.shape → Is ImportName [] (u ∷ []) (leaf u)
import_word {u = u} (inl e) = is_import_name_1 u (has e)
import_word {u = u} (inr e) = is_import_name_2 u (has e)

abbrev NamesBehind : Found → List Terminal → Found → Type 0
NamesBehind a us v = Is ImportNamesRest (a ∷ []) us v

more_names : Again (WordItem ImportWord) NamesBehind (shape.Mark mark.Comma)
more_names a t w y e (item (word_item u f) r) = is_import_names_rest_2 t _ _ e (is_import_names_more_2 _ _ _ _ (import_word f) r)

some_names : {x : Found} {w : List Terminal} (t : Terminal) → same (shape.Mark mark.LeftParen) t.shape ≡ true → Items (WordItem ImportWord) NamesBehind false no_items w x → Is ImportNames [] (t ∷ w) x
some_names t e (item (word_item u f) r) = is_import_names_1 t _ _ _ _ e (import_word f) r

all_names : (u : List Terminal) (v : Found) → Behind (shape.Mark mark.LeftParen) (WordItem ImportWord) NamesBehind u v → Is ImportNames [] u v
all_names u v (behind t e i) = some_names t e i

import_names : {source print : List ℕ} {line end : Bool} {a : Tree} {us : List Terminal} → Perhaps (EachOfSome (Kept ImportWord)) a → Spells source print line (printed a context.ImportNames) us end → ReadAs source print (Is ImportNames []) a us
import_names {source = source} {print = print} g h = enclosed_or_none word_item_read (import_parens source print) more_names (λ v t e. is_import_names_rest_1 t e) is_import_names_2 all_names g h

-- an import
import_kind : {line : Bool} {t : Terminal} {us ws : List Terminal} {v x : Found} → same (shape.Keyword keyword.Import) t.shape ≡ true → Items (WordItem IsName) PathBehind line no_items us v → Is ImportNames [] ws x → Is Import [] (t ∷ (us ++ ws)) (node_three three_of.Import (leaf t) v x)
import_kind {t = t} e (item (word_item u f) r) k = is_import t u _ _ _ _ e (has f) r k

import_of : {source print : List ℕ} {line mid last : Bool} {s : ℕ} {a b c : Tree} {us ws zs : List Terminal} → TokenAt source print (λ y. y ≡ shape.Keyword keyword.Import) line a us mid → ReadAs source print (Items (WordItem IsName) PathBehind last no_items) b ws → ReadAs source print (Is ImportNames []) c zs
    → ReadAs source print (Is Import []) (Three three_of.Import s a b c) (us ++ (ws ++ zs))
import_of (token_at {u = u} n h e) p q = record { value = node_three three_of.Import (leaf u) p.value q.value; kind = import_kind (has e) p.kind q.kind; alike = alike.three (alike.token h) p.alike q.alike }

imported : {source print : List ℕ} {line end : Bool} {s : ℕ} {a b c : Tree} {us : List Terminal} → Kept (λ y. y ≡ shape.Keyword keyword.Import) a → EachOfSome (Kept IsName) b → Perhaps (EachOfSome (Kept ImportWord)) c
    → Stepped source print (three_children a b c) line (first ∷ second_as context.Dotted ∷ third_as context.ImportNames ∷ []) us end → ReadAs source print (Is Import []) (Three three_of.Import s a b c) us
imported f g k (next h (next m (last o))) = import_of (word_read f h) (path g m) (import_names k o)

pub import_form : {source print : List ℕ} {s : ℕ} {a b c : Tree} → Kept (λ y. y ≡ shape.Keyword keyword.Import) a → EachOfSome (Kept (λ y. y ≡ shape.Name)) b → Perhaps (EachOfSome (Kept ImportWord)) c → Reading source print (Is Import []) (Three three_of.Import s a b c)
import_form {s = s} {a = a} {b = b} {c = c} f g k line end us h = imported f g k (step_three three_of.Import s a b c context.Expression h)

-- members
abbrev pub ObjectKind : List Terminal → Found → Type 0
ObjectKind us v = Is FieldDeclaration [] us v ⊎ Is Method [] us v

abbrev pub EnumKind : List Terminal → Found → Type 0
EnumKind us v = Is Constructor [] us v ⊎ Is Method [] us v

abbrev Member : (List Terminal → Found → Type 0) → Bool → List Terminal → Found → Type 0
Member K line us v = K us v

abbrev Members : Nonterminal → Found → List Terminal → Found → Type 0
Members n a us v = Is n (a ∷ []) us v

member_read : {source print : List ℕ} {K : List Terminal → Found → Type 0} (b : Tree) (line end : Bool) (us : List Terminal) → Reading source print K b → Spells source print line (printed b context.Expression) us end → ReadAs source print K b us
member_read b line end us g h = g line end us h

object_members : {line : Bool} (a : Found) (w : List Terminal) (y : Found) → Items (Member ObjectKind) (Members ObjectMembers) line a w y → Is ObjectMembers (a ∷ []) w y
object_members a w y (item (inl p) r) = is_object_members_1 _ _ _ _ p r
object_members a w y (item (inr p) r) = is_object_members_2 _ _ _ _ p r

enum_members : {line : Bool} (a : Found) (w : List Terminal) (y : Found) → Items (Member EnumKind) (Members EnumMembers) line a w y → Is EnumMembers (a ∷ []) w y
enum_members a w y (item (inl p) r) = is_enum_members_1 _ _ _ _ p r
enum_members a w y (item (inr p) r) = is_enum_members_2 _ _ _ _ p r

trait_methods : {line : Bool} (a : Found) (w : List Terminal) (y : Found) → Items (Member (Is TraitMethod [])) (Members TraitMethods) line a w y → Is TraitMethods (a ∷ []) w y
trait_methods a w y (item p r) = is_trait_methods_1 _ _ _ _ p r

methods : {line : Bool} (a : Found) (w : List Terminal) (y : Found) → Items (Member (Is Method [])) (Members Methods) line a w y → Is Methods (a ∷ []) w y
methods a w y (item p r) = is_methods_1 _ _ _ _ p r

object_body : {source print : List ℕ} {line end : Bool} {a : Tree} {us : List Terminal} → Each (Reading source print ObjectKind) a → Spells source print line (printed a context.Body) us end → ReadAs source print (Is ObjectMembers (no_items ∷ [])) a us
object_body g h = body_of_each (member_read {K = ObjectKind}) object_members (λ v. is_object_members_3) is_object_members_3 (object_members no_items) g h

enum_body : {source print : List ℕ} {line end : Bool} {a : Tree} {us : List Terminal} → Each (Reading source print EnumKind) a → Spells source print line (printed a context.Body) us end → ReadAs source print (Is EnumMembers (no_items ∷ [])) a us
enum_body g h = body_of_each (member_read {K = EnumKind}) enum_members (λ v. is_enum_members_3) is_enum_members_3 (enum_members no_items) g h

trait_body : {source print : List ℕ} {line end : Bool} {a : Tree} {us : List Terminal} → Each (Reading source print (Is TraitMethod [])) a → Spells source print line (printed a context.Body) us end → ReadAs source print (Is TraitMethods (no_items ∷ [])) a us
trait_body g h = body_of_each (member_read {K = Is TraitMethod []}) trait_methods (λ v. is_trait_methods_2) is_trait_methods_2 (trait_methods no_items) g h

method_body : {source print : List ℕ} {line end : Bool} {a : Tree} {us : List Terminal} → Each (Reading source print (Is Method [])) a → Spells source print line (printed a context.Body) us end → ReadAs source print (Is Methods (no_items ∷ [])) a us
method_body g h = body_of_each (member_read {K = Is Method []}) methods (λ v. is_methods_2) is_methods_2 (methods no_items) g h

-- a field
field_kind : {t u : Terminal} {us ws : List Terminal} {v x : Found} (c : Terminal) → same (shape.Keyword keyword.Let) t.shape ≡ true → MutKind us v → same shape.Field u.shape ≡ true → same (shape.Mark mark.Colon) c.shape ≡ true → Is FullType [] ws x
    → Is FieldDeclaration [] (t ∷ (us ++ (u ∷ (c ∷ ws)))) (node_four four_of.FieldDeclaration (leaf t) v (leaf u) x)
field_kind {t = t} {u = u} {ws = ps} {v = y} {x = x} c e (mut_kind {us = us} {ws = ws} a b) f g k =
    subst (λ z. Is FieldDeclaration [] (t ∷ z) (node_four four_of.FieldDeclaration (leaf t) y (leaf u) x)) (sym (append_assoc us ws (u ∷ (c ∷ ps)))) (is_field_declaration t us _ ws y u c ps x e a b f g k)

field_of : {source print : List ℕ} {line mid last next : Bool} {s : ℕ} {a b c d : Tree} {us ws zs qs : List Terminal} (t : Terminal) → TokenAt source print (λ y. y ≡ shape.Keyword keyword.Let) line a us mid → ReadAs source print MutKind b ws → TokenAt source print (λ y. y ≡ shape.Field) last c zs next
    → Some (shape.Mark mark.Colon) ≡ Some t.shape → ReadAs source print (Is FullType []) d qs → ReadAs source print ObjectKind (Four four_of.FieldDeclaration s a b c d) (us ++ (ws ++ (zs ++ (t ∷ qs))))
field_of c (token_at {u = t} n h e) p (token_at {u = u} m i f) g r = record { value = node_four four_of.FieldDeclaration (leaf t) p.value (leaf u) r.value; kind = inl (field_kind c (has e) p.kind (has f) (has_sign g) r.kind); alike = alike.four (alike.token h) p.alike (alike.token i) r.alike }

field : {source print : List ℕ} {line end : Bool} {s : ℕ} {a b c d : Tree} {us : List Terminal} → Kept (λ y. y ≡ shape.Keyword keyword.Let) a → WordsTree source print MutKind b → Kept (λ y. y ≡ shape.Field) c → Typed source print d
    → Stepped source print (four_children a b c d) line (first ∷ second_as context.Words ∷ third ∷ step.Sign sign.Colon ∷ fourth ∷ []) us end → ReadAs source print ObjectKind (Four four_of.FieldDeclaration s a b c d) us
field f g k l (next h (next m (next o (put n e (last q))))) = field_of _ (word_read f h) (g _ _ _ m) (word_read k o) e (l.plain _ _ _ q)

pub field_declaration_form : {source print : List ℕ} {s : ℕ} {a b c d : Tree} → Kept (λ y. y ≡ shape.Keyword keyword.Let) a → WordsTree source print MutKind b → Kept (λ y. y ≡ shape.Field) c → Typed source print d → Reading source print ObjectKind (Four four_of.FieldDeclaration s a b c d)
field_declaration_form {s = s} {a = a} {b = b} {c = c} {d = d} f g k l line end us h = field f g k l (step_four four_of.FieldDeclaration s a b c d context.Expression h)

pub object_method_form : {source print : List ℕ} {a : Tree} → Reading source print (Is Method []) a → Reading source print ObjectKind a
object_method_form g line end us h = widened (λ u v k. inr k) (g line end us h)

pub enum_method_form : {source print : List ℕ} {a : Tree} → Reading source print (Is Method []) a → Reading source print EnumKind a
enum_method_form g line end us h = widened (λ u v k. inr k) (g line end us h)

-- a constructor
abbrev TypesBehind : Found → List Terminal → Found → Type 0
TypesBehind a us v = Is ConstructorTypesRest (a ∷ []) us v

more_types : Again TypeItem TypesBehind (shape.Mark mark.Comma)
more_types a t w y e (item p r) = is_constructor_types_rest_2 t _ _ e (is_constructor_types_more_2 _ _ _ _ p r)

some_types : {x : Found} {w : List Terminal} (t : Terminal) → same (shape.Mark mark.LeftParen) t.shape ≡ true → Items TypeItem TypesBehind false no_items w x → Is ConstructorTypes [] (t ∷ w) x
some_types t e (item p r) = is_constructor_types_1 t _ _ _ _ e p r

all_types : (u : List Terminal) (v : Found) → Behind (shape.Mark mark.LeftParen) TypeItem TypesBehind u v → Is ConstructorTypes [] u v
all_types u v (behind t e i) = some_types t e i

constructor_types : {source print : List ℕ} {line end : Bool} {a : Tree} {us : List Terminal} → Perhaps (EachOfSome (Typed source print)) a → Spells source print line (printed a context.Parenthesised) us end → ReadAs source print (Is ConstructorTypes []) a us
constructor_types {source = source} {print = print} g h = enclosed_or_none type_read (parenthesised source print) more_types (λ v t e. is_constructor_types_rest_1 t e) is_constructor_types_2 all_types g h

constructor_of : {source print : List ℕ} {line mid last : Bool} {s : ℕ} {a b c : Tree} {us ws zs : List Terminal} → TokenAt source print (λ y. y ≡ shape.Keyword keyword.Case) line a us mid → TokenAt source print (λ y. y ≡ shape.Constant) mid b ws last → ReadAs source print (Is ConstructorTypes []) c zs
    → ReadAs source print EnumKind (Three three_of.Constructor s a b c) (us ++ (ws ++ zs))
constructor_of (token_at {u = t} n h e) (token_at {u = u} m i f) r = record { value = node_three three_of.Constructor (leaf t) (leaf u) r.value; kind = inl (is_constructor t u _ _ (has e) (has f) r.kind); alike = alike.three (alike.token h) (alike.token i) r.alike }

constructor : {source print : List ℕ} {line end : Bool} {s : ℕ} {a b c : Tree} {us : List Terminal} → Kept (λ y. y ≡ shape.Keyword keyword.Case) a → Kept (λ y. y ≡ shape.Constant) b → Perhaps (EachOfSome (Typed source print)) c
    → Stepped source print (three_children a b c) line (first ∷ second ∷ third_as context.Parenthesised ∷ []) us end → ReadAs source print EnumKind (Three three_of.Constructor s a b c) us
constructor f g k (next h (next m (last o))) = constructor_of (word_read f h) (word_read g m) (constructor_types k o)

pub constructor_form : {source print : List ℕ} {s : ℕ} {a b c : Tree} → Kept (λ y. y ≡ shape.Keyword keyword.Case) a → Kept (λ y. y ≡ shape.Constant) b → Perhaps (EachOfSome (Typed source print)) c → Reading source print EnumKind (Three three_of.Constructor s a b c)
constructor_form {s = s} {a = a} {b = b} {c = c} f g k line end us h = constructor f g k (step_three three_of.Constructor s a b c context.Expression h)

-- a type with fields
type_behind : {a v0 v1 x : Found} {ws zs : List Terminal} → Is OptionalAsync (v0 ∷ []) ws v1 → Is ObjectForm (v1 ∷ a ∷ []) zs x → Is TypeForm (v0 ∷ a ∷ []) (ws ++ zs) x
type_behind (is_optional_async_1 t e) k = is_type_form_2 t _ _ e k
type_behind is_optional_async_2 k = is_type_form_3 _ _ k

type_kind : {t : Terminal} {us zs : List Terminal} {v x : Found} → same (shape.Keyword keyword.Type) t.shape ≡ true → AsyncKind us v → Is ObjectForm (v ∷ leaf t ∷ []) zs x → Is Declaration [] (t ∷ (us ++ zs)) x
type_kind {t = t} {zs = zs} {x = x} e (async_kind {us = us} {ws = ws} a b) k = subst (λ z. Is Declaration [] (t ∷ z) x) (sym (append_assoc us ws zs)) (is_declaration_1 t us _ (ws ++ zs) x e a (type_behind b k))

type_of : {source print : List ℕ} {line mid last next : Bool} {s : ℕ} {a b c d e : Tree} {us ws zs qs ps : List Terminal} (t1 t2 : Terminal) → TokenAt source print (λ y. y ≡ shape.Keyword keyword.Type) line a us mid → ReadAs source print AsyncKind b ws → TokenAt source print (λ y. y ≡ shape.Constant) last c zs next
    → ReadAs source print (Is TypeParameters []) d qs → Some (shape.Mark mark.LeftBrace) ≡ Some t1.shape → ReadAs source print (Is ObjectMembers (no_items ∷ [])) e ps → Some (shape.Mark mark.RightBrace) ≡ Some t2.shape
    → ReadAs source print (Is Declaration []) (Five five_of.TypeDeclaration s a b c d e) (us ++ (ws ++ (zs ++ (qs ++ (t1 ∷ (ps ++ (t2 ∷ [])))))))
type_of t1 t2 (token_at {u = t} n h e) p (token_at {u = u} m i f) q g r k = record {
  value = node_five five_of.TypeDeclaration (leaf t) p.value (leaf u) q.value r.value;
  kind = type_kind (has e) p.kind (is_object_form u _ _ t1 _ _ t2 (has f) q.kind (has_sign g) r.kind (has_sign k));
  alike = alike.five (alike.token h) p.alike (alike.token i) q.alike r.alike;
}

type : {source print : List ℕ} {line end : Bool} {s : ℕ} {a b c d e : Tree} {us : List Terminal} → Kept (λ y. y ≡ shape.Keyword keyword.Type) a → WordsTree source print AsyncKind b → Kept (λ y. y ≡ shape.Constant) c → Perhaps (EachOfSome (Reading source print (Is TypeParameter []))) d → Each (Reading source print ObjectKind) e
    → Stepped source print (five_children a b c d e) line (first ∷ second_as context.Words ∷ third ∷ fourth_as context.Bracketed ∷ step.Sign sign.BlockOpening ∷ fifth_as context.Body ∷ step.Sign sign.BlockClosing ∷ []) us end → ReadAs source print (Is Declaration []) (Five five_of.TypeDeclaration s a b c d e) us
type f g k l j (next h (next m (next o (next p (put n e (next q (put r i stop))))))) = type_of _ _ (word_read f h) (g _ _ _ m) (word_read k o) (type_parameters l p) e (object_body j q) i

pub type_form : {source print : List ℕ} {s : ℕ} {a b c d e : Tree} → Kept (λ y. y ≡ shape.Keyword keyword.Type) a → WordsTree source print AsyncKind b → Kept (λ y. y ≡ shape.Constant) c → Perhaps (EachOfSome (Reading source print (Is TypeParameter []))) d → Each (Reading source print ObjectKind) e
    → Reading source print (Is Declaration []) (Five five_of.TypeDeclaration s a b c d e)
type_form {s = s} {a = a} {b = b} {c = c} {d = d} {e = e} f g k l j line end us h = type f g k l j (step_five five_of.TypeDeclaration s a b c d e context.Expression h)

-- a type with constructors
enum_of : {source print : List ℕ} {line mid last next : Bool} {s : ℕ} {a b c d e : Tree} {us ws zs qs ps : List Terminal} (t0 t1 t2 : Terminal) → TokenAt source print (λ y. y ≡ shape.Keyword keyword.Type) line a us mid → ReadAs source print PubKind b ws → Some (shape.Keyword keyword.Enum) ≡ Some t0.shape
    → TokenAt source print (λ y. y ≡ shape.Constant) last c zs next → ReadAs source print (Is TypeParameters []) d qs → Some (shape.Mark mark.LeftBrace) ≡ Some t1.shape → ReadAs source print (Is EnumMembers (no_items ∷ [])) e ps → Some (shape.Mark mark.RightBrace) ≡ Some t2.shape
    → ReadAs source print (Is Declaration []) (Five five_of.EnumDeclaration s a b c d e) (us ++ (ws ++ (t0 ∷ (zs ++ (qs ++ (t1 ∷ (ps ++ (t2 ∷ []))))))))
enum_of t0 t1 t2 (token_at {u = t} n h e) p o (token_at {u = u} m i f) q g r k = record {
  value = node_five five_of.EnumDeclaration (leaf t) p.value (leaf u) q.value r.value;
  kind = is_declaration_1 t _ _ _ _ (has e) p.kind (is_type_form_1 t0 u _ _ t1 _ _ t2 (has_sign o) (has f) q.kind (has_sign g) r.kind (has_sign k));
  alike = alike.five (alike.token h) p.alike (alike.token i) q.alike r.alike;
}

enum : {source print : List ℕ} {line end : Bool} {s : ℕ} {a b c d e : Tree} {us : List Terminal} → Kept (λ y. y ≡ shape.Keyword keyword.Type) a → WordsTree source print PubKind b → Kept (λ y. y ≡ shape.Constant) c → Perhaps (EachOfSome (Reading source print (Is TypeParameter []))) d → Each (Reading source print EnumKind) e
    → Stepped source print (five_children a b c d e) line (first ∷ second_as context.Words ∷ step.Sign sign.Enum ∷ third ∷ fourth_as context.Bracketed ∷ step.Sign sign.BlockOpening ∷ fifth_as context.Body ∷ step.Sign sign.BlockClosing ∷ []) us end
    → ReadAs source print (Is Declaration []) (Five five_of.EnumDeclaration s a b c d e) us
enum f g k l j (next h (next m (put x y (next o (next p (put n e (next q (put r i stop)))))))) = enum_of _ _ _ (word_read f h) (g _ _ _ m) y (word_read k o) (type_parameters l p) e (enum_body j q) i

pub enum_form : {source print : List ℕ} {s : ℕ} {a b c d e : Tree} → Kept (λ y. y ≡ shape.Keyword keyword.Type) a → WordsTree source print PubKind b → Kept (λ y. y ≡ shape.Constant) c → Perhaps (EachOfSome (Reading source print (Is TypeParameter []))) d → Each (Reading source print EnumKind) e
    → Reading source print (Is Declaration []) (Five five_of.EnumDeclaration s a b c d e)
enum_form {s = s} {a = a} {b = b} {c = c} {d = d} {e = e} f g k l j line end us h = enum f g k l j (step_five five_of.EnumDeclaration s a b c d e context.Expression h)

-- a trait
trait_of : {source print : List ℕ} {line mid last next : Bool} {s : ℕ} {a b c d : Tree} {us ws zs qs : List Terminal} (t1 t2 : Terminal) → TokenAt source print (λ y. y ≡ shape.Keyword keyword.Trait) line a us mid → ReadAs source print PubKind b ws → TokenAt source print (λ y. y ≡ shape.Constant) last c zs next
    → Some (shape.Mark mark.LeftBrace) ≡ Some t1.shape → ReadAs source print (Is TraitMethods (no_items ∷ [])) d qs → Some (shape.Mark mark.RightBrace) ≡ Some t2.shape → ReadAs source print (Is Declaration []) (Four four_of.Trait s a b c d) (us ++ (ws ++ (zs ++ (t1 ∷ (qs ++ (t2 ∷ []))))))
trait_of t1 t2 (token_at {u = t} n h e) p (token_at {u = u} m i f) g r k = record {
  value = node_four four_of.Trait (leaf t) p.value (leaf u) r.value;
  kind = is_declaration_2 t _ _ u t1 _ _ t2 (has e) p.kind (has f) (has_sign g) r.kind (has_sign k);
  alike = alike.four (alike.token h) p.alike (alike.token i) r.alike;
}

trait : {source print : List ℕ} {line end : Bool} {s : ℕ} {a b c d : Tree} {us : List Terminal} → Kept (λ y. y ≡ shape.Keyword keyword.Trait) a → WordsTree source print PubKind b → Kept (λ y. y ≡ shape.Constant) c → Each (Reading source print (Is TraitMethod [])) d
    → Stepped source print (four_children a b c d) line (first ∷ second_as context.Words ∷ third ∷ step.Sign sign.BlockOpening ∷ fourth_as context.Body ∷ step.Sign sign.BlockClosing ∷ []) us end → ReadAs source print (Is Declaration []) (Four four_of.Trait s a b c d) us
trait f g k l (next h (next m (next o (put n e (next q (put r i stop)))))) = trait_of _ _ (word_read f h) (g _ _ _ m) (word_read k o) e (trait_body l q) i

pub trait_form : {source print : List ℕ} {s : ℕ} {a b c d : Tree} → Kept (λ y. y ≡ shape.Keyword keyword.Trait) a → WordsTree source print PubKind b → Kept (λ y. y ≡ shape.Constant) c → Each (Reading source print (Is TraitMethod [])) d → Reading source print (Is Declaration []) (Four four_of.Trait s a b c d)
trait_form {s = s} {a = a} {b = b} {c = c} {d = d} f g k l line end us h = trait f g k l (step_four four_of.Trait s a b c d context.Expression h)

-- an implementation
implemented_of : {source print : List ℕ} {line end : Bool} {t : Terminal} {us : List Terminal} → t.shape ≡ shape.Constant → Spells source print line (piece.Sign sign.For ∷ piece.Token t ∷ []) us end → ReadAs source print (Is ImplementedTrait []) (Leaf t) us
implemented_of q (a_sign {u = f} n e (spells.token {u = u} m h spells.nothing)) = record { value = leaf u; kind = is_implemented_trait_1 f u (has_sign e) (has (h.shape ∙ q)); alike = alike.token h }

implemented : {source print : List ℕ} {line end : Bool} {a : Tree} {us : List Terminal} → Perhaps (Kept (λ y. y ≡ shape.Constant)) a → Spells source print line (printed a context.Implemented) us end → ReadAs source print (Is ImplementedTrait []) a us
unfolding printed
implemented left_out h = read_missing is_implemented_trait_2 h
implemented (there (kept q)) h = implemented_of q h

implementation_of : {source print : List ℕ} {line mid last : Bool} {s : ℕ} {a b c d : Tree} {us ws zs qs : List Terminal} (t1 t2 : Terminal) → TokenAt source print (λ y. y ≡ shape.Keyword keyword.Impl) line a us mid → TokenAt source print (λ y. y ≡ shape.Constant) mid b ws last → ReadAs source print (Is ImplementedTrait []) c zs
    → Some (shape.Mark mark.LeftBrace) ≡ Some t1.shape → ReadAs source print (Is Methods (no_items ∷ [])) d qs → Some (shape.Mark mark.RightBrace) ≡ Some t2.shape → ReadAs source print (Is Declaration []) (Four four_of.Implementation s a b c d) (us ++ (ws ++ (zs ++ (t1 ∷ (qs ++ (t2 ∷ []))))))
implementation_of t1 t2 (token_at {u = t} n h e) (token_at {u = u} m i f) p g r k = record {
  value = node_four four_of.Implementation (leaf t) (leaf u) p.value r.value;
  kind = is_declaration_3 t u _ _ t1 _ _ t2 (has e) (has f) p.kind (has_sign g) r.kind (has_sign k);
  alike = alike.four (alike.token h) (alike.token i) p.alike r.alike;
}

implementation : {source print : List ℕ} {line end : Bool} {s : ℕ} {a b c d : Tree} {us : List Terminal} → Kept (λ y. y ≡ shape.Keyword keyword.Impl) a → Kept (λ y. y ≡ shape.Constant) b → Perhaps (Kept (λ y. y ≡ shape.Constant)) c → Each (Reading source print (Is Method [])) d
    → Stepped source print (four_children a b c d) line (first ∷ second ∷ third_as context.Implemented ∷ step.Sign sign.BlockOpening ∷ fourth_as context.Body ∷ step.Sign sign.BlockClosing ∷ []) us end → ReadAs source print (Is Declaration []) (Four four_of.Implementation s a b c d) us
implementation f g k l (next h (next m (next o (put n e (next q (put r i stop)))))) = implementation_of _ _ (word_read f h) (word_read g m) (implemented k o) e (method_body l q) i

pub implementation_form : {source print : List ℕ} {s : ℕ} {a b c d : Tree} → Kept (λ y. y ≡ shape.Keyword keyword.Impl) a → Kept (λ y. y ≡ shape.Constant) b → Perhaps (Kept (λ y. y ≡ shape.Constant)) c → Each (Reading source print (Is Method [])) d
    → Reading source print (Is Declaration []) (Four four_of.Implementation s a b c d)
implementation_form {s = s} {a = a} {b = b} {c = c} {d = d} f g k l line end us h = implementation f g k l (step_four four_of.Implementation s a b c d context.Expression h)

pub module_method_form : {source print : List ℕ} {a : Tree} → Reading source print (Is Method []) a → Reading source print (Is Declaration []) a
module_method_form g line end us h = widened (λ u v k. is_declaration_4 u v k) (g line end us h)

-- a module
more_imports : {line : Bool} (a : Found) (w : List Terminal) (y : Found) → Items (Member (Is Import [])) (Members Imports) line a w y → Is Imports (a ∷ []) w y
more_imports a w y (item p r) = is_imports_1 _ _ _ _ p r

more_declarations : {line : Bool} (a : Found) (w : List Terminal) (y : Found) → Items (Member (Is Declaration [])) (Members Declarations) line a w y → Is Declarations (a ∷ []) w y
more_declarations a w y (item p r) = is_declarations_1 _ _ _ _ p r

imports : {source print : List ℕ} {line end : Bool} {a : Tree} {us : List Terminal} → Each (Reading source print (Is Import [])) a → Spells source print line (printed a context.Lines) us end → ReadAs source print (Is Imports (no_items ∷ [])) a us
imports g h = lines_of_each (member_read {K = Is Import []}) more_imports (λ v. is_imports_2) is_imports_2 (λ line u v i. more_imports no_items u v i) g h

declarations : {source print : List ℕ} {line end : Bool} {a : Tree} {us : List Terminal} → Each (Reading source print (Is Declaration [])) a → Spells source print line (printed a context.Lines) us end → ReadAs source print (Is Declarations (no_items ∷ [])) a us
declarations g h = lines_of_each (member_read {K = Is Declaration []}) more_declarations (λ v. is_declarations_2) is_declarations_2 (λ line u v i. more_declarations no_items u v i) g h

module_of : {source print : List ℕ} {line end : Bool} {s : ℕ} {a b : Tree} {us : List Terminal} → Each (Reading source print (Is Import [])) a → Each (Reading source print (Is Declaration [])) b → Stepped source print (two_children a b) line (first_as context.Lines ∷ second_as context.Lines ∷ []) us end
    → ReadAs source print (Is Module []) (Two two_of.Module s a b) us
module_of f g (next h (last m)) = let p = imports f h in let q = declarations g m in record { value = node_two two_of.Module p.value q.value; kind = is_module _ _ _ _ p.kind q.kind; alike = alike.two p.alike q.alike }

pub module_form : {source print : List ℕ} {s : ℕ} {a b : Tree} → Each (Reading source print (Is Import [])) a → Each (Reading source print (Is Declaration [])) b → Reading source print (Is Module []) (Two two_of.Module s a b)
module_form {s = s} {a = a} {b = b} f g line end us h = module_of f g (step_two two_of.Module s a b context.Expression h)
