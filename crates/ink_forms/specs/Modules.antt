-- Declarations, with the trees of what they declare.
use Rattle.std.specs.Prelude.{ℕ, Bool, List, Option, Some, None, map}
use Rattle.ink_forms.specs.declared.arena.Arena.{Arena}
use Rattle.ink_forms.specs.declared.word.Identifier.{Identifier}
use Rattle.ink_forms.specs.declared.method.Mode.{Mode}
use Rattle.ink_forms.specs.declared.declaration.TypeForm.{TypeForm}
use Rattle.ink_forms.specs.declared.declaration.Import.{Import}
use Rattle.ink_forms.specs.declared.declaration.TypeParameter.{TypeParameter}
use Rattle.ink_forms.specs.declared.declaration.TypeDeclaration.{TypeDeclaration}
use Rattle.ink_forms.specs.declared.declaration.Member.{Member}
use Rattle.ink_forms.specs.declared.declaration.Member.TheVariants as m
use Rattle.ink_forms.specs.declared.declaration.Field.{Field}
use Rattle.ink_forms.specs.declared.declaration.Constructor.{Constructor}
use Rattle.ink_forms.specs.declared.declaration.MethodDeclaration.{MethodDeclaration}
use Rattle.ink_forms.specs.declared.declaration.TraitMethod.{TraitMethod}
use Rattle.ink_forms.specs.declared.declaration.Trait.{Trait}
use Rattle.ink_forms.specs.declared.declaration.Implementation.{Implementation}
use Rattle.ink_forms.specs.declared.declaration.Declaration.{Declaration}
use Rattle.ink_forms.specs.declared.declaration.Declaration.TheVariants as d
use Rattle.ink_forms.specs.declared.declaration.Declarations.{Declarations}
use Rattle.ink_forms.specs.Trees.{Written, ParameterTree, MethodTree}
use Rattle.ink_forms.specs.Views as view

pub record ImportTree : Type 0 where
  pub start : ℕ
  pub path : List Identifier
  pub names : List Identifier

pub record TypeParameterTree : Type 0 where
  pub name : Identifier
  pub bounds : List Identifier

pub record FieldTree : Type 0 where
  pub start : ℕ
  pub is_public : Bool
  pub is_mutable : Bool
  pub name : Identifier
  pub annotation : Written

pub record ConstructorTree : Type 0 where
  pub start : ℕ
  pub name : Identifier
  pub types : List Written

pub record MethodDeclarationTree : Type 0 where
  pub is_public : Bool
  pub name : Identifier
  pub type_parameters : List TypeParameterTree
  pub result : Option Written
  pub method : MethodTree

pub data MemberTree : Type 0 where
  AField : FieldTree → MemberTree
  AConstructor : ConstructorTree → MemberTree
  AMethod : MethodDeclarationTree → MemberTree

pub record TypeTree : Type 0 where
  pub start : ℕ
  pub form : TypeForm
  pub is_public : Bool
  pub name : Identifier
  pub parameters : List TypeParameterTree
  pub members : List MemberTree

pub record TraitMethodTree : Type 0 where
  pub start : ℕ
  pub is_public : Bool
  pub mode : Mode
  pub name : Identifier
  pub parameters : List ParameterTree
  pub result : Option Written

pub record TraitTree : Type 0 where
  pub start : ℕ
  pub is_public : Bool
  pub name : Identifier
  pub methods : List TraitMethodTree

pub record ImplementationTree : Type 0 where
  pub start : ℕ
  pub of_trait : Option Identifier
  pub name : Identifier
  pub methods : List MethodDeclarationTree

pub data DeclarationTree : Type 0 where
  AType : TypeTree → DeclarationTree
  ATrait : TraitTree → DeclarationTree
  AnImplementation : ImplementationTree → DeclarationTree
  AFunction : MethodDeclarationTree → DeclarationTree

pub record ModuleTree : Type 0 where
  pub imports : List ImportTree
  pub declarations : List DeclarationTree

-- what declarations show over an arena
abbrev pub written_option : Arena → Option ℕ → Option Written
written_option a None = None
written_option a (Some t) = Some (view.written a t)

abbrev pub import_tree : Import → ImportTree
import_tree x = record { start = x.start; path = x.path.items; names = x.names.items }

abbrev pub type_parameter : TypeParameter → TypeParameterTree
type_parameter x = record { name = x.name; bounds = x.bounds.items }

abbrev pub field : Arena → Field → FieldTree
field a x =
    record { start = x.start; is_public = x.is_public; is_mutable = x.is_mutable; name = x.name; annotation = view.written a x.annotation }

abbrev pub constructor : Arena → Constructor → ConstructorTree
constructor a x = record { start = x.start; name = x.name; types = map (view.written a) x.types.items }

abbrev pub method : Arena → MethodDeclaration → MethodDeclarationTree
method a x =
    record {
      is_public = x.is_public;
      name = x.name;
      type_parameters = map type_parameter x.type_parameters.items;
      result = written_option a x.result;
      method = view.method a x.method;
    }

abbrev pub member : Arena → Member → MemberTree
member a (m.Field x) = AField (field a x)
member a (m.Constructor x) = AConstructor (constructor a x)
member a (m.Method x) = AMethod (method a x)

abbrev pub type_tree : Arena → TypeDeclaration → TypeTree
type_tree a x =
    record {
      start = x.start;
      form = x.form;
      is_public = x.is_public;
      name = x.name;
      parameters = map type_parameter x.parameters.items;
      members = map (member a) x.members.items;
    }

abbrev pub trait_method : Arena → TraitMethod → TraitMethodTree
trait_method a x =
    record {
      start = x.start;
      is_public = x.is_public;
      mode = x.mode;
      name = x.name;
      parameters = map (view.parameter a) x.parameters.items;
      result = written_option a x.result;
    }

abbrev pub trait_tree : Arena → Trait → TraitTree
trait_tree a x = record { start = x.start; is_public = x.is_public; name = x.name; methods = map (trait_method a) x.methods.items }

abbrev pub implementation : Arena → Implementation → ImplementationTree
implementation a x = record { start = x.start; of_trait = x.of_trait; name = x.name; methods = map (method a) x.methods.items }

abbrev pub declaration : Arena → Declaration → DeclarationTree
declaration a (d.Type x) = AType (type_tree a x)
declaration a (d.Trait x) = ATrait (trait_tree a x)
declaration a (d.Implementation x) = AnImplementation (implementation a x)
declaration a (d.Method x) = AFunction (method a x)

abbrev pub module_tree : Arena → Declarations → ModuleTree
module_tree a x = record { imports = map import_tree x.imports.items; declarations = map (declaration a) x.declarations.items }
