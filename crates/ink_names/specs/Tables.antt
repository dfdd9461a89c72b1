-- What tables show.
use Rattle.std.specs.Prelude.{◌≡◌, ℕ, List, Option}
use Rattle.ink_names.specs.declared.methods.Named.{Named}
use Rattle.ink_names.specs.declared.kind.KindEntry.{KindEntry}
use Rattle.ink_names.specs.declared.methods.MethodEntry.{MethodEntry}
use Rattle.ink_names.specs.declared.methods.TraitEntry.{TraitEntry}
use Rattle.ink_names.specs.declared.methods.ImplEntry.{ImplEntry}
use Rattle.ink_names.specs.declared.tables.Tables.{Tables}
use Rattle.ink_names.specs.MethodNames.{named}
use Rattle.ink_names.specs.Pairs.{number_of}

abbrev pub kinds : Tables → List KindEntry
kinds tables = tables.kinds.items

abbrev pub methods : Tables → List MethodEntry
methods tables = tables.methods.items

abbrev pub traits : Tables → List TraitEntry
traits tables = tables.traits.items

abbrev pub impls : Tables → List ImplEntry
impls tables = tables.impls.items

-- the place of a field of a type, and of a constructor of an enum, by its name
abbrev pub field : Tables → ℕ → ℕ → Option ℕ
field tables kind name = number_of tables.fields kind name

abbrev pub constructor : Tables → ℕ → ℕ → Option ℕ
constructor tables kind name = number_of tables.constructors kind name

-- the slot of a trait's method, by its name
abbrev pub slot : Tables → ℕ → ℕ → Option ℕ
slot tables number name = number_of tables.slots number name

-- what a name stands for among the methods of a type
abbrev pub method_named : Tables → ℕ → ℕ → Option Named
method_named tables kind name = named tables.named kind name

-- all but one kind of entries stays as it was
pub record SameButKinds (old new : Tables) : Type 0 where
  pub same_methods : new.methods ≡ old.methods
  pub same_traits : new.traits ≡ old.traits
  pub same_impls : new.impls ≡ old.impls
  pub same_fields : new.fields ≡ old.fields
  pub same_constructors : new.constructors ≡ old.constructors
  pub same_slots : new.slots ≡ old.slots
  pub same_named : new.named ≡ old.named

pub record SameButMethods (old new : Tables) : Type 0 where
  pub same_kinds : new.kinds ≡ old.kinds
  pub same_traits : new.traits ≡ old.traits
  pub same_impls : new.impls ≡ old.impls
  pub same_fields : new.fields ≡ old.fields
  pub same_constructors : new.constructors ≡ old.constructors
  pub same_slots : new.slots ≡ old.slots
  pub same_named : new.named ≡ old.named

pub record SameButTraits (old new : Tables) : Type 0 where
  pub same_kinds : new.kinds ≡ old.kinds
  pub same_methods : new.methods ≡ old.methods
  pub same_impls : new.impls ≡ old.impls
  pub same_fields : new.fields ≡ old.fields
  pub same_constructors : new.constructors ≡ old.constructors
  pub same_slots : new.slots ≡ old.slots
  pub same_named : new.named ≡ old.named

pub record SameButImpls (old new : Tables) : Type 0 where
  pub same_kinds : new.kinds ≡ old.kinds
  pub same_methods : new.methods ≡ old.methods
  pub same_traits : new.traits ≡ old.traits
  pub same_fields : new.fields ≡ old.fields
  pub same_constructors : new.constructors ≡ old.constructors
  pub same_slots : new.slots ≡ old.slots
  pub same_named : new.named ≡ old.named

pub record SameButFields (old new : Tables) : Type 0 where
  pub same_kinds : new.kinds ≡ old.kinds
  pub same_methods : new.methods ≡ old.methods
  pub same_traits : new.traits ≡ old.traits
  pub same_impls : new.impls ≡ old.impls
  pub same_constructors : new.constructors ≡ old.constructors
  pub same_slots : new.slots ≡ old.slots
  pub same_named : new.named ≡ old.named

pub record SameButConstructors (old new : Tables) : Type 0 where
  pub same_kinds : new.kinds ≡ old.kinds
  pub same_methods : new.methods ≡ old.methods
  pub same_traits : new.traits ≡ old.traits
  pub same_impls : new.impls ≡ old.impls
  pub same_fields : new.fields ≡ old.fields
  pub same_slots : new.slots ≡ old.slots
  pub same_named : new.named ≡ old.named

pub record SameButSlots (old new : Tables) : Type 0 where
  pub same_kinds : new.kinds ≡ old.kinds
  pub same_methods : new.methods ≡ old.methods
  pub same_traits : new.traits ≡ old.traits
  pub same_impls : new.impls ≡ old.impls
  pub same_fields : new.fields ≡ old.fields
  pub same_constructors : new.constructors ≡ old.constructors
  pub same_named : new.named ≡ old.named

pub record SameButNamed (old new : Tables) : Type 0 where
  pub same_kinds : new.kinds ≡ old.kinds
  pub same_methods : new.methods ≡ old.methods
  pub same_traits : new.traits ≡ old.traits
  pub same_impls : new.impls ≡ old.impls
  pub same_fields : new.fields ≡ old.fields
  pub same_constructors : new.constructors ≡ old.constructors
  pub same_slots : new.slots ≡ old.slots
